use Rattle.std.proofs.Common.{ap, sym, ◌∙◌}
use Rattle.std.proofs.lemmas.Result.{on_ok_weaker}
use Rattle.lar_rules.specs.Fault.{least}
use Rattle.lar_written.specs.Sites.{site_view}
use Rattle.lar_written.proofs.Fits.{early_unknown, early_generic, early_struct}
use Rattle.lar_written.proofs.named.note_begun.Goals as goal

pub returns-in-Unknown : goal.returns-in-Unknown
returns-in-Unknown c =
    on_ok_weaker c.note_unknown.result (λ e. λ t b. e ∙ early_unknown (site_view c.args.site.now) c.args.path.now t c.args.found c.args.first.now (sym b.name_is ∙ c.in-Unknown.is)) c.note_unknown.ensures

pub returns-in-Generic : goal.returns-in-Generic
returns-in-Generic c =
    on_ok_weaker c.fit_begun.result (λ e. λ t b. e ∙ ap (least c.args.first.now) (early_generic (site_view c.args.site.now) c.args.path.now t c.in-Generic.field-0 c.args.found (sym b.name_is ∙ c.in-Generic.is))) c.fit_begun.ensures

pub returns-in-Struct : goal.returns-in-Struct
returns-in-Struct c =
    on_ok_weaker c.fit_begun-in-Struct.result (λ e. λ t b. e ∙ ap (least c.args.first.now) (early_struct (site_view c.args.site.now) c.args.path.now t c.in-Struct.field-0 c.args.wanted c.args.found (sym b.name_is ∙ c.in-Struct.is) b.count)) c.fit_begun-in-Struct.ensures

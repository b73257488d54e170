use Rattle.std.proofs.Common.{◌≡◌, ap, sym, ◌∙◌, map, length, arith}
use Rattle.std.proofs.lemmas.List.{length-map}
use Rattle.lar_rules.specs.Fault.{least}
use Rattle.lar_written.specs.Given.{marks, given_view}
use Rattle.lar_written.specs.Sites.{site_view}
use Rattle.lar_written.proofs.Fits.{least_none, fitted_same, fitted_other, late_same, late_other}
use Rattle.lar_written.proofs.fitted.fit_ended.Goals as goal

pub returns-then-sorts-given-clause-of : goal.returns-then-sorts-given-clause-of
returns-then-sorts-given-clause-of c = record {
  within = tt;
  is = sym (fitted_other c.args.sorts.now (map (given_view c.args.types.now) c.args.given.now) (λ e. c.if-sorts-given.true (e ∙ length-map c.args.given.now (given_view c.args.types.now))));
}

pub returns-then-sorts-given-clause-told : goal.returns-then-sorts-given-clause-told
returns-then-sorts-given-clause-told c =
    least_none c.args.first.now ∙ ap (least c.args.first.now) (sym (late_other (site_view c.args.site.now) c.args.sorts.now (map marks c.args.given.now) (λ e. c.if-sorts-given.true (e ∙ length-map c.args.given.now marks))))

pub returns-clause-of : goal.returns-clause-of
returns-clause-of c = record {
  within = c.in_ok-of.ensures.of.within;
  is = c.in_ok-of.ensures.of.is ∙ sym (fitted_same c.args.sorts.now (map (given_view c.args.types.now) c.args.given.now) (c.if-sorts-given.false ∙ sym (length-map c.args.given.now (given_view c.args.types.now))));
}

pub returns-clause-told : goal.returns-clause-told
returns-clause-told c =
    c.in_ok-note_all_missorted.ensures ∙ ap (least c.args.first.now) (sym (late_same (site_view c.args.site.now) c.args.sorts.now (map marks c.args.given.now) (c.if-sorts-given.false ∙ sym (length-map c.args.given.now marks))))

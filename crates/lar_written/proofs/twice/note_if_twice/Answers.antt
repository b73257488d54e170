use Rattle.std.proofs.Common.{sym, ◌∙◌}
use Rattle.std.proofs.lemmas.Result.{on_ok_weaker}
use Rattle.lar_written.specs.Names.{names}
use Rattle.lar_written.proofs.NameLists.{twice_noted, twice_none}
use Rattle.lar_written.proofs.twice.note_if_twice.Goals as goal

pub returns-then-is_among : goal.returns-then-is_among
returns-then-is_among c =
    on_ok_weaker c.note_name.result (λ e. twice_noted c.args.file (names c.args.earlier.now) c.args.name.now c.args.first.now c.note_name.new.self (sym c.is_among.ensures ∙ c.if-is_among.true) e) c.note_name.ensures.ok

pub returns : goal.returns
returns c = twice_none c.args.file (names c.args.earlier.now) c.args.name.now c.args.first.now (sym c.is_among.ensures ∙ c.if-is_among.false)

use Rattle.std.proofs.Common.{◌∙◌, sym}
use Rattle.std.proofs.lemmas.Result.{on_ok_weaker}
use Rattle.type_table.specs.Rows.{type_at}
use Rattle.lar_judge.proofs.Misfits.{misfit_noted, misfit_none, misfit_faulty}
use Rattle.lar_judge.proofs.fit.misfit.Goals as goal

pub returns-in-None : goal.returns-in-None
returns-in-None c s h = misfit_faulty s (type_at c.args.types.now c.args.wanted) c.args.first.now c.args.types.now c.args.e.now c.in-None.is

pub returns-then-has_type : goal.returns-then-has_type
returns-then-has_type c s h = misfit_none s (type_at c.args.types.now c.args.wanted) c.args.first.now c.args.types.now c.args.e.now c.in-Some.x c.in-Some.is (sym c.has_type.ensures ∙ c.if-has_type.true)

pub returns-else-has_type : goal.returns-else-has_type
returns-else-has_type c s h = on_ok_weaker c.note_other_type.result
    (λ e. e ∙ misfit_noted s (type_at c.args.types.now c.args.wanted) c.args.first.now c.args.types.now c.args.e.now c.in-Some.x c.label.result c.in-Some.is c.label.ensures (sym c.has_type.ensures ∙ c.if-has_type.false))
    (c.note_other_type.ensures s h)

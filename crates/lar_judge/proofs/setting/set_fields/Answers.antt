use Rattle.std.proofs.Common.{◌∙◌, ap, take, arith}
use Rattle.std.proofs.lemmas.Result.{IfOk-weaker}
use Rattle.lar_rules.specs.Fault.{least}
use Rattle.lar_judge.specs.Lists.{knowns}
use Rattle.lar_judge.specs.Wanted.{types_if, misfits}
use Rattle.lar_judge.proofs.Outcomes.{on_ok_any}
use Rattle.lar_judge.proofs.SetFields.{take_within, other_name_told, missing_told, all_named_told, ill_named_none, all_named_set}
use Rattle.lar_judge.proofs.setting.set_fields.Goals as goal

pub all_misfits-requires-clause-wanted : goal.all_misfits-requires-clause-wanted
all_misfits-requires-clause-wanted c = take_within c.args.types.now c.args.wanted.now c.args.same c.requires.wanted

pub returns-then-same-names-clause-is : goal.returns-then-same-names-clause-is
returns-then-same-names-clause-is c gs ms is a = ill_named_none c.args.types.now c.args.wanted.now c.args.names.now c.args.same c.args.values.items gs ms is a (λ p q. absurd (omega arith))

pub returns-then-same-names-clause-told : goal.returns-then-same-names-clause-told
returns-then-same-names-clause-told c s gs ms is h a =
    other_name_told c.args.types.now s c.args.at c.args.wanted.now c.args.names.now c.args.same c.args.values.items gs ms is c.args.here.now.file _ c.args.first.now c.all_misfits.new.first _ a h.file (omega arith)
    (c.in_ok-all_misfits.ensures s h ∙ ap (λ xs. least c.args.first.now (misfits s (types_if c.args.types.now (take c.args.same c.args.wanted.now)) (knowns c.args.types.now xs))) c.deref.ensures.value) c.note_none.ensures

pub returns-then-same-wanted-clause-is : goal.returns-then-same-wanted-clause-is
returns-then-same-wanted-clause-is c gs ms is a = ill_named_none c.args.types.now c.args.wanted.now c.args.names.now c.args.same c.args.values.items gs ms is a (λ p q. absurd (omega arith))

pub returns-then-same-wanted-clause-told : goal.returns-then-same-wanted-clause-told
returns-then-same-wanted-clause-told c s gs ms is h a =
    missing_told c.args.types.now s c.args.at c.args.wanted.now c.args.names.now c.args.same c.args.values.items gs ms is c.args.here.now.file c.args.first.now c.all_misfits.new.first _ a h.file (omega arith) (omega arith)
    (c.in_ok-all_misfits.ensures s h ∙ ap (λ xs. least c.args.first.now (misfits s (types_if c.args.types.now (take c.args.same c.args.wanted.now)) (knowns c.args.types.now xs))) c.deref.ensures.value) c.note_none-then-same-wanted.ensures

pub returns-clause-is : goal.returns-clause-is
returns-clause-is c = IfOk-weaker c.passed.result _ _
    (λ r e gs ms is a. all_named_set c.args.types.now c.args.wanted.now c.args.names.now c.args.same c.args.values.items gs ms is _ a (omega arith) (omega arith) e)
    c.passed.ensures.is

pub returns-clause-told : goal.returns-clause-told
returns-clause-told c s gs ms is h a = on_ok_any c.passed.result
    (all_named_told c.args.types.now s c.args.at c.args.wanted.now c.args.names.now c.args.same c.args.values.items gs ms is c.args.first.now c.all_misfits.new.first a (omega arith) (omega arith)
    (c.in_ok-all_misfits.ensures s h ∙ ap (λ xs. least c.args.first.now (misfits s (types_if c.args.types.now (take c.args.same c.args.wanted.now)) (knowns c.args.types.now xs))) c.deref.ensures.value))

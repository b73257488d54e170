use Rattle.std.proofs.Common.{rules, map, sym, subst, List}
use Rattle.lar_typed.specs.declared.tree.TypedFunction.{TypedFunction}
use Rattle.lar_rules.specs.Checked.{typed_function}
use Rattle.lar_rules.specs.Faults.{none_yet}
use Rattle.lar_sound.specs.InOrder.{functions_from}
use Rattle.lar_names.specs.NamesView.{names_view, scope_lists}
use Rattle.lar_assembled.specs.Programs.{FunctionsStand}
use Rattle.lar_types.proofs.BodyFacts.{sig_below, sig_stands, keeps_more, stand_further, stand_all, told_further, told_all}
use Rattle.lar_types.proofs.functions.checked_functions.Goals as goal

pub index-signature-requires : goal.index-signature-requires
index-signature-requires c =
    let below = sig_below c.args.types.now (names_view c.args.names.now) (scope_lists c.args.names.now) c.functions-items.result.now c.args.signatures.now.functions.items c.loop-number.number c.requires.functions_stand c.functions-items.ensures.all c.loop-number-test.true in
    search (rules, below)

pub checked_function-requires-clause-signed : goal.checked_function-requires-clause-signed
checked_function-requires-clause-signed c =
    let all = names_view c.args.names.now in
    let stand = c.grown.ensures c.args.types.now c.loop-number.types all c.args.signatures.now c.loop-number.invariant.kept c.requires in
    sig_stands c.loop-number.types all (scope_lists c.args.names.now) c.loop-number.number c.args.signatures.now.functions.items c.functions-items.result.now c.index-signature.result.now c.index-items-number.result
    stand.functions_stand c.functions-items.ensures.all c.index-signature.ensures
    (sig_below c.args.types.now all (scope_lists c.args.names.now) c.functions-items.result.now c.args.signatures.now.functions.items c.loop-number.number c.requires.functions_stand c.functions-items.ensures.all c.loop-number-test.true)
    c.index-items-number.is c.loop-number-test.true

pub loop-number-preserved : goal.loop-number-preserved
loop-number-preserved c =
    let i = c.loop-number.number in
    record {
      kept = keeps_more c.args.types.now c.loop-number.types c.checked_function.new.types c.loop-number.invariant.kept c.checked_function.ensures.kept;
      of = stand_further c.loop-number.types c.checked_function.new.types (names_view c.args.names.now) (scope_lists c.args.names.now) c.functions-items.result.now i c.index-items-number.result c.loop-number.out.items c.put_known.new.functions.items c.in_ok-made.made
          (λ f p. c.kept.ensures.functions c.loop-number.types c.checked_function.new.types f p c.checked_function.ensures.kept) c.index-items-number.is c.loop-number-test.true c.loop-number.invariant.of c.in_ok-put_known.ensures (c.in_ok-made.ensures.of i);
      told = told_further (names_view c.args.names.now) (scope_lists c.args.names.now) c.functions-items.result.now i c.index-items-number.result c.loop-number.first c.checked_function.new.first _ c.index-items-number.is c.loop-number-test.true c.loop-number.invariant.told (c.in_ok-made.ensures.told i);
    }

pub returns-clause-of : goal.returns-clause-of
returns-clause-of c =
    subst (λ (fs : List TypedFunction). FunctionsStand c.loop-number.types fs (map (typed_function (names_view c.args.names.now)) (functions_from none_yet (names_view c.args.names.now)))) (sym c.from_vec.ensures)
    (stand_all c.loop-number.types (names_view c.args.names.now) (scope_lists c.args.names.now) c.functions-items.result.now c.loop-number.number c.loop-number.out.items c.loop-number-test.false c.functions-items.ensures.all c.loop-number.invariant.of)

pub returns-clause-told : goal.returns-clause-told
returns-clause-told c = told_all (names_view c.args.names.now) (scope_lists c.args.names.now) c.functions-items.result.now c.loop-number.number c.loop-number.first c.args.first.now c.loop-number-test.false c.functions-items.ensures.all c.loop-number.invariant.told

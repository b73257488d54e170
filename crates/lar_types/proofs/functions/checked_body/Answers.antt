use Rattle.std.proofs.Common.{List, map, sym, subst}
use Rattle.std.proofs.lemmas.Result.{IfOk-weaker}
use Rattle.lar_written.specs.declared.members.Member.{Member}
use Rattle.lar_written.specs.Standing.{AllInside}
use Rattle.lar_names.specs.Items.{function_item}
use Rattle.lar_names.specs.NamesView.{names_view, scope_lists}
use Rattle.lar_names.specs.Numbered.{function_at}
use Rattle.lar_types.proofs.FunctionFacts.{each_number, is_function}
use Rattle.lar_types.proofs.functions.checked_body.Goals as goal

pub body-requires-clause-params : goal.body-requires-clause-params
body-requires-clause-params c =
    subst (λ (ms : List Member). AllInside c.args.types.now (map (λ p. p.of) ms)) (sym c.deref-2.ensures.value) ((c.requires.signed 0).params_stand).within

pub body-requires-clause-outcome : goal.body-requires-clause-outcome
body-requires-clause-outcome c = ((c.requires.signed 0).outcome_stands).within

pub returns-clause-known : goal.returns-clause-known
returns-clause-known c =
    let all = names_view c.args.names.now in
    let p = function_item (scope_lists c.args.names.now) c.args.item.now in
    IfOk-weaker c.body.result _ _ (λ r h n. h all (function_at n p) (is_function c.args.types.now c.args.names.now c.args.item.now c.args.signature.now c.deref-2.result.now n c.deref-2.ensures.value (c.requires.signed n))) c.body.ensures.known

pub returns-clause-told : goal.returns-clause-told
returns-clause-told c =
    let all = names_view c.args.names.now in
    let p = function_item (scope_lists c.args.names.now) c.args.item.now in
    each_number c.body.result _ (λ n. c.body.ensures.told all (function_at n p) (is_function c.args.types.now c.args.names.now c.args.item.now c.args.signature.now c.deref-2.result.now n c.deref-2.ensures.value (c.requires.signed n)))

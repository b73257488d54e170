use Rattle.std.proofs.Common.{ap, subst as transport, Option, Some, ℕ}
use Rattle.lar_typed.specs.TreeView.{Contents}
use Rattle.type_table.specs.Rows.{type_at}
use Rattle.type_table.specs.Substitution.{subst}
use Rattle.mono_collect.specs.Arguments.{IsList}
use Rattle.mono_collect.proofs.OneCall.{call_known, call_new, call_many}
use Rattle.mono_collect.proofs.walk.take_call.Goals as goal

pub returns-in-Some-find-clause-ends : goal.returns-in-Some-find-clause-ends
returns-in-Some-find-clause-ends c =
    let l : IsList c.argument_list.new.tree.rows (subst (type_at c.args.tree.now.rows c.args.arguments) (type_at c.args.tree.now.rows c.args.call.generics)) (Some c.in-Some.list) = transport (λ (o : Option ℕ). IsList c.argument_list.new.tree.rows (subst (type_at c.args.tree.now.rows c.args.arguments) (type_at c.args.tree.now.rows c.args.call.generics)) o) c.in-Some.is c.in_ok-list.ensures.list in
    call_known c.args.tree.now c.argument_list.new.tree c.args.limit c.args.found.now c.args.arguments c.in-Some.list c.args.call c.in_ok-list.ensures.kept (ap (λ (t : Contents). t.functions) c.in_ok-list.ensures.rest) c.requires.inside l.0 l.1 c.in-Some-find.place c.requires.few c.in-Some-find.ensures

pub returns-then-place-limit-clause-ends : goal.returns-then-place-limit-clause-ends
returns-then-place-limit-clause-ends c =
    let l : IsList c.argument_list.new.tree.rows (subst (type_at c.args.tree.now.rows c.args.arguments) (type_at c.args.tree.now.rows c.args.call.generics)) (Some c.in-Some.list) = transport (λ (o : Option ℕ). IsList c.argument_list.new.tree.rows (subst (type_at c.args.tree.now.rows c.args.arguments) (type_at c.args.tree.now.rows c.args.call.generics)) o) c.in-Some.is c.in_ok-list.ensures.list in
    call_many c.args.tree.now c.argument_list.new.tree c.args.limit c.args.found.now c.args.arguments c.in-Some.list c.args.call c.in_ok-list.ensures.kept (ap (λ (t : Contents). t.functions) c.in_ok-list.ensures.rest) c.requires.inside l.0 l.1 c.in_ok-list.ensures.table c.in-None.ensures c.len-place.result c.refused-then-place-limit.result c.if-place-limit.true c.len-place.ensures c.refused-then-place-limit.ensures

pub returns-clause-ends : goal.returns-clause-ends
returns-clause-ends c =
    let l : IsList c.argument_list.new.tree.rows (subst (type_at c.args.tree.now.rows c.args.arguments) (type_at c.args.tree.now.rows c.args.call.generics)) (Some c.in-Some.list) = transport (λ (o : Option ℕ). IsList c.argument_list.new.tree.rows (subst (type_at c.args.tree.now.rows c.args.arguments) (type_at c.args.tree.now.rows c.args.call.generics)) o) c.in-Some.is c.in_ok-list.ensures.list in
    call_new c.args.tree.now c.argument_list.new.tree c.args.limit c.args.found.now c.args.arguments c.in-Some.list c.args.call c.in_ok-list.ensures.kept (ap (λ (t : Contents). t.functions) c.in_ok-list.ensures.rest) c.requires.inside l.0 l.1 c.in_ok-list.ensures.table c.in-None.ensures c.push.new.self c.len-place.result c.requires.callee c.requires.few c.if-place-limit.false c.len-place.ensures c.in_ok-push.ensures.ok

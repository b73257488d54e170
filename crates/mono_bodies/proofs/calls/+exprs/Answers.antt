use Rattle.std.proofs.Common.{ap, sym, ◌∙◌}
use Rattle.std.proofs.lemmas.Result.{on_ok_weaker}
use Rattle.lar_typed.specs.declared.expr.Node.TheVariants as node
use Rattle.mono_bodies.proofs.Taken.{taken}
use Rattle.mono_bodies.proofs.calls.+exprs.Goals as goal

pub take_expr-returns-in_ok-push-in-Call : goal.take_expr-returns-in_ok-push-in-Call
take_expr-returns-in_ok-push-in-Call t c = on_ok_weaker c.take_exprs-in-Call.result (λ h. taken c.args.expr.now c.get-call.result.now c.args.calls.now.items c.push.new.self.items c.take_exprs-in-Call.new.calls.items c.as_slice-in-Call.result.now (c.in-Call.is ∙ ap node.Call (sym c.get-call.ensures)) c.in_ok-push-in-Call.ensures.items c.as_slice-in-Call.ensures h) c.take_exprs-in-Call.ensures

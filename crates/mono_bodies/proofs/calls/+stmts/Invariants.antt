use Rattle.std.proofs.Common.{◌≡◌, ◌++◌, map, drop}
use Rattle.lar_typed.specs.Calls.{stmts_calls}
use Rattle.lar_typed.specs.StmtView.{stmts_view}
use Rattle.mono_bodies.specs.Patterns.{call_view}
use Rattle.mono_bodies.proofs.calls.+stmts.Given as goal

abbrev pub invariant-take_stmts-loop-stmt : goal.invariant-take_stmts-loop-stmt
invariant-take_stmts-loop-stmt l = map call_view l.calls.items ++ stmts_calls (stmts_view (drop l.stmt-index l.stmts)) ≡ map call_view l.initial.calls.items ++ stmts_calls (stmts_view l.stmts)

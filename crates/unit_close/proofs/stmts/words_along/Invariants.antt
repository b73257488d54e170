use Rattle.std.proofs.Common.{◌≡◌, ◌+◌, map, drop}
use Rattle.lar_typed.specs.StmtView.{step_view}
use Rattle.unit_input.specs.Widths.{cut}
use Rattle.unit_close.specs.Sight.{sight}
use Rattle.unit_close.specs.Made.{along}
use Rattle.unit_close.specs.Ready.{StepsReady}
use Rattle.unit_close.proofs.stmts.words_along.Given as goal

abbrev pub invariant-loop-step : goal.invariant-loop-step
invariant-loop-step l =
    StepsReady (sight l.around) l.row (map step_view (drop l.step-index l.steps))
    × (cut (l.total + along (sight l.around) l.row (map step_view (drop l.step-index l.steps))) ≡ cut (along (sight l.around) l.initial.row (map step_view l.steps)))

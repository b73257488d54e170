use Rattle.std.proofs.Common.{◌≡◌, ◌++◌, drop, map}
use Rattle.std.specs.List.{flat_map}
use Rattle.unit_input.specs.InputView.{fn_view}
use Rattle.unit_input.specs.Spelling.{spell_fn}
use Rattle.unit_input.proofs.spelling.put_functions.Given as goal

abbrev pub invariant-loop-function : goal.invariant-loop-function
invariant-loop-function l = l.out.items ++ flat_map spell_fn (map fn_view (drop l.function-index l.functions)) ≡ l.initial.out.items ++ flat_map spell_fn (map fn_view l.functions)

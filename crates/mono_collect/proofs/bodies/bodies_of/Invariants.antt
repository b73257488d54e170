use Rattle.std.proofs.Common.{◌≡◌, map, take}
use Rattle.mono_collect.specs.Bodies.{body_view, body_of}
use Rattle.mono_collect.proofs.bodies.bodies_of.Given as goal

abbrev pub invariant-loop-function : goal.invariant-loop-function
invariant-loop-function l = map body_view l.bodies.items ≡ map body_of (take l.function-index l.functions)

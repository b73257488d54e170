-- Units by hand, computed from the definitions.
use Rattle.std.proofs.Common.{◌≡◌, [], ◌∷◌, true, false, Ok, Err, refl}
use Rattle.std.specs.Prelude.{codes}
use Rattle.object_format.specs.Object.{Unlinked}
use Rattle.unit_input.specs.Exprs.{truth}
use Rattle.unit_input.specs.Stmts.{assert, no_stmts, stmts}
use Rattle.unit_input.specs.Inputs.{PlainFn, PlainInput}
use Rattle.unit_input.proofs.Worked.{prints_7}
use Rattle.unit_object.specs.Counted.{steps_of}
use Rattle.unit_object.specs.UnitObject.{object_of}

abbrev pub prints_7_object : Unlinked
prints_7_object = record { functions = record { symbol = codes "main::main"; external = true; params = 0; «result» = 0; slots = 0; code = 0x01 ∷ 7 ∷ 0x17 ∷ 0x16 ∷ [] } ∷ []; externals = [] }

pub prints_7-made : object_of prints_7 ≡ Ok prints_7_object
unfolding object_of
prints_7-made = refl

-- a function without a fault, and behind it one whose second assertion is false
abbrev sound : PlainFn
sound = record { symbol = codes "main::main"; external = true; «result» = 0; params = 0; locals = []; body = no_stmts }

abbrev unsound : PlainFn
unsound = record { symbol = codes "main::check"; external = true; «result» = 0; params = 0; locals = []; body = stmts (assert (truth true)) (stmts (assert (truth false)) no_stmts) }

abbrev two : PlainInput
two = record { level = 0; functions = sound ∷ unsound ∷ []; externals = [] }

second_is_refused : object_of two ≡ Err (record { code = 30; function = 1; assertion = 1 })
unfolding object_of
second_is_refused = refl

no_step : steps_of two ≡ 0
unfolding steps_of
no_step = refl

-- The image of a list of numbers that are printed.
use Rattle.std.specs.Prelude.{ℕ, nat_lt, if◌then◌else◌, Bool, List, [], ◌∷◌, ◌++◌, ℤ, pos, negsuc}
use Rattle.std.specs.Int.{w8, w64, to_be_bytes, cast_unsigned}
use Rattle.std.specs.List.{flat_map}
use Rattle.object_format.specs.Image.{Linked}
use Rattle.object_format.specs.Opcode.{row}
use Rattle.object_format.specs.declared.opcode.Opcode.TheVariants.{Push8, Push64, Print, Return}

-- from -128 to 127
abbrev pub is_short : ℤ → Bool
is_short (pos n) = nat_lt n 128
is_short (negsuc n) = nat_lt n 128

-- PUSH8 with one byte, or PUSH64 with eight
abbrev pub push_code : ℤ → List ℕ
push_code z = if is_short z then (row Push8).number ∷ cast_unsigned w8 z ∷ [] else (row Push64).number ∷ to_be_bytes w64 (cast_unsigned w64 z)

-- the push, and PRINT
abbrev pub print_code : ℤ → List ℕ
print_code z = push_code z ++ (row Print).number ∷ []

-- one function without parameters, result and slots, which ends with RET
abbrev pub thin_image : List ℤ → Linked
thin_image numbers = record { entry = 0; functions = record { params = 0; «result» = 0; slots = 0; code = flat_map print_code numbers ++ (row Return).number ∷ [] } ∷ [] }

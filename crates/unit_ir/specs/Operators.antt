-- What the operators give for words.
use Rattle.std.specs.Prelude.{ℤ, pos, ◌+ℤ◌, ◌-ℤ◌, ◌*ℤ◌, int_div, int_rem, Bool, true, false, not, ◌&&◌, ◌^◌, if◌then◌else◌, Option, Some, None}
use Rattle.std.specs.Int.{int_wrap, w64}
use Rattle.std.specs.Ordering.{int_eq}
use lib.Signed.{lt_z}
use lib.IntN.{neg_ℤ}
use Rattle.unit_ir.specs.declared.operator.Unary.{Unary}
use Rattle.unit_ir.specs.declared.operator.Unary.TheVariants as unary
use Rattle.unit_ir.specs.declared.operator.Binary.{Binary}
use Rattle.unit_ir.specs.declared.operator.Binary.TheVariants as binary

-- the word of a test
abbrev pub truth : Bool → ℤ
truth b = if b then pos 1 else pos 0

abbrev pub unary_of : Unary → ℤ → ℤ
unary_of unary.Neg v = int_wrap w64 (neg_ℤ v)
unary_of unary.Not v = truth (int_eq v (pos 0))

-- a quotient or a remainder, and none where it traps: by 0, and the least word by -1
abbrev pub parted : (ℤ → ℤ → ℤ) → ℤ → ℤ → Option ℤ
parted f a b = if int_eq b (pos 0) then None else (if int_eq a (neg_ℤ (pos (2 ^ 63))) && int_eq b (neg_ℤ (pos 1)) then None else Some (f a b))

-- sums, differences and products wrap
abbrev pub binary_of : Binary → ℤ → ℤ → Option ℤ
binary_of binary.Add a b = Some (int_wrap w64 (a +ℤ b))
binary_of binary.Sub a b = Some (int_wrap w64 (a -ℤ b))
binary_of binary.Mul a b = Some (int_wrap w64 (a *ℤ b))
binary_of binary.Div a b = parted int_div a b
binary_of binary.Rem a b = parted int_rem a b
binary_of binary.Equal a b = Some (truth (int_eq a b))
binary_of binary.NotEqual a b = Some (truth (not (int_eq a b)))
binary_of binary.Less a b = Some (truth (lt_z a b))
binary_of binary.AtMost a b = Some (truth (not (lt_z b a)))
binary_of binary.Greater a b = Some (truth (lt_z b a))
binary_of binary.AtLeast a b = Some (truth (not (lt_z a b)))

-- some words make it trap
abbrev pub may_trap : Binary → Bool
may_trap binary.Div = true
may_trap binary.Rem = true
may_trap o = false

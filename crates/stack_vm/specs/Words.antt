-- What the machine computes on words, which are signed numbers of 64 bits.
use Rattle.std.specs.Prelude.{◌^◌, ℤ, pos, ◌+ℤ◌, ◌-ℤ◌, ◌*ℤ◌, int_div, int_rem, Bool, not, ◌&&◌, if◌then◌else◌, Result, Ok, Err}
use Rattle.std.specs.Int.{int_wrap, w64}
use lib.IntN.{neg_ℤ}
use lib.Signed.{lt_z}
use Rattle.object_format.specs.declared.opcode.Operator.{Operator}
use Rattle.object_format.specs.declared.opcode.Operator.TheVariants.{Add, Sub, Mul, Div, Rem, Equal, NotEqual, Less, AtMost, Greater, AtLeast}
use Rattle.std.specs.Ordering.{int_eq}
use Rattle.stack_vm.specs.declared.end.Kind.{Kind}
use Rattle.stack_vm.specs.declared.end.Kind.TheVariants.{Division, Overflow}

abbrev pub truth : Bool → ℤ
truth b = if b then pos 1 else pos 0

abbrev pub opposite : ℤ → ℤ
opposite a = int_wrap w64 (neg_ℤ a)

abbrev pub least : ℤ
least = neg_ℤ (pos (2 ^ 63))

-- of a by b, or how it traps
abbrev pub divided_by : (ℤ → ℤ → ℤ) → ℤ → ℤ → Result ℤ Kind
divided_by f a b =
    if int_eq b (pos 0) then Err Division
    else (if int_eq a least && int_eq b (neg_ℤ (pos 1)) then Err Overflow else Ok (f a b))

abbrev pub quotient : ℤ → ℤ → Result ℤ Kind
quotient = divided_by int_div

abbrev pub remainder : ℤ → ℤ → Result ℤ Kind
remainder = divided_by int_rem

-- what an operator makes of a and, above it, b
abbrev pub computed : Operator → ℤ → ℤ → Result ℤ Kind
computed Add a b = Ok (int_wrap w64 (a +ℤ b))
computed Sub a b = Ok (int_wrap w64 (a -ℤ b))
computed Mul a b = Ok (int_wrap w64 (a *ℤ b))
computed Div a b = quotient a b
computed Rem a b = remainder a b
computed Equal a b = Ok (truth (int_eq a b))
computed NotEqual a b = Ok (truth (not (int_eq a b)))
computed Less a b = Ok (truth (lt_z a b))
computed AtMost a b = Ok (truth (not (lt_z b a)))
computed Greater a b = Ok (truth (lt_z b a))
computed AtLeast a b = Ok (truth (not (lt_z a b)))

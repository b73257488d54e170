-- What a value of the code stands for. This is of the code alone.
use Rattle.std.specs.Prelude.{◌≡◌, ℕ, ◌+◌, ◌≤◌, Bool, false, ◌||◌, Option, Some, None}
use Rattle.unit_input.specs.Exprs as input
use Rattle.unit_input.specs.Widths.{Scope, width, total_width}
use Rattle.unit_ir.specs.Exprs.{PlainExpr, bind}
use Rattle.unit_ir.specs.ExprView.{expr_view}
use Rattle.unit_lower.specs.declared.scope.Slots.{Slots}
use Rattle.unit_lower.specs.declared.value.Value.{Value}
use Rattle.unit_lower.specs.declared.value.Value.TheVariants.{Lying, Made}
use Rattle.unit_lower.specs.Slots.{moved, place}
use Rattle.unit_lower.specs.Wide.{is_over, is_wide, are_wide}
use Rattle.unit_lower.specs.Lowering.{words, part_of, lower, lower_all}

-- what gives the words
abbrev pub made_of : Value → PlainExpr
made_of (Lying s) = words s.first s.count
made_of (Made e n) = expr_view e

abbrev pub width_of : Value → ℕ
width_of (Lying s) = s.count
width_of (Made e n) = n

-- the first slot, of what lies in slots
abbrev pub place_of : Value → Option ℕ
place_of (Lying s) = Some s.first
place_of (Made e n) = None

-- what lies in slots lies in those that can be named
abbrev pub Fits : Value → Type 0
Fits (Lying s) = s.first + s.count ≤ 255
Fits (Made e n) = Unit {0}

-- the next fresh slot after a part of it is taken
abbrev pub next_after : Value → ℕ → ℕ
next_after (Lying s) k = k
next_after (Made e n) k = k + n

-- so many words of v from this offset on, where k is the next fresh slot
pub record IsPart (offset wide : ℕ) (v : Value) (k : ℕ) (r : Value) : Type 0 where
  pub made : made_of r ≡ (part_of offset wide (width_of v) (place_of v) k (record { made = made_of v; next = k })).made
  pub place : place_of r ≡ moved offset (place_of v)
  pub width : width_of r ≡ wide
  pub fits : Fits r

-- a value of the code is what an expression becomes, where k is the next fresh slot
pub record IsValueOf (s : Scope) (e : input.PlainExpr) (k : ℕ) (v : Value) : Type 0 where
  pub made : made_of v ≡ (lower s e k).made
  pub place : place_of v ≡ place s e
  pub width : width_of v ≡ width s e
  pub narrow : is_wide s e ≡ false
  pub fits : Fits v

-- an expression is too wide, or there are too many slots after it
abbrev pub is_over_expr : Scope → input.PlainExpr → ℕ → Bool
is_over_expr s e k = is_wide s e || is_over (lower s e k).next

-- the same of parts or arguments
abbrev pub are_over_exprs : Scope → input.PlainExprs → ℕ → Bool
are_over_exprs s es k = is_over (total_width s es) || are_wide s es || is_over (lower_all s es k).next

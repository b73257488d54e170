-- A fault of the sources, and which of several is told.
use Rattle.std.specs.Prelude.{◌≡◌, ◌⊎◌, ℕ, Bool, false, if◌then◌else◌, List, [], ◌∷◌, Option, Some, None}
use Rattle.std.specs.Ordering.{nat_cmp, ordering_then, is_lt}
use Rattle.std.specs.declared.cmp.Ordering.{Ordering}
use Rattle.lar_source.specs.declared.file.Span.{Span}
use Rattle.lar_source.specs.declared.code.Code.{Code}
use Rattle.lar_source.specs.Code.{row}

-- what it is, where it stands, and what its text names
pub record Fault : Type 0 where
  -- the number of the file among the sources
  pub file : ℕ
  pub line : ℕ
  pub col : ℕ
  pub code : Code
  pub args : List (List ℕ)

abbrev pub fault : ℕ → Span → Code → List (List ℕ) → Fault
fault file at code args = record { file = file; line = at.line; col = at.col; code = code; args = args }

-- by file, then by place, then by the number of the code
abbrev pub fault_cmp : Fault → Fault → Ordering
fault_cmp f g =
    ordering_then (nat_cmp f.file g.file)
    (ordering_then (nat_cmp f.line g.line)
    (ordering_then (nat_cmp f.col g.col) (nat_cmp (row f.code).number (row g.code).number)))

abbrev pub comes_before : Fault → Fault → Bool
comes_before f g = is_lt (fault_cmp f g)

-- the lesser of two; of two that are equal in all three, the first
abbrev pub kept : Option Fault → Fault → Option Fault
kept None f = Some f
kept (Some g) f = if comes_before f g then Some f else Some g

unfoldable pub least : Option Fault → List Fault → Option Fault
least best [] = best
least best (f ∷ fs) = least (kept best f) fs

-- b does not come before a
abbrev pub NotBefore : Fault → Fault → Type 0
NotBefore b a = comes_before b a ≡ false

-- it is one of them
abbrev pub IsAmong : Fault → List Fault → Type 0
IsAmong h [] = ⊥
IsAmong h (f ∷ fs) = (f ≡ h) ⊎ IsAmong h fs

-- none of them comes before it
abbrev pub NoneBefore : Fault → List Fault → Type 0
NoneBefore h [] = Unit {0}
NoneBefore h (f ∷ fs) = NotBefore f h × NoneBefore h fs

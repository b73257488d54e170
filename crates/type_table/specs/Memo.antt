-- What is remembered of substitutions.
use Rattle.std.specs.Prelude.{◌≡◌, ℕ, ◌<◌, List, length, Option, Some, None}
use Rattle.std.specs.Ordering.{nat_cmp, ordering_then}
use Rattle.std.specs.declared.cmp.Ordering.{Ordering}
use Rattle.std.specs.BTreeMap.{BTreeMap, get}
use Rattle.type_table.specs.declared.row.Row.{Row}
use Rattle.type_table.specs.Rows.{type_at, Stands}
use Rattle.type_table.specs.Substitution.{subst}

abbrev pub pair_cmp : ℕ × ℕ → ℕ × ℕ → Ordering
pair_cmp a b = ordering_then (nat_cmp a.0 b.0) (nat_cmp a.1 b.1)

-- the number stands for the first type with the second in place of its generics
pub record Replaces (rows : List Row) (q : ℕ × ℕ) (n : ℕ) : Type 0 where
  pub ty : q.0 < length rows
  pub arguments : q.1 < length rows
  pub stands : Stands rows n (subst (type_at rows q.1) (type_at rows q.0))

-- all that is remembered is so
pub record IsMemo (rows : List Row) (known : BTreeMap (ℕ × ℕ) ℕ) : Type 0 where
  pub each : (q : ℕ × ℕ) (n : ℕ) → get pair_cmp known q ≡ Some n → Replaces rows q n

abbrev pub IfKnown : List Row → ℕ × ℕ → Option ℕ → Type 0
IfKnown rows q None = Unit {0}
IfKnown rows q (Some n) = Replaces rows q n

-- What a call's arguments come to.
use Rattle.std.specs.Prelude.{◌≡◌, ℕ, true, false, List, Option, Some, None}
use Rattle.type_table.specs.declared.row.Row.{Row}
use Rattle.type_table.specs.TypeOf.{TypeOf}
use Rattle.type_table.specs.Rows.{type_at, Stands}
use Rattle.type_table.specs.Substitution.{subst}
use Rattle.lar_typed.specs.Calls.{CallOf}
use Rattle.mono_bodies.specs.declared.calls.PatternCall.{PatternCall}
use Rattle.mono_graph.specs.Instances.{has_large}

-- the number of the list, or nothing where one of it is too large
abbrev pub IsList : List Row → TypeOf → Option ℕ → Type 0
IsList rows t None = has_large t ≡ true
IsList rows t (Some n) = Stands rows n t × (has_large t ≡ false)

-- the call of a pattern, where the arguments stand for the generics of the caller
abbrev pub call_by : List Row → ℕ → PatternCall → CallOf TypeOf
call_by rows arguments c = record { callee = c.callee; generics = subst (type_at rows arguments) (type_at rows c.generics); at = c.at }

-- What it means to replace the generics of a type.
use Rattle.std.specs.Prelude.{◌≡◌, ℕ, zero, suc, ◌<◌, List, length, Option, Some, None}
use Rattle.type_table.specs.declared.row.Row.{Row}
use Rattle.type_table.specs.TypeOf.{TypeOf, int, bool, param, number, end, more, tuple, struct}
use Rattle.type_table.specs.Rows.{type_at}

-- member k of a list of arguments
abbrev pub argument : TypeOf → ℕ → Option TypeOf
argument (more t ts) zero = Some t
argument (more t ts) (suc k) = argument ts k
argument _ k = None

abbrev pub or_type : Option TypeOf → TypeOf → TypeOf
or_type None t = t
or_type (Some u) t = u

-- the type with the arguments in place of its generics. A generic without an argument stays
abbrev pub subst : TypeOf → TypeOf → TypeOf
subst args int = int
subst args bool = bool
subst args (param k) = or_type (argument args k) (param k)
subst args (number v) = number v
subst args end = end
subst args (more t ts) = more (subst args t) (subst args ts)
subst args (tuple ts) = tuple (subst args ts)
subst args (struct n ts) = struct n (subst args ts)

-- how many members a list has
abbrev pub count : TypeOf → ℕ
count (more t ts) = suc (count ts)
count _ = 0

-- each generic in the type is below n
abbrev pub Below : ℕ → TypeOf → Type 0
Below n (param k) = k < n
Below n (more t ts) = Below n t × Below n ts
Below n (tuple ts) = Below n ts
Below n (struct k ts) = Below n ts
Below n int = Unit {0}
Below n bool = Unit {0}
Below n (number v) = Unit {0}
Below n end = Unit {0}

-- the number, if there is one, stands for the member that is wanted
abbrev pub IsMember : List Row → Option ℕ → Option TypeOf → Type 0
IsMember rows None wanted = wanted ≡ None
IsMember rows (Some n) wanted = (n < length rows) × (wanted ≡ Some (type_at rows n))

-- `new`: what is told before the fields are judged and after, and what is known of the struct that is made.
use Rattle.std.specs.Prelude.{◌≡◌, ℕ, zero, suc, List, [], ◌∷◌, ◌++◌, length, map, Option, Some, None, if◌then◌else◌}
use Rattle.std.specs.Borrow.{Bor}
use Rattle.std.specs.Str.{bytes_eq}
use Rattle.lar_source.specs.declared.file.Span.{Span}
use Rattle.type_table.specs.declared.row.Row.{Row}
use Rattle.lar_tree.specs.declared.name.Name.{Name}
use Rattle.lar_tree.specs.declared.name.Path.{Path}
use Rattle.lar_rules.specs.Fault.{Fault}
use Rattle.lar_rules.specs.Declared.{Struct}
use Rattle.lar_rules.specs.Written.{Site, Given, all_given, unknown, Fitted, fitted, struct_sorts}
use Rattle.lar_rules.specs.Signatures.{fields}
use Rattle.lar_rules.specs.Judged.{Env}
use Rattle.lar_rules.specs.Judged as rules
use Rattle.lar_rules.specs.Exprs.{Init, init_values, misset}
use Rattle.lar_judge.specs.declared.judged.Judged.{Judged}
use Rattle.lar_judge.specs.declared.making.Made.{Made}
use Rattle.lar_judge.specs.Known.{type_if, IfWithin, silent}
use Rattle.lar_judge.specs.Lists.{knowns}
use Rattle.lar_judge.specs.Wanted.{types_if, AllIfWithin, wanted_types}

-- the generics that are given to a struct
abbrev pub made_generics : Site → Path → List Given → Struct → Fitted
made_generics s p gs x = fitted s p (struct_sorts x) gs

-- of the path and its generics
abbrev pub new_head : Site → Path → List Given → Option Struct → List Fault
new_head s p gs None = unknown s p ∷ all_given gs
new_head s p gs (Some x) = (made_generics s p gs x).faults

-- of the fields' names and types
abbrev pub new_tail : Site → Span → Path → List Given → List Init → Option Struct → List Fault
new_tail s at p gs is None = []
new_tail s at p gs is (Some x) = misset s at (made_generics s p gs x).of (fields s.all x) is

-- and where `new` has no place
abbrev pub new_rest : Env → Span → Path → List Given → List Init → Option Struct → List Fault
new_rest env at p gs is x = new_tail env.site at p gs is x ++ (rules.unless_asserting env at None []).faults

abbrev pub names : List (Bor Name) → List Name
names ns = map (λ n. n.now) ns

-- what is known of a struct that is made with these generics
pub record IsMade (rows : List Row) (m : Made) (s : Site) (p : Path) (gs : List Given) (x : Struct) : Type 0 where
  pub numbered : m.number ≡ x.number
  pub generics_within : IfWithin rows m.generics
  pub given : type_if rows m.generics ≡ (made_generics s p gs x).of
  pub wanted_within : AllIfWithin rows m.wanted.items
  pub asks : types_if rows m.wanted.items ≡ wanted_types (made_generics s p gs x).of (fields s.all x)
  pub named : names m.names.items ≡ map (λ f. f.0) (fields s.all x)

abbrev pub MadeIs : List Row → Site → Path → List Given → Option Made → Option Struct → Type 0
MadeIs rows s p gs None None = Unit {0}
MadeIs rows s p gs (Some m) (Some x) = IsMade rows m s p gs x
MadeIs rows s p gs _ _ = ⊥

-- its types are rows of the table, and there are as many names as types
abbrev pub MadeWithin : List Row → Option Made → Type 0
MadeWithin rows None = Unit {0}
MadeWithin rows (Some m) = IfWithin rows m.generics × AllIfWithin rows m.wanted.items × (length m.names.items ≡ length m.wanted.items)

-- how many of the first names are the same in both lists
abbrev pub alike : List Name → List Name → ℕ
alike (m ∷ ms) (n ∷ ns) = if bytes_eq m.text n.text then suc (alike ms ns) else zero
alike _ _ = zero

-- the names that are set, and their values, in the numbers of a table
pub record InitsAre (rows : List Row) (named : List (Bor Name)) (values : List Judged) (is : List Init) : Type 0 where
  pub set : names named ≡ map (λ i. i.0) is
  pub to : knowns rows values ≡ init_values is

-- the fields that are set, without the faults of their values
abbrev pub silent_inits : List Init → List Init
silent_inits is = map (λ i. (i.0, silent i.1)) is

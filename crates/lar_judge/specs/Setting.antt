-- The fields of `new` against those of the struct, by their names.
use Rattle.std.specs.Prelude.{◌≡◌, ℕ, zero, suc, List, [], ◌∷◌, map, Option, if◌then◌else◌}
use Rattle.std.specs.Str.{bytes_eq}
use Rattle.lar_source.specs.declared.file.Span.{Span}
use Rattle.lar_source.specs.declared.code.Code.TheVariants.{NoSuchPlace}
use Rattle.type_table.specs.declared.row.Row.{Row}
use Rattle.type_table.specs.TypeOf.{TypeOf}
use Rattle.lar_rules.specs.Fault.{Fault, fault}
use Rattle.lar_rules.specs.Signatures.{Member}
use Rattle.lar_rules.specs.Exprs.{Init, init_values}
use Rattle.lar_judge.specs.declared.judged.Judged.{Judged as Known}
use Rattle.lar_judge.specs.Lists.{knowns}
use Rattle.lar_judge.specs.Wanted.{types_if, wanted_types}

-- how many of the first ones have the names of the fields in their places
abbrev pub same_names : List Member → List Init → ℕ
same_names (m ∷ ms) (i ∷ is) = if bytes_eq (m.0).text (i.0).text then suc (same_names ms is) else zero
same_names _ _ = zero

-- where the names of what is set stand
abbrev pub name_places : List Init → List Span
name_places is = map (λ i. (i.0).span) is

-- what is told where the names differ: at the first other name, or at `new` where a field is missing
abbrev pub ill_named : ℕ → Span → List Member → List Init → List Fault
ill_named file at [] [] = []
ill_named file at (m ∷ ms) [] = fault file at NoSuchPlace [] ∷ []
ill_named file at ms (i ∷ is) = fault file (i.0).span NoSuchPlace [] ∷ []

-- the code's values are set to these fields, in the numbers of a table
pub record AreSet (rows : List Row) (wanted : List (Option ℕ)) (names : List Span) (same : ℕ) (values : List Known) (gs : Option TypeOf) (ms : List Member) (is : List Init) : Type 0 where
  pub asks : types_if rows wanted ≡ wanted_types gs ms
  pub placed : names ≡ name_places is
  pub counted : same ≡ same_names ms is
  pub valued : knowns rows values ≡ init_values is

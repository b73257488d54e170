-- Judged expressions against the types that are wanted of them, one by one.
use Rattle.std.specs.Prelude.{ℕ, Bool, true, false, ◌&&◌, List, [], ◌∷◌, ◌++◌, map, Option, Some, None}
use Rattle.type_table.specs.declared.row.Row.{Row}
use Rattle.type_table.specs.TypeOf.{TypeOf}
use Rattle.lar_typed.specs.Exprs.{PlainExpr, label_of}
use Rattle.lar_typed.specs.SameType.{same_type}
use Rattle.lar_rules.specs.Fault.{Fault}
use Rattle.lar_rules.specs.Written.{Site}
use Rattle.lar_rules.specs.Judged.{Judged, misfit_if}
use Rattle.lar_rules.specs.Signatures.{Member}
use Rattle.lar_rules.specs.Judged.{under}
use Rattle.lar_judge.specs.Known.{type_if, IfWithin}

abbrev pub types_if : List Row → List (Option ℕ) → List (Option TypeOf)
types_if rows ts = map (type_if rows) ts

abbrev pub AllIfWithin : List Row → List (Option ℕ) → Type 0
AllIfWithin rows [] = Unit {0}
AllIfWithin rows (t ∷ ts) = IfWithin rows t × AllIfWithin rows ts

-- the types of members, with the generics of a use in place of their own
abbrev pub wanted_types : Option TypeOf → List Member → List (Option TypeOf)
wanted_types gs ms = map (λ m. under gs m.1) ms

abbrev pub misfits : Site → List (Option TypeOf) → List Judged → List Fault
misfits s (t ∷ ts) (j ∷ js) = misfit_if s t j ++ misfits s ts js
misfits s _ _ = []

abbrev pub fits_if : Option TypeOf → Option PlainExpr → Bool
fits_if None e = false
fits_if (Some t) None = false
fits_if (Some t) (Some e) = same_type (label_of e) t

-- there is a type for each, and each has it
abbrev pub fits_all : List (Option TypeOf) → List Judged → Bool
fits_all [] [] = true
fits_all (t ∷ ts) (j ∷ js) = fits_if t j.typed && fits_all ts js
fits_all _ _ = false

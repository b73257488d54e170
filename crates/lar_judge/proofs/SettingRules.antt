-- The fields of `new`: those whose names are right, and what is told at the first other one.
use Rattle.std.proofs.Common.{◌≡◌, zero, suc, List, [], ◌∷◌, ◌++◌, length, take, drop, refl, sym, ap, ◌∙◌, arith, append_assoc, Bool, true, false, Option, Some, None}
use Rattle.std.specs.Prelude.{if◌then◌else◌}
use Rattle.std.specs.Str.{bytes_eq}
use Rattle.lar_source.specs.declared.file.Span.{Span}
use Rattle.lar_source.specs.declared.code.Code.TheVariants.{NoSuchPlace}
use Rattle.type_table.specs.TypeOf.{TypeOf}
use Rattle.lar_typed.specs.Exprs.{PlainExpr}
use Rattle.lar_rules.specs.Fault.{Fault, fault}
use Rattle.lar_rules.specs.Written.{Site}
use Rattle.lar_rules.specs.Judged.{misfit_if, fitting_if, then_expr, under}
use Rattle.lar_rules.specs.Signatures.{Member}
use Rattle.lar_rules.specs.Exprs.{Init, misset, set_typed, passed, init_values}
use Rattle.lar_judge.specs.Wanted.{wanted_types, misfits}
use Rattle.lar_judge.specs.Setting.{same_names, ill_named}

told_by : (s : Site) (at : Span) (gs : Option TypeOf) (m : Member) (ms : List Member) (i : Init) (is : List Init) (b : Bool)
    → misset s at gs ms is ≡ misfits s (take (same_names ms is) (wanted_types gs ms)) (init_values is) ++ ill_named s.file at (drop (same_names ms is) ms) (drop (same_names ms is) is)
    → (if b then misfit_if s (under gs m.1) i.1 ++ misset s at gs ms is else fault s.file (i.0).span NoSuchPlace [] ∷ [])
    ≡ misfits s (take (if b then suc (same_names ms is) else zero) (wanted_types gs (m ∷ ms))) (init_values (i ∷ is)) ++ ill_named s.file at (drop (if b then suc (same_names ms is) else zero) (m ∷ ms)) (drop (if b then suc (same_names ms is) else zero) (i ∷ is))
told_by s at gs m ms i is false h = refl
told_by s at gs m ms i is true h =
    ap (λ (fs : List Fault). misfit_if s (under gs m.1) i.1 ++ fs) h
    ∙ sym (append_assoc (misfit_if s (under gs m.1) i.1) (misfits s (take (same_names ms is) (wanted_types gs ms)) (init_values is)) (ill_named s.file at (drop (same_names ms is) ms) (drop (same_names ms is) is)))

-- what is told of the fields: of the types of those that are named right, then of the first other name
pub misset_is : (s : Site) (at : Span) (gs : Option TypeOf) (ms : List Member) (is : List Init)
    → misset s at gs ms is ≡ misfits s (take (same_names ms is) (wanted_types gs ms)) (init_values is) ++ ill_named s.file at (drop (same_names ms is) ms) (drop (same_names ms is) is)
misset_is s at gs [] [] = refl
misset_is s at gs [] (i ∷ is) = refl
misset_is s at gs (m ∷ ms) [] = refl
misset_is s at gs (m ∷ ms) (i ∷ is) = told_by s at gs m ms i is (bytes_eq (m.0).text (i.0).text) (misset_is s at gs ms is)

set_by : (gs : Option TypeOf) (m : Member) (ms : List Member) (i : Init) (is : List Init) (b : Bool) → (same_names ms is ≡ length ms → same_names ms is ≡ length is → set_typed gs ms is ≡ passed gs ms (init_values is))
    → (if b then suc (same_names ms is) else zero) ≡ suc (length ms) → (if b then suc (same_names ms is) else zero) ≡ suc (length is)
    → (if b then then_expr (fitting_if (under gs m.1) i.1) (set_typed gs ms is) else None) ≡ then_expr (fitting_if (under gs m.1) i.1) (passed gs ms (init_values is))
set_by gs m ms i is true h p q = ap (then_expr (fitting_if (under gs m.1) i.1)) (h (omega arith) (omega arith))
set_by gs m ms i is false h p q = absurd (omega arith)

-- the fields, where all names are right
pub set_is : (gs : Option TypeOf) (ms : List Member) (is : List Init) → same_names ms is ≡ length ms → same_names ms is ≡ length is → set_typed gs ms is ≡ passed gs ms (init_values is)
set_is gs [] [] p q = refl
set_is gs [] (i ∷ is) p q = refl
set_is gs (m ∷ ms) [] p q = refl
set_is gs (m ∷ ms) (i ∷ is) p q = set_by gs m ms i is (bytes_eq (m.0).text (i.0).text) (set_is gs ms is) p q

none_then : (e : Option PlainExpr) → then_expr e None ≡ None
none_then None = refl
none_then (Some x) = refl

none_by : (gs : Option TypeOf) (m : Member) (ms : List Member) (i : Init) (is : List Init) (b : Bool) → ((same_names ms is ≡ length ms → same_names ms is ≡ length is → ⊥) → set_typed gs ms is ≡ None)
    → ((if b then suc (same_names ms is) else zero) ≡ suc (length ms) → (if b then suc (same_names ms is) else zero) ≡ suc (length is) → ⊥) → (if b then then_expr (fitting_if (under gs m.1) i.1) (set_typed gs ms is) else None) ≡ None
none_by gs m ms i is true h n = ap (then_expr (fitting_if (under gs m.1) i.1)) (h (λ p q. n (ap suc p) (ap suc q))) ∙ none_then (fitting_if (under gs m.1) i.1)
none_by gs m ms i is false h n = refl

-- none, where a name is another or missing
pub set_none : (gs : Option TypeOf) (ms : List Member) (is : List Init) → (same_names ms is ≡ length ms → same_names ms is ≡ length is → ⊥) → set_typed gs ms is ≡ None
set_none gs [] [] h = absurd (h refl refl)
set_none gs [] (i ∷ is) h = refl
set_none gs (m ∷ ms) [] h = refl
set_none gs (m ∷ ms) (i ∷ is) h = none_by gs m ms i is (bytes_eq (m.0).text (i.0).text) (set_none gs ms is) h

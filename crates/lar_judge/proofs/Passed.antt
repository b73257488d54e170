-- Judged expressions against the types that are wanted of them.
use Rattle.std.proofs.Common.{◌≡◌, ℕ, zero, suc, ◌+◌, ◌<◌, ◌≤◌, List, [], ◌∷◌, ◌++◌, length, drop, get_or, refl, sym, ap, ◌∙◌, subst, arith, Bool, true, false, Option, Some, None, drop-cons}
use Rattle.std.specs.Prelude.{◌&&◌, if◌then◌else◌}
use Rattle.type_table.specs.declared.row.Row.{Row}
use Rattle.type_table.specs.TypeOf.{TypeOf}
use Rattle.lar_typed.specs.Exprs.{PlainExpr, PlainExprs, label_of}
use Rattle.lar_typed.specs.SameType.{same_type}
use Rattle.lar_rules.specs.Fault.{Fault, least}
use Rattle.lar_rules.specs.Written.{Site}
use Rattle.lar_rules.specs.Judged as rules
use Rattle.lar_rules.specs.Judged.{misfit_if, fitting_if, then_expr, under, all_typed}
use Rattle.lar_rules.specs.Signatures.{Member}
use Rattle.lar_rules.specs.Exprs.{mispassed, passed}
use Rattle.lar_judge.specs.declared.judged.Judged.{Judged}
use Rattle.lar_judge.specs.Known.{type_if, IfWithin, TypedWithin, known}
use Rattle.lar_judge.specs.Lists.{JudgedWithin, knowns}
use Rattle.lar_judge.specs.Wanted.{types_if, AllIfWithin, wanted_types, misfits, fits_if, fits_all}
use Rattle.lar_judge.proofs.Least.{least_none, least_append}
use Rattle.lar_judge.proofs.ListTypes.{drop_at}

-- what is told of all is told of the types that are wanted
pub mispassed_is : (s : Site) (gs : Option TypeOf) (ms : List Member) (js : List rules.Judged) → mispassed s gs ms js ≡ misfits s (wanted_types gs ms) js
mispassed_is s gs [] js = refl
mispassed_is s gs (m ∷ ms) [] = refl
mispassed_is s gs (m ∷ ms) (j ∷ js) = ap (λ (fs : List Fault). misfit_if s (under gs m.1) j ++ fs) (mispassed_is s gs ms js)

-- one more
pub misfits_more : (rows : List Row) (s : Site) (ts : List (Option ℕ)) (js : List Judged) (i : ℕ) (j : Judged) (best now : Option Fault) → i < length ts → i < length js → j ≡ get_or js i j
    → now ≡ least best (misfit_if s (type_if rows (get_or ts i None)) (known rows j))
    → least now (misfits s (types_if rows (drop (i + 1) ts)) (knowns rows (drop (i + 1) js))) ≡ least best (misfits s (types_if rows (drop i ts)) (knowns rows (drop i js)))
misfits_more rows s ts js i j best now h k q e =
    let t : Option ℕ = get_or ts i None in
    let rest : List Fault = misfits s (types_if rows (drop (suc i) ts)) (knowns rows (drop (suc i) js)) in
    let n : i + 1 ≡ suc i = omega arith in
    ap (λ (m : ℕ). least now (misfits s (types_if rows (drop m ts)) (knowns rows (drop m js)))) n
    ∙ ap (λ b. least b rest) e
    ∙ sym (least_append best (misfit_if s (type_if rows t) (known rows j)) rest)
    ∙ sym (ap (λ (xs : List (Option ℕ)). least best (misfits s (types_if rows xs) (knowns rows (drop i js)))) (drop-cons ts i None h) ∙ ap (λ (xs : List Judged). least best (misfits s (types_if rows (t ∷ drop (suc i) ts)) (knowns rows xs))) (drop_at js i j k q))

drop_past : {A : Type 0} (xs : List A) (n : ℕ) → length xs ≤ n → drop n xs ≡ []
drop_past [] zero h = refl
drop_past [] (suc n) h = refl
drop_past (x ∷ xs) zero h = absurd (omega arith)
drop_past (x ∷ xs) (suc n) h = drop_past xs n (omega arith)

none_wanted : (s : Site) (ts : List (Option TypeOf)) → misfits s ts [] ≡ []
none_wanted s [] = refl
none_wanted s (t ∷ ts) = refl

-- nothing is left
pub no_types_left : (rows : List Row) (s : Site) (ts : List (Option ℕ)) (js : List Judged) (n : ℕ) (best now : Option Fault) → length ts ≤ n → least now (misfits s (types_if rows (drop n ts)) (knowns rows (drop n js))) ≡ best → now ≡ best
no_types_left rows s ts js n best now h e = sym (least_none now) ∙ sym (ap (λ (xs : List (Option ℕ)). least now (misfits s (types_if rows xs) (knowns rows (drop n js)))) (drop_past ts n h)) ∙ e

pub no_parts_left : (rows : List Row) (s : Site) (ts : List (Option ℕ)) (js : List Judged) (n : ℕ) (best now : Option Fault) → length js ≤ n → least now (misfits s (types_if rows (drop n ts)) (knowns rows (drop n js))) ≡ best → now ≡ best
no_parts_left rows s ts js n best now h e =
    sym (least_none now) ∙ sym (ap (λ (xs : List Judged). least now (misfits s (types_if rows (drop n ts)) (knowns rows xs))) (drop_past js n h) ∙ ap (least now) (none_wanted s (types_if rows (drop n ts)))) ∙ e

pub wanted_within : (rows : List Row) (ts : List (Option ℕ)) (i : ℕ) → AllIfWithin rows ts → i < length ts → IfWithin rows (get_or ts i None)
wanted_within rows [] i w h = absurd (omega arith)
wanted_within rows (x ∷ ts) zero w h = w.0
wanted_within rows (x ∷ ts) (suc i) w h = wanted_within rows ts i w.1 (omega arith)

pub part_within : (rows : List Row) (js : List Judged) (i : ℕ) (j : Judged) → JudgedWithin rows js → i < length js → j ≡ get_or js i j → TypedWithin rows j.typed
part_within rows [] i j w h is = absurd (omega arith)
part_within rows (x ∷ js) zero j w h is = subst (λ (y : Judged). TypedWithin rows y.typed) (sym is) w.0
part_within rows (x ∷ js) (suc i) j w h is = part_within rows js i j w.1 (omega arith) is

fits_at : (rows : List Row) (ts : List (Option ℕ)) (js : List Judged) (i : ℕ) (j : Judged) → i < length ts → i < length js → j ≡ get_or js i j
    → fits_all (types_if rows (drop i ts)) (knowns rows (drop i js)) ≡ (fits_if (type_if rows (get_or ts i None)) (known rows j).typed && fits_all (types_if rows (drop (suc i) ts)) (knowns rows (drop (suc i) js)))
fits_at rows ts js i j h k q =
    ap (λ (xs : List (Option ℕ)). fits_all (types_if rows xs) (knowns rows (drop i js))) (drop-cons ts i None h) ∙ ap (λ (xs : List Judged). fits_all (types_if rows (get_or ts i None ∷ drop (suc i) ts)) (knowns rows xs)) (drop_at js i j k q)

pub fits_next : (rows : List Row) (ts : List (Option ℕ)) (js : List Judged) (i : ℕ) (j : Judged) (whole : Bool) → i < length js → length ts ≡ length js → j ≡ get_or js i j → fits_if (type_if rows (get_or ts i None)) (known rows j).typed ≡ true
    → fits_all (types_if rows (drop i ts)) (knowns rows (drop i js)) ≡ whole → fits_all (types_if rows (drop (i + 1) ts)) (knowns rows (drop (i + 1) js)) ≡ whole
fits_next rows ts js i j whole k l q f e =
    let rest : ℕ → Bool = λ m. fits_all (types_if rows (drop m ts)) (knowns rows (drop m js)) in
    let n : i + 1 ≡ suc i = omega arith in
    ap rest n ∙ sym (fits_at rows ts js i j (omega arith) k q ∙ ap (λ (b : Bool). b && rest (suc i)) f) ∙ e

pub fits_not : (rows : List Row) (ts : List (Option ℕ)) (js : List Judged) (i : ℕ) (j : Judged) (whole : Bool) → i < length js → length ts ≡ length js → j ≡ get_or js i j → fits_if (type_if rows (get_or ts i None)) (known rows j).typed ≡ false
    → fits_all (types_if rows (drop i ts)) (knowns rows (drop i js)) ≡ whole → false ≡ whole
fits_not rows ts js i j whole k l q f e =
    let rest : ℕ → Bool = λ m. fits_all (types_if rows (drop m ts)) (knowns rows (drop m js)) in
    sym (fits_at rows ts js i j (omega arith) k q ∙ ap (λ (b : Bool). b && rest (suc i)) f) ∙ e

pub fits_end : (rows : List Row) (ts : List (Option ℕ)) (js : List Judged) (i : ℕ) (whole : Bool) → length js ≤ i → length ts ≡ length js → fits_all (types_if rows (drop i ts)) (knowns rows (drop i js)) ≡ whole → true ≡ whole
fits_end rows ts js i whole k l e =
    sym (ap (λ (xs : List (Option ℕ)). fits_all (types_if rows xs) (knowns rows (drop i js))) (drop_past ts i (omega arith)) ∙ ap (λ (xs : List Judged). fits_all [] (knowns rows xs)) (drop_past js i k)) ∙ e

pub fits_other : (rows : List Row) (ts : List (Option ℕ)) (js : List Judged) → (length ts ≡ length js → ⊥) → false ≡ fits_all (types_if rows ts) (knowns rows js)
fits_other rows [] [] h = absurd (h refl)
fits_other rows [] (j ∷ js) h = refl
fits_other rows (t ∷ ts) [] h = refl
fits_other rows (t ∷ ts) (j ∷ js) h = none (fits_if (type_if rows t) (known rows j).typed) (fits_all (types_if rows ts) (knowns rows js)) (fits_other rows ts js (λ e. h (ap suc e)))
  where
    none : (a b : Bool) → false ≡ b → false ≡ (a && b)
    none true b e = e
    none false b e = refl

one_passed : (t : Option TypeOf) (j : rules.Judged) (b : Bool) (es : Option PlainExprs) → then_expr (fitting_if t j) (if b then es else None) ≡ (if (fits_if t j.typed && b) then then_expr j.typed es else None)
one_passed None j b es = refl
one_passed (Some t) j b es = typed t j.typed b es
  where
    same : (e : PlainExpr) (c b : Bool) (es : Option PlainExprs) → then_expr (if c then Some e else None) (if b then es else None) ≡ (if (c && b) then then_expr (Some e) es else None)
    same e true true es = refl
    same e true false es = refl
    same e false b es = refl

    typed : (t : TypeOf) (o : Option PlainExpr) (b : Bool) (es : Option PlainExprs) → then_expr (rules.fitting_of t o) (if b then es else None) ≡ (if (fits_if (Some t) o && b) then then_expr o es else None)
    typed t None b es = refl
    typed t (Some e) b es = same e (same_type (label_of e) t) b es

-- the arguments, where each has its type
pub passed_is : (gs : Option TypeOf) (ms : List Member) (js : List rules.Judged) → passed gs ms js ≡ (if fits_all (wanted_types gs ms) js then all_typed js else None)
passed_is gs [] [] = refl
passed_is gs [] (j ∷ js) = refl
passed_is gs (m ∷ ms) [] = refl
passed_is gs (m ∷ ms) (j ∷ js) = ap (then_expr (fitting_if (under gs m.1) j)) (passed_is gs ms js) ∙ one_passed (under gs m.1) j (fits_all (wanted_types gs ms) js) (all_typed js)

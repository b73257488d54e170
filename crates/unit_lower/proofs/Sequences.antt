-- Words in slots, one after the other.
use Rattle.std.proofs.Common.{◌≡◌, ℕ, zero, suc, ◌+◌, ◌-◌, ◌<◌, ◌≤◌, List, [], ◌∷◌, ◌++◌, length, map, refl, sym, ap, ◌∙◌, arith, append_assoc}
use Rattle.unit_ir.specs.Exprs.{PlainExpr, load, seq, PlainExprs, exprs}
use Rattle.unit_ir.specs.declared.expr.IrExpr.{IrExpr}
use Rattle.unit_ir.specs.ExprView.{expr_view, exprs_of, exprs_view}
use Rattle.std.proofs.lemmas.List.{length-append, map-append, append-nil}
use Rattle.unit_lower.specs.Lowering.{loads, sequence}

-- the loads as a list
abbrev pub loads_list : ℕ → ℕ → List PlainExpr
loads_list slot zero = []
loads_list slot (suc n) = load slot ∷ loads_list (slot + 1) n

pub loads_is : (slot n : ℕ) → exprs_of (loads_list slot n) ≡ loads slot n
loads_is slot zero = refl
loads_is slot (suc n) = ap (λ es. exprs (load slot) es) (loads_is (slot + 1) n)

pub sequence_of_more : (es : List IrExpr) → (length es ≡ 1 → ⊥) → seq (exprs_view es) ≡ sequence (exprs_view es)
sequence_of_more [] h = refl
sequence_of_more (e ∷ []) h = absurd (h refl)
sequence_of_more (e ∷ f ∷ es) h = refl

pub sequence_of_one : (all front : List IrExpr) (only : IrExpr) → all ≡ front ++ only ∷ [] → length all ≡ 1 → expr_view only ≡ sequence (exprs_view all)
sequence_of_one all [] only is one = ap (λ es. sequence (exprs_view es)) (sym is)
sequence_of_one all (e ∷ front) only is one =
    let more : length all ≡ suc (length (front ++ only ∷ [])) = ap length is in
    absurd (omega (arith, more, one, length-append front (only ∷ [])))

first_load : (slot n end : ℕ) → end ≡ slot + suc n → loads_list slot (end - slot) ≡ load slot ∷ loads_list (slot + 1) (end - (slot + 1))
first_load slot n end is =
    let a : end - slot ≡ suc n = omega (arith, is) in
    let b : end - (slot + 1) ≡ n = omega (arith, is) in
    ap (λ k. loads_list slot k) a ∙ ap (λ k. load slot ∷ loads_list (slot + 1) k) (sym b)

-- one more of the loads up to end
pub one_load : (made : List IrExpr) (slot end : ℕ) (all : List PlainExpr) (e : IrExpr) → slot < end → expr_view e ≡ load slot
    → map expr_view made ++ loads_list slot (end - slot) ≡ all → map expr_view (made ++ e ∷ []) ++ loads_list (slot + 1) (end - (slot + 1)) ≡ all
one_load made slot end all e below is so_far =
    let here = first_load slot (end - (slot + 1)) end (omega (arith, below)) in
    ap (λ l. l ++ loads_list (slot + 1) (end - (slot + 1))) (map-append expr_view made (e ∷ []))
    ∙ append_assoc (map expr_view made) (expr_view e ∷ []) (loads_list (slot + 1) (end - (slot + 1)))
    ∙ ap (λ x. map expr_view made ++ (x ∷ loads_list (slot + 1) (end - (slot + 1)))) is
    ∙ ap (λ l. map expr_view made ++ l) (sym here)
    ∙ so_far

-- all of them
pub all_loads : (made : List IrExpr) (slot end first count : ℕ) → end ≤ slot → map expr_view made ++ loads_list slot (end - slot) ≡ loads_list first count → exprs_view made ≡ loads first count
all_loads made slot end first count over so_far =
    let none : end - slot ≡ 0 = omega (arith, over) in
    ap exprs_of (sym (append-nil (map expr_view made)) ∙ ap (λ k. map expr_view made ++ loads_list slot k) (sym none) ∙ so_far) ∙ loads_is first count

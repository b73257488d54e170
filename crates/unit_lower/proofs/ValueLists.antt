-- Parts and arguments, lowered one after the other.
use Rattle.std.proofs.Common.{◌≡◌, ℕ, suc, ◌+◌, ◌<◌, ◌≤◌, Bool, true, false, ◌||◌, List, [], ◌∷◌, ◌++◌, length, map, drop, get_or, refl, sym, ap, ◌∙◌, subst, arith, inl, inr}
use Rattle.std.proofs.lemmas.Bool.{or_cases, or_left, lt-ltb, and_parts}
use Rattle.std.proofs.Math.Seq.{drop-cons}
use Rattle.std.proofs.Math.Numerals.{suc-eq-add-one}
use Rattle.std.proofs.Math.ListN.{drop_of_length-le}
use Rattle.unit_input.specs.declared.expr.UnitExpr.{UnitExpr}
use Rattle.unit_input.specs.Exprs.{PlainExpr, PlainExprs, no_exprs, exprs}
use Rattle.unit_input.specs.InputView.{expr_view, exprs_view}
use Rattle.unit_input.specs.Widths.{Scope, width, total_width}
use Rattle.unit_input.specs.Rules.{is_expr, are_exprs}
use Rattle.unit_ir.specs.declared.expr.IrExpr.{IrExpr}
use Rattle.unit_ir.specs.Exprs as ir
use Rattle.unit_ir.specs.ExprView as ir_view
use Rattle.unit_lower.specs.declared.value.Value.{Value}
use Rattle.unit_lower.specs.Slots.{local_slots}
use Rattle.unit_lower.specs.Wide.{is_over, is_wide, are_wide}
use Rattle.unit_lower.specs.Lowering.{lower, lower_all}
use Rattle.unit_lower.specs.ValueView.{made_of, width_of, IsValueOf, is_over_expr, are_over_exprs}
use Rattle.unit_lower.proofs.Nexts.{next_up, nexts_up}
use Rattle.unit_lower.proofs.Over.{over_up}

-- parts that are made, and then others
abbrev pub before : List ir.PlainExpr → ir.PlainExprs → ir.PlainExprs
before [] es = es
before (x ∷ xs) es = ir.exprs x (before xs es)

before_one : (xs : List ir.PlainExpr) (x : ir.PlainExpr) (es : ir.PlainExprs) → before (xs ++ x ∷ []) es ≡ before xs (ir.exprs x es)
before_one [] x es = refl
before_one (y ∷ xs) x es = ap (ir.exprs y) (before_one xs x es)

before_none : (xs : List ir.PlainExpr) → before xs ir.no_exprs ≡ ir_view.exprs_of xs
before_none [] = refl
before_none (x ∷ xs) = ap (ir.exprs x) (before_none xs)

before_more : (made : List IrExpr) (x : IrExpr) (es : ir.PlainExprs) → before (map ir_view.expr_view (made ++ x ∷ [])) es ≡ before (map ir_view.expr_view made) (ir.exprs (ir_view.expr_view x) es)
before_more [] x es = refl
before_more (y ∷ made) x es = ap (ir.exprs (ir_view.expr_view y)) (before_more made x es)

-- the list is es from the slot k on; what is left of it is rest, from the slot next on
pub record SoFar (s : Scope) (es : PlainExprs) (k : ℕ) (made : List IrExpr) (wide next : ℕ) (rest : PlainExprs) : Type 0 where
  pub rules : are_exprs s rest ≡ true
  pub above : local_slots s ≤ next
  pub all : before (map ir_view.expr_view made) (lower_all s rest next).made ≡ (lower_all s es k).made
  pub last : (lower_all s rest next).next ≡ (lower_all s es k).next
  pub total : wide + total_width s rest ≡ total_width s es
  pub narrow : are_wide s rest ≡ are_wide s es

pub from_start : (s : Scope) (es : PlainExprs) (k : ℕ) → are_exprs s es ≡ true → local_slots s ≤ k → SoFar s es k [] 0 k es
from_start s es k rules above = record { rules = rules; above = above; all = refl; last = refl; total = omega arith; narrow = refl }

one_narrow : (a b : Bool) → a ≡ false → (a || b) ≡ b
one_narrow false b h = refl
one_narrow true b h = cc

pub one_more : (s : Scope) (es : PlainExprs) (k : ℕ) (made : List IrExpr) (wide next : ℕ) (e : PlainExpr) (more : PlainExprs) (v : Value) (x : IrExpr) (after wider : ℕ)
    → SoFar s es k made wide next (exprs e more) → IsValueOf s e next v → after ≡ (lower s e next).next → ir_view.expr_view x ≡ made_of v → wider ≡ wide + width_of v
    → SoFar s es k (made ++ x ∷ []) wider after more
one_more s es k made wide next e more v x after wider so of after_is x_is wider_is = record {
  rules = (and_parts (is_expr s e) (are_exprs s more) so.rules).1;
  above = let up = next_up s e next in let low = so.above in omega (arith, up, low, after_is);
  all =
      before_more made x (lower_all s more after).made
      ∙ ap (λ y. before (map ir_view.expr_view made) (ir.exprs y (lower_all s more after).made)) (x_is ∙ of.made)
      ∙ ap (λ n. before (map ir_view.expr_view made) (ir.exprs (lower s e next).made (lower_all s more n).made)) after_is
      ∙ so.all;
  last = ap (λ n. (lower_all s more n).next) after_is ∙ so.last;
  total = let t = so.total in let w = of.width in omega (arith, t, w, wider_is);
  narrow = sym (one_narrow (is_wide s e) (are_wide s more) of.narrow) ∙ so.narrow;
}

-- which of three are true
first_true : (a b c : Bool) → a ≡ true → (a || b || c) ≡ true
first_true true b c h = refl
first_true false b c h = cc

second_true : (a b c : Bool) → b ≡ true → (a || b || c) ≡ true
second_true true b c h = refl
second_true false true c h = refl
second_true false false c h = cc

third_true : (a b c : Bool) → c ≡ true → (a || b || c) ≡ true
third_true true b c h = refl
third_true false true c h = refl
third_true false false c h = h

-- a part that is too wide
part_over : (s : Scope) (es : PlainExprs) (k : ℕ) (made : List IrExpr) (wide next : ℕ) (e : PlainExpr) (more : PlainExprs) → SoFar s es k made wide next (exprs e more) → is_over_expr s e next ≡ true → are_over_exprs s es k ≡ true
part_over s es k made wide next e more so h = elim (or_cases (is_wide s e) (is_over (lower s e next).next) h) [
  | inl w ↦ second_true (is_over (total_width s es)) (are_wide s es) (is_over (lower_all s es k).next) (sym so.narrow ∙ or_left (is_wide s e) (are_wide s more) w)
  | inr o ↦
      let up = nexts_up s more (lower s e next).next in
      third_true (is_over (total_width s es)) (are_wide s es) (is_over (lower_all s es k).next)
      (over_up (lower s e next).next (lower_all s es k).next (let l = so.last in omega (arith, up, l)) o)
]

-- parts that are too wide together
total_over : (s : Scope) (es : PlainExprs) (k : ℕ) (made : List IrExpr) (wide next : ℕ) (e : PlainExpr) (more : PlainExprs) (v : Value) → SoFar s es k made wide next (exprs e more) → IsValueOf s e next v → 255 < wide + width_of v → are_over_exprs s es k ≡ true
total_over s es k made wide next e more v so of over =
    first_true (is_over (total_width s es)) (are_wide s es) (is_over (lower_all s es k).next)
    (lt-ltb 255 (total_width s es) (let t = so.total in let w = of.width in omega (arith, t, w, over)))

-- IN THE LOOP, whose place in the list is i

here : (es : List UnitExpr) (i : ℕ) (d : UnitExpr) → i < length es → exprs_view (drop i es) ≡ exprs (expr_view (get_or es i d)) (exprs_view (drop (i + 1) es))
here es i d h = ap exprs_view (drop-cons es i d h) ∙ ap (λ j. exprs (expr_view (get_or es i d)) (exprs_view (drop j es))) (suc-eq-add-one i)

pub rules_here : (s : Scope) (all : PlainExprs) (k : ℕ) (made : List IrExpr) (wide next : ℕ) (es : List UnitExpr) (i : ℕ) (d : UnitExpr) → i < length es → SoFar s all k made wide next (exprs_view (drop i es)) → is_expr s (expr_view (get_or es i d)) ≡ true
rules_here s all k made wide next es i d h so =
    (and_parts (is_expr s (expr_view (get_or es i d))) (are_exprs s (exprs_view (drop (i + 1) es))) (ap (are_exprs s) (sym (here es i d h)) ∙ so.rules)).0

pub more_here : (s : Scope) (all : PlainExprs) (k : ℕ) (made : List IrExpr) (wide next : ℕ) (es : List UnitExpr) (i : ℕ) (d : UnitExpr) (v : Value) (x : IrExpr) (after wider : ℕ)
    → i < length es → SoFar s all k made wide next (exprs_view (drop i es)) → IsValueOf s (expr_view (get_or es i d)) next v → after ≡ (lower s (expr_view (get_or es i d)) next).next
    → ir_view.expr_view x ≡ made_of v → wider ≡ wide + width_of v → SoFar s all k (made ++ x ∷ []) wider after (exprs_view (drop (i + 1) es))
more_here s all k made wide next es i d v x after wider h so of after_is x_is wider_is =
    one_more s all k made wide next (expr_view (get_or es i d)) (exprs_view (drop (i + 1) es)) v x after wider (subst (λ r. SoFar s all k made wide next r) (here es i d h) so) of after_is x_is wider_is

pub over_here : (s : Scope) (all : PlainExprs) (k : ℕ) (made : List IrExpr) (wide next : ℕ) (es : List UnitExpr) (i : ℕ) (d : UnitExpr)
    → i < length es → SoFar s all k made wide next (exprs_view (drop i es)) → is_over_expr s (expr_view (get_or es i d)) next ≡ true → are_over_exprs s all k ≡ true
over_here s all k made wide next es i d h so over =
    part_over s all k made wide next (expr_view (get_or es i d)) (exprs_view (drop (i + 1) es)) (subst (λ r. SoFar s all k made wide next r) (here es i d h) so) over

pub total_here : (s : Scope) (all : PlainExprs) (k : ℕ) (made : List IrExpr) (wide next : ℕ) (es : List UnitExpr) (i : ℕ) (d : UnitExpr) (v : Value)
    → i < length es → SoFar s all k made wide next (exprs_view (drop i es)) → IsValueOf s (expr_view (get_or es i d)) next v → 255 < wide + width_of v → are_over_exprs s all k ≡ true
total_here s all k made wide next es i d v h so of over =
    total_over s all k made wide next (expr_view (get_or es i d)) (exprs_view (drop (i + 1) es)) v (subst (λ r. SoFar s all k made wide next r) (here es i d h) so) of over

nothing_left : (es : List UnitExpr) (i : ℕ) → length es ≤ i → exprs_view (drop i es) ≡ no_exprs
nothing_left es i h = ap exprs_view (drop_of_length-le es h)

-- what the list is at its end
pub record Whole (s : Scope) (es : PlainExprs) (k : ℕ) (made : List IrExpr) (wide next : ℕ) : Type 0 where
  pub made_is : ir_view.exprs_view made ≡ (lower_all s es k).made
  pub next_is : next ≡ (lower_all s es k).next
  pub width_is : total_width s es ≡ wide
  pub narrow : are_wide s es ≡ false

pub at_end : (s : Scope) (all : PlainExprs) (k : ℕ) (made : List IrExpr) (wide next : ℕ) (es : List UnitExpr) (i : ℕ) → length es ≤ i → SoFar s all k made wide next (exprs_view (drop i es)) → Whole s all k made wide next
at_end s all k made wide next es i h so =
    let e : SoFar s all k made wide next no_exprs = subst (λ r. SoFar s all k made wide next r) (nothing_left es i h) so in
    record {
      made_is = sym (before_none (map ir_view.expr_view made)) ∙ e.all;
      next_is = e.last;
      width_is = let t = e.total in omega (arith, t);
      narrow = sym e.narrow;
    }

-- the same of the item that stands there

pub over_item : (s : Scope) (all : PlainExprs) (k : ℕ) (made : List IrExpr) (wide next : ℕ) (es : List UnitExpr) (i : ℕ) (item : UnitExpr)
    → i < length es → SoFar s all k made wide next (exprs_view (drop i es)) → item ≡ get_or es i item → is_over_expr s (expr_view item) next ≡ true → are_over_exprs s all k ≡ true
over_item s all k made wide next es i item h so is over = over_here s all k made wide next es i item h so (ap (λ e. is_over_expr s (expr_view e) next) (sym is) ∙ over)

pub more_item : (s : Scope) (all : PlainExprs) (k : ℕ) (made now : List IrExpr) (wide next : ℕ) (es : List UnitExpr) (i : ℕ) (item : UnitExpr) (v : Value) (x : IrExpr) (after wider : ℕ)
    → i < length es → SoFar s all k made wide next (exprs_view (drop i es)) → item ≡ get_or es i item → IsValueOf s (expr_view item) next v → after ≡ (lower s (expr_view item) next).next
    → ir_view.expr_view x ≡ made_of v → wider ≡ wide + width_of v → now ≡ made ++ x ∷ [] → SoFar s all k now wider after (exprs_view (drop (i + 1) es))
more_item s all k made now wide next es i item v x after wider h so is of after_is x_is wider_is now_is =
    subst (λ l. SoFar s all k l wider after (exprs_view (drop (i + 1) es))) (sym now_is)
    (more_here s all k made wide next es i item v x after wider h so (subst (λ e. IsValueOf s (expr_view e) next v) is of) (after_is ∙ ap (λ e. (lower s (expr_view e) next).next) is) x_is wider_is)

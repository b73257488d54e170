-- What is made of expressions, one after the other.
use Rattle.std.proofs.Common.{◌≡◌, ℕ, suc, ◌+◌, ◌<◌, ◌≤◌, true, List, [], ◌∷◌, ◌++◌, length, map, drop, get_or, refl, sym, ap, ◌∙◌, subst, arith}
use Rattle.std.proofs.lemmas.Bool.{and_parts}
use Rattle.std.proofs.lemmas.List.{length-append}
use Rattle.std.proofs.Math.Seq.{drop-cons}
use Rattle.std.proofs.Math.Numerals.{suc-eq-add-one}
use Rattle.std.proofs.Math.ListN.{drop_of_length-le}
use Rattle.lar_typed.specs.declared.expr.TypedExpr.{TypedExpr}
use Rattle.lar_typed.specs.declared.expr.Node.TheVariants as node
use Rattle.lar_typed.specs.declared.op.BinaryOp.{BinaryOp}
use Rattle.lar_typed.specs.Calls.{expr_calls, exprs_calls}
use Rattle.lar_typed.specs.Exprs.{ExprOf, ExprsOf}
use Rattle.lar_typed.specs.Exprs as expr
use Rattle.lar_typed.specs.ExprView.{expr_view, exprs_view}
use Rattle.lar_typed.proofs.ExprEquations.{at_binary}
use Rattle.lar_typed.proofs.SameTypes.{both_true}
use Rattle.unit_input.specs.declared.expr.UnitExpr.{UnitExpr}
use Rattle.unit_input.specs.Exprs.{PlainExpr, PlainExprs, no_exprs, exprs}
use Rattle.unit_input.specs.Exprs as unit
use Rattle.unit_input.specs.InputView as unit_view
use Rattle.closed_input.specs.Bodies.{binary_of}
use Rattle.closed_input.specs.Held.{expr_words, exprs_words}
use Rattle.unit_close.specs.Sight.{Sight}
use Rattle.unit_close.specs.Made.{made_expr, made_exprs}
use Rattle.unit_close.specs.Ready.{Ready, AllReady}
use Rattle.unit_close.specs.States.{IsMade, AreMade}

-- ---- an operator between two operands
binary_plain : (x : Sight) (i n m t : ℕ) (a b : ExprOf ℕ) (op : BinaryOp) (l r : PlainExpr) → IsMade x i a n l → IsMade x n b m r → IsMade x i (expr.binary t op a b) m (unit.binary (binary_of op) l r)
binary_plain x i n m t a b op l r p q =
    let len : length (expr_calls a ++ expr_calls b) ≡ length (expr_calls a) + length (expr_calls b) = length-append (expr_calls a) (expr_calls b) in
    let p_last : n ≡ i + length (expr_calls a) = p.last in
    let q_last : m ≡ n + length (expr_calls b) = q.last in
    record {
      is = ap (λ (y : PlainExpr). unit.binary (binary_of op) y r) p.is ∙ ap (unit.binary (binary_of op) (made_expr x i a)) (q.is ∙ ap (λ (k : ℕ). made_expr x k b) p_last);
      last = omega arith;
      held = both_true (expr_words l) (expr_words r) p.held q.held;
    }

pub binary_made : (x : Sight) (i n m : ℕ) (e a b sa sb : TypedExpr) (op : BinaryOp) (l r y : PlainExpr) → e.node ≡ node.Binary op a b → sa ≡ a → sb ≡ b → IsMade x i (expr_view sa) n l → IsMade x n (expr_view sb) m r → y ≡ unit.binary (binary_of op) l r → IsMade x i (expr_view e) m y
binary_made x i n m e a b sa sb op l r y is p q ma mb same =
    subst (λ (z : PlainExpr). IsMade x i (expr_view e) m z) (sym same)
    (subst (λ (w : ExprOf ℕ). IsMade x i w m (unit.binary (binary_of op) l r)) (sym (at_binary e op a b is))
    (binary_plain x i n m e.of (expr_view a) (expr_view b) op l r (subst (λ (z : TypedExpr). IsMade x i (expr_view z) n l) p ma) (subst (λ (z : TypedExpr). IsMade x n (expr_view z) m r) q mb)))

-- ---- lists
-- parts that are made, and then others
abbrev pub before : List PlainExpr → PlainExprs → PlainExprs
before [] es = es
before (y ∷ ys) es = exprs y (before ys es)

before_none : (xs : List PlainExpr) → before xs no_exprs ≡ unit_view.exprs_of xs
before_none [] = refl
before_none (x ∷ xs) = ap (exprs x) (before_none xs)

before_more : (made : List UnitExpr) (y : UnitExpr) (es : PlainExprs) → before (map unit_view.expr_view (made ++ y ∷ [])) es ≡ before (map unit_view.expr_view made) (exprs (unit_view.expr_view y) es)
before_more [] y es = refl
before_more (z ∷ made) y es = ap (exprs (unit_view.expr_view z)) (before_more made y es)

held_more : (made : List UnitExpr) (y : UnitExpr) → exprs_words (unit_view.exprs_view made) ≡ true → expr_words (unit_view.expr_view y) ≡ true → exprs_words (unit_view.exprs_view (made ++ y ∷ [])) ≡ true
held_more [] y p q = both_true (expr_words (unit_view.expr_view y)) true q refl
held_more (z ∷ made) y p q =
    let r = and_parts (expr_words (unit_view.expr_view z)) (exprs_words (unit_view.exprs_view made)) p in
    both_true (expr_words (unit_view.expr_view z)) (exprs_words (unit_view.exprs_view (made ++ y ∷ []))) r.0 (held_more made y r.1 q)

-- what is left of the list es, whose calls are numbered from i on, is rest, whose calls are numbered from next on
pub record SoFar (x : Sight) (i : ℕ) (es : ExprsOf ℕ) (made : List UnitExpr) (next : ℕ) (rest : ExprsOf ℕ) : Type 0 where
  pub ready : AllReady x next rest
  pub all : before (map unit_view.expr_view made) (made_exprs x next rest) ≡ made_exprs x i es
  pub last : next + length (exprs_calls rest) ≡ i + length (exprs_calls es)
  pub held : exprs_words (unit_view.exprs_view made) ≡ true

pub from_start : (x : Sight) (i : ℕ) (es : ExprsOf ℕ) → AllReady x i es → SoFar x i es [] i es
from_start x i es ready = record { ready = ready; all = refl; last = refl; held = refl }

pub one_more : (x : Sight) (i : ℕ) (es : ExprsOf ℕ) (made : List UnitExpr) (next : ℕ) (e : ExprOf ℕ) (rest : ExprsOf ℕ) (y : UnitExpr) (after : ℕ) → SoFar x i es made next (expr.exprs e rest) → IsMade x next e after (unit_view.expr_view y) → SoFar x i es (made ++ y ∷ []) after rest
one_more x i es made next e rest y after so of =
    let len : length (expr_calls e ++ exprs_calls rest) ≡ length (expr_calls e) + length (exprs_calls rest) = length-append (expr_calls e) (exprs_calls rest) in
    let so_last : next + length (expr_calls e ++ exprs_calls rest) ≡ i + length (exprs_calls es) = so.last in
    let of_last : after ≡ next + length (expr_calls e) = of.last in
    record {
      ready = subst (λ (n : ℕ). AllReady x n rest) (sym of_last) (so.ready).1;
      all =
          before_more made y (made_exprs x after rest)
          ∙ ap (λ (z : PlainExpr). before (map unit_view.expr_view made) (exprs z (made_exprs x after rest))) of.is
          ∙ ap (λ (n : ℕ). before (map unit_view.expr_view made) (exprs (made_expr x next e) (made_exprs x n rest))) of_last
          ∙ so.all;
      last = omega arith;
      held = held_more made y so.held of.held;
    }

all_made : (x : Sight) (i : ℕ) (es : ExprsOf ℕ) (made : List UnitExpr) (next : ℕ) → SoFar x i es made next expr.no_exprs → AreMade x i es next (unit_view.exprs_view made)
all_made x i es made next so =
    let so_last : next + 0 ≡ i + length (exprs_calls es) = so.last in
    record { are = sym (before_none (map unit_view.expr_view made)) ∙ so.all; last = omega arith; held = so.held }

item_rest : (es : List TypedExpr) (k : ℕ) (e : TypedExpr) → k < length es → e ≡ get_or es k e → exprs_view (drop k es) ≡ expr.exprs (expr_view e) (exprs_view (drop (suc k) es))
item_rest es k e room is = ap exprs_view (drop-cons es k e room) ∙ ap (λ (z : TypedExpr). expr.exprs (expr_view z) (exprs_view (drop (suc k) es))) (sym is)

pub item_ready : (x : Sight) (i : ℕ) (es : List TypedExpr) (made : List UnitExpr) (next k : ℕ) (e : TypedExpr) → k < length es → SoFar x i (exprs_view es) made next (exprs_view (drop k es)) → e ≡ get_or es k e → Ready x next (expr_view e)
item_ready x i es made next k e room so is = (subst (AllReady x next) (item_rest es k e room is) so.ready).0

pub more_item : (x : Sight) (i : ℕ) (es : List TypedExpr) (made now : List UnitExpr) (next k after : ℕ) (e : TypedExpr) (y : UnitExpr) → k < length es → SoFar x i (exprs_view es) made next (exprs_view (drop k es)) → e ≡ get_or es k e → IsMade x next (expr_view e) after (unit_view.expr_view y) → now ≡ made ++ y ∷ [] → SoFar x i (exprs_view es) now after (exprs_view (drop (k + 1) es))
more_item x i es made now next k after e y room so is of put =
    subst (λ (ys : List UnitExpr). SoFar x i (exprs_view es) ys after (exprs_view (drop (k + 1) es))) (sym put)
    (subst (λ (j : ℕ). SoFar x i (exprs_view es) (made ++ y ∷ []) after (exprs_view (drop j es))) (suc-eq-add-one k)
    (one_more x i (exprs_view es) made next (expr_view e) (exprs_view (drop (suc k) es)) y after (subst (λ (r : ExprsOf ℕ). SoFar x i (exprs_view es) made next r) (item_rest es k e room is) so) of))

pub at_end : (x : Sight) (i : ℕ) (es : List TypedExpr) (made : List UnitExpr) (next k : ℕ) → length es ≤ k → SoFar x i (exprs_view es) made next (exprs_view (drop k es)) → AreMade x i (exprs_view es) next (unit_view.exprs_view made)
at_end x i es made next k over so = all_made x i (exprs_view es) made next (subst (λ (xs : List TypedExpr). SoFar x i (exprs_view es) made next (exprs_view xs)) (drop_of_length-le es over) so)

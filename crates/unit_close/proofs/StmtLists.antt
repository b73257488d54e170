-- What is made of statements, one after the other.
use Rattle.std.proofs.Common.{◌≡◌, ℕ, suc, ◌+◌, ◌<◌, ◌≤◌, true, List, [], ◌∷◌, ◌++◌, length, map, drop, get_or, refl, sym, ap, ◌∙◌, subst, arith}
use Rattle.std.proofs.lemmas.Bool.{and_parts}
use Rattle.std.proofs.lemmas.List.{length-append}
use Rattle.std.proofs.Math.Seq.{drop-cons}
use Rattle.std.proofs.Math.Numerals.{suc-eq-add-one}
use Rattle.std.proofs.Math.ListN.{drop_of_length-le}
use Rattle.lar_typed.specs.declared.stmt.TypedStmt.{TypedStmt}
use Rattle.lar_typed.specs.Calls.{stmt_calls, stmts_calls}
use Rattle.lar_typed.specs.Stmts.{StmtOf, StmtsOf}
use Rattle.lar_typed.specs.Stmts as stmt
use Rattle.lar_typed.specs.StmtView.{stmt_view, stmts_view}
use Rattle.lar_typed.proofs.SameTypes.{both_true}
use Rattle.unit_input.specs.declared.stmt.UnitStmt.{UnitStmt}
use Rattle.unit_input.specs.Stmts.{PlainStmt, PlainStmts, no_stmts, stmts}
use Rattle.unit_input.specs.InputView as unit_view
use Rattle.closed_input.specs.Held.{stmt_words, stmts_words}
use Rattle.unit_close.specs.Sight.{Sight}
use Rattle.unit_close.specs.Made.{made_stmt, made_stmts}
use Rattle.unit_close.specs.Ready.{StmtReady, StmtsReady}
use Rattle.unit_close.specs.States.{IsMadeStmt, AreMadeStmts}

-- ---- lists
-- parts that are made, and then others
abbrev pub before : List PlainStmt → PlainStmts → PlainStmts
before [] es = es
before (y ∷ ys) es = stmts y (before ys es)

before_none : (xs : List PlainStmt) → before xs no_stmts ≡ unit_view.stmts_of xs
before_none [] = refl
before_none (x ∷ xs) = ap (stmts x) (before_none xs)

before_more : (made : List UnitStmt) (y : UnitStmt) (es : PlainStmts) → before (map unit_view.stmt_view (made ++ y ∷ [])) es ≡ before (map unit_view.stmt_view made) (stmts (unit_view.stmt_view y) es)
before_more [] y es = refl
before_more (z ∷ made) y es = ap (stmts (unit_view.stmt_view z)) (before_more made y es)

held_more : (made : List UnitStmt) (y : UnitStmt) → stmts_words (unit_view.stmts_view made) ≡ true → stmt_words (unit_view.stmt_view y) ≡ true → stmts_words (unit_view.stmts_view (made ++ y ∷ [])) ≡ true
held_more [] y p q = both_true (stmt_words (unit_view.stmt_view y)) true q refl
held_more (z ∷ made) y p q =
    let r = and_parts (stmt_words (unit_view.stmt_view z)) (stmts_words (unit_view.stmts_view made)) p in
    both_true (stmt_words (unit_view.stmt_view z)) (stmts_words (unit_view.stmts_view (made ++ y ∷ []))) r.0 (held_more made y r.1 q)

-- what is left of the list es, whose calls are numbered from i on, is rest, whose calls are numbered from next on
pub record SoFar (x : Sight) (i : ℕ) (es : StmtsOf ℕ) (made : List UnitStmt) (next : ℕ) (rest : StmtsOf ℕ) : Type 0 where
  pub ready : StmtsReady x next rest
  pub all : before (map unit_view.stmt_view made) (made_stmts x next rest) ≡ made_stmts x i es
  pub last : next + length (stmts_calls rest) ≡ i + length (stmts_calls es)
  pub held : stmts_words (unit_view.stmts_view made) ≡ true

pub from_start : (x : Sight) (i : ℕ) (es : StmtsOf ℕ) → StmtsReady x i es → SoFar x i es [] i es
from_start x i es ready = record { ready = ready; all = refl; last = refl; held = refl }

pub one_more : (x : Sight) (i : ℕ) (es : StmtsOf ℕ) (made : List UnitStmt) (next : ℕ) (e : StmtOf ℕ) (rest : StmtsOf ℕ) (y : UnitStmt) (after : ℕ) → SoFar x i es made next (stmt.stmts e rest) → IsMadeStmt x next e after (unit_view.stmt_view y) → SoFar x i es (made ++ y ∷ []) after rest
one_more x i es made next e rest y after so of =
    let len : length (stmt_calls e ++ stmts_calls rest) ≡ length (stmt_calls e) + length (stmts_calls rest) = length-append (stmt_calls e) (stmts_calls rest) in
    let so_last : next + length (stmt_calls e ++ stmts_calls rest) ≡ i + length (stmts_calls es) = so.last in
    let of_last : after ≡ next + length (stmt_calls e) = of.last in
    record {
      ready = subst (λ (n : ℕ). StmtsReady x n rest) (sym of_last) (so.ready).1;
      all =
          before_more made y (made_stmts x after rest)
          ∙ ap (λ (z : PlainStmt). before (map unit_view.stmt_view made) (stmts z (made_stmts x after rest))) of.is
          ∙ ap (λ (n : ℕ). before (map unit_view.stmt_view made) (stmts (made_stmt x next e) (made_stmts x n rest))) of_last
          ∙ so.all;
      last = omega arith;
      held = held_more made y so.held of.held;
    }

all_made : (x : Sight) (i : ℕ) (es : StmtsOf ℕ) (made : List UnitStmt) (next : ℕ) → SoFar x i es made next stmt.no_stmts → AreMadeStmts x i es next (unit_view.stmts_view made)
all_made x i es made next so =
    let so_last : next + 0 ≡ i + length (stmts_calls es) = so.last in
    record { are = sym (before_none (map unit_view.stmt_view made)) ∙ so.all; last = omega arith; held = so.held }

item_rest : (es : List TypedStmt) (k : ℕ) (e : TypedStmt) → k < length es → e ≡ get_or es k e → stmts_view (drop k es) ≡ stmt.stmts (stmt_view e) (stmts_view (drop (suc k) es))
item_rest es k e room is = ap stmts_view (drop-cons es k e room) ∙ ap (λ (z : TypedStmt). stmt.stmts (stmt_view z) (stmts_view (drop (suc k) es))) (sym is)

pub item_ready : (x : Sight) (i : ℕ) (es : List TypedStmt) (made : List UnitStmt) (next k : ℕ) (e : TypedStmt) → k < length es → SoFar x i (stmts_view es) made next (stmts_view (drop k es)) → e ≡ get_or es k e → StmtReady x next (stmt_view e)
item_ready x i es made next k e room so is = (subst (StmtsReady x next) (item_rest es k e room is) so.ready).0

pub more_item : (x : Sight) (i : ℕ) (es : List TypedStmt) (made now : List UnitStmt) (next k after : ℕ) (e : TypedStmt) (y : UnitStmt) → k < length es → SoFar x i (stmts_view es) made next (stmts_view (drop k es)) → e ≡ get_or es k e → IsMadeStmt x next (stmt_view e) after (unit_view.stmt_view y) → now ≡ made ++ y ∷ [] → SoFar x i (stmts_view es) now after (stmts_view (drop (k + 1) es))
more_item x i es made now next k after e y room so is of put =
    subst (λ (ys : List UnitStmt). SoFar x i (stmts_view es) ys after (stmts_view (drop (k + 1) es))) (sym put)
    (subst (λ (j : ℕ). SoFar x i (stmts_view es) (made ++ y ∷ []) after (stmts_view (drop j es))) (suc-eq-add-one k)
    (one_more x i (stmts_view es) made next (stmt_view e) (stmts_view (drop (suc k) es)) y after (subst (λ (r : StmtsOf ℕ). SoFar x i (stmts_view es) made next r) (item_rest es k e room is) so) of))

pub at_end : (x : Sight) (i : ℕ) (es : List TypedStmt) (made : List UnitStmt) (next k : ℕ) → length es ≤ k → SoFar x i (stmts_view es) made next (stmts_view (drop k es)) → AreMadeStmts x i (stmts_view es) next (unit_view.stmts_view made)
at_end x i es made next k over so = all_made x i (stmts_view es) made next (subst (λ (xs : List TypedStmt). SoFar x i (stmts_view es) made next (stmts_view xs)) (drop_of_length-le es over) so)

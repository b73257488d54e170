-- Statements, lowered one after the other.
use Rattle.std.proofs.Common.{◌≡◌, ◌⊎◌, ℕ, ◌+◌, ◌<◌, ◌≤◌, Bool, true, false, ◌&&◌, ◌||◌, ◌==◌, nat_lt, List, [], ◌∷◌, ◌++◌, length, map, drop, get_or, Option, Some, None, refl, sym, ap, ◌∙◌, subst, arith, inl, inr}
use Rattle.std.specs.Prelude.{slice_index}
use Rattle.std.proofs.lemmas.Bool.{or_cases, or_left, or_right, and_parts, ltb-true}
use Rattle.std.proofs.Math.Seq.{drop-cons}
use Rattle.std.proofs.Math.Numerals.{suc-eq-add-one}
use Rattle.std.proofs.Math.ListN.{drop_of_length-le}
use Rattle.unit_input.specs.declared.expr.UnaryOp.TheVariants as unary_op
use Rattle.unit_input.specs.declared.expr.BinaryOp.{BinaryOp}
use Rattle.unit_input.specs.declared.expr.BinaryOp.TheVariants as binary_op
use Rattle.unit_input.specs.declared.stmt.UnitStmt.{UnitStmt}
use Rattle.unit_input.specs.Exprs as input_expr
use Rattle.unit_input.specs.Stmts.{PlainStmt, declare, assign, fork, loop, give, print, assert, eval, PlainStmts, no_stmts, stmts}
use Rattle.unit_input.specs.InputView.{stmt_view, stmts_view}
use Rattle.unit_input.specs.Widths.{Scope, width}
use Rattle.unit_input.specs.Assertions.{is_arithmetic, is_number, is_comparison, is_truth}
use Rattle.unit_input.specs.Rules.{is_part, is_expr, gives, is_stmt, are_stmts}
use Rattle.unit_ir.specs.declared.stmt.IrStmt.{IrStmt}
use Rattle.unit_ir.specs.Stmts as ir
use Rattle.unit_ir.specs.StmtView as ir_view
use Rattle.unit_lower.specs.Slots.{local_slots}
use Rattle.unit_lower.specs.Wide.{is_over, is_wide, is_wide_stmt, are_wide_stmts}
use Rattle.unit_lower.specs.Lowering.{lower, lower_stmt, lower_stmts, added}
use Rattle.unit_lower.specs.ValueView.{is_over_expr}
use Rattle.unit_lower.specs.StmtResult.{stmt_if, with_one, is_over_stmt, are_over_stmts}
use Rattle.unit_lower.proofs.Nexts.{next_up, stmt_next_up, stmts_next_up}
use Rattle.unit_lower.proofs.Places.{part_within}
use Rattle.unit_lower.proofs.Over.{or_false, whole_over, over_up}

-- WHAT THE RULES SAY OF EACH STATEMENT

pub let_local : (s : Scope) (n : ℕ) (e : input_expr.PlainExpr) → is_stmt s (declare n e) ≡ true → n < length s.locals
let_local s n e ok = ltb-true n (length s.locals) (and_parts (nat_lt n (length s.locals)) (gives s e (slice_index s.locals n)) ok).0

given_expr : (s : Scope) (e : input_expr.PlainExpr) (wide : ℕ) → gives s e wide ≡ true → is_expr s e ≡ true
given_expr s e wide ok = (and_parts (width s e == wide) (is_expr s e) ok).1

pub let_expr : (s : Scope) (n : ℕ) (e : input_expr.PlainExpr) → is_stmt s (declare n e) ≡ true → is_expr s e ≡ true
let_expr s n e ok = given_expr s e (slice_index s.locals n) (and_parts (nat_lt n (length s.locals)) (gives s e (slice_index s.locals n)) ok).1

assign_front : (s : Scope) (n offset wide : ℕ) (e : input_expr.PlainExpr) → is_stmt s (assign n offset wide e) ≡ true → (nat_lt n (length s.locals) && is_part offset wide (slice_index s.locals n)) ≡ true
assign_front s n offset wide e ok = (and_parts (nat_lt n (length s.locals) && is_part offset wide (slice_index s.locals n)) (gives s e wide) ok).0

pub assign_local : (s : Scope) (n offset wide : ℕ) (e : input_expr.PlainExpr) → is_stmt s (assign n offset wide e) ≡ true → n < length s.locals
assign_local s n offset wide e ok = ltb-true n (length s.locals) (and_parts (nat_lt n (length s.locals)) (is_part offset wide (slice_index s.locals n)) (assign_front s n offset wide e ok)).0

pub assign_expr : (s : Scope) (n offset wide : ℕ) (e : input_expr.PlainExpr) → is_stmt s (assign n offset wide e) ≡ true → is_expr s e ≡ true
assign_expr s n offset wide e ok = given_expr s e wide (and_parts (nat_lt n (length s.locals) && is_part offset wide (slice_index s.locals n)) (gives s e wide) ok).1

pub assign_part : (s : Scope) (n offset wide first count : ℕ) (e : input_expr.PlainExpr) → is_stmt s (assign n offset wide e) ≡ true → count ≡ slice_index s.locals n → first + count ≤ 255 → offset + wide ≤ count
assign_part s n offset wide first count e ok is fits =
    let part = (and_parts (nat_lt n (length s.locals)) (is_part offset wide (slice_index s.locals n)) (assign_front s n offset wide e ok)).1 in
    let within = part_within offset wide (slice_index s.locals n) part (omega (arith, is, fits)) in
    omega (arith, within, is)

pub fork_test : (s : Scope) (e : input_expr.PlainExpr) (a b : PlainStmts) → is_stmt s (fork e a b) ≡ true → is_expr s e ≡ true
fork_test s e a b ok = given_expr s e 1 (and_parts (gives s e 1) (are_stmts s a) (and_parts (gives s e 1 && are_stmts s a) (are_stmts s b) ok).0).0

pub fork_then : (s : Scope) (e : input_expr.PlainExpr) (a b : PlainStmts) → is_stmt s (fork e a b) ≡ true → are_stmts s a ≡ true
fork_then s e a b ok = (and_parts (gives s e 1) (are_stmts s a) (and_parts (gives s e 1 && are_stmts s a) (are_stmts s b) ok).0).1

pub fork_other : (s : Scope) (e : input_expr.PlainExpr) (a b : PlainStmts) → is_stmt s (fork e a b) ≡ true → are_stmts s b ≡ true
fork_other s e a b ok = (and_parts (gives s e 1 && are_stmts s a) (are_stmts s b) ok).1

pub loop_test : (s : Scope) (e : input_expr.PlainExpr) (a : PlainStmts) → is_stmt s (loop e a) ≡ true → is_expr s e ≡ true
loop_test s e a ok = given_expr s e 1 (and_parts (gives s e 1) (are_stmts s a) ok).0

pub loop_body : (s : Scope) (e : input_expr.PlainExpr) (a : PlainStmts) → is_stmt s (loop e a) ≡ true → are_stmts s a ≡ true
loop_body s e a ok = (and_parts (gives s e 1) (are_stmts s a) ok).1

pub give_expr : (s : Scope) (e : input_expr.PlainExpr) → is_stmt s (give e) ≡ true → is_expr s e ≡ true
give_expr s e ok = given_expr s e s.«result» ok

pub print_expr : (s : Scope) (e : input_expr.PlainExpr) → is_stmt s (print e) ≡ true → is_expr s e ≡ true
print_expr s e ok = given_expr s e 1 ok

-- AN ASSERTION IS NARROW

comparison_cases : (op : BinaryOp) (numbers truths : Bool) → is_comparison op numbers truths ≡ true → (numbers ≡ true) ⊎ (truths ≡ true)
comparison_cases binary_op.And numbers truths h = inr h
comparison_cases binary_op.Or numbers truths h = inr h
comparison_cases binary_op.Equal numbers truths h = or_cases numbers truths h
comparison_cases binary_op.NotEqual numbers truths h = or_cases numbers truths h
comparison_cases binary_op.Less numbers truths h = inl h
comparison_cases binary_op.AtMost numbers truths h = inl h
comparison_cases binary_op.Greater numbers truths h = inl h
comparison_cases binary_op.AtLeast numbers truths h = inl h
comparison_cases binary_op.Add numbers truths h = cc
comparison_cases binary_op.Sub numbers truths h = cc
comparison_cases binary_op.Mul numbers truths h = cc
comparison_cases binary_op.Div numbers truths h = cc
comparison_cases binary_op.Rem numbers truths h = cc

number_narrow : (s : Scope) (e : input_expr.PlainExpr) → is_number e ≡ true → is_wide s e ≡ false
number_narrow s (input_expr.int v) h = refl
number_narrow s (input_expr.unary unary_op.Neg e) h = number_narrow s e h
number_narrow s (input_expr.unary unary_op.Not e) h = cc
number_narrow s (input_expr.binary op a b) h =
    let parts = and_parts (is_arithmetic op && is_number a) (is_number b) h in
    let front = and_parts (is_arithmetic op) (is_number a) parts.0 in
    or_false (is_wide s a) (is_wide s b) (number_narrow s a front.1) (number_narrow s b parts.1)
number_narrow s (input_expr.truth b) h = cc
number_narrow s (input_expr.local n) h = cc
number_narrow s (input_expr.field e offset wide) h = cc
number_narrow s (input_expr.tuple es) h = cc
number_narrow s (input_expr.call k es) h = cc

truth_narrow : (s : Scope) (e : input_expr.PlainExpr) → is_truth e ≡ true → is_wide s e ≡ false
truth_narrow s (input_expr.truth b) h = refl
truth_narrow s (input_expr.unary unary_op.Not e) h = truth_narrow s e h
truth_narrow s (input_expr.unary unary_op.Neg e) h = cc
truth_narrow s (input_expr.binary op a b) h = elim (comparison_cases op (is_number a && is_number b) (is_truth a && is_truth b) h) [
  | inl numbers ↦ let parts = and_parts (is_number a) (is_number b) numbers in or_false (is_wide s a) (is_wide s b) (number_narrow s a parts.0) (number_narrow s b parts.1)
  | inr truths ↦ let parts = and_parts (is_truth a) (is_truth b) truths in or_false (is_wide s a) (is_wide s b) (truth_narrow s a parts.0) (truth_narrow s b parts.1)
]
truth_narrow s (input_expr.int v) h = cc
truth_narrow s (input_expr.local n) h = cc
truth_narrow s (input_expr.field e offset wide) h = cc
truth_narrow s (input_expr.tuple es) h = cc
truth_narrow s (input_expr.call k es) h = cc

pub assert_narrow : (s : Scope) (e : input_expr.PlainExpr) → is_stmt s (assert e) ≡ true → is_wide_stmt s (assert e) ≡ false
assert_narrow s e ok = truth_narrow s e (and_parts (is_truth e) (is_expr s e) ok).0

-- WHERE A PART IS TOO WIDE

pub fork_over_test : (s : Scope) (e : input_expr.PlainExpr) (a b : PlainStmts) (k : ℕ) → is_over_expr s e k ≡ true → is_over_stmt s (fork e a b) k ≡ true
fork_over_test s e a b k h =
    let j = (lower s e k).next in
    let l = (lower_stmts s a j).next in
    let up = stmts_next_up s a j in
    let more = stmts_next_up s b l in
    whole_over (is_wide s e) (is_wide_stmt s (fork e a b)) j (lower_stmt s (fork e a b) k).next (λ w. or_left (is_wide s e || are_wide_stmts s a) (are_wide_stmts s b) (or_left (is_wide s e) (are_wide_stmts s a) w)) (omega (arith, up, more)) h

pub fork_over_then : (s : Scope) (e : input_expr.PlainExpr) (a b : PlainStmts) (k next : ℕ) → next ≡ (lower s e k).next → are_over_stmts s a next ≡ true → is_over_stmt s (fork e a b) k ≡ true
fork_over_then s e a b k next is h =
    let j = (lower s e k).next in
    let l = (lower_stmts s a j).next in
    let more = stmts_next_up s b l in
    whole_over (are_wide_stmts s a) (is_wide_stmt s (fork e a b)) l (lower_stmt s (fork e a b) k).next (λ w. or_left (is_wide s e || are_wide_stmts s a) (are_wide_stmts s b) (or_right (is_wide s e) (are_wide_stmts s a) w)) (omega (arith, more)) (ap (λ n. are_over_stmts s a n) (sym is) ∙ h)

pub fork_over_other : (s : Scope) (e : input_expr.PlainExpr) (a b : PlainStmts) (k next after : ℕ) → next ≡ (lower s e k).next → after ≡ (lower_stmts s a next).next → are_over_stmts s b after ≡ true → is_over_stmt s (fork e a b) k ≡ true
fork_over_other s e a b k next after is after_is h =
    let l = (lower_stmts s a (lower s e k).next).next in
    let same : after ≡ l = after_is ∙ ap (λ n. (lower_stmts s a n).next) is in
    whole_over (are_wide_stmts s b) (is_wide_stmt s (fork e a b)) (lower_stmts s b l).next (lower_stmt s (fork e a b) k).next (or_right (is_wide s e || are_wide_stmts s a) (are_wide_stmts s b)) (omega arith) (ap (λ n. are_over_stmts s b n) (sym same) ∙ h)

pub loop_over_test : (s : Scope) (e : input_expr.PlainExpr) (a : PlainStmts) (k : ℕ) → is_over_expr s e k ≡ true → is_over_stmt s (loop e a) k ≡ true
loop_over_test s e a k h = whole_over (is_wide s e) (is_wide s e || are_wide_stmts s a) (lower s e k).next (lower_stmts s a (lower s e k).next).next (or_left (is_wide s e) (are_wide_stmts s a)) (stmts_next_up s a (lower s e k).next) h

pub loop_over_body : (s : Scope) (e : input_expr.PlainExpr) (a : PlainStmts) (k next : ℕ) → next ≡ (lower s e k).next → are_over_stmts s a next ≡ true → is_over_stmt s (loop e a) k ≡ true
loop_over_body s e a k next is h =
    let l = (lower_stmts s a (lower s e k).next).next in
    whole_over (are_wide_stmts s a) (is_wide s e || are_wide_stmts s a) l l (or_right (is_wide s e) (are_wide_stmts s a)) (omega arith) (ap (λ n. are_over_stmts s a n) (sym is) ∙ h)

-- the slots of locals stay below
pub above_block : (s : Scope) (xs : PlainStmts) (k next : ℕ) → local_slots s ≤ k → next ≡ (lower_stmts s xs k).next → local_slots s ≤ next
above_block s xs k next above is = let up = stmts_next_up s xs k in omega (arith, above, up, is)

-- LISTS

-- statements that are made, and then others
abbrev pub before : List ir.PlainStmt → ir.PlainStmts → ir.PlainStmts
before [] ss = ss
before (x ∷ xs) ss = ir.stmts x (before xs ss)

before_none : (xs : List ir.PlainStmt) → before xs ir.no_stmts ≡ ir_view.stmts_of xs
before_none [] = refl
before_none (x ∷ xs) = ap (ir.stmts x) (before_none xs)

before_more : (made : List IrStmt) (x : IrStmt) (ss : ir.PlainStmts) → before (map ir_view.stmt_view (made ++ x ∷ [])) ss ≡ before (map ir_view.stmt_view made) (ir.stmts (ir_view.stmt_view x) ss)
before_more [] x ss = refl
before_more (y ∷ made) x ss = ap (ir.stmts (ir_view.stmt_view y)) (before_more made x ss)

before_with : (made : List IrStmt) (o : Option IrStmt) (ss : ir.PlainStmts) → before (map ir_view.stmt_view (with_one made o)) ss ≡ before (map ir_view.stmt_view made) (added (stmt_if o) ss)
before_with made None ss = refl
before_with made (Some x) ss = before_more made x ss

-- the list is xs from the slot k on; what is left of it is rest, from the slot next on
pub record SoFar (s : Scope) (xs : PlainStmts) (k : ℕ) (made : List IrStmt) (next : ℕ) (rest : PlainStmts) : Type 0 where
  pub rules : are_stmts s rest ≡ true
  pub above : local_slots s ≤ next
  pub all : before (map ir_view.stmt_view made) (lower_stmts s rest next).made ≡ (lower_stmts s xs k).made
  pub last : (lower_stmts s rest next).next ≡ (lower_stmts s xs k).next
  pub narrow : are_wide_stmts s rest ≡ are_wide_stmts s xs

pub from_start : (s : Scope) (xs : PlainStmts) (k : ℕ) → are_stmts s xs ≡ true → local_slots s ≤ k → SoFar s xs k [] k xs
from_start s xs k rules above = record { rules = rules; above = above; all = refl; last = refl; narrow = refl }

one_narrow : (a b : Bool) → a ≡ false → (a || b) ≡ b
one_narrow false b h = refl
one_narrow true b h = cc

one_more : (s : Scope) (xs : PlainStmts) (k : ℕ) (made : List IrStmt) (next : ℕ) (x : PlainStmt) (more : PlainStmts) (o : Option IrStmt) (after : ℕ)
    → SoFar s xs k made next (stmts x more) → stmt_if o ≡ (lower_stmt s x next).made → is_wide_stmt s x ≡ false → after ≡ (lower_stmt s x next).next → SoFar s xs k (with_one made o) after more
one_more s xs k made next x more o after so o_is narrow after_is = record {
  rules = (and_parts (is_stmt s x) (are_stmts s more) so.rules).1;
  above = let up = stmt_next_up s x next in let low = so.above in omega (arith, up, low, after_is);
  all =
      before_with made o (lower_stmts s more after).made
      ∙ ap (λ y. before (map ir_view.stmt_view made) (added y (lower_stmts s more after).made)) o_is
      ∙ ap (λ n. before (map ir_view.stmt_view made) (added (lower_stmt s x next).made (lower_stmts s more n).made)) after_is
      ∙ so.all;
  last = ap (λ n. (lower_stmts s more n).next) after_is ∙ so.last;
  narrow = sym (one_narrow (is_wide_stmt s x) (are_wide_stmts s more) narrow) ∙ so.narrow;
}

stmt_over : (s : Scope) (xs : PlainStmts) (k : ℕ) (made : List IrStmt) (next : ℕ) (x : PlainStmt) (more : PlainStmts) → SoFar s xs k made next (stmts x more) → is_over_stmt s x next ≡ true → are_over_stmts s xs k ≡ true
stmt_over s xs k made next x more so h = elim (or_cases (is_wide_stmt s x) (is_over (lower_stmt s x next).next) h) [
  | inl w ↦ or_left (are_wide_stmts s xs) (is_over (lower_stmts s xs k).next) (sym so.narrow ∙ or_left (is_wide_stmt s x) (are_wide_stmts s more) w)
  | inr o ↦
      let up = stmts_next_up s more (lower_stmt s x next).next in
      or_right (are_wide_stmts s xs) (is_over (lower_stmts s xs k).next) (over_up (lower_stmt s x next).next (lower_stmts s xs k).next (let l = so.last in omega (arith, up, l)) o)
]

-- IN THE LOOP, whose place in the list is i

here : (xs : List UnitStmt) (i : ℕ) (d : UnitStmt) → i < length xs → stmts_view (drop i xs) ≡ stmts (stmt_view (get_or xs i d)) (stmts_view (drop (i + 1) xs))
here xs i d h = ap stmts_view (drop-cons xs i d h) ∙ ap (λ j. stmts (stmt_view (get_or xs i d)) (stmts_view (drop j xs))) (suc-eq-add-one i)

pub rules_here : (s : Scope) (all : PlainStmts) (k : ℕ) (made : List IrStmt) (next : ℕ) (xs : List UnitStmt) (i : ℕ) (d : UnitStmt) → i < length xs → SoFar s all k made next (stmts_view (drop i xs)) → is_stmt s (stmt_view (get_or xs i d)) ≡ true
rules_here s all k made next xs i d h so =
    (and_parts (is_stmt s (stmt_view (get_or xs i d))) (are_stmts s (stmts_view (drop (i + 1) xs))) (ap (are_stmts s) (sym (here xs i d h)) ∙ so.rules)).0

pub more_here : (s : Scope) (all : PlainStmts) (k : ℕ) (made : List IrStmt) (next : ℕ) (xs : List UnitStmt) (i : ℕ) (d : UnitStmt) (o : Option IrStmt) (after : ℕ)
    → i < length xs → SoFar s all k made next (stmts_view (drop i xs)) → stmt_if o ≡ (lower_stmt s (stmt_view (get_or xs i d)) next).made → is_wide_stmt s (stmt_view (get_or xs i d)) ≡ false
    → after ≡ (lower_stmt s (stmt_view (get_or xs i d)) next).next → SoFar s all k (with_one made o) after (stmts_view (drop (i + 1) xs))
more_here s all k made next xs i d o after h so o_is narrow after_is =
    one_more s all k made next (stmt_view (get_or xs i d)) (stmts_view (drop (i + 1) xs)) o after (subst (λ r. SoFar s all k made next r) (here xs i d h) so) o_is narrow after_is

pub over_here : (s : Scope) (all : PlainStmts) (k : ℕ) (made : List IrStmt) (next : ℕ) (xs : List UnitStmt) (i : ℕ) (d : UnitStmt)
    → i < length xs → SoFar s all k made next (stmts_view (drop i xs)) → is_over_stmt s (stmt_view (get_or xs i d)) next ≡ true → are_over_stmts s all k ≡ true
over_here s all k made next xs i d h so over =
    stmt_over s all k made next (stmt_view (get_or xs i d)) (stmts_view (drop (i + 1) xs)) (subst (λ r. SoFar s all k made next r) (here xs i d h) so) over

-- what the list is at its end
pub record Whole (s : Scope) (xs : PlainStmts) (k : ℕ) (made : List IrStmt) (next : ℕ) : Type 0 where
  pub made_is : ir_view.stmts_view made ≡ (lower_stmts s xs k).made
  pub next_is : next ≡ (lower_stmts s xs k).next
  pub narrow : are_wide_stmts s xs ≡ false

pub at_end : (s : Scope) (all : PlainStmts) (k : ℕ) (made : List IrStmt) (next : ℕ) (xs : List UnitStmt) (i : ℕ) → length xs ≤ i → SoFar s all k made next (stmts_view (drop i xs)) → Whole s all k made next
at_end s all k made next xs i h so =
    let nothing : stmts_view (drop i xs) ≡ no_stmts = ap stmts_view (drop_of_length-le xs h) in
    let e : SoFar s all k made next no_stmts = subst (λ r. SoFar s all k made next r) nothing so in
    record {
      made_is = sym (before_none (map ir_view.stmt_view made)) ∙ e.all;
      next_is = e.last;
      narrow = sym e.narrow;
    }

-- the same of the item that stands there

pub over_item : (s : Scope) (all : PlainStmts) (k : ℕ) (made : List IrStmt) (next : ℕ) (xs : List UnitStmt) (i : ℕ) (item : UnitStmt)
    → i < length xs → SoFar s all k made next (stmts_view (drop i xs)) → item ≡ get_or xs i item → is_over_stmt s (stmt_view item) next ≡ true → are_over_stmts s all k ≡ true
over_item s all k made next xs i item h so is over = over_here s all k made next xs i item h so (ap (λ x. is_over_stmt s (stmt_view x) next) (sym is) ∙ over)

pub more_item : (s : Scope) (all : PlainStmts) (k : ℕ) (made now : List IrStmt) (next : ℕ) (xs : List UnitStmt) (i : ℕ) (item : UnitStmt) (o : Option IrStmt) (after : ℕ)
    → i < length xs → SoFar s all k made next (stmts_view (drop i xs)) → item ≡ get_or xs i item → stmt_if o ≡ (lower_stmt s (stmt_view item) next).made → is_wide_stmt s (stmt_view item) ≡ false
    → after ≡ (lower_stmt s (stmt_view item) next).next → now ≡ with_one made o → SoFar s all k now after (stmts_view (drop (i + 1) xs))
more_item s all k made now next xs i item o after h so is o_is narrow after_is now_is =
    subst (λ l. SoFar s all k l after (stmts_view (drop (i + 1) xs))) (sym now_is)
    (more_here s all k made next xs i item o after h so (o_is ∙ ap (λ x. (lower_stmt s (stmt_view x) next).made) is) (ap (λ x. is_wide_stmt s (stmt_view x)) (sym is) ∙ narrow) (after_is ∙ ap (λ x. (lower_stmt s (stmt_view x) next).next) is))

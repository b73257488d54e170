-- Failures of assertions in lists, one after the other.
use Rattle.std.proofs.Common.{◌≡◌, ℕ, suc, ◌+◌, ◌<◌, ◌≤◌, ◌^◌, Bool, true, false, List, [], ◌∷◌, ◌++◌, length, drop, get_or, Option, Some, None, refl, sym, ap, ◌∙◌, subst, arith}
use Rattle.std.specs.Prelude.{ℤ, pos, if◌then◌else◌}
use Rattle.std.specs.Ordering.{int_eq}
use Rattle.std.proofs.lemmas.List.{length-append}
use Rattle.std.proofs.Math.Seq.{drop-cons}
use Rattle.std.proofs.Math.Numerals.{suc-eq-add-one}
use Rattle.std.proofs.Math.ListN.{drop_of_length-le}
use Rattle.unit_input.specs.declared.expr.UnitExpr.{UnitExpr}
use Rattle.unit_input.specs.declared.stmt.UnitStmt.{UnitStmt}
use Rattle.unit_input.specs.declared.stmt.UnitStmt.TheVariants.{If}
use Rattle.unit_input.specs.InputView.{expr_view, stmt_view, stmts_view}
use Rattle.unit_input.proofs.Views.{stmt_view-If}
use Rattle.unit_input.specs.Exprs.{PlainExpr}
use Rattle.unit_input.specs.Stmts.{PlainStmt, declare, assign, fork, loop, give, print, assert, eval, PlainStmts, no_stmts, stmts, stmt_total, stmts_total}
use Rattle.unit_lower.specs.declared.assertions.Failure.{Failure}
use Rattle.unit_lower.specs.Assertions.{value, judged, first_failure, stmt_assertions, assertions}

-- there are no more assertions than statements
mutual
  pub few_in_stmt : (x : PlainStmt) → length (stmt_assertions x) ≤ stmt_total x
  few_in_stmt (declare n e) = omega arith
  few_in_stmt (assign n offset wide e) = omega arith
  few_in_stmt (fork e a b) = omega (arith, few_in a, few_in b, length-append (assertions a) (assertions b))
  few_in_stmt (loop e a) = omega (arith, few_in a)
  few_in_stmt (give e) = omega arith
  few_in_stmt (print e) = omega arith
  few_in_stmt (assert e) = omega arith
  few_in_stmt (eval e) = omega arith

  pub few_in : (xs : PlainStmts) → length (assertions xs) ≤ stmts_total xs
  few_in no_stmts = omega arith
  few_in (stmts x xs) = omega (arith, few_in_stmt x, few_in xs, length-append (stmt_assertions x) (assertions xs))

-- where nothing fails, the later ones decide
or_later : (b : Bool) (f : Failure) (later other : Option Failure) → (if b then Some f else later) ≡ None → (if b then Some f else other) ≡ other
or_later true f later other h = cc
or_later false f later other h = refl

or_same : (b : Bool) (f g : Failure) (later other : Option Failure) → (if b then Some f else later) ≡ Some g → (later ≡ Some g → other ≡ Some g) → (if b then Some f else other) ≡ Some g
or_same true f g later other h more = h
or_same false f g later other h more = more h

later_none : (b : Bool) (f : Failure) (later : Option Failure) → (if b then Some f else later) ≡ None → later ≡ None
later_none true f later h = cc
later_none false f later h = h

judged_later : (n : ℕ) (v : Option ℤ) (later other : Option Failure) → judged n v later ≡ None → judged n v other ≡ other
judged_later n None later other h = cc
judged_later n (Some v) later other h = or_later (int_eq v (pos 0)) _ later other h

judged_none : (n : ℕ) (v : Option ℤ) (later : Option Failure) → judged n v later ≡ None → later ≡ None
judged_none n None later h = cc
judged_none n (Some v) later h = later_none (int_eq v (pos 0)) _ later h

judged_same : (n : ℕ) (v : Option ℤ) (g : Failure) (later other : Option Failure) → judged n v later ≡ Some g → (later ≡ Some g → other ≡ Some g) → judged n v other ≡ Some g
judged_same n None g later other h more = h
judged_same n (Some v) g later other h more = or_same (int_eq v (pos 0)) _ g later other h more

-- no assertion of the first list fails
pub first_failure_later : (n m : ℕ) (xs ys : List PlainExpr) → first_failure n xs ≡ None → m ≡ n + length xs → first_failure n (xs ++ ys) ≡ first_failure m ys
first_failure_later n m [] ys h same = let e : m ≡ n = omega (arith, same) in ap (λ k. first_failure k ys) (sym e)
first_failure_later n m (x ∷ xs) ys h same =
    judged_later n (value x) (first_failure (suc n) xs) (first_failure (suc n) (xs ++ ys)) h
    ∙ first_failure_later (suc n) m xs ys (judged_none n (value x) (first_failure (suc n) xs) h) (omega (arith, same))

-- one does
pub first_failure_same : (n : ℕ) (g : Failure) (xs ys : List PlainExpr) → first_failure n xs ≡ Some g → first_failure n (xs ++ ys) ≡ Some g
first_failure_same n g [] ys h = cc
first_failure_same n g (x ∷ xs) ys h =
    judged_same n (value x) g (first_failure (suc n) xs) (first_failure (suc n) (xs ++ ys)) h (first_failure_same (suc n) g xs ys)

-- IN THE LOOP

-- the assertions are those of all from n0 on; what is left of them are those of rest, from n on
pub record Asserted (n0 : ℕ) (all : PlainStmts) (n : ℕ) (rest : PlainStmts) : Type 0 where
  pub room : n + stmts_total rest < 2 ^ 32
  pub same : first_failure n (assertions rest) ≡ first_failure n0 (assertions all)
  pub count : n + length (assertions rest) ≡ n0 + length (assertions all)

pub asserted_start : (n : ℕ) (all : PlainStmts) → n + stmts_total all < 2 ^ 32 → Asserted n all n all
asserted_start n all room = record { room = room; same = refl; count = refl }

pub stmts_here : (xs : List UnitStmt) (i : ℕ) (item : UnitStmt) → i < length xs → item ≡ get_or xs i item → stmts_view (drop i xs) ≡ stmts (stmt_view item) (stmts_view (drop (i + 1) xs))
stmts_here xs i item h is =
    ap stmts_view (drop-cons xs i item h) ∙ ap (λ j. stmts (stmt_view (get_or xs i item)) (stmts_view (drop j xs))) (suc-eq-add-one i) ∙ ap (λ x. stmts (stmt_view x) (stmts_view (drop (i + 1) xs))) (sym is)

here : (n0 : ℕ) (all : PlainStmts) (n : ℕ) (xs : List UnitStmt) (i : ℕ) (item : UnitStmt) → i < length xs → item ≡ get_or xs i item → Asserted n0 all n (stmts_view (drop i xs)) → Asserted n0 all n (stmts (stmt_view item) (stmts_view (drop (i + 1) xs)))
here n0 all n xs i item h is so = subst (λ r. Asserted n0 all n r) (stmts_here xs i item h is) so

pub room_item : (n0 : ℕ) (all : PlainStmts) (n : ℕ) (xs : List UnitStmt) (i : ℕ) (item : UnitStmt) → i < length xs → item ≡ get_or xs i item → Asserted n0 all n (stmts_view (drop i xs)) → n + stmt_total (stmt_view item) < 2 ^ 32
room_item n0 all n xs i item h is so = let room = (here n0 all n xs i item h is so).room in omega (arith, room)

pub failed_item : (n0 : ℕ) (all : PlainStmts) (n : ℕ) (xs : List UnitStmt) (i : ℕ) (item : UnitStmt) (f : Failure) → i < length xs → item ≡ get_or xs i item → Asserted n0 all n (stmts_view (drop i xs))
    → Some f ≡ first_failure n (stmt_assertions (stmt_view item)) → Some f ≡ first_failure n0 (assertions all)
failed_item n0 all n xs i item f h is so failed =
    sym (first_failure_same n f (stmt_assertions (stmt_view item)) (assertions (stmts_view (drop (i + 1) xs))) (sym failed)) ∙ (here n0 all n xs i item h is so).same

pub more_item : (n0 : ℕ) (all : PlainStmts) (n after : ℕ) (xs : List UnitStmt) (i : ℕ) (item : UnitStmt) → i < length xs → item ≡ get_or xs i item → Asserted n0 all n (stmts_view (drop i xs))
    → None ≡ first_failure n (stmt_assertions (stmt_view item)) → after ≡ n + length (stmt_assertions (stmt_view item)) → Asserted n0 all after (stmts_view (drop (i + 1) xs))
more_item n0 all n after xs i item h is so none after_is =
    let at = here n0 all n xs i item h is so in
    let first = stmt_assertions (stmt_view item) in
    let others = assertions (stmts_view (drop (i + 1) xs)) in
    record {
      room = let room = at.room in omega (arith, room, after_is, few_in_stmt (stmt_view item));
      same = sym (first_failure_later n after first others (sym none) after_is) ∙ at.same;
      count = let count = at.count in omega (arith, count, after_is, length-append first others);
    }

nothing : (xs : List UnitStmt) (i : ℕ) → length xs ≤ i → stmts_view (drop i xs) ≡ no_stmts
nothing xs i h = ap stmts_view (drop_of_length-le xs h)

pub none_failed : (n0 : ℕ) (all : PlainStmts) (n : ℕ) (xs : List UnitStmt) (i : ℕ) → length xs ≤ i → Asserted n0 all n (stmts_view (drop i xs)) → None ≡ first_failure n0 (assertions all)
none_failed n0 all n xs i h so = let at : Asserted n0 all n no_stmts = subst (λ r. Asserted n0 all n r) (nothing xs i h) so in at.same

pub all_counted : (n0 : ℕ) (all : PlainStmts) (n : ℕ) (xs : List UnitStmt) (i : ℕ) → length xs ≤ i → Asserted n0 all n (stmts_view (drop i xs)) → n ≡ n0 + length (assertions all)
all_counted n0 all n xs i h so = let at : Asserted n0 all n no_stmts = subst (λ r. Asserted n0 all n r) (nothing xs i h) so in let count = at.count in omega (arith, count)

-- A FORK OF THE CODE

fork_seen : (s : UnitStmt) (e : UnitExpr) (a b ra rb : List UnitStmt) → s ≡ If e a b → ra ≡ a → rb ≡ b → stmt_view s ≡ fork (expr_view e) (stmts_view ra) (stmts_view rb)
fork_seen s e a b ra rb is ea eb = ap stmt_view is ∙ stmt_view-If e a b ∙ ap (λ x. fork (expr_view e) (stmts_view x) (stmts_view b)) (sym ea) ∙ ap (λ x. fork (expr_view e) (stmts_view ra) (stmts_view x)) (sym eb)

pub fork_failed : (s : UnitStmt) (e : UnitExpr) (a b ra : List UnitStmt) (n : ℕ) (f : Failure) → s ≡ If e a b → ra ≡ a → Some f ≡ first_failure n (assertions (stmts_view ra)) → Some f ≡ first_failure n (stmt_assertions (stmt_view s))
fork_failed s e a b ra n f is ea failed =
    sym (first_failure_same n f (assertions (stmts_view ra)) (assertions (stmts_view b)) (sym failed)) ∙ ap (λ x. first_failure n (stmt_assertions x)) (sym (fork_seen s e a b ra b is ea refl))

pub fork_room : (s : UnitStmt) (e : UnitExpr) (a b ra rb : List UnitStmt) (n after : ℕ) → s ≡ If e a b → ra ≡ a → rb ≡ b → n + stmt_total (stmt_view s) < 2 ^ 32 → after ≡ n + length (assertions (stmts_view ra)) → after + stmts_total (stmts_view rb) < 2 ^ 32
fork_room s e a b ra rb n after is ea eb room after_is =
    let total : stmt_total (stmt_view s) ≡ 1 + (stmts_total (stmts_view ra) + stmts_total (stmts_view rb)) = ap stmt_total (fork_seen s e a b ra rb is ea eb) in
    omega (arith, room, after_is, total, few_in (stmts_view ra))

pub fork_rest : (s : UnitStmt) (e : UnitExpr) (a b ra rb : List UnitStmt) (n after : ℕ) → s ≡ If e a b → ra ≡ a → rb ≡ b → None ≡ first_failure n (assertions (stmts_view ra)) → after ≡ n + length (assertions (stmts_view ra))
    → first_failure after (assertions (stmts_view rb)) ≡ first_failure n (stmt_assertions (stmt_view s))
fork_rest s e a b ra rb n after is ea eb none after_is =
    sym (first_failure_later n after (assertions (stmts_view ra)) (assertions (stmts_view rb)) (sym none) after_is) ∙ ap (λ x. first_failure n (stmt_assertions x)) (sym (fork_seen s e a b ra rb is ea eb))

pub fork_count : (s : UnitStmt) (e : UnitExpr) (a b ra rb : List UnitStmt) (n after last : ℕ) → s ≡ If e a b → ra ≡ a → rb ≡ b → after ≡ n + length (assertions (stmts_view ra)) → last ≡ after + length (assertions (stmts_view rb)) → last ≡ n + length (stmt_assertions (stmt_view s))
fork_count s e a b ra rb n after last is ea eb after_is last_is =
    let all : length (stmt_assertions (stmt_view s)) ≡ length (assertions (stmts_view ra) ++ assertions (stmts_view rb)) = ap (λ x. length (stmt_assertions x)) (fork_seen s e a b ra rb is ea eb) in
    omega (arith, all, after_is, last_is, length-append (assertions (stmts_view ra)) (assertions (stmts_view rb)))

-- What is put in place names slots that the function has then, and no call that was not named before.
use Rattle.std.proofs.Common.{◌≡◌, ℕ, zero, suc, ◌+◌, ◌<◌, ◌≤◌, ◌&&◌, not, Bool, true, false, if◌then◌else◌, List, [], ◌∷◌, Option, Some, None, map, inl, inr, refl, sym, ap, subst, arith}
use Rattle.std.specs.List.{AllByRecursion}
use Rattle.std.proofs.lemmas.Bool.Decides.{leb_tells}
use Rattle.unit_ir.specs.Exprs.{PlainExpr, word, load, op1, op2, both, either, call, seq, bind, PlainExprs, no_exprs, exprs}
use Rattle.unit_ir.specs.Stmts.{PlainStmt, store, fork, loop, give, print, eval, PlainStmts, no_stmts, stmts}
use Rattle.unit_ir.specs.InRange.{ExprInRange, ExprsInRange, StmtInRange, StmtsInRange}
use Rattle.unit_ir.specs.Units.{PlainFn, PlainUnit, IsFn, IsUnit, callee_count}
use Rattle.opt_slots.proofs.Kept.{IsUnit-map}
use Rattle.opt_inline.specs.Inline.{PlainSmall, calls_nothing, call_nothing, given, small_if, small_giving, small, callee, raised, all_raised, inlined_call, slots_behind, expr_slots, exprs_slots, inlined_expr, inlined_exprs, stmt_slots, stmts_slots, inlined_stmt, inlined_stmts, inlined_fn, inlined_unit}
use Rattle.opt_inline.specs.Places.{SmallsInRange}

first_true : (a b : Bool) → (a && b) ≡ true → a ≡ true
first_true true b h = refl
first_true false b h = h

second_true : (a b : Bool) → (a && b) ≡ true → b ≡ true
second_true true b h = h
second_true false b h = absurd (cc)

-- an expression without calls names none
mutual
  without_calls : (n k : ℕ) (e : PlainExpr) → ExprInRange n k e → calls_nothing e ≡ true → ExprInRange n 0 e
  without_calls n k (word v) h c = tt
  without_calls n k (load s) h c = h
  without_calls n k (op1 o a) h c = without_calls n k a h c
  without_calls n k (op2 o a b) h c = (without_calls n k a h.0 (first_true (calls_nothing a) (calls_nothing b) c), without_calls n k b h.1 (second_true (calls_nothing a) (calls_nothing b) c))
  without_calls n k (both a b) h c = (without_calls n k a h.0 (first_true (calls_nothing a) (calls_nothing b) c), without_calls n k b h.1 (second_true (calls_nothing a) (calls_nothing b) c))
  without_calls n k (either a b) h c = (without_calls n k a h.0 (first_true (calls_nothing a) (calls_nothing b) c), without_calls n k b h.1 (second_true (calls_nothing a) (calls_nothing b) c))
  without_calls n k (call f es) h c = absurd (cc)
  without_calls n k (seq es) h c = all_without_calls n k es h c
  without_calls n k (bind s w a b) h c = (h.0, without_calls n k a h.1 (first_true (calls_nothing a) (calls_nothing b) c), without_calls n k b h.2 (second_true (calls_nothing a) (calls_nothing b) c))

  all_without_calls : (n k : ℕ) (es : PlainExprs) → ExprsInRange n k es → call_nothing es ≡ true → ExprsInRange n 0 es
  all_without_calls n k no_exprs h c = tt
  all_without_calls n k (exprs e es) h c = (without_calls n k e h.0 (first_true (calls_nothing e) (call_nothing es) c), all_without_calls n k es h.1 (second_true (calls_nothing e) (call_nothing es) c))

-- raised by n, slots lie below m with n more
mutual
  raised-in_range : (m n p k : ℕ) (e : PlainExpr) → m + n ≤ p → ExprInRange m 0 e → ExprInRange p k (raised n e)
  raised-in_range m n p k (word v) le h = tt
  raised-in_range m n p k (load s) le h = omega (arith, le, h)
  raised-in_range m n p k (op1 o a) le h = raised-in_range m n p k a le h
  raised-in_range m n p k (op2 o a b) le h = (raised-in_range m n p k a le h.0, raised-in_range m n p k b le h.1)
  raised-in_range m n p k (both a b) le h = (raised-in_range m n p k a le h.0, raised-in_range m n p k b le h.1)
  raised-in_range m n p k (either a b) le h = (raised-in_range m n p k a le h.0, raised-in_range m n p k b le h.1)
  raised-in_range m n p k (call f es) le h = absurd (omega (arith, h.0))
  raised-in_range m n p k (seq es) le h = all_raised-in_range m n p k es le h
  raised-in_range m n p k (bind s w a b) le h = (omega (arith, le, h.0), raised-in_range m n p k a le h.1, raised-in_range m n p k b le h.2)

  all_raised-in_range : (m n p k : ℕ) (es : PlainExprs) → m + n ≤ p → ExprsInRange m 0 es → ExprsInRange p k (all_raised n es)
  all_raised-in_range m n p k no_exprs le h = tt
  all_raised-in_range m n p k (exprs e es) le h = (raised-in_range m n p k e le h.0, all_raised-in_range m n p k es le h.1)

-- slots grow, and never past 255
slots_behind-grows : (n : ℕ) (s : Option PlainSmall) → n ≤ slots_behind n s
slots_behind-grows n None = omega arith
slots_behind-grows n (Some s) =
    elim (leb_tells (n + s.slots) 255) [
      | inl fits ↦ subst (λ m. n ≤ m) (sym (ap (λ b. if b then n + s.slots else n) fits.0)) (omega arith)
      | inr over ↦ subst (λ m. n ≤ m) (sym (ap (λ b. if b then n + s.slots else n) over.0)) (omega arith)
    ]

slots_behind-low : (n : ℕ) (s : Option PlainSmall) → n ≤ 255 → slots_behind n s ≤ 255
slots_behind-low n None low = low
slots_behind-low n (Some s) low =
    elim (leb_tells (n + s.slots) 255) [
      | inl fits ↦ subst (λ m. m ≤ 255) (sym (ap (λ b. if b then n + s.slots else n) fits.0)) fits.1
      | inr over ↦ subst (λ m. m ≤ 255) (sym (ap (λ b. if b then n + s.slots else n) over.0)) low
    ]

mutual
  expr_slots-grow : (t : List (Option PlainSmall)) (n : ℕ) (e : PlainExpr) → n ≤ expr_slots t n e
  expr_slots-grow t n (word v) = omega arith
  expr_slots-grow t n (load s) = omega arith
  expr_slots-grow t n (op1 o a) = expr_slots-grow t n a
  expr_slots-grow t n (op2 o a b) = omega (arith, expr_slots-grow t n a, expr_slots-grow t (expr_slots t n a) b)
  expr_slots-grow t n (both a b) = omega (arith, expr_slots-grow t n a, expr_slots-grow t (expr_slots t n a) b)
  expr_slots-grow t n (either a b) = omega (arith, expr_slots-grow t n a, expr_slots-grow t (expr_slots t n a) b)
  expr_slots-grow t n (call k es) = omega (arith, exprs_slots-grow t n es, slots_behind-grows (exprs_slots t n es) (callee t k))
  expr_slots-grow t n (seq es) = exprs_slots-grow t n es
  expr_slots-grow t n (bind s w a b) = omega (arith, expr_slots-grow t n a, expr_slots-grow t (expr_slots t n a) b)

  exprs_slots-grow : (t : List (Option PlainSmall)) (n : ℕ) (es : PlainExprs) → n ≤ exprs_slots t n es
  exprs_slots-grow t n no_exprs = omega arith
  exprs_slots-grow t n (exprs e es) = omega (arith, expr_slots-grow t n e, exprs_slots-grow t (expr_slots t n e) es)

mutual
  stmt_slots-grow : (t : List (Option PlainSmall)) (n : ℕ) (s : PlainStmt) → n ≤ stmt_slots t n s
  stmt_slots-grow t n (store s w e) = expr_slots-grow t n e
  stmt_slots-grow t n (fork e a b) = omega (arith, expr_slots-grow t n e, stmts_slots-grow t (expr_slots t n e) a, stmts_slots-grow t (stmts_slots t (expr_slots t n e) a) b)
  stmt_slots-grow t n (loop e a) = omega (arith, expr_slots-grow t n e, stmts_slots-grow t (expr_slots t n e) a)
  stmt_slots-grow t n (give e) = expr_slots-grow t n e
  stmt_slots-grow t n (print e) = expr_slots-grow t n e
  stmt_slots-grow t n (eval e w) = expr_slots-grow t n e

  stmts_slots-grow : (t : List (Option PlainSmall)) (n : ℕ) (ss : PlainStmts) → n ≤ stmts_slots t n ss
  stmts_slots-grow t n no_stmts = omega arith
  stmts_slots-grow t n (stmts s ss) = omega (arith, stmt_slots-grow t n s, stmts_slots-grow t (stmt_slots t n s) ss)

mutual
  expr_slots-low : (t : List (Option PlainSmall)) (n : ℕ) (e : PlainExpr) → n ≤ 255 → expr_slots t n e ≤ 255
  expr_slots-low t n (word v) low = low
  expr_slots-low t n (load s) low = low
  expr_slots-low t n (op1 o a) low = expr_slots-low t n a low
  expr_slots-low t n (op2 o a b) low = expr_slots-low t (expr_slots t n a) b (expr_slots-low t n a low)
  expr_slots-low t n (both a b) low = expr_slots-low t (expr_slots t n a) b (expr_slots-low t n a low)
  expr_slots-low t n (either a b) low = expr_slots-low t (expr_slots t n a) b (expr_slots-low t n a low)
  expr_slots-low t n (call k es) low = slots_behind-low (exprs_slots t n es) (callee t k) (exprs_slots-low t n es low)
  expr_slots-low t n (seq es) low = exprs_slots-low t n es low
  expr_slots-low t n (bind s w a b) low = expr_slots-low t (expr_slots t n a) b (expr_slots-low t n a low)

  exprs_slots-low : (t : List (Option PlainSmall)) (n : ℕ) (es : PlainExprs) → n ≤ 255 → exprs_slots t n es ≤ 255
  exprs_slots-low t n no_exprs low = low
  exprs_slots-low t n (exprs e es) low = exprs_slots-low t (expr_slots t n e) es (expr_slots-low t n e low)

mutual
  stmt_slots-low : (t : List (Option PlainSmall)) (n : ℕ) (s : PlainStmt) → n ≤ 255 → stmt_slots t n s ≤ 255
  stmt_slots-low t n (store s w e) low = expr_slots-low t n e low
  stmt_slots-low t n (fork e a b) low = stmts_slots-low t (stmts_slots t (expr_slots t n e) a) b (stmts_slots-low t (expr_slots t n e) a (expr_slots-low t n e low))
  stmt_slots-low t n (loop e a) low = stmts_slots-low t (expr_slots t n e) a (expr_slots-low t n e low)
  stmt_slots-low t n (give e) low = expr_slots-low t n e low
  stmt_slots-low t n (print e) low = expr_slots-low t n e low
  stmt_slots-low t n (eval e w) low = expr_slots-low t n e low

  stmts_slots-low : (t : List (Option PlainSmall)) (n : ℕ) (ss : PlainStmts) → n ≤ 255 → stmts_slots t n ss ≤ 255
  stmts_slots-low t n no_stmts low = low
  stmts_slots-low t n (stmts s ss) low = stmts_slots-low t (stmt_slots t n s) ss (stmt_slots-low t n s low)

chosen : (p k : ℕ) (c : Bool) (x y : PlainExpr) → ExprInRange p k x → ExprInRange p k y → ExprInRange p k (if c then x else y)
chosen p k true x y hx hy = hx
chosen p k false x y hx hy = hy

-- p has room for what is put in place
placed : (k p f : ℕ) (es : PlainExprs) (n : ℕ) (s : Option PlainSmall) → f < k → ExprsInRange p k es → slots_behind n s ≤ p → ((c : PlainSmall) → s ≡ Some c → ExprInRange c.slots 0 c.gives)
    → ((c : PlainSmall) → s ≡ Some c → c.params ≤ c.slots) → ExprInRange p k (inlined_call f es n s)
placed k p f es n None h hes room small_ok params_ok = (h, hes)
placed k p f es n (Some c) h hes room small_ok params_ok =
    elim (leb_tells (n + c.slots) 255) [
      | inl fits ↦
          let le : n + c.slots ≤ p = subst (λ m. m ≤ p) (ap (λ b. if b then n + c.slots else n) fits.0) room in
          subst (ExprInRange p k) (sym (ap (λ b. if b then bind n c.params (seq es) (raised n c.gives) else call f es) fits.0))
          (omega (arith, le, params_ok c refl), hes, raised-in_range c.slots n p k c.gives (omega (arith, le)) (small_ok c refl))
      | inr over ↦ subst (ExprInRange p k) (sym (ap (λ b. if b then bind n c.params (seq es) (raised n c.gives) else call f es) over.0)) (h, hes)
    ]

-- each small function of a table keeps what a function keeps
abbrev pub TableKeeps : List (Option PlainSmall) → Type 0
TableKeeps t = (k : ℕ) (s : PlainSmall) → callee t k ≡ Some s → ExprInRange s.slots 0 s.gives × (s.params ≤ s.slots)

mutual
  inlined_expr-in_range : (t : List (Option PlainSmall)) → TableKeeps t → (m k p n : ℕ) (e : PlainExpr) → m ≤ p → expr_slots t n e ≤ p → ExprInRange m k e → ExprInRange p k (inlined_expr t n e)
  inlined_expr-in_range t ok m k p n (word v) le room h = tt
  inlined_expr-in_range t ok m k p n (load s) le room h = omega (arith, le, h)
  inlined_expr-in_range t ok m k p n (op1 o a) le room h = inlined_expr-in_range t ok m k p n a le room h
  inlined_expr-in_range t ok m k p n (op2 o a b) le room h =
      (inlined_expr-in_range t ok m k p n a le (omega (arith, room, expr_slots-grow t (expr_slots t n a) b)) h.0, inlined_expr-in_range t ok m k p (expr_slots t n a) b le room h.1)
  inlined_expr-in_range t ok m k p n (both a b) le room h =
      (inlined_expr-in_range t ok m k p n a le (omega (arith, room, expr_slots-grow t (expr_slots t n a) b)) h.0, inlined_expr-in_range t ok m k p (expr_slots t n a) b le room h.1)
  inlined_expr-in_range t ok m k p n (either a b) le room h =
      (inlined_expr-in_range t ok m k p n a le (omega (arith, room, expr_slots-grow t (expr_slots t n a) b)) h.0, inlined_expr-in_range t ok m k p (expr_slots t n a) b le room h.1)
  inlined_expr-in_range t ok m k p n (call f es) le room h =
      placed k p f (inlined_exprs t n es) (exprs_slots t n es) (callee t f) h.0
      (inlined_exprs-in_range t ok m k p n es le (omega (arith, room, slots_behind-grows (exprs_slots t n es) (callee t f))) h.1)
      room (λ c is. (ok f c is).0) (λ c is. (ok f c is).1)
  inlined_expr-in_range t ok m k p n (seq es) le room h = inlined_exprs-in_range t ok m k p n es le room h
  inlined_expr-in_range t ok m k p n (bind s w a b) le room h = (
    omega (arith, le, h.0),
    inlined_expr-in_range t ok m k p n a le (omega (arith, room, expr_slots-grow t (expr_slots t n a) b)) h.1,
    inlined_expr-in_range t ok m k p (expr_slots t n a) b le room h.2,
  )

  inlined_exprs-in_range : (t : List (Option PlainSmall)) → TableKeeps t → (m k p n : ℕ) (es : PlainExprs) → m ≤ p → exprs_slots t n es ≤ p → ExprsInRange m k es → ExprsInRange p k (inlined_exprs t n es)
  inlined_exprs-in_range t ok m k p n no_exprs le room h = tt
  inlined_exprs-in_range t ok m k p n (exprs e es) le room h =
      (inlined_expr-in_range t ok m k p n e le (omega (arith, room, exprs_slots-grow t (expr_slots t n e) es)) h.0, inlined_exprs-in_range t ok m k p (expr_slots t n e) es le room h.1)

mutual
  inlined_stmt-in_range : (t : List (Option PlainSmall)) → TableKeeps t → (m k p n : ℕ) (s : PlainStmt) → m ≤ p → stmt_slots t n s ≤ p → StmtInRange m k s → StmtInRange p k (inlined_stmt t n s)
  inlined_stmt-in_range t ok m k p n (store s w e) le room h = (omega (arith, le, h.0), inlined_expr-in_range t ok m k p n e le room h.1)
  inlined_stmt-in_range t ok m k p n (fork e a b) le room h =
      let here = expr_slots t n e in
      let there = stmts_slots t here a in (
        inlined_expr-in_range t ok m k p n e le (omega (arith, room, stmts_slots-grow t here a, stmts_slots-grow t there b)) h.0,
        inlined_stmts-in_range t ok m k p here a le (omega (arith, room, stmts_slots-grow t there b)) h.1,
        inlined_stmts-in_range t ok m k p there b le room h.2,
      )
  inlined_stmt-in_range t ok m k p n (loop e a) le room h =
      (inlined_expr-in_range t ok m k p n e le (omega (arith, room, stmts_slots-grow t (expr_slots t n e) a)) h.0, inlined_stmts-in_range t ok m k p (expr_slots t n e) a le room h.1)
  inlined_stmt-in_range t ok m k p n (give e) le room h = inlined_expr-in_range t ok m k p n e le room h
  inlined_stmt-in_range t ok m k p n (print e) le room h = inlined_expr-in_range t ok m k p n e le room h
  inlined_stmt-in_range t ok m k p n (eval e w) le room h = inlined_expr-in_range t ok m k p n e le room h

  inlined_stmts-in_range : (t : List (Option PlainSmall)) → TableKeeps t → (m k p n : ℕ) (ss : PlainStmts) → m ≤ p → stmts_slots t n ss ≤ p → StmtsInRange m k ss → StmtsInRange p k (inlined_stmts t n ss)
  inlined_stmts-in_range t ok m k p n no_stmts le room h = tt
  inlined_stmts-in_range t ok m k p n (stmts s ss) le room h =
      (inlined_stmt-in_range t ok m k p n s le (omega (arith, room, stmts_slots-grow t (stmt_slots t n s) ss)) h.0, inlined_stmts-in_range t ok m k p (stmt_slots t n s) ss le room h.1)

inlined_fn-kept : (t : List (Option PlainSmall)) → TableKeeps t → (k : ℕ) (f : PlainFn) → IsFn k f → IsFn k (inlined_fn t f)
inlined_fn-kept t ok k f h =
    let grown : f.slots ≤ stmts_slots t f.slots f.body = stmts_slots-grow t f.slots f.body in
    record {
      symbol = h.symbol;
      slots = stmts_slots-low t f.slots f.body h.slots;
      params = omega (arith, h.params, grown);
      body = inlined_stmts-in_range t ok f.slots k (stmts_slots t f.slots f.body) f.slots f.body grown (omega arith) h.body;
    }

-- what the expression of a body keeps
given-in_range : (n k : ℕ) (ss : PlainStmts) (e : PlainExpr) → StmtsInRange n k ss → given ss ≡ Some e → ExprInRange n k e
given-in_range n k no_stmts e h is = absurd (cc)
given-in_range n k (stmts (store s w a) ss) e h is = absurd (cc)
given-in_range n k (stmts (fork a b c) ss) e h is = absurd (cc)
given-in_range n k (stmts (loop a b) ss) e h is = absurd (cc)
given-in_range n k (stmts (give a) no_stmts) e h is = let same : a ≡ e = cc in subst (ExprInRange n k) same h.0
given-in_range n k (stmts (give a) (stmts s ss)) e h is = absurd (cc)
given-in_range n k (stmts (print a) ss) e h is = absurd (cc)
given-in_range n k (stmts (eval a w) ss) e h is = absurd (cc)

small_if-keeps : (k : ℕ) (f : PlainFn) (b : Bool) (e : PlainExpr) (s : PlainSmall) → IsFn k f → ExprInRange f.slots k e → (b ≡ true → calls_nothing e ≡ true) → small_if f b e ≡ Some s
    → ExprInRange s.slots 0 s.gives × (s.params ≤ s.slots)
small_if-keeps k f true e s h he quiet is =
    let same : record { params = f.params; slots = f.slots; gives = e } ≡ s = cc in
    subst (λ (x : PlainSmall). ExprInRange x.slots 0 x.gives × (x.params ≤ x.slots)) same (without_calls f.slots k e he (quiet refl), h.params)
small_if-keeps k f false e s h he quiet is = absurd (cc)

small_giving-keeps : (k : ℕ) (f : PlainFn) (o : Option PlainExpr) (s : PlainSmall) → IsFn k f → ((e : PlainExpr) → o ≡ Some e → ExprInRange f.slots k e) → small_giving f o ≡ Some s
    → ExprInRange s.slots 0 s.gives × (s.params ≤ s.slots)
small_giving-keeps k f None s h ho is = absurd (cc)
small_giving-keeps k f (Some e) s h ho is = small_if-keeps k f (not f.external && calls_nothing e) e s h (ho e refl) (second_true (not f.external) (calls_nothing e)) is

pub smalls-keep : (k : ℕ) (fs : List PlainFn) → AllByRecursion (IsFn k) fs → TableKeeps (map small fs)
smalls-keep k [] h j s is = absurd (cc)
smalls-keep k (f ∷ fs) h zero s is = small_giving-keeps k f (given f.body) s h.0 (λ e given_is. given-in_range f.slots k f.body e h.0.body given_is) is
smalls-keep k (f ∷ fs) h (suc j) s is = smalls-keep k fs h.1 j s is

pub smalls-in_range : (k : ℕ) (fs : List PlainFn) → AllByRecursion (IsFn k) fs → SmallsInRange (map small fs)
smalls-in_range k fs h j s is = (smalls-keep k fs h j s is).0

pub inlined_unit-kept : (u : PlainUnit) → IsUnit u → IsUnit (inlined_unit u)
inlined_unit-kept u h =
    let t : List (Option PlainSmall) = map small u.functions in
    IsUnit-map (inlined_fn t) (λ f. refl) (inlined_fn-kept t (smalls-keep (callee_count u) u.functions h.each)) u h

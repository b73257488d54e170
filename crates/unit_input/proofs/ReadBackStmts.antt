-- The text of statements, functions and whole inputs is read back, whatever follows it.
use Rattle.std.proofs.Common.{◌≡◌, ℕ, zero, suc, ◌+◌, ◌<◌, ◌≤◌, ◌^◌, List, [], ◌∷◌, ◌++◌, length, Option, Some, Bool, true, ◌&&◌, refl, ap, ◌∙◌, arith, append_assoc}
use Rattle.std.specs.List.{AllByRecursion, flat_map, list_all}
use Rattle.std.proofs.lemmas.Bool.{ltb-true, and_parts}
use Rattle.unit_input.specs.Exprs.{PlainExpr}
use Rattle.unit_input.specs.Stmts.{PlainStmt, declare, assign, fork, loop, give, print, assert, eval, PlainStmts, no_stmts, stmts, stmt_count, stmt_total, stmts_total}
use Rattle.unit_input.specs.Inputs.{PlainFn, PlainExternal, PlainInput}
use Rattle.unit_input.specs.Widths.{Scope, scope_of, width}
use Rattle.unit_input.specs.Rules.{is_width, is_expr, gives, is_stmt, are_stmts, IsSymbol, IsFn, IsExternal, IsInput}
use Rattle.unit_input.specs.Spelling.{truth_byte, two, four, spell_expr, spell_stmt, spell_stmts, counted, spell_block, spell_symbol, spell_fn, spell_external, spell}
use Rattle.unit_input.proofs.Decoder.{Read, next, done, byte, read_two, read_four, many, is_true, read_expr, read_stmt, read_stmts, read_block, read_symbol, read_fn, read_external, read_input}
use Rattle.unit_input.proofs.ReadBack.{on, then_read, two_back, four_back, many_back, symbol_back, truth_back, width_fits, part_fits, expr_size, expr_back}

abbrev mutual
  pub stmt_size : PlainStmt → ℕ
  stmt_size (declare n e) = 1 + expr_size e
  stmt_size (assign n o w e) = 1 + expr_size e
  stmt_size (fork e a b) = 1 + (expr_size e + (stmts_size a + stmts_size b))
  stmt_size (loop e a) = 1 + (expr_size e + stmts_size a)
  stmt_size (give e) = 1 + expr_size e
  stmt_size (print e) = 1 + expr_size e
  stmt_size (assert e) = 1 + expr_size e
  stmt_size (eval e) = 1 + expr_size e

  pub stmts_size : PlainStmts → ℕ
  stmts_size no_stmts = 1
  stmts_size (stmts s ss) = 1 + (stmt_size s + stmts_size ss)

some_size : (x : PlainStmt) → stmt_size x ≤ 0 → ⊥
some_size (declare n e) le = absurd (omega (arith, le))
some_size (assign n o w e) le = absurd (omega (arith, le))
some_size (fork e a b) le = absurd (omega (arith, le))
some_size (loop e a) le = absurd (omega (arith, le))
some_size (give e) le = absurd (omega (arith, le))
some_size (print e) le = absurd (omega (arith, le))
some_size (assert e) le = absurd (omega (arith, le))
some_size (eval e) le = absurd (omega (arith, le))

-- ---- a block has no more statements than there are in all

counts : (x : PlainStmt) → 1 ≤ stmt_total x
counts (declare n e) = omega arith
counts (assign n o w e) = omega arith
counts (fork e a b) = omega arith
counts (loop e a) = omega arith
counts (give e) = omega arith
counts (print e) = omega arith
counts (assert e) = omega arith
counts (eval e) = omega arith

count_in_all : (xs : PlainStmts) → stmt_count xs ≤ stmts_total xs
count_in_all no_stmts = omega arith
count_in_all (stmts x xs) = omega (arith, counts x, count_in_all xs)

pub few_in_block : (xs : PlainStmts) → stmts_total xs < 2 ^ 32 → stmt_count xs < 2 ^ 32
few_in_block xs few = omega (arith, few, count_in_all xs)

-- ---- statements

block_back : (n : ℕ) (xs : PlainStmts) (r : List ℕ) → stmts_total xs < 2 ^ 32 → read_stmts n (stmt_count xs) (spell_stmts xs ++ r) ≡ Some (xs, r) → read_block n (four (stmt_count xs) ++ (spell_stmts xs ++ r)) ≡ Some (xs, r)
block_back n xs r few back = then_read (read_four (four (stmt_count xs) ++ (spell_stmts xs ++ r))) (stmt_count xs) (spell_stmts xs ++ r) (λ j. read_stmts n j) _ (four_back (stmt_count xs) (spell_stmts xs ++ r) (few_in_block xs few)) back

-- a statement that is its expression behind a tag
one_back : (n : ℕ) (s : Scope) (e : PlainExpr) (r : List ℕ) (make : PlainExpr → PlainStmt) → length s.locals < 2 ^ 32 → expr_size e ≤ n → is_expr s e ≡ true → next (read_expr n (spell_expr e ++ r)) (λ x. done (make x)) ≡ Some (make e, r)
one_back n s e r make few le ok = then_read (read_expr n (spell_expr e ++ r)) e r (λ x. done (make x)) _ (expr_back n s e r few le ok) refl

given : (s : Scope) (e : PlainExpr) (wide : ℕ) → gives s e wide ≡ true → is_expr s e ≡ true
given s e wide ok = (and_parts _ _ ok).1

mutual
  stmt_back : (n : ℕ) (s : Scope) (x : PlainStmt) (r : List ℕ) → length s.locals < 2 ^ 32 → stmt_total x < 2 ^ 32 → stmt_size x ≤ n → is_stmt s x ≡ true → read_stmt n (spell_stmt x ++ r) ≡ Some (x, r)
  stmt_back zero s x r few all le ok = absurd (some_size x le)
  stmt_back (suc n) s (declare k e) r few all le ok =
      let parts = and_parts _ _ ok in
      let below : k < length s.locals = ltb-true k (length s.locals) parts.0 in
      let low : k < 2 ^ 32 = omega (arith, few, below) in
      then_read (read_four (four k ++ (spell_expr e ++ r))) k (spell_expr e ++ r) (λ j cs. next (read_expr n cs) (λ x. done (declare j x))) _ (four_back k _ low)
      (one_back n s e r (declare k) few (omega (arith, le)) (given s e _ parts.1))
  stmt_back (suc n) s (assign k o w e) r few all le ok =
      let parts = and_parts _ _ ok in
      let place = and_parts _ _ parts.0 in
      let below : k < length s.locals = ltb-true k (length s.locals) place.0 in
      let low : k < 2 ^ 32 = omega (arith, few, below) in
      let fits = part_fits o w _ place.1 in
      then_read (read_four (four k ++ (two o ++ (two w ++ (spell_expr e ++ r))))) k (two o ++ (two w ++ (spell_expr e ++ r))) (λ j cs. next (read_two cs) (λ p ds. next (read_two ds) (λ v es. next (read_expr n es) (λ x. done (assign j p v x))))) _ (four_back k _ low)
      (then_read (read_two (two o ++ (two w ++ (spell_expr e ++ r)))) o (two w ++ (spell_expr e ++ r)) (λ p ds. next (read_two ds) (λ v es. next (read_expr n es) (λ x. done (assign k p v x)))) _ (two_back o _ fits.0)
      (then_read (read_two (two w ++ (spell_expr e ++ r))) w (spell_expr e ++ r) (λ v es. next (read_expr n es) (λ x. done (assign k o v x))) _ (two_back w _ fits.1)
      (one_back n s e r (assign k o w) few (omega (arith, le)) (given s e _ parts.1))))
  stmt_back (suc n) s (fork e a b) r few all le ok =
      let parts = and_parts _ _ ok in
      let front = and_parts _ _ parts.0 in
      let at_b = four (stmt_count b) ++ (spell_stmts b ++ r) in
      let at_a = four (stmt_count a) ++ (spell_stmts a ++ at_b) in
      ap (λ l. read_stmt (suc n) (3 ∷ l)) (append_assoc (spell_expr e) _ r ∙ ap (λ l. spell_expr e ++ (four (stmt_count a) ++ l)) (append_assoc (spell_stmts a) _ r))
      ∙ then_read (read_expr n (spell_expr e ++ at_a)) e at_a (λ x cs. next (read_block n cs) (λ y ds. next (read_block n ds) (λ z. done (fork x y z)))) _ (expr_back n s e at_a few (omega (arith, le)) (given s e 1 front.0))
      (then_read (read_block n at_a) a at_b (λ y ds. next (read_block n ds) (λ z. done (fork e y z))) _ (block_back n a at_b (omega (arith, all)) (stmts_back n s a at_b few (omega (arith, all)) (omega (arith, le)) front.1))
      (then_read (read_block n at_b) b r (λ z. done (fork e a z)) _ (block_back n b r (omega (arith, all)) (stmts_back n s b r few (omega (arith, all)) (omega (arith, le)) parts.1)) refl))
  stmt_back (suc n) s (loop e a) r few all le ok =
      let parts = and_parts _ _ ok in
      let at_a = four (stmt_count a) ++ (spell_stmts a ++ r) in
      ap (λ l. read_stmt (suc n) (4 ∷ l)) (append_assoc (spell_expr e) _ r)
      ∙ then_read (read_expr n (spell_expr e ++ at_a)) e at_a (λ x cs. next (read_block n cs) (λ y. done (loop x y))) _ (expr_back n s e at_a few (omega (arith, le)) (given s e 1 parts.0))
      (then_read (read_block n at_a) a r (λ y. done (loop e y)) _ (block_back n a r (omega (arith, all)) (stmts_back n s a r few (omega (arith, all)) (omega (arith, le)) parts.1)) refl)
  stmt_back (suc n) s (give e) r few all le ok = one_back n s e r give few (omega (arith, le)) (given s e _ ok)
  stmt_back (suc n) s (print e) r few all le ok = one_back n s e r print few (omega (arith, le)) (given s e 1 ok)
  stmt_back (suc n) s (assert e) r few all le ok = one_back n s e r assert few (omega (arith, le)) (and_parts _ _ ok).1
  stmt_back (suc n) s (eval e) r few all le ok = one_back n s e r eval few (omega (arith, le)) ok

  stmts_back : (n : ℕ) (s : Scope) (xs : PlainStmts) (r : List ℕ) → length s.locals < 2 ^ 32 → stmts_total xs < 2 ^ 32 → stmts_size xs ≤ n → are_stmts s xs ≡ true → read_stmts n (stmt_count xs) (spell_stmts xs ++ r) ≡ Some (xs, r)
  stmts_back zero s no_stmts r few all le ok = absurd (omega (arith, le))
  stmts_back zero s (stmts x xs) r few all le ok = absurd (omega (arith, le))
  stmts_back (suc n) s no_stmts r few all le ok = refl
  stmts_back (suc n) s (stmts x xs) r few all le ok =
      let rest = spell_stmts xs ++ r in
      let parts = and_parts _ _ ok in
      ap (λ l. read_stmts (suc n) (suc (stmt_count xs)) l) (append_assoc (spell_stmt x) (spell_stmts xs) r)
      ∙ on (read_stmt n (spell_stmt x ++ rest)) x rest (λ y cs. next (read_stmts n (stmt_count xs) cs) (λ ys. done (stmts y ys))) (stmt_back n s x rest few (omega (arith, all)) (omega (arith, le)) parts.0)
      ∙ on _ xs r (λ ys. done (stmts x ys)) (stmts_back n s xs r few (omega (arith, all)) (omega (arith, le)) parts.1)

-- ---- functions, externals and inputs

widths_fit : (xs : List ℕ) → list_all is_width xs ≡ true → AllByRecursion (λ n. n < 2 ^ 16) xs
widths_fit [] h = tt
widths_fit (x ∷ xs) h = let parts = and_parts (is_width x) (list_all is_width xs) h in (width_fits x parts.0, widths_fit xs parts.1)

-- a function that keeps the rules, and enough for its body
abbrev FnGood : ℕ → PlainInput → PlainFn → Type 0
FnGood n x f = IsFn (scope_of x f) f × (stmts_size f.body ≤ n)

fn_back : (n : ℕ) (x : PlainInput) (f : PlainFn) (r : List ℕ) → FnGood n x f → read_fn n (spell_fn f ++ r) ≡ Some (f, r)
fn_back n x f r good =
    let at_body = four (stmt_count f.body) ++ (spell_stmts f.body ++ r) in
    let at_locals = four (length f.locals) ++ (flat_map two f.locals ++ at_body) in
    let at_params = f.params ∷ at_locals in
    let at_result = two f.«result» ++ at_params in
    let at_external = truth_byte f.external ∷ at_result in
    let ok = good.0 in
    ap (read_fn n) (append_assoc (spell_symbol f.symbol) _ r ∙ ap (λ l. spell_symbol f.symbol ++ (truth_byte f.external ∷ (two f.«result» ++ (f.params ∷ (four (length f.locals) ++ l))))) (append_assoc (flat_map two f.locals) (four (stmt_count f.body) ++ spell_stmts f.body) r))
    ∙ then_read (read_symbol (spell_symbol f.symbol ++ at_external)) f.symbol at_external _ _ (symbol_back f.symbol at_external ok.symbol.short)
    (then_read (read_two at_result) f.«result» at_params (λ gives es. next (byte es) (λ params fs. next (read_four fs) (λ j gs. next (many read_two j gs) (λ locals hs. next (read_block n hs) (λ body. done (record { symbol = f.symbol; external = is_true (truth_byte f.external); «result» = gives; params = params; locals = locals; body = body })))))) _ (two_back f.«result» at_params (omega (arith, ok.«result»)))
    (then_read (read_four at_locals) (length f.locals) (flat_map two f.locals ++ at_body) (λ j gs. next (many read_two j gs) (λ locals hs. next (read_block n hs) (λ body. done (record { symbol = f.symbol; external = is_true (truth_byte f.external); «result» = f.«result»; params = f.params; locals = locals; body = body })))) _ (four_back (length f.locals) (flat_map two f.locals ++ at_body) ok.local_count)
    (then_read (many read_two (length f.locals) (flat_map two f.locals ++ at_body)) f.locals at_body (λ locals hs. next (read_block n hs) (λ body. done (record { symbol = f.symbol; external = is_true (truth_byte f.external); «result» = f.«result»; params = f.params; locals = locals; body = body }))) _ (many_back two read_two (λ k. k < 2 ^ 16) two_back f.locals at_body (widths_fit f.locals ok.locals))
    (then_read (read_block n at_body) f.body r (λ body. done (record { symbol = f.symbol; external = is_true (truth_byte f.external); «result» = f.«result»; params = f.params; locals = f.locals; body = body })) _ (block_back n f.body r ok.statements (stmts_back n (scope_of x f) f.body r ok.local_count ok.statements good.1 ok.body))
    (ap (λ b. Some (record { symbol = f.symbol; external = b; «result» = f.«result»; params = f.params; locals = f.locals; body = f.body }, r)) (truth_back f.external))))))

external_back : (x : PlainExternal) (r : List ℕ) → IsExternal x → read_external (spell_external x ++ r) ≡ Some (x, r)
external_back x r good =
    ap read_external (append_assoc (spell_symbol x.symbol) _ r)
    ∙ then_read (read_symbol (spell_symbol x.symbol ++ (two x.params ++ (two x.«result» ++ r)))) x.symbol (two x.params ++ (two x.«result» ++ r)) _ _ (symbol_back x.symbol (two x.params ++ (two x.«result» ++ r)) good.symbol.short)
    (then_read (read_two (two x.params ++ (two x.«result» ++ r))) x.params (two x.«result» ++ r) (λ params ds. next (read_two ds) (λ gives. done (record { symbol = x.symbol; params = params; «result» = gives }))) _ (two_back x.params (two x.«result» ++ r) (omega (arith, good.params)))
    (then_read (read_two (two x.«result» ++ r)) x.«result» r (λ gives. done (record { symbol = x.symbol; params = x.params; «result» = gives })) _ (two_back x.«result» r (omega (arith, good.«result»))) refl))

-- enough for the body of each function
abbrev pub fns_size : List PlainFn → ℕ
fns_size [] = 0
fns_size (f ∷ fs) = stmts_size f.body + fns_size fs

all_good : (n : ℕ) (x : PlainInput) (fs : List PlainFn) → fns_size fs ≤ n → AllByRecursion (λ f. IsFn (scope_of x f) f) fs → AllByRecursion (FnGood n x) fs
all_good n x [] le ok = tt
all_good n x (f ∷ fs) le ok = ((ok.0, omega (arith, le)), all_good n x fs (omega (arith, le)) ok.1)

-- what follows the magic and the version
abbrev pub after_magic : PlainInput → List ℕ
after_magic x = x.level ∷ (four (length x.functions) ++ (flat_map spell_fn x.functions ++ (four (length x.externals) ++ flat_map spell_external x.externals)))

pub input_back : (n : ℕ) (x : PlainInput) (r : List ℕ) → fns_size x.functions ≤ n → IsInput x → read_input n (after_magic x ++ r) ≡ Some (x, r)
input_back n x r le ok =
    let externals = flat_map spell_external x.externals ++ r in
    let at_externals = four (length x.externals) ++ externals in
    let functions = flat_map spell_fn x.functions ++ at_externals in
    ap (λ l. read_input n (x.level ∷ (four (length x.functions) ++ l))) (append_assoc (flat_map spell_fn x.functions) (four (length x.externals) ++ flat_map spell_external x.externals) r)
    ∙ then_read (read_four (four (length x.functions) ++ functions)) (length x.functions) functions (λ j ds. next (many (read_fn n) j ds) (λ functions es. next (read_four es) (λ k fs. next (many read_external k fs) (λ externals. done (record { level = x.level; functions = functions; externals = externals }))))) _ (four_back (length x.functions) functions ok.function_count)
    (then_read (many (read_fn n) (length x.functions) functions) x.functions at_externals (λ functions es. next (read_four es) (λ k fs. next (many read_external k fs) (λ externals. done (record { level = x.level; functions = functions; externals = externals })))) _ (many_back spell_fn (read_fn n) (FnGood n x) (fn_back n x) x.functions at_externals (all_good n x x.functions le ok.functions))
    (then_read (read_four at_externals) (length x.externals) externals (λ k fs. next (many read_external k fs) (λ externals. done (record { level = x.level; functions = x.functions; externals = externals }))) _ (four_back (length x.externals) externals ok.external_count)
    (then_read (many read_external (length x.externals) externals) x.externals r (λ externals. done (record { level = x.level; functions = x.functions; externals = externals })) _ (many_back spell_external read_external IsExternal external_back x.externals r ok.externals) refl)))

-- The text of a part is read back, whatever follows it.
use Rattle.std.proofs.Common.{◌≡◌, ℕ, zero, suc, ◌+◌, ◌<◌, ◌≤◌, ◌^◌, List, [], ◌∷◌, ◌++◌, length, Option, Some, Bool, true, false, ◌&&◌, refl, ap, ◌∙◌, arith, append_assoc}
use Rattle.std.specs.Prelude.{ℤ, pos, negsuc, FitsSigned}
use Rattle.std.specs.Int.{w64, byte_at, to_be_bytes, cast_signed, cast_unsigned}
use Rattle.std.specs.List.{AllByRecursion, flat_map}
use Rattle.std.proofs.Math.Facts.{Fits-of_z, Fits-lt-pow}
use Rattle.std.proofs.lemmas.Bool.{ltb-true, leb-true, and_parts}
use Rattle.std.proofs.lemmas.Int.{to_z-of_z}
use Rattle.std.proofs.lemmas.Nat.{from_be_bytes-to_be_bytes_2, from_be_bytes-to_be_bytes_4, from_be_bytes-to_be_bytes_8}
use Rattle.unit_input.specs.declared.expr.UnaryOp.{UnaryOp}
use Rattle.unit_input.specs.declared.expr.UnaryOp.TheVariants as unary_op
use Rattle.unit_input.specs.declared.expr.BinaryOp.{BinaryOp}
use Rattle.unit_input.specs.declared.expr.BinaryOp.TheVariants as binary_op
use Rattle.unit_input.specs.Exprs.{PlainExpr, int, truth, local, field, tuple, unary, binary, call, PlainExprs, no_exprs, exprs, expr_count}
use Rattle.unit_input.specs.Widths.{Scope}
use Rattle.unit_input.specs.Rules.{is_word, is_width, is_part, is_expr, are_exprs}
use Rattle.unit_input.specs.Spelling.{unary_byte, binary_byte, truth_byte, one, two, four, spell_expr, spell_exprs, spell_symbol}
use Rattle.unit_input.proofs.Decoder.{Read, next, done, byte, read_two, read_four, read_eight, many, is_true, unary_of, binary_of, read_expr, read_exprs, read_symbol}

-- one part is read, and the reading goes on
pub on : {A B : Type 0} (o : Option (A × List ℕ)) (x : A) (r : List ℕ) (go : A → Read B) → o ≡ Some (x, r) → next o go ≡ go x r
on o x r go e = ap (λ p. next p go) e

pub then_read : {A B : Type 0} (o : Option (A × List ℕ)) (x : A) (r : List ℕ) (go : A → Read B) (end : Option (B × List ℕ)) → o ≡ Some (x, r) → go x r ≡ end → next o go ≡ end
then_read o x r go end e f = ap (λ p. next p go) e ∙ f

-- a number that one byte holds
pub one_byte : (n : ℕ) → n < 256 → byte_at 0 n ≡ n
one_byte n low = omega (arith, low)

pub two_back : (n : ℕ) (r : List ℕ) → n < 2 ^ 16 → read_two (two n ++ r) ≡ Some (n, r)
two_back n r low = ap (λ k. Some (k, r)) (from_be_bytes-to_be_bytes_2 n low)

pub four_back : (n : ℕ) (r : List ℕ) → n < 2 ^ 32 → read_four (four n ++ r) ≡ Some (n, r)
four_back n r low = ap (λ k. Some (k, r)) (from_be_bytes-to_be_bytes_4 n low)

eight_back : (n : ℕ) (r : List ℕ) → n < 2 ^ 64 → read_eight (to_be_bytes w64 n ++ r) ≡ Some (n, r)
eight_back n r low = ap (λ k. Some (k, r)) (from_be_bytes-to_be_bytes_8 n low)

-- so many of a kind, each of which is read back
pub many_back : {A : Type 0} (spell_one : A → List ℕ) (read : Read A) (Good : A → Type 0) → ((x : A) (r : List ℕ) → Good x → read (spell_one x ++ r) ≡ Some (x, r))
    → (xs : List A) (r : List ℕ) → AllByRecursion Good xs → many read (length xs) (flat_map spell_one xs ++ r) ≡ Some (xs, r)
many_back spell_one read Good back [] r good = refl
many_back spell_one read Good back (x ∷ xs) r good =
    let rest = flat_map spell_one xs ++ r in
    ap (λ l. many read (suc (length xs)) l) (append_assoc (spell_one x) (flat_map spell_one xs) r)
    ∙ on (read (spell_one x ++ rest)) x rest _ (back x rest good.0)
    ∙ on (many read (length xs) rest) xs r _ (many_back spell_one read Good back xs r good.1)

bytes_back : (s r : List ℕ) → many byte (length s) (s ++ r) ≡ Some (s, r)
bytes_back [] r = refl
bytes_back (b ∷ bs) r = on (many byte (length bs) (bs ++ r)) bs r (λ xs. done (b ∷ xs)) (bytes_back bs r)

pub symbol_back : (s r : List ℕ) → length s < 2 ^ 32 → read_symbol (spell_symbol s ++ r) ≡ Some (s, r)
symbol_back s r low = on (read_four (four (length s) ++ (s ++ r))) (length s) (s ++ r) (λ k. many byte k) (four_back (length s) (s ++ r) low) ∙ bytes_back s r

-- ---- single bytes

pub truth_back : (b : Bool) → is_true (truth_byte b) ≡ b
truth_back true = refl
truth_back false = refl

unary_back : (o : UnaryOp) → unary_of (unary_byte o) ≡ o
unary_back unary_op.Neg = refl
unary_back unary_op.Not = refl

binary_back : (o : BinaryOp) → binary_of (binary_byte o) ≡ o
binary_back binary_op.Add = refl
binary_back binary_op.Sub = refl
binary_back binary_op.Mul = refl
binary_back binary_op.Div = refl
binary_back binary_op.Rem = refl
binary_back binary_op.Equal = refl
binary_back binary_op.NotEqual = refl
binary_back binary_op.Less = refl
binary_back binary_op.AtMost = refl
binary_back binary_op.Greater = refl
binary_back binary_op.AtLeast = refl
binary_back binary_op.And = refl
binary_back binary_op.Or = refl

-- ---- numbers that keep the rules fit their fields

word_fits : (v : ℤ) → is_word v ≡ true → FitsSigned w64 v
word_fits (pos n) h = record { sfits = ltb-true n (2 ^ 63) h }
word_fits (negsuc n) h = record { sfits = ltb-true n (2 ^ 63) h }

pub width_fits : (n : ℕ) → is_width n ≡ true → n < 2 ^ 16
width_fits n h = let le : n ≤ 256 = leb-true n 256 h in omega (arith, le)

pub part_fits : (offset wide whole : ℕ) → is_part offset wide whole ≡ true → (offset < 2 ^ 16) × (wide < 2 ^ 16)
part_fits offset wide whole h =
    let parts = and_parts _ _ h in
    let widths = and_parts _ _ parts.0 in
    (width_fits offset widths.0, width_fits wide widths.1)

-- ---- expressions

abbrev mutual
  pub expr_size : PlainExpr → ℕ
  expr_size (int v) = 1
  expr_size (truth b) = 1
  expr_size (local n) = 1
  expr_size (field e o w) = 1 + expr_size e
  expr_size (tuple es) = 1 + exprs_size es
  expr_size (unary op e) = 1 + expr_size e
  expr_size (binary op a b) = 1 + (expr_size a + expr_size b)
  expr_size (call k es) = 1 + exprs_size es

  pub exprs_size : PlainExprs → ℕ
  exprs_size no_exprs = 1
  exprs_size (exprs e es) = 1 + (expr_size e + exprs_size es)

some_size : (e : PlainExpr) → expr_size e ≤ 0 → ⊥
some_size (int v) le = absurd (omega (arith, le))
some_size (truth b) le = absurd (omega (arith, le))
some_size (local n) le = absurd (omega (arith, le))
some_size (field e o w) le = absurd (omega (arith, le))
some_size (tuple es) le = absurd (omega (arith, le))
some_size (unary op e) le = absurd (omega (arith, le))
some_size (binary op a b) le = absurd (omega (arith, le))
some_size (call k es) le = absurd (omega (arith, le))

mutual
  pub expr_back : (n : ℕ) (s : Scope) (e : PlainExpr) (r : List ℕ) → length s.locals < 2 ^ 32 → expr_size e ≤ n → is_expr s e ≡ true → read_expr n (spell_expr e ++ r) ≡ Some (e, r)
  expr_back zero s e r few le ok = absurd (some_size e le)
  expr_back (suc n) s (int v) r few le ok =
      let fits = word_fits v ok in
      on _ (cast_unsigned w64 v) r (λ k. done (int (cast_signed w64 k))) (eight_back (cast_unsigned w64 v) r (Fits-lt-pow {w = w64} (Fits-of_z fits))) ∙ ap (λ k. Some (int k, r)) (to_z-of_z w64 v fits)
  expr_back (suc n) s (truth b) r few le ok = ap (λ c. Some (truth c, r)) (truth_back b)
  expr_back (suc n) s (local k) r few le ok =
      let below : k < length s.locals = ltb-true k (length s.locals) ok in
      on _ k r (λ j. done (local j)) (four_back k r (omega (arith, few, below)))
  expr_back (suc n) s (field e o w) r few le ok =
      let parts = and_parts _ _ ok in
      let fits = part_fits o w _ parts.0 in
      then_read (read_two (two o ++ (two w ++ (spell_expr e ++ r)))) o (two w ++ (spell_expr e ++ r)) (λ p cs. next (read_two cs) (λ v ds. next (read_expr n ds) (λ x. done (field x p v)))) _ (two_back o _ fits.0)
      (then_read (read_two (two w ++ (spell_expr e ++ r))) w (spell_expr e ++ r) (λ v ds. next (read_expr n ds) (λ x. done (field x o v))) _ (two_back w _ fits.1)
      (then_read (read_expr n (spell_expr e ++ r)) e r (λ x. done (field x o w)) _ (expr_back n s e r few (omega (arith, le)) parts.1) refl))
  expr_back (suc n) s (tuple es) r few le ok =
      let parts = and_parts _ _ ok in
      let short : expr_count es < 256 = ltb-true (expr_count es) 256 parts.0 in
      ap (λ k. next (read_exprs n k (spell_exprs es ++ r)) (λ xs. done (tuple xs))) (one_byte (expr_count es) short)
      ∙ on _ es r (λ xs. done (tuple xs)) (exprs_back n s es r few (omega (arith, le)) parts.1)
  expr_back (suc n) s (unary op e) r few le ok =
      then_read (read_expr n (spell_expr e ++ r)) e r (λ x. done (unary (unary_of (unary_byte op)) x)) _ (expr_back n s e r few (omega (arith, le)) (and_parts _ _ ok).1)
      (ap (λ o. Some (unary o e, r)) (unary_back op))
  expr_back (suc n) s (binary op a b) r few le ok =
      let parts = and_parts _ _ ok in
      let left = and_parts _ _ parts.0 in
      ap (λ l. read_expr (suc n) (0x07 ∷ binary_byte op ∷ l)) (append_assoc (spell_expr a) (spell_expr b) r)
      ∙ then_read (read_expr n (spell_expr a ++ (spell_expr b ++ r))) a (spell_expr b ++ r) (λ x ds. next (read_expr n ds) (λ y. done (binary (binary_of (binary_byte op)) x y))) _ (expr_back n s a _ few (omega (arith, le)) left.1)
      (then_read (read_expr n (spell_expr b ++ r)) b r (λ y. done (binary (binary_of (binary_byte op)) a y)) _ (expr_back n s b r few (omega (arith, le)) parts.1)
      (ap (λ o. Some (binary o a b, r)) (binary_back op)))
  expr_back (suc n) s (call k es) r few le ok =
      let parts = and_parts _ _ ok in
      let fits = and_parts _ _ (and_parts _ _ (and_parts _ _ parts.0).0).0 in
      let low : k < 2 ^ 32 = ltb-true k (2 ^ 32) fits.0 in
      let short : expr_count es < 256 = ltb-true (expr_count es) 256 (and_parts _ _ (and_parts _ _ parts.0).0).1 in
      on (read_four (four k ++ (one (expr_count es) ++ (spell_exprs es ++ r)))) k (one (expr_count es) ++ (spell_exprs es ++ r)) (λ f cs. next (byte cs) (λ j ds. next (read_exprs n j ds) (λ xs. done (call f xs)))) (four_back k _ low)
      ∙ ap (λ j. next (read_exprs n j (spell_exprs es ++ r)) (λ xs. done (call k xs))) (one_byte (expr_count es) short)
      ∙ on _ es r (λ xs. done (call k xs)) (exprs_back n s es r few (omega (arith, le)) parts.1)

  exprs_back : (n : ℕ) (s : Scope) (es : PlainExprs) (r : List ℕ) → length s.locals < 2 ^ 32 → exprs_size es ≤ n → are_exprs s es ≡ true → read_exprs n (expr_count es) (spell_exprs es ++ r) ≡ Some (es, r)
  exprs_back zero s no_exprs r few le ok = absurd (omega (arith, le))
  exprs_back zero s (exprs e es) r few le ok = absurd (omega (arith, le))
  exprs_back (suc n) s no_exprs r few le ok = refl
  exprs_back (suc n) s (exprs e es) r few le ok =
      let rest = spell_exprs es ++ r in
      let parts = and_parts _ _ ok in
      ap (λ l. read_exprs (suc n) (suc (expr_count es)) l) (append_assoc (spell_expr e) (spell_exprs es) r)
      ∙ on (read_expr n (spell_expr e ++ rest)) e rest (λ x cs. next (read_exprs n (expr_count es) cs) (λ xs. done (exprs x xs))) (expr_back n s e rest few (omega (arith, le)) parts.0)
      ∙ on _ es r (λ xs. done (exprs e xs)) (exprs_back n s es r few (omega (arith, le)) parts.1)

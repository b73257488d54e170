use Rattle.std.proofs.Common.{◌≡◌, ◌≢◌, ℕ, zero, suc, ◌+◌, ◌<◌, List, [], ◌∷◌, ◌++◌, length, refl, sym, ap, ◌∙◌, subst, arith, Bool, true, false, cond, Option, Some, None, add-zero}
use Rattle.std.specs.Prelude.{if◌then◌else◌}
use Rattle.std.specs.Ordering.{eq_by_cmp, is_eq}
use Rattle.std.specs.BTreeMap.{BTreeMap, get}
use Rattle.type_table.specs.declared.row.Row.{Row}
use Rattle.type_table.specs.Index.{row_cmp, place_from, place_of, IsIndex}
use Rattle.type_table.specs.Rows.{row_at}
use Rattle.type_table.proofs.RowKeys.{exact, same_row}

abbrev or_else : Option ℕ → Option ℕ → Option ℕ
or_else None o = o
or_else (Some p) o = Some p

push_by : (n : ℕ) (q k x : Row) (xs : List Row) (b : Bool) → place_from (n + 1) q (xs ++ k ∷ []) ≡ or_else (place_from (n + 1) q xs) (if eq_by_cmp row_cmp k q then Some (n + 1 + length xs) else None) → cond b (Some n) (place_from (n + 1) q (xs ++ k ∷ [])) ≡ or_else (cond b (Some n) (place_from (n + 1) q xs)) (if eq_by_cmp row_cmp k q then Some (n + length (x ∷ xs)) else None)
push_by n q k x xs true rest = refl
push_by n q k x xs false rest = let e : n + 1 + length xs ≡ n + suc (length xs) = omega arith in subst (λ (m : ℕ). place_from (n + 1) q (xs ++ k ∷ []) ≡ or_else (place_from (n + 1) q xs) (if eq_by_cmp row_cmp k q then Some m else None)) e rest

push_from : (n : ℕ) (q k : Row) (xs : List Row) → place_from n q (xs ++ k ∷ []) ≡ or_else (place_from n q xs) (if eq_by_cmp row_cmp k q then Some (n + length xs) else None)
push_from n q k [] = rw add-zero refl
push_from n q k (x ∷ xs) = push_by n q k x xs (eq_by_cmp row_cmp x q) (push_from (n + 1) q k xs)

place_push : (q k : Row) (xs : List Row) → place_of q (xs ++ k ∷ []) ≡ or_else (place_of q xs) (if eq_by_cmp row_cmp k q then Some (length xs) else None)
unfolding place_of
place_push q k xs = let e : 0 + length xs ≡ length xs = omega arith in subst (λ (m : ℕ). place_from 0 q (xs ++ k ∷ []) ≡ or_else (place_from 0 q xs) (if eq_by_cmp row_cmp k q then Some m else None)) e (push_from 0 q k xs)

or_none : (o : Option ℕ) → or_else o None ≡ o
or_none None = refl
or_none (Some p) = refl

indexed : (xs : List Row) (m n : BTreeMap Row ℕ) (k : Row) → IsIndex xs m → place_of k xs ≡ None → ((q : Row) → get row_cmp n q ≡ cond (is_eq (row_cmp k q)) (Some (length xs)) (get row_cmp m q)) → IsIndex (xs ++ k ∷ []) n
indexed xs m n k old new says = record { each = λ q. says q ∙ by_key q (is_eq (row_cmp k q)) refl ∙ sym (place_push q k xs) }
  where
    by_key : (q : Row) (b : Bool) → is_eq (row_cmp k q) ≡ b → cond b (Some (length xs)) (get row_cmp m q) ≡ or_else (place_of q xs) (cond b (Some (length xs)) None)
    by_key q true is = let gone : place_of q xs ≡ None = subst (λ (x : Row). place_of x xs ≡ None) (exact k q is) new in rw gone refl
    by_key q false is = old.each q ∙ sym (or_none (place_of q xs))

pub index_none : (m : BTreeMap Row ℕ) → m.entries ≡ [] → IsIndex [] m
unfolding place_of
index_none m h = record { each = λ q. rw h refl }

pub pushed : (xs ys : List Row) (m n : BTreeMap Row ℕ) (k : Row) (p : ℕ) → IsIndex xs m → place_of k xs ≡ None → ys ≡ xs ++ k ∷ [] → p ≡ length xs → ((q : Row) → get row_cmp n q ≡ cond (is_eq (row_cmp k q)) (Some p) (get row_cmp m q)) → IsIndex ys n
pushed xs ys m n k p old new is at says = rw is (indexed xs m n k old new (λ q. says q ∙ ap (λ (x : ℕ). cond (is_eq (row_cmp k q)) (Some x) (get row_cmp m q)) at))

record Found (n p : ℕ) (q : Row) (xs : List Row) : Type 0 where
  i : ℕ
  within : i < length xs
  place : p ≡ n + i
  is : row_at xs i ≡ q

found_by : (n p : ℕ) (q x : Row) (xs : List Row) (b : Bool) → eq_by_cmp row_cmp x q ≡ b → cond b (Some n) (place_from (n + 1) q xs) ≡ Some p → (place_from (n + 1) q xs ≡ Some p → Found (n + 1) p q xs) → Found n p q (x ∷ xs)
found_by n p q x xs true t e rest = let o : n ≡ p = cc in record { i = 0; within = omega arith; place = omega arith; is = exact x q t }
found_by n p q x xs false t e rest = let f : Found (n + 1) p q xs = rest e in record { i = suc f.i; within = (let l = f.within in omega arith); place = (let l = f.place in omega arith); is = f.is }

found_from : (n p : ℕ) (q : Row) (xs : List Row) → place_from n q xs ≡ Some p → Found n p q xs
found_from n p q [] e = cc
found_from n p q (x ∷ xs) e = found_by n p q x xs (eq_by_cmp row_cmp x q) refl e (found_from (n + 1) p q xs)

-- a row that is found stands at its place
pub found_place : (xs : List Row) (q : Row) (p : ℕ) → place_of q xs ≡ Some p → (p < length xs) × (row_at xs p ≡ q)
unfolding place_of
found_place xs q p e =
    let f : Found 0 p q xs = found_from 0 p q xs e in
    let l : f.i < length xs = f.within in
    let o : p ≡ 0 + f.i = f.place in
    let same : f.i ≡ p = omega arith in
    (omega arith, subst (λ (i : ℕ). row_at xs i ≡ q) same f.is)

missing_by : (n : ℕ) (q x : Row) (xs : List Row) (b : Bool) → eq_by_cmp row_cmp x q ≡ b → cond b (Some n) (place_from (n + 1) q xs) ≡ None → (x ≢ q) × (place_from (n + 1) q xs ≡ None)
missing_by n q x xs true t e = cc
missing_by n q x xs false t e = ((λ same. let s : eq_by_cmp row_cmp q q ≡ true = same_row q in let t2 : eq_by_cmp row_cmp q q ≡ false = subst (λ (y : Row). eq_by_cmp row_cmp y q ≡ false) same t in cc), e)

missing_from : (n : ℕ) (q : Row) (xs : List Row) (i : ℕ) → place_from n q xs ≡ None → i < length xs → row_at xs i ≢ q
missing_from n q [] i e h = absurd (omega arith)
missing_from n q (x ∷ xs) zero e h = (missing_by n q x xs (eq_by_cmp row_cmp x q) refl e).0
missing_from n q (x ∷ xs) (suc i) e h = missing_from (n + 1) q xs i (missing_by n q x xs (eq_by_cmp row_cmp x q) refl e).1 (omega arith)

-- a row that is not found is none of the rows
pub missing : (xs : List Row) (q : Row) (i : ℕ) → place_of q xs ≡ None → i < length xs → row_at xs i ≢ q
unfolding place_of
missing xs q i e h = missing_from 0 q xs i e h

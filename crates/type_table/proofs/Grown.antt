use Rattle.std.proofs.Common.{◌≡◌, ℕ, zero, suc, ◌+◌, ◌<◌, ◌≤◌, List, [], ◌∷◌, ◌++◌, length, get_or, refl, sym, ap, ◌∙◌, subst, arith, ◌⊎◌, inl, inr, Some, None}
use Rattle.std.proofs.lemmas.Bool.{cases_lt}
use Rattle.std.proofs.lemmas.List.{length_push}
use Rattle.type_table.specs.declared.row.Row.{Row}
use Rattle.type_table.specs.TypeOf.{TypeOf}
use Rattle.type_table.specs.Index.{place_of}
use Rattle.type_table.specs.Rows.{at, type_of, types_from, types, type_at, row_at, Names, IsTable, Keeps, Stands}
use Rattle.type_table.proofs.Views.{row_stands, at_front, at_last, length_from}
use Rattle.type_table.proofs.Indexed.{found_place, missing}

push_types_from : (ts : List TypeOf) (rs : List Row) (r : Row) → types_from ts (rs ++ r ∷ []) ≡ types_from ts rs ++ type_of (types_from ts rs) r ∷ []
push_types_from ts [] r = refl
push_types_from ts (x ∷ rs) r = push_types_from (ts ++ type_of ts x ∷ []) rs r

pub push_types : (rs : List Row) (r : Row) → types (rs ++ r ∷ []) ≡ types rs ++ type_of (types rs) r ∷ []
unfolding types
push_types rs r = push_types_from [] rs r

pub length_types : (rs : List Row) → length (types rs) ≡ length rs
unfolding types
length_types rs = length_from [] rs ∙ omega arith

row_front : (rs : List Row) (r : Row) (i : ℕ) → i < length rs → row_at (rs ++ r ∷ []) i ≡ row_at rs i
row_front [] r i h = absurd (omega arith)
row_front (x ∷ rs) r zero h = refl
row_front (x ∷ rs) r (suc i) h = row_front rs r i (omega arith)

row_last : (rs : List Row) (r : Row) → row_at (rs ++ r ∷ []) (length rs) ≡ r
row_last [] r = refl
row_last (x ∷ rs) r = row_last rs r

split_last : (i n : ℕ) → i < n + 1 → (i < n) ⊎ (i ≡ n)
split_last i n h = elim (cases_lt i n) as (λ _. (i < n) ⊎ (i ≡ n)) [ inl l ↦ inl l | inr g ↦ inr (omega arith) ]

pub table_none : IsTable []
table_none = record { earlier = λ i h. absurd (omega arith); apart = λ i j h k e. absurd (omega arith) }

pub table_push : (rs ys : List Row) (r : Row) → IsTable rs → place_of r rs ≡ None → Names (length rs) r → ys ≡ rs ++ r ∷ [] → IsTable ys
table_push rs ys r t none names is =
    let l : length (rs ++ r ∷ []) ≡ length rs + 1 = length_push rs r in
    rw is (record {
      earlier = λ i h. elim (split_last i (length rs) (omega arith)) as (λ _. Names i (row_at (rs ++ r ∷ []) i)) [ inl b ↦ subst (λ (x : Row). Names i x) (sym (row_front rs r i b)) (t.earlier i b) | inr e ↦ subst (λ (k : ℕ). Names k (row_at (rs ++ r ∷ []) k)) (sym e) (subst (λ (x : Row). Names (length rs) x) (sym (row_last rs r)) names) ];
      apart = λ i j h k e. both i j e (split_last i (length rs) (omega arith)) (split_last j (length rs) (omega arith));
    })
  where
    both : (i j : ℕ) → row_at (rs ++ r ∷ []) i ≡ row_at (rs ++ r ∷ []) j → (i < length rs) ⊎ (i ≡ length rs) → (j < length rs) ⊎ (j ≡ length rs) → i ≡ j
    both i j e (inl a) (inl b) = t.apart i j a b (sym (row_front rs r i a) ∙ e ∙ row_front rs r j b)
    both i j e (inl a) (inr b) = absurd (missing rs r i none a (sym (row_front rs r i a) ∙ e ∙ ap (row_at (rs ++ r ∷ [])) b ∙ row_last rs r))
    both i j e (inr a) (inl b) = absurd (missing rs r j none b (sym (row_front rs r j b) ∙ sym e ∙ ap (row_at (rs ++ r ∷ [])) a ∙ row_last rs r))
    both i j e (inr a) (inr b) = a ∙ sym b

pub keeps_all : (rs : List Row) → Keeps rs rs
keeps_all rs = record { longer = omega arith; same = λ n h. refl }

pub keeps_push : (rs ys : List Row) (r : Row) → ys ≡ rs ++ r ∷ [] → Keeps rs ys
unfolding type_at
keeps_push rs ys r is =
    let l : length (rs ++ r ∷ []) ≡ length rs + 1 = length_push rs r in
    rw is (record { longer = omega arith; same = λ n h. ap (λ (ts : List TypeOf). at ts n) (push_types rs r) ∙ at_front (types rs) (type_of (types rs) r ∷ []) n (let k : length (types rs) ≡ length rs = length_types rs in omega arith) })

pub stands_push : (rs ys : List Row) (r : Row) (n : ℕ) → ys ≡ rs ++ r ∷ [] → n ≡ length rs → Stands ys n (type_of (types rs) r)
unfolding type_at
stands_push rs ys r n is e =
    let l : length (rs ++ r ∷ []) ≡ length rs + 1 = length_push rs r in
    let k : n ≡ length (types rs) = e ∙ sym (length_types rs) in
    rw is (record { within = omega arith; is = ap (λ (ts : List TypeOf). at ts n) (push_types rs r) ∙ ap (at (types rs ++ type_of (types rs) r ∷ [])) k ∙ at_last (types rs) (type_of (types rs) r) })

pub stands_found : (rs : List Row) (r : Row) (p : ℕ) → IsTable rs → place_of r rs ≡ Some p → Stands rs p (type_of (types rs) r)
stands_found rs r p t e =
    let f : (p < length rs) × (row_at rs p ≡ r) = found_place rs r p e in
    record { within = f.0; is = row_stands rs p t f.0 ∙ ap (type_of (types rs)) f.1 }

pub row_is : (rs : List Row) (i : ℕ) (r : Row) → IsTable rs → i < length rs → r ≡ row_at rs i → type_at rs i ≡ type_of (types rs) r
row_is rs i r t h e = row_stands rs i t h ∙ ap (type_of (types rs)) (sym e)

row_any : (rs : List Row) (i : ℕ) (d : Row) → i < length rs → get_or rs i d ≡ row_at rs i
row_any [] i d h = absurd (omega arith)
row_any (x ∷ rs) zero d h = refl
row_any (x ∷ rs) (suc i) d h = row_any rs i d (omega arith)

-- what an index gives
pub row_got : (rs now : List Row) (i : ℕ) (r : Row) → rs ≡ now → i < length now → r ≡ get_or rs i r → r ≡ row_at now i
row_got rs now i r e h is = is ∙ ap (λ (xs : List Row). get_or xs i r) e ∙ row_any now i r h

pub keeps_trans : (old mid new : List Row) → Keeps old mid → Keeps mid new → Keeps old new
keeps_trans old mid new p q =
    let a : length old ≤ length mid = p.longer in
    let b : length mid ≤ length new = q.longer in
    record { longer = omega arith; same = λ n h. q.same n (omega arith) ∙ p.same n h }

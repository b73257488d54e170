use Rattle.std.proofs.Common.{◌≡◌, ◌≢◌, ℕ, ◌+◌, ◌<◌, ◌≤◌, List, [], ◌∷◌, ◌++◌, length, take, get_or, set, refl, sym, ap, ◌∙◌, subst, arith, Bool, true, false, cond, ◌||◌, ⊎_elim}
use Rattle.std.specs.Prelude.{Vec, slice_get, nat_eq, filter, All}
use Rattle.std.specs.Global.{Global}
use Rattle.std.specs.Cmp.{nat_eq_equiv}
use Rattle.std.specs.List.{list_any, IsDistinct}
use Rattle.std.proofs.lemmas.Map.Views.{exact_unsigned_eq}
use Rattle.std.proofs.lemmas.Bool.{cases_eq, or_right}
use Rattle.std.proofs.lemmas.List.{take_more, length-set, get_or-set_same, get_or-set_other}
use Rattle.std.proofs.lemmas.List.Elements.{filter_more}
use Rattle.std.proofs.lemmas.List.Folds.{list_any-append}
use Rattle.std.proofs.lemmas.Option.{slice_get-get_or, slice_get_read}
use Rattle.std.proofs.lemmas.Bool.Decides.{eqb_tells}
use Rattle.reach.specs.Reach.{has, with, added, IsFound}
use Rattle.reach.proofs.Found.{added_append, Reading, reading_none, reading_more, reading_once, reading_all}
use Rattle.std.proofs.lemmas.List.Elements.{All-tail, All-head, All-push, All-filter, All-contains}
use Rattle.std.proofs.lemmas.Map.Steps.{length-le_from_distinct_below}
use Rattle.std.proofs.lemmas.Map.Views.{Contains-from_any}
use Rattle.std.proofs.lemmas.List.{take_all}
use Rattle.cgu_copies.specs.Copies.{is_free, free_calls, row_of, IsMarked, InRange, Reached}

or_false : (b : Bool) → (b || false) ≡ b
or_false true = refl
or_false false = refl

pub unequal : (a b : ℕ) → a ≢ b → nat_eq a b ≡ false
unequal a b h = ⊎_elim (λ p. absurd (h p.1)) (λ p. p.0) (eqb_tells a b)

pub free_is : (homeless : List Bool) (t : ℕ) (d b : Bool) → t < length homeless → get_or homeless t d ≡ b → is_free homeless t ≡ b
free_is homeless t d true room e = rw (slice_get-get_or homeless t d room, e) refl
free_is homeless t d false room e = rw (slice_get-get_or homeless t d room, e) refl

-- one more item is marked
pub marked_more : (mark : ℕ) (seen us : List ℕ) (t : ℕ) (now vs : List ℕ) → t < length seen → now ≡ set seen t mark → vs ≡ us ++ t ∷ [] → IsMarked mark seen us → IsMarked mark now vs
marked_more mark seen us t now vs inside put pushed h = rw (put, pushed) (record { each = λ q l. ⊎_elim (λ same. here q same) (λ apart. there q apart (subst (λ n. q < n) (length-set seen t mark) l)) (cases_eq q t) })
  where
    here : (q : ℕ) → q ≡ t → nat_eq (get_or (set seen t mark) q 0) mark ≡ has nat_eq q (us ++ t ∷ [])
    here q same = rw same (rw (get_or-set_same seen t mark 0 inside) (nat_eq_equiv.refl mark ∙ sym (list_any-append (nat_eq t) us (t ∷ []) ∙ or_right (list_any (nat_eq t) us) (nat_eq t t || false) (ap (λ b. b || false) (nat_eq_equiv.refl t)))))

    there : (q : ℕ) → q ≢ t → q < length seen → nat_eq (get_or (set seen t mark) q 0) mark ≡ has nat_eq q (us ++ t ∷ [])
    there q apart l = rw (get_or-set_other seen t q mark 0 apart) (h.each q l ∙ sym (list_any-append (nat_eq q) us (t ∷ []) ∙ ap (λ b. list_any (nat_eq q) us || (b || false)) (unequal q t apart) ∙ or_false (list_any (nat_eq q) us)))

module _ (homeless : List Bool) (mark t : ℕ) (seen us : List ℕ) (inside : t < length homeless) (same : length seen ≡ length homeless) (h : IsMarked mark seen us) where
  pub reached_home : get_or homeless t false ≡ false → Reached homeless mark (t ∷ []) us seen us
  reached_home f = record { marked = h; found = sym (ap (λ b. added nat_eq us (cond b (t ∷ []) [])) (free_is homeless t false false inside f)) }

  pub reached_seen : get_or homeless t false ≡ true → get_or seen t 0 ≡ mark → Reached homeless mark (t ∷ []) us seen us
  reached_seen f m =
      let e : has nat_eq t us ≡ true = sym (h.each t (omega arith)) ∙ ap (λ x. nat_eq x mark) m ∙ nat_eq_equiv.refl mark in
      record { marked = h; found = sym (ap (λ b. added nat_eq us (cond b (t ∷ []) [])) (free_is homeless t false true inside f) ∙ ap (λ b. cond b us (us ++ t ∷ [])) e) }

  pub reached_new : get_or homeless t false ≡ true → (get_or seen t 0 ≡ mark → ⊥) → (now vs : List ℕ) → now ≡ set seen t mark → vs ≡ us ++ t ∷ [] → Reached homeless mark (t ∷ []) us now vs
  reached_new f m now vs put pushed =
      let e : has nat_eq t us ≡ false = sym (h.each t (omega arith)) ∙ unequal (get_or seen t 0) mark m in
      record { marked = marked_more mark seen us t now vs (omega arith) put pushed h; found = pushed ∙ sym (ap (λ b. added nat_eq us (cond b (t ∷ []) [])) (free_is homeless t false true inside f) ∙ ap (λ b. cond b us (us ++ t ∷ [])) e) }

-- a row whose calls before i are read, and one more
pub row_more : (homeless : List Bool) (mark : ℕ) (row start : List ℕ) (i : ℕ) (seen us now vs : List ℕ) → i < length row → Reached homeless mark (take i row) start seen us → Reached homeless mark (get_or row i 0 ∷ []) us now vs → Reached homeless mark (take (i + 1) row) start now vs
row_more homeless mark row start i seen us now vs room h r = record {
  marked = r.marked;
  found = r.found ∙ ap (λ xs. added nat_eq xs (cond (is_free homeless (get_or row i 0)) (get_or row i 0 ∷ []) [])) h.found ∙ sym (added_append nat_eq nat_eq_equiv exact_unsigned_eq start (filter (is_free homeless) (take i row)) (cond (is_free homeless (get_or row i 0)) (get_or row i 0 ∷ []) [])) ∙ sym (ap (λ xs. added nat_eq start xs) (filter_more (is_free homeless) row i 0 room));
}

-- the home items before i are there, with their marks
pub record Homing (mark : ℕ) (home : List ℕ) (i : ℕ) (seen us : List ℕ) : Type 0 where
  pub marked : IsMarked mark seen us
  pub found : us ≡ take i home

pub homing_none : (mark : ℕ) (home seen us : List ℕ) → All (λ s. s ≢ mark) seen → us ≡ [] → Homing mark home 0 seen us
homing_none mark home seen us fresh is = rw is (record { marked = record { each = λ t l. unequal (get_or seen t 0) mark (fresh t 0 l) }; found = refl })

pub homing_more : (mark : ℕ) (home : List ℕ) (i : ℕ) (seen us now vs : List ℕ) → i < length home → get_or home i 0 < length seen → Homing mark home i seen us → now ≡ set seen (get_or home i 0) mark → vs ≡ us ++ get_or home i 0 ∷ [] → Homing mark home (i + 1) now vs
homing_more mark home i seen us now vs room inside h put pushed = record {
  marked = marked_more mark seen us (get_or home i 0) now vs inside put pushed h.marked;
  found = pushed ∙ ap (λ xs. xs ++ get_or home i 0 ∷ []) h.found ∙ sym (take_more home i 0 room);
}

-- the members before `member` are read
pub record Copying (callees : List (Vec ℕ Global)) (homeless : List Bool) (mark : ℕ) (home : List ℕ) (member : ℕ) (seen us : List ℕ) : Type 0 where
  pub marked : IsMarked mark seen us
  pub below : All (λ t. t < length homeless) us
  pub reading : Reading nat_eq nat_eq_equiv exact_unsigned_eq (free_calls callees homeless) home member us

all_added : (P : ℕ → Type 0) (us xs : List ℕ) → All P us → All P xs → All P (added nat_eq us xs)
all_added P us [] a b = a
all_added P us (x ∷ xs) a b = all_added P (with nat_eq us x) xs (by (has nat_eq x us)) (All-tail P x xs b)
  where
    by : (c : Bool) → All P (cond c us (us ++ x ∷ []))
    by true = a
    by false = All-push P us x a (All-head P x xs b)

pub copying_none : (callees : List (Vec ℕ Global)) (homeless : List Bool) (mark : ℕ) (home : List ℕ) (i : ℕ) (seen us : List ℕ) → IsDistinct nat_eq home → All (λ t. t < length homeless) home → length home ≤ i → Homing mark home i seen us → Copying callees homeless mark home 0 seen us
copying_none callees homeless mark home i seen us once inside over h =
    let is : us ≡ home = h.found ∙ take_all i home over in
    record { marked = h.marked; below = rw is inside; reading = rw is (reading_none nat_eq nat_eq_equiv exact_unsigned_eq (free_calls callees homeless) home once) }

pub copying_more : (callees : List (Vec ℕ Global)) (homeless : List Bool) (mark : ℕ) (home : List ℕ) (i : ℕ) (seen us now vs row : List ℕ) (u : ℕ) → IsDistinct nat_eq home → All (λ t. t < length homeless) row → i < length us → u ≡ get_or us i u → row_of (slice_get callees u) ≡ row → Copying callees homeless mark home i seen us → Reached homeless mark row us now vs → Copying callees homeless mark home (i + 1) now vs
unfolding free_calls
copying_more callees homeless mark home i seen us now vs row u once inside room is at h r = record {
  marked = r.marked;
  below = rw r.found (all_added (λ t. t < length homeless) us (filter (is_free homeless) row) h.below (All-filter (is_free homeless) (λ t. t < length homeless) row inside));
  reading = reading_more nat_eq nat_eq_equiv exact_unsigned_eq (free_calls callees homeless) home once i us vs u h.reading room (sym is) (r.found ∙ ap (λ xs. added nat_eq us (filter (is_free homeless) xs)) (sym at));
}

pub copying_few : (callees : List (Vec ℕ Global)) (homeless : List Bool) (mark : ℕ) (home : List ℕ) (i : ℕ) (seen us : List ℕ) → IsDistinct nat_eq home → Copying callees homeless mark home i seen us → length us ≤ length homeless
copying_few callees homeless mark home i seen us once h = length-le_from_distinct_below us (length homeless) (reading_once nat_eq nat_eq_equiv exact_unsigned_eq (free_calls callees homeless) home once i us h.reading) (λ q m. All-contains (λ t. t < length homeless) us q h.below (Contains-from_any exact_unsigned_eq q us m))

pub copying_all : (callees : List (Vec ℕ Global)) (homeless : List Bool) (mark : ℕ) (home : List ℕ) (i : ℕ) (seen us : List ℕ) → IsDistinct nat_eq home → length us ≤ i → Copying callees homeless mark home i seen us → IsFound nat_eq (free_calls callees homeless) home us
copying_all callees homeless mark home i seen us once over h = reading_all nat_eq nat_eq_equiv exact_unsigned_eq (free_calls callees homeless) home once i us over h.reading

pub record RowAt (callees : List (Vec ℕ Global)) (n u : ℕ) (row : List ℕ) : Type 0 where
  pub inside : All (λ t. t < n) row
  pub is : row_of (slice_get callees u) ≡ row

pub row_at : (callees : List (Vec ℕ Global)) (n u : ℕ) (v : Vec ℕ Global) (row : List ℕ) → InRange callees n → u < length callees → v ≡ get_or callees u v → row ≡ v.items → RowAt callees n u row
row_at callees n u v row graph room is at = rw at (record {
  inside = subst (λ (w : Vec ℕ Global). All (λ t. t < n) w.items) (sym is) (graph u v room);
  is = rw (slice_get_read callees (length callees) u v refl room is) refl;
})

-- Heights by offset, as a list of numbers shows them.
use Rattle.std.proofs.Common.{◌≡◌, ◌≢◌, ℕ, ◌<◌, ◌≤◌, List, [], ◌∷◌, ◌++◌, length, slice_index, slice_set, Option, Some, None, Bool, true, false, refl, arith, eqb, if◌then◌else◌, get_or-set_other, get_or-set_same, length-set, inl, inr, sym, ◌∙◌, ap}
use Rattle.std.proofs.lemmas.Bool.{cases_eq}
use Rattle.std.proofs.lemmas.Bool.Decides.{nat_tests}
use Rattle.stack_vm.specs.Heights.{first_at, as_number, Shows}

abbrev pub or_else : Option ℕ → Option ℕ → Option ℕ
or_else (Some x) o = Some x
or_else None o = o

chosen : (b : Bool) (x : ℕ) (o p : Option ℕ) → (if b then Some x else or_else o p) ≡ or_else (if b then Some x else o) p
chosen true x o p = refl
chosen false x o p = refl

pub first_at-append : (xs ys : List (ℕ × ℕ)) (t : ℕ) → first_at (xs ++ ys) t ≡ or_else (first_at xs t) (first_at ys t)
first_at-append [] ys t = refl
first_at-append (x ∷ xs) ys t = ap (λ (o : Option ℕ). if eqb x.0 t then Some x.1 else o) (first_at-append xs ys t) ∙ chosen (eqb x.0 t) x.1 (first_at xs t) (first_at ys t)

-- one more jump
pub added : (js : List (ℕ × ℕ)) (to left t : ℕ) → first_at (js ++ (to, left) ∷ []) t ≡ or_else (first_at js t) (if eqb to t then Some left else None)
added [] to left t = refl
added (j ∷ js) to left t = ap (λ (o : Option ℕ). if eqb j.0 t then Some j.1 else o) (added js to left t) ∙ chosen (eqb j.0 t) j.1 (first_at js t) (if eqb to t then Some left else None)

-- what was brought stays
kept : (o : Option ℕ) (to left t : ℕ) → ((o ≡ None → eqb to t ≡ false)) → as_number (or_else o (if eqb to t then Some left else None)) ≡ as_number o
kept (Some x) to left t h = refl
kept None to left t h = rw (h refl) refl

some_is : {x y : ℕ} → Some x ≡ Some y → x ≡ y
some_is e = cc

grown : (o : Option ℕ) (to left t h limit : ℕ) → (((x : ℕ) → o ≡ Some x → x ≤ limit)) → left ≤ limit → or_else o (if eqb to t then Some left else None) ≡ Some h → h ≤ limit
grown (Some x) to left t h limit p q e = p h e
grown None to left t h limit p q e = elim (eqb to t) as (λ (b : Bool). (if b then Some left else None) ≡ Some h → h ≤ limit) [ true ↦ (λ e. omega (arith, q, some_is e)) | false ↦ (λ e. absurd (cc)) ] e

none_there : (o : Option ℕ) (limit : ℕ) → (((x : ℕ) → o ≡ Some x → x ≤ limit)) → limit < 4294967295 → as_number o ≡ 4294967295 → o ≡ None
none_there None limit p l e = refl
none_there (Some x) limit p l e = absurd (omega (arith, p x refl, e))

pub not_same : (to t : ℕ) → (to ≡ t → ⊥) → eqb to t ≡ false
not_same to t h = grind (arith, nat_tests)

pub the_same : (t : ℕ) → eqb t t ≡ true
the_same t = grind (arith, nat_tests)

at_same : (o : Option ℕ) (b : Bool) (left : ℕ) → o ≡ None → b ≡ true → as_number (or_else o (if b then Some left else None)) ≡ left
at_same o b left p q = rw (p, q) refl

pub brought_set : (js : List (ℕ × ℕ)) (xs : List ℕ) (to left limit : ℕ) → Shows js xs limit → to < length xs → slice_index xs to ≡ 4294967295 → left ≤ limit → limit < 4294967295
    → Shows (js ++ (to, left) ∷ []) (slice_set xs to left) limit
brought_set js xs to left limit b there free low small = record {
  each = λ t lt. rw (added js to left t) (elim (cases_eq t to) [
    | inl e ↦ rw e (get_or-set_same xs to left 0 there ∙ sym (at_same _ _ left (none_there _ limit (b.small to) small (sym (b.each to there) ∙ free)) (the_same to)))
    | inr n ↦ get_or-set_other xs to t left 0 n ∙ (b.each t (omega (arith, lt, length-set xs to left)) ∙ sym (kept (first_at js t) to left t (λ e. not_same to t (λ q. n (sym q)))))
  ]);
  small = λ t h e. grown (first_at js t) to left t h limit (b.small t) low (sym (added js to left t) ∙ e);
}

pub brought_same : (js : List (ℕ × ℕ)) (xs : List ℕ) (to left limit : ℕ) → Shows js xs limit → (to < length xs → slice_index xs to ≢ 4294967295) → left ≤ limit
    → Shows (js ++ (to, left) ∷ []) xs limit
brought_same js xs to left limit b held low = record {
  each = λ t lt. rw (added js to left t) (b.each t lt ∙ sym (kept (first_at js t) to left t (λ e. not_same to t (λ q. held (rw q lt) (rw q (b.each t lt ∙ ap as_number e))))));
  small = λ t h e. grown (first_at js t) to left t h limit (b.small t) low (sym (added js to left t) ∙ e);
}

-- To be led to by so many steps, and to be led to by a list of calls.
use Rattle.std.proofs.Common.{◌≡◌, ℕ, zero, suc, ◌+◌, ◌<◌, ◌≤◌, ◌⊎◌, List, [], ◌∷◌, length, get_or, sym, ap, ◌∙◌, subst, arith, Bool, true, false, cond, ◌||◌, ◌&&◌, refl, inl, inr, zero-add}
use Rattle.std.specs.Prelude.{filter, nat_eq}
use Rattle.std.specs.List.{AllByRecursion, list_any, range_with_len}
use Rattle.std.proofs.lemmas.List.Folds.{list_any_at}
use Rattle.std.proofs.lemmas.List.FromFn.{length-range_with_len, get_or-range_with_len}
use Rattle.reach.specs.Reach.{has, Leads}
use Rattle.lar_typed.proofs.SameTypes.{and_true, both_true}
use Rattle.program_units.specs.Units.{is_led}

pub or_right : (a b : Bool) → b ≡ true → (a || b) ≡ true
or_right true b h = refl
or_right false b h = h

pub or_left : (a b : Bool) → a ≡ true → (a || b) ≡ true
or_left a b h = ap (λ (c : Bool). c || b) h

some_of : (f : ℕ → Bool) (xs : List ℕ) → list_any f xs ≡ true → (q : ℕ) × (f q ≡ true)
some_of f [] h = absurd (cc)
some_of f (x ∷ xs) h = by (f x) refl h (some_of f xs)
  where
    by : (b : Bool) → f x ≡ b → (b || list_any f xs) ≡ true → (list_any f xs ≡ true → (q : ℕ) × (f q ≡ true)) → (q : ℕ) × (f q ≡ true)
    by true is h rest = (x, is)
    by false is h rest = rest h

some_in_range : (f : ℕ → Bool) (n q : ℕ) → q < n → f q ≡ true → list_any f (range_with_len 0 n) ≡ true
some_in_range f n q l h =
    let len : length (range_with_len 0 n) ≡ n = length-range_with_len 0 n in
    let at : get_or (range_with_len 0 n) q 0 ≡ q = get_or-range_with_len 0 n q 0 l ∙ zero-add q in
    list_any_at f (range_with_len 0 n) q 0 (omega arith) (ap f at ∙ h)

all_in_range : (P : ℕ → Type 0) (a n : ℕ) → AllByRecursion P (range_with_len a n) → (i : ℕ) → i < n → P (a + i)
all_in_range P a zero h i l = absurd (omega arith)
all_in_range P a (suc n) h zero l = let e : a ≡ a + 0 = omega arith in subst P e h.0
all_in_range P a (suc n) h (suc i) l = let e : a + 1 + i ≡ a + suc i = omega arith in subst P e (all_in_range P (a + 1) n h.1 i (omega arith))

-- ---- tests that grow
any_weaker : (f g s : ℕ → Bool) (xs : List ℕ) → AllByRecursion (λ q. f q ≡ true → g q ≡ true) xs → list_any (λ q. f q && s q) xs ≡ true → list_any (λ q. g q && s q) xs ≡ true
any_weaker f g s [] w h = h
any_weaker f g s (x ∷ xs) w h = by (f x && s x) refl h (any_weaker f g s xs w.1)
  where
    by : (b : Bool) → (f x && s x) ≡ b → (b || list_any (λ q. f q && s q) xs) ≡ true → (list_any (λ q. f q && s q) xs ≡ true → list_any (λ q. g q && s q) xs ≡ true) → ((g x && s x) || list_any (λ q. g q && s q) xs) ≡ true
    by true is h rest = let p = and_true (f x) (s x) is in or_left (g x && s x) (list_any (λ q. g q && s q) xs) (both_true (g x) (s x) (w.0 p.0) p.1)
    by false is h rest = or_right (g x && s x) (list_any (λ q. g q && s q) xs) (rest h)

module _ (f g : ℕ → Bool) (grows : (q : ℕ) → g q ≡ true → f q ≡ true) where
  filter_le : (xs : List ℕ) → length (filter g xs) ≤ length (filter f xs)
  filter_le [] = omega arith
  filter_le (x ∷ xs) = by (f x) refl (g x) refl (filter_le xs)
    where
      by : (b : Bool) → f x ≡ b → (d : Bool) → g x ≡ d → length (filter g xs) ≤ length (filter f xs) → length (cond d (x ∷ filter g xs) (filter g xs)) ≤ length (cond b (x ∷ filter f xs) (filter f xs))
      by true p true q h = omega arith
      by true p false q h = omega arith
      by false p true q h = let e : f x ≡ true = grows x q in absurd (cc)
      by false p false q h = h

  -- no more elements pass the wider test, or it passes elements that the other does not
  same_or_more : (xs : List ℕ) → AllByRecursion (λ q. f q ≡ true → g q ≡ true) xs ⊎ (length (filter g xs) < length (filter f xs))
  same_or_more [] = inl tt
  same_or_more (x ∷ xs) = by (f x) refl (g x) refl (filter_le xs) (same_or_more xs)
    where
      by : (b : Bool) → f x ≡ b → (d : Bool) → g x ≡ d → length (filter g xs) ≤ length (filter f xs) → AllByRecursion (λ q. f q ≡ true → g q ≡ true) xs ⊎ (length (filter g xs) < length (filter f xs)) → AllByRecursion (λ q. f q ≡ true → g q ≡ true) (x ∷ xs) ⊎ (length (cond d (x ∷ filter g xs) (filter g xs)) < length (cond b (x ∷ filter f xs) (filter f xs)))
      by true p true q le (inl same) = inl ((λ t. q), same)
      by true p true q le (inr more) = inr (omega arith)
      by true p false q le r = inr (omega arith)
      by false p true q le r = let e : f x ≡ true = grows x q in absurd (cc)
      by false p false q le (inl same) = inl ((λ t. absurd (cc)), same)
      by false p false q le (inr more) = inr more

module _ (step : ℕ → ℕ → Bool) (count : ℕ) (from : List ℕ) where
  abbrev pub Led : ℕ → ℕ → Type 0
  Led n p = is_led step count from n p ≡ true

  grows : (n p : ℕ) → Led n p → Led (suc n) p
  grows n p h = or_left (is_led step count from n p) (list_any (λ q. is_led step count from n q && step q p) (range_with_len 0 count)) h

  led_more : (k n p : ℕ) → Led n p → Led (n + k) p
  led_more zero n p h = let e : n ≡ n + 0 = omega arith in subst (λ (m : ℕ). Led m p) e h
  led_more (suc k) n p h = let e : suc (n + k) ≡ n + suc k = omega arith in subst (λ (m : ℕ). Led m p) e (grows (n + k) p (led_more k n p h))

  -- one more step leads to no other place
  abbrev pub Still : ℕ → Type 0
  Still n = AllByRecursion (λ q. Led (suc n) q → Led n q) (range_with_len 0 count)

  still_next : (n p : ℕ) → Still n → Led (suc (suc n)) p → Led (suc n) p
  still_next n p still h = by (is_led step count from (suc n) p) refl h
    where
      by : (b : Bool) → is_led step count from (suc n) p ≡ b → (b || list_any (λ q. is_led step count from (suc n) q && step q p) (range_with_len 0 count)) ≡ true → Led (suc n) p
      by true is h = is
      by false is h = or_right (is_led step count from n p) (list_any (λ q. is_led step count from n q && step q p) (range_with_len 0 count)) (any_weaker (is_led step count from (suc n)) (is_led step count from n) (λ q. step q p) (range_with_len 0 count) still h)

  for_all : (P : ℕ → Type 0) → ((q : ℕ) → P q) → (xs : List ℕ) → AllByRecursion P xs
  for_all P h [] = tt
  for_all P h (x ∷ xs) = (h x, for_all P h xs)

  still_later : (n : ℕ) → Still n → Still (suc n)
  still_later n still = for_all (λ q. Led (suc (suc n)) q → Led (suc n) q) (λ q. still_next n q still) (range_with_len 0 count)

  abbrev reached : ℕ → ℕ
  reached n = length (filter (is_led step count from n) (range_with_len 0 count))

  -- each step that leads to another place leads to one more
  still_or_many : (n : ℕ) → Still n ⊎ (n ≤ reached n)
  still_or_many zero = inr (omega arith)
  still_or_many (suc n) = by (still_or_many n) (same_or_more (is_led step count from (suc n)) (is_led step count from n) (grows n) (range_with_len 0 count))
    where
      by : Still n ⊎ (n ≤ reached n) → Still n ⊎ (reached n < reached (suc n)) → Still (suc n) ⊎ (suc n ≤ reached (suc n))
      by (inl still) r = inl (still_later n still)
      by (inr many) (inl still) = inl (still_later n still)
      by (inr many) (inr more) = inr (omega arith)

  few : (p : ℕ → Bool) (xs : List ℕ) → length (filter p xs) ≤ length xs
  few p [] = omega arith
  few p (x ∷ xs) = by (p x) (few p xs)
    where
      by : (b : Bool) → length (filter p xs) ≤ length xs → length (cond b (x ∷ filter p xs) (filter p xs)) ≤ length (x ∷ xs)
      by true h = omega arith
      by false h = omega arith

  still_at_count : Still count
  still_at_count = by (still_or_many count) (same_or_more (is_led step count from (suc count)) (is_led step count from count) (grows count) (range_with_len 0 count))
    where
      by : Still count ⊎ (count ≤ reached count) → Still count ⊎ (reached count < reached (suc count)) → Still count
      by (inl still) r = still
      by (inr many) (inl still) = still
      by (inr many) (inr more) =
          let most : reached (suc count) ≤ length (range_with_len 0 count) = few (is_led step count from (suc count)) (range_with_len 0 count) in
          let len : length (range_with_len 0 count) ≡ count = length-range_with_len 0 count in
          absurd (omega arith)

  still_from : (k : ℕ) → Still (count + k)
  still_from zero = let e : count ≡ count + 0 = omega arith in subst Still e still_at_count
  still_from (suc k) = let e : suc (count + k) ≡ count + suc k = omega arith in subst Still e (still_later (count + k) (still_from k))

  led_down : (k p : ℕ) → p < count → Led (count + k) p → Led count p
  led_down zero p l h = let e : count + 0 ≡ count = omega arith in subst (λ (m : ℕ). Led m p) e h
  led_down (suc k) p l h =
      let e : count + suc k ≡ suc (count + k) = omega arith in
      let down : Led (suc (count + k)) p → Led (count + k) p = subst (λ (i : ℕ). Led (suc (count + k)) i → Led (count + k) i) (zero-add p) (all_in_range (λ q. Led (suc (count + k)) q → Led (count + k) q) 0 count (still_from k) p l) in
      led_down k p l (down (subst (λ (m : ℕ). Led m p) e h))

  -- what any number of steps leads to, as many steps as there are places lead to
  led_settles : (n p : ℕ) → p < count → Led n p → Led count p
  led_settles n p l h = let e : n + count ≡ count + n = omega arith in led_down n p l (subst (λ (m : ℕ). Led m p) e (led_more count n p h))

module _ (calls : ℕ → List ℕ) (step : ℕ → ℕ → Bool) (same : (q p : ℕ) → step q p ≡ has nat_eq p (calls q)) (count : ℕ) (from : List ℕ) where
  -- a list of calls that leads to a place
  abbrev pub LedTo : ℕ → Type 0
  LedTo p = (a : ℕ) × (has nat_eq a from ≡ true) × ((steps : ℕ) × Leads nat_eq calls steps a p)

  pub led_leads : (n p : ℕ) → is_led step count from n p ≡ true → LedTo p
  led_leads zero p h = (p, h, (0, refl))
  led_leads (suc n) p h = by (is_led step count from n p) refl h (led_leads n)
    where
      by : (b : Bool) → is_led step count from n p ≡ b → (b || list_any (λ q. is_led step count from n q && step q p) (range_with_len 0 count)) ≡ true → ((q : ℕ) → is_led step count from n q ≡ true → LedTo q) → LedTo p
      by true is h before = before p is
      by false is h before =
          let q = some_of (λ q. is_led step count from n q && step q p) (range_with_len 0 count) h in
          let both = and_true (is_led step count from n q.0) (step q.0 p) q.1 in
          let way = before q.0 both.0 in
          (way.0, way.1, (suc way.2.0, (q.0, way.2.1, sym (same q.0 p) ∙ both.1)))

  module _ (from_inside : (p : ℕ) → has nat_eq p from ≡ true → p < count) (calls_inside : (q p : ℕ) → has nat_eq p (calls q) ≡ true → p < count) where
    led_inside : (n a p : ℕ) → has nat_eq a from ≡ true → Leads nat_eq calls n a p → p < count
    led_inside zero a p h l = let e : a ≡ p = l in subst (λ (q : ℕ). q < count) e (from_inside a h)
    led_inside (suc n) a p h l = calls_inside l.0 p l.2

    leads_led : (n a p : ℕ) → has nat_eq a from ≡ true → Leads nat_eq calls n a p → is_led step count from n p ≡ true
    leads_led zero a p h l = let e : a ≡ p = l in subst (λ (q : ℕ). has nat_eq q from ≡ true) e h
    leads_led (suc n) a p h l =
        or_right (is_led step count from n p) (list_any (λ q. is_led step count from n q && step q p) (range_with_len 0 count))
        (some_in_range (λ q. is_led step count from n q && step q p) count l.0 (led_inside n a l.0 h l.1) (both_true (is_led step count from n l.0) (step l.0 p) (leads_led n a l.0 h l.1) (same l.0 p ∙ l.2)))

    pub leads_settles : (p : ℕ) → p < count → LedTo p → is_led step count from count p ≡ true
    leads_settles p l way = led_settles step count from way.2.0 p l (leads_led way.2.0 way.0 p way.1 way.2.1)

-- The names of homes are names that units can be merged by.
use Rattle.std.proofs.Common.{ℕ, zero, suc, ◌<◌, List, [], ◌∷◌, ◌++◌, length, map, arith, Bool, true, false, cond}
use Rattle.std.specs.Prelude.{All, filter, codes}
use Rattle.std.specs.List.{AllByRecursion}
use Rattle.std.proofs.lemmas.List.Elements.{recursion_from_All}
use Rattle.std.proofs.lemmas.Map.Keys.{Less-from_sorted}
use Rattle.text_order.specs.TextOrder.{text_cmp, text_at, text_order, AreApart}
use Rattle.text_order.proofs.Ordered.{order_inside, order_rises, rising_apart}
use Rattle.cgu_merge.specs.Ranked.{AreNames}
use Rattle.mono_items.specs.declared.items.MonoItem.{MonoItem}
use Rattle.mono_items.specs.Homes.{has_home, home_of, homes, first_names}

abbrev Above : List ℕ → Type 0
Above n = AllByRecursion (λ c. 43 < c) n

both : (xs ys : List ℕ) → Above xs → Above ys → Above (xs ++ ys)
both [] ys a b = b
both (x ∷ xs) ys a b = (a.0, both xs ys a.1 b)

volatile_above : Above (codes ".volatile")
volatile_above = (omega arith, (omega arith, (omega arith, (omega arith, (omega arith, (omega arith, (omega arith, (omega arith, (omega arith, tt)))))))))

home_above : (x : MonoItem) → Above x.place → Above (home_of x)
home_above x h = both x.place (cond x.generic (codes ".volatile") []) h (by x.generic)
  where
    by : (b : Bool) → Above (cond b (codes ".volatile") [])
    by true = volatile_above
    by false = tt

homes_above : (items : List MonoItem) → AllByRecursion (λ x. Above x.place) items → AllByRecursion Above (homes items)
homes_above [] h = tt
homes_above (x ∷ xs) h = by (has_home x) (homes_above xs h.1)
  where
    by : (b : Bool) → AllByRecursion Above (homes xs) → AllByRecursion Above (map home_of (cond b (x ∷ filter has_home xs) (filter has_home xs)))
    by true r = (home_above x h.0, r)
    by false r = r

at_text : (ts : List (List ℕ)) (i : ℕ) → AllByRecursion Above ts → i < length ts → Above (text_at ts i)
at_text [] i h l = absurd (omega arith)
at_text (t ∷ ts) zero h l = h.0
at_text (t ∷ ts) (suc i) h l = at_text ts i h.1 (omega arith)

picked : (ts : List (List ℕ)) (ps : List ℕ) → AllByRecursion Above ts → AllByRecursion (λ p. p < length ts) ps → AllByRecursion Above (map (text_at ts) ps)
picked ts [] h g = tt
picked ts (p ∷ ps) h g = (at_text ts p h g.0, picked ts ps h g.1)

pub names_are : (items : List MonoItem) → All (λ x. AllByRecursion (λ c. 43 < c) x.place) items → AreNames (first_names items)
unfolding first_names
names_are items h = record {
  rise = λ i j p q. Less-from_sorted text_cmp (map (text_at (homes items)) (text_order (homes items))) i j [] (order_rises (homes items)) p q;
  above = picked (homes items) (text_order (homes items)) (homes_above items (recursion_from_All (λ x. AllByRecursion (λ c. 43 < c) x.place) items h)) (recursion_from_All (λ p. p < length (homes items)) (text_order (homes items)) (order_inside (homes items)));
}

pub names_apart : (items : List MonoItem) → AreApart (first_names items)
unfolding first_names
names_apart items = rising_apart (map (text_at (homes items)) (text_order (homes items))) (order_rises (homes items))

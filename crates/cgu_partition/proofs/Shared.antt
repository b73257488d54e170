-- Each first unit is in one of the units that are left.
use Rattle.std.proofs.Common.{◌≡◌, ℕ, zero, suc, ◌<◌, List, [], ◌∷◌, length, map, refl, sym, ap, ◌∙◌, arith, Bool, true, false, Option, Some, None}
use Rattle.std.specs.Prelude.{slice_get, nat_eq}
use Rattle.std.proofs.lemmas.List.{length-map}
use Rattle.std.proofs.lemmas.Option.{slice_get_within}
use Rattle.reach.specs.Reach.{has}
use Rattle.text_order.specs.Sorted.{sorted}
use Rattle.cgu_merge.specs.declared.units.MergedUnit.{MergedUnit}
use Rattle.cgu_merge.specs.Merging.{Merged, merged_units}
use Rattle.cgu_merge.specs.Ranked.{Named, finished, named_view}
use Rattle.cgu_partition.specs.Buckets.{unit_has, IsUnitOf, AreShared}
use Rattle.cgu_partition.proofs.Planned.{any_sorted}
use Rattle.cgu_partition.proofs.Tallies.{total_units, OneUnit, one_unit}

abbrev first_in : Option Merged → ℕ → Bool
first_in None r = false
first_in (Some l) r = has nat_eq r l.firsts

same_first : (names : List (List ℕ)) (us : List MergedUnit) (ls : List Merged) → map named_view us ≡ map (finished names) ls → (k r : ℕ) → unit_has us k r ≡ first_in (slice_get ls k) r
same_first names [] [] e k r = refl
same_first names [] (l ∷ ls) e k r = cc
same_first names (u ∷ us) [] e k r = cc
same_first names (u ∷ us) (l ∷ ls) e zero r =
    let one : named_view u ≡ finished names l = cc in
    let firsts : u.firsts.items ≡ sorted l.firsts = ap (λ (n : Named). n.firsts) one in
    ap (has nat_eq r) firsts ∙ any_sorted (nat_eq r) l.firsts
same_first names (u ∷ us) (l ∷ ls) e (suc k) r = let rest : map named_view us ≡ map (finished names) ls = cc in same_first names us ls rest k r

some_first : (ls : List Merged) (k r : ℕ) (o : Option Merged) → slice_get ls k ≡ o → first_in o r ≡ true → (l : Merged) × (slice_get ls k ≡ Some l) × (has nat_eq r l.firsts ≡ true)
some_first ls k r None at h = cc
some_first ls k r (Some l) at h = (l, at, h)

pub shared_are : (names : List (List ℕ)) (sizes : List ℕ) (limit : ℕ) (us : List MergedUnit) (n : ℕ) → length sizes ≡ length names → n ≡ length names → map named_view us ≡ map (finished names) (merged_units names sizes limit) → AreShared n us
shared_are names sizes limit us n sized count e = record { each = λ r l. by r (one_unit r (merged_units names sizes limit) (total_units r names sizes limit (omega arith))) }
  where
    by : (r : ℕ) → OneUnit r (merged_units names sizes limit) → (k : ℕ) × IsUnitOf us r k
    by r o = (
      o.at,
      record {
        inside = (let a : o.at < length (merged_units names sizes limit) = slice_get_within (merged_units names sizes limit) o.at o.u o.there in let b : length us ≡ length (merged_units names sizes limit) = sym (length-map us named_view) ∙ ap length e ∙ length-map (merged_units names sizes limit) (finished names) in omega arith);
        there = same_first names us (merged_units names sizes limit) e o.at r ∙ ap (λ x. first_in x r) o.there ∙ o.has_it;
        alone = λ j h. let s = some_first (merged_units names sizes limit) j r (slice_get (merged_units names sizes limit) j) refl (sym (same_first names us (merged_units names sizes limit) e j r) ∙ h) in o.alone j s.0 s.1 s.2;
      },
    )

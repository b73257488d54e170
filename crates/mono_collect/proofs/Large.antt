-- Arguments that are too large.
use Rattle.std.proofs.Common.{◌≡◌, ℕ, ◌<◌, ◌≤◌, List, refl, sym, ap, ◌∙◌, arith, Bool, true, false, ◌||◌, ◌⊎◌, inl, inr}
use Rattle.std.specs.Prelude.{nat_lt, ◌↔◌, IsTrue}
use borrow.Author.Tests.{ltb-true, ltb-false}
use Rattle.type_table.specs.declared.row.Row.{Row}
use Rattle.type_table.specs.declared.row.Row.TheVariants.{More}
use Rattle.type_table.specs.Rows.{type_at, type_of, types}
use Rattle.type_sizes.specs.Sizes.{parts, nesting}
use Rattle.mono_graph.specs.Instances.{is_large, has_large}

told : (n p : ℕ) (b : Bool) → (IsTrue b → (16 < n) ⊎ (255 < p)) → ((16 < n) ⊎ (255 < p) → IsTrue b) → (nat_lt 16 n || nat_lt 255 p) ≡ b
told n p b all some = by (nat_lt 16 n) refl (nat_lt 255 p) refl b all some
  where
    by : (x : Bool) → nat_lt 16 n ≡ x → (y : Bool) → nat_lt 255 p ≡ y → (b : Bool) → (IsTrue b → (16 < n) ⊎ (255 < p)) → ((16 < n) ⊎ (255 < p) → IsTrue b) → (x || y) ≡ b
    by true h y k b all some = sym (some (inl (ltb-true 16 n h)))
    by false h true k b all some = sym (some (inr (ltb-true 255 p k)))
    by false h false k false all some = refl
    by false h false k true all some = absurd (never (all refl))
      where
        never : (16 < n) ⊎ (255 < p) → ⊥
        never (inl l) = let g : n ≤ 16 = ltb-false 16 n h in omega arith
        never (inr l) = let g : p ≤ 255 = ltb-false 255 p k in omega arith

pub large_is : (rows : List Row) (r : ℕ) (b : Bool) → (IsTrue b ↔ ((16 < nesting (type_at rows r)) ⊎ (255 < parts (type_at rows r)))) → is_large (type_at rows r) ≡ b
large_is rows r b h = told (nesting (type_at rows r)) (parts (type_at rows r)) b h.0 h.1

pub more_large : (rows : List Row) (list a b : ℕ) (x y : Bool) → type_at rows list ≡ type_of (types rows) (More a b) → is_large (type_at rows a) ≡ x → has_large (type_at rows b) ≡ y → has_large (type_at rows list) ≡ (x || y)
unfolding type_at
more_large rows list a b x y e p q = ap has_large e ∙ ap (λ (t : Bool). t || has_large (type_at rows b)) p ∙ ap (λ (t : Bool). x || t) q

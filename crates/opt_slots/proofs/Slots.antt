-- Sets of slots as functions: which are equal.
use Rattle.std.proofs.Common.{◌≡◌, ℕ, zero, suc, ◌+◌, ◌-◌, ◌<◌, ◌≤◌, ◌==◌, ◌&&◌, List, Bool, true, false, ◌||◌, refl, sym, ap, ◌∙◌, length, get_or, add-one, arith}
use Rattle.std.proofs.lemmas.Grind.{common_steps}
use Rattle.std.proofs.lemmas.Bool.Decides.{nat_tests}
use lib.ListN.{replicate}
use lib.Dec.{leb, ltb}
use Rattle.std.proofs.Math.ListN.{set}
use Rattle.std.proofs.Math.Path.{fun_ext}
use Rattle.opt_slots.specs.Slots.{no_slot, only, between, also, marked_in, meets}

or_false : (a : Bool) → (a || false) ≡ a
or_false true = refl
or_false false = refl

or_or : (a b c : Bool) → ((a || b) || c) ≡ (a || (b || c))
or_or true b c = refl
or_or false b c = refl

pub also_nothing : (a : ℕ → Bool) → also a no_slot ≡ a
unfolding also no_slot
also_nothing a = fun_ext (λ k. or_false (a k))

pub no_slot-also : (a : ℕ → Bool) → also no_slot a ≡ a
unfolding also no_slot
no_slot-also a = fun_ext (λ k. refl)

pub also_grouped : (a b c : ℕ → Bool) → also (also a b) c ≡ also a (also b c)
unfolding also
also_grouped a b c = fun_ext (λ k. or_or (a k) (b k) (c k))

get_or-replicate : (n k : ℕ) → get_or (replicate n false) k false ≡ false
get_or-replicate zero k = refl
get_or-replicate (suc n) zero = refl
get_or-replicate (suc n) (suc k) = get_or-replicate n k

pub marked_in-replicate : (n : ℕ) → marked_in (replicate n false) ≡ no_slot
unfolding marked_in no_slot
marked_in-replicate n = fun_ext (λ k. get_or-replicate n k)

set_at : (xs : List Bool) (s k : ℕ) → s < length xs → get_or (set xs s true) k false ≡ (get_or xs k false || (k == s))
set_at xs s k h = grind (arith, nat_tests, common_steps)

pub marked_in-set : (xs : List Bool) (s : ℕ) → s < length xs → marked_in (set xs s true) ≡ also (marked_in xs) (only s)
unfolding marked_in also only
marked_in-set xs s h = fun_ext (λ k. set_at xs s k h)

none_between : (s k : ℕ) → (leb s k && ltb k s) ≡ false
none_between s k = grind (arith, nat_tests)

pub between-same : (s : ℕ) → between s s ≡ no_slot
unfolding between no_slot
between-same s = fun_ext (λ k. none_between s k)

one_between : (s n k : ℕ) → s ≤ n → ((leb s k && ltb k n) || (k == n)) ≡ (leb s k && ltb k (n + 1))
one_between s n k h = grind (arith, nat_tests)

pub between-more : (s n : ℕ) → s ≤ n → also (between s n) (only n) ≡ between s (n + 1)
unfolding between also only
between-more s n h = fun_ext (λ k. one_between s n k h)

-- one turn of a loop that adds a row of slots
pub row_more : (old now new : ℕ → Bool) (s n : ℕ) → s ≤ n → now ≡ also old (between s n) → new ≡ also now (only n) → new ≡ also old (between s (n + 1))
row_more old now new s n h is_now is_new = is_new ∙ ap (λ a. also a (only n)) is_now ∙ also_grouped old (between s n) (only n) ∙ ap (also old) (between-more s n h)

-- one turn of a loop that adds the sets of a list's members, of which whole are still to come
pub member_more : (now new one rest whole all : ℕ → Bool) → new ≡ also now one → whole ≡ also one rest → also now whole ≡ all → also new rest ≡ all
member_more now new one rest whole all is_new is_whole so_far =
    ap (λ a. also a rest) is_new ∙ also_grouped now one rest ∙ ap (also now) (sym is_whole) ∙ so_far

left_in_row : (s n : ℕ) → s < n → n - s ≡ suc (n - (s + 1))
left_in_row s n h = omega arith

pub meets-here : (xs : List Bool) (s n : ℕ) → s < n → get_or xs s false ≡ true → meets (marked_in xs) s (n - s) ≡ true
unfolding marked_in
meets-here xs s n h here = ap (meets (marked_in xs) s) (left_in_row s n h) ∙ ap (λ b. b || meets (marked_in xs) (suc s) (n - (s + 1))) here

pub meets-past : (xs : List Bool) (s n : ℕ) → s < n → get_or xs s false ≡ false → meets (marked_in xs) s (n - s) ≡ meets (marked_in xs) (s + 1) (n - (s + 1))
unfolding marked_in
meets-past xs s n h here =
    ap (meets (marked_in xs) s) (left_in_row s n h)
    ∙ ap (λ b. b || meets (marked_in xs) (suc s) (n - (s + 1))) here
    ∙ ap (λ k. meets (marked_in xs) k (n - (s + 1))) (sym (add-one s))

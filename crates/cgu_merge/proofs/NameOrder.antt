use Rattle.std.proofs.Common.{◌≡◌, ◌≢◌, ℕ, ◌<◌, List, [], ◌∷◌, ◌++◌, refl, arith}
use Rattle.std.specs.Ordering.{nat_cmp, ordering_then}
use Rattle.std.specs.declared.cmp.Ordering.{Ordering}
use Rattle.std.specs.declared.cmp.Ordering.TheVariants.{Less, Equal, Greater}
use Rattle.std.specs.Cmp.Lexicographic.{slice_cmp}
use Rattle.std.specs.List.{AllByRecursion}
use Rattle.std.proofs.lemmas.Map.Lookups.{exact_unsigned}
use Rattle.std.proofs.lemmas.Bool.Decides.{nat_tests}

abbrev pub IsTail : List ℕ → Type 0
IsTail [] = Unit {0}
IsTail (c ∷ cs) = c ≡ 43

less : (x y : ℕ) → x < y → nat_cmp x y ≡ Less
less x y h = grind (arith, nat_tests)

greater : (x y : ℕ) → y < x → nat_cmp x y ≡ Greater
greater x y h = grind (arith, nat_tests)

by_first : (x y : ℕ) (n m s t : List ℕ) (r : Ordering) → nat_cmp x y ≡ r → (x ≡ y → slice_cmp nat_cmp (n ++ s) (m ++ t) ≡ slice_cmp nat_cmp n m) → ordering_then r (slice_cmp nat_cmp (n ++ s) (m ++ t)) ≡ ordering_then r (slice_cmp nat_cmp n m)
by_first x y n m s t Less is rest = refl
by_first x y n m s t Equal is rest = rest (exact_unsigned x y is)
by_first x y n m s t Greater is rest = refl

-- names that differ decide, whatever is joined behind them
pub names_decide : (n m s t : List ℕ) → AllByRecursion (λ c. 43 < c) n → AllByRecursion (λ c. 43 < c) m → IsTail s → IsTail t → n ≢ m → slice_cmp nat_cmp (n ++ s) (m ++ t) ≡ slice_cmp nat_cmp n m
names_decide [] [] s t p q a b apart = absurd (apart refl)
names_decide [] (y ∷ m) [] t p q a b apart = refl
names_decide [] (y ∷ m) (c ∷ s) t p q a b apart = let l : c < y = (let h : 43 < y = q.0 in omega arith) in rw (less c y l) refl
names_decide (x ∷ n) [] s [] p q a b apart = refl
names_decide (x ∷ n) [] s (c ∷ t) p q a b apart = let l : c < x = (let h : 43 < x = p.0 in omega arith) in rw (greater x c l) refl
names_decide (x ∷ n) (y ∷ m) s t p q a b apart = by_first x y n m s t (nat_cmp x y) refl (λ e. names_decide n m s t p.1 q.1 a b (λ same. apart (cc)))

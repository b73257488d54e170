-- Symbols of which no two are equal.
use Rattle.std.proofs.Common.{◌≡◌, ℕ, ◌+◌, ◌<◌, List, [], ◌∷◌, ◌++◌, length, take, drop, get_or, Bool, true, false, None, refl, sym, ap, ◌∙◌, subst}
use Rattle.std.proofs.lemmas.List.{take-append-drop, drop_more}
use Rattle.std.specs.List.{AllByRecursion, IsDistinct}
use Rattle.std.specs.Option.{option_map}
use Rattle.std.specs.Prelude.{◌&&◌}
use Rattle.std.specs.Str.{bytes_eq}
use Rattle.object_format.specs.Object.{UnlinkedFn, symbols_of}
use Rattle.symbol_link.specs.Symbols.{place_among, defined_by}

-- a list round its element at this index
pub around : {X : Type 0} (xs : List X) (i : ℕ) (d : X) → i < length xs → xs ≡ take i xs ++ (get_or xs i d ∷ drop (i + 1) xs)
around xs i d h = sym (take-append-drop i xs) ∙ ap (λ ys. take i xs ++ ys) (drop_more xs i d h)

all_front : {X : Type 0} (P : X → Type 0) (xs ys : List X) → AllByRecursion P (xs ++ ys) → AllByRecursion P xs
all_front P [] ys h = tt
all_front P (x ∷ xs) ys h = (h.0, all_front P xs ys h.1)

-- the symbols in front are apart from each other
pub distinct_front : (xs ys : List (List ℕ)) → IsDistinct bytes_eq (xs ++ ys) → IsDistinct bytes_eq xs
unfolding IsDistinct
distinct_front [] ys h = tt
distinct_front (x ∷ xs) ys h = (all_front (λ y. bytes_eq x y ≡ false) xs ys h.0, distinct_front xs ys h.1)

all_at : (P : List ℕ → Type 0) (xs : List UnlinkedFn) (f : UnlinkedFn) (ys : List UnlinkedFn) → AllByRecursion P (symbols_of (xs ++ f ∷ ys)) → P f.symbol
all_at P [] f ys h = h.0
all_at P (x ∷ xs) f ys h = all_at P xs f ys h.1

and_false : (a b : Bool) → b ≡ false → (a && b) ≡ false
and_false true b h = h
and_false false b h = refl

pub apart : (place : ℕ) (xs : List UnlinkedFn) (f : UnlinkedFn) (ys : List UnlinkedFn) → IsDistinct bytes_eq (symbols_of (xs ++ f ∷ ys)) → place_among place xs f.symbol ≡ None
unfolding IsDistinct
apart place [] f ys h = refl
apart place (x ∷ xs) f ys h =
    let other : bytes_eq x.symbol f.symbol ≡ false = all_at (λ s. bytes_eq x.symbol s ≡ false) xs f ys h.0 in
    rw (and_false x.external (bytes_eq x.symbol f.symbol) other) (apart (place + 1) xs f ys h.1)

-- no function before one of an object has its symbol
pub defined_before : (object place : ℕ) (fs : List UnlinkedFn) (i : ℕ) (d : UnlinkedFn) → IsDistinct bytes_eq (symbols_of fs) → i < length fs → defined_by object place (take i fs) (get_or fs i d).symbol ≡ None
defined_before object place fs i d h lt =
    let parts : IsDistinct bytes_eq (symbols_of (take i fs ++ (get_or fs i d ∷ drop (i + 1) fs))) = subst (λ (ys : List UnlinkedFn). IsDistinct bytes_eq (symbols_of ys)) (around fs i d lt) h in
    ap (λ o. option_map (λ found. record { object = object; place = found }) o) (apart place (take i fs) (get_or fs i d) (drop (i + 1) fs) parts)

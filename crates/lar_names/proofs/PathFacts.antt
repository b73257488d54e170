-- The path of a scope, by that of the scope in which it stands.
use Rattle.std.proofs.Common.{◌≡◌, ◌≢◌, ℕ, zero, suc, ◌+◌, ◌<◌, ◌≤◌, List, [], ◌∷◌, ◌++◌, length, get_or, refl, sym, ap, ◌∙◌, subst, arith, append_assoc, append-nil, codes}
use Rattle.std.specs.Str.{IsAscii}
use Rattle.std.proofs.Common.{rules}
use Rattle.std.proofs.lemmas.Str.{IsAscii-append}
use Rattle.lar_rules.specs.Printed.{joined}
use Rattle.lar_names.specs.declared.scopes.Place.{Place}
use Rattle.lar_names.specs.Scopes.{AreScopes, list_at, within}
use Rattle.lar_names.specs.ScopeLists.{list_of, lists_from, lists}
use Rattle.lar_names.proofs.Numbers.{at_old, at_new}
use Rattle.lar_names.proofs.ScopeFacts.{longer, root_is}

-- a list that is not empty, and one name more
pub joined_within : (l : List (List ℕ)) (n : List ℕ) → l ≢ [] → joined (within l n) ≡ joined l ++ (codes "::" ++ n)
joined_within [] n h = absurd (h refl)
joined_within (a ∷ []) n h = refl
joined_within (a ∷ b ∷ l) n h =
    ap (λ (t : List ℕ). a ++ (codes "::" ++ t)) (joined_within (b ∷ l) n (λ e. let x : ⊥ = cc in x))
    ∙ ap (λ (t : List ℕ). a ++ t) (sym (append_assoc (codes "::") (joined (b ∷ l)) (codes "::" ++ n)))
    ∙ sym (append_assoc a (codes "::" ++ joined (b ∷ l)) (codes "::" ++ n))

past_end : {A : Type 0} (xs : List A) (n : ℕ) (d : A) → length xs ≤ n → get_or xs n d ≡ d
past_end [] n d h = refl
past_end (x ∷ xs) zero d h = absurd (omega arith)
past_end (x ∷ xs) (suc n) d h = past_end xs n d (omega arith)

-- a number that is no scope's
pub path_beyond : (ls : List (List (List ℕ))) (n : ℕ) → length ls ≤ n → joined (list_at ls n) ≡ []
path_beyond ls n h = ap joined (past_end ls n [] h)

old_stays : (ls : List (List (List ℕ))) (ps : List Place) (n : ℕ) → n < length ls → list_at (lists_from ls ps) n ≡ list_at ls n
old_stays ls [] n h = refl
old_stays ls (p ∷ ps) n h =
    old_stays (ls ++ list_of ls p ∷ []) ps n (let e = longer ls (list_of ls p) in omega (arith, e)) ∙ at_old ls (list_of ls p) n h

new_is : (ls : List (List (List ℕ))) (p : Place) (ps : List Place) → list_at (lists_from ls (p ∷ ps)) (length ls) ≡ list_of ls p
new_is ls p ps = old_stays (ls ++ list_of ls p ∷ []) ps (length ls) (let e = longer ls (list_of ls p) in omega (arith, e)) ∙ at_new ls (list_of ls p)

-- the scope of a place stands in that of its parent, where this is an earlier one
below_from : (ls : List (List (List ℕ))) (ps : List Place) (i : ℕ) (p : Place) → i < length ps → p ≡ get_or ps i p → p.parent < length ls + i → list_at (lists_from ls ps) (length ls + i) ≡ within (list_at (lists_from ls ps) p.parent) p.name
below_from ls [] i p h at b = absurd (omega arith)
below_from ls (q ∷ ps) zero p h at b =
    let low : p.parent < length ls = omega arith in
    let e : length ls + 0 ≡ length ls = omega arith in
    ap (list_at (lists_from ls (q ∷ ps))) e ∙ new_is ls q ps ∙ ap (list_of ls) (sym at) ∙ ap (λ (l : List (List ℕ)). within l p.name) (sym (old_stays ls (q ∷ ps) p.parent low))
below_from ls (q ∷ ps) (suc i) p h at b =
    let e : length (ls ++ list_of ls q ∷ []) ≡ length ls + 1 = longer ls (list_of ls q) in
    let f : length (ls ++ list_of ls q ∷ []) + i ≡ length ls + suc i = omega (arith, e) in
    ap (list_at (lists_from ls (q ∷ ps))) (sym f) ∙ below_from (ls ++ list_of ls q ∷ []) ps i p (omega arith) at (omega (arith, f))

-- and in none where it is not
alone_from : (ls : List (List (List ℕ))) (ps : List Place) (i : ℕ) (p : Place) → i < length ps → p ≡ get_or ps i p → length ls + i ≤ p.parent → list_at (lists_from ls ps) (length ls + i) ≡ within [] p.name
alone_from ls [] i p h at b = absurd (omega arith)
alone_from ls (q ∷ ps) zero p h at b =
    let high : length ls ≤ p.parent = omega arith in
    let e : length ls + 0 ≡ length ls = omega arith in
    ap (list_at (lists_from ls (q ∷ ps))) e ∙ new_is ls q ps ∙ ap (list_of ls) (sym at) ∙ ap (λ (l : List (List ℕ)). within l p.name) (past_end ls p.parent [] high)
alone_from ls (q ∷ ps) (suc i) p h at b =
    let e : length (ls ++ list_of ls q ∷ []) ≡ length ls + 1 = longer ls (list_of ls q) in
    let f : length (ls ++ list_of ls q ∷ []) + i ≡ length ls + suc i = omega (arith, e) in
    ap (list_at (lists_from ls (q ∷ ps))) (sym f) ∙ alone_from (ls ++ list_of ls q ∷ []) ps i p (omega arith) at (omega (arith, f))

not_root : (ls : List (List (List ℕ))) (n : ℕ) → AreScopes ls → 0 < n → n < length ls → list_at ls n ≢ []
not_root ls n are some bound e =
    let root = root_is ls are in
    let same : n ≡ 0 = are.apart n 0 bound root.0 (e ∙ sym root.1) in
    omega arith

-- the path of a scope in another one than the first
pub path_below : (ps : List Place) (scope i : ℕ) (p : Place) → AreScopes (lists ps) → scope ≡ suc i → i < length ps → length (lists ps) ≡ length ps + 1 → p ≡ get_or ps i p → 0 < p.parent → p.parent < scope
    → joined (list_at (lists ps) scope) ≡ joined (list_at (lists ps) p.parent) ++ (codes "::" ++ p.name)
unfolding lists
path_below ps scope i p are e h count at some low =
    let n : 1 + i ≡ scope = omega arith in
    let bound : p.parent < length (lists_from ([] ∷ []) ps) = omega arith in
    ap (λ (k : ℕ). joined (list_at (lists_from ([] ∷ []) ps) k)) (sym n)
    ∙ ap joined (below_from ([] ∷ []) ps i p h at (let b : p.parent < 1 + i = omega arith in b))
    ∙ joined_within (list_at (lists_from ([] ∷ []) ps) p.parent) p.name (not_root (lists_from ([] ∷ []) ps) p.parent are some bound)

-- and in the first one, or in none
pub path_alone : (ps : List Place) (scope i : ℕ) (p : Place) → AreScopes (lists ps) → scope ≡ suc i → i < length ps → p ≡ get_or ps i p → (0 < p.parent → scope ≤ p.parent) → joined (list_at (lists ps) scope) ≡ p.name
unfolding lists
path_alone ps scope i p are e h at other = go p.parent refl
  where
    n : 1 + i ≡ scope
    n = omega arith

    go : (k : ℕ) → p.parent ≡ k → joined (list_at (lists_from ([] ∷ []) ps) scope) ≡ p.name
    go zero z =
        ap (λ (k : ℕ). joined (list_at (lists_from ([] ∷ []) ps) k)) (sym n)
        ∙ ap joined (below_from ([] ∷ []) ps i p h at (let b : p.parent < 1 + i = omega arith in b))
        ∙ ap (λ (l : List (List ℕ)). joined (within l p.name)) (ap (list_at (lists_from ([] ∷ []) ps)) z ∙ (root_is (lists_from ([] ∷ []) ps) are).1)
    go (suc k) z =
        let far : scope ≤ p.parent = other (omega arith) in
        ap (λ (k : ℕ). joined (list_at (lists_from ([] ∷ []) ps) k)) (sym n)
        ∙ ap joined (alone_from ([] ∷ []) ps i p h at (let b : 1 + i ≤ p.parent = omega arith in b))

pub colons_ascii : IsAscii (codes "::")
colons_ascii = search rules

-- what is put behind a text: nothing, a name, or the path above, two colons and a name
pub put_none : (a j : List ℕ) → j ≡ [] → a ≡ a ++ j
put_none a j e = sym (append-nil a) ∙ ap (λ (t : List ℕ). a ++ t) (sym e)

pub put_name : (a b n j k : List ℕ) → b ≡ a ++ n → n ≡ k → j ≡ k → b ≡ a ++ j
put_name a b n j k e f g = e ∙ ap (λ (t : List ℕ). a ++ t) (f ∙ sym g)

pub put_below : (a b c d n k p j : List ℕ) → b ≡ a ++ p → c ≡ b ++ codes "::" → d ≡ c ++ n → n ≡ k → j ≡ p ++ (codes "::" ++ k) → d ≡ a ++ j
put_below a b c d n k p j x y z f g =
    z ∙ ap (λ (t : List ℕ). c ++ t) f ∙ ap (λ (t : List ℕ). t ++ k) (y ∙ ap (λ (t : List ℕ). t ++ codes "::") x)
    ∙ append_assoc (a ++ p) (codes "::") k ∙ append_assoc a p (codes "::" ++ k) ∙ ap (λ (t : List ℕ). a ++ t) (sym g)

pub ascii_below : (a b c d n : List ℕ) → (IsAscii a → IsAscii b) → c ≡ b ++ codes "::" → d ≡ c ++ n → IsAscii n → IsAscii a → IsAscii d
ascii_below a b c d n f x y h g = subst IsAscii (sym y) (IsAscii-append c n (subst IsAscii (sym x) (IsAscii-append b (codes "::") (f g) colons_ascii)) h)

-- A program has no first fault, and other tokens have at most one.
use Rattle.std.proofs.Common.{◌≡◌, ℕ, ◌+◌, ◌≤◌, ◌<◌, List, [], ◌++◌, length, take, drop, sym, ap, ◌∙◌, subst, arith}
use Rattle.std.proofs.lemmas.List.{append-nil, append_assoc, map-append, take-append-drop, take-take}
use Rattle.lar_tree.specs.declared.token.Token.{Token}
use Rattle.lar_tree.specs.Items.{PlainItems}
use Rattle.lar_tree.specs.Marks.{un, unmarked}
use Rattle.lar_tree.specs.Programs.{Spells, Begins, IsFirstFault}

-- the front of what begins a program begins it
pub begins-front : (ts us : List Token) → Begins (ts ++ us) → Begins ts
begins-front ts us (p, rest, grouped, e) = (p, unmarked us ++ rest, grouped, e ∙ ap (λ ms. ms ++ rest) (map-append un ts us) ∙ append_assoc (unmarked ts) (unmarked us) rest)

take_longer : (ts : List Token) (n m : ℕ) → n ≤ m → (us : List Token) × (take m ts ≡ take n ts ++ us)
take_longer ts n m le = (drop n (take m ts), sym (take-append-drop n (take m ts)) ∙ ap (λ us. us ++ drop n (take m ts)) (take-take n m ts le))

begins-take : (ts : List Token) (n m : ℕ) → n ≤ m → Begins (take m ts) → Begins (take n ts)
begins-take ts n m le b =
    let w = take_longer ts n m le in
    begins-front (take n ts) w.0 (subst Begins w.1 b)

pub spells-begins : (p : PlainItems) (ts : List Token) → Spells p ts → Begins ts
spells-begins p ts s = (p, [], s.0, s.1 ∙ sym (append-nil (unmarked ts)))

no_later : (ts : List Token) (n m : ℕ) → IsFirstFault ts n → IsFirstFault ts m → n < m → ⊥
no_later ts n m f g less =
    let within : n < length ts = omega (arith, g.0) in
    f.2 within (begins-take ts (n + 1) m (omega arith) g.1)

pub one_fault : (ts : List Token) (n m : ℕ) → IsFirstFault ts n → IsFirstFault ts m → n ≡ m
one_fault ts n m f g =
    let a : n < m → ⊥ = no_later ts n m f g in
    let b : m < n → ⊥ = no_later ts m n g f in
    omega (arith, a, b)

pub no_fault : (p : PlainItems) (ts : List Token) (n : ℕ) → Spells p ts → IsFirstFault ts n → ⊥
no_fault p ts n s f =
    let whole : Begins (take (n + 1) ts ++ drop (n + 1) ts) = subst Begins (sym (take-append-drop (n + 1) ts)) (spells-begins p ts s) in
    let inside : n < length ts → ⊥ = λ within. f.2 within (begins-front (take (n + 1) ts) (drop (n + 1) ts) whole) in
    let at_end : n ≡ length ts = omega (arith, inside, f.0) in
    f.3 at_end p s

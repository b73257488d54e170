-- One member further in a loop over a list: what is spelled so far, and what is left to be spelled.
use Rattle.std.proofs.Common.{◌≡◌, ℕ, ◌+◌, ◌<◌, List, ◌∷◌, ◌++◌, length, drop, get_or, sym, ap, ◌∙◌}
use Rattle.std.proofs.lemmas.List.{append_assoc, drop_more}
use Rattle.lar_tree.specs.declared.token.Kind.{Kind}
use Rattle.lar_tree.specs.declared.token.Token.{Token}
use Rattle.lar_tree.specs.Spelling.{kinds}
use Rattle.lar_tree.proofs.KindsOf.{kinds_of}

pub onwards_here : {A : Type 0} (flat : List A → List Token) (one : A → List Token) (xs : List A) (i : ℕ) (x : A) (before after start : List Kind)
    → ((ys : List A) → flat (x ∷ ys) ≡ one x ++ flat ys) → drop i xs ≡ x ∷ drop (i + 1) xs
    → before ++ kinds (flat (drop i xs)) ≡ start → after ≡ before ++ kinds (one x) → after ++ kinds (flat (drop (i + 1) xs)) ≡ start
onwards_here flat one xs i x before after start splits here so_far done =
    let rest = flat (drop (i + 1) xs) in
    ap (λ ks. ks ++ kinds rest) done ∙ append_assoc before (kinds (one x)) (kinds rest)
    ∙ ap (λ ks. before ++ ks) (sym (kinds_of (one x) rest) ∙ ap kinds (sym (splits (drop (i + 1) xs))) ∙ ap (λ ys. kinds (flat ys)) (sym here)) ∙ so_far

pub onwards : {A : Type 0} (flat : List A → List Token) (one : A → List Token) (xs : List A) (i : ℕ) (x : A) (before after start : List Kind)
    → ((ys : List A) → flat (x ∷ ys) ≡ one x ++ flat ys) → i < length xs → x ≡ get_or xs i x
    → before ++ kinds (flat (drop i xs)) ≡ start → after ≡ before ++ kinds (one x) → after ++ kinds (flat (drop (i + 1) xs)) ≡ start
onwards flat one xs i x before after start splits below is =
    onwards_here flat one xs i x before after start splits (drop_more xs i x below ∙ ap (λ y. y ∷ drop (i + 1) xs) (sym is))

-- one part after another
pub twice : (before between after : List Kind) (xs ys : List Kind) → between ≡ before ++ xs → after ≡ between ++ ys → after ≡ before ++ (xs ++ ys)
twice before between after xs ys first second = second ∙ ap (λ ks. ks ++ ys) first ∙ append_assoc before xs ys

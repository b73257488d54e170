-- A list whose members are made anew from the last to the first, which leaves them turned round.
use Rattle.std.proofs.Common.{◌≡◌, List, [], ◌∷◌, ◌++◌, map, sym, ap, ◌∙◌, append_assoc}
use Rattle.std.specs.Prelude.{reverse}
use Rattle.std.proofs.lemmas.List.{map-append, reverse-append}

-- wanted is what each old member is to become, and view what a new one is
pub one_more : {X Y : Type 0} (wanted view : X → Y) (old parts made new all : List X) (last r : X) → old ≡ parts ++ last ∷ [] → new ≡ made ++ r ∷ [] → view r ≡ wanted last
    → map wanted old ++ map view (reverse made) ≡ map wanted all → map wanted parts ++ map view (reverse new) ≡ map wanted all
one_more wanted view old parts made new all last r is_old is_new done so_far =
    ap (λ l. map wanted parts ++ map view l) (ap reverse is_new ∙ reverse-append made (r ∷ []))
    ∙ ap (λ x. map wanted parts ++ (x ∷ map view (reverse made))) done
    ∙ sym (append_assoc (map wanted parts) (wanted last ∷ []) (map view (reverse made)))
    ∙ ap (λ l. l ++ map view (reverse made)) (sym (map-append wanted parts (last ∷ [])) ∙ ap (map wanted) (sym is_old))
    ∙ so_far

pub all_made : {X Y : Type 0} (wanted view : X → Y) (parts made all : List X) → parts ≡ [] → map wanted parts ++ map view (reverse made) ≡ map wanted all → map view (reverse made) ≡ map wanted all
all_made wanted view parts made all none so_far = ap (λ l. map wanted l ++ map view (reverse made)) (sym none) ∙ so_far

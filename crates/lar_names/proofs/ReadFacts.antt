-- The declarations that were read.
use Rattle.std.proofs.Common.{◌≡◌, ℕ, zero, suc, ◌+◌, ◌<◌, List, [], ◌∷◌, ◌++◌, length, map, take, get_or, Option, Some, sym, ap, ◌∙◌, subst}
use Rattle.std.specs.Prelude.{slice_get}
use Rattle.std.proofs.lemmas.List.{map-append, take_more}
use Rattle.lar_rules.specs.Fault.{Fault, least}
use Rattle.lar_rules.specs.Twice.{repeated_items}
use Rattle.lar_rules.proofs.Least.{least_append}
use Rattle.lar_names.specs.declared.declaration.Declaration.{Declaration}
use Rattle.lar_names.specs.Declarations.{AllWithin, declared_view}
use Rattle.lar_names.specs.Entries.{repeat}
use Rattle.lar_names.specs.Indexed.{AreWithin}
use Rattle.lar_names.proofs.EntryFacts.{repeated_push}

each_within : (n : ℕ) (ds : List Declaration) (i : ℕ) (d : Declaration) → AllWithin n ds → slice_get ds i ≡ Some d → d.scope < n
each_within n [] i d all h = cc
each_within n (x ∷ xs) zero d all h = let same : x ≡ d = cc in subst (λ (y : Declaration). y.scope < n) same all.0
each_within n (x ∷ xs) (suc i) d all h = each_within n xs i d all.1 h

pub are_within : (n : ℕ) (ds : List Declaration) → AllWithin n ds → AreWithin n ds
are_within n ds all = record { each = λ i d h. each_within n ds i d all h }

pub take_one : {A : Type 0} (xs : List A) (i : ℕ) (x : A) → i < length xs → x ≡ get_or xs i x → take (i + 1) xs ≡ take i xs ++ x ∷ []
take_one xs i x h e = take_more xs i x h ∙ ap (λ y. take i xs ++ y ∷ []) (sym e)

pub told_more : (lists : List (List (List ℕ))) (ds : List Declaration) (d : Declaration) (best now new : Option Fault) → now ≡ least best (repeated_items [] (map (declared_view lists) ds)) → new ≡ least now (repeat (map (declared_view lists) ds) (declared_view lists d))
    → new ≡ least best (repeated_items [] (map (declared_view lists) (ds ++ d ∷ [])))
told_more lists ds d best now new e f =
    let dsv = map (declared_view lists) ds in
    f ∙ (ap (λ b. least b (repeat dsv (declared_view lists d))) e
    ∙ (sym (least_append best (repeated_items [] dsv) (repeat dsv (declared_view lists d)))
    ∙ ap (least best) (sym (repeated_push dsv (declared_view lists d)) ∙ ap (repeated_items []) (sym (map-append (declared_view lists) ds (d ∷ []))))))

pub told_both : (best now new : Option Fault) (xs ys : List Fault) → now ≡ least best xs → new ≡ least now ys → new ≡ least best (xs ++ ys)
told_both best now new xs ys e f = f ∙ (ap (λ b. least b ys) e ∙ sym (least_append best xs ys))

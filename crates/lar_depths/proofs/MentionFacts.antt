-- The fields of a struct, one further in the loop over them.
use Rattle.std.proofs.Common.{◌≡◌, ℕ, List, ◌++◌, sym, ap, ◌∙◌, append_assoc}
use Rattle.std.proofs.lemmas.List.{map-append}
use Rattle.lar_tree.specs.declared.commas.Commas.{Commas}
use Rattle.lar_tree.specs.declared.commas.Member.{Member}
use Rattle.lar_tree.specs.declared.item.Field.{Field}
use Rattle.lar_tree.specs.Commas.{commas_map}
use Rattle.lar_tree.specs.PlainLists.{values}
use Rattle.lar_tree.specs.ItemView.{field_view}
use Rattle.lar_tree.specs.TypeView.{type_view}
use Rattle.lar_rules.specs.Declared.{Struct}
use Rattle.lar_rules.specs.Written.{Site}
use Rattle.lar_rules.specs.Structs.{mentions, mentions_of_fields}
use Rattle.lar_written.proofs.MemberLists.{behind, values_are}
use Rattle.lar_depths.specs.Depths.{numbers}

two_behind : (a b : List ℕ) (m n : List Struct) → b ≡ a ++ numbers m → b ++ numbers n ≡ a ++ numbers (m ++ n)
two_behind a b m n p =
    ap (λ (xs : List ℕ). xs ++ numbers n) p ∙ append_assoc a (numbers m) (numbers n)
    ∙ ap (λ (xs : List ℕ). a ++ xs) (sym (map-append (λ (x : Struct). x.number) m n))

pub fields_begun : (s : Site) (c : Commas Field) (ms : List (Member Field)) (old new : List ℕ) → new ≡ old ++ numbers (mentions s (type_view (c.first).ty)) → ms ≡ c.more
    → new ++ numbers (mentions_of_fields s (behind ms)) ≡ old ++ numbers (mentions_of_fields s (values (commas_map field_view c)))
fields_begun s c ms old new push e =
    ap (λ (ys : List (Member Field)). new ++ numbers (mentions_of_fields s (behind ys))) e
    ∙ two_behind old new (mentions s (type_view (c.first).ty)) (mentions_of_fields s (behind c.more)) push
    ∙ ap (λ fs. old ++ numbers (mentions_of_fields s fs)) (sym (values_are c))

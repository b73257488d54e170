-- A unit by hand, linked alone.
use Rattle.std.proofs.Common.{◌≡◌, ◌∷◌, [], ◌++◌, List, ℕ, map, refl, sym, ap, ◌∙◌, subst, arith}
use Rattle.std.specs.List.{IsDistinct}
use Rattle.object_format.specs.Object.{Unlinked, SpellsObject}
use Rattle.unit_input.proofs.Worked.{prints_7, prints_7-keeps}
use Rattle.unit_object.specs.Interface.{object_interface}
use Rattle.unit_object.proofs.Kept.{object_of-spells}
use Rattle.unit_object.proofs.Worked.{prints_7_object, prints_7-made}
use Rattle.units_linked.specs.Linkable.{AreLinkable}

abbrev pub prints_7_bytes : List ℕ
prints_7_bytes = 0x4c ∷ 0x52 ∷ 0x4f ∷ 0x42 ∷ 0 ∷ 2 ∷ 0 ∷ 0 ∷ 0 ∷ 1 ∷ 0 ∷ 0 ∷ 0 ∷ 10 ∷ 0x6d ∷ 0x61 ∷ 0x69 ∷ 0x6e ∷ 0x3a ∷ 0x3a ∷ 0x6d ∷ 0x61 ∷ 0x69 ∷ 0x6e ∷ 1 ∷ 0 ∷ 0 ∷ 0 ∷ 0 ∷ 0 ∷ 0 ∷ 4 ∷ 0x01 ∷ 7 ∷ 0x17 ∷ 0x16 ∷ 0 ∷ 0 ∷ 0 ∷ 0 ∷ []

pub prints_7-spelled : (bytes : List ℕ) → bytes ≡ prints_7_bytes → SpellsObject bytes prints_7_object
prints_7-spelled bytes is = subst (λ b. SpellsObject b prints_7_object) (sym is) (object_of-spells prints_7 prints_7_object prints_7-keeps prints_7-made)

prints_7-linkable : AreLinkable (object_interface prints_7_object ∷ [])
unfolding IsDistinct
prints_7-linkable = record { once = (tt, tt); known = (tt, tt); entry = (0, omega arith, refl) }

pub alone-linkable : (objects before : List Unlinked) (o : Unlinked) → objects ≡ before ++ o ∷ [] → before ≡ [] → o ≡ prints_7_object → AreLinkable (map object_interface objects)
alone-linkable objects before o list none is =
    let one : objects ≡ prints_7_object ∷ [] = list ∙ ap (λ os. os ++ o ∷ []) none ∙ ap (λ p. p ∷ []) is in
    subst (λ os. AreLinkable (map object_interface os)) (sym one) prints_7-linkable

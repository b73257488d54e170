-- Objects and images that were spelled by hand, computed from the definitions.
use Rattle.std.proofs.Common.{◌≡◌, ℕ, true, List, [], ◌∷◌, ◌++◌, take, Ok, Err, refl}
use Rattle.std.specs.Prelude.{codes}
use Rattle.object_format.specs.declared.fault.What.TheVariants as what
use Rattle.object_format.specs.declared.version.Version.TheVariants.{One, Two}
use Rattle.object_format.specs.Image.{Linked, image_spelling_in}
use Rattle.object_format.specs.Object.{Unlinked, object_spelling_in}
use Rattle.object_format.specs.Reading.{opening_at, length_at, function_at, linked_behind, counts_at, head_at, items_at, image_at}
use Rattle.object_format.specs.ObjectReading.{symbol_at, unlinked_behind, external_behind, functions_part_at, externals_part_at, parts_at, object_up_to, object_at, lifted_at}

abbrev prints_code : List ℕ
prints_code = 0x01 ∷ 0x07 ∷ 0x17 ∷ 0x16 ∷ []

-- ---- an image whose function pushes 7, prints it and returns

abbrev prints_image : Linked
prints_image = record { entry = 0; functions = record { params = 0; «result» = 0; slots = 0; code = prints_code } ∷ [] }

prints_image-old : image_spelling_in One prints_image ≡ 0x4c ∷ 0x52 ∷ 0x50 ∷ 0x58 ∷ 0 ∷ 1 ∷ 0 ∷ 0 ∷ 0 ∷ 0 ∷ 0 ∷ 0 ∷ 0 ∷ 1 ∷ 0 ∷ 0 ∷ 0 ∷ 0 ∷ 4 ∷ prints_code
prints_image-old = refl

prints_image-new : image_spelling_in Two prints_image ≡ 0x4c ∷ 0x52 ∷ 0x50 ∷ 0x58 ∷ 0 ∷ 2 ∷ 0 ∷ 0 ∷ 0 ∷ 0 ∷ 0 ∷ 0 ∷ 0 ∷ 1 ∷ 0 ∷ 0 ∷ 0 ∷ 0 ∷ 0 ∷ 0 ∷ 4 ∷ prints_code
prints_image-new = refl

prints_image-read : image_at (image_spelling_in Two prints_image) ≡ Ok prints_image
unfolding image_at head_at counts_at items_at linked_behind function_at length_at opening_at
prints_image-read = refl

-- ---- `main::main` pushes 7, prints it and returns

abbrev prints_7 : Unlinked
prints_7 = record {
  functions = record { symbol = codes "main::main"; external = true; params = 0; «result» = 0; slots = 0; code = prints_code } ∷ [];
  externals = [];
}

-- up to its kind, and behind that
abbrev prints_7-front : ℕ → List ℕ
prints_7-front version = 0x4c ∷ 0x52 ∷ 0x4f ∷ 0x42 ∷ 0 ∷ version ∷ 0 ∷ 0 ∷ 0 ∷ 1 ∷ 0 ∷ 0 ∷ 0 ∷ 10 ∷ 0x6d ∷ 0x61 ∷ 0x69 ∷ 0x6e ∷ 0x3a ∷ 0x3a ∷ 0x6d ∷ 0x61 ∷ 0x69 ∷ 0x6e ∷ []

abbrev prints_7-back : List ℕ
prints_7-back = 0 ∷ 0 ∷ 0 ∷ 0 ∷ 0 ∷ 0 ∷ 4 ∷ prints_code ++ 0 ∷ 0 ∷ 0 ∷ 0 ∷ []

abbrev prints_7-bytes : List ℕ
prints_7-bytes = prints_7-front 2 ++ 1 ∷ prints_7-back

abbrev prints_7-old : List ℕ
prints_7-old = prints_7-front 1 ++ 1 ∷ 0 ∷ 0 ∷ 0 ∷ 0 ∷ 4 ∷ prints_code ++ 0 ∷ 0 ∷ 0 ∷ 0 ∷ []

prints_7-spelled : object_spelling_in Two prints_7 ≡ prints_7-bytes
prints_7-spelled = refl

prints_7-spelled_old : object_spelling_in One prints_7 ≡ prints_7-old
prints_7-spelled_old = refl

prints_7-read : object_at prints_7-bytes ≡ Ok prints_7
unfolding object_up_to parts_at functions_part_at externals_part_at items_at unlinked_behind external_behind symbol_at function_at length_at opening_at
prints_7-read = refl

prints_7-read_old : object_at prints_7-old ≡ Ok prints_7
unfolding object_up_to parts_at functions_part_at externals_part_at items_at unlinked_behind external_behind symbol_at function_at length_at opening_at
prints_7-read_old = refl

prints_7-lifted : lifted_at prints_7-old ≡ Ok prints_7-bytes
unfolding object_up_to parts_at functions_part_at externals_part_at items_at unlinked_behind external_behind symbol_at function_at length_at opening_at
prints_7-lifted = refl

prints_7-not_lifted : lifted_at prints_7-bytes ≡ Err (record { at = 4; what = what.Version })
unfolding object_up_to parts_at opening_at
prints_7-not_lifted = refl

prints_7-cut : object_at (take 39 prints_7-bytes) ≡ Err (record { at = 36; what = what.Short })
unfolding object_up_to parts_at functions_part_at externals_part_at items_at unlinked_behind external_behind symbol_at function_at length_at opening_at
prints_7-cut = refl

prints_7-longer : object_at (prints_7-bytes ++ 0 ∷ []) ≡ Err (record { at = 40; what = what.Trailing })
unfolding object_up_to parts_at functions_part_at externals_part_at items_at unlinked_behind external_behind symbol_at function_at length_at opening_at
prints_7-longer = refl

prints_7-kind : object_at (prints_7-front 2 ++ 2 ∷ prints_7-back) ≡ Err (record { at = 24; what = what.Kind })
unfolding object_up_to parts_at functions_part_at items_at unlinked_behind symbol_at opening_at
prints_7-kind = refl

-- a length of code that is one beyond the limit
prints_7-long : object_at (prints_7-front 2 ++ 1 ∷ 0 ∷ 0 ∷ 0 ∷ 1 ∷ 0 ∷ 0 ∷ 1 ∷ []) ≡ Err (record { at = 28; what = what.Code })
unfolding object_up_to parts_at functions_part_at items_at unlinked_behind symbol_at function_at length_at opening_at
prints_7-long = refl

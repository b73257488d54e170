-- How long an image is.
use Rattle.std.proofs.Common.{◌≡◌, ℕ, ◌+◌, ◌≤◌, List, [], ◌∷◌, length, Option, refl, ap, ◌∙◌, arith}
use Rattle.std.proofs.lemmas.Grind.{flat_map-append}
use Rattle.std.proofs.lemmas.List.{length-append}
use Rattle.std.specs.List.{flat_map, AllByRecursion}
use Rattle.std.specs.Prelude.{map}
use Rattle.object_format.specs.Code.{IsLinkedCode}
use Rattle.object_format.specs.Image.{LinkedFn, function_spelling, image_spelling}
use Rattle.object_format.specs.Object.{Unlinked, UnlinkedFn, IsUnlinked, callee_count}
use Rattle.object_format.specs.declared.version.Version.TheVariants.{Two}
use Rattle.symbol_link.specs.declared.definitions.Definition.{Definition}
use Rattle.symbol_link.specs.Linked.{placed, placed_all, places_of, callee, functions_from, image_of}
use Rattle.symbol_link.specs.Sizes.{size_of, sizes_of, image_size}
use Rattle.symbol_link.specs.Symbols.{definition_of, function_count}
use Rattle.symbol_link.proofs.Moved.{length-relocated}

length-function : (f : LinkedFn) → length (function_spelling Two f) ≡ 7 + length f.code
length-function f = omega arith

length-placed : (place : ℕ → ℕ) (reach : ℕ) (fs : List UnlinkedFn) → AllByRecursion (λ f. IsLinkedCode reach f.code) fs → length (flat_map (function_spelling Two) (map (placed place) fs)) ≡ size_of fs
length-placed place reach [] h = refl
length-placed place reach (f ∷ fs) h =
    let first = length-function (placed place f) ∙ ap (λ (n : ℕ). 7 + n) (length-relocated place reach f.code h.0) in
    length-append (function_spelling Two (placed place f)) (flat_map (function_spelling Two) (map (placed place) fs))
    ∙ ap (λ (n : ℕ). n + length (flat_map (function_spelling Two) (map (placed place) fs))) first
    ∙ ap (λ (n : ℕ). 7 + length f.code + n) (length-placed place reach fs h.1)

length-functions : (definitions : List ℕ → Option Definition) (start : ℕ) (os : List Unlinked) → AllByRecursion IsUnlinked os → length (flat_map (function_spelling Two) (functions_from definitions start os)) ≡ sizes_of os
length-functions definitions start [] h = refl
length-functions definitions start (o ∷ os) h =
    let place = callee start (length o.functions) (places_of definitions o.externals) in
    let others = functions_from definitions (start + length o.functions) os in
    ap length (flat_map-append (function_spelling Two) (placed_all definitions start o) others)
    ∙ length-append (flat_map (function_spelling Two) (placed_all definitions start o)) (flat_map (function_spelling Two) others)
    ∙ ap (λ (n : ℕ). n + length (flat_map (function_spelling Two) others)) (length-placed place (callee_count o) o.functions h.0.calls)
    ∙ ap (λ (n : ℕ). size_of o.functions + n) (length-functions definitions (start + length o.functions) os h.1)

-- the image's spelling is as long as the objects say
pub length-image : (objects : List Unlinked) (entry : ℕ) → AllByRecursion IsUnlinked objects → length (image_spelling (image_of objects entry)) ≡ image_size objects
length-image objects entry h = omega (arith, length-functions (λ q. definition_of objects q) 0 objects h)

-- functions are not more than their bytes
count-size : (fs : List UnlinkedFn) → length fs ≤ size_of fs
count-size [] = omega arith
count-size (f ∷ fs) = let more = count-size fs in omega arith

pub count-sizes : (os : List Unlinked) → function_count os ≤ sizes_of os
count-sizes [] = omega arith
count-sizes (o ∷ os) = let first = count-size o.functions in let more = count-sizes os in omega arith

-- Texts that are numbered, and the parts of a listing at their places.
use Rattle.std.proofs.Common.{◌≡◌, ◌∙◌, ℕ, zero, suc, ◌+◌, ◌<◌, List, [], ◌∷◌, length, get_or, refl, sym, ap, arith, length-append}
use Rattle.std.proofs.lemmas.List.{get_or_append_left, get_or-append_right}
use Rattle.object_format.specs.Image.{Linked, LinkedFn}
use Rattle.object_format.specs.Object.{Unlinked, UnlinkedFn}
use Rattle.listings.specs.Listing.{numbered, function_text, unlinked_text, use_line, image_parts, object_parts}

pub length-numbered : {A : Type 0} (text : ℕ → A → List ℕ) (number : ℕ) (xs : List A) → length (numbered text number xs) ≡ length xs
length-numbered text number [] = refl
length-numbered text number (x ∷ xs) = ap suc (length-numbered text (number + 1) xs)

-- the text at a place
numbered-at : {A : Type 0} (text : ℕ → A → List ℕ) (number at : ℕ) (xs : List A) (k : ℕ) (x : A) → at ≡ number + k → k < length xs → x ≡ get_or xs k x → get_or (numbered text number xs) k [] ≡ text at x
numbered-at text number at [] k x e below is = absurd (omega (arith, below))
numbered-at text number at (y ∷ xs) zero x e below is = ap (text number) (sym is) ∙ ap (λ (n : ℕ). text n x) (omega (arith, e))
numbered-at text number at (y ∷ xs) (suc k) x e below is = numbered-at text (number + 1) at xs k x (omega (arith, e)) (omega (arith, below)) is

pub length-image : (i : Linked) → length (image_parts i) ≡ 1 + length i.functions
length-image i = omega (arith, length-numbered function_text 0 i.functions)

pub length-object : (o : Unlinked) → length (object_parts o) ≡ length o.functions + length o.externals
length-object o =
    omega (arith, length-append (numbered unlinked_text 0 o.functions) (numbered use_line (length o.functions) o.externals), length-numbered unlinked_text 0 o.functions, length-numbered use_line (length o.functions) o.externals)

-- a function of an image
pub image-at : (i : Linked) (part k : ℕ) (f : LinkedFn) → part ≡ suc k → k < length i.functions → f ≡ get_or i.functions k f → get_or (image_parts i) part [] ≡ function_text k f
image-at i part k f e below is = ap (λ (n : ℕ). get_or (image_parts i) n []) e ∙ numbered-at function_text 0 k i.functions k f (omega arith) below is

-- a function of an object, and an external
pub function-at : (o : Unlinked) (part : ℕ) (f : UnlinkedFn) → part < length o.functions → f ≡ get_or o.functions part f → get_or (object_parts o) part [] ≡ unlinked_text part f
function-at o part f below is =
    get_or_append_left (numbered unlinked_text 0 o.functions) (numbered use_line (length o.functions) o.externals) [] part (omega (arith, below, length-numbered unlinked_text 0 o.functions))
    ∙ numbered-at unlinked_text 0 part o.functions part f (omega arith) below is

pub external-at : (o : Unlinked) (part k : ℕ) (x : List ℕ) → part ≡ length o.functions + k → k < length o.externals → x ≡ get_or o.externals k x → get_or (object_parts o) part [] ≡ use_line part x
external-at o part k x e below is =
    get_or-append_right (numbered unlinked_text 0 o.functions) (numbered use_line (length o.functions) o.externals) (length o.functions) part [] (length-numbered unlinked_text 0 o.functions) (omega (arith, e))
    ∙ ap (λ (n : ℕ). get_or (numbered use_line (length o.functions) o.externals) n []) (omega (arith, e))
    ∙ numbered-at use_line (length o.functions) part o.externals k x e below is

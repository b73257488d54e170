-- The listing of an image or an object.
use Rattle.std.specs.Prelude.{ℕ, nat_eq, if◌then◌else◌, Bool, List, codes, Result, Ok}
use Rattle.std.specs.List.{concat, starts_with}
use Rattle.object_format.specs.ObjectReading.{object_at}
use Rattle.object_format.specs.Reading.{◌>>=◌, image_at}
use Rattle.object_format.specs.declared.fault.BadFile.{BadFile}
use Rattle.listings.specs.Listing.{image_parts, object_parts}
use Rattle.listings.specs.declared.listed.Listed.{Listed}
use Rattle.listings.specs.declared.listed.Listed.TheVariants as listed

-- the parts of a listing, in order
abbrev pub parts_of : Listed → List (List ℕ)
parts_of (listed.Image image) = image_parts image
parts_of (listed.Object object) = object_parts object

-- the whole listing
abbrev pub text_of : Listed → List ℕ
text_of l = concat (parts_of l)

-- Objects begin so, and nothing else does.
abbrev pub begins_object : List ℕ → Bool
begins_object bytes = starts_with nat_eq bytes (codes "LROB")

-- the listing of what bytes spell: of an object where they begin as one, and else of an image
abbrev pub listing_at : List ℕ → Result (List ℕ) BadFile
listing_at bytes = if begins_object bytes then (object_at bytes >>= λ object. Ok (concat (object_parts object))) else (image_at bytes >>= λ image. Ok (concat (image_parts image)))

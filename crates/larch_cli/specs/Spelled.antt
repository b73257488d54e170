-- What commands make of the bytes of files.
use Rattle.std.specs.Prelude.{ℕ, nat_lt, if◌then◌else◌, List, [], ◌∷◌, ◌++◌, length, Option, None, Result, Ok, Err, ℤ, codes}
use Rattle.std.specs.Fmt.{decimal}
use Rattle.lar_lexer.specs.Reading.{thin}
use Rattle.lar_source.specs.declared.file.File.{File}
use Rattle.object_format.specs.Image.{Linked, image_spelling, version_field}
use Rattle.object_format.specs.Object.{Unlinked}
use Rattle.object_format.specs.Reading.{◌>>=◌, refused, unless, image_at}
use Rattle.object_format.specs.Version.{version_numbered}
use Rattle.object_format.specs.declared.fault.BadFile.{BadFile}
use Rattle.object_format.specs.declared.fault.What.TheVariants.{Long}
use Rattle.stack_vm.specs.Faults.{image_fault}
use Rattle.larch_cli.specs.ThinImage.{thin_image}
use Rattle.larch_cli.specs.declared.status.Status.{Status}
use Rattle.larch_cli.specs.declared.status.Status.TheVariants.{BadFile as Bad}

-- the numbers of the sources, where these are one file in the thin form
abbrev pub accepted : List File → Option (List ℤ)
accepted [] = None
accepted (f ∷ []) = thin f.bytes
accepted (f ∷ another ∷ more) = None

-- the bytes of the image that prints these numbers
abbrev pub image_of : List ℤ → List ℕ
image_of numbers = image_spelling (thin_image numbers)

-- what bytes spell where they are at most 67,108,864, or the first fault
abbrev pub limited : {X : Type 0} → (List ℕ → Result X BadFile) → List ℕ → Result X BadFile
limited spelled bytes = if nat_lt 67108864 (length bytes) then refused 67108864 Long else spelled bytes

-- the image that the bytes spell, where it is valid, or the first fault
abbrev pub valid_image : List ℕ → Result Linked BadFile
valid_image bytes = image_at bytes >>= λ image. unless (image_fault (version_numbered (version_field bytes)) image) image

-- what files so far come to with one more, which has this name and spells this: their objects, or that the first bad file is bad
abbrev pub with_file : Result (List Unlinked) Status → List ℕ → Result Unlinked BadFile → Result (List Unlinked) Status
with_file (Ok objects) name (Ok object) = Ok (objects ++ object ∷ [])
with_file (Ok objects) name (Err fault) = Err (Bad name fault)
with_file (Err status) name spelled = Err status

-- the line of units
abbrev pub summary : List ℕ
summary = codes "units 1 made 1 reused 0\n"

-- the line of files that were generated
abbrev pub wrote_line : ℕ → List ℕ
wrote_line count = codes "wrote " ++ (decimal count ++ codes " files\n")

-- the line of functions
abbrev pub functions_line : Linked → List ℕ
functions_line image = codes "functions " ++ (decimal (length image.functions) ++ codes "\n")

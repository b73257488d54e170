-- The versions of the formats. They differ in how the length of a function's code is spelled, and in how many bytes that code may have.
use Rattle.std.specs.Prelude.{◌≡◌, ◌+◌, ℕ, ◌==◌, if◌then◌else◌, Option, Some, None}
use Rattle.std.specs.Int.{Width, w16, w32, byte_len}
use Rattle.object_format.specs.declared.version.Version.{Version}
use Rattle.object_format.specs.declared.version.Version.TheVariants.{One, Two}

-- the number that stands behind the magic
abbrev pub number_of : Version → ℕ
number_of One = 1
number_of Two = 2

-- the most bytes of a function's code in the newest version
abbrev pub max_code : ℕ
max_code = 16_777_216

-- and in each
abbrev pub most_code : Version → ℕ
most_code One = 65_535
most_code Two = max_code

-- the width of the field that has the length of a function's code
abbrev pub length_width : Version → Width
length_width One = w16
length_width Two = w32

-- the bytes of an image's function before its slots, before that length, and before its code: params and result, the slots, and the length
abbrev pub slots_offset : ℕ
slots_offset = 2

abbrev pub length_offset : ℕ
length_offset = 3

abbrev pub code_offset : Version → ℕ
code_offset version = length_offset + byte_len (length_width version)

-- where the version stands in each file, behind the magic
abbrev pub version_place : ℕ
version_place = 4

-- where the entry of an image stands, and its first function: behind magic, version, entry and count
abbrev pub entry_place : ℕ
entry_place = 6

abbrev pub functions_place : ℕ
functions_place = 14

-- where the first function of an object stands: behind magic, version and count
abbrev pub object_functions_place : ℕ
object_functions_place = 10

-- the version with a number, where it is none above the newest one that is taken
abbrev pub if_newest : Version → Option Version
if_newest One = None
if_newest Two = Some Two

abbrev pub version_of : Version → ℕ → Option Version
version_of newest number = if number == 1 then Some One else (if number == 2 then if_newest newest else None)

-- the version with a number, which is that of one of the two
abbrev pub version_numbered : ℕ → Version
version_numbered number = if number == 1 then One else Two

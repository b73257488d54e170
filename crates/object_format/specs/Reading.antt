-- Reading a file from left to right, with the first fault that is met: the fields that files are made of, code, and images.
use Rattle.std.specs.Prelude.{◌≡◌, ℕ, zero, suc, ◌+◌, List, [], ◌∷◌, ◌++◌, length, take, drop, Option, Some, None, Result, Ok, Err, Bool, true, false, not, ◌&&◌, nat_lt, ◌==◌, if◌then◌else◌}
use Rattle.std.specs.Int.{Width, w16, w32, byte_len, from_be_bytes}
use Rattle.std.specs.Str.{bytes_eq}
use Rattle.object_format.specs.Code.{Instruction, Piece, is_call, callee_of, pieces_from}
use Rattle.object_format.specs.Image.{LinkedFn, Linked, image_magic}
use Rattle.object_format.specs.Version.{most_code, length_width, version_of}
use Rattle.object_format.specs.declared.version.Version.{Version}
use Rattle.object_format.specs.declared.version.Version.TheVariants.{Two}
use Rattle.object_format.specs.declared.fault.BadFile.{BadFile}
use Rattle.object_format.specs.declared.fault.What.{What}
use Rattle.object_format.specs.declared.fault.What.TheVariants as what

-- what is left of a file, and the offset at which it begins
pub record Rest : Type 0 where
  pub at : ℕ
  pub bytes : List ℕ

infixl 10 ◌>>=◌
abbrev pub ◌>>=◌ : {A B : Type 0} → Result A BadFile → (A → Result B BadFile) → Result B BadFile
(Ok x) >>= f = f x
(Err e) >>= f = Err e

abbrev pub refused : {A : Type 0} → ℕ → What → Result A BadFile
refused at fault = Err (record { at = at; what = fault })

-- what is left behind n bytes
abbrev pub after : ℕ → Rest → Rest
after n r = record { at = r.at + n; bytes = drop n r.bytes }

-- n bytes
abbrev pub block_at : ℕ → Rest → Result (List ℕ × Rest) BadFile
block_at n r = if nat_lt (length r.bytes) n then refused r.at what.Short else Ok (take n r.bytes, after n r)

-- one byte
abbrev pub first_byte : ℕ → List ℕ → Result (ℕ × Rest) BadFile
first_byte at [] = refused at what.Short
first_byte at (b ∷ bs) = Ok (b, record { at = at + 1; bytes = bs })

abbrev pub byte_at : Rest → Result (ℕ × Rest) BadFile
byte_at r = first_byte r.at r.bytes

-- a number
abbrev pub number_at : Width → Rest → Result (ℕ × Rest) BadFile
number_at w r = if nat_lt (length r.bytes) (byte_len w) then refused r.at what.Short else Ok (from_be_bytes w (take (byte_len w) r.bytes), after (byte_len w) r)

-- a field that is the same in each file
abbrev pub fixed_at : List ℕ → What → Rest → Result Rest BadFile
fixed_at text fault r =
    if nat_lt (length r.bytes) (length text) then refused r.at what.Short
    else (if bytes_eq (take (length text) r.bytes) text then Ok (after (length text) r) else refused r.at fault)

-- the version that a number is, which stands at this place
abbrev pub known : ℕ → Option Version → Rest → Result (Version × Rest) BadFile
known at None r = refused at what.Version
known at (Some version) r = Ok (version, r)

-- the magic of a format, and a version that is none above the newest one that is taken
unfoldable pub opening_at : Version → List ℕ → Rest → Result (Version × Rest) BadFile
opening_at newest magic r = do
  body ← fixed_at magic what.Magic r
  number ← number_at w16 body
  known body.at (version_of newest number.0) number.1

-- nothing more
abbrev pub end_at : Rest → Result (Unit {0}) BadFile
end_at r = if length r.bytes == 0 then Ok tt else refused r.at what.Trailing

-- so many items, each of them read behind what was read so far
unfoldable pub items_at : {A : Type 0} → (A → Rest → Result (A × Rest) BadFile) → ℕ → A → Rest → Result (A × Rest) BadFile
items_at read zero so_far r = Ok (so_far, r)
items_at read (suc n) so_far r = do
  next ← read so_far r
  items_at read n next.0 next.1

-- ---- code

abbrev pub or_later : Option BadFile → Option BadFile → Option BadFile
or_later (Some f) later = Some f
or_later None later = later

abbrev pub unless : {A : Type 0} → Option BadFile → A → Result A BadFile
unless (Some f) x = Err f
unless None x = Ok x

-- a call of no function, at its operand, where the count of functions is known
abbrev pub call_fault : Option ℕ → ℕ → Instruction → Option BadFile
call_fault None at i = None
call_fault (Some count) at i = if is_call i.opcode && not (nat_lt (callee_of i) count) then Some (record { at = at + 1; what = what.Call }) else None

-- what is wrong where an instruction should begin
abbrev pub piece_fault : Option ℕ → ℕ → Option Instruction → Option BadFile
piece_fault count at None = Some (record { at = at; what = what.Code })
piece_fault count at (Some i) = call_fault count at i

-- the first fault of pieces
abbrev pub pieces_fault : Option ℕ → List Piece → Option BadFile
pieces_fault count [] = None
pieces_fault count (p ∷ ps) = or_later (piece_fault count p.offset p.instruction) (pieces_fault count ps)

-- the first fault of code that begins at this place of the file
abbrev pub code_fault : Option ℕ → ℕ → List ℕ → Option BadFile
code_fault count at code = pieces_fault count (pieces_from at code)

-- ---- the image

-- the length of a function's code
unfoldable pub length_at : Version → Rest → Result (ℕ × Rest) BadFile
length_at version r = do
  len ← number_at (length_width version) r
  if nat_lt (most_code version) len.0 then refused r.at what.Code else Ok len

-- a function of a file in which calls have so many callees, where their count is known
unfoldable pub function_at : Version → Option ℕ → Rest → Result (LinkedFn × Rest) BadFile
function_at version callees r = do
  params ← byte_at r
  results ← byte_at params.1
  slots ← byte_at results.1
  len ← length_at version slots.1
  code ← block_at len.0 len.1
  unless (code_fault callees len.1.at code.0) (record { params = params.0; «result» = results.0; slots = slots.0; code = code.0 }, code.1)

-- one function more of an image with so many functions
unfoldable pub linked_behind : Version → ℕ → List LinkedFn → Rest → Result (List LinkedFn × Rest) BadFile
linked_behind version count so_far r = do
  function ← function_at version (Some count) r
  Ok (so_far ++ function.0 ∷ [], function.1)

-- the entry and the count of functions; the entry is looked at once the count is read
unfoldable pub counts_at : Rest → Result (ℕ × ℕ × Rest) BadFile
counts_at r = do
  entry ← number_at w32 r
  count ← number_at w32 entry.1
  if nat_lt entry.0 count.0 then Ok (entry.0, count.0, count.1) else refused r.at what.Entry

-- magic and version, then the entry and the count
unfoldable pub head_at : Rest → Result (Version × ℕ × ℕ × Rest) BadFile
head_at r = do
  body ← opening_at Two image_magic r
  counts ← counts_at body.1
  Ok (body.0, counts.0, counts.1, counts.2)

-- an image, all of the bytes
unfoldable pub image_at : List ℕ → Result Linked BadFile
image_at bytes = do
  head ← head_at (record { at = 0; bytes = bytes })
  functions ← items_at (linked_behind head.0 head.2) head.2 [] head.3
  nothing ← end_at functions.1
  Ok (record { entry = head.1; functions = functions.0 })

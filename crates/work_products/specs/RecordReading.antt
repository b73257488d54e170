-- Reading a record from left to right, with the first fault that is met.
use Rattle.std.specs.Prelude.{ℕ, List, take, Result, Ok}
use Rattle.std.specs.Int.{w32}
use Rattle.sha2.specs.Sha256.{sha256}
use Rattle.object_format.specs.Reading.{Rest, ◌>>=◌, block_at, number_at, fixed_at, opening_at, end_at}
use Rattle.object_format.specs.Version.{number_of}
use Rattle.object_format.specs.declared.version.Version.TheVariants.{Two}
use Rattle.object_format.specs.declared.fault.BadFile.{BadFile}
use Rattle.object_format.specs.declared.fault.What.TheVariants as what
use Rattle.work_products.specs.Records.{Record, record_magic}

-- bytes behind their length
unfoldable pub counted_at : Rest → Result (List ℕ × Rest) BadFile
counted_at r = do
  len ← number_at w32 r
  block_at len.0 len.1

-- the digest of all bytes of the file that stand before it
abbrev pub digest_at : List ℕ → Rest → Result Rest BadFile
digest_at bytes r = fixed_at (sha256 (take r.at bytes)) what.Digest r

-- a record at the front of bytes, and what is left behind it
unfoldable pub front_at : List ℕ → Result (Record × Rest) BadFile
front_at bytes = do
  body ← opening_at Two record_magic (record { at = 0; bytes = bytes })
  text ← counted_at body.1
  object ← counted_at text.1
  behind ← digest_at bytes object.1
  Ok (record { version = body.0; text = text.0; object = object.0 }, behind)

-- a record, all of the bytes
unfoldable pub record_at : List ℕ → Result Record BadFile
record_at bytes = do
  front ← front_at bytes
  nothing ← end_at front.1
  Ok front.0

-- a record as its version's number, its text and its object
abbrev pub parts_of : Record → ℕ × List ℕ × List ℕ
parts_of r = (number_of r.version, r.text, r.object)

-- what all of the bytes are read as
abbrev pub record_read : List ℕ → Result (ℕ × List ℕ × List ℕ) BadFile
record_read bytes = record_at bytes >>= λ r. Ok (parts_of r)

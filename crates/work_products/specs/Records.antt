-- What a record is, its one spelling in each version, how long it may be, and the name under which it is kept. Numbers are big-endian.
--
--     Record = "LRWP" version(2) length(4) text length(4) object digest(32)
--
-- The digest is the SHA-256 of all bytes before it.
use Rattle.std.specs.Prelude.{◌≡◌, ℕ, ◌<◌, ◌^◌, ◌==◌, ◌&&◌, ◌||◌, nat_lt, nat_le, Bool, if◌then◌else◌, List, [], ◌∷◌, ◌++◌, length, Result, Ok, Err}
use Rattle.std.specs.Int.{w32, to_be_bytes}
use Rattle.std.specs.List.{list_all}
use Rattle.hex.specs.Hex.{encode_lower}
use Rattle.sha2.specs.Sha256.{sha256}
use Rattle.object_format.specs.Image.{opening}
use Rattle.object_format.specs.declared.version.Version.{Version}
use Rattle.object_format.specs.declared.version.Version.TheVariants.{Two}
use Rattle.work_products.specs.declared.record.TooLong.{TooLong}

-- what a record says: the version that it is spelled in, the text of a unit's input, and the object that was made of it
pub record Record : Type 0 where
  pub version : Version
  pub text : List ℕ
  pub object : List ℕ

-- "LRWP"
abbrev pub record_magic : List ℕ
record_magic = 0x4c ∷ 0x52 ∷ 0x57 ∷ 0x50 ∷ []

-- bytes behind their length
abbrev pub counted : List ℕ → List ℕ
counted bytes = to_be_bytes w32 (length bytes) ++ bytes

-- all that the digest is taken of
abbrev pub record_body : Record → List ℕ
record_body r = opening record_magic r.version ++ counted r.text ++ counted r.object

-- bytes with their digest behind them
abbrev pub sealed : List ℕ → List ℕ
sealed bytes = bytes ++ sha256 bytes

-- all of a record
abbrev pub record_spelling : Record → List ℕ
record_spelling r = sealed (record_body r)

-- The bytes are the spelling of the record, whose lengths fit their fields.
pub record SpellsRecord (bytes : List ℕ) (r : Record) : Type 0 where
  pub text : length r.text < 2 ^ 32
  pub object : length r.object < 2 ^ 32
  pub spelled : bytes ≡ record_spelling r

-- the most bytes of a record that is kept
abbrev pub max_record : ℕ
max_record = 268_435_456

-- the bytes of a record beside its text and its object: magic, version, two lengths and the digest
abbrev pub record_frame : ℕ
record_frame = 46

-- the record that is kept of a text and its object: one of the newest version
abbrev pub newest_record : List ℕ → List ℕ → Record
newest_record text object = record { version = Two; text = text; object = object }

-- and its bytes
abbrev pub kept_record : List ℕ → List ℕ → List ℕ
kept_record text object = record_spelling (newest_record text object)

-- the same, unless it is too long
abbrev pub record_written : List ℕ → List ℕ → Result (List ℕ) TooLong
record_written text object = if nat_lt max_record (length (kept_record text object)) then Err (record {}) else Ok (kept_record text object)

-- the name of a text's record: its SHA-256 in 64 digits
unfoldable pub record_name : List ℕ → List ℕ
record_name text = encode_lower (sha256 text)

-- 0 to 9 and a to f
abbrev pub is_lower_digit : ℕ → Bool
is_lower_digit c = (nat_le 48 c && nat_le c 57) || (nat_le 97 c && nat_le c 102)

-- whether a name is one that a record may have
abbrev pub is_record_name : List ℕ → Bool
is_record_name name = (length name == 64) && list_all is_lower_digit name

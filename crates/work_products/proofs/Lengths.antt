-- How many bytes records have.
use Rattle.std.proofs.Common.{◌≡◌, ℕ, ◌+◌, ◌<◌, List, ◌++◌, length, ltb, true, false, Ok, Err, refl, arith, length-append}
use Rattle.std.specs.Int.{w32, to_be_bytes}
use Rattle.std.proofs.lemmas.Bool.{lt-ltb, le-ltb}
use Rattle.sha2.specs.Sha256.{sha256}
use Rattle.sha2.proofs.Facts256.{length-sha256}
use Rattle.object_format.specs.Image.{opening}
use Rattle.object_format.specs.declared.version.Version.{Version}
use Rattle.work_products.specs.Records.{Record, record_magic, counted, record_body, record_spelling, max_record, newest_record, kept_record, record_written}

pub length-opening : (version : Version) → length (opening record_magic version) ≡ 6
length-opening version = refl

pub length-counted : (bytes : List ℕ) → length (counted bytes) ≡ 4 + length bytes
length-counted bytes = omega (arith, length-append (to_be_bytes w32 (length bytes)) bytes)

pub length-record_body : (r : Record) → length (record_body r) ≡ 14 + length r.text + length r.object
length-record_body r =
    omega (arith, length-append (opening record_magic r.version ++ counted r.text) (counted r.object), length-append (opening record_magic r.version) (counted r.text), length-opening r.version, length-counted r.text, length-counted r.object)

pub length-record_spelling : (r : Record) → length (record_spelling r) ≡ 46 + length r.text + length r.object
length-record_spelling r = omega (arith, length-append (record_body r) (sha256 (record_body r)), length-record_body r, length-sha256 (record_body r))

pub length-kept_record : (text object : List ℕ) → length (kept_record text object) ≡ 46 + length text + length object
length-kept_record text object = length-record_spelling (newest_record text object)

-- a record that fits is written
pub written-short : (text object : List ℕ) → 46 + length text + length object < max_record + 1 → record_written text object ≡ Ok (kept_record text object)
written-short text object h =
    let short : ltb max_record (length (kept_record text object)) ≡ false = le-ltb _ _ (omega (arith, length-kept_record text object)) in
    rw short refl

-- and one that does not is refused
pub written-long : (text object : List ℕ) → max_record < 46 + length text + length object → record_written text object ≡ Err (record {})
written-long text object h =
    let long : ltb max_record (length (kept_record text object)) ≡ true = lt-ltb _ _ (omega (arith, length-kept_record text object)) in
    rw long refl

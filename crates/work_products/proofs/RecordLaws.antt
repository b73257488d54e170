-- The two laws of records: what is read is spelled so, and what is spelled so is read, whatever stands behind it.
use Rattle.std.proofs.Common.{◌≡◌, ℕ, ◌+◌, ◌<◌, ◌^◌, List, [], ◌++◌, length, take, Result, Ok, Err, refl, sym, ap, subst, ◌∙◌, append_assoc, arith, length-append}
use Rattle.std.specs.Prelude.{IfOk}
use Rattle.lar_bytes.specs.Answers.{Answers}
use Rattle.lar_bytes.specs.declared.memory.OrMemory.{OrMemory}
use Rattle.std.specs.Int.{w32, to_be_bytes}
use Rattle.std.proofs.lemmas.List.{append-nil, take_at}
use Rattle.sha2.specs.Sha256.{sha256}
use Rattle.object_format.specs.declared.fault.BadFile.{BadFile}
use Rattle.object_format.specs.declared.fault.What.TheVariants as what
use Rattle.object_format.specs.declared.version.Version.TheVariants.{Two}
use Rattle.object_format.specs.Image.{opening}
use Rattle.object_format.specs.Reading.{Rest, ◌>>=◌, block_at, number_at, opening_at, end_at}
use Rattle.object_format.proofs.Fields.{IsBytes, bind_ok, ok_is, Takes, Takes-then, wide32, number_takes, number_again, block_takes, block_again, fixed_takes, fixed_again, opening_takes, opening_again, end_is}
use Rattle.work_products.specs.Records.{Record, record_magic, counted, record_body, record_spelling, SpellsRecord}
use Rattle.work_products.specs.RecordReading.{counted_at, digest_at, front_at, record_at, parts_of, record_read}
use Rattle.work_products.proofs.Lengths.{length-record_body}
use Rattle.work_products.proofs.Places.{end_place, end-opening, end-counted}

counted_takes : (r : Rest) (x : List ℕ × Rest) → IsBytes r.bytes → counted_at r ≡ Ok x → Takes r (counted x.0) x.1 × (length x.0 < 2 ^ 32)
unfolding counted_at
counted_takes r x fits e =
    let a = bind_ok (number_at w32 r) (λ len. block_at len.0 len.1) x e in
    let len = number_takes w32 (2 ^ 32) wide32 r a.0.0 a.0.1 fits a.1 in
    let block = block_takes a.0.0 a.0.1 x.0 x.1 len.0.fits a.2 in
    let both : Takes r (to_be_bytes w32 a.0.0 ++ x.0) x.1 = Takes-then r (to_be_bytes w32 a.0.0) a.0.1 x.0 x.1 len.0 block.0 in
    (subst (λ (n : ℕ). Takes r (to_be_bytes w32 n ++ x.0) x.1) (sym block.1) both, omega (arith, len.1, block.1))

counted_again : (text : List ℕ) (at : ℕ) (behind : List ℕ) → length text < 2 ^ 32 → counted_at (record { at = at; bytes = counted text ++ behind }) ≡ Ok (text, record { at = at + 4 + length text; bytes = behind })
unfolding counted_at
counted_again text at behind h =
    ap (λ (x : List ℕ). counted_at (record { at = at; bytes = x })) (append_assoc (to_be_bytes w32 (length text)) text behind)
    ∙ rw (number_again w32 (2 ^ 32) wide32 (length text) at (text ++ behind) h, block_again text (at + 4) behind) refl

-- a record that was read at the front of bytes
pub record StandsBefore (bytes : List ℕ) (r : Record) (behind : List ℕ) : Type 0 where
  pub text : length r.text < 2 ^ 32
  pub object : length r.object < 2 ^ 32
  pub parts : bytes ≡ record_spelling r ++ behind

pub front_takes : (bytes : List ℕ) (x : Record × Rest) → IsBytes bytes → front_at bytes ≡ Ok x → StandsBefore bytes x.0 x.1.bytes
unfolding front_at
front_takes bytes x fits e =
    let start : Rest = record { at = 0; bytes = bytes } in
    let a = bind_ok (opening_at Two record_magic start) (λ body. counted_at body.1 >>= λ text. counted_at text.1 >>= λ object. digest_at bytes object.1 >>= λ behind. Ok (record { version = body.0; text = text.0; object = object.0 }, behind)) x e in
    let b = bind_ok (counted_at a.0.1) (λ text. counted_at text.1 >>= λ object. digest_at bytes object.1 >>= λ behind. Ok (record { version = a.0.0; text = text.0; object = object.0 }, behind)) x a.2 in
    let c = bind_ok (counted_at b.0.1) (λ object. digest_at bytes object.1 >>= λ behind. Ok (record { version = a.0.0; text = b.0.0; object = object.0 }, behind)) x b.2 in
    let d = bind_ok (digest_at bytes c.0.1) (λ behind. Ok (record { version = a.0.0; text = b.0.0; object = c.0.0 }, behind)) x c.2 in
    let r : Record = record { version = a.0.0; text = b.0.0; object = c.0.0 } in
    let first = opening_takes Two record_magic start a.0 fits a.1 in
    let text = counted_takes a.0.1 b.0 first.0.fits b.1 in
    let object = counted_takes b.0.1 c.0 text.0.fits c.1 in
    let head = Takes-then start (opening record_magic a.0.0) a.0.1 (counted b.0.0) b.0.1 first.0 text.0 in
    let body : Takes start (record_body r) c.0.1 = Takes-then start (opening record_magic a.0.0 ++ counted b.0.0) b.0.1 (counted c.0.0) c.0.1 head object.0 in
    let ends : end_place c.0.1 ≡ end_place start = end-counted b.0.1 c.0 c.1 ∙ end-counted a.0.1 b.0 b.1 ∙ end-opening record_magic start a.0 a.1 in
    let place : length (record_body r) ≡ c.0.1.at = omega (arith, ends, ap length body.parts, length-append (record_body r) c.0.1.bytes) in
    let before : take c.0.1.at bytes ≡ record_body r = ap (take c.0.1.at) body.parts ∙ take_at (record_body r) c.0.1.bytes c.0.1.at place in
    let digest = fixed_takes (sha256 (take c.0.1.at bytes)) what.Digest c.0.1 d.0 object.0.fits d.1 in
    let seal : c.0.1.bytes ≡ sha256 (record_body r) ++ d.0.bytes = digest.parts ∙ ap (λ (m : List ℕ). sha256 m ++ d.0.bytes) before in
    let parts : bytes ≡ record_spelling r ++ d.0.bytes = body.parts ∙ ap (λ (t : List ℕ). record_body r ++ t) seal ∙ sym (append_assoc (record_body r) (sha256 (record_body r)) d.0.bytes) in
    subst (λ (y : Record × Rest). StandsBefore bytes y.0 y.1.bytes) (ok_is (r, d.0) x d.2) (record { text = text.1; object = object.1; parts = parts })

pub front_again : (r : Record) (behind : List ℕ) → length r.text < 2 ^ 32 → length r.object < 2 ^ 32
    → (to : ℕ) × (front_at (record_spelling r ++ behind) ≡ Ok (r, record { at = to; bytes = behind }))
unfolding front_at
front_again r behind short_text short_object =
    let first = opening record_magic r.version in
    let text = counted r.text in
    let object = counted r.object in
    let body = record_body r in
    let seal = sha256 body in
    let bytes : List ℕ = record_spelling r ++ behind in
    let step : List ℕ → Result (Record × Rest) BadFile = λ x. opening_at Two record_magic (record { at = 0; bytes = x }) >>= λ body. counted_at body.1 >>= λ text. counted_at text.1 >>= λ object. digest_at bytes object.1 >>= λ behind. Ok (record { version = body.0; text = text.0; object = object.0 }, behind) in
    let at : ℕ = 6 + 4 + length r.text + 4 + length r.object in
    let grouped : bytes ≡ first ++ (text ++ (object ++ (seal ++ behind))) = append_assoc body seal behind ∙ append_assoc (first ++ text) object (seal ++ behind) ∙ append_assoc first text (object ++ (seal ++ behind)) in
    let before : take at bytes ≡ body = ap (take at) (append_assoc body seal behind) ∙ take_at body (seal ++ behind) at (omega (arith, length-record_body r)) in (
      at + length seal,
      ap step grouped
          ∙ rw (opening_again Two r.version record_magic (text ++ (object ++ (seal ++ behind))) tt, counted_again r.text 6 (object ++ (seal ++ behind)) short_text, counted_again r.object (6 + 4 + length r.text) (seal ++ behind) short_object, before, fixed_again seal what.Digest at behind) refl,
    )

-- ---- all of the bytes

pub record_takes : (bytes : List ℕ) (r : Record) → IsBytes bytes → record_at bytes ≡ Ok r → SpellsRecord bytes r
unfolding record_at
record_takes bytes r fits e =
    let a = bind_ok (front_at bytes) (λ front. end_at front.1 >>= λ nothing. Ok front.0) r e in
    let b = bind_ok (end_at a.0.1) (λ nothing. Ok a.0.0) r a.2 in
    let front = front_takes bytes a.0 fits a.1 in
    let spelled : bytes ≡ record_spelling a.0.0 = front.parts ∙ ap (λ (t : List ℕ). record_spelling a.0.0 ++ t) (end_is a.0.1 b.0 b.1) ∙ append-nil (record_spelling a.0.0) in
    subst (SpellsRecord bytes) (ok_is a.0.0 r b.2) (record { text = front.text; object = front.object; spelled = spelled })

pub record_again : (bytes : List ℕ) (r : Record) → SpellsRecord bytes r → record_at bytes ≡ Ok r
unfolding record_at
record_again bytes r h =
    let front = front_again r [] h.text h.object in
    ap record_at (h.spelled ∙ sym (append-nil (record_spelling r))) ∙ rw front.1 refl

-- ---- the same as an answer

pub read-found : (bytes : List ℕ) (x : Result (ℕ × List ℕ × List ℕ) (OrMemory BadFile)) → IsBytes bytes → Answers (λ p. p) x (record_read bytes)
    → IfOk x (λ p. (r : Record) × SpellsRecord bytes r × (p ≡ parts_of r))
read-found bytes (Ok p) fits given =
    let a = bind_ok (record_at bytes) (λ r. Ok (parts_of r)) p given in
    (a.0, record_takes bytes a.0 fits a.1, sym (ok_is (parts_of a.0) p a.2))
read-found bytes (Err e) fits given = tt

pub record_read-spelled : (bytes : List ℕ) (r : Record) → SpellsRecord bytes r → record_read bytes ≡ Ok (parts_of r)
record_read-spelled bytes r h = ap (λ (x : Result Record BadFile). x >>= λ r. Ok (parts_of r)) (record_again bytes r h)

-- What is read at the front of bytes is read there whatever stands behind them.
use Rattle.std.proofs.Common.{◌≡◌, ℕ, ◌+◌, ◌≤◌, cond, ltb, List, [], ◌++◌, length, take, Option, Some, None, Ok, sym, ap, ◌∙◌, arith, false, inl, inr, length-append}
use Rattle.std.specs.Int.{Width, w16, w32, byte_len, from_be_bytes}
use Rattle.std.specs.Str.{bytes_eq}
use Rattle.std.proofs.lemmas.Bool.{cases_Bool, ltb-false, le-ltb}
use Rattle.std.proofs.lemmas.List.{take-append-le, drop-append-le, nil_from_length}
use Rattle.sha2.specs.Sha256.{sha256}
use Rattle.object_format.specs.declared.fault.What.{What}
use Rattle.object_format.specs.declared.fault.What.TheVariants as what
use Rattle.object_format.specs.Reading.{Rest, ◌>>=◌, refused, after, block_at, number_at, fixed_at, known, opening_at, end_at}
use Rattle.object_format.specs.Version.{version_of}
use Rattle.object_format.specs.declared.version.Version.{Version}
use Rattle.object_format.specs.declared.version.Version.TheVariants.{Two}
use Rattle.object_format.proofs.Fields.{bind_ok, guard_ok, guard_held, ok_is, end_is}
use Rattle.work_products.specs.Records.{Record, record_magic}
use Rattle.work_products.specs.RecordReading.{counted_at, digest_at, front_at, record_at}
use Rattle.work_products.proofs.Places.{end_place, end-opening, end-counted}

-- the rest of a file that has more bytes
abbrev longer : List ℕ → Rest → Rest
longer more r = record { at = r.at; bytes = r.bytes ++ more }

-- what was read, and the longer rest
abbrev with_more : {A : Type 0} → List ℕ → A × Rest → A × Rest
with_more more x = (x.0, longer more x.1)

after-longer : (n : ℕ) (r : Rest) (more : List ℕ) → n ≤ length r.bytes → after n (longer more r) ≡ longer more (after n r)
after-longer n r more h = ap (λ (b : List ℕ). record { at = r.at + n; bytes = b }) (drop-append-le n r.bytes more h)

long_enough : (n : ℕ) (r : Rest) (more : List ℕ) → n ≤ length r.bytes → ltb (length (r.bytes ++ more)) n ≡ false
long_enough n r more h = le-ltb _ _ (omega (arith, length-append r.bytes more))

block-longer : (n : ℕ) (r : Rest) (x : List ℕ × Rest) (more : List ℕ) → block_at n r ≡ Ok x → block_at n (longer more r) ≡ Ok (with_more more x)
block-longer n r x more e =
    let g = guard_ok (ltb (length r.bytes) n) _ (take n r.bytes, after n r) x e in
    let h : n ≤ length r.bytes = ltb-false _ _ g.0 in
    rw (long_enough n r more h, take-append-le n r.bytes more h, after-longer n r more h) (ap (λ (p : List ℕ × Rest). Ok (with_more more p)) g.1)

number-longer : (w : Width) (r : Rest) (x : ℕ × Rest) (more : List ℕ) → number_at w r ≡ Ok x → number_at w (longer more r) ≡ Ok (with_more more x)
number-longer w r x more e =
    let n = byte_len w in
    let g = guard_ok (ltb (length r.bytes) n) _ (from_be_bytes w (take n r.bytes), after n r) x e in
    let h : n ≤ length r.bytes = ltb-false _ _ g.0 in
    rw (long_enough n r more h, take-append-le n r.bytes more h, after-longer n r more h) (ap (λ (p : ℕ × Rest). Ok (with_more more p)) g.1)

fixed-longer : (text : List ℕ) (fault : What) (r s : Rest) (more : List ℕ) → fixed_at text fault r ≡ Ok s → fixed_at text fault (longer more r) ≡ Ok (longer more s)
fixed-longer text fault r s more e =
    let n = length text in
    elim (cases_Bool (ltb (length r.bytes) n)) [
      | inl short ↦ absurd (let bad = rw short at e in cc)
      | inr long ↦
          let h : n ≤ length r.bytes = ltb-false _ _ long in
          let read : cond (bytes_eq (take n r.bytes) text) (Ok (after n r)) (refused r.at fault) ≡ Ok s = rw long at e in
          let g = guard_held (bytes_eq (take n r.bytes) text) _ (after n r) s read in
          rw (long_enough n r more h, take-append-le n r.bytes more h, g.0, after-longer n r more h) (ap (λ (p : Rest). Ok (longer more p)) g.1)
    ]

known-longer : (at : ℕ) (version : Option Version) (r : Rest) (x : Version × Rest) (more : List ℕ) → known at version r ≡ Ok x → known at version (longer more r) ≡ Ok (with_more more x)
known-longer at None r x more e = absurd cc
known-longer at (Some version) r x more e = ap (λ (p : Version × Rest). Ok (with_more more p)) (ok_is (version, r) x e)

opening-longer : (magic : List ℕ) (r : Rest) (x : Version × Rest) (more : List ℕ) → opening_at Two magic r ≡ Ok x → opening_at Two magic (longer more r) ≡ Ok (with_more more x)
unfolding opening_at
opening-longer magic r x more e =
    let a = bind_ok (fixed_at magic what.Magic r) (λ body. number_at w16 body >>= λ number. known body.at (version_of Two number.0) number.1) x e in
    let b = bind_ok (number_at w16 a.0) (λ number. known a.0.at (version_of Two number.0) number.1) x a.2 in
    rw (fixed-longer magic what.Magic r a.0 more a.1, number-longer w16 a.0 b.0 more b.1) (known-longer a.0.at (version_of Two b.0.0) b.0.1 x more b.2)

counted-longer : (r : Rest) (x : List ℕ × Rest) (more : List ℕ) → counted_at r ≡ Ok x → counted_at (longer more r) ≡ Ok (with_more more x)
unfolding counted_at
counted-longer r x more e =
    let a = bind_ok (number_at w32 r) (λ len. block_at len.0 len.1) x e in
    rw (number-longer w32 r a.0 more a.1) (block-longer a.0.0 a.0.1 x more a.2)

digest-longer : (bytes : List ℕ) (r s : Rest) (more : List ℕ) → r.at ≤ length bytes → digest_at bytes r ≡ Ok s → digest_at (bytes ++ more) (longer more r) ≡ Ok (longer more s)
digest-longer bytes r s more within e =
    ap (λ (m : List ℕ). fixed_at (sha256 m) what.Digest (longer more r)) (take-append-le r.at bytes more within)
    ∙ fixed-longer (sha256 (take r.at bytes)) what.Digest r s more e

pub front-longer : (bytes : List ℕ) (x : Record × Rest) (more : List ℕ) → front_at bytes ≡ Ok x → front_at (bytes ++ more) ≡ Ok (with_more more x)
unfolding front_at
front-longer bytes x more e =
    let start : Rest = record { at = 0; bytes = bytes } in
    let a = bind_ok (opening_at Two record_magic start) (λ body. counted_at body.1 >>= λ text. counted_at text.1 >>= λ object. digest_at bytes object.1 >>= λ behind. Ok (record { version = body.0; text = text.0; object = object.0 }, behind)) x e in
    let b = bind_ok (counted_at a.0.1) (λ text. counted_at text.1 >>= λ object. digest_at bytes object.1 >>= λ behind. Ok (record { version = a.0.0; text = text.0; object = object.0 }, behind)) x a.2 in
    let c = bind_ok (counted_at b.0.1) (λ object. digest_at bytes object.1 >>= λ behind. Ok (record { version = a.0.0; text = b.0.0; object = object.0 }, behind)) x b.2 in
    let d = bind_ok (digest_at bytes c.0.1) (λ behind. Ok (record { version = a.0.0; text = b.0.0; object = c.0.0 }, behind)) x c.2 in
    let ends : end_place c.0.1 ≡ end_place start = end-counted b.0.1 c.0 c.1 ∙ end-counted a.0.1 b.0 b.1 ∙ end-opening record_magic start a.0 a.1 in
    let within : c.0.1.at ≤ length bytes = omega (arith, ends) in
    rw (opening-longer record_magic start a.0 more a.1, counted-longer a.0.1 b.0 more b.1, counted-longer b.0.1 c.0 more c.1, digest-longer bytes c.0.1 d.0 more within d.1)
    (ap (λ (p : Record × Rest). Ok (with_more more p)) (ok_is (record { version = a.0.0; text = b.0.0; object = c.0.0 }, d.0) x d.2))

-- the record that bytes are, at their front
record_front : (bytes : List ℕ) (r : Record) → record_at bytes ≡ Ok r → (s : Rest) × (front_at bytes ≡ Ok (r, s)) × (end_at s ≡ Ok tt)
unfolding record_at
record_front bytes r e =
    let a = bind_ok (front_at bytes) (λ front. end_at front.1 >>= λ nothing. Ok front.0) r e in
    let b = bind_ok (end_at a.0.1) (λ nothing. Ok a.0.0) r a.2 in
    let is : a.0.0 ≡ r = ok_is a.0.0 r b.2 in
    (a.0.1, a.1 ∙ ap (λ (q : Record). Ok (q, a.0.1)) is, b.1)

-- where bytes and a front of them are records, they are one, and the front is all
pub one_record : (bytes more : List ℕ) (r s : Record) → record_at (bytes ++ more) ≡ Ok r → record_at bytes ≡ Ok s → (s ≡ r) × (more ≡ [])
one_record bytes more r s whole front =
    let w = record_front (bytes ++ more) r whole in
    let f = record_front bytes s front in
    let same : with_more more (s, f.0) ≡ (r, w.0) = ok_is (with_more more (s, f.0)) (r, w.0) (sym (front-longer bytes (s, f.0) more f.1) ∙ w.1) in
    let rest : f.0.bytes ++ more ≡ w.0.bytes = ap (λ (p : Record × Rest). p.1.bytes) same in
    let nothing : f.0.bytes ++ more ≡ [] = rest ∙ end_is w.0 tt w.2 in
    (ap (λ (p : Record × Rest). p.0) same, nil_from_length more (omega (arith, ap length nothing, length-append f.0.bytes more)))

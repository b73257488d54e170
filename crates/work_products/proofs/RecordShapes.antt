-- Records as bytes: each is one, none is a strict front of another, and what their digest and their names are.
use Rattle.std.proofs.Common.{◌≡◌, ◌⊎◌, inl, inr, ℕ, zero, suc, ◌-◌, ◌<◌, ◌/◌, ◌%◌, true, false, List, [], ◌∷◌, ◌++◌, length, take, drop, set, refl, sym, ap, ◌∙◌, arith, length-append, length-set, eq-eqb}
use Rattle.std.specs.Prelude.{slice_index}
use Rattle.std.specs.Int.{w32, to_be_bytes}
use Rattle.std.specs.List.{AllByRecursion, list_all}
use Rattle.std.specs.Str.{bytes_eq}
use Rattle.std.proofs.lemmas.Bool.{cases_lt, cases_Bool}
use Rattle.std.proofs.lemmas.List.{take_at, drop_at, take-append-drop, take-set-le, drop-set-lt}
use Rattle.std.proofs.lemmas.List.Folds.{list_all_at}
use Rattle.std.proofs.lemmas.Slice.Eq.{bytes_eq-Decides}
use Rattle.hex.specs.Hex.{encode_with, lower_digits}
use Rattle.hex.proofs.HexLemmas.{length-encode_with}
use Rattle.sha2.specs.Sha256.{digest_bytes, final_hash, initial_hash_256, sha256}
use Rattle.sha2.proofs.Facts256.{length-sha256}
use Rattle.object_format.proofs.Fields.{ok_is}
use Rattle.work_products.specs.Records.{Record, SpellsRecord, record_body, is_lower_digit, is_record_name, record_name}
use Rattle.work_products.specs.Sealed.{Collide, before_digest, digest_in}
use Rattle.work_products.proofs.LongerFiles.{one_record}
use Rattle.work_products.proofs.RecordLaws.{record_again}

pub record-one : (bytes : List ℕ) (r s : Record) → SpellsRecord bytes r → SpellsRecord bytes s → r ≡ s
record-one bytes r s p q = ok_is r s (sym (record_again bytes r p) ∙ record_again bytes s q)

pub record-whole : (bytes more : List ℕ) (r s : Record) → SpellsRecord (bytes ++ more) r → SpellsRecord bytes s → more ≡ []
record-whole bytes more r s p q = (one_record bytes more r s (record_again (bytes ++ more) r p) (record_again bytes s q)).1

-- ---- the digest

sealed_parts : (bytes body : List ℕ) → bytes ≡ body ++ sha256 body → (before_digest bytes ≡ body) × (digest_in bytes ≡ sha256 body)
sealed_parts bytes body is =
    let n : length body ≡ length bytes - 32 = omega (arith, ap length is, length-append body (sha256 body), length-sha256 body) in (
      ap (take (length bytes - 32)) is ∙ take_at body (sha256 body) (length bytes - 32) n,
      ap (drop (length bytes - 32)) is ∙ drop_at body (sha256 body) (length bytes - 32) n,
    )

pub record-sealed : (bytes : List ℕ) (r : Record) → SpellsRecord bytes r → digest_in bytes ≡ sha256 (before_digest bytes)
record-sealed bytes r h = let parts = sealed_parts bytes (record_body r) h.spelled in parts.1 ∙ ap sha256 (sym parts.0)

whole_again : (bytes : List ℕ) → before_digest bytes ++ digest_in bytes ≡ bytes
whole_again bytes = take-append-drop (length bytes - 32) bytes

-- bytes that end with the digest of what stands before it, and begin alike, are the same
pub sealed-same : (a b : List ℕ) → digest_in a ≡ sha256 (before_digest a) → digest_in b ≡ sha256 (before_digest b) → before_digest a ≡ before_digest b → a ≡ b
sealed-same a b p q h = sym (whole_again a) ∙ ap (λ (l : List ℕ). l ++ digest_in a) h ∙ ap (λ (l : List ℕ). before_digest b ++ l) (p ∙ ap sha256 h ∙ sym q) ∙ whole_again b

pub record-changed : (bytes : List ℕ) (place byte : ℕ) (r s : Record) → SpellsRecord bytes r → SpellsRecord (set bytes place byte) s
    → (set bytes place byte ≡ bytes) ⊎ Collide (before_digest (set bytes place byte)) (before_digest bytes)
record-changed bytes place byte r s p q =
    let other = set bytes place byte in
    let n : length other - 32 ≡ length bytes - 32 = ap (λ (k : ℕ). k - 32) (length-set bytes place byte) in
    let here = record-sealed bytes r p in
    let there = record-sealed other s q in
    elim (cases_Bool (bytes_eq (before_digest other) (before_digest bytes))) [
      | inl same ↦ inl (sealed-same other bytes there here ((bytes_eq-Decides (before_digest other) (before_digest bytes)).0 same))
      | inr differ ↦
          elim (cases_lt place (length bytes - 32)) [
            | inl early ↦
                let digests : digest_in other ≡ digest_in bytes = ap (λ (k : ℕ). drop k other) n ∙ drop-set-lt (length bytes - 32) bytes place byte early in
                inr (λ (e : before_digest other ≡ before_digest bytes). apart e differ, sym there ∙ digests ∙ here)
            | inr late ↦
                let fronts : before_digest other ≡ before_digest bytes = ap (λ (k : ℕ). take k other) n ∙ take-set-le (length bytes - 32) bytes place byte late in
                inl (sealed-same other bytes there here fronts)
          ]
    ]
  where
    apart : {a b : List ℕ} → a ≡ b → bytes_eq a b ≡ false → ⊥
    apart {a} {b} e f = let t : bytes_eq a b ≡ true = (bytes_eq-Decides a b).1 e in cc

-- ---- names

all_append : (xs ys : List ℕ) → AllByRecursion (λ b. b < 256) xs → AllByRecursion (λ b. b < 256) ys → AllByRecursion (λ b. b < 256) (xs ++ ys)
all_append [] ys p q = q
all_append (x ∷ xs) ys p q = (p.0, all_append xs ys p.1 q)

digest_below : (h : List ℕ) (n : ℕ) → AllByRecursion (λ b. b < 256) (digest_bytes h n)
unfolding digest_bytes
digest_below h zero = tt
digest_below h (suc n) = all_append (digest_bytes h n) (to_be_bytes w32 (slice_index h n)) (digest_below h n) (omega arith, (omega arith, (omega arith, (omega arith, tt))))

sha256_below : (m : List ℕ) → AllByRecursion (λ b. b < 256) (sha256 m)
unfolding sha256
sha256_below m = digest_below (final_hash initial_hash_256 m) 8

digit_is_lower : (d : ℕ) → d < 16 → is_lower_digit (slice_index lower_digits d) ≡ true
digit_is_lower d h =
    elim (cases_Bool (is_lower_digit (slice_index lower_digits d))) [
      | inl holds ↦ holds
      | inr fails ↦ absurd (let bad : list_all is_lower_digit lower_digits ≡ false = list_all_at is_lower_digit lower_digits d 0 h fails in cc)
    ]

digits_are_lower : (bytes : List ℕ) → AllByRecursion (λ b. b < 256) bytes → list_all is_lower_digit (encode_with lower_digits bytes) ≡ true
unfolding encode_with
digits_are_lower [] h = refl
digits_are_lower (b ∷ bs) h =
    let below : b < 256 = h.0 in
    rw (digit_is_lower (b / 16) (omega arith), digit_is_lower (b % 16) (omega arith)) (digits_are_lower bs h.1)

-- the name of a text is one that a record may have
pub record_name-named : (text : List ℕ) → is_record_name (record_name text) ≡ true
unfolding record_name
record_name-named text =
    let len : length (encode_with lower_digits (sha256 text)) ≡ 64 = omega (arith, length-encode_with lower_digits (sha256 text), length-sha256 text) in
    rw (eq-eqb (length (encode_with lower_digits (sha256 text))) 64 len) (digits_are_lower (sha256 text) (sha256_below text))

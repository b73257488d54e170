-- A field that is read is the field that was written, and what was written is read again.
use Rattle.std.proofs.Common.{◌≡◌, ℕ, suc, ◌+◌, ◌^◌, ◌<◌, ◌≤◌, Bool, true, false, cond, eqb, ltb, List, [], ◌∷◌, ◌++◌, length, get_or, take, drop, Option, Some, None, Result, Ok, Err, refl, sym, ap, subst, ◌∙◌, append_assoc, arith, inl, inr}
use Rattle.std.specs.Int.{Width, w16, w32, byte_len, from_be_bytes, to_be_bytes}
use Rattle.std.specs.Str.{bytes_eq}
use Rattle.std.proofs.lemmas.Bool.{cases_lt, cases_Bool, ltb-false, le-ltb, eqb-true}
use Rattle.std.proofs.lemmas.List.{take_at, drop_at, take-append-drop, length-append, length-take, get_or-drop, get_or-take, get_or_past, nil_from_length}
use Rattle.std.proofs.lemmas.Nat.{be_bytes_2, be_bytes_4, from_be_bytes-to_be_bytes_2, from_be_bytes-to_be_bytes_4}
use Rattle.std.proofs.lemmas.Slice.Eq.{bytes_eq-Decides}
use Rattle.object_format.specs.declared.fault.BadFile.{BadFile}
use Rattle.object_format.specs.declared.fault.What.{What}
use Rattle.object_format.specs.declared.fault.What.TheVariants as what
use Rattle.object_format.specs.Image.{opening}
use Rattle.object_format.specs.Version.{number_of, max_code, most_code, length_width, if_newest, version_of}
use Rattle.object_format.specs.declared.version.Version.{Version}
use Rattle.object_format.specs.declared.version.Version.TheVariants.{One, Two}
use Rattle.object_format.specs.Reading.{Rest, ◌>>=◌, refused, after, block_at, first_byte, byte_at, number_at, fixed_at, known, opening_at, length_at, end_at}

abbrev pub IsBytes : List ℕ → Type 0
IsBytes bytes = (i : ℕ) → get_or bytes i 0 < 256

pub IsBytes-drop : (n : ℕ) (bytes : List ℕ) → IsBytes bytes → IsBytes (drop n bytes)
IsBytes-drop n bytes h i = rw get_or-drop (h (n + i))

pub IsBytes-take : (n : ℕ) (bytes : List ℕ) → IsBytes bytes → IsBytes (take n bytes)
IsBytes-take n bytes h i =
    elim (cases_lt i n) [
      | inl lt ↦ rw (get_or-take n bytes i 0 lt) (h i)
      | inr le ↦ rw (get_or_past (take n bytes) i 0 (omega (arith, length-take n bytes))) (omega arith)
    ]

-- the value of a step that did not fail
pub bind_ok : {A B : Type 0} (r : Result A BadFile) (f : A → Result B BadFile) (y : B) → (r >>= f) ≡ Ok y → (x : A) × (r ≡ Ok x) × (f x ≡ Ok y)
bind_ok (Ok x) f y e = (x, refl, e)
bind_ok (Err d) f y e = absurd cc

-- a test that did not fail
pub guard_ok : {A : Type 0} (b : Bool) (d : BadFile) (x y : A) → cond b (Err d) (Ok x) ≡ Ok y → (b ≡ false) × (x ≡ y)
guard_ok true d x y e = absurd cc
guard_ok false d x y e = (refl, cc)

pub guard_held : {A : Type 0} (b : Bool) (d : BadFile) (x y : A) → cond b (Ok x) (Err d) ≡ Ok y → (b ≡ true) × (x ≡ y)
guard_held true d x y e = (refl, cc)
guard_held false d x y e = absurd cc

abbrev done : {A : Type 0} → A → Result A BadFile
done x = Ok x

pub ok_is : {A : Type 0} (x y : A) → done x ≡ done y → x ≡ y
ok_is x y e = cc

-- what a reader took from the front
pub record Takes (r : Rest) (text : List ℕ) (s : Rest) : Type 0 where
  pub parts : r.bytes ≡ text ++ s.bytes
  pub fits : IsBytes s.bytes

pub Takes-then : (a : Rest) (x : List ℕ) (b : Rest) (y : List ℕ) (c : Rest) → Takes a x b → Takes b y c → Takes a (x ++ y) c
Takes-then a x b y c p q = record { parts = p.parts ∙ ap (λ (t : List ℕ). x ++ t) q.parts ∙ sym (append_assoc x y c.bytes); fits = q.fits }

-- what a reader does with a text at the front: it gives the value, and what is left are the bytes behind the text
abbrev pub Reads : {A : Type 0} → (Rest → Result (A × Rest) BadFile) → List ℕ → A → Type 0
Reads read text x = (at : ℕ) (behind : List ℕ) → (to : ℕ) × (read (record { at = at; bytes = text ++ behind }) ≡ Ok (x, record { at = to; bytes = behind }))

-- ---- bytes

pub byte_takes : (r : Rest) (b : ℕ) (s : Rest) → IsBytes r.bytes → byte_at r ≡ Ok (b, s) → Takes r (b ∷ []) s × (b < 256)
byte_takes r b s fits e = first_takes r.at r.bytes fits e
  where
    first_takes : (at : ℕ) (bytes : List ℕ) → IsBytes bytes → first_byte at bytes ≡ Ok (b, s) → Takes (record { at = at; bytes = bytes }) (b ∷ []) s × (b < 256)
    first_takes at [] fits e = absurd cc
    first_takes at (x ∷ xs) fits e = subst (λ (p : ℕ × Rest). Takes (record { at = at; bytes = x ∷ xs }) (p.0 ∷ []) p.1 × (p.0 < 256)) (ok_is (x, record { at = at + 1; bytes = xs }) (b, s) e) (record { parts = refl; fits = λ i. fits (suc i) }, fits 0)

-- ---- numbers

pub record IsWide (w : Width) (limit : ℕ) : Type 0 where
  pub len : (n : ℕ) → length (to_be_bytes w n) ≡ byte_len w
  pub back : (bytes : List ℕ) → length bytes ≡ byte_len w → IsBytes bytes → to_be_bytes w (from_be_bytes w bytes) ≡ bytes
  pub again : (n : ℕ) → n < limit → from_be_bytes w (to_be_bytes w n) ≡ n
  pub below : (bytes : List ℕ) → IsBytes bytes → from_be_bytes w bytes < limit

pub wide16 : IsWide w16 (2 ^ 16)
wide16 = record {
  len = λ n. refl;
  back = λ bytes len fits. be_bytes_2 bytes _ len fits refl;
  again = λ n lt. from_be_bytes-to_be_bytes_2 n lt;
  below = λ bytes fits. omega (arith, fits 0, fits 1);
}

pub wide32 : IsWide w32 (2 ^ 32)
wide32 = record {
  len = λ n. refl;
  back = λ bytes len fits. be_bytes_4 bytes _ len fits refl;
  again = λ n lt. from_be_bytes-to_be_bytes_4 n lt;
  below = λ bytes fits. omega (arith, fits 0, fits 1, fits 2, fits 3);
}

pub number_takes : (w : Width) (limit : ℕ) (wide : IsWide w limit) (r : Rest) (n : ℕ) (s : Rest) → IsBytes r.bytes → number_at w r ≡ Ok (n, s) → Takes r (to_be_bytes w n) s × (n < limit)
number_takes w limit wide r n s fits e =
    let bytes = r.bytes in
    let front = take (byte_len w) bytes in
    let g = guard_ok (ltb (length bytes) (byte_len w)) _ (from_be_bytes w front, after (byte_len w) r) (n, s) e in
    let long : byte_len w ≤ length bytes = ltb-false _ _ g.0 in
    let back : to_be_bytes w (from_be_bytes w front) ≡ front = wide.back front (omega (arith, length-take (byte_len w) bytes)) (IsBytes-take (byte_len w) bytes fits) in
    let took : Takes r (to_be_bytes w (from_be_bytes w front)) (after (byte_len w) r) = record { parts = rw back (sym (take-append-drop (byte_len w) bytes)); fits = IsBytes-drop (byte_len w) bytes fits } in
    subst (λ (p : ℕ × Rest). Takes r (to_be_bytes w p.0) p.1 × (p.0 < limit)) g.1 (took, wide.below front (IsBytes-take (byte_len w) bytes fits))

pub number_again : (w : Width) (limit : ℕ) (wide : IsWide w limit) (n at : ℕ) (behind : List ℕ) → n < limit
    → number_at w (record { at = at; bytes = to_be_bytes w n ++ behind }) ≡ Ok (n, record { at = at + byte_len w; bytes = behind })
number_again w limit wide n at behind lt =
    let len = wide.len n in
    let long : ltb (length (to_be_bytes w n ++ behind)) (byte_len w) ≡ false = le-ltb _ _ (omega (arith, length-append (to_be_bytes w n) behind)) in
    rw (long, take_at (to_be_bytes w n) behind (byte_len w) len, drop_at (to_be_bytes w n) behind (byte_len w) len, wide.again n lt) refl

-- ---- blocks, and texts that are fixed

pub block_takes : (n : ℕ) (r : Rest) (text : List ℕ) (s : Rest) → IsBytes r.bytes → block_at n r ≡ Ok (text, s) → Takes r text s × (length text ≡ n)
block_takes n r text s fits e =
    let g = guard_ok (ltb (length r.bytes) n) _ (take n r.bytes, after n r) (text, s) e in
    let long : n ≤ length r.bytes = ltb-false _ _ g.0 in
    let took : Takes r (take n r.bytes) (after n r) = record { parts = sym (take-append-drop n r.bytes); fits = IsBytes-drop n r.bytes fits } in
    subst (λ (p : List ℕ × Rest). Takes r p.0 p.1 × (length p.0 ≡ n)) g.1 (took, omega (arith, length-take n r.bytes))

pub length-block : (n : ℕ) (r : Rest) (x : List ℕ × Rest) → block_at n r ≡ Ok x → length x.0 ≡ n
length-block n r x e =
    let g = guard_ok (ltb (length r.bytes) n) _ (take n r.bytes, after n r) x e in
    let long : n ≤ length r.bytes = ltb-false _ _ g.0 in
    let taken : length (take n r.bytes) ≡ n = omega (arith, length-take n r.bytes) in
    sym (ap (λ (p : List ℕ × Rest). length p.0) g.1) ∙ taken

pub block_again : (text : List ℕ) (at : ℕ) (behind : List ℕ) → block_at (length text) (record { at = at; bytes = text ++ behind }) ≡ Ok (text, record { at = at + length text; bytes = behind })
block_again text at behind =
    let long : ltb (length (text ++ behind)) (length text) ≡ false = le-ltb _ _ (omega (arith, length-append text behind)) in
    rw (long, take_at text behind (length text) refl, drop_at text behind (length text) refl) refl

pub fixed_takes : (text : List ℕ) (fault : What) (r s : Rest) → IsBytes r.bytes → fixed_at text fault r ≡ Ok s → Takes r text s
fixed_takes text fault r s fits e =
    let n = length text in
    let bytes = r.bytes in
    let same = bytes_eq (take n bytes) text in
    elim (cases_Bool (ltb (length bytes) n)) [
      | inl short ↦ absurd (let bad = rw short at e in cc)
      | inr long ↦
          let read : cond same (Ok (after n r)) (refused r.at fault) ≡ Ok s = rw long at e in
          let g = guard_held same _ (after n r) s read in
          let is : take n bytes ≡ text = (bytes_eq-Decides (take n bytes) text).0 g.0 in
          let took : Takes r text (after n r) = record { parts = sym (take-append-drop n bytes) ∙ ap (λ (t : List ℕ). t ++ drop n bytes) is; fits = IsBytes-drop n bytes fits } in
          subst (Takes r text) g.1 took
    ]

pub fixed_again : (text : List ℕ) (fault : What) (at : ℕ) (behind : List ℕ) → fixed_at text fault (record { at = at; bytes = text ++ behind }) ≡ Ok (record { at = at + length text; bytes = behind })
fixed_again text fault at behind =
    let long : ltb (length (text ++ behind)) (length text) ≡ false = le-ltb _ _ (omega (arith, length-append text behind)) in
    let same : bytes_eq text text ≡ true = (bytes_eq-Decides text text).1 refl in
    rw (long, take_at text behind (length text) refl, drop_at text behind (length text) refl, same) refl

-- ---- the magic and the version, and the end

-- where the newest version that is taken is the first, it is the first
abbrev pub IsUpTo : Version → Version → Type 0
IsUpTo One version = version ≡ One
IsUpTo Two version = Unit {0}

is_up_to-one : (newest : Version) → IsUpTo newest One
is_up_to-one One = refl
is_up_to-one Two = tt

record IsKnown (newest : Version) (n : ℕ) (r : Rest) (x : Version × Rest) : Type 0 where
  pub number : number_of x.0 ≡ n
  pub rest : x.1 ≡ r
  pub newest_is : IsUpTo newest x.0

known_by : (newest : Version) (one two : Bool) (at n : ℕ) (r : Rest) (x : Version × Rest) → eqb n 1 ≡ one → eqb n 2 ≡ two → known at (cond one (Some One) (cond two (if_newest newest) None)) r ≡ Ok x → IsKnown newest n r x
known_by newest true two at n r x first second e =
    subst (IsKnown newest n r) (ok_is (One, r) x e) (record { number = sym (eqb-true n 1 first); rest = refl; newest_is = is_up_to-one newest })
known_by Two false true at n r x first second e =
    subst (IsKnown Two n r) (ok_is (Two, r) x e) (record { number = sym (eqb-true n 2 second); rest = refl; newest_is = tt })
known_by One false true at n r x first second e = absurd cc
known_by newest false false at n r x first second e = absurd cc

pub opening_takes : (newest : Version) (magic : List ℕ) (r : Rest) (x : Version × Rest) → IsBytes r.bytes → opening_at newest magic r ≡ Ok x → Takes r (opening magic x.0) x.1 × IsUpTo newest x.0
unfolding opening_at
opening_takes newest magic r x fits e =
    let a = bind_ok (fixed_at magic what.Magic r) (λ body. number_at w16 body >>= λ number. known body.at (version_of newest number.0) number.1) x e in
    let b = bind_ok (number_at w16 a.0) (λ number. known a.0.at (version_of newest number.0) number.1) x a.2 in
    let first = fixed_takes magic what.Magic r a.0 fits a.1 in
    let second = number_takes w16 (2 ^ 16) wide16 a.0 b.0.0 b.0.1 first.fits b.1 in
    let version = known_by newest (eqb b.0.0 1) (eqb b.0.0 2) a.0.at b.0.0 b.0.1 x refl refl b.2 in
    let both : Takes r (magic ++ to_be_bytes w16 b.0.0) b.0.1 = Takes-then r magic a.0 (to_be_bytes w16 b.0.0) b.0.1 first second.0 in
    let named : Takes r (opening magic x.0) b.0.1 = subst (λ (k : ℕ). Takes r (magic ++ to_be_bytes w16 k) b.0.1) (sym version.number) both in
    (subst (λ (s : Rest). Takes r (opening magic x.0) s) (sym version.rest) named, version.newest_is)

version_of-number : (newest version : Version) → IsUpTo newest version → version_of newest (number_of version) ≡ Some version
version_of-number One One h = refl
version_of-number Two One h = refl
version_of-number Two Two h = refl
version_of-number One Two h = absurd cc

pub small_number : (version : Version) → number_of version < 2 ^ 16
small_number One = omega arith
small_number Two = omega arith

pub opening_again : (newest version : Version) (magic : List ℕ) (behind : List ℕ) → IsUpTo newest version
    → opening_at newest magic (record { at = 0; bytes = opening magic version ++ behind }) ≡ Ok (version, record { at = 0 + length magic + 2; bytes = behind })
unfolding opening_at
opening_again newest version magic behind h =
    let number = to_be_bytes w16 (number_of version) in
    ap (λ (x : List ℕ). opening_at newest magic (record { at = 0; bytes = x })) (append_assoc magic number behind)
    ∙ rw (fixed_again magic what.Magic 0 (number ++ behind), number_again w16 (2 ^ 16) wide16 (number_of version) (0 + length magic) behind (small_number version), version_of-number newest version h) refl

-- ---- the length of code

abbrev wide_limit : Version → ℕ
wide_limit One = 2 ^ 16
wide_limit Two = 2 ^ 32

code_wide : (version : Version) → IsWide (length_width version) (wide_limit version)
code_wide One = wide16
code_wide Two = wide32

below_limit : (version : Version) (n : ℕ) → n ≤ most_code version → n < wide_limit version
below_limit One n h = omega (arith, h)
below_limit Two n h = omega (arith, h)

pub most_code-most : (version : Version) → most_code version ≤ max_code
most_code-most One = omega arith
most_code-most Two = omega arith

pub length_takes : (version : Version) (r : Rest) (x : ℕ × Rest) → IsBytes r.bytes → length_at version r ≡ Ok x → Takes r (to_be_bytes (length_width version) x.0) x.1 × (x.0 ≤ most_code version)
unfolding length_at
length_takes version r x fits e =
    let w = length_width version in
    let a = bind_ok (number_at w r) (λ len. cond (ltb (most_code version) len.0) (refused r.at what.Code) (Ok len)) x e in
    let g = guard_ok (ltb (most_code version) a.0.0) _ a.0 x a.2 in
    let t = number_takes w (wide_limit version) (code_wide version) r a.0.0 a.0.1 fits a.1 in
    subst (λ (y : ℕ × Rest). Takes r (to_be_bytes w y.0) y.1 × (y.0 ≤ most_code version)) g.1 (t.0, ltb-false _ _ g.0)

pub length_again : (version : Version) (n at : ℕ) (behind : List ℕ) → n ≤ most_code version
    → length_at version (record { at = at; bytes = to_be_bytes (length_width version) n ++ behind }) ≡ Ok (n, record { at = at + byte_len (length_width version); bytes = behind })
unfolding length_at
length_again version n at behind h =
    rw (number_again (length_width version) (wide_limit version) (code_wide version) n at behind (below_limit version n h), le-ltb (most_code version) n h) refl

pub end_is : (r : Rest) (u : Unit {0}) → end_at r ≡ Ok u → r.bytes ≡ []
end_is r u e = nil_from_length r.bytes (eqb-true _ _ (guard_held (eqb (length r.bytes) 0) _ tt u e).0)

-- The two laws of images: what is read is spelled so, and what is spelled so is read.
use Rattle.std.proofs.Common.{◌≡◌, ◌⊎◌, inl, inr, ℕ, zero, suc, ◌+◌, ◌^◌, ◌<◌, ◌≤◌, cond, ltb, List, [], ◌∷◌, ◌++◌, length, Option, Some, None, Result, Ok, Err, refl, sym, ap, subst, ◌∙◌, append_assoc, arith}
use Rattle.std.specs.Prelude.{IfOk, slice_index}
use Rattle.std.specs.List.{flat_map, AllByRecursion}
use Rattle.std.specs.Int.{w16, w32, byte_len, from_be_bytes, to_be_bytes}
use Rattle.std.proofs.lemmas.Bool.{lt-ltb, ltb-true}
use Rattle.std.proofs.lemmas.List.{append-nil}
use Rattle.lar_bytes.specs.Answers.{Answers}
use Rattle.lar_bytes.specs.declared.memory.OrMemory.{OrMemory}
use Rattle.object_format.specs.declared.fault.BadFile.{BadFile}
use Rattle.object_format.specs.declared.fault.What.TheVariants as what
use Rattle.object_format.specs.Code.{IsMadeOf, IsLinkedCode}
use Rattle.object_format.specs.Image.{LinkedFn, Linked, IsLinkedFn, IsLinked, FitsVersion, version_field, SpellsImage, function_spelling, opening, image_magic, image_spelling_in}
use Rattle.object_format.specs.Version.{number_of, most_code, length_width}
use Rattle.object_format.specs.declared.version.Version.{Version}
use Rattle.object_format.specs.declared.version.Version.TheVariants.{One, Two}
use Rattle.object_format.specs.Reading.{Rest, ◌>>=◌, refused, unless, byte_at, number_at, block_at, code_fault, length_at, function_at, linked_behind, items_at, opening_at, end_at, counts_at, head_at, image_at}
use Rattle.object_format.proofs.CodeFaults.{IsAllowed, made-code_fault, whole-made, code_fault-made}
use Rattle.object_format.proofs.Fields.{IsBytes, bind_ok, ok_is, guard_held, Takes, Takes-then, wide32, byte_takes, number_takes, number_again, block_takes, block_again, opening_takes, opening_again, most_code-most, length_takes, length_again, end_is}

pub unless_ok : {A : Type 0} (f : Option BadFile) (x y : A) → unless f x ≡ Ok y → (f ≡ None) × (x ≡ y)
unless_ok (Some f) x y e = absurd cc
unless_ok None x y e = (refl, ok_is x y e)

-- ---- a function

-- what a function that was read is
pub record IsTakenFn (version : Version) (count : Option ℕ) (f : LinkedFn) : Type 0 where
  pub own : IsLinkedFn f
  pub short : length f.code ≤ most_code version
  pub made : IsMadeOf (IsAllowed count) f.code

pub function_takes : (version : Version) (count : Option ℕ) (r : Rest) (x : LinkedFn × Rest) → IsBytes r.bytes → function_at version count r ≡ Ok x → Takes r (function_spelling version x.0) x.1 × IsTakenFn version count x.0
unfolding function_at
function_takes version count r x fits e =
    let w = length_width version in
    let a = bind_ok (byte_at r) (λ params. byte_at params.1 >>= λ results. byte_at results.1 >>= λ slots. length_at version slots.1 >>= λ len. block_at len.0 len.1 >>= λ code. unless (code_fault count len.1.at code.0) (record { params = params.0; «result» = results.0; slots = slots.0; code = code.0 }, code.1)) x e in
    let b = bind_ok (byte_at a.0.1) (λ results. byte_at results.1 >>= λ slots. length_at version slots.1 >>= λ len. block_at len.0 len.1 >>= λ code. unless (code_fault count len.1.at code.0) (record { params = a.0.0; «result» = results.0; slots = slots.0; code = code.0 }, code.1)) x a.2 in
    let c = bind_ok (byte_at b.0.1) (λ slots. length_at version slots.1 >>= λ len. block_at len.0 len.1 >>= λ code. unless (code_fault count len.1.at code.0) (record { params = a.0.0; «result» = b.0.0; slots = slots.0; code = code.0 }, code.1)) x b.2 in
    let d = bind_ok (length_at version c.0.1) (λ len. block_at len.0 len.1 >>= λ code. unless (code_fault count len.1.at code.0) (record { params = a.0.0; «result» = b.0.0; slots = c.0.0; code = code.0 }, code.1)) x c.2 in
    let f = bind_ok (block_at d.0.0 d.0.1) (λ code. unless (code_fault count d.0.1.at code.0) (record { params = a.0.0; «result» = b.0.0; slots = c.0.0; code = code.0 }, code.1)) x d.2 in
    let made : LinkedFn × Rest = (record { params = a.0.0; «result» = b.0.0; slots = c.0.0; code = f.0.0 }, f.0.1) in
    let g = unless_ok (code_fault count d.0.1.at f.0.0) made x f.2 in
    let t1 = byte_takes r a.0.0 a.0.1 fits a.1 in
    let t2 = byte_takes a.0.1 b.0.0 b.0.1 t1.0.fits b.1 in
    let t3 = byte_takes b.0.1 c.0.0 c.0.1 t2.0.fits c.1 in
    let t4 = length_takes version c.0.1 d.0 t3.0.fits d.1 in
    let t5 = block_takes d.0.0 d.0.1 f.0.0 f.0.1 t4.0.fits f.1 in
    let allowed = made-code_fault count d.0.1.at f.0.0 g.0 in
    let e34 = Takes-then c.0.1 (to_be_bytes w d.0.0) d.0.1 f.0.0 f.0.1 t4.0 t5.0 in
    let e23 = Takes-then b.0.1 (c.0.0 ∷ []) c.0.1 (to_be_bytes w d.0.0 ++ f.0.0) f.0.1 t3.0 e34 in
    let e12 = Takes-then a.0.1 (b.0.0 ∷ []) b.0.1 (c.0.0 ∷ [] ++ (to_be_bytes w d.0.0 ++ f.0.0)) f.0.1 t2.0 e23 in
    let e01 = Takes-then r (a.0.0 ∷ []) a.0.1 (b.0.0 ∷ [] ++ (c.0.0 ∷ [] ++ (to_be_bytes w d.0.0 ++ f.0.0))) f.0.1 t1.0 e12 in
    let spelled : Takes r (function_spelling version made.0) f.0.1 = subst (λ (k : ℕ). Takes r (a.0.0 ∷ b.0.0 ∷ c.0.0 ∷ [] ++ to_be_bytes w k ++ f.0.0) f.0.1) (sym t5.1) e01 in
    let short : length f.0.0 ≤ most_code version = omega (arith, t4.1, t5.1) in
    let own : IsLinkedFn made.0 = record { params = t1.1; «result» = t2.1; slots = t3.1; short = omega (arith, short, most_code-most version); whole = whole-made count f.0.0 allowed } in
    subst (λ (y : LinkedFn × Rest). Takes r (function_spelling version y.0) y.1 × IsTakenFn version count y.0) g.1 (spelled, record { own = own; short = short; made = allowed })

pub record AreTaken (version : Version) (count n : ℕ) (fs : List LinkedFn) : Type 0 where
  pub many : length fs ≡ n
  pub own : AllByRecursion IsLinkedFn fs
  pub short : FitsVersion version fs
  pub linked : AllByRecursion (λ f. IsLinkedCode count f.code) fs

-- what functions that were read behind others are
record TakesMore (version : Version) (count n : ℕ) (front : List LinkedFn) (r : Rest) (x : List LinkedFn × Rest) : Type 0 where
  pub more : List LinkedFn
  pub all : x.0 ≡ front ++ more
  pub takes : Takes r (flat_map (function_spelling version) more) x.1
  pub taken : AreTaken version count n more

take_more : (version : Version) (count n : ℕ) (front : List LinkedFn) (r : Rest) (x : List LinkedFn × Rest) → IsBytes r.bytes → items_at (linked_behind version count) n front r ≡ Ok x → TakesMore version count n front r x
unfolding items_at linked_behind
take_more version count zero front r x fits e =
    subst (TakesMore version count 0 front r) (ok_is (front, r) x e)
    (record { more = []; all = sym (append-nil front); takes = record { parts = refl; fits = fits }; taken = record { many = refl; own = tt; short = tt; linked = tt } })
take_more version count (suc n) front r x fits e =
    let a = bind_ok (linked_behind version count front r) (λ next. items_at (linked_behind version count) n next.0 next.1) x e in
    let f = bind_ok (function_at version (Some count) r) (λ f. Ok (front ++ f.0 ∷ [], f.1)) a.0 a.1 in
    let next : (front ++ f.0.0 ∷ [], f.0.1) ≡ a.0 = ok_is (front ++ f.0.0 ∷ [], f.0.1) a.0 f.2 in
    let rest : items_at (linked_behind version count) n (front ++ f.0.0 ∷ []) f.0.1 ≡ Ok x = ap (λ (p : List LinkedFn × Rest). items_at (linked_behind version count) n p.0 p.1) next ∙ a.2 in
    let first = function_takes version (Some count) r f.0 fits f.1 in
    let others = take_more version count n (front ++ f.0.0 ∷ []) f.0.1 x first.0.fits rest in
    record {
      more = f.0.0 ∷ others.more;
      all = others.all ∙ append_assoc front (f.0.0 ∷ []) others.more;
      takes = Takes-then r (function_spelling version f.0.0) f.0.1 (flat_map (function_spelling version) others.more) x.1 first.0 others.takes;
      taken = record { many = ap suc others.taken.many; own = (first.1.own, others.taken.own); short = (first.1.short, others.taken.short); linked = (first.1.made, others.taken.linked) };
    }

pub functions_take : (version : Version) (count n : ℕ) (r : Rest) (x : List LinkedFn × Rest) → IsBytes r.bytes → items_at (linked_behind version count) n [] r ≡ Ok x
    → Takes r (flat_map (function_spelling version) x.0) x.1 × AreTaken version count n x.0
functions_take version count n r x fits e =
    let all = take_more version count n [] r x fits e in
    subst (λ (fs : List LinkedFn). Takes r (flat_map (function_spelling version) fs) x.1 × AreTaken version count n fs) (sym all.all) (all.takes, all.taken)

-- ---- the head

pub record IsHead (entry count : ℕ) : Type 0 where
  pub below : entry < count
  pub fits : count < 2 ^ 32

counts_take : (r : Rest) (x : ℕ × ℕ × Rest) → IsBytes r.bytes → counts_at r ≡ Ok x → Takes r (to_be_bytes w32 x.0 ++ to_be_bytes w32 x.1) x.2 × IsHead x.0 x.1
unfolding counts_at
counts_take r x fits e =
    let c = bind_ok (number_at w32 r) (λ entry. number_at w32 entry.1 >>= λ count. cond (ltb entry.0 count.0) (Ok (entry.0, count.0, count.1)) (refused r.at what.Entry)) x e in
    let d = bind_ok (number_at w32 c.0.1) (λ count. cond (ltb c.0.0 count.0) (Ok (c.0.0, count.0, count.1)) (refused r.at what.Entry)) x c.2 in
    let made : ℕ × ℕ × Rest = (c.0.0, d.0.0, d.0.1) in
    let g = guard_held (ltb c.0.0 d.0.0) _ made x d.2 in
    let t3 = number_takes w32 (2 ^ 32) wide32 r c.0.0 c.0.1 fits c.1 in
    let t4 = number_takes w32 (2 ^ 32) wide32 c.0.1 d.0.0 d.0.1 t3.0.fits d.1 in
    let both = Takes-then r (to_be_bytes w32 c.0.0) c.0.1 (to_be_bytes w32 d.0.0) d.0.1 t3.0 t4.0 in
    subst (λ (y : ℕ × ℕ × Rest). Takes r (to_be_bytes w32 y.0 ++ to_be_bytes w32 y.1) y.2 × IsHead y.0 y.1) g.1 (both, record { below = ltb-true _ _ g.0; fits = t4.1 })

pub head_takes : (r : Rest) (x : Version × ℕ × ℕ × Rest) → IsBytes r.bytes → head_at r ≡ Ok x → Takes r (opening image_magic x.0 ++ to_be_bytes w32 x.1 ++ to_be_bytes w32 x.2) x.3 × IsHead x.1 x.2
unfolding head_at
head_takes r x fits e =
    let a = bind_ok (opening_at Two image_magic r) (λ body. counts_at body.1 >>= λ counts. Ok (body.0, counts.0, counts.1, counts.2)) x e in
    let b = bind_ok (counts_at a.0.1) (λ counts. Ok (a.0.0, counts.0, counts.1, counts.2)) x a.2 in
    let t1 = opening_takes Two image_magic r a.0 fits a.1 in
    let t2 = counts_take a.0.1 b.0 t1.0.fits b.1 in
    let both = Takes-then r (opening image_magic a.0.0) a.0.1 (to_be_bytes w32 b.0.0 ++ to_be_bytes w32 b.0.1) b.0.2 t1.0 t2.0 in
    subst (λ (y : Version × ℕ × ℕ × Rest). Takes r (opening image_magic y.0 ++ to_be_bytes w32 y.1 ++ to_be_bytes w32 y.2) y.3 × IsHead y.1 y.2) (ok_is (a.0.0, b.0.0, b.0.1, b.0.2) x b.2) (both, t2.1)

-- ---- the image

pub image_takes : (bytes : List ℕ) (i : Linked) → IsBytes bytes → image_at bytes ≡ Ok i → SpellsImage bytes i
unfolding image_at
image_takes bytes i fits e =
    let start : Rest = record { at = 0; bytes = bytes } in
    let a = bind_ok (head_at start) (λ head. items_at (linked_behind head.0 head.2) head.2 [] head.3 >>= λ fs. end_at fs.1 >>= λ nothing. Ok (record { entry = head.1; functions = fs.0 })) i e in
    let version = a.0.0 in
    let b = bind_ok (items_at (linked_behind version a.0.2) a.0.2 [] a.0.3) (λ fs. end_at fs.1 >>= λ nothing. Ok (record { entry = a.0.1; functions = fs.0 })) i a.2 in
    let made : Linked = record { entry = a.0.1; functions = b.0.0 } in
    let g = bind_ok (end_at b.0.1) (λ nothing. Ok made) i b.2 in
    let head = head_takes start a.0 fits a.1 in
    let fs = functions_take version a.0.2 a.0.2 a.0.3 b.0 head.0.fits b.1 in
    let front = opening image_magic version ++ to_be_bytes w32 a.0.1 ++ to_be_bytes w32 a.0.2 in
    let body = flat_map (function_spelling version) b.0.0 in
    let nothing : b.0.1.bytes ≡ [] = end_is b.0.1 g.0 g.1 in
    let all : bytes ≡ (front ++ body) ++ b.0.1.bytes = (Takes-then start front a.0.3 body b.0.1 head.0 fs.0).parts in
    let spelled : bytes ≡ image_spelling_in version made =
    all ∙ ap (λ (t : List ℕ). (front ++ body) ++ t) nothing ∙ append-nil (front ++ body) ∙ ap (λ (k : ℕ). (opening image_magic version ++ to_be_bytes w32 a.0.1 ++ to_be_bytes w32 k) ++ body) (sym fs.1.many) in
    let many = fs.1.many in
    let linked : IsLinked made = record {
      entry = omega (arith, head.1.below, many);
      count = omega (arith, head.1.fits, many);
      calls = subst (λ (k : ℕ). AllByRecursion (λ f. IsLinkedCode k f.code) b.0.0) (sym many) fs.1.linked;
    } in
    subst (SpellsImage bytes) (ok_is made i g.2) (record { version = version; image = record { linked = linked; each = fs.1.own }; fits = fs.1.short; spelled = spelled })

-- ---- the way back

pub function_again : (version : Version) (count : Option ℕ) (f : LinkedFn) (at : ℕ) (behind : List ℕ) → length f.code ≤ most_code version → IsMadeOf (IsAllowed count) f.code
    → (to : ℕ) × (function_at version count (record { at = at; bytes = function_spelling version f ++ behind }) ≡ Ok (f, record { at = to; bytes = behind }))
unfolding function_at
function_again version count f at behind short made =
    let w = length_width version in
    let len = to_be_bytes w (length f.code) in
    let regrouped : function_spelling version f ++ behind ≡ f.params ∷ f.result ∷ f.slots ∷ (len ++ (f.code ++ behind)) = ap (λ (x : List ℕ). f.params ∷ f.result ∷ f.slots ∷ x) (append_assoc len f.code behind) in (
      at + 1 + 1 + 1 + byte_len w + length f.code,
      ap (λ (x : List ℕ). function_at version count (record { at = at; bytes = x })) regrouped
          ∙ rw (length_again version (length f.code) (at + 1 + 1 + 1) (f.code ++ behind) short, block_again f.code (at + 1 + 1 + 1 + byte_len w) behind, code_fault-made count (at + 1 + 1 + 1 + byte_len w) f.code made) refl,
    )

functions_again : (version : Version) (count : ℕ) (front fs : List LinkedFn) (at : ℕ) (behind : List ℕ) → FitsVersion version fs → AllByRecursion (λ f. IsLinkedCode count f.code) fs
    → (to : ℕ) × (items_at (linked_behind version count) (length fs) front (record { at = at; bytes = flat_map (function_spelling version) fs ++ behind }) ≡ Ok (front ++ fs, record { at = to; bytes = behind }))
unfolding items_at linked_behind
functions_again version count front [] at behind short linked = (at, ap (λ (fs : List LinkedFn). Ok (fs, record { at = at; bytes = behind })) (sym (append-nil front)))
functions_again version count front (f ∷ fs) at behind short linked =
    let more = flat_map (function_spelling version) fs ++ behind in
    let first = function_again version (Some count) f at more short.0 linked.0 in
    let others = functions_again version count (front ++ f ∷ []) fs first.0 behind short.1 linked.1 in
    let regrouped : flat_map (function_spelling version) (f ∷ fs) ++ behind ≡ function_spelling version f ++ more = append_assoc (function_spelling version f) (flat_map (function_spelling version) fs) behind in (
      others.0,
      ap (λ (x : List ℕ). items_at (linked_behind version count) (suc (length fs)) front (record { at = at; bytes = x })) regrouped
          ∙ rw first.1 others.1 ∙ ap (λ (x : List LinkedFn). Ok (x, record { at = others.0; bytes = behind })) (append_assoc front (f ∷ []) fs),
    )

counts_again : (entry count at : ℕ) (behind : List ℕ) → entry < count → count < 2 ^ 32
    → counts_at (record { at = at; bytes = to_be_bytes w32 entry ++ (to_be_bytes w32 count ++ behind) }) ≡ Ok (entry, count, record { at = at + 4 + 4; bytes = behind })
unfolding counts_at
counts_again entry count at behind below fits =
    rw (number_again w32 (2 ^ 32) wide32 entry at (to_be_bytes w32 count ++ behind) (omega arith), number_again w32 (2 ^ 32) wide32 count (at + 4) behind fits, lt-ltb entry count below) refl

head_again : (version : Version) (entry count : ℕ) (behind : List ℕ) → entry < count → count < 2 ^ 32
    → head_at (record { at = 0; bytes = opening image_magic version ++ (to_be_bytes w32 entry ++ (to_be_bytes w32 count ++ behind)) }) ≡ Ok (version, entry, count, record { at = 14; bytes = behind })
unfolding head_at
head_again version entry count behind below fits =
    let body = to_be_bytes w32 entry ++ (to_be_bytes w32 count ++ behind) in
    rw (opening_again Two version image_magic body tt, counts_again entry count 6 behind below fits) refl

pub image_again : (bytes : List ℕ) (i : Linked) → SpellsImage bytes i → image_at bytes ≡ Ok i
unfolding image_at
image_again bytes i h =
    let version = h.version in
    let n = length i.functions in
    let body = flat_map (function_spelling version) i.functions in
    let regrouped : image_spelling_in version i ≡ opening image_magic version ++ (to_be_bytes w32 i.entry ++ (to_be_bytes w32 n ++ body)) = regroup (opening image_magic version) (to_be_bytes w32 i.entry) (to_be_bytes w32 n) body in
    let head = head_again version i.entry n body h.image.linked.entry h.image.linked.count in
    let fs = functions_again version n [] i.functions 14 [] h.fits h.image.linked.calls in
    let read : items_at (linked_behind version n) n [] (record { at = 14; bytes = body }) ≡ Ok (i.functions, record { at = fs.0; bytes = [] }) = ap (λ (x : List ℕ). items_at (linked_behind version n) n [] (record { at = 14; bytes = x })) (sym (append-nil body)) ∙ fs.1 in
    ap image_at (h.spelled ∙ regrouped) ∙ rw (head, read) refl
  where
    regroup : (a b c d : List ℕ) → (a ++ b ++ c) ++ d ≡ a ++ (b ++ (c ++ d))
    regroup a b c d = append_assoc (a ++ b) c d ∙ append_assoc a b (c ++ d)

pub is_found : (bytes : List ℕ) (r : Result Linked (OrMemory BadFile)) → IsBytes bytes → Answers (λ x. x) r (image_at bytes) → IfOk r (SpellsImage bytes)
is_found bytes (Ok i) fits given = image_takes bytes i fits given
is_found bytes (Err e) fits given = tt

-- ---- the version of a spelling

pub version-spelled : (version : Version) (i : Linked) → from_be_bytes w16 (slice_index (image_spelling_in version i) 4 ∷ slice_index (image_spelling_in version i) 5 ∷ []) ≡ number_of version
version-spelled One i = refl
version-spelled Two i = refl

pub length-image_spelling : (version : Version) (i : Linked) → 6 ≤ length (image_spelling_in version i)
length-image_spelling One i = omega arith
length-image_spelling Two i = omega arith

pub version-known : (version : Version) → (number_of version ≡ 1) ⊎ (number_of version ≡ 2)
version-known One = inl refl
version-known Two = inr refl

pub version_field-spelled : (version : Version) (i : Linked) → version_field (image_spelling_in version i) ≡ number_of version
version_field-spelled One i = refl
version_field-spelled Two i = refl

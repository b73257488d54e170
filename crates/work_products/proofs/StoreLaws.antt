-- What is kept is found, and stores that are faithful stay so.
use Rattle.std.proofs.Common.{◌<◌, ◌≡◌, ◌⊎◌, get_or, ◌≢◌, inl, inr, ℕ, ◌+◌, ◌≤◌, Bool, true, false, cond, not, List, [], ◌∷◌, ◌++◌, length, take, drop, Option, Some, None, Result, Ok, Err, refl, sym, ap, subst, ◌∙◌, arith}
use Rattle.std.specs.Prelude.{nat_lt}
use Rattle.std.specs.Cmp.Lexicographic.{nat_list_cmp_total, slice_cmp}
use Rattle.std.specs.FinMap.{empty, get, insert, remove, get-empty, get-insert, get-remove}
use Rattle.std.specs.Ordering.{nat_cmp, eq_by_cmp}
use Rattle.std.specs.Str.{bytes_eq}
use Rattle.std.proofs.lemmas.Bool.{cases_Bool, ltb-false, le-ltb, lt-ltb}
use Rattle.std.proofs.lemmas.List.{take-append-drop, take_all}
use Rattle.std.proofs.lemmas.Map.Text.{is_eq-slice_cmp}
use Rattle.std.proofs.lemmas.Slice.Eq.{bytes_eq-Decides}
use Rattle.object_format.specs.declared.fault.BadFile.{BadFile}
use Rattle.outside.specs.Held.{Held}
use Rattle.unit_input.specs.Inputs.{PlainInput}
use Rattle.unit_input.specs.Rules.{IsInput}
use Rattle.unit_input.specs.Spelling.{spell}
use Rattle.unit_input.proofs.OneInput.{equal_texts}
use Rattle.work_products.specs.Faithful.{HasObject, IsFaithful, Made, kept_if, kept_one, kept_all, after_build, AreMade}
use Rattle.work_products.specs.Pruning.{is_stale, pruned}
use Rattle.work_products.specs.Records.{Record, SpellsRecord, max_record, newest_record, kept_record, record_name, record_written}
use Rattle.work_products.specs.RecordReading.{record_at}
use Rattle.work_products.specs.Store.{newest, object_if_read, whole, whole_or_damaged, found_in}
use Rattle.work_products.specs.declared.record.TooLong.{TooLong}
use Rattle.work_products.specs.declared.store.Found.TheVariants as found
use Rattle.work_products.proofs.Lengths.{length-kept_record}
use Rattle.work_products.proofs.LongerFiles.{one_record}
use Rattle.work_products.proofs.PruneSteps.{get-pruned}
use Rattle.work_products.proofs.RecordLaws.{record_again, record_takes}

-- ---- what is written

record IsWritten (text object bytes : List ℕ) : Type 0 where
  pub is : kept_record text object ≡ bytes
  pub short : length bytes ≤ max_record

written_guard : (long : Bool) (spelling : List ℕ) (bytes : List ℕ) (fault : TooLong) → cond long (Err fault) (Ok spelling) ≡ Ok bytes → (long ≡ false) × (spelling ≡ bytes)
written_guard true r bytes fault e = absurd cc
written_guard false r bytes fault e = (refl, cc)

written_is : (text object bytes : List ℕ) → record_written text object ≡ Ok bytes → IsWritten text object bytes
written_is text object bytes e =
    let g = written_guard (nat_lt max_record (length (kept_record text object))) (kept_record text object) bytes _ e in
    let short : length (kept_record text object) ≤ max_record = ltb-false _ _ g.0 in
    record { is = g.1; short = omega (arith, ap length g.1, short) }

-- what is written spells the record
written-spells : (text object bytes : List ℕ) → record_written text object ≡ Ok bytes → SpellsRecord bytes (newest_record text object)
written-spells text object bytes e =
    let w = written_is text object bytes e in
    let len : length bytes ≡ 46 + length text + length object = ap length (sym w.is) ∙ length-kept_record text object in
    let short = w.short in
    record { text = omega (arith, len, short); object = omega (arith, len, short); spelled = sym w.is }

-- ---- which bytes have an object for a text

pub whole-long : (text bytes : List ℕ) → max_record < length bytes → whole text bytes ≡ None
unfolding whole
whole-long text bytes h = ap (λ (b : Bool). cond b None (object_if_read text (record_at bytes))) (lt-ltb max_record (length bytes) h)

shorter : (text bytes : List ℕ) → length bytes ≤ max_record → whole text bytes ≡ object_if_read text (record_at bytes)
unfolding whole
shorter text bytes h = ap (λ (b : Bool). cond b None (object_if_read text (record_at bytes))) (le-ltb max_record (length bytes) h)

either : (long : Bool) (o : Option (List ℕ)) → o ≡ None → cond long None o ≡ None
either true o h = refl
either false o h = h

unread : (text bytes : List ℕ) → object_if_read text (record_at bytes) ≡ None → whole text bytes ≡ None
unfolding whole
unread text bytes h = either (nat_lt max_record (length bytes)) (object_if_read text (record_at bytes)) h

pub whole-record : (text bytes : List ℕ) (r : Record) → SpellsRecord bytes r → length bytes ≤ max_record → r.text ≡ text → whole text bytes ≡ newest r.version r.object
whole-record text bytes r h short same =
    shorter text bytes short ∙ ap (object_if_read text) (record_again bytes r h) ∙ ap (λ (b : Bool). cond b (newest r.version r.object) None) ((bytes_eq-Decides r.text text).1 same)

pub whole-other : (text bytes : List ℕ) (r : Record) → SpellsRecord bytes r → r.text ≢ text → whole text bytes ≡ None
whole-other text bytes r h differ =
    unread text bytes (ap (object_if_read text) (record_again bytes r h) ∙ ap (λ (b : Bool). cond b (newest r.version r.object) None) (apart (bytes_eq r.text text) refl))
  where
    apart : (b : Bool) → bytes_eq r.text text ≡ b → bytes_eq r.text text ≡ false
    apart true e = absurd (differ ((bytes_eq-Decides r.text text).0 e))
    apart false e = e

pub whole-none : (text bytes : List ℕ) → ((place : ℕ) → get_or bytes place 0 < 256) → ((r : Record) → SpellsRecord bytes r → ⊥) → whole text bytes ≡ None
whole-none text bytes fits none = unread text bytes (by_reading (record_at bytes) refl)
  where
    by_reading : (read : Result Record BadFile) → record_at bytes ≡ read → object_if_read text (record_at bytes) ≡ None
    by_reading (Ok r) e = absurd (none r (record_takes bytes r fits e))
    by_reading (Err f) e = ap (object_if_read text) e

-- ---- what is kept is found

same_bytes : (text : List ℕ) → bytes_eq text text ≡ true
same_bytes text = (bytes_eq-Decides text text).1 refl

whole-written : (text object bytes : List ℕ) → record_written text object ≡ Ok bytes → whole text bytes ≡ Some object
unfolding whole
whole-written text object bytes e =
    let short : nat_lt max_record (length bytes) ≡ false = le-ltb _ _ (written_is text object bytes e).short in
    let read : record_at bytes ≡ Ok (newest_record text object) = record_again bytes (newest_record text object) (written-spells text object bytes e) in
    rw (short, read, same_bytes text) refl

get-inserted : (held : Held) (name bytes : List ℕ) → get (insert held name bytes) name ≡ Some bytes
get-inserted held name bytes =
    get-insert nat_list_cmp_total held name bytes name
    ∙ ap (λ (b : Bool). cond b (Some bytes) (get held name)) (is_eq-slice_cmp name name ∙ same_bytes name)

pub kept-found : (held : Held) (text object bytes : List ℕ) → record_written text object ≡ Ok bytes → HasObject (insert held (record_name text) bytes) text object
kept-found held text object bytes e =
    ap (found_in text) (get-inserted held (record_name text) bytes) ∙ ap whole_or_damaged (whole-written text object bytes e)

turned : (b : Bool) (o : Option (List ℕ)) → cond (not b) o None ≡ cond b None o
turned true o = refl
turned false o = refl

pub pruned-get : (names : List (List ℕ)) (held : Held) (name : List ℕ) → get (pruned names held) name ≡ cond (is_stale names name) None (get held name)
pruned-get names held name = get-pruned names held name ∙ turned (is_stale names name) (get held name)

-- ---- faithful stores

if_there : (b : Bool) (o : Option (List ℕ)) (bytes : List ℕ) → cond b None o ≡ Some bytes → o ≡ Some bytes
if_there true o bytes e = absurd cc
if_there false o bytes e = e

module _ {E : Type 0} (made : PlainInput → Result (List ℕ) E) where
  -- a store that has less is as faithful
  fewer : (more less : Held) → ((name bytes : List ℕ) → get less name ≡ Some bytes → get more name ≡ Some bytes) → IsFaithful made more → IsFaithful made less
  fewer more less from h = record { each = λ name bytes object r x there. h.each name bytes object r x (from name bytes there) }

  pub faithful-empty : IsFaithful made empty
  faithful-empty = record { each = λ name bytes object r x there read input text newest. absurd (let none : None ≡ Some bytes = sym (get-empty (slice_cmp nat_cmp) name) ∙ there in cc) }

  pub faithful-removed : (held : Held) (name : List ℕ) → IsFaithful made held → IsFaithful made (remove held name)
  faithful-removed held name = fewer held (remove held name) (λ q bytes there. if_there (eq_by_cmp (slice_cmp nat_cmp) q name) (get held q) bytes (sym (get-remove nat_list_cmp_total held name q) ∙ there))

  pub faithful-pruned : (held : Held) (names : List (List ℕ)) → IsFaithful made held → IsFaithful made (pruned names held)
  faithful-pruned held names = fewer held (pruned names held) (λ q bytes there. if_there (is_stale names q) (get held q) bytes (sym (pruned-get names held q) ∙ there))

  -- a front of the record of what was made of an input: where it is a record of an input, it has what is made of that
  front_made : (x y : PlainInput) (object bytes front rest object' : List ℕ) (r : Record) → IsInput x → IsInput y → made x ≡ Ok object → record_written (spell x) object ≡ Ok bytes → front ++ rest ≡ bytes
      → record_at front ≡ Ok r → r.text ≡ spell y → newest r.version r.object ≡ Some object' → made y ≡ Ok object'
  front_made x y object bytes front rest object' r input_x input_y is written parts read text has =
      let all : record_at (front ++ rest) ≡ Ok (newest_record (spell x) object) = ap record_at parts ∙ record_again bytes (newest_record (spell x) object) (written-spells (spell x) object bytes written) in
      let one : r ≡ newest_record (spell x) object = (one_record front rest (newest_record (spell x) object) r all read).0 in
      let texts : spell x ≡ spell y = sym (ap (λ (q : Record). q.text) one) ∙ text in
      let inputs : x ≡ y = equal_texts x y input_x input_y texts in
      let objects : Some object ≡ Some object' = sym (ap (λ (q : Record). newest q.version q.object) one) ∙ has in
      ap made (sym inputs) ∙ is ∙ (let o : object ≡ object' = cc in ap (λ (b : List ℕ). Ok b) o)

  inserted : (b : Bool) (front : List ℕ) (o : Option (List ℕ)) (bytes : List ℕ) → cond b (Some front) o ≡ Some bytes → (front ≡ bytes) ⊎ (o ≡ Some bytes)
  inserted true front o bytes e = inl (cc)
  inserted false front o bytes e = inr e

  pub faithful-saved : (held : Held) (x : PlainInput) (object bytes name : List ℕ) (n : ℕ) → IsFaithful made held → IsInput x → made x ≡ Ok object → record_written (spell x) object ≡ Ok bytes
      → IsFaithful made (insert held name (take n bytes))
  faithful-saved held x object bytes name n h input is written = record {
    each = λ q content object' r y there read input_y text has. by_cases q content object' r y read input_y text has
        (inserted (eq_by_cmp (slice_cmp nat_cmp) q name) (take n bytes) (get held q) content (sym (get-insert nat_list_cmp_total held name (take n bytes) q) ∙ there));
  }
    where
      by_cases : (q content object' : List ℕ) (r : Record) (y : PlainInput) → record_at content ≡ Ok r → IsInput y → r.text ≡ spell y → newest r.version r.object ≡ Some object'
          → (take n bytes ≡ content) ⊎ (get held q ≡ Some content) → made y ≡ Ok object'
      by_cases q content object' r y read input_y text has (inl front) =
          front_made x y object bytes (take n bytes) (drop n bytes) object' r input input_y is written (take-append-drop n bytes) (ap record_at front ∙ read) text has
      by_cases q content object' r y read input_y text has (inr before) = h.each q content object' r y before read input_y text has

  -- ---- after a build

  kept_by : (held : Held) (m : Made) (x : PlainInput) (written : Result (List ℕ) TooLong) → record_written m.text m.object ≡ written → IsFaithful made held → IsInput x → m.text ≡ spell x → made x ≡ Ok m.object
      → IsFaithful made (kept_if m.text written held)
  kept_by held m x (Ok bytes) e h input text is =
      let written : record_written (spell x) m.object ≡ Ok bytes = ap (λ (t : List ℕ). record_written t m.object) (sym text) ∙ e in
      let all : take (length bytes) bytes ≡ bytes = take_all (length bytes) bytes (omega arith) in
      subst (λ (b : List ℕ). IsFaithful made (insert held (record_name m.text) b)) all (faithful-saved held x m.object bytes (record_name m.text) (length bytes) h input is written)
  kept_by held m x (Err f) e h input text is = h

  faithful-kept : (these : List Made) (held : Held) → IsFaithful made held → AreMade made these → IsFaithful made (kept_all these held)
  faithful-kept [] held h are = h
  faithful-kept (m ∷ ms) held h are =
      faithful-kept ms (kept_one held m) (kept_by held m are.0.0 (record_written m.text m.object) refl h are.0.1 are.0.2 are.0.3) are.1

  pub faithful-built : (held : Held) (these : List Made) (prune : Bool) (names : List (List ℕ)) → IsFaithful made held → AreMade made these → IsFaithful made (after_build these prune names held)
  faithful-built held these true names h are = faithful-pruned (kept_all these held) names (faithful-kept these held h are)
  faithful-built held these false names h are = faithful-kept these held h are

  -- ---- what is found

  read_found : (text object : List ℕ) (r : Result Record BadFile) → object_if_read text r ≡ Some object → (q : Record) × (r ≡ Ok q) × (q.text ≡ text) × (newest q.version q.object ≡ Some object)
  read_found text object (Err e) h = absurd cc
  read_found text object (Ok q) h =
      elim (cases_Bool (bytes_eq q.text text)) [
        | inl same ↦ (q, refl, (bytes_eq-Decides q.text text).0 same, ap (λ (b : Bool). cond b (newest q.version q.object) None) (sym same) ∙ h)
        | inr other ↦ absurd (let none : None ≡ Some object = ap (λ (b : Bool). cond b (newest q.version q.object) None) (sym other) ∙ h in cc)
      ]

  long_guard : (long : Bool) (o : Option (List ℕ)) (object : List ℕ) → cond long None o ≡ Some object → o ≡ Some object
  long_guard true o object e = absurd cc
  long_guard false o object e = e

  whole_read : (text bytes object : List ℕ) → whole text bytes ≡ Some object → object_if_read text (record_at bytes) ≡ Some object
  unfolding whole
  whole_read text bytes object h = long_guard (nat_lt max_record (length bytes)) (object_if_read text (record_at bytes)) object h

  whole_is : (w : Option (List ℕ)) (object : List ℕ) → whole_or_damaged w ≡ found.Whole object → w ≡ Some object
  whole_is None object h = absurd cc
  whole_is (Some o) object h = let e : o ≡ object = cc in ap Some e

  held_whole : (text object : List ℕ) (o : Option (List ℕ)) → found_in text o ≡ found.Whole object → (bytes : List ℕ) × (o ≡ Some bytes) × (whole text bytes ≡ Some object)
  held_whole text object None h = absurd cc
  held_whole text object (Some bytes) h = (bytes, refl, whole_is (whole text bytes) object h)

  pub faithful-found : (held : Held) (x : PlainInput) (object : List ℕ) → IsFaithful made held → IsInput x → HasObject held (spell x) object → made x ≡ Ok object
  faithful-found held x object h input has =
      let there = held_whole (spell x) object (get held (record_name (spell x))) has in
      let read = read_found (spell x) object (record_at there.0) (whole_read (spell x) there.0 object there.2) in
      h.each (record_name (spell x)) there.0 object read.0 x there.1 read.1 input read.2 read.3

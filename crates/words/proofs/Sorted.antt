-- The relation and the function say the same of a line.
use Rattle.std.proofs.Common.{◌≡◌, ◌∙◌, refl, sym, ap, ap₂, subst, arith, ℕ, suc, ◌+◌, Bool, true, false, true≢false, cond, not, ◌||◌, List, [], ◌∷◌, ◌++◌, length, take, drop, Option, Some, None, option_map, is_some, option_and_then, ◌==◌}
use Rattle.std.specs.List.{after_first, before_first, position_or_len}
use Rattle.std.specs.Str.{bytes_eq}
use Rattle.words.specs.Lines.{Choice, Given, Line, Text, behind_dash, choice_of, has_dash, has_equals, in_order, is_end, is_equals, is_named, is_table, line_of, long_part, look, name_and_value, no_words, option_part, part, read_on, with_files}
use Rattle.words.specs.Sorting.{IsOption, Means, Sorts, end, file, flag, gives, has_plain_names, joined, apart, rest}
use Rattle.words.proofs.Rows.{both, eq_is, nameless, none_of}
use Rattle.words.proofs.Turns.{plain_is_no_end}
use Rattle.words.proofs.Walks.{named}
use Rattle.std.proofs.lemmas.List.Sums.{passes_at_first, split_at_first}
use Rattle.std.proofs.Common.{◌<◌, eqb-true, unwrap_or}
use Rattle.words.proofs.Whole.{chosen}

-- ---- `name=value`

at_equals : (name value : Text) → has_equals name ≡ false → position_or_len is_equals (name ++ 61 ∷ value) ≡ length name
at_equals [] value none = refl
at_equals (x ∷ xs) value none = go (is_equals x) none (at_equals xs value)
  where
    go : (b : Bool) → (b || has_equals xs) ≡ false → (has_equals xs ≡ false → position_or_len is_equals (xs ++ 61 ∷ value) ≡ length xs)
        → cond (not b) (1 + position_or_len is_equals (xs ++ 61 ∷ value)) 0 ≡ suc (length xs)
    go true e more = absurd (true≢false e)
    go false e more = omega (arith, more e)

no_equals : (name : Text) → has_equals name ≡ false → position_or_len is_equals name ≡ length name
no_equals [] none = refl
no_equals (x ∷ xs) none = go (is_equals x) none (no_equals xs)
  where
    go : (b : Bool) → (b || has_equals xs) ≡ false → (has_equals xs ≡ false → position_or_len is_equals xs ≡ length xs)
        → cond (not b) (1 + position_or_len is_equals xs) 0 ≡ suc (length xs)
    go true e more = absurd (true≢false e)
    go false e more = omega (arith, more e)

has_it : (name value : Text) → has_equals (name ++ 61 ∷ value) ≡ true
has_it [] value = refl
has_it (x ∷ xs) value = go (is_equals x) (has_it xs value)
  where
    go : (b : Bool) → has_equals (xs ++ 61 ∷ value) ≡ true → (b || has_equals (xs ++ 61 ∷ value)) ≡ true
    go true e = refl
    go false e = e

front : (name back : Text) → take (length name) (name ++ back) ≡ name
front [] back = refl
front (x ∷ xs) back = ap (λ ys. x ∷ ys) (front xs back)

behind : (name : Text) (x : ℕ) (back : Text) → drop (suc (length name)) (name ++ x ∷ back) ≡ back
behind [] x back = refl
behind (y ∷ ys) x back = behind ys x back

all : (name : Text) → take (length name) name ≡ name
all [] = refl
all (x ∷ xs) = ap (λ ys. x ∷ ys) (all xs)

pub parts_joined : (name value : Text) → has_equals name ≡ false → name_and_value (name ++ 61 ∷ value) ≡ (name, Some value)
parts_joined name value none =
    let place : position_or_len is_equals (name ++ 61 ∷ value) + 1 ≡ suc (length name) = omega (arith, at_equals name value none) in
    ap₂ (λ (a : Text) (b : Option Text). (a, b)) (ap (λ n. take n (name ++ 61 ∷ value)) (at_equals name value none) ∙ front name (61 ∷ value))
    (rw (has_it name value) (ap Some (ap (λ n. drop n (name ++ 61 ∷ value)) place ∙ behind name 61 value)))

pub parts_alone : (name : Text) → has_equals name ≡ false → name_and_value name ≡ (name, None)
parts_alone name none =
    ap₂ (λ (a : Text) (b : Option Text). (a, b)) (ap (λ n. take n name) (no_equals name none) ∙ all name) (rw none refl)

-- ---- a spelled line reads back

module _ (table : List Choice) (ok : is_table table ≡ true) where
  not_true : (b : Bool) → not b ≡ true → b ≡ false
  not_true true e = absurd (true≢false (sym e))
  not_true false e = refl

  plain_name : (choices : List Choice) → has_plain_names choices ≡ true → (name : Text) (choice : Choice) → choice_of choices name ≡ Some choice → has_equals choice.name ≡ false
  plain_name [] plain name choice is = absurd (true≢false (sym (ap is_some is)))
  plain_name (first ∷ choices) plain name choice is =
      let parts = both (not (has_equals first.name)) _ plain in
      go (is_named name first) is (plain_name choices parts.1 name choice) (not_true _ parts.0)
    where
      go : (b : Bool) → cond b (Some first) (choice_of choices name) ≡ Some choice → (choice_of choices name ≡ Some choice → has_equals choice.name ≡ false)
          → has_equals first.name ≡ false → has_equals choice.name ≡ false
      go true e more here = ap (λ (o : Option Choice). has_equals (chosen first o).name) (sym e) ∙ here
      go false e more here = more e

  more_text : (name value : Text) → bytes_eq (name ++ 61 ∷ value) [] ≡ false
  more_text [] value = refl
  more_text (x ∷ xs) value = refl

  some_text : (name : Text) (choice : Choice) → choice_of table name ≡ Some choice → bytes_eq name [] ≡ false
  some_text [] choice is = absurd (true≢false (sym (ap is_some (sym (nameless table ok) ∙ is))))
  some_text (x ∷ xs) choice is = refl

  module _ (plain : has_plain_names table ≡ true) (line : Line) (words : List Text) where
    abbrev on : Option (Line × Option Text) → Option Line
    on o = option_and_then (λ (p : Line × Option Text). read_on table p.0 p.1 words) o

    joined_reads : (name value : Text) → IsOption table name true line
        → read_on table line None ((45 ∷ 45 ∷ (name ++ 61 ∷ value)) ∷ words) ≡ read_on table (gives name (Some value) line) None words
    joined_reads name value is =
        rw (more_text name value) (ap (λ q. on (long_part table (Some q) line)) (parts_joined name value (plain_name table plain name _ is.0)) ∙ rw (is.0, is.1) refl)

    apart_reads : (name value : Text) → IsOption table name true line → has_dash value ≡ false
        → read_on table line None ((45 ∷ 45 ∷ name) ∷ value ∷ words) ≡ read_on table (gives name (Some value) line) None words
    apart_reads name value is dash =
        rw (some_text name _ is.0)
        (ap (λ q. option_and_then (λ (p : Line × Option Text). read_on table p.0 p.1 (value ∷ words)) (long_part table (Some q) line)) (parts_alone name (plain_name table plain name _ is.0))
        ∙ rw (is.0, dash, is.1) refl)

    flag_reads : (name : Text) → IsOption table name false line
        → read_on table line None ((45 ∷ 45 ∷ name) ∷ words) ≡ read_on table (gives name None line) None words
    flag_reads name is =
        rw (some_text name _ is.0) (ap (λ q. on (long_part table (Some q) line)) (parts_alone name (plain_name table plain name _ is.0)) ∙ rw (is.0, is.1) refl)

    file_reads : (word : Text) → has_dash word ≡ false → read_on table line None (word ∷ words) ≡ read_on table (with_files (word ∷ []) line) None words
    file_reads word dash = rw (plain_is_no_end word (none_of _ dash), none_of _ dash) refl

  pub reads_sorted : has_plain_names table ≡ true → {line whole : Line} {words : List Text} → Sorts table line words whole → read_on table line None words ≡ Some whole
  reads_sorted plain (end line) = refl
  reads_sorted plain (rest line files) = refl
  reads_sorted plain (file line word words whole dash more) = file_reads plain line words word dash ∙ reads_sorted plain more
  reads_sorted plain (joined line name value words whole is more) = joined_reads plain line words name value is ∙ reads_sorted plain more
  reads_sorted plain (apart line name value words whole is dash more) = apart_reads plain line words name value is dash ∙ reads_sorted plain more
  reads_sorted plain (flag line name words whole is more) = flag_reads plain line words name is ∙ reads_sorted plain more

  -- ---- what reads is spelled

  no_some : {X : Type 0} {A : Type 0} (x : X) → None ≡ Some x → A
  no_some x e = absurd (true≢false (sym (ap is_some e)))

  equals_inside : (text : Text) → has_equals text ≡ true → position_or_len is_equals text < length text
  equals_inside [] h = absurd (true≢false (sym h))
  equals_inside (x ∷ xs) h = go (is_equals x) h (equals_inside xs)
    where
      go : (b : Bool) → (b || has_equals xs) ≡ true → (has_equals xs ≡ true → position_or_len is_equals xs < length xs)
          → cond (not b) (1 + position_or_len is_equals xs) 0 < suc (length xs)
      go true e more = omega arith
      go false e more = omega (arith, more e)

  taken_apart : (text : Text) → has_equals text ≡ true → text ≡ before_first is_equals text ++ 61 ∷ after_first is_equals text
  taken_apart text h =
      let inside = equals_inside text h in
      split_at_first is_equals text 0 inside
      ∙ ap (λ b. before_first is_equals text ++ b ∷ after_first is_equals text) (eqb-true _ 61 (passes_at_first is_equals text 0 inside))

  whole_name : (text : Text) → has_equals text ≡ false → before_first is_equals text ≡ text
  whole_name text h = ap (λ n. take n text) (no_equals text h) ∙ all text

  abbrev Sound : List Text → Type 0
  Sound words = (line whole : Line) → read_on table line None words ≡ Some whole → Sorts table line words whole

  abbrev SoundValue : List Text → Type 0
  SoundValue words = (line whole : Line) (name : Text) → choice_of table name ≡ Some (record { name = name; takes_value = true }) → read_on table line (Some name) words ≡ Some whole
      → Sorts table line ((45 ∷ 45 ∷ name) ∷ words) whole

  module _ (words : List Text) (more : Sound words) (more_value : SoundValue words) (line whole : Line) where
    abbrev next : Option (Line × Option Text) → Option Line
    next o = option_and_then (λ (p : Line × Option Text). read_on table p.0 p.1 words) o

    value_sound : (name value : Text) → choice_of table name ≡ Some (record { name = name; takes_value = true }) → (d : Bool) → has_dash value ≡ d → (o : Option Given) → look name line.given ≡ o
        → next (cond d None (option_map (λ l. (l, None)) (cond (is_some o) None (Some (gives name (Some value) line))))) ≡ Some whole
        → Sorts table line ((45 ∷ 45 ∷ name) ∷ value ∷ words) whole
    value_sound name value is true dash o got e = no_some whole e
    value_sound name value is false dash (Some g) got e = no_some whole e
    value_sound name value is false dash None got e = apart line name value words whole (is, got) dash (more (gives name (Some value) line) whole e)

    option_sound : (text : Text) (choice : Choice) → choice_of table (before_first is_equals text) ≡ Some (record { name = before_first is_equals text; takes_value = choice.takes_value })
        → (b : Bool) → choice.takes_value ≡ b → (h : Bool) → has_equals text ≡ h → (o : Option Given) → look (before_first is_equals text) line.given ≡ o
        → next (option_part (Some choice) (before_first is_equals text) (cond h (Some (after_first is_equals text)) None) line) ≡ Some whole
        → Sorts table line ((45 ∷ 45 ∷ text) ∷ words) whole
    option_sound text choice is true takes true has (Some g) got e = no_some whole (sym (rw (takes, got) refl) ∙ e)
    option_sound text choice is true takes true has None got e =
        subst (λ (t : Text). Sorts table line ((45 ∷ 45 ∷ t) ∷ words) whole) (sym (taken_apart text has))
        (joined line (before_first is_equals text) (after_first is_equals text) words whole (rw takes at is, got)
        (more (gives (before_first is_equals text) (Some (after_first is_equals text)) line) whole (rw (takes, got) at e)))
    option_sound text choice is false flagged true has o got e = no_some whole (rw flagged at e)
    option_sound text choice is true takes false has o got e =
        subst (λ (t : Text). Sorts table line ((45 ∷ 45 ∷ t) ∷ words) whole) (whole_name text has)
        (more_value line whole (before_first is_equals text) (rw takes at is) (rw takes at e))
    option_sound text choice is false flagged false has (Some g) got e = no_some whole (rw (flagged, got) at e)
    option_sound text choice is false flagged false has None got e =
        subst (λ (t : Text). Sorts table line ((45 ∷ 45 ∷ t) ∷ words) whole) (whole_name text has)
        (flag line (before_first is_equals text) words whole (rw flagged at is, got) (more (gives (before_first is_equals text) None line) whole (rw (flagged, got) at e)))

    named_choice : (name : Text) (choice : Choice) → choice_of table name ≡ Some choice → choice_of table name ≡ Some (record { name = name; takes_value = choice.takes_value })
    named_choice name choice is = is ∙ ap (λ (t : Text). Some (record { name = t; takes_value = choice.takes_value })) (sym (named table name choice is))

    long_sound : (text : Text) (o : Option Choice) → choice_of table (before_first is_equals text) ≡ o
        → next (option_part o (before_first is_equals text) (cond (has_equals text) (Some (after_first is_equals text)) None) line) ≡ Some whole
        → Sorts table line ((45 ∷ 45 ∷ text) ∷ words) whole
    long_sound text None is e = no_some whole e
    long_sound text (Some choice) is e =
        option_sound text choice (named_choice (before_first is_equals text) choice is) choice.takes_value refl (has_equals text) refl (look (before_first is_equals text) line.given) refl e

    dash_sound : (bs : Text) → next (long_part table (option_map name_and_value (behind_dash bs)) line) ≡ Some whole → Sorts table line ((45 ∷ bs) ∷ words) whole
    dash_sound [] e = no_some whole e
    dash_sound (b ∷ bs) e = go (b == 45) refl e
      where
        go : (t : Bool) → (b == 45) ≡ t → next (long_part table (option_map name_and_value (cond t (Some bs) None)) line) ≡ Some whole → Sorts table line ((45 ∷ b ∷ bs) ∷ words) whole
        go true is k = subst (λ (x : ℕ). Sorts table line ((45 ∷ x ∷ bs) ∷ words) whole) (sym (eqb-true b 45 is)) (long_sound bs (choice_of table (before_first is_equals bs)) refl k)
        go false is k = no_some whole k

    file_sound : (word : Text) → behind_dash word ≡ None → next (Some (with_files (word ∷ []) line, None)) ≡ Some whole → Sorts table line (word ∷ words) whole
    file_sound word plain e = file line word words whole (ap is_some plain) (more (with_files (word ∷ []) line) whole e)

    part_sound : (word : Text) → next (part table line None word) ≡ Some whole → Sorts table line (word ∷ words) whole
    part_sound [] e = file_sound [] refl e
    part_sound (b ∷ bs) e = go (b == 45) refl e
      where
        go : (t : Bool) → (b == 45) ≡ t
            → next (cond (is_some (cond t (Some bs) None)) (long_part table (option_map name_and_value (option_and_then behind_dash (cond t (Some bs) None))) line) (Some (with_files ((b ∷ bs) ∷ []) line, None))) ≡ Some whole
            → Sorts table line ((b ∷ bs) ∷ words) whole
        go true is k = subst (λ (x : ℕ). Sorts table line ((x ∷ bs) ∷ words) whole) (sym (eqb-true b 45 is)) (dash_sound bs k)
        go false is k = file_sound (b ∷ bs) (ap (λ t. cond t (Some bs) None) is) k

    word_sound : (word : Text) (t : Bool) → is_end word ≡ t → cond t (Some (with_files words line)) (next (part table line None word)) ≡ Some whole → Sorts table line (word ∷ words) whole
    word_sound word true is e =
        subst (λ (w : Text). Sorts table line (w ∷ words) whole) (sym (eq_is word (45 ∷ 45 ∷ []) is))
        (subst (λ (l : Line). Sorts table line ((45 ∷ 45 ∷ []) ∷ words) l) (ap (λ o. unwrap_or o line) e) (rest line words))
    word_sound word false is e = part_sound word e

  sounds : (words : List Text) → Sound words × SoundValue words
  sounds [] = (
    λ line whole e. subst (λ (l : Line). Sorts table line [] l) (ap (λ o. unwrap_or o line) e) (end line),
    λ line whole name is e. no_some whole e,
  )
  sounds (word ∷ words) = (
    λ line whole e. word_sound words (sounds words).0 (sounds words).1 line whole word (is_end word) refl e,
    λ line whole name is e. value_sound words (sounds words).0 (sounds words).1 line whole name word is (has_dash word) refl (look name line.given) refl e,
  )

  -- the relation holds just of the line that is read
  pub sorts_just : has_plain_names table ≡ true → (words : List Text) (line whole : Line) → (Sorts table line words whole → read_on table line None words ≡ Some whole) × (read_on table line None words ≡ Some whole → Sorts table line words whole)
  sorts_just plain words line whole = ((λ spelled. reads_sorted plain spelled), (sounds words).0 line whole)

  -- words spell one line at most
  pub one_line : has_plain_names table ≡ true → (words : List Text) (line a b : Line) → Sorts table line words a → Sorts table line words b → a ≡ b
  one_line plain words line a b p q = ap (λ o. unwrap_or o line) (sym (reads_sorted plain p) ∙ reads_sorted plain q)

  means_by : has_plain_names table ≡ true → (words : List Text) (o : Option Line) → read_on table no_words None words ≡ o → Means table words (option_map (in_order table) o)
  means_by plain words None is = λ whole spelled. no_some whole (sym is ∙ reads_sorted plain spelled)
  means_by plain words (Some whole) is = (whole, (sounds words).0 no_words whole is, refl)

  pub means : has_plain_names table ≡ true → (words : List Text) → Means table words (line_of table words)
  means plain words = means_by plain words (read_on table no_words None words) refl

-- What the rows of a parse have of an option and of the file words, as they grow.
use Rattle.std.proofs.Common.{◌≡◌, ◌∙◌, refl, sym, ap, subst, ℕ, Bool, true, false, true≢false, cond, not, ◌&&◌, ◌||◌, List, [], ◌∷◌, ◌++◌, append-nil, Option, Some, None, is_some, option_and_then, option_map, slice_get, unwrap_or, length, ◌==◌}
use Rattle.std.specs.List.{find, list_any}
use Rattle.std.specs.Str.{bytes_eq}
use Rattle.std.proofs.lemmas.Slice.Eq.{bytes_eq-Decides}
use Rattle.clap.specs.Walk.{Row, all_of, at_row, has_row, more_values, with_values, without}
use Rattle.clap.specs.declared.builder.value_parser.Reading.{Reading}
use Rattle.clap.specs.declared.parser.matches.ValueSource.TheVariants.{CommandLine}
use Rattle.words.specs.Lines.{Choice, Given, Line, Text, choice_of, is_given, is_table, look, with_files}
use Rattle.words.specs.Reads.{given_by, given_in}

pub eq_same : (text : Text) → bytes_eq text text ≡ true
eq_same text = (bytes_eq-Decides text text).1 refl

pub eq_is : (a b : Text) → bytes_eq a b ≡ true → a ≡ b
eq_is a b = (bytes_eq-Decides a b).0

-- ---- searches

pub any_found : {X : Type 0} (p : X → Bool) (xs : List X) → list_any p xs ≡ is_some (find p xs)
any_found p [] = refl
any_found p (x ∷ xs) = go (p x) (any_found p xs)
  where
    go : (b : Bool) → list_any p xs ≡ is_some (find p xs) → (b || list_any p xs) ≡ is_some (cond b (Some x) (find p xs))
    go true e = refl
    go false e = e

pub none_of : {X : Type 0} (o : Option X) → is_some o ≡ false → o ≡ None
none_of None e = refl
none_of (Some x) e = absurd (true≢false e)

-- another element behind
pub find_other : {X : Type 0} (p : X → Bool) (xs : List X) (y : X) → p y ≡ false → find p (xs ++ y ∷ []) ≡ find p xs
find_other p [] y other = rw other refl
find_other p (x ∷ xs) y other = ap (cond (p x) (Some x)) (find_other p xs y other)

pub find_last : {X : Type 0} (p : X → Bool) (xs : List X) (y : X) → find p xs ≡ None → p y ≡ true → find p (xs ++ y ∷ []) ≡ Some y
find_last p [] y none hit = rw hit refl
find_last p (x ∷ xs) y none hit = go (p x) none (λ e. find_last p xs y e hit)
  where
    go : (b : Bool) → cond b (Some x) (find p xs) ≡ None → (find p xs ≡ None → find p (xs ++ y ∷ []) ≡ Some y) → cond b (Some x) (find p (xs ++ y ∷ [])) ≡ Some y
    go true e more = absurd (true≢false (ap is_some e))
    go false e more = more e

-- ---- rows

pub new_row : (id : Text) (change : Row → List Row) (missing rows : List Row) → has_row id rows ≡ false → at_row id change missing rows ≡ rows ++ missing
new_row id change missing [] none = refl
new_row id change missing (r ∷ rows) none = go (bytes_eq r.id id) none (new_row id change missing rows)
  where
    go : (b : Bool) → (b || has_row id rows) ≡ false → (has_row id rows ≡ false → at_row id change missing rows ≡ rows ++ missing)
        → cond b (change r ++ rows) (r ∷ at_row id change missing rows) ≡ r ∷ (rows ++ missing)
    go true e more = absurd (true≢false e)
    go false e more = ap (λ rs. r ∷ rs) (more e)

abbrev pub row_of_use : Text → Reading → List Text → Row
row_of_use id how values = record { id = id; values = values; count = None; source = Some CommandLine; reading = how }

-- the first use of an option
pub set_new : (id : Text) (how : Reading) (values : List Text) (rows : List Row) → has_row id rows ≡ false
    → with_values id how CommandLine values (without id rows) ≡ rows ++ row_of_use id how values ∷ []
set_new id how values rows none =
    let kept : without id rows ≡ rows = new_row id (λ _. []) [] rows none ∙ append-nil rows in
    ap (with_values id how CommandLine values) kept ∙ new_row id (more_values CommandLine values) (row_of_use id how values ∷ []) rows none

-- more file words
pub files_more : (how : Reading) (values : List Text) (rows : List Row) → unwrap_or (all_of [] (with_values [] how CommandLine values rows)) [] ≡ unwrap_or (all_of [] rows) [] ++ values
files_more how values [] = refl
files_more how values (r ∷ rows) = go r.id refl (files_more how values rows)
  where
    go : (id : Text) → r.id ≡ id → unwrap_or (all_of [] (with_values [] how CommandLine values rows)) [] ≡ unwrap_or (all_of [] rows) [] ++ values
        → unwrap_or (all_of [] (with_values [] how CommandLine values (r ∷ rows))) [] ≡ unwrap_or (all_of [] (r ∷ rows)) [] ++ values
    go [] e more = rw e refl
    go (x ∷ xs) e more = rw e more

pub others_stay : (how : Reading) (values : List Text) (rows : List Row) (x : ℕ) (xs : Text)
    → find (λ r. bytes_eq r.id (x ∷ xs)) (with_values [] how CommandLine values rows) ≡ find (λ r. bytes_eq r.id (x ∷ xs)) rows
others_stay how values [] x xs = refl
others_stay how values (r ∷ rows) x xs = go r.id refl (others_stay how values rows x xs)
  where
    go : (id : Text) → r.id ≡ id → find (λ r. bytes_eq r.id (x ∷ xs)) (with_values [] how CommandLine values rows) ≡ find (λ r. bytes_eq r.id (x ∷ xs)) rows
        → find (λ r. bytes_eq r.id (x ∷ xs)) (with_values [] how CommandLine values (r ∷ rows)) ≡ find (λ r. bytes_eq r.id (x ∷ xs)) (r ∷ rows)
    go [] e more = rw e refl
    go (y ∷ ys) e more = rw e (ap (cond (bytes_eq (y ∷ ys) (x ∷ xs)) (Some (record r { id = y ∷ ys }))) more)

-- ---- what the rows show of a line

pub record Shows (table : List Choice) (rows : List Row) (line : Line) : Type 0 where
  pub files : unwrap_or (all_of [] rows) [] ≡ line.files
  pub has : (choice : Choice) → choice_of table choice.name ≡ Some choice → has_row choice.name rows ≡ is_some (look choice.name line.given)
  pub given : (choice : Choice) → choice_of table choice.name ≡ Some choice → given_in rows choice ≡ look choice.name line.given

pub both : (a b : Bool) → (a && b) ≡ true → (a ≡ true) × (b ≡ true)
both true b e = (refl, e)
both false b e = absurd (true≢false (sym e))

-- no option of a table is without a name
pub nameless : (table : List Choice) → is_table table ≡ true → choice_of table [] ≡ None
nameless [] ok = refl
nameless (choice ∷ table) ok = go choice.name refl (both (not (length choice.name == 0)) _ ok).0 (nameless table (both (not (is_some (choice_of table choice.name))) _ (both (not (length choice.name == 0)) _ ok).1).1)
  where
    go : (name : Text) → choice.name ≡ name → not (length choice.name == 0) ≡ true → choice_of table [] ≡ None → choice_of (choice ∷ table) [] ≡ None
    go [] e h more = absurd {A = choice_of (choice ∷ table) [] ≡ None} (true≢false (sym h ∙ ap (λ (t : Text). not (length t == 0)) e))
    go (x ∷ xs) e h more = rw e more

module _ (table : List Choice) (ok : is_table table ≡ true) (how : Reading) (word : Text) (rows : List Row) (line : Line) (shows : Shows table rows line) where
  abbrev more : List Row
  more = with_values [] how CommandLine (word ∷ []) rows

  named : (choice : Choice) → choice_of table choice.name ≡ Some choice → choice.name ≡ [] → ⊥
  named choice is none = true≢false (sym (ap is_some (sym (ap (choice_of table) none ∙ nameless table ok) ∙ is)))

  stays : (name : Text) → (name ≡ [] → ⊥) → find (λ r. bytes_eq r.id name) more ≡ find (λ r. bytes_eq r.id name) rows
  stays [] some = absurd (some refl)
  stays (x ∷ xs) some = others_stay how (word ∷ []) rows x xs

  row_stays : (name : Text) → (name ≡ [] → ⊥) → has_row name more ≡ has_row name rows
  row_stays name some = any_found (λ r. bytes_eq r.id name) more ∙ ap is_some (stays name some) ∙ sym (any_found (λ r. bytes_eq r.id name) rows)

  text_stays : (choice : Choice) → (choice.name ≡ [] → ⊥) → given_in more choice ≡ given_in rows choice
  text_stays choice some = ap (λ (o : Option Row). option_and_then (given_by choice) (option_and_then (λ (r : Row). slice_get r.values 0) o)) (stays choice.name some)

  -- more file words
  pub shows_files : Shows table (with_values [] how CommandLine (word ∷ []) rows) (with_files (word ∷ []) line)
  shows_files = record {
    files = files_more how (word ∷ []) rows ∙ ap (λ files. files ++ word ∷ []) shows.files;
    has = λ choice is. row_stays choice.name (named choice is) ∙ shows.has choice is;
    given = λ choice is. text_stays choice (named choice is) ∙ shows.given choice is;
  }

module _ (table : List Choice) (ok : is_table table ≡ true) (choice : Choice) (how : Reading) (text : Text) (value : Option Text) (rows : List Row) (line : Line)
    (is : choice_of table choice.name ≡ Some choice) (says : given_by choice text ≡ Some (record { name = choice.name; value = value })) (none : has_row choice.name rows ≡ false) (shows : Shows table rows line) where
  abbrev row : Row
  row = row_of_use choice.name how (text ∷ [])

  abbrev longer : List Row
  longer = rows ++ row ∷ []

  abbrev gift : Given
  gift = record { name = choice.name; value = value }

  not_unnamed : choice.name ≡ [] → ⊥
  not_unnamed empty = true≢false (sym (ap is_some (sym (ap (choice_of table) empty ∙ nameless table ok) ∙ is)))

  not_empty : (name : Text) → (name ≡ [] → ⊥) → bytes_eq name [] ≡ false
  not_empty [] some = absurd (some refl)
  not_empty (x ∷ xs) some = refl

  unnamed : bytes_eq choice.name [] ≡ false
  unnamed = not_empty choice.name not_unnamed

  no_row : find (λ r. bytes_eq r.id choice.name) rows ≡ None
  no_row = none_of _ (sym (any_found (λ r. bytes_eq r.id choice.name) rows) ∙ none)

  not_given : look choice.name line.given ≡ None
  not_given = none_of _ (sym (shows.has choice is) ∙ none)

  row_here : find (λ r. bytes_eq r.id choice.name) longer ≡ Some row
  row_here = find_last (λ r. bytes_eq r.id choice.name) rows row no_row (eq_same choice.name)

  given_here : look choice.name (line.given ++ gift ∷ []) ≡ Some gift
  given_here = find_last (is_given choice.name) line.given gift not_given (eq_same choice.name)

  same : (other : Choice) → choice_of table other.name ≡ Some other → bytes_eq choice.name other.name ≡ true → Some choice ≡ Some other
  same other at e = sym is ∙ ap (choice_of table) (eq_is choice.name other.name e) ∙ at

  abbrev chosen : Option Choice → Choice
  chosen None = choice
  chosen (Some c) = c

  has_at : (other : Choice) → choice_of table other.name ≡ Some other → (b : Bool) → bytes_eq choice.name other.name ≡ b
      → has_row other.name longer ≡ is_some (look other.name (line.given ++ gift ∷ []))
  has_at other at true e =
      subst (λ (c : Choice). has_row c.name longer ≡ is_some (look c.name (line.given ++ gift ∷ []))) (ap chosen (same other at e))
      (any_found (λ r. bytes_eq r.id choice.name) longer ∙ ap is_some row_here ∙ sym (ap is_some given_here))
  has_at other at false e =
      any_found (λ r. bytes_eq r.id other.name) longer ∙ ap is_some (find_other (λ r. bytes_eq r.id other.name) rows row e)
      ∙ sym (any_found (λ r. bytes_eq r.id other.name) rows) ∙ shows.has other at ∙ sym (ap is_some (find_other (is_given other.name) line.given gift e))

  given_at : (other : Choice) → choice_of table other.name ≡ Some other → (b : Bool) → bytes_eq choice.name other.name ≡ b
      → given_in longer other ≡ look other.name (line.given ++ gift ∷ [])
  given_at other at true e =
      subst (λ (c : Choice). given_in longer c ≡ look c.name (line.given ++ gift ∷ [])) (ap chosen (same other at e))
      (ap (λ (o : Option Row). option_and_then (given_by choice) (option_and_then (λ (r : Row). slice_get r.values 0) o)) row_here ∙ says ∙ sym given_here)
  given_at other at false e =
      ap (λ (o : Option Row). option_and_then (given_by other) (option_and_then (λ (r : Row). slice_get r.values 0) o)) (find_other (λ r. bytes_eq r.id other.name) rows row e)
      ∙ shows.given other at ∙ sym (find_other (is_given other.name) line.given gift e)

  -- one longer option
  pub shows_option : Shows table (rows ++ row_of_use choice.name how (text ∷ []) ∷ []) (record line { given = line.given ++ record { name = choice.name; value = value } ∷ [] })
  shows_option = record {
    files = ap (λ (o : Option Row). unwrap_or (option_map (λ (r : Row). r.values) o) []) (find_other (λ r. bytes_eq r.id []) rows row unnamed) ∙ shows.files;
    has = λ other at. has_at other at (bytes_eq choice.name other.name) refl;
    given = λ other at. given_at other at (bytes_eq choice.name other.name) refl;
  }

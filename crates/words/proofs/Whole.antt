-- The matches of the command for a table show what the line means, and `clap` refuses just the lines that mean nothing.
use Rattle.std.proofs.Common.{◌≡◌, ◌∙◌, refl, sym, ap, ap₂, subst, Bool, true, false, true≢false, cond, not, ◌&&◌, ◌||◌, List, [], ◌∷◌, ◌++◌, length, Option, Some, None, option_map, is_some, option_and_then, slice_get, unwrap_or, fold, codes, ◌==◌}
use Rattle.std.specs.List.{cons_option, filter_map, find, list_any}
use Rattle.std.specs.Str.{bytes_eq}
use Rattle.clap.specs.Words.{Kinds, Row, all_of, fault_of, matches_of}
use Rattle.clap.specs.Kinds.{or_else}
use Rattle.clap.specs.Walk.{Walk, has_row, idle, more_values, nothing_held, settled, walked, with_default}
use Rattle.clap.specs.Simple.{App}
use Rattle.clap.specs.Takes.{is_given}
use Rattle.clap.specs.Faults.{built_fault, check_fault, default_fault, defaults_fault, entered_fault, settle_fault, turn_fault, walk_fault}
use Rattle.clap.specs.declared.builder.value_parser.Reading.TheVariants.{AsWritten}
use Rattle.clap.specs.declared.parser.matches.ValueSource.TheVariants.{DefaultValue}
use Rattle.words.specs.Lines.{Choice, Given, Line, Text, behind_dash, choice_of, has_short, in_order, is_end, is_short, is_table, line_of, no_words, part, read_on}
use Rattle.words.specs.Reads.{Found, app_for, given_by, given_in, line_in}
use Rattle.words.proofs.Apps.{choice_built, option_built, rules_built, shape_is}
use Rattle.words.proofs.Rows.{Shows, any_found, both, eq_is, eq_same, find_last, find_other, nameless, new_row, none_of}
use Rattle.words.proofs.Turns.{at, c, s, or_else_nil}
use Rattle.words.proofs.Walks.{Meets, left, reads, total}

-- ---- the kinds of error of the whole parse

or_else_assoc : (a b d : Kinds) → or_else (or_else a b) d ≡ or_else a (or_else b d)
or_else_assoc [] b d = refl
or_else_assoc (k ∷ ks) b d = refl

total_is : (table : List Choice) (ok : is_table table ≡ true) (w : Walk) (words : List Text)
    → or_else (walk_fault (s table) [] w words) (settle_fault (c table) false (fold (walked (c table) []) w words).held) ≡ total table ok w words
unfolding walk_fault
total_is table ok w [] = refl
total_is table ok w (word ∷ words) =
    or_else_assoc (turn_fault (s table) [] w word) (walk_fault (s table) [] (walked (c table) [] w word) words) _
    ∙ ap (or_else (turn_fault (s table) [] w word)) (total_is table ok (walked (c table) [] w word) words)

none_below : (table : List Choice) (stop : Option (Text × List Text)) → entered_fault (record { top = s table; subs = [] }) stop ≡ []
none_below table None = refl
none_below table (Some p) = refl

cond_same : {X : Type 0} (b : Bool) (x : X) → cond b x x ≡ x
cond_same true x = refl
cond_same false x = refl

or_true : (b : Bool) → (b || true) ≡ true
or_true true = refl
or_true false = refl

default_passes : (name : Text) (takes_value : Bool) (rows : List Row) → default_fault rows (option_built name takes_value) ≡ []
default_passes name true rows = rw (or_true (has_row name rows)) refl
default_passes name false rows = cond_same (has_row name rows || false) []

no_default_fault : (table : List Choice) (rows : List Row) → defaults_fault rows (rules_built table) ≡ []
unfolding defaults_fault
no_default_fault [] rows = rw (or_true (has_row [] rows)) refl
no_default_fault (choice ∷ table) rows =
    ap (λ kinds. or_else kinds (defaults_fault (with_default rows (choice_built choice)) (rules_built table))) (default_passes choice.name choice.takes_value rows)
    ∙ no_default_fault table (with_default rows (choice_built choice))

none_required : (table : List Choice) (rows : List Row) → list_any (λ a. a.required && not (is_given a.id rows)) (rules_built table) ≡ false
none_required [] rows = refl
none_required (choice ∷ table) rows = none_required table rows

no_check_fault : (table : List Choice) (rows : List Row) (has : Bool) → check_fault (s table) rows has ≡ []
no_check_fault table rows true = rw (none_required table rows) refl
no_check_fault table rows false = rw (none_required table rows) refl

fault_is : (table : List Choice) (ok : is_table table ≡ true) (words : List Text) → fault_of (app_for table) words ≡ total table ok (at [] None 0 idle false) words
fault_is table ok words =
    ap (λ (a : App). built_fault a nothing_held words) (shape_is table)
    ∙ rw (none_below table, no_default_fault table, no_check_fault table, or_else_nil) (total_is table ok (at [] None 0 idle false) words)

matches_are : (table : List Choice) (ok : is_table table ≡ true) (words : List Text)
    → matches_of (app_for table) words ≡ fold with_default (left table ok (at [] None 0 idle false) words) (rules_built table)
matches_are table ok words =
    ap (λ (a : App). fold with_default (settled a.top.rules (fold (walked a.top.rules []) (at [] None 0 idle false) words).held).rows a.top.rules) (shape_is table)

-- ---- the options of a table

-- each is found by its name
abbrev Members : List Choice → List Choice → Type 0
Members table [] = Unit {0}
Members table (choice ∷ choices) = (choice_of table choice.name ≡ Some choice) × Members table choices

not_true : (b : Bool) → not b ≡ true → b ≡ false
not_true true e = absurd (true≢false (sym e))
not_true false e = refl

still_members : (table : List Choice) (choice : Choice) → is_some (choice_of table choice.name) ≡ false → (choices : List Choice) → Members table choices → Members (choice ∷ table) choices
still_members table choice new [] all = tt
still_members table choice new (other ∷ choices) all = (go (bytes_eq choice.name other.name) refl, still_members table choice new choices all.1)
  where
    go : (b : Bool) → bytes_eq choice.name other.name ≡ b → cond b (Some choice) (choice_of table other.name) ≡ Some other
    go true e = absurd (true≢false (sym (ap is_some (ap (choice_of table) (eq_is choice.name other.name e) ∙ all.0)) ∙ new))
    go false e = all.0

members : (table : List Choice) → is_table table ≡ true → Members table table
members [] ok = tt
members (choice ∷ table) ok =
    let rest = both (not (is_some (choice_of table choice.name))) _ (both (not (length choice.name == 0)) _ ok).1 in
    (ap (λ b. cond b (Some choice) (choice_of table choice.name)) (eq_same choice.name), still_members table choice (not_true _ rest.0) table (members table rest.1))

in_turn : (table : List Choice) (f g : Choice → Option Given) → ((choice : Choice) → choice_of table choice.name ≡ Some choice → f choice ≡ g choice)
    → (choices : List Choice) → Members table choices → filter_map f choices ≡ filter_map g choices
in_turn table f g same [] all = refl
in_turn table f g same (choice ∷ choices) all = ap₂ cons_option (same choice all.0) (in_turn table f g same choices all.1)

-- ---- defaults

abbrev pub chosen : Choice → Option Choice → Choice
chosen first None = first
chosen first (Some other) = other

-- the rows say the same of the file words, and of each option
record SaysSame (table : List Choice) (old new : List Row) : Type 0 where
  files : unwrap_or (all_of [] new) [] ≡ unwrap_or (all_of [] old) []
  given : (choice : Choice) → choice_of table choice.name ≡ Some choice → given_in new choice ≡ given_in old choice

says_same : (table : List Choice) (rows : List Row) → SaysSame table rows rows
says_same table rows = record { files = refl; given = λ choice is. refl }

says_also : (table : List Choice) (a b d : List Row) → SaysSame table a b → SaysSame table b d → SaysSame table a d
says_also table a b d p q = record { files = q.files ∙ p.files; given = λ choice is. q.given choice is ∙ p.given choice is }

abbrev text_at : Choice → Option Row → Option Given
text_at choice o = option_and_then (given_by choice) (option_and_then (λ (r : Row). slice_get r.values 0) o)

module _ (table : List Choice) (ok : is_table table ≡ true) where
  not_empty : (name : Text) → (name ≡ [] → ⊥) → bytes_eq name [] ≡ false
  not_empty [] some = absurd (some refl)
  not_empty (x ∷ xs) some = refl

  unnamed : (choice : Choice) → choice_of table choice.name ≡ Some choice → bytes_eq choice.name [] ≡ false
  unnamed choice is = not_empty choice.name (λ empty. true≢false (sym (ap is_some (sym (ap (choice_of table) empty ∙ nameless table ok) ∙ is))))

  abbrev default_row : Text → Row
  default_row name = record { id = name; values = codes "false" ∷ []; count = None; source = Some DefaultValue; reading = AsWritten }

  -- the row of a flag that was not used says nothing
  flag_default : (rows : List Row) (choice : Choice) → choice_of table choice.name ≡ Some choice → choice.takes_value ≡ false → has_row choice.name rows ≡ false
      → SaysSame table rows (rows ++ default_row choice.name ∷ [])
  flag_default rows choice is flag none = record {
    files = ap (λ (o : Option Row). unwrap_or (option_map (λ (r : Row). r.values) o) []) (find_other (λ r. bytes_eq r.id []) rows (default_row choice.name) (unnamed choice is));
    given = λ other at_name. go other at_name (bytes_eq choice.name other.name) refl;
  }
    where
      go : (other : Choice) → choice_of table other.name ≡ Some other → (b : Bool) → bytes_eq choice.name other.name ≡ b
          → given_in (rows ++ default_row choice.name ∷ []) other ≡ given_in rows other
      go other at_name false e = ap (text_at other) (find_other (λ r. bytes_eq r.id other.name) rows (default_row choice.name) e)
      go other at_name true e =
          let no_row : find (λ r. bytes_eq r.id choice.name) rows ≡ None = none_of _ (sym (any_found (λ r. bytes_eq r.id choice.name) rows) ∙ none) in
          let silent : given_by choice (codes "false") ≡ None = rw flag refl in
          subst (λ (o : Choice). given_in (rows ++ default_row choice.name ∷ []) o ≡ given_in rows o)
          (ap (chosen choice) (sym is ∙ ap (choice_of table) (eq_is choice.name other.name e) ∙ at_name))
          (ap (text_at choice) (find_last (λ r. bytes_eq r.id choice.name) rows (default_row choice.name) no_row (eq_same choice.name)) ∙ silent ∙ sym (ap (text_at choice) no_row))

  one_default : (rows : List Row) (choice : Choice) → choice_of table choice.name ≡ Some choice → (b : Bool) → choice.takes_value ≡ b → (old : Bool) → has_row choice.name rows ≡ old
      → SaysSame table rows (with_default rows (option_built choice.name b))
  one_default rows choice is true takes old has = rw (cond_same (has_row choice.name rows) rows) (says_same table rows)
  one_default rows choice is false flag true has = rw has (says_same table rows)
  one_default rows choice is false flag false has =
      rw has (subst (SaysSame table rows) (sym (new_row choice.name (more_values DefaultValue (codes "false" ∷ [])) (default_row choice.name ∷ []) rows has)) (flag_default rows choice is flag has))

  all_defaults : (choices : List Choice) → Members table choices → (rows : List Row) → SaysSame table rows (fold with_default rows (rules_built choices))
  all_defaults [] all rows = rw (cond_same (has_row [] rows) rows) (says_same table rows)
  all_defaults (choice ∷ choices) all rows =
      says_also table rows (with_default rows (choice_built choice)) _ (one_default rows choice all.0 choice.takes_value refl (has_row choice.name rows) refl)
      (all_defaults choices all.1 (with_default rows (choice_built choice)))

  shown : (rows : List Row) (line : Line) → Shows table rows line → line_in table (fold with_default rows (rules_built table)) ≡ in_order table line
  shown rows line shows =
      let same = all_defaults table (members table ok) rows in
      ap₂ (λ files given. record { files = files; given = given }) (same.files ∙ shows.files)
      (in_turn table _ _ (λ choice is. same.given choice is ∙ shows.given choice is) table (members table ok))

  -- ---- the meaning of a line, by its matches

  by_meaning : (words : List Text) (o : Option Line) → read_on table no_words None words ≡ o → Meets table ok o (at [] None 0 idle false) words
      → (found : Option (List Row)) → Found table words found → option_map (line_in table) found ≡ option_map (in_order table) o
  by_meaning words None is meets None bad = refl
  by_meaning words None is meets (Some rows) fine = absurd (meets (sym (fault_is table ok words) ∙ fine.0))
  by_meaning words (Some line) is meets None bad = absurd (bad (fault_is table ok words ∙ meets.0))
  by_meaning words (Some line) is meets (Some rows) fine = ap Some (ap (line_in table) (fine.1 ∙ matches_are table ok words) ∙ shown _ line meets.1)

  pub answers : (words : List Text) (found : Option (List Row)) → Found table words found → has_short words ≡ false → option_map (line_in table) found ≡ line_of table words
  answers words found is short = by_meaning words (read_on table no_words None words) refl (reads table ok words short) found is

-- ---- a line with a short word

and_then_none : {X Y : Type 0} (f : X → Option Y) → ((x : X) → f x ≡ None) → (o : Option X) → option_and_then f o ≡ None
and_then_none f none None = refl
and_then_none f none (Some x) = none x

no_second : (bs : Text) → behind_dash bs ≡ None → bytes_eq bs (45 ∷ []) ≡ false
no_second [] e = refl
no_second (d ∷ ds) e = go (d == 45) e
  where
    go : (t : Bool) → cond t (Some ds) None ≡ None → (t && bytes_eq ds []) ≡ false
    go true h = absurd (true≢false (ap is_some h))
    go false h = refl

-- a short word has a first `-`, and no second
short_is : (word : Text) → is_short word ≡ true → (is_some (behind_dash word) ≡ true) × (option_and_then behind_dash (behind_dash word) ≡ None)
short_is [] h = absurd (true≢false (sym h))
short_is (b ∷ bs) h = go (b == 45) h
  where
    go : (t : Bool) → (is_some (cond t (Some bs) None) && not (is_some (option_and_then behind_dash (cond t (Some bs) None)))) ≡ true
        → (is_some (cond t (Some bs) None) ≡ true) × (option_and_then behind_dash (cond t (Some bs) None) ≡ None)
    go true k = (refl, none_of _ (not_true _ k))
    go false k = absurd (true≢false (sym k))

no_part : (table : List Choice) (line : Line) (wanting : Option Text) (word : Text) → is_short word ≡ true → part table line wanting word ≡ None
no_part table line (Some name) word h = rw ((short_is word h).0) refl
no_part table line None word h = rw ((short_is word h).0, (short_is word h).1) refl

short_reads : (table : List Choice) (words : List Text) → has_short words ≡ true → (line : Line) (wanting : Option Text) → read_on table line wanting words ≡ None
short_reads table [] h line wanting = absurd (true≢false (sym h))
short_reads table (word ∷ words) h line wanting = go (is_end word) refl h (λ k p. short_reads table words k p.0 p.1) wanting
  where
    inner : (wanting : Option Text) → (short : Bool) → is_short word ≡ short → (short || has_short words) ≡ true
        → (has_short words ≡ true → (p : Line × Option Text) → read_on table p.0 p.1 words ≡ None)
        → option_and_then (λ (p : Line × Option Text). read_on table p.0 p.1 words) (part table line wanting word) ≡ None
    inner wanting true is k more = ap (option_and_then (λ (p : Line × Option Text). read_on table p.0 p.1 words)) (no_part table line wanting word is)
    inner wanting false is k more = and_then_none (λ (p : Line × Option Text). read_on table p.0 p.1 words) (more k) (part table line wanting word)

    go : (t : Bool) → is_end word ≡ t → cond t false (is_short word || has_short words) ≡ true
        → (has_short words ≡ true → (p : Line × Option Text) → read_on table p.0 p.1 words ≡ None)
        → (wanting : Option Text) → read_on table line wanting (word ∷ words) ≡ None
    go true e k more wanting = absurd (true≢false (sym k))
    go false e k more None = rw e (inner None (is_short word) refl k more)
    go false e k more (Some name) = inner (Some name) (is_short word) refl k more

pub refused : (table : List Choice) (words : List Text) → has_short words ≡ true → None ≡ line_of table words
refused table words short = sym (ap (option_map (in_order table)) (short_reads table words short no_words None))

-- The walk that `clap` makes over a line goes hand in hand with the meaning of the line.
use Rattle.std.proofs.Common.{◌≡◌, ◌∙◌, refl, sym, ap, subst, ℕ, Bool, true, false, true≢false, cond, not, ◌&&◌, ◌||◌, List, [], ◌∷◌, ◌++◌, append_assoc, append-nil, Option, Some, None, option_map, is_some, option_and_then, fold, codes, eqb-true, ◌==◌}
use Rattle.std.specs.Str.{bytes_eq}
use Rattle.clap.specs.Words.{Kinds, Row}
use Rattle.clap.specs.Kinds.{or_else}
use Rattle.clap.specs.Walk.{Waiting, Walk, arg_by_id, arg_by_long, has_row, idle, option, positional, settled, settled_rows, walked}
use Rattle.clap.specs.Faults.{settle_fault, turn_fault}
use Rattle.clap.specs.declared.builder.value_parser.Reading.TheVariants.{AsWritten}
use Rattle.words.specs.Lines.{Choice, Line, Text, behind_dash, choice_of, has_short, is_end, is_short, is_table, look, name_and_value, read_on, with_files}
use Rattle.words.proofs.Apps.{by_id, by_long, choice_built, files_built, option_built, rules_built}
use Rattle.words.proofs.Rows.{Shows, eq_is, nameless, row_of_use, set_new, shows_files, shows_option}
use Rattle.words.proofs.Turns.{Fails, IsIdle, at, c, s, held_at, or_else_fails, some_fails, plain_is_no_end, value_again, value_first, file_turn, file_walked, end_turn, end_walked, behind_turn, behind_walked, value_turn, value_walked, unknown_turn, unmet_turn, stray_value_turn, wants_turn, wants_walked, value_now_turn, value_now_again, value_now_walked, flag_turn, flag_turn_again, flag_walked}

-- ---- what a word is

pub data Next (word : Text) (words : List Text) : Type 0 where
  plain : behind_dash word ≡ None → has_short words ≡ false → Next word words
  ending : word ≡ 45 ∷ 45 ∷ [] → Next word words
  long : (x : ℕ) (xs : Text) → word ≡ 45 ∷ 45 ∷ x ∷ xs → has_short words ≡ false → Next word words

or_false : (a b : Bool) → (a || b) ≡ false → (a ≡ false) × (b ≡ false)
or_false true b e = absurd (true≢false e)
or_false false b e = (refl, e)

-- a word with a first `-` that is not short begins with `--`
after_dash : (bs : Text) (words : List Text) → not (is_some (behind_dash bs)) ≡ false → has_short words ≡ false → Next (45 ∷ bs) words
after_dash [] words long_one rest = absurd (true≢false long_one)
after_dash (d ∷ ds) words long_one rest = go (d == 45) refl long_one
  where
    tail : (es : Text) → Next (45 ∷ 45 ∷ es) words
    tail [] = ending refl
    tail (x ∷ xs) = long x xs refl rest

    go : (t : Bool) → (d == 45) ≡ t → not (is_some (cond t (Some ds) None)) ≡ false → Next (45 ∷ d ∷ ds) words
    go true e h = subst (λ (b : ℕ). Next (45 ∷ b ∷ ds) words) (sym (eqb-true d 45 e)) (tail ds)
    go false e h = absurd (true≢false h)

not_short : (word : Text) (words : List Text) → is_short word ≡ false → has_short words ≡ false → Next word words
not_short [] words h rest = plain refl rest
not_short (b ∷ bs) words h rest = go (b == 45) refl h
  where
    go : (t : Bool) → (b == 45) ≡ t → (is_some (cond t (Some bs) None) && not (is_some (option_and_then behind_dash (cond t (Some bs) None)))) ≡ false → Next (b ∷ bs) words
    go true e k = subst (λ (d : ℕ). Next (d ∷ bs) words) (sym (eqb-true b 45 e)) (after_dash bs words k rest)
    go false e k = plain (ap (λ t. cond t (Some bs) None) e) rest

next : (word : Text) (words : List Text) → has_short (word ∷ words) ≡ false → Next word words
next word words h = go (is_end word) refl h
  where
    go : (t : Bool) → is_end word ≡ t → cond t false (is_short word || has_short words) ≡ false → Next word words
    go true e k = ending (eq_is word (45 ∷ 45 ∷ []) e)
    go false e k = not_short word words (or_false _ _ k).0 (or_false _ _ k).1

-- ---- the table

abbrev chosen : Choice → Option Choice → Choice
chosen first None = first
chosen first (Some other) = other

pub named : (table : List Choice) (name : Text) (choice : Choice) → choice_of table name ≡ Some choice → name ≡ choice.name
named [] name choice e = absurd (true≢false (sym (ap is_some e)))
named (first ∷ table) name choice e = go (bytes_eq first.name name) refl e (named table name choice)
  where
    go : (b : Bool) → bytes_eq first.name name ≡ b → cond b (Some first) (choice_of table name) ≡ Some choice → (choice_of table name ≡ Some choice → name ≡ choice.name) → name ≡ choice.name
    go true same k more = sym (eq_is first.name name same) ∙ ap (λ (o : Option Choice). (chosen first o).name) k
    go false same k more = more k

files_by_id : (table : List Choice) → choice_of table [] ≡ None → arg_by_id (rules_built table) [] ≡ Some files_built
files_by_id [] none = refl
files_by_id (choice ∷ table) none = go (bytes_eq choice.name []) none (files_by_id table)
  where
    go : (b : Bool) → cond b (Some choice) (choice_of table []) ≡ None → (choice_of table [] ≡ None → arg_by_id (rules_built table) [] ≡ Some files_built)
        → cond b (Some (choice_built choice)) (arg_by_id (rules_built table) []) ≡ Some files_built
    go true e more = absurd (true≢false (ap is_some e))
    go false e more = more e

-- ---- the whole walk

module _ (table : List Choice) (ok : is_table table ≡ true) where
  files_found : arg_by_id (rules_built table) [] ≡ Some files_built
  files_found = files_by_id table (nameless table ok)

  -- the kinds of error of a walk with the last use that it leaves
  abbrev pub total : Walk → List Text → Kinds
  total w [] = settle_fault (c table) false w.held
  total w (word ∷ words) = or_else (turn_fault (s table) [] w word) (total (walked (c table) [] w word) words)

  -- the rows that it leaves
  abbrev pub left : Walk → List Text → List Row
  left w words = (settled (c table) (fold (walked (c table) []) w words).held).rows

  -- the walk over more words fails where they mean nothing, and else shows the line
  abbrev pub Meets : Option Line → Walk → List Text → Type 0
  Meets None w words = Fails (total w words)
  Meets (Some line) w words = (total w words ≡ []) × Shows table (left w words) line

  turned : (line : Option Line) (w : Walk) (word : Text) (words : List Text) → turn_fault (s table) [] w word ≡ [] → Meets line (walked (c table) [] w word) words
      → Meets line w (word ∷ words)
  turned None w word words turn meets = rw turn meets
  turned (Some line) w word words turn meets = (rw turn meets.0, meets.1)

  goes : (line : Option Line) (w after : Walk) (word : Text) (words : List Text) → turn_fault (s table) [] w word ≡ [] → walked (c table) [] w word ≡ after
      → Meets line after words → Meets line w (word ∷ words)
  goes line w after word words turn walk meets = turned line w word words turn (subst (λ (v : Walk). Meets line v words) (sym walk) meets)

  stops : (w : Walk) (word : Text) (words : List Text) → Fails (turn_fault (s table) [] w word) → Fails (total w (word ∷ words))
  stops w word words bad = or_else_fails _ _ bad

  -- ---- the argument that waits to be used

  found_choice : (choice : Choice) → choice_of table choice.name ≡ Some choice → arg_by_id (c table) choice.name ≡ Some (choice_built choice)
  found_choice choice is = go choice.name refl
    where
      go : (name : Text) → choice.name ≡ name → arg_by_id (c table) choice.name ≡ Some (choice_built choice)
      go [] e = absurd (true≢false (sym (ap is_some (sym (ap (choice_of table) e ∙ nameless table ok) ∙ is))))
      go (x ∷ xs) e = ap (arg_by_id (c table)) e ∙ by_id table x xs ∙ ap (λ name. option_map choice_built (choice_of table name)) (sym e) ∙ ap (option_map choice_built) is

  settles_file : (rows : List Row) (word : Text) (skip : ℕ) → settle_fault (c table) false (held_at rows (Some ([], word ∷ [])) skip) ≡ []
  settles_file rows word skip = rw files_found refl

  shows_file : (rows : List Row) (word : Text) (line : Line) → Shows table rows line
      → Shows table (settled_rows (c table) (Some ([], word ∷ [])) rows) (with_files (word ∷ []) line)
  shows_file rows word line shows = rw files_found (shows_files table ok AsWritten word rows line shows)

  -- ---- behind the word `--`

  behind : (words : List Text) (rows : List Row) (pending : Option (Text × List Text)) (skip : ℕ) (waiting : Waiting) (line : Line)
      → settle_fault (c table) false (held_at rows pending skip) ≡ [] → Shows table (settled_rows (c table) pending rows) line
      → Meets (Some (with_files words line)) (at rows pending skip waiting true) words
  behind [] rows pending skip waiting line met shows =
      (met, subst (λ (files : List Text). Shows table (settled_rows (c table) pending rows) (record line { files = files })) (sym (append-nil line.files)) shows)
  behind (word ∷ words) rows pending skip waiting line met shows =
      subst (λ (files : List Text). Meets (Some (record line { files = files })) (at rows pending skip waiting true) (word ∷ words)) (append_assoc line.files (word ∷ []) words)
      (goes (Some (with_files words (with_files (word ∷ []) line))) (at rows pending skip waiting true) _ word words
      (behind_turn table rows pending skip waiting word ∙ met) (behind_walked table rows pending skip waiting word)
      (behind words (settled_rows (c table) pending rows) (Some ([], word ∷ [])) skip positional (with_files (word ∷ []) line)
      (settles_file (settled_rows (c table) pending rows) word skip) (shows_file (settled_rows (c table) pending rows) word line shows)))

  behind_fails : (words : List Text) (rows : List Row) (pending : Option (Text × List Text)) (skip : ℕ) (waiting : Waiting)
      → Fails (settle_fault (c table) false (held_at rows pending skip)) → Fails (total (at rows pending skip waiting true) words)
  behind_fails [] rows pending skip waiting bad = bad
  behind_fails (word ∷ words) rows pending skip waiting bad =
      stops (at rows pending skip waiting true) word words (subst Fails (sym (behind_turn table rows pending skip waiting word)) bad)

  -- ---- a walk that is lost

  by_name : (name : Text) (o : Option Choice) → choice_of table name ≡ o → arg_by_long (c table) name ≡ option_map choice_built o
  by_name name o is = by_long table name ∙ ap (option_map choice_built) is

  long_fails : (rows : List Row) (pending : Option (Text × List Text)) (skip : ℕ) (waiting : Waiting) (x : ℕ) (xs : Text) (o : Option Choice)
      → choice_of table (name_and_value (x ∷ xs)).0 ≡ o → Fails (settle_fault (c table) false (held_at rows pending skip))
      → Fails (turn_fault (s table) [] (at rows pending skip waiting false) (45 ∷ 45 ∷ x ∷ xs))
  long_fails rows pending skip waiting x xs None is bad = unknown_turn table rows pending skip waiting x xs (by_name _ None is)
  long_fails rows pending skip waiting x xs (Some choice) is bad =
      unmet_turn table rows pending skip waiting x xs choice.name choice.takes_value _ (by_name _ (Some choice) is) refl bad

  lost : (words : List Text) (rows : List Row) (pending : Option (Text × List Text)) (skip : ℕ) (waiting : Waiting) → IsIdle waiting
      → Fails (settle_fault (c table) false (held_at rows pending skip)) → has_short words ≡ false → Fails (total (at rows pending skip waiting false) words)
  lost [] rows pending skip waiting free bad short = bad
  lost (word ∷ words) rows pending skip waiting free bad short = elim (next word words short) [
    | plain is rest ↦ stops (at rows pending skip waiting false) word words (subst Fails (sym (file_turn table rows pending skip waiting word free is)) bad)
    | ending is ↦ subst (λ (w : Text). Fails (total (at rows pending skip waiting false) (w ∷ words))) (sym is)
        (goes None (at rows pending skip waiting false) (at rows pending skip waiting true) (45 ∷ 45 ∷ []) words (end_turn table rows pending skip waiting) (end_walked table rows pending skip waiting) (behind_fails words rows pending skip waiting bad))
    | long x xs is rest ↦ subst (λ (w : Text). Fails (total (at rows pending skip waiting false) (w ∷ words))) (sym is)
        (stops (at rows pending skip waiting false) (45 ∷ 45 ∷ x ∷ xs) words (long_fails rows pending skip waiting x xs (choice_of table (name_and_value (x ∷ xs)).0) refl bad))
  ]

  -- ---- a walk and what the line means so far

  settles_value : (rows : List Row) (choice : Choice) (text : Text) (skip : ℕ) → arg_by_id (c table) choice.name ≡ Some (option_built choice.name true) → has_row choice.name rows ≡ false
      → settle_fault (c table) false (held_at rows (Some (choice.name, text ∷ [])) skip) ≡ []
  settles_value rows choice text skip found new = rw found (value_first table choice.name text rows new)

  fails_value : (rows : List Row) (choice : Choice) (text : Text) (skip : ℕ) → arg_by_id (c table) choice.name ≡ Some (option_built choice.name true) → has_row choice.name rows ≡ true
      → Fails (settle_fault (c table) false (held_at rows (Some (choice.name, text ∷ [])) skip))
  fails_value rows choice text skip found old = rw found (value_again table choice.name text rows old)

  fails_wanting : (rows : List Row) (choice : Choice) (skip : ℕ) → arg_by_id (c table) choice.name ≡ Some (option_built choice.name true)
      → Fails (settle_fault (c table) false (held_at rows (Some (choice.name, [])) skip))
  fails_wanting rows choice skip found = rw found some_fails

  abbrev gives : Choice → Option Text → Line → Line
  gives choice value line = record line { given = line.given ++ record { name = choice.name; value = value } ∷ [] }

  shows_value : (rows : List Row) (choice : Choice) (text : Text) (line : Line) → choice_of table choice.name ≡ Some choice → choice.takes_value ≡ true → has_row choice.name rows ≡ false
      → Shows table rows line → Shows table (rows ++ row_of_use choice.name AsWritten (text ∷ []) ∷ []) (gives choice (Some text) line)
  shows_value rows choice text line is takes new shows = shows_option table ok choice AsWritten text (Some text) rows line is (rw takes refl) new shows

  shows_flag : (rows : List Row) (choice : Choice) (line : Line) → choice_of table choice.name ≡ Some choice → choice.takes_value ≡ false → has_row choice.name rows ≡ false
      → Shows table rows line → Shows table (rows ++ row_of_use choice.name AsWritten (codes "true" ∷ []) ∷ []) (gives choice None line)
  shows_flag rows choice line is flag new shows = shows_option table ok choice AsWritten (codes "true") None rows line is (rw flag refl) new shows

  shows_settled : (rows : List Row) (choice : Choice) (text : Text) (line : Line) → choice_of table choice.name ≡ Some choice → choice.takes_value ≡ true
      → arg_by_id (c table) choice.name ≡ Some (option_built choice.name true) → has_row choice.name rows ≡ false
      → Shows table rows line → Shows table (settled_rows (c table) (Some (choice.name, text ∷ [])) rows) (gives choice (Some text) line)
  shows_settled rows choice text line is takes found new shows =
      rw found (subst (λ (all : List Row). Shows table all (gives choice (Some text) line)) (sym (set_new choice.name AsWritten (text ∷ []) rows new))
      (shows_value rows choice text line is takes new shows))

  abbrev Reads : List Text → Type 0
  Reads words = (rows : List Row) (pending : Option (Text × List Text)) (skip : ℕ) (waiting : Waiting) (line : Line) → IsIdle waiting
      → settle_fault (c table) false (held_at rows pending skip) ≡ [] → Shows table (settled_rows (c table) pending rows) line → has_short words ≡ false
      → Meets (read_on table line None words) (at rows pending skip waiting false) words

  abbrev Wants : List Text → Type 0
  Wants words = (rows : List Row) (skip : ℕ) (line : Line) (choice : Choice) → choice_of table choice.name ≡ Some choice → choice.takes_value ≡ true
      → Shows table rows line → has_short words ≡ false
      → Meets (read_on table line (Some choice.name) words) (at rows (Some (choice.name, [])) skip (option choice.name) false) words

  found_value : (choice : Choice) → choice_of table choice.name ≡ Some choice → choice.takes_value ≡ true → arg_by_id (c table) choice.name ≡ Some (option_built choice.name true)
  found_value choice is takes = found_choice choice is ∙ ap (λ b. Some (option_built choice.name b)) takes

  -- ---- a file word

  reads_plain : (word : Text) (words : List Text) → Reads words → behind_dash word ≡ None → has_short words ≡ false
      → (rows : List Row) (pending : Option (Text × List Text)) (skip : ℕ) (waiting : Waiting) (line : Line) → IsIdle waiting
      → settle_fault (c table) false (held_at rows pending skip) ≡ [] → Shows table (settled_rows (c table) pending rows) line
      → Meets (read_on table line None (word ∷ words)) (at rows pending skip waiting false) (word ∷ words)
  reads_plain word words more is rest rows pending skip waiting line free met shows =
      let means : read_on table line None (word ∷ words) ≡ read_on table (with_files (word ∷ []) line) None words = rw (plain_is_no_end word is, is) refl in
      let now = settled_rows (c table) pending rows in
      subst (λ (o : Option Line). Meets o (at rows pending skip waiting false) (word ∷ words)) (sym means)
      (goes (read_on table (with_files (word ∷ []) line) None words) (at rows pending skip waiting false) (at now (Some ([], word ∷ [])) skip positional false) word words
      (file_turn table rows pending skip waiting word free is ∙ met) (file_walked table rows pending skip waiting word free is)
      (more now (Some ([], word ∷ [])) skip positional (with_files (word ∷ []) line) tt (settles_file now word skip) (shows_file now word line shows) rest))

  -- ---- a value behind its option

  value_plain : (word : Text) (words : List Text) → Reads words → behind_dash word ≡ None → has_short words ≡ false
      → (rows : List Row) (skip : ℕ) (line : Line) (choice : Choice) → choice_of table choice.name ≡ Some choice → choice.takes_value ≡ true → Shows table rows line
      → (old : Bool) → has_row choice.name rows ≡ old
      → Meets (read_on table line (Some choice.name) (word ∷ words)) (at rows (Some (choice.name, [])) skip (option choice.name) false) (word ∷ words)
  value_plain word words more is rest rows skip line choice at_name takes shows true old =
      let has : is_some (look choice.name line.given) ≡ true = sym (shows.has choice at_name) ∙ old in
      let means : read_on table line (Some choice.name) (word ∷ words) ≡ None = rw (is, has) refl in
      let found = found_value choice at_name takes in
      subst (λ (o : Option Line). Meets o (at rows (Some (choice.name, [])) skip (option choice.name) false) (word ∷ words)) (sym means)
      (goes None (at rows (Some (choice.name, [])) skip (option choice.name) false) (at rows (Some (choice.name, word ∷ [])) skip idle false) word words
      (value_turn table rows skip choice.name word is) (value_walked table rows skip choice.name word found is)
      (lost words rows (Some (choice.name, word ∷ [])) skip idle tt (fails_value rows choice word skip found old) rest))
  value_plain word words more is rest rows skip line choice at_name takes shows false new =
      let has : is_some (look choice.name line.given) ≡ false = sym (shows.has choice at_name) ∙ new in
      let means : read_on table line (Some choice.name) (word ∷ words) ≡ read_on table (gives choice (Some word) line) None words = rw (is, has) refl in
      let found = found_value choice at_name takes in
      subst (λ (o : Option Line). Meets o (at rows (Some (choice.name, [])) skip (option choice.name) false) (word ∷ words)) (sym means)
      (goes (read_on table (gives choice (Some word) line) None words) (at rows (Some (choice.name, [])) skip (option choice.name) false) (at rows (Some (choice.name, word ∷ [])) skip idle false) word words
      (value_turn table rows skip choice.name word is) (value_walked table rows skip choice.name word found is)
      (more rows (Some (choice.name, word ∷ [])) skip idle (gives choice (Some word) line) tt (settles_value rows choice word skip found new)
      (shows_settled rows choice word line at_name takes found new shows) rest))

  wants_step : (word : Text) (words : List Text) → Reads words → Wants (word ∷ words)
  wants_step word words more rows skip line choice at_name takes shows short = elim (next word words short) [
    | plain is rest ↦ value_plain word words more is rest rows skip line choice at_name takes shows (has_row choice.name rows) refl
    | ending is ↦ subst (λ (w : Text). Meets (read_on table line (Some choice.name) (w ∷ words)) (at rows (Some (choice.name, [])) skip (option choice.name) false) (w ∷ words)) (sym is)
        (goes None (at rows (Some (choice.name, [])) skip (option choice.name) false) (at rows (Some (choice.name, [])) skip (option choice.name) true) (45 ∷ 45 ∷ []) words
        (end_turn table rows (Some (choice.name, [])) skip (option choice.name)) (end_walked table rows (Some (choice.name, [])) skip (option choice.name))
        (behind_fails words rows (Some (choice.name, [])) skip (option choice.name) (fails_wanting rows choice skip (found_value choice at_name takes))))
    | long x xs is rest ↦ subst (λ (w : Text). Meets (read_on table line (Some choice.name) (w ∷ words)) (at rows (Some (choice.name, [])) skip (option choice.name) false) (w ∷ words)) (sym is)
        (stops (at rows (Some (choice.name, [])) skip (option choice.name) false) (45 ∷ 45 ∷ x ∷ xs) words
        (long_fails rows (Some (choice.name, [])) skip (option choice.name) x xs (choice_of table (name_and_value (x ∷ xs)).0) refl (fails_wanting rows choice skip (found_value choice at_name takes))))
  ]

  -- ---- a long option

  module _ (words : List Text) (more : Reads words) (want : Wants words) (rest : has_short words ≡ false)
      (rows : List Row) (pending : Option (Text × List Text)) (skip : ℕ) (waiting : Waiting) (line : Line)
      (met : settle_fault (c table) false (held_at rows pending skip) ≡ []) (shows : Shows table (settled_rows (c table) pending rows) line) (x : ℕ) (xs : Text) where
    abbrev word : Text
    word = 45 ∷ 45 ∷ x ∷ xs

    abbrev name : Text
    name = (name_and_value (x ∷ xs)).0

    abbrev here : Walk
    here = at rows pending skip waiting false

    abbrev now : List Row
    now = settled_rows (c table) pending rows

    abbrev Goal : Type 0
    Goal = Meets (read_on table line None (word ∷ words)) here (word ∷ words)

    refused : read_on table line None (word ∷ words) ≡ None → Fails (turn_fault (s table) [] here word) → Goal
    refused means bad = subst (λ (o : Option Line). Meets o here (word ∷ words)) (sym means) (stops here word words bad)

    unknown : choice_of table name ≡ None → Goal
    unknown is = refused (rw is refl) (unknown_turn table rows pending skip waiting x xs (by_name name None is))

    module _ (choice : Choice) (is : choice_of table name ≡ Some choice) where
      same_name : name ≡ choice.name
      same_name = named table name choice is

      at_name : choice_of table choice.name ≡ Some choice
      at_name = ap (choice_of table) (sym same_name) ∙ is

      found : (b : Bool) → choice.takes_value ≡ b → arg_by_long (c table) name ≡ Some (option_built choice.name b)
      found b takes = by_name name (Some choice) is ∙ ap (λ b. Some (option_built choice.name b)) takes

      has_it : (b : Bool) → has_row choice.name now ≡ b → is_some (look name line.given) ≡ b
      has_it b row = ap (λ (t : Text). is_some (look t line.given)) same_name ∙ sym (shows.has choice at_name) ∙ row

      abbrev given_name : Option Text → Line
      given_name value = record line { given = line.given ++ record { name = name; value = value } ∷ [] }

      renamed : (value : Option Text) (w : Walk) → Meets (read_on table (gives choice value line) None words) w words → Meets (read_on table (given_name value) None words) w words
      renamed value w meets = subst (λ (t : Text). Meets (read_on table (record line { given = line.given ++ record { name = t; value = value } ∷ [] }) None words) w words) (sym same_name) meets

      valued : (text : Text) → (name_and_value (x ∷ xs)).1 ≡ Some text → choice.takes_value ≡ true → (old : Bool) → has_row choice.name now ≡ old → Goal
      valued text value takes true old =
          refused (rw (is, value, takes, has_it true old) refl) (value_now_again table rows pending skip waiting x xs choice.name text (found true takes) value met old)
      valued text value takes false new =
          let means : read_on table line None (word ∷ words) ≡ read_on table (given_name (Some text)) None words = rw (is, value, takes, has_it false new) refl in
          let after = now ++ row_of_use choice.name AsWritten (text ∷ []) ∷ [] in
          subst (λ (o : Option Line). Meets o here (word ∷ words)) (sym means)
          (goes (read_on table (given_name (Some text)) None words) here (at after None skip idle false) word words
          (value_now_turn table rows pending skip waiting x xs choice.name text (found true takes) value met new)
          (value_now_walked table rows pending skip waiting x xs choice.name text (found true takes) value new)
          (renamed (Some text) (at after None skip idle false)
          (more after None skip idle (gives choice (Some text) line) tt refl (shows_value now choice text line at_name takes new shows) rest)))

      wanting : (name_and_value (x ∷ xs)).1 ≡ None → choice.takes_value ≡ true → Goal
      wanting value takes =
          let means : read_on table line None (word ∷ words) ≡ read_on table line (Some choice.name) words =
          (rw (is, value, takes) (ap (λ (t : Text). read_on table line (Some t) words) same_name)) in
          subst (λ (o : Option Line). Meets o here (word ∷ words)) (sym means)
          (goes (read_on table line (Some choice.name) words) here (at now (Some (choice.name, [])) skip (option choice.name) false) word words
          (wants_turn table rows pending skip waiting x xs choice.name (found true takes) value met)
          (wants_walked table rows pending skip waiting x xs choice.name (found true takes) value)
          (want now skip line choice at_name takes shows rest))

      stray : (text : Text) → (name_and_value (x ∷ xs)).1 ≡ Some text → choice.takes_value ≡ false → Goal
      stray text value flag = refused (rw (is, value, flag) refl) (stray_value_turn table rows pending skip waiting x xs choice.name text (found false flag) value)

      flagged : (name_and_value (x ∷ xs)).1 ≡ None → choice.takes_value ≡ false → (old : Bool) → has_row choice.name now ≡ old → Goal
      flagged value flag true old =
          refused (rw (is, value, flag, has_it true old) refl) (flag_turn_again table rows pending skip waiting x xs choice.name (found false flag) value met old)
      flagged value flag false new =
          let means : read_on table line None (word ∷ words) ≡ read_on table (given_name None) None words = rw (is, value, flag, has_it false new) refl in
          let after = now ++ row_of_use choice.name AsWritten (codes "true" ∷ []) ∷ [] in
          subst (λ (o : Option Line). Meets o here (word ∷ words)) (sym means)
          (goes (read_on table (given_name None) None words) here (at after None skip idle false) word words
          (flag_turn table rows pending skip waiting x xs choice.name (found false flag) value met new)
          (flag_walked table rows pending skip waiting x xs choice.name (found false flag) value new)
          (renamed None (at after None skip idle false)
          (more after None skip idle (gives choice None line) tt refl (shows_flag now choice line at_name flag new shows) rest)))

      known : (value : Option Text) → (name_and_value (x ∷ xs)).1 ≡ value → (b : Bool) → choice.takes_value ≡ b → Goal
      known (Some text) value true takes = valued text value takes (has_row choice.name now) refl
      known None value true takes = wanting value takes
      known (Some text) value false flag = stray text value flag
      known None value false flag = flagged value flag (has_row choice.name now) refl

    reads_long : (o : Option Choice) → choice_of table name ≡ o → Goal
    reads_long None is = unknown is
    reads_long (Some choice) is = known choice is (name_and_value (x ∷ xs)).1 refl choice.takes_value refl

  reads_step : (word : Text) (words : List Text) → Reads words → Wants words → Reads (word ∷ words)
  reads_step word words more want rows pending skip waiting line free met shows short = elim (next word words short) [
    | plain is rest ↦ reads_plain word words more is rest rows pending skip waiting line free met shows
    | ending is ↦ subst (λ (w : Text). Meets (read_on table line None (w ∷ words)) (at rows pending skip waiting false) (w ∷ words)) (sym is)
        (goes (Some (with_files words line)) (at rows pending skip waiting false) (at rows pending skip waiting true) (45 ∷ 45 ∷ []) words
        (end_turn table rows pending skip waiting) (end_walked table rows pending skip waiting) (behind words rows pending skip waiting line met shows))
    | long x xs is rest ↦ subst (λ (w : Text). Meets (read_on table line None (w ∷ words)) (at rows pending skip waiting false) (w ∷ words)) (sym is)
        (reads_long words more want rest rows pending skip waiting line met shows x xs (choice_of table (name_and_value (x ∷ xs)).0) refl)
  ]

  both_read : (words : List Text) → Reads words × Wants words
  both_read [] = (
    λ rows pending skip waiting line free met shows short. (met, shows),
    λ rows skip line choice at_name takes shows short. fails_wanting rows choice skip (found_value choice at_name takes),
  )
  both_read (word ∷ words) = (reads_step word words (both_read words).0 (both_read words).1, wants_step word words (both_read words).0)

  shows_nothing : Shows table [] (record { files = []; given = [] })
  shows_nothing = record {
    files = refl;
    has = λ choice is. refl;
    given = λ choice is. refl;
  }

  -- the walk from the start
  pub reads : (words : List Text) → has_short words ≡ false → Meets (read_on table (record { files = []; given = [] }) None words) (at [] None 0 idle false) words
  reads words short = (both_read words).0 [] None 0 idle (record { files = []; given = [] }) tt refl shows_nothing short

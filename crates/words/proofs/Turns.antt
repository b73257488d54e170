-- What one word does to the walk that `clap` makes over a line.
use Rattle.std.proofs.Common.{◌≡◌, ◌∙◌, refl, ap, ℕ, Bool, true, false, true≢false, cond, ◌&&◌, List, [], ◌∷◌, ◌++◌, Option, Some, None, is_some, option_and_then, codes, ◌==◌}
use Rattle.std.specs.Str.{bytes_eq}
use Rattle.clap.specs.Lexer.{name_and_value, short_of, short_of_rest, strip_byte}
use Rattle.clap.specs.Words.{Kinds, Row, Rule}
use Rattle.clap.specs.Kinds.{or_else}
use Rattle.clap.specs.Walk.{Held, Waiting, Walk, arg_by_id, arg_by_long, has_row, idle, option, positional, settled_rows, subcommand_met, walked, is_pending}
use Rattle.clap.specs.Simple.{Shape}
use Rattle.clap.specs.Faults.{settle_fault, turn_fault, use_fault}
use Rattle.clap.specs.declared.builder.value_parser.Reading.TheVariants.{AsWritten}
use Rattle.words.specs.Lines.{Choice, Text, behind_dash}
use Rattle.words.proofs.Apps.{by_index, files_built, option_built, rules_built, shape_with}
use Rattle.words.proofs.Rows.{eq_same, row_of_use, set_new}

abbrev pub Fails : Kinds → Type 0
Fails kinds = kinds ≡ [] → ⊥

pub or_else_nil : (kinds : Kinds) → or_else kinds [] ≡ kinds
or_else_nil [] = refl
or_else_nil (k ∷ ks) = refl

pub or_else_fails : (kinds next : Kinds) → Fails kinds → Fails (or_else kinds next)
or_else_fails [] next bad none = bad refl
or_else_fails (k ∷ ks) next bad none = bad none

pub fails_here : (kinds next : Kinds) → or_else kinds next ≡ [] → kinds ≡ []
fails_here [] next none = refl
fails_here (k ∷ ks) next none = none

pub some_fails : {k : _} {ks : Kinds} → Fails (k ∷ ks)
some_fails none = cc

-- a walk that has met no subcommand, at the first positional
abbrev pub held_at : List Row → Option (Text × List Text) → ℕ → Held
held_at rows pending skip = record { rows = rows; pending = pending; skip = skip }

abbrev pub at : List Row → Option (Text × List Text) → ℕ → Waiting → Bool → Walk
at rows pending skip waiting is_trailing =
    record { held = held_at rows pending skip; waiting = waiting; position = 1; is_trailing = is_trailing; stopped = None }

-- no option waits for a value
abbrev pub IsIdle : Waiting → Type 0
IsIdle idle = Unit {0}
IsIdle positional = Unit {0}
IsIdle (option id) = ⊥

pub strip_is : (word : Text) → strip_byte 45 word ≡ behind_dash word
strip_is [] = refl
strip_is (b ∷ bs) = refl

no_subcommand : (waiting : Waiting) (word : Text) → subcommand_met [] waiting word ≡ None
no_subcommand idle word = refl
no_subcommand positional word = refl
no_subcommand (option id) word = refl

and_false : (b : Bool) → (b && false) ≡ false
and_false true = refl
and_false false = refl

pub plain_is_no_end : (word : Text) → behind_dash word ≡ None → bytes_eq word (45 ∷ 45 ∷ []) ≡ false
plain_is_no_end [] e = refl
plain_is_no_end (b ∷ bs) e = go (b == 45) e
  where
    go : (t : Bool) → cond t (Some bs) None ≡ None → (t && bytes_eq bs (45 ∷ [])) ≡ false
    go true h = absurd (true≢false (ap is_some h))
    go false h = refl

plain_short : (word : Text) → behind_dash word ≡ None → short_of word ≡ None
plain_short word plain = ap (option_and_then short_of_rest) (strip_is word ∙ plain)

module _ (table : List Choice) where
  abbrev pub c : List Rule
  c = rules_built table

  abbrev pub s : Shape
  s = shape_with c

  -- ---- one use of an argument

  pub value_again : (name text : Text) (rows : List Row) → has_row name rows ≡ true → Fails (use_fault false (option_built name true) (text ∷ []) rows)
  value_again name text rows has = rw has some_fails

  pub value_first : (name text : Text) (rows : List Row) → has_row name rows ≡ false → use_fault false (option_built name true) (text ∷ []) rows ≡ []
  value_first name text rows has = rw has refl

  pub flag_again : (name : Text) (rows : List Row) → has_row name rows ≡ true → Fails (use_fault false (option_built name false) [] rows)
  flag_again name rows has = rw has some_fails

  pub flag_first : (name : Text) (rows : List Row) → has_row name rows ≡ false → use_fault false (option_built name false) [] rows ≡ []
  flag_first name rows has = rw has refl

  -- ---- a file word

  pub file_turn : (rows : List Row) (pending : Option (Text × List Text)) (skip : ℕ) (waiting : Waiting) (word : Text) → IsIdle waiting → behind_dash word ≡ None
      → turn_fault s [] (at rows pending skip waiting false) word ≡ settle_fault c false (held_at rows pending skip)
  file_turn rows pending skip idle word free plain =
      rw (strip_is word ∙ plain, plain_is_no_end word plain, plain_short word plain, by_index table, and_false (is_pending files_built pending)) refl
  file_turn rows pending skip positional word free plain =
      rw (strip_is word ∙ plain, plain_is_no_end word plain, plain_short word plain, by_index table, and_false (is_pending files_built pending)) refl
  file_turn rows pending skip (option id) word free plain = absurd free

  pub file_walked : (rows : List Row) (pending : Option (Text × List Text)) (skip : ℕ) (waiting : Waiting) (word : Text) → IsIdle waiting → behind_dash word ≡ None
      → walked c [] (at rows pending skip waiting false) word ≡ at (settled_rows c pending rows) (Some ([], word ∷ [])) skip positional false
  unfolding walked
  file_walked rows pending skip idle word free plain =
      rw (strip_is word ∙ plain, plain_is_no_end word plain, plain_short word plain, by_index table, and_false (is_pending files_built pending)) refl
  file_walked rows pending skip positional word free plain =
      rw (strip_is word ∙ plain, plain_is_no_end word plain, plain_short word plain, by_index table, and_false (is_pending files_built pending)) refl
  file_walked rows pending skip (option id) word free plain = absurd free

  -- ---- the word `--`, and a word behind it

  pub end_turn : (rows : List Row) (pending : Option (Text × List Text)) (skip : ℕ) (waiting : Waiting)
      → turn_fault s [] (at rows pending skip waiting false) (45 ∷ 45 ∷ []) ≡ []
  end_turn rows pending skip waiting = rw (no_subcommand waiting (45 ∷ 45 ∷ [])) refl

  pub end_walked : (rows : List Row) (pending : Option (Text × List Text)) (skip : ℕ) (waiting : Waiting)
      → walked c [] (at rows pending skip waiting false) (45 ∷ 45 ∷ []) ≡ at rows pending skip waiting true
  unfolding walked
  end_walked rows pending skip waiting = rw (no_subcommand waiting (45 ∷ 45 ∷ [])) refl

  pub behind_turn : (rows : List Row) (pending : Option (Text × List Text)) (skip : ℕ) (waiting : Waiting) (word : Text)
      → turn_fault s [] (at rows pending skip waiting true) word ≡ settle_fault c false (held_at rows pending skip)
  behind_turn rows pending skip waiting word = rw (by_index table, and_false (is_pending files_built pending)) refl

  pub behind_walked : (rows : List Row) (pending : Option (Text × List Text)) (skip : ℕ) (waiting : Waiting) (word : Text)
      → walked c [] (at rows pending skip waiting true) word ≡ at (settled_rows c pending rows) (Some ([], word ∷ [])) skip positional true
  unfolding walked
  behind_walked rows pending skip waiting word = rw (by_index table, and_false (is_pending files_built pending)) refl

  -- ---- a value behind its option

  pub value_turn : (rows : List Row) (skip : ℕ) (name word : Text) → behind_dash word ≡ None
      → turn_fault s [] (at rows (Some (name, [])) skip (option name) false) word ≡ []
  value_turn rows skip name word plain = rw (strip_is word ∙ plain, plain_is_no_end word plain, plain_short word plain) refl

  pub value_walked : (rows : List Row) (skip : ℕ) (name word : Text) → arg_by_id c name ≡ Some (option_built name true) → behind_dash word ≡ None
      → walked c [] (at rows (Some (name, [])) skip (option name) false) word ≡ at rows (Some (name, word ∷ [])) skip idle false
  unfolding walked
  value_walked rows skip name word found plain = rw (strip_is word ∙ plain, plain_is_no_end word plain, plain_short word plain, found, eq_same name) refl

  -- ---- a long option

  module _ (rows : List Row) (pending : Option (Text × List Text)) (skip : ℕ) (waiting : Waiting) (x : ℕ) (xs : Text) where
    abbrev pub option_word : Text
    option_word = 45 ∷ 45 ∷ x ∷ xs

    abbrev pub before : Walk
    before = at rows pending skip waiting false

    abbrev pub settles : Kinds
    settles = settle_fault c false (held_at rows pending skip)

    abbrev pub so_far : List Row
    so_far = settled_rows c pending rows

    abbrev pub name_in : Text
    name_in = (name_and_value (x ∷ xs)).0

    abbrev pub value_in : Option Text
    value_in = (name_and_value (x ∷ xs)).1

    pub unknown_turn : arg_by_long c name_in ≡ None → Fails (turn_fault s [] before option_word)
    unknown_turn found = rw (no_subcommand waiting option_word, found) some_fails

    module _ (name : Text) where
      pub unmet_turn : (takes_value : Bool) (value : Option Text) → arg_by_long c name_in ≡ Some (option_built name takes_value) → value_in ≡ value → Fails settles
          → Fails (turn_fault s [] before option_word)
      unmet_turn true (Some text) found has bad = rw (no_subcommand waiting option_word, found, has) (or_else_fails _ _ (or_else_fails _ _ bad))
      unmet_turn true None found has bad = rw (no_subcommand waiting option_word, found, has) (or_else_fails _ _ bad)
      unmet_turn false (Some text) found has bad = rw (no_subcommand waiting option_word, found, has) some_fails
      unmet_turn false None found has bad = rw (no_subcommand waiting option_word, found, has) (or_else_fails _ _ (or_else_fails _ _ bad))

      pub stray_value_turn : (text : Text) → arg_by_long c name_in ≡ Some (option_built name false) → value_in ≡ Some text → Fails (turn_fault s [] before option_word)
      stray_value_turn text found has = rw (no_subcommand waiting option_word, found, has) some_fails

      pub wants_turn : arg_by_long c name_in ≡ Some (option_built name true) → value_in ≡ None → settles ≡ [] → turn_fault s [] before option_word ≡ []
      wants_turn found has met = rw (no_subcommand waiting option_word, found, has, met) refl

      pub wants_walked : arg_by_long c name_in ≡ Some (option_built name true) → value_in ≡ None
          → walked c [] before option_word ≡ at so_far (Some (name, [])) skip (option name) false
      unfolding walked
      wants_walked found has = rw (no_subcommand waiting option_word, found, has) refl

      pub value_now_turn : (text : Text) → arg_by_long c name_in ≡ Some (option_built name true) → value_in ≡ Some text → settles ≡ [] → has_row name so_far ≡ false
          → turn_fault s [] before option_word ≡ []
      value_now_turn text found has met new = rw (no_subcommand waiting option_word, found, has, met, new) refl

      pub value_now_again : (text : Text) → arg_by_long c name_in ≡ Some (option_built name true) → value_in ≡ Some text → settles ≡ [] → has_row name so_far ≡ true
          → Fails (turn_fault s [] before option_word)
      value_now_again text found has met old = rw (no_subcommand waiting option_word, found, has, met, old) some_fails

      pub value_now_walked : (text : Text) → arg_by_long c name_in ≡ Some (option_built name true) → value_in ≡ Some text → has_row name so_far ≡ false
          → walked c [] before option_word ≡ at (so_far ++ row_of_use name AsWritten (text ∷ []) ∷ []) None skip idle false
      unfolding walked
      value_now_walked text found has new =
          rw (no_subcommand waiting option_word, found, has) (ap (λ rows. at rows None skip idle false) (set_new name AsWritten (text ∷ []) so_far new))

      pub flag_turn : arg_by_long c name_in ≡ Some (option_built name false) → value_in ≡ None → settles ≡ [] → has_row name so_far ≡ false
          → turn_fault s [] before option_word ≡ []
      flag_turn found has met new = rw (no_subcommand waiting option_word, found, has, met, new) refl

      pub flag_turn_again : arg_by_long c name_in ≡ Some (option_built name false) → value_in ≡ None → settles ≡ [] → has_row name so_far ≡ true
          → Fails (turn_fault s [] before option_word)
      flag_turn_again found has met old = rw (no_subcommand waiting option_word, found, has, met, old) some_fails

      pub flag_walked : arg_by_long c name_in ≡ Some (option_built name false) → value_in ≡ None → has_row name so_far ≡ false
          → walked c [] before option_word ≡ at (so_far ++ row_of_use name AsWritten (codes "true" ∷ []) ∷ []) None skip idle false
      unfolding walked
      flag_walked found has new =
          rw (no_subcommand waiting option_word, found, has) (ap (λ rows. at rows None skip idle false) (set_new name AsWritten (codes "true" ∷ []) so_far new))

-- Lines of words: the file words in them, and what they give to options.
use Rattle.std.specs.Prelude.{ℕ, ◌==◌, ◌&&◌, ◌||◌, not, if◌then◌else◌, Bool, true, false, List, [], ◌∷◌, ◌++◌, map, length, Option, Some, None, option_map, option_and_then, is_some, codes}
use Rattle.std.specs.List.{before_first, after_first, find, filter_map, list_any}
use Rattle.std.specs.Str.{bytes_eq}
use Rattle.words.specs.declared.line.Choice.{Choice as ChoiceFound}
use Rattle.words.specs.declared.line.Given.{Given as GivenFound}
use Rattle.words.specs.declared.line.Line.{Line as LineFound}

abbrev pub Text : Type 0
Text = List ℕ

-- an option of a command, and whether it takes a value or is a flag
pub record Choice : Type 0 where
  pub name : Text
  pub takes_value : Bool

-- an option that a line has, with its value where it takes one
pub record Given : Type 0 where
  pub name : Text
  pub value : Option Text

-- what a line comes to: its file words, and the options that it has, both in order
pub record Line : Type 0 where
  pub files : List Text
  pub given : List Given

abbrev pub no_words : Line
no_words = record { files = []; given = [] }

-- the text behind a first `-`
abbrev pub behind_dash : Text → Option Text
behind_dash [] = None
behind_dash (b ∷ bs) = if b == 45 then Some bs else None

abbrev pub has_dash : Text → Bool
has_dash word = is_some (behind_dash word)

-- the word `--`
abbrev pub is_end : Text → Bool
is_end word = bytes_eq word (codes "--")

abbrev pub is_equals : ℕ → Bool
is_equals b = b == 61

abbrev pub has_equals : Text → Bool
has_equals text = list_any is_equals text

-- `name=value` or `name`, as the name and the value
abbrev pub name_and_value : Text → Text × Option Text
name_and_value text = (before_first is_equals text, if has_equals text then Some (after_first is_equals text) else None)

-- the name and the value of the word `--name=value` or `--name`
abbrev pub long_of : Text → Option (Text × Option Text)
long_of word = option_map name_and_value (option_and_then behind_dash (behind_dash word))

abbrev pub is_named : Text → Choice → Bool
is_named name choice = bytes_eq choice.name name

abbrev pub choice_of : List Choice → Text → Option Choice
choice_of table name = find (is_named name) table

abbrev pub is_given : Text → Given → Bool
is_given name given = bytes_eq given.name name

-- what a line has of an option
abbrev pub look : Text → List Given → Option Given
look name given = find (is_given name) given

abbrev pub with_files : List Text → Line → Line
with_files files line = record line { files = line.files ++ files }

-- the line with one more option, which it may not have yet
abbrev pub with_given : Text → Option Text → Line → Option Line
with_given name value line =
    if is_some (look name line.given) then None
    else Some (record line { given = line.given ++ record { name = name; value = value } ∷ [] })

-- What a word `--name` or `--name=value` comes to: the line with it, and the option that wants the next word for its value.
abbrev pub option_part : Option Choice → Text → Option Text → Line → Option (Line × Option Text)
option_part None name value line = None
option_part (Some choice) name (Some value) line =
    if choice.takes_value then option_map (λ l. (l, None)) (with_given name (Some value) line) else None
option_part (Some choice) name None line =
    if choice.takes_value then Some (line, Some name) else option_map (λ l. (l, None)) (with_given name None line)

abbrev pub long_part : List Choice → Option (Text × Option Text) → Line → Option (Line × Option Text)
long_part table None line = None
long_part table (Some p) line = option_part (choice_of table p.0) p.0 p.1 line

-- what the next word comes to, behind an option that may want it
abbrev pub part : List Choice → Line → Option Text → Text → Option (Line × Option Text)
part table line (Some name) word = if has_dash word then None else option_map (λ l. (l, None)) (with_given name (Some word) line)
part table line None word = if has_dash word then long_part table (long_of word) line else Some (with_files (word ∷ []) line, None)

abbrev pub ends : Option Text → Text → Bool
ends (Some name) word = false
ends None word = is_end word

-- What more words make of a line. Behind the word `--` all are file words.
abbrev pub read_on : List Choice → Line → Option Text → List Text → Option Line
read_on table line (Some name) [] = None
read_on table line None [] = Some line
read_on table line wanting (word ∷ words) =
    if ends wanting word then Some (with_files words line)
    else option_and_then (λ p. read_on table p.0 p.1 words) (part table line wanting word)

-- the options in the order of the table
abbrev pub in_order : List Choice → Line → Line
in_order table line = record line { given = filter_map (λ choice. look choice.name line.given) table }

-- what a line of words comes to, by the options of its command: none where a word is out of place
abbrev pub line_of : List Choice → List Text → Option Line
line_of table words = option_map (in_order table) (read_on table no_words None words)

-- no name is empty, and no two are the same
abbrev pub is_table : List Choice → Bool
is_table [] = true
is_table (choice ∷ table) = not (length choice.name == 0) && (not (is_some (choice_of table choice.name)) && is_table table)

-- the word has a first `-`, and is no long option
abbrev pub is_short : Text → Bool
is_short word = has_dash word && not (is_some (option_and_then behind_dash (behind_dash word)))

-- there is such a word before the word `--`
abbrev pub has_short : List Text → Bool
has_short [] = false
has_short (word ∷ words) = if is_end word then false else is_short word || has_short words

-- the program's values, as the definitions see them
abbrev pub choice_shown : ChoiceFound → Choice
choice_shown choice = record { name = choice.name.now; takes_value = choice.takes_value }

abbrev pub given_shown : GivenFound → Given
given_shown given = record { name = given.name.now; value = option_map (λ value. value.now) given.value }

abbrev pub line_shown : LineFound → Line
line_shown line = record { files = map (λ file. file.now) line.files.items; given = map given_shown line.given.items }

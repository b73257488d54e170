-- What `clap` is asked, and how its matches are read.
use Rattle.std.specs.Prelude.{◌≡◌, ◌≢◌, MatchOption, ◌++◌, Bool, true, if◌then◌else◌, List, [], ◌∷◌, map, Option, Some, None, option_and_then, unwrap_or, codes}
use Rattle.std.specs.List.{filter_map}
use Rattle.std.specs.Str.{bytes_eq}
use Rattle.clap.specs.Words.{App, Row, Rule, all_of, fault_of, first_of, matches_of, new_app, new_rule}
use Rattle.clap.specs.declared.builder.action.ArgAction.{ArgAction}
use Rattle.clap.specs.declared.builder.action.ArgAction.TheVariants.{Set, SetTrue, Append}
use Rattle.words.specs.Lines.{Choice, Given, Line, Text}

abbrev pub action_for : Bool → ArgAction
action_for takes_value = if takes_value then Set else SetTrue

abbrev pub rule_for : Choice → Rule
rule_for choice = record (new_rule choice.name) { long = Some choice.name; action = Some (action_for choice.takes_value) }

-- the file words are the argument without a name
abbrev pub files_rule : Rule
files_rule = record (new_rule []) { action = Some Append }

abbrev pub rules_for : List Choice → List Rule
rules_for table = map rule_for table ++ files_rule ∷ []

abbrev pub app_with : List Rule → App
app_with rules =
    let app = new_app [] in
    record app { top = record app.top { rules = rules; no_binary_name = true; disable_help_flag = true; disable_version_flag = true } }

-- a simple command with the options of the table and with file words, without help and version
abbrev pub app_for : List Choice → App
app_for table = app_with (rules_for table)

-- what the text that the matches have of an option says
abbrev pub given_by : Choice → Text → Option Given
given_by choice text =
    if choice.takes_value then Some (record { name = choice.name; value = Some text })
    else (if bytes_eq text (codes "true") then Some (record { name = choice.name; value = None }) else None)

-- what the matches have of an option
abbrev pub given_in : List Row → Choice → Option Given
given_in rows choice = option_and_then (given_by choice) (first_of choice.name rows)

abbrev pub line_in : List Choice → List Row → Line
line_in table rows = record { files = unwrap_or (all_of [] rows) []; given = filter_map (given_in rows) table }

-- these are the matches of a line, or it has none
abbrev pub Found : List Choice → List Text → Option (List Row) → Type 0
Found table words found =
    MatchOption found (fault_of (app_for table) words ≢ []) (λ rows. (fault_of (app_for table) words ≡ []) × (rows ≡ matches_of (app_for table) words))

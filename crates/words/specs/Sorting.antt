-- Which line a list of words spells, as a relation with one case for each way to spell a part.
use Rattle.std.specs.Prelude.{◌≡◌, not, Bool, true, false, List, [], ◌∷◌, ◌++◌, Option, Some, None, codes}
use Rattle.std.specs.List.{list_all}
use Rattle.words.specs.Lines.{Choice, Line, Text, choice_of, has_dash, has_equals, in_order, look, no_words, with_files}

-- an option of the table that the line does not have yet
abbrev pub IsOption : List Choice → Text → Bool → Line → Type 0
IsOption table name takes_value line = (choice_of table name ≡ Some (record { name = name; takes_value = takes_value })) × (look name line.given ≡ None)

abbrev pub gives : Text → Option Text → Line → Line
gives name value line = record line { given = line.given ++ record { name = name; value = value } ∷ [] }

-- Behind the words of the first line, these words make the second.
pub data Sorts (table : List Choice) : Line → List Text → Line → Type 0 where
  end : (line : Line) → Sorts table line [] line
  rest : (line : Line) (files : List Text) → Sorts table line (codes "--" ∷ files) (with_files files line)
  file : (line : Line) (word : Text) (words : List Text) (whole : Line) → has_dash word ≡ false
      → Sorts table (with_files (word ∷ []) line) words whole → Sorts table line (word ∷ words) whole
  joined : (line : Line) (name value : Text) (words : List Text) (whole : Line) → IsOption table name true line
      → Sorts table (gives name (Some value) line) words whole → Sorts table line ((codes "--" ++ (name ++ (codes "=" ++ value))) ∷ words) whole
  apart : (line : Line) (name value : Text) (words : List Text) (whole : Line) → IsOption table name true line → has_dash value ≡ false
      → Sorts table (gives name (Some value) line) words whole → Sorts table line ((codes "--" ++ name) ∷ value ∷ words) whole
  flag : (line : Line) (name : Text) (words : List Text) (whole : Line) → IsOption table name false line
      → Sorts table (gives name None line) words whole → Sorts table line ((codes "--" ++ name) ∷ words) whole

-- no name has a `=`
abbrev pub has_plain_names : List Choice → Bool
has_plain_names table = list_all (λ choice. not (has_equals choice.name)) table

-- what a line of words comes to: the options of the one line that they spell, in the order of the table, or nothing where they spell none
abbrev pub Means : List Choice → List Text → Option Line → Type 0
Means table words None = (whole : Line) → Sorts table no_words words whole → ⊥
Means table words (Some line) = (whole : Line) × Sorts table no_words words whole × (line ≡ in_order table whole)

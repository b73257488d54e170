-- Functions that are made of numbers of rows, and what they stand for.
use Rattle.std.specs.Prelude.{ℕ, Bool, true, false, List, [], ◌∷◌, length, Option, Some, None}
use Rattle.type_table.specs.declared.row.Row.{Row}
use Rattle.type_table.specs.declared.row.Row.TheVariants as row
use Rattle.type_table.specs.declared.sort.Sort.{Sort}
use Rattle.lar_typed.specs.Stmts.{StmtsOf, PlainStmts}
use Rattle.lar_typed.specs.Trees.{FunctionOf, PlainFunction}
use Rattle.lar_typed.specs.Standing.{StmtsStand, FunctionStands}
use Rattle.lar_tree.specs.declared.item.AttributeWord.TheVariants as attribute
use Rattle.lar_tree.specs.Items.{PlainFn}
use Rattle.lar_rules.specs.Checked.{has_word}
use Rattle.lar_rules.specs.Signatures.{list_in}

abbrev pub number_before : Option ℕ → Option (List ℕ) → Option (List ℕ)
number_before (Some n) (Some ns) = Some (n ∷ ns)
number_before _ _ = None

-- the numbers, where each is there
abbrev pub all_there : List (Option ℕ) → Option (List ℕ)
all_there [] = Some []
all_there (n ∷ ns) = number_before n (all_there ns)

-- the function of these parts
abbrev pub function_made : List ℕ → PlainFn → List Sort → List ℕ → ℕ → StmtsOf ℕ → FunctionOf ℕ
function_made module_path f sorts locals outcome body = record {
  module_path = module_path;
  name = f.name.text;
  generics = sorts;
  params = length (list_in f.params);
  locals = locals;
  outcome = outcome;
  body = body;
  inlined = has_word attribute.Inline f.attributes;
  exported = has_word attribute.Export f.attributes;
  at = f.name.span;
}

-- the same, where each part is known
abbrev pub function_with : List ℕ → PlainFn → List Sort → Option (List ℕ) → Option ℕ → Option (StmtsOf ℕ) → Option (FunctionOf ℕ)
function_with module_path f sorts (Some locals) (Some outcome) (Some body) = Some (function_made module_path f sorts locals outcome body)
function_with module_path f sorts _ _ _ = None

-- both are none, or the first stands for the second
abbrev pub BodyStandsIf : List Row → Option (StmtsOf ℕ) → Option PlainStmts → Type 0
BodyStandsIf rows None None = Unit {0}
BodyStandsIf rows (Some b) (Some p) = StmtsStand rows b p
BodyStandsIf rows None (Some p) = ⊥
BodyStandsIf rows (Some b) None = ⊥

abbrev pub FunctionStandsIf : List Row → Option (FunctionOf ℕ) → Option PlainFunction → Type 0
FunctionStandsIf rows None None = Unit {0}
FunctionStandsIf rows (Some f) (Some p) = FunctionStands rows f p
FunctionStandsIf rows None (Some p) = ⊥
FunctionStandsIf rows (Some f) None = ⊥

abbrev pub is_end_row : Row → Bool
is_end_row row.End = true
is_end_row _ = false

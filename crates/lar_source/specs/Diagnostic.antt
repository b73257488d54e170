-- What a diagnostic says, and its line.
use Rattle.std.specs.Prelude.{ℕ, ◌≡◌, false, List, [], ◌∷◌, ◌++◌, length, codes}
use Rattle.std.specs.Fmt.{decimal}
use Rattle.lar_source.specs.declared.code.Code.{Code}
use Rattle.lar_source.specs.Code.{row, code_name, arity, filled}

pub record Diagnostic : Type 0 where
  pub code : Code
  pub file : List ℕ
  pub line : ℕ
  pub col : ℕ
  pub args : List (List ℕ)

-- it has an argument for each part in capitals of its text
abbrev pub IsDiagnostic : Diagnostic → Type 0
IsDiagnostic d = length d.args ≡ arity d.code

-- where it stands, before its code
abbrev pub place_text : List ℕ → ℕ → ℕ → List ℕ
place_text file line col = file ++ (codes ":" ++ (decimal line ++ (codes ":" ++ (decimal col ++ codes ": "))))

-- FILE:LINE:COL: CODE TEXT, and LF
abbrev pub line_of : Diagnostic → List ℕ
line_of d = place_text d.file d.line d.col ++ (code_name d.code ++ (32 ∷ [] ++ (filled false (row d.code).text d.args ++ 10 ∷ [])))

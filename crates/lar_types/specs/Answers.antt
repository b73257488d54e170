-- What is answered on the way, in the words of the rules.
use Rattle.std.specs.Prelude.{◌≡◌, ℕ, Bool, List, Option, Some, None, Result, Ok, Err}
use Rattle.lar_source.specs.Diagnostic.{Diagnostic}
use Rattle.lar_typed.specs.Trees.{PlainTree}
use Rattle.lar_typed.specs.TreeView.{Contents, plain}
use Rattle.lar_rules.specs.Declared.{Source, declared}
use Rattle.lar_rules.specs.Fault.{Fault}
use Rattle.lar_rules.specs.Faults.{main_or}
use Rattle.lar_rules.specs.Checked.{Checks}
use Rattle.lar_sound.specs.InOrder.{known_tree}
use Rattle.lar_types.specs.Checking.{diagnostic_of}

-- the least fault, and that of main only where there is no other
abbrev pub or_main : Option Fault → Bool → Option Fault
or_main (Some f) has_main = Some f
or_main None has_main = main_or has_main

-- a typed tree as the plain program
abbrev pub answer_view : Result Contents Fault → Result PlainTree Fault
answer_view (Ok t) = Ok (plain t)
answer_view (Err f) = Err f

-- the program with its types, unless this fault is told
abbrev pub unless_told : List Source → Option Fault → Result PlainTree Fault
unless_told sources None = Ok (known_tree (declared sources))
unless_told sources (Some f) = Err f

-- a diagnostic is that of the fault that the rules tell
pub record IsTold (names : List (List ℕ)) (sources : List Source) (d : Diagnostic) : Type 0 where
  pub told : Fault
  pub checks : Checks sources (Err told)
  pub is : d ≡ diagnostic_of names told

-- an answer is the one that the rules define
abbrev pub IsRuled : List (List ℕ) → List Source → Result PlainTree Diagnostic → Type 0
IsRuled names sources (Ok t) = Checks sources (Ok t)
IsRuled names sources (Err d) = IsTold names sources d

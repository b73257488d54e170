-- What is said of the codegen units of a program.
use Rattle.std.specs.Prelude.{◌≡◌, ℕ, List, [], Result, Ok, Err}
use Rattle.lar_bytes.specs.declared.memory.OrMemory.{OrMemory}
use Rattle.lar_bytes.specs.declared.memory.OrMemory.TheVariants.{Refused, Memory}
use Rattle.lar_source.specs.Diagnostic.{Diagnostic}
use Rattle.lar_typed.specs.Trees.{PlainTree}
use Rattle.lar_typed.specs.TreeView.{Contents, plain}
use Rattle.mono_items.specs.declared.items.MonoGraph.{MonoGraph}
use Rattle.mono_graph.specs.declared.refused.RefusedCall.{RefusedCall}
use Rattle.mono_graph.specs.Graphs.{IsGraphOf, instances}
use Rattle.mono_graph.specs.Instances.{PlainInstance}
use Rattle.program_units.specs.Collected.{collected}
use Rattle.program_units.specs.Units.{units_listed}
use Rattle.lar_types.specs.Checking.{name_of}

-- the diagnostic of a refused call, where the files have these names
abbrev pub refusal_of : List (List ℕ) → RefusedCall → Diagnostic
refusal_of names e = record { code = e.code; file = name_of names e.at.file; line = e.at.line; col = e.at.col; args = [] }

abbrev pub lines_or_refusal : List (List ℕ) → ℕ → PlainTree → Result (List PlainInstance) RefusedCall → Result (List ℕ) Diagnostic
lines_or_refusal names limit tree (Ok us) = Ok (units_listed tree limit us)
lines_or_refusal names limit tree (Err e) = Err (refusal_of names e)

-- the lines of the codegen units of a program, at most `limit`, or the diagnostic of its first refused call
abbrev pub listed : List (List ℕ) → ℕ → PlainTree → Result (List ℕ) Diagnostic
listed names limit tree = lines_or_refusal names limit tree (collected tree)

pub record IsRefusal (names : List (List ℕ)) (tree : PlainTree) (d : Diagnostic) : Type 0 where
  pub call : RefusedCall
  pub first : collected tree ≡ Err call
  pub is : d ≡ refusal_of names call

-- the graph of the program, or the diagnostic of its first refused call
abbrev pub GraphOrRefusal : List (List ℕ) → Contents → Result MonoGraph (OrMemory Diagnostic) → Type 0
GraphOrRefusal names tree (Ok graph) = IsGraphOf tree graph × (collected (plain tree) ≡ Ok (instances tree graph.items.items))
GraphOrRefusal names tree (Err (Refused d)) = IsRefusal names (plain tree) d
GraphOrRefusal names tree (Err Memory) = Unit {0}

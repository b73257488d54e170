-- The faults of a function: in its names, its types, its body, and where it may end without a value.
use Rattle.std.specs.Prelude.{ℕ, suc, Bool, true, false, ◌||◌, List, [], ◌∷◌, ◌++◌, map, Option, Some, None, if◌then◌else◌}
use Rattle.lar_source.specs.declared.file.Span.{Span}
use Rattle.lar_source.specs.declared.code.Code.TheVariants.{MayEndWithoutValue}
use Rattle.type_table.specs.TypeOf.{TypeOf, end, tuple}
use Rattle.lar_typed.specs.SameType.{same_type}
use Rattle.lar_typed.specs.Stmts.{PlainStmts}
use Rattle.lar_tree.specs.Stmts.{PlainBlock, block}
use Rattle.lar_tree.specs.Items.{PlainOutput}
use Rattle.lar_rules.specs.Fault.{Fault, fault}
use Rattle.lar_rules.specs.Declared.{Declared, Function}
use Rattle.lar_rules.specs.Generics.{function_generics}
use Rattle.lar_rules.specs.Written.{Site, written}
use Rattle.lar_rules.specs.Signatures.{Member, function_site, list_in, params, outcome}
use Rattle.lar_rules.specs.Judged.{Local}
use Rattle.lar_rules.specs.Bodies.{Body, State, Done, block_done, block_returns}
use Rattle.lar_rules.specs.Twice.{repeated}
use Rattle.lar_rules.specs.Structs.{field_faults}

abbrev pub numbered_locals : ℕ → List Member → List Local
numbered_locals k [] = []
numbered_locals k (m ∷ ms) = record { name = (m.0).text; number = k; of = m.1 } ∷ numbered_locals (suc k) ms

-- the parameters are the first locals; of two of one name the first is meant
abbrev pub entry_state : List Declared → Function → State
entry_state all x = record { locals = numbered_locals 0 (params all x); types = map (λ m. m.1) (params all x) }

abbrev pub body_of : List Declared → Function → Body
body_of all x = record { site = function_site all x; outcome = outcome all x }

abbrev pub output_faults : Site → Option PlainOutput → List Fault
output_faults s None = []
output_faults s (Some o) = (written s o.1).faults

abbrev pub block_close : PlainBlock → Span
block_close (block from ss to) = to

abbrev pub is_unit : Option TypeOf → Bool
is_unit None = true
is_unit (Some t) = same_type t (tuple end)

-- a function with another result than `()` returns
abbrev pub ending_faults : List Declared → Function → List Fault
ending_faults all x =
    if is_unit (outcome all x) || block_returns x.it.body then []
    else fault x.from.file (block_close x.it.body) MayEndWithoutValue (x.it.name.text ∷ []) ∷ []

abbrev pub body_done : List Declared → Function → Done PlainStmts
body_done all x = block_done (body_of all x) (entry_state all x) x.it.body

abbrev pub function_faults : List Declared → Function → List Fault
function_faults all x =
    repeated x.from.file [] (map (λ g. g.name) (function_generics x.it.generics) ++ map (λ p. p.0) (list_in x.it.params))
    ++ (field_faults (function_site all x) (list_in x.it.params)
    ++ (output_faults (function_site all x) x.it.output
    ++ ((body_done all x).faults
    ++ ending_faults all x)))

-- Calls: what is told before the arguments are judged and after, and what is known of the function that is called.
use Rattle.std.specs.Prelude.{◌≡◌, ℕ, List, [], ◌∷◌, ◌++◌, length, Option, Some, None}
use Rattle.type_table.specs.declared.row.Row.{Row}
use Rattle.lar_tree.specs.declared.name.Path.{Path}
use Rattle.lar_rules.specs.Fault.{Fault}
use Rattle.lar_rules.specs.Declared.{Function}
use Rattle.lar_rules.specs.Written.{Site, Given, all_given, unknown, Fitted, fitted}
use Rattle.lar_rules.specs.Signatures.{params, outcome, function_sorts}
use Rattle.lar_rules.specs.Judged.{Env, Judged, under}
use Rattle.lar_rules.specs.Judged as rules
use Rattle.lar_rules.specs.Exprs.{miscalled, mispassed}
use Rattle.lar_judge.specs.declared.callee.Callee.{Callee}
use Rattle.lar_judge.specs.Known.{type_if, IfWithin}
use Rattle.lar_judge.specs.Wanted.{types_if, AllIfWithin, wanted_types}

-- the generics that are given to a function
abbrev pub callee_generics : Site → Path → List Given → Function → Fitted
callee_generics s p gs f = fitted s p (function_sorts f) gs

-- of the path, its generics and the count of arguments
abbrev pub call_head : Site → Path → List Given → ℕ → Option Function → List Fault
call_head s p gs n None = unknown s p ∷ all_given gs
call_head s p gs n (Some f) = (callee_generics s p gs f).faults ++ miscalled s p (callee_generics s p gs f).counted (length (params s.all f)) n

-- of the arguments' types
abbrev pub call_tail : Site → Path → List Given → List Judged → Option Function → List Fault
call_tail s p gs js None = []
call_tail s p gs js (Some f) = mispassed s (callee_generics s p gs f).of (params s.all f) js

-- and where the call has no place
abbrev pub call_rest : Env → Path → List Given → List Judged → Option Function → List Fault
call_rest env p gs js f = call_tail env.site p gs js f ++ (rules.unless_asserting env p.first.span None []).faults

-- what is known of a function that is called with these generics
pub record IsCallee (rows : List Row) (c : Callee) (s : Site) (p : Path) (gs : List Given) (f : Function) : Type 0 where
  pub numbered : c.number ≡ f.number
  pub generics_within : IfWithin rows c.generics
  pub given : type_if rows c.generics ≡ (callee_generics s p gs f).of
  pub wanted_within : AllIfWithin rows c.wanted.items
  pub asks : types_if rows c.wanted.items ≡ wanted_types (callee_generics s p gs f).of (params s.all f)
  pub outcome_within : IfWithin rows c.outcome
  pub gives : type_if rows c.outcome ≡ under (callee_generics s p gs f).of (outcome s.all f)

abbrev pub CalleeIs : List Row → Site → Path → List Given → Option Callee → Option Function → Type 0
CalleeIs rows s p gs None None = Unit {0}
CalleeIs rows s p gs (Some c) (Some f) = IsCallee rows c s p gs f
CalleeIs rows s p gs _ _ = ⊥

-- its types are rows of the table
abbrev pub CalleeWithin : List Row → Option Callee → Type 0
CalleeWithin rows None = Unit {0}
CalleeWithin rows (Some c) = IfWithin rows c.generics × AllIfWithin rows c.wanted.items × IfWithin rows c.outcome

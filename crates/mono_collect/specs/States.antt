-- What is known while calls are read.
use Rattle.std.specs.Prelude.{◌≡◌, ℕ, ◌+◌, ◌<◌, ◌≤◌, List, map, length, slice_get, Some, Result, Ok, Err, Vec}
use Rattle.std.specs.List.{AllByRecursion}
use Rattle.std.specs.Global.{Global}
use Rattle.lar_bytes.specs.declared.memory.OrMemory.{OrMemory}
use Rattle.lar_bytes.specs.declared.memory.OrMemory.TheVariants.{Refused, Memory}
use Rattle.type_table.specs.declared.row.Row.{Row}
use Rattle.type_table.specs.TypeOf.{TypeOf}
use Rattle.lar_typed.specs.Calls.{CallOf}
use Rattle.lar_typed.specs.TreeView.{Contents, plain}
use Rattle.mono_items.specs.declared.items.Instance.{Instance}
use Rattle.mono_bodies.specs.declared.calls.PatternCall.{PatternCall}
use Rattle.mono_graph.specs.declared.refused.RefusedCall.{RefusedCall}
use Rattle.mono_graph.specs.Instances.{PlainInstance, instance_view, target, calls_of, roots}
use Rattle.mono_graph.specs.Reading.{read_call, after, IsAll, IsRefused}
use Rattle.mono_graph.specs.Graphs.{placed, targets}
use Rattle.mono_graph.proofs.Read.{before, Extends}
use Rattle.mono_collect.specs.Arguments.{call_by}

-- what instances of the code stand for
abbrev pub views : List Row → List Instance → List PlainInstance
views rows us = map (instance_view rows) us

-- each instance is one of functions and lists that are there
pub record AreInside (tree : Contents) (us : List Instance) : Type 0 where
  pub functions : AllByRecursion (λ x. x.function < length tree.functions) us
  pub arguments : AllByRecursion (λ x. x.arguments < length tree.rows) us

-- a call is read, and its target is at the place
pub record CallRead (old new : Contents) (limit : ℕ) (us ws : List Instance) (c : CallOf TypeOf) (p : ℕ) : Type 0 where
  pub few : length ws ≤ limit
  pub inside : AreInside new ws
  pub read : read_call limit (views old.rows us) c ≡ Ok (views new.rows ws)
  pub at : slice_get (views new.rows ws) p ≡ Some (target c)

abbrev pub CallEnds : Contents → Contents → ℕ → List Instance → List Instance → CallOf TypeOf → Result ℕ (OrMemory RefusedCall) → Type 0
CallEnds old new limit us ws c (Ok p) = CallRead old new limit us ws c p
CallEnds old new limit us ws c (Err (Refused e)) = read_call limit (views old.rows us) c ≡ Err e
CallEnds old new limit us ws c (Err Memory) = Unit {0}

-- n calls are read, and these instances are found
pub record HasRead (tree : Contents) (limit n : ℕ) (us : List Instance) : Type 0 where
  pub few : length us ≤ limit
  pub inside : AreInside tree us
  pub read : after (calls_of (plain tree)) limit (roots (plain tree)) n ≡ Ok (views tree.rows us)

-- the calls of the instances before place i are read
abbrev pub ReadBefore : Contents → ℕ → ℕ → List Instance → Type 0
ReadBefore tree limit i us = HasRead tree limit (before (calls_of (plain tree)) i (views tree.rows us)) us

-- the patterns name functions and rows that are there, and are those of the instance's calls
pub record ArePatterns (tree : Contents) (x : Instance) (patterns : List PatternCall) : Type 0 where
  pub callees : AllByRecursion (λ c. c.callee < length tree.functions) patterns
  pub generics : AllByRecursion (λ c. c.generics < length tree.rows) patterns
  pub are : calls_of (plain tree) (instance_view tree.rows x) ≡ map (call_by tree.rows x.arguments) patterns

-- the calls of the instance at place i are read too, and its row has the places of their targets
pub record RowRead (old new : Contents) (limit i : ℕ) (x : Instance) (us ws : List Instance) (row : List ℕ) : Type 0 where
  pub read : ReadBefore new limit (i + 1) ws
  pub extends : Extends (views old.rows us) (views new.rows ws)
  pub at : map (slice_get (views new.rows ws)) row ≡ map (λ c. Some (target c)) (calls_of (plain old) (instance_view old.rows x))

abbrev pub RowEnds : Contents → Contents → ℕ → ℕ → Instance → List Instance → List Instance → Result (Vec ℕ Global) (OrMemory RefusedCall) → Type 0
RowEnds old new limit i x us ws (Ok row) = RowRead old new limit i x us ws row.items
RowEnds old new limit i x us ws (Err (Refused e)) = IsRefused (calls_of (plain old)) limit (roots (plain old)) e
RowEnds old new limit i x us ws (Err Memory) = Unit {0}

-- all calls are read, and the rows have the places of their targets
pub record AllRead (tree : Contents) (limit : ℕ) (us : List Instance) (rows : List (Vec ℕ Global)) : Type 0 where
  pub inside : AreInside tree us
  pub all : IsAll (calls_of (plain tree)) limit (roots (plain tree)) (views tree.rows us)
  pub callees : placed (views tree.rows us) rows ≡ targets (plain tree) (views tree.rows us)

abbrev pub WalkEnds : Contents → ℕ → List Instance → Result (Vec (Vec ℕ Global) Global) (OrMemory RefusedCall) → Type 0
WalkEnds tree limit us (Ok rows) = AllRead tree limit us rows.items
WalkEnds tree limit us (Err (Refused e)) = IsRefused (calls_of (plain tree)) limit (roots (plain tree)) e
WalkEnds tree limit us (Err Memory) = Unit {0}

-- Instances that name no generic.
use Rattle.std.specs.Prelude.{◌≡◌, ◌<◌, true, [], length, slice_get, Some}
use Rattle.type_table.specs.Lawful.{these, fits}
use Rattle.lar_typed.specs.Lawful.{struct_sorts}
use Rattle.lar_typed.specs.Trees.{PlainFunction, PlainTree}
use Rattle.mono_graph.specs.Instances.{PlainInstance}

-- a function that is there, with arguments of the sorts of its generics; no generic stands in them
pub record IsClosed (tree : PlainTree) (x : PlainInstance) : Type 0 where
  pub there : x.function < length tree.functions
  pub arguments : (f : PlainFunction) → slice_get tree.functions x.function ≡ Some f → fits (struct_sorts tree.structs) [] x.arguments (these f.generics) ≡ true

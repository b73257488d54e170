-- Instances whose arguments are those that their functions ask for.
use Rattle.std.specs.Prelude.{◌≡◌, true, [], slice_get, Some}
use Rattle.type_table.specs.Lawful.{these, fits}
use Rattle.lar_typed.specs.Lawful.{struct_sorts}
use Rattle.lar_typed.specs.Trees.{PlainFunction, PlainTree}
use Rattle.mono_graph.specs.Instances.{PlainInstance}

-- its function is there, and its arguments are of the sorts of the function's generics and name no generic
pub record IsLawful (tree : PlainTree) (x : PlainInstance) : Type 0 where
  pub function : PlainFunction
  pub there : slice_get tree.functions x.function ≡ Some function
  pub fit : fits (struct_sorts tree.structs) [] x.arguments (these function.generics) ≡ true

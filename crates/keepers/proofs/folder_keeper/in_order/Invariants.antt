use Rattle.std.proofs.Common.{◌≡◌, ◌++◌}
use Rattle.std.specs.List.Sorted.{IsStrictlySortedBy}
use Rattle.std.specs.String.{string_cmp}
use Rattle.keepers.proofs.folder_keeper.in_order.Given as goal

abbrev pub invariant-loop-name : goal.invariant-loop-name
invariant-loop-name l = record {
  all : l.list.items ++ l.name-iterator ≡ l.fn.names.keys;
  ordered : IsStrictlySortedBy string_cmp l.fn.names.keys;
}

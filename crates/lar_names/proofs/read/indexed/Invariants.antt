use Rattle.std.proofs.Common.{◌≡◌, ◌≤◌, [], length, map, take}
use Rattle.lar_rules.specs.Fault.{least}
use Rattle.lar_rules.specs.Twice.{repeated_items}
use Rattle.lar_names.specs.Declarations.{declared_view}
use Rattle.lar_names.specs.Indexed.{IsIndex}
use Rattle.lar_names.proofs.read.indexed.Given as goal

abbrev pub invariant-loop-declaration : goal.invariant-loop-declaration
invariant-loop-declaration l = record {
  tables : length l.scopes ≤ length l.index.known.maps.items;
  index : IsIndex l.scopes (take l.declaration-index l.declared) l.index.structs.items l.index.consts.items l.index.functions.items l.index.known.maps.items;
  told : l.first ≡ least l.fn.first (repeated_items [] (map (declared_view l.scopes) (take l.declaration-index l.declared)));
}

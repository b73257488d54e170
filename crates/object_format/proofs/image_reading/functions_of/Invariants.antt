use Rattle.std.proofs.Common.{◌≡◌, ◌-◌, []}
use Rattle.object_format.specs.Reading.{items_at, linked_behind}
use Rattle.object_format.proofs.image_reading.functions_of.Given as goal

abbrev pub invariant-loop : goal.invariant-loop
invariant-loop l = items_at (linked_behind l.version l.count) (l.count - l.counter) l.functions l.rest ≡ items_at (linked_behind l.version l.count) l.count [] l.initial.rest

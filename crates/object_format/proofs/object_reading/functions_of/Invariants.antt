use Rattle.std.proofs.Common.{◌≡◌, ◌-◌}
use Rattle.object_format.specs.Reading.{items_at}
use Rattle.object_format.specs.ObjectReading.{unlinked_behind}
use Rattle.object_format.proofs.object_reading.functions_of.Given as goal

abbrev pub invariant-loop : goal.invariant-loop
invariant-loop l = items_at (unlinked_behind l.version) (l.count - l.counter) l.draft l.rest ≡ items_at (unlinked_behind l.version) l.count l.initial.draft l.initial.rest

use Rattle.std.proofs.Common.{◌≡◌, ◌-◌}
use Rattle.object_format.specs.Reading.{items_at}
use Rattle.object_format.specs.ObjectReading.{external_behind}
use Rattle.object_format.proofs.object_reading.externals_of.Given as goal

abbrev pub invariant-loop : goal.invariant-loop
invariant-loop l = items_at external_behind (l.count - l.counter) l.draft l.rest ≡ items_at external_behind l.count l.initial.draft l.initial.rest

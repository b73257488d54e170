use Rattle.std.proofs.Common.{◌≡◌, map, take}
use Rattle.lar_judge.specs.Making.{names}
use Rattle.lar_site.proofs.making.field_names.Given as goal

abbrev pub invariant-loop-field : goal.invariant-loop-field
invariant-loop-field l = names l.names.items ≡ map (λ m. m.name.now) (take l.field-index l.fields)

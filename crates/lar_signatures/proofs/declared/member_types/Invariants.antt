use Rattle.std.proofs.Common.{◌≡◌, map, take}
use Rattle.lar_signatures.proofs.declared.member_types.Given as goal

abbrev pub invariant-loop-member : goal.invariant-loop-member
invariant-loop-member l = l.types.items ≡ map (λ m. m.of) (take l.member-index l.members)

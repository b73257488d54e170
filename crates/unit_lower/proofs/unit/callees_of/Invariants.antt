use Rattle.std.proofs.Common.{◌≡◌, [], ◌++◌, map, take}
use Rattle.unit_lower.specs.ScopeView.{signature_view}
use Rattle.unit_lower.proofs.Functions.{sig_of, external_sig_of}
use Rattle.unit_lower.proofs.unit.callees_of.Given as goal

abbrev pub invariant-loop-f : goal.invariant-loop-f
invariant-loop-f l = map signature_view l.callees.items ≡ [] ++ map sig_of (take l.f-index l.functions)

abbrev pub invariant-loop-external : goal.invariant-loop-external
invariant-loop-external l = map signature_view l.callees.items ≡ map sig_of l.unit.functions ++ map external_sig_of (take l.external-index l.externals)

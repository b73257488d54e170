use Rattle.std.proofs.Common.{subst, List, ◌∙◌}
use Rattle.lar_rules.specs.Declared.{Declared}
use Rattle.lar_names.specs.NamesView.{names_view}
use Rattle.lar_assembled.specs.Programs.{ItemsStand}
use Rattle.lar_types.proofs.DepthFacts.{depths_are}
use Rattle.lar_types.proofs.checking.checked_trees.Goals as goal

pub read-requires-2 : goal.read-requires-2
read-requires-2 c = c.depths.ensures (names_view c.in_ok-names.names) c.deref.result.now (depths_are (names_view c.in_ok-names.names) c.deref.result.now (c.deref.ensures.value ∙ c.in_ok-depths.ensures))

pub ended-requires-clause-stand : goal.ended-requires-clause-stand
ended-requires-clause-stand c =
    let all = names_view c.in_ok-names.names in
    let stand = c.grown.ensures c.read-2.new.types c.checked_functions.new.types all c.in_ok-signatures.signatures c.checked_functions.ensures.kept c.in_ok-signatures.ensures.stand in
    subst (λ (ds : List Declared). ItemsStand c.checked_functions.new.types ds c.in_ok-signatures.signatures.decls c.in_ok-consts.consts c.in_ok-functions.functions) c.in_ok-names.ensures.names
    (record {
      structs_stand = record { within = c.in_order.ensures.within c.checked_functions.new.types all c.in_ok-signatures.signatures stand; are = c.in_order.ensures.are c.checked_functions.new.types all c.in_ok-signatures.signatures stand };
      consts_are = c.in_ok-consts.ensures;
      functions_stand = c.in_ok-functions.ensures.of;
    })

use Rattle.std.proofs.Common.{◌≡◌, [], ◌++◌, length, map, sym, ap, ◌∙◌, subst}
use Rattle.lar_rules.specs.Declared.{declared}
use Rattle.lar_rules.specs.Fault.{least}
use Rattle.lar_rules.specs.Faults.{past_limit, max_functions}
use Rattle.lar_rules.specs.Twice.{repeated_items}
use Rattle.lar_names.specs.Declarations.{declared_view, AllWithin}
use Rattle.lar_names.specs.Indexed.{IsIndex}
use Rattle.lar_names.specs.Sources.{sources_of}
use Rattle.lar_names.proofs.ReadFacts.{are_within, told_both}
use Rattle.lar_names.proofs.names.Names.read.Goals as goal

pub indexed-requires : goal.indexed-requires
indexed-requires c =
    let reads = c.in_ok-found.ensures in
    let ls = c.in_ok-found.found.scopes in
    are_within (length ls) c.deref.result.now (subst (AllWithin (length ls)) (sym (c.deref.ensures.value ∙ reads.is)) reads.within)

pub invariant_of-result : goal.invariant_of-result
invariant_of-result c =
    let reads = c.in_ok-found.ensures in
    let ls = c.in_ok-found.found.scopes in
    let i = c.in_ok-index.index in
    let index = subst (λ ds. IsIndex ls ds i.structs.items i.consts.items i.functions.items i.known.maps.items) c.deref.ensures.value c.in_ok-index.ensures.index in
    record {
      scoped = are_within (length ls) c.in_ok-found.found.declared.items (subst (AllWithin (length ls)) (sym reads.is) reads.within);
      entries = index.entries;
      items = index.items;
    }

pub returns-clause-names : goal.returns-clause-names
unfolding declared
returns-clause-names c =
    let reads = c.in_ok-found.ensures in
    ap (map (declared_view c.in_ok-found.found.scopes)) reads.is ∙ reads.view

pub returns-clause-told : goal.returns-clause-told
unfolding declared
returns-clause-told c =
    let reads = c.in_ok-found.ensures in
    let ls = c.in_ok-found.found.scopes in
    let ds = c.deref.result.now in
    let all : map (declared_view ls) ds ≡ declared (sources_of c.args.trees.now) = ap (map (declared_view ls)) (c.deref.ensures.value ∙ reads.is) ∙ reads.view in
    told_both c.args.first.now c.indexed.new.first c.past_limit.new.first (repeated_items [] (map (declared_view ls) ds)) (past_limit (map (declared_view ls) ds) max_functions) c.in_ok-index.ensures.told (c.in_ok-past_limit.ensures ls ds c.in_ok-index.ensures.index)
    ∙ ap (λ xs. least c.args.first.now (repeated_items [] xs ++ past_limit xs max_functions)) all

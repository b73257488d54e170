use Rattle.std.proofs.Common.{[], map, take, sym, ap, ◌∙◌, subst, arith}
use Rattle.std.specs.Prelude.{Some}
use Rattle.std.proofs.lemmas.Option.{slice_get-get_or}
use Rattle.lar_rules.specs.Fault.{least}
use Rattle.lar_rules.specs.Twice.{repeated_items}
use Rattle.lar_names.specs.Declarations.{declared_view}
use Rattle.lar_names.specs.Indexed.{IsIndex}
use Rattle.lar_names.proofs.IndexFacts.{least_nil}
use Rattle.lar_names.proofs.ReadFacts.{take_one, told_more}
use Rattle.lar_names.proofs.read.indexed.Goals as goal

pub loop-declaration-init : goal.loop-declaration-init
loop-declaration-init c = record {
  tables = (let e = c.in_ok-index.ensures.entries.counted in omega (arith, e));
  index = c.in_ok-index.ensures;
  told = sym (least_nil c.args.first.now);
}

pub add-requires-clause-scope : goal.add-requires-clause-scope
add-requires-clause-scope c =
    let x = c.declaration-item.result in
    let i = c.loop-declaration.declaration-index in
    c.requires.each i x (slice_get-get_or c.args.declared.now i x c.loop-declaration-test.true ∙ ap Some (sym c.declaration-item.is))

pub loop-declaration-preserved : goal.loop-declaration-preserved
loop-declaration-preserved c =
    let x = c.declaration-item.result in
    let ls = c.args.scopes.now in
    let before = take c.loop-declaration.declaration-index c.args.declared.now in
    let one = take_one c.args.declared.now c.loop-declaration.declaration-index x c.loop-declaration-test.true c.declaration-item.is in
    let index = c.loop-declaration.invariant.index in
    record {
      tables = (let a = c.add.ensures.tables in let b = c.loop-declaration.invariant.tables in omega (arith, a, b));
      index = subst (λ ds. IsIndex ls ds c.add.new.self.structs.items c.add.new.self.consts.items c.add.new.self.functions.items c.add.new.self.known.maps.items) (sym one) (c.in_ok-add.ensures.index before index);
      told = told_more ls before x c.args.first.now c.loop-declaration.first c.add.new.first c.loop-declaration.invariant.told (c.in_ok-add.ensures.told before index) ∙ ap (λ ds. least c.args.first.now (repeated_items [] (map (declared_view ls) ds))) (sym one);
    }

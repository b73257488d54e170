use Rattle.lar_names.specs.Items.{struct_item}
use Rattle.lar_names.specs.NamesView.{names_view, scope_lists}
use Rattle.lar_names.specs.Numbered.{struct_at}
use Rattle.lar_written.proofs.Standings.{keeps_twice}
use Rattle.lar_signatures.specs.Noted.{faults_of_struct}
use Rattle.lar_signatures.specs.Signatures.{StructStands}
use Rattle.lar_signatures.proofs.Each.{each_step}
use Rattle.lar_signatures.proofs.Grown.{struct_grown}
use Rattle.lar_signatures.proofs.Noting.{noted_further, noted_end}
use Rattle.lar_signatures.proofs.Reading.{depth_within, depth_is}
use Rattle.lar_signatures.proofs.structure.read_structs.Goals as goal

pub bounds-depths-number : goal.bounds-depths-number
bounds-depths-number c =
    depth_within (names_view c.args.names.now) c.args.depths.now (struct_item (scope_lists c.args.names.now)) c.structs-item-items.result.now c.loop-number.number c.item-item.result c.requires c.structs-item-items.ensures.each c.item-item.is c.loop-number-test.true

pub loop-number-preserved : goal.loop-number-preserved
loop-number-preserved c =
    let all = names_view c.args.names.now in
    let view = struct_item (scope_lists c.args.names.now) in
    let items = c.structs-item-items.result.now in
    record {
      kept = keeps_twice c.args.types.now c.loop-number.types c.read_struct.new.types c.loop-number.invariant.kept c.read_struct.ensures.kept;
      of = each_step (λ n s p. StructStands c.loop-number.types all s (struct_at n p)) (λ n s p. StructStands c.read_struct.new.types all s (struct_at n p)) view items c.loop-number.number c.item-item.result c.loop-number.out.items c.push.new.self.items c.in_ok-signature.signature
          (λ n s p st. struct_grown c.loop-number.types c.read_struct.new.types all s (struct_at n p) c.read_struct.ensures.kept st) c.item-item.is c.loop-number-test.true c.loop-number.invariant.of c.in_ok-push.ensures.items (c.in_ok-signature.ensures.of c.loop-number.number);
      told = noted_further (faults_of_struct all) view items c.loop-number.number c.item-item.result c.loop-number.first c.read_struct.new.first _ c.item-item.is c.loop-number-test.true c.loop-number.invariant.told
          (c.in_ok-signature.ensures.told c.loop-number.number (depth_is all c.args.depths.now view items c.loop-number.number c.item-item.result c.requires c.structs-item-items.ensures.each c.item-item.is c.loop-number-test.true));
    }

pub returns-clause-told : goal.returns-clause-told
returns-clause-told c =
    noted_end (faults_of_struct (names_view c.args.names.now)) (struct_item (scope_lists c.args.names.now)) c.structs-item-items.result.now c.loop-number.number _ c.loop-number.first c.args.first.now c.loop-number-test.false c.structs-item-items.ensures.all c.loop-number.invariant.told

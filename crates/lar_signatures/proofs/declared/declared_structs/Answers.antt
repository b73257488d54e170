use Rattle.lar_names.specs.Items.{struct_item}
use Rattle.lar_names.specs.NamesView.{names_view, scope_lists}
use Rattle.lar_names.specs.Numbered.{struct_at}
use Rattle.lar_written.proofs.Standings.{keeps_twice}
use Rattle.lar_signatures.specs.Signatures.{StructStands, DeclStands}
use Rattle.lar_signatures.proofs.Declaring.{signature_within, signature_at, signature_inside}
use Rattle.lar_signatures.proofs.Each.{each_step}
use Rattle.lar_signatures.proofs.Grown.{struct_grown, decl_grown}
use Rattle.lar_signatures.proofs.Reading.{depth_within, depth_is}
use Rattle.lar_signatures.proofs.declared.declared_structs.Goals as goal

pub bounds-signatures-number : goal.bounds-signatures-number
bounds-signatures-number c =
    signature_within (λ n s p. StructStands c.args.types.now (names_view c.args.names.now) s (struct_at n p)) (struct_item (scope_lists c.args.names.now)) c.args.signatures.now c.structs-item-items.result.now _ c.loop-number.number c.requires.stand c.structs-item-items.ensures.all c.loop-number-test.true

pub bounds-depths-number : goal.bounds-depths-number
bounds-depths-number c =
    depth_within (names_view c.args.names.now) c.args.depths.now (struct_item (scope_lists c.args.names.now)) c.structs-item-items.result.now c.loop-number.number c.item-item.result c.requires.depths c.structs-item-items.ensures.each c.item-item.is c.loop-number-test.true

pub declared_struct-requires : goal.declared_struct-requires
declared_struct-requires c =
    let within = signature_within (λ n s p. StructStands c.args.types.now (names_view c.args.names.now) s (struct_at n p)) (struct_item (scope_lists c.args.names.now)) c.args.signatures.now c.structs-item-items.result.now _ c.loop-number.number c.requires.stand c.structs-item-items.ensures.all c.loop-number-test.true in
    signature_inside c.args.types.now c.loop-number.types (names_view c.args.names.now) c.index-signatures-number.result (struct_at c.loop-number.number (struct_item (scope_lists c.args.names.now) c.item-item.result)) c.loop-number.invariant.kept
    (signature_at c.args.types.now c.args.names.now c.args.signatures.now c.structs-item-items.result.now _ c.loop-number.number c.item-item.result c.index-signatures-number.result c.requires.stand c.structs-item-items.ensures.all c.item-item.is c.loop-number-test.true c.index-signatures-number.is within)

pub loop-number-preserved : goal.loop-number-preserved
loop-number-preserved c =
    let all = names_view c.args.names.now in
    let view = struct_item (scope_lists c.args.names.now) in
    let items = c.structs-item-items.result.now in
    let within = signature_within (λ n s p. StructStands c.args.types.now all s (struct_at n p)) view c.args.signatures.now items _ c.loop-number.number c.requires.stand c.structs-item-items.ensures.all c.loop-number-test.true in
    let stands = struct_grown c.args.types.now c.loop-number.types all c.index-signatures-number.result (struct_at c.loop-number.number (view c.item-item.result)) c.loop-number.invariant.kept
    (signature_at c.args.types.now c.args.names.now c.args.signatures.now items _ c.loop-number.number c.item-item.result c.index-signatures-number.result c.requires.stand c.structs-item-items.ensures.all c.item-item.is c.loop-number-test.true c.index-signatures-number.is within) in
    record {
      kept = keeps_twice c.args.types.now c.loop-number.types c.declared_struct.new.types c.loop-number.invariant.kept c.declared_struct.ensures.kept;
      of = each_step (λ n d p. DeclStands c.loop-number.types all d (struct_at n p)) (λ n d p. DeclStands c.declared_struct.new.types all d (struct_at n p)) view items c.loop-number.number c.item-item.result c.loop-number.out c.push.new.self c.in_ok-declared_struct.field-0
          (λ n d p st. decl_grown c.loop-number.types c.declared_struct.new.types all d (struct_at n p) c.declared_struct.ensures.kept st) c.item-item.is c.loop-number-test.true c.loop-number.invariant.of c.in_ok-push.ensures.ok
          (c.in_ok-declared_struct.ensures.of c.loop-number.number (depth_is all c.args.depths.now view items c.loop-number.number c.item-item.result c.requires.depths c.structs-item-items.ensures.each c.item-item.is c.loop-number-test.true) stands);
    }

use Rattle.std.proofs.lemmas.Result.{on_ok_weaker}
use Rattle.lar_signatures.proofs.Reading.{two_lists}
use Rattle.lar_signatures.proofs.structure.note_names.Goals as goal

pub returns : goal.returns
returns c =
    on_ok_weaker c.note_repeated-2.result (λ e. two_lists c.args.item.now.file _ _ c.deref.result.now c.deref-2.result.now c.in_ok-generic_names.field-0.items c.in_ok-member_names.field-0.items c.args.first.now c.note_repeated.new.first c.note_repeated-2.new.first c.deref.ensures.value c.in_ok-generic_names.ensures c.deref-2.ensures.value c.in_ok-member_names.ensures c.in_ok-note_repeated.ensures e) c.note_repeated-2.ensures

use Rattle.std.proofs.lemmas.Result.{on_ok_weaker}
use Rattle.lar_signatures.proofs.Reading.{one_list}
use Rattle.lar_signatures.proofs.function.note_names.Goals as goal

pub returns : goal.returns
returns c =
    on_ok_weaker c.note_repeated.result (λ e. one_list c.args.item.now.file _ c.deref.result.now c.in_ok-all.all.items c.args.first.now c.note_repeated.new.first c.deref.ensures.value c.in_ok-all.ensures e) c.note_repeated.ensures

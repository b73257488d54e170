use Rattle.std.proofs.Common.{◌∙◌, ap}
use Rattle.type_table.specs.Rows.{type_at}
use Rattle.lar_rules.specs.Fault.{kept}
use Rattle.lar_judge.proofs.Printing.{other_same, two_texts}
use Rattle.lar_judge.proofs.here.Here.note_other_type.Goals as goal

pub returns : goal.returns
returns c s h = c.note.ensures ∙ ap (kept c.args.first.now)
    (other_same c.args.self.now s c.args.at (type_at c.args.types.now c.args.wanted) (type_at c.args.types.now c.args.found) c.push-2.new.self h
    (two_texts _ _ _ _ _ _ _ c.new-args.ensures c.in_ok-push.ensures.ok c.in_ok-push-2.ensures.ok c.in_ok-printed.ensures c.in_ok-printed-2.ensures))

use Rattle.std.proofs.Common.{List, sym, ap, ◌∙◌, arith}
use Rattle.std.proofs.Common.{rules, w64}
use Rattle.std.proofs.lemmas.Int.{to_z-of_z}
use Rattle.opt_known.specs.declared.entry.Entry.{Entry}
use Rattle.opt_known.specs.Facts.{is_word}
use Rattle.opt_known.specs.Table.{fact_view, outside, counts, facts_in}
use Rattle.opt_known.proofs.Times.{get_or-behind, facts_in-at}
use Rattle.opt_known.proofs.facts.Facts.of.Goals as goal

pub returns-then-slot-len : goal.returns-then-slot-len
unfolding facts_in outside
returns-then-slot-len c = sym (ap (λ e. counts c.args.self.now.entries.items e.learned (fact_view e.fact)) (get_or-behind c.args.self.now.entries.items c.args.slot outside (omega arith)))

pub returns-in-Nothing : goal.returns-in-Nothing
returns-in-Nothing c =
    let xs : List Entry = c.args.self.now.entries.items in
    sym (facts_in-at xs c.args.slot c.index-entry.result.now (omega arith) c.index-entry.ensures ∙ ap (λ f. counts xs c.index-entry.result.now.learned (fact_view f)) c.in-Nothing.is)

pub returns-in-Word : goal.returns-in-Word
returns-in-Word c =
    let xs : List Entry = c.args.self.now.entries.items in
    ap is_word (to_z-of_z w64 c.in-Word.value (search rules))
    ∙ sym (facts_in-at xs c.args.slot c.index-entry.result.now (omega arith) c.index-entry.ensures ∙ ap (λ f. counts xs c.index-entry.result.now.learned (fact_view f)) c.in-Word.is)

pub returns-in-Slot : goal.returns-in-Slot
returns-in-Slot c =
    let xs : List Entry = c.args.self.now.entries.items in
    c.unless_put.ensures
    ∙ sym (facts_in-at xs c.args.slot c.index-entry.result.now (omega arith) c.index-entry.ensures ∙ ap (λ f. counts xs c.index-entry.result.now.learned (fact_view f)) c.in-Slot.is)

use Rattle.std.proofs.lemmas.Result.{on_ok_weaker}
use Rattle.lar_signatures.proofs.Reading.{nested_noted, nested_none}
use Rattle.lar_signatures.proofs.structure.note_nesting.Goals as goal

pub returns-then-depth-eq-MAX_CHAIN : goal.returns-then-depth-eq-MAX_CHAIN
returns-then-depth-eq-MAX_CHAIN c =
    on_ok_weaker c.note_name.result (λ e. nested_noted c.args.file c.args.name.now c.args.depth c.args.first.now c.note_name.new.self c.if-depth-eq-MAX_CHAIN.true e) c.note_name.ensures.ok

pub returns : goal.returns
returns c = nested_none c.args.file c.args.name.now c.args.depth c.args.first.now c.if-depth-eq-MAX_CHAIN.false

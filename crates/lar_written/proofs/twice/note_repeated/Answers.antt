use Rattle.std.proofs.Common.{ℕ, ◌≡◌, ap, sym, ◌∙◌, refl, take, ◌-◌, arith}
use Rattle.lar_rules.specs.Fault.{least}
use Rattle.lar_written.specs.Names.{names, twice_if}
use Rattle.lar_written.proofs.NameLists.{repeated_further, repeated_end}
use Rattle.lar_written.proofs.twice.note_repeated.Goals as goal

pub loop-at-preserved : goal.loop-at-preserved
loop-at-preserved c =
    repeated_further c.args.file c.args.all.now (take c.loop-at.at c.args.all.now) c.loop-at.at c.index-all-at.result c.loop-at.first c.note_if_twice.new.first _ c.loop-at-test.true refl (c.in_ok-note_if_twice.ensures ∙ ap (λ y. least c.loop-at.first (twice_if c.args.file (names (take c.loop-at.at c.args.all.now)) y.now)) c.index-all-at.is) c.loop-at.invariant

pub returns : goal.returns
returns c = repeated_end c.args.file c.args.all.now c.loop-at.at c.loop-at.first _ c.loop-at-test.false c.loop-at.invariant

use Rattle.std.proofs.Common.{arith}
use Rattle.std.proofs.lemmas.Result.{err_from_is_err_and}
use Rattle.larch_cli.proofs.Writing.{written, unwritten, written_all}
use Rattle.larch_cli.proofs.generate.write_all.Goals as goal

pub returns-in_err-write_file : goal.returns-in_err-write_file
returns-in_err-write_file g c out err =
    c.loop-source.invariant.leads out err _ _ (unwritten c.args.sources.now c.loop-source.source-index c.source-item.result c.loop-source-test.true c.source-item.is _ _ _ _ (err_from_is_err_and _ c.from_residual.ensures.1) (rw (c.as_str.ensures.text, c.as_slice.ensures) at (c.in_err-write_file.ensures out err)))

pub loop-source-preserved : goal.loop-source-preserved
loop-source-preserved g c = record {
  within = omega arith;
  leads = λ out err new result f. c.loop-source.invariant.leads out err new result (written c.args.sources.now c.loop-source.source-index c.source-item.result c.loop-source-test.true c.source-item.is _ _ _ _ (rw (c.as_str.ensures.text, c.as_slice.ensures) at (c.in_ok-write_file.ensures out err)) f);
}

pub returns : goal.returns
returns g c out err = c.loop-source.invariant.leads out err _ _ (written_all _ _ _ c.loop-source-test.false)

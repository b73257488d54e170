use Rattle.std.proofs.lemmas.Result.{err_from_is_err_and}
use Rattle.std.proofs.Common.{ap, arith}
use Rattle.scripts.proofs.Following.{wanted}
use Rattle.larch_cli.specs.Steps.{objects_shown}
use Rattle.larch_cli.proofs.Gathering.{gathered, gathers, short_on, ungathered}
use Rattle.larch_cli.proofs.link.read_objects.Goals as goal

pub returns-in_err-bytes-clause-follows : goal.returns-in_err-bytes-clause-follows
returns-in_err-bytes-clause-follows g c out err =
    let p = err_from_is_err_and _ c.from_residual.ensures.1 in
    c.loop-name.invariant.leads out err _ _ (ungathered c.args.names.now c.loop-name.name-index c.name-item.result c.loop-name-test.true c.name-item.is _ _ _ _ _ (p.0, ap objects_shown p.1, p.2) (rw c.as_str.ensures.text at c.in_err-bytes.ensures out err))

pub returns-in_err-decoded-clause-follows : goal.returns-in_err-decoded-clause-follows
returns-in_err-decoded-clause-follows g c out err =
    let p = err_from_is_err_and _ c.from_residual-in_err-decoded.ensures.1 in
    c.loop-name.invariant.leads out err _ _ (gathers c.args.names.now c.loop-name.name-index c.name-item.result c.loop-name-test.true c.name-item.is _ _ _ _ _ _ (rw c.as_str.ensures.text at c.in_ok-bytes.ensures out err) (wanted _ _ _ _ (p.0, ap objects_shown p.1, p.2)))

pub loop-name-preserved : goal.loop-name-preserved
loop-name-preserved g c = record {
  within = omega arith;
  short = rw c.in_ok-decoded.ensures (short_on c.loop-name.name-index _ (objects_shown c.loop-name.decoded) _ c.loop-name.invariant.short);
  leads = λ out err new result f. c.loop-name.invariant.leads out err new result (gathers c.args.names.now c.loop-name.name-index c.name-item.result c.loop-name-test.true c.name-item.is _ _ _ _ _ _ (rw c.as_str.ensures.text at c.in_ok-bytes.ensures out err) (rw c.in_ok-decoded.ensures at f));
}

pub returns-clause-follows : goal.returns-clause-follows
returns-clause-follows g c out err = c.loop-name.invariant.leads out err _ _ (gathered _ _ _ _ c.loop-name-test.false)

use Rattle.std.proofs.lemmas.Result.{err_from_is_err_and}
use Rattle.scripts.proofs.Following.{failed, follows_on, wanted}
use Rattle.larch_cli.proofs.run.run_image.Goals as goal

pub returns-in_err-bytes : goal.returns-in_err-bytes
returns-in_err-bytes g c err = failed _ _ _ _ _ _ _ (err_from_is_err_and _ c.from_residual.ensures.1) (rw c.as_str.ensures.text at c.in_err-bytes.ensures _ err)

pub returns-in_err-valid : goal.returns-in_err-valid
returns-in_err-valid g c err =
    follows_on _ _ _ _ _ _ _ _ (rw c.as_str.ensures.text at c.in_ok-bytes.ensures _ err) (failed _ _ _ _ _ _ _ (err_from_is_err_and _ c.from_residual-in_err-valid.ensures.1) (c.in_err-valid.ensures _))

pub returns-in_err-reserve : goal.returns-in_err-reserve
returns-in_err-reserve g c err =
    follows_on _ _ _ _ _ _ _ _ (rw c.as_str.ensures.text at c.in_ok-bytes.ensures _ err) (follows_on _ _ _ _ _ _ _ _ (c.in_ok-valid.ensures _) (wanted _ _ _ _ (err_from_is_err_and _ c.from_residual-in_err-reserve.ensures.1)))

pub returns : goal.returns
returns g c err =
    follows_on _ _ _ _ _ _ _ _ (rw c.as_str.ensures.text at c.in_ok-bytes.ensures _ err) (follows_on _ _ _ _ _ _ _ _ (c.in_ok-valid.ensures _) (rw c.in_ok-reserve.ensures.done at c.print_run.ensures _ err))

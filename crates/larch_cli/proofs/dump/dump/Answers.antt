use Rattle.std.proofs.lemmas.Result.{err_from_is_err_and}
use Rattle.scripts.proofs.Following.{failed, follows_on}
use Rattle.larch_cli.proofs.dump.dump.Goals as goal

pub returns-in_err-bytes : goal.returns-in_err-bytes
returns-in_err-bytes g c err = failed _ _ _ _ _ _ _ (err_from_is_err_and _ c.from_residual.ensures.1) (rw c.as_str.ensures.text at c.in_err-bytes.ensures _ err)

pub returns-in_err-listed : goal.returns-in_err-listed
returns-in_err-listed g c err =
    follows_on _ _ _ _ _ _ _ _ (rw c.as_str.ensures.text at c.in_ok-bytes.ensures _ err) (failed _ _ _ _ _ _ _ (err_from_is_err_and _ c.from_residual-in_err-listed.ensures.1) (c.in_err-listed.ensures _))

pub returns : goal.returns
returns g c err =
    follows_on _ _ _ _ _ _ _ _ (rw c.as_str.ensures.text at c.in_ok-bytes.ensures _ err) (follows_on _ _ _ _ _ _ _ _ (c.in_ok-listed.ensures _) (c.put_listing.ensures _ err))

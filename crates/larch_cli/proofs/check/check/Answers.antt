use Rattle.std.proofs.lemmas.Result.{err_from_is_err_and}
use Rattle.scripts.proofs.Following.{failed, follows_on}
use Rattle.larch_cli.proofs.ReadingSources.{are_named, few}
use Rattle.larch_cli.proofs.check.check.Goals as goal

pub returns-in_err-sources : goal.returns-in_err-sources
returns-in_err-sources g c err = failed _ _ _ _ _ _ _ (err_from_is_err_and _ c.from_residual.ensures.1) (rw c.as_slice.ensures.names at c.in_err-sources.ensures.follows _ err)

pub typed-requires-clause-few : goal.typed-requires-clause-few
typed-requires-clause-few g c = rw c.deref.ensures.value (few c.in_ok-sources.sources.items c.as_slice.result.now c.as_slice.ensures.lawful c.in_ok-sources.ensures.named)

pub typed-requires-clause-named : goal.typed-requires-clause-named
typed-requires-clause-named g c = rw c.deref.ensures.value (are_named c.in_ok-sources.sources.items c.as_slice.result.now c.as_slice.ensures.lawful c.in_ok-sources.ensures.named)

pub returns-in_err-typed : goal.returns-in_err-typed
returns-in_err-typed g c err =
    follows_on _ _ _ _ _ _ _ _ (rw c.as_slice.ensures.names at c.in_ok-sources.ensures.follows _ err) (failed _ _ _ _ _ _ _ (err_from_is_err_and _ c.from_residual-in_err-typed.ensures.1) (rw c.deref.ensures.value at c.in_err-typed.ensures _))

pub returns : goal.returns
returns g c err =
    follows_on _ _ _ _ _ _ _ _ (rw c.as_slice.ensures.names at c.in_ok-sources.ensures.follows _ err) (follows_on _ _ _ _ _ _ _ _ (rw c.deref.ensures.value at c.in_ok-typed.ensures _) (c.put_text.ensures _ err))

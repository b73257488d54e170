use Rattle.std.proofs.lemmas.Result.{err_from_is_err_and}
use Rattle.scripts.proofs.Following.{failed, follows_on}
use Rattle.larch_cli.proofs.ReadingSources.{are_named, few}
use Rattle.larch_cli.proofs.units.units.Goals as goal

pub returns-in_err-sources : goal.returns-in_err-sources
returns-in_err-sources g c err = failed _ _ _ _ _ _ _ (err_from_is_err_and _ c.from_residual.ensures.1) (rw c.as_slice.ensures.names at c.in_err-sources.ensures.follows _ err)

pub typed-requires-clause-few : goal.typed-requires-clause-few
typed-requires-clause-few g c = rw c.deref.ensures.value (few c.in_ok-sources.sources.items c.as_slice.result.now c.as_slice.ensures.lawful c.in_ok-sources.ensures.named)

pub typed-requires-clause-named : goal.typed-requires-clause-named
typed-requires-clause-named g c = rw c.deref.ensures.value (are_named c.in_ok-sources.sources.items c.as_slice.result.now c.as_slice.ensures.lawful c.in_ok-sources.ensures.named)

pub returns-in_err-tree : goal.returns-in_err-tree
returns-in_err-tree g c err =
    follows_on _ _ _ _ _ _ _ _ (rw c.as_slice.ensures.names at c.in_ok-sources.ensures.follows _ err) (failed _ _ _ _ _ _ _ (err_from_is_err_and _ c.from_residual-in_err-tree.ensures.1) (rw c.deref.ensures.value at c.in_err-tree.ensures _))

pub returns-in_err-text : goal.returns-in_err-text
returns-in_err-text g c err =
    follows_on _ _ _ _ _ _ _ _ (rw c.as_slice.ensures.names at c.in_ok-sources.ensures.follows _ err) (follows_on _ _ _ _ _ _ _ _ (rw c.deref.ensures.value at c.in_ok-tree.ensures _)
    (failed _ _ _ _ _ _ _ (err_from_is_err_and _ c.from_residual-in_err-text.ensures.1) (rw (c.deref-2.ensures.value, c.get.ensures.number) at c.in_err-text.ensures _)))

pub returns : goal.returns
returns g c err =
    follows_on _ _ _ _ _ _ _ _ (rw c.as_slice.ensures.names at c.in_ok-sources.ensures.follows _ err) (follows_on _ _ _ _ _ _ _ _ (rw c.deref.ensures.value at c.in_ok-tree.ensures _)
    (follows_on _ _ _ _ _ _ _ _ (rw (c.deref-2.ensures.value, c.get.ensures.number) at c.in_ok-text.ensures _) (rw c.deref-3.ensures.value at c.put_text.ensures _ err)))

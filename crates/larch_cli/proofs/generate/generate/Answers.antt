use Rattle.std.proofs.Common.{◌≡◌, length, rules}
use Rattle.std.proofs.lemmas.Result.{err_from_is_err_and}
use Rattle.scripts.proofs.Following.{failed, follows_on}
use Rattle.source_gen.specs.Sources.{files_of}
use Rattle.larch_cli.specs.Spelled.{wrote_line}
use Rattle.larch_cli.proofs.generate.generate.Goals as goal

pub returns-in_err-write_all : goal.returns-in_err-write_all
returns-in_err-write_all g c err =
    let r = c.args.recipe.now in
    let made : c.as_slice.result.now ≡ files_of r.seed r.modules = search rules in
    failed _ _ _ _ _ _ _ (err_from_is_err_and _ c.from_residual-in_err-write_all.ensures.1) (rw made at c.in_err-write_all.ensures _ err)

pub returns : goal.returns
returns g c err =
    let r = c.args.recipe.now in
    let made : c.as_slice.result.now ≡ files_of r.seed r.modules = search rules in
    let line : c.as_bytes.result.now ≡ wrote_line (length (files_of r.seed r.modules)) = search rules in
    follows_on _ _ _ _ _ _ _ _ (rw made at c.in_ok-write_all.ensures _ err) (rw line at c.put_text.ensures _ err)

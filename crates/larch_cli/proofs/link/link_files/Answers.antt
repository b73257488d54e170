use Rattle.std.proofs.Common.{◌≡◌, rules}
use Rattle.std.proofs.lemmas.Result.{err_from_is_err_and}
use Rattle.object_format.specs.Image.{image_spelling}
use Rattle.larch_cli.specs.Spelled.{functions_line}
use Rattle.scripts.proofs.Following.{failed, follows_on, wanted}
use Rattle.larch_cli.proofs.link.link_files.Goals as goal

pub returns-in_err-objects : goal.returns-in_err-objects
returns-in_err-objects g c err = failed _ _ _ _ _ _ _ (err_from_is_err_and _ c.from_residual.ensures.1) (rw c.as_slice.ensures.names at c.in_err-objects.ensures.follows _ err)

pub returns-in_err-image : goal.returns-in_err-image
returns-in_err-image g c err =
    follows_on _ _ _ _ _ _ _ _ (rw c.as_slice.ensures.names at c.in_ok-objects.ensures.follows _ err) (failed _ _ _ _ _ _ _ (err_from_is_err_and _ c.from_residual-in_err-image.ensures.1) (rw c.as_slice-2.ensures.value at c.in_err-image.ensures _))

pub returns-in_err-line : goal.returns-in_err-line
returns-in_err-line g c err =
    follows_on _ _ _ _ _ _ _ _ (rw c.as_slice.ensures.names at c.in_ok-objects.ensures.follows _ err) (follows_on _ _ _ _ _ _ _ _ (rw c.as_slice-2.ensures.value at c.in_ok-image.ensures _)
    (wanted _ _ _ _ (err_from_is_err_and _ c.from_residual-in_err-line.ensures.1)))

pub returns-in_err-bytes : goal.returns-in_err-bytes
returns-in_err-bytes g c err =
    follows_on _ _ _ _ _ _ _ _ (rw c.as_slice.ensures.names at c.in_ok-objects.ensures.follows _ err) (follows_on _ _ _ _ _ _ _ _ (rw c.as_slice-2.ensures.value at c.in_ok-image.ensures _)
    (wanted _ _ _ _ (err_from_is_err_and _ c.from_residual-in_err-bytes.ensures.1)))

pub returns-in_err-write_file : goal.returns-in_err-write_file
returns-in_err-write_file g c err =
    let made : c.as_slice-3.result.now ≡ image_spelling c.in_ok-image.image = search rules in
    follows_on _ _ _ _ _ _ _ _ (rw c.as_slice.ensures.names at c.in_ok-objects.ensures.follows _ err) (follows_on _ _ _ _ _ _ _ _ (rw c.as_slice-2.ensures.value at c.in_ok-image.ensures _)
    (failed _ _ _ _ _ _ _ (err_from_is_err_and _ c.from_residual-in_err-write_file.ensures.1) (rw (c.as_str.ensures.text, made) at c.in_err-write_file.ensures _ err)))

pub returns : goal.returns
returns g c err =
    let made : c.as_slice-3.result.now ≡ image_spelling c.in_ok-image.image = search rules in
    let line : c.as_bytes.result.now ≡ functions_line c.in_ok-image.image = search rules in
    follows_on _ _ _ _ _ _ _ _ (rw c.as_slice.ensures.names at c.in_ok-objects.ensures.follows _ err) (follows_on _ _ _ _ _ _ _ _ (rw c.as_slice-2.ensures.value at c.in_ok-image.ensures _)
    (follows_on _ _ _ _ _ _ _ _ (rw (c.as_str.ensures.text, made) at c.in_ok-write_file.ensures _ err) (rw line at c.put_text.ensures _ err)))

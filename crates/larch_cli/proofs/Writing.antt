-- Files that are written one after the other.
use Rattle.std.proofs.Common.{◌≡◌, ◌∙◌, ℕ, ◌+◌, ◌<◌, ◌≤◌, List, ◌∷◌, length, drop, get_or, Result, Ok, Err, sym, ap, subst}
use Rattle.std.proofs.lemmas.List.{drop_more, drop_all}
use Rattle.lar_source.specs.declared.file.File.{File}
use Rattle.scripts.specs.Following.{Follows}
use Rattle.scripts.specs.Outside.{Outside}
use Rattle.scripts.proofs.Following.{follows_on, failed}
use Rattle.larch_cli.specs.Commands.{reasons, save, save_all}
use Rattle.larch_cli.specs.declared.status.Status.{Status}
use Rattle.larch_cli.proofs.Following.{ends}

module _ (files : List File) (place : ℕ) (file : File) (below : place < length files) (is : file ≡ get_or files place file) where
  at_place : save_all (drop place files) ≡ save_all (file ∷ drop (place + 1) files)
  at_place = ap save_all (drop_more files place file below ∙ ap (λ (f : File). f ∷ drop (place + 1) files) (sym is))

  -- the file at the place was written
  pub written : (old mid new : Outside) (result : Result (Unit {0}) Status) → Follows reasons (save file.name file.bytes) old mid (Ok tt) → Follows reasons (save_all (drop (place + 1) files)) mid new result
      → Follows reasons (save_all (drop place files)) old new result
  written old mid new result wrote f = subst (λ s. Follows reasons s old new result) (sym at_place) (follows_on reasons _ _ _ _ _ _ _ wrote f)

  -- it could not be
  pub unwritten : (old new : Outside) (e : Status) (r : Result (Unit {0}) Status) → (x : Status) × (r ≡ Err x) × (x ≡ e) → Follows reasons (save file.name file.bytes) old new (Err e) → Follows reasons (save_all (drop place files)) old new r
  unwritten old new e r why wrote = subst (λ s. Follows reasons s old new r) (sym at_place) (failed reasons _ _ _ _ _ _ why wrote)

-- all were written
pub written_all : (files : List File) (place : ℕ) (o : Outside) → length files ≤ place → Follows reasons (save_all (drop place files)) o o (Ok tt)
written_all files place o all = subst (λ n. Follows reasons (save_all n) o o (Ok tt)) (sym (drop_all place files all)) (ends tt o)

-- Files that are read one after the other.
use Rattle.std.proofs.Common.{◌≡◌, ◌∙◌, ℕ, ◌+◌, ◌<◌, ◌≤◌, List, [], ◌∷◌, length, drop, get_or, Result, Ok, Err, sym, ap, subst, arith, length-append}
use Rattle.std.proofs.lemmas.List.{drop_more, drop_all}
use Rattle.object_format.specs.Object.{Unlinked}
use Rattle.object_format.specs.ObjectReading.{object_at}
use Rattle.object_format.specs.declared.fault.BadFile.{BadFile}
use Rattle.scripts.specs.Following.{Follows}
use Rattle.scripts.specs.Outside.{Outside}
use Rattle.scripts.proofs.Following.{follows_on, failed}
use Rattle.larch_cli.specs.Commands.{fetch, gather, reasons}
use Rattle.larch_cli.specs.Spelled.{limited, with_file}
use Rattle.larch_cli.specs.declared.status.Status.{Status}
use Rattle.larch_cli.proofs.Following.{gives}

-- no more objects than files so far
abbrev pub IsShort : ℕ → Result (List Unlinked) Status → Type 0
IsShort place (Ok objects) = length objects ≤ place
IsShort place (Err s) = Unit {0}

pub short_on : (place : ℕ) (name : List ℕ) (decoded : Result (List Unlinked) Status) (spelled : Result Unlinked BadFile) → IsShort place decoded → IsShort (place + 1) (with_file decoded name spelled)
short_on place name (Ok objects) (Ok object) short = omega (arith, length-append objects (object ∷ []))
short_on place name (Ok objects) (Err fault) short = tt
short_on place name (Err s) spelled short = tt

module _ (names : List (List ℕ)) (place : ℕ) (name : List ℕ) (below : place < length names) (is : name ≡ get_or names place name) (decoded : Result (List Unlinked) Status) where
  at_place : gather decoded (drop place names) ≡ gather decoded (name ∷ drop (place + 1) names)
  at_place = ap (gather decoded) (drop_more names place name below ∙ ap (λ (n : List ℕ). n ∷ drop (place + 1) names) (sym is))

  -- the file at the place was read
  pub gathers : (bytes : List ℕ) (old mid new : Outside) (result : Result (List Unlinked) Status) → Follows reasons (fetch name 67108865) old mid (Ok bytes)
      → Follows reasons (gather (with_file decoded name (limited object_at bytes)) (drop (place + 1) names)) mid new result → Follows reasons (gather decoded (drop place names)) old new result
  gathers bytes old mid new result read f = subst (λ s. Follows reasons s old new result) (sym at_place) (follows_on reasons _ _ _ _ _ _ _ read f)

  -- it could not be
  pub ungathered : (old new : Outside) (e : Status) (r : Result (List Unlinked) Status) → (x : Status) × (r ≡ Err x) × (x ≡ e) → Follows reasons (fetch name 67108865) old new (Err e)
      → Follows reasons (gather decoded (drop place names)) old new r
  ungathered old new e r why read = subst (λ s. Follows reasons s old new r) (sym at_place) (failed reasons _ _ _ _ _ _ why read)

-- all were read
pub gathered : (names : List (List ℕ)) (place : ℕ) (decoded : Result (List Unlinked) Status) (o : Outside) → length names ≤ place → Follows reasons (gather decoded (drop place names)) o o decoded
gathered names place decoded o all = subst (λ n. Follows reasons (gather decoded n) o o decoded) (sym (drop_all place names all)) (gives decoded o)

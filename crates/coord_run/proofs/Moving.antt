-- Each step on a channel keeps its rule.
use Rattle.std.proofs.Common.{◌≡◌, ℕ, zero, suc, List, [], ◌∷◌, ◌++◌, set, Option, Some, None, sym, refl, ◌∙◌, subst, ⊎_elim, rules, arith}
use Rattle.std.proofs.lemmas.List.Elements.{All-push}
use mathlib.Core.Option.{some, some-ne-none, some-injective}
use lib.ListN.{get_elem?}
use Rattle.atomic_table.proofs.Lists.{at_snoc, set_again}
use Rattle.crossbeam_channel.specs.Fifo.{Pushes, Pops, Forks}
use Rattle.coord_run.specs.Rules.{FitsIfAny, Kept, Fitting}

module _ {T W : Type 0} (Fit : W → T → Type 0) where
  pub opens : (v : Option W) → Kept Fit [] (v ∷ [])
  opens v = record { work = v; same = first; fit = search rules }
    where
      first : (i : ℕ) (u : Option W) → get_elem? (v ∷ []) i ≡ some u → u ≡ v
      first zero u e = sym (some-injective _ _ e)
      first (suc i) u e = absurd (some-ne-none u (sym e))

  pub sends : (n pass : ℕ) (v : Option W) (x : T) → FitsIfAny Fit v x → Pushes (Kept Fit) n pass v x (Fitting Fit v x)
  sends n pass v x fits items views room kept at = (
    v,
    subst (Kept Fit (items ++ x ∷ [])) (sym (set_again views pass v at))
        (record { work = kept.work; same = kept.same; fit = All-push (FitsIfAny Fit kept.work) items x kept.fit (subst (λ (u : Option W). FitsIfAny Fit u x) (kept.same pass v at) fits) }),
    (refl, fits),
  )

  pub receives : (pass : ℕ) (v : Option W) → Pops (Kept Fit) pass v (Fitting Fit v)
  receives pass v x items views kept at = (
    v,
    subst (Kept Fit items) (sym (set_again views pass v at)) (record { work = kept.work; same = kept.same; fit = λ k d low. kept.fit (suc k) d (omega arith) }),
    (refl, subst (λ (u : Option W). FitsIfAny Fit u x) (sym (kept.same pass v at)) (kept.fit zero x (omega arith))),
  )

  pub forks : (pass : ℕ) (v : Option W) → Forks (Kept Fit) pass v v v
  forks pass v items views kept at = record {
    work = kept.work;
    same = λ i u e. ⊎_elim (λ (old : get_elem? (set views pass v) i ≡ some u). kept.same i u (subst (λ (l : List (Option W)). get_elem? l i ≡ some u) (set_again views pass v at) old)) (λ (new : v ≡ u). sym new ∙ kept.same pass v at) (at_snoc (set views pass v) v u i e);
    fit = kept.fit;
  }

-- a message that fits every work
pub fits_any : {W T : Type 0} (Fit : W → T → Type 0) (x : T) → ((w : W) → Fit w x) → (v : Option W) → FitsIfAny Fit v x
fits_any Fit x all (Some w) = all w
fits_any Fit x all None = tt

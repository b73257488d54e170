-- What an awaited event changes.
use Rattle.std.proofs.Common.{◌≡◌, ℕ, ◌+◌, ◌≤◌, ltb, min, Bool, true, false, ◌||◌, cond, [], ◌∷◌, length, None, sym, refl, ap, arith}
use Rattle.counting.specs.Count.{times}
use Rattle.coord_core.specs.declared.event.Event.{Event}
use Rattle.coord_core.specs.declared.event.Event.TheVariants.{Took, Empty, TakeFault, Generated, GenFailed, Made, MakeFailed, Wanted, Gave, GiveFault}
use Rattle.coord_core.specs.State.{State, one_some, times_some, queued_at, is_gen, runs, placed}
use Rattle.coord_core.specs.Effect.{wanted, effect}
use Rattle.coord_core.specs.Run.{is_awaited}
use Rattle.coord_core.specs.Laws.{Told}
use Rattle.coord_core.proofs.Jobs.{running_at-without, length-without, payers-without, paid_at-without, queued_at-placed, kept_to-fewer, kept_if-fewer, times-bytes_without, length-bytes_without}

pub told : (e : Event) (s : State) → is_awaited s e ≡ true → s.spare ≡ None → Told e s (effect e s)
told (Took b) s out none = let z : one_some s.spare ≡ 0 = ap one_some none in record { running = λ x. omega arith; count = omega arith; queue = λ x. omega arith; giving = λ x. omega arith; gen = refl; asking = refl; bytes = omega arith; byte = λ x. let y : times_some x s.spare ≡ 0 = ap (times_some x) none in omega arith; next = refl; terms = refl }
told Empty s out none = record { running = λ x. omega arith; count = omega arith; queue = λ x. omega arith; giving = λ x. omega arith; gen = refl; asking = refl; bytes = omega arith; byte = λ x. omega arith; next = refl; terms = refl }
told TakeFault s out none = record { running = λ x. omega arith; count = omega arith; queue = λ x. omega arith; giving = λ x. omega arith; gen = refl; asking = refl; bytes = omega arith; byte = λ x. omega arith; next = refl; terms = refl }
told (Generated i c) s out none = record { running = λ x. omega arith; count = omega arith; queue = λ x. by x (ltb i s.bar); giving = λ x. omega arith; gen = refl; asking = refl; bytes = omega arith; byte = λ x. omega arith; next = refl; terms = refl }
  where
    by : (x : ℕ) (t : Bool) → queued_at x (cond t (placed (record { cost = c; unit = i }) s.queue) s.queue) ≤ queued_at x s.queue + times x (i ∷ [])
    by x true = let q = queued_at-placed x (record { cost = c; unit = i }) s.queue in omega arith
    by x false = omega arith
told (GenFailed i) s out none = record { running = λ x. omega arith; count = omega arith; queue = λ x. let q = kept_if-fewer s.terms.keep x (min s.bar i) s.queue in omega arith; giving = λ x. omega arith; gen = refl; asking = refl; bytes = omega arith; byte = λ x. omega arith; next = refl; terms = refl }
told (Made i) s out none = let z : one_some s.spare ≡ 0 = ap one_some none in let l = length-without i s.running out in let p = payers-without i s.running out in record { running = λ x. let r = running_at-without x i s.running out in omega arith; count = omega arith; queue = λ x. omega arith; giving = λ x. omega arith; gen = refl; asking = refl; bytes = omega arith; byte = λ x. let y : times_some x s.spare ≡ 0 = ap (times_some x) none in let r = paid_at-without x i s.running out in omega arith; next = refl; terms = refl }
told (MakeFailed i) s out none = let z : one_some s.spare ≡ 0 = ap one_some none in let l = length-without i s.running out in let p = payers-without i s.running out in record { running = λ x. let r = running_at-without x i s.running out in omega arith; count = omega arith; queue = λ x. let q = kept_if-fewer s.terms.keep x (min s.bar i) s.queue in omega arith; giving = λ x. omega arith; gen = refl; asking = refl; bytes = omega arith; byte = λ x. let y : times_some x s.spare ≡ 0 = ap (times_some x) none in let r = paid_at-without x i s.running out in omega arith; next = refl; terms = refl }
told (Wanted i) s out none = by (is_gen i s.gen) refl out
  where
    by : (t : Bool) → is_gen i s.gen ≡ t → (t || runs i s.running) ≡ true → Told (Wanted i) s (wanted t i s)
    by true is o = record {
      running = λ x. let e : times x (cond (is_gen i s.gen) [] (i ∷ [])) ≡ 0 = ap (λ (b : Bool). times x (cond b [] (i ∷ []))) is in omega arith;
      count = let e : length (cond (is_gen i s.gen) [] (i ∷ [])) ≡ 0 = ap (λ (b : Bool). length (cond b [] (i ∷ []))) is in omega arith;
      queue = λ x. let q = kept_to-fewer x (min s.bar i) s.queue in omega arith;
      giving = λ x. omega arith;
      gen = ap (λ (b : Bool). cond b None s.gen) (sym is);
      asking = refl;
      bytes = omega arith;
      byte = λ x. omega arith;
      next = refl;
      terms = refl;
    }
    by false is o =
        let z : one_some s.spare ≡ 0 = ap one_some none in
        let l = length-without i s.running o in let p = payers-without i s.running o in
        record {
          running = λ x. let e : times x (cond (is_gen i s.gen) [] (i ∷ [])) ≡ times x (i ∷ []) = ap (λ (b : Bool). times x (cond b [] (i ∷ []))) is in let r = running_at-without x i s.running o in omega arith;
          count = let e : length (cond (is_gen i s.gen) [] (i ∷ [])) ≡ 1 = ap (λ (b : Bool). length (cond b [] (i ∷ []))) is in omega arith;
          queue = λ x. let q = kept_to-fewer x (min s.bar i) s.queue in omega arith;
          giving = λ x. omega arith;
          gen = ap (λ (b : Bool). cond b None s.gen) (sym is);
          asking = refl;
          bytes = omega arith;
          byte = λ x. let y : times_some x s.spare ≡ 0 = ap (times_some x) none in let r = paid_at-without x i s.running o in omega arith;
          next = refl;
          terms = refl;
        }
told (Gave b) s out none = let l = length-bytes_without b s.giving out in record { running = λ x. omega arith; count = omega arith; queue = λ x. omega arith; giving = λ x. let w = times-bytes_without x b s.giving out in omega arith; gen = refl; asking = refl; bytes = omega arith; byte = λ x. let w = times-bytes_without x b s.giving out in omega arith; next = refl; terms = refl }
told (GiveFault b) s out none = let l = length-bytes_without b s.giving out in record { running = λ x. omega arith; count = omega arith; queue = λ x. omega arith; giving = λ x. let w = times-bytes_without x b s.giving out in omega arith; gen = refl; asking = refl; bytes = omega arith; byte = λ x. let w = times-bytes_without x b s.giving out in omega arith; next = refl; terms = refl }

-- How lists of jobs, queues and lists of bytes are counted.
use Rattle.std.proofs.Common.{◌≡◌, ℕ, ◌+◌, ◌≤◌, leb, Bool, true, false, eqb, cond, ◌||◌, List, [], ◌∷◌, length, find, is_none, option_map, Option, Some, None, sym, refl, ap, arith}
use Rattle.std.proofs.lemmas.Bool.{eqb-true}
use Rattle.std.proofs.lemmas.Bool.Decides.{nat_tests}
use Rattle.counting.specs.Count.{one_if, times, total}
use Rattle.counting.proofs.Count.{one_if-same}
use Rattle.coord_core.specs.declared.job.Job.{Job}
use Rattle.coord_core.specs.declared.queue.Queued.{Queued}
use Rattle.coord_core.specs.State.{one_some, times_some, owns, payers, paid_at, running_at, queued_at, own_of, runs, is_gen, has_byte, payer_of, jobs_without, paid_by, precedes, placed, is_empty, bytes_without}
use Rattle.coord_core.specs.Effect.{kept_to, kept_if}

pub none_is : (o : Option ℕ) → is_none o ≡ true → o ≡ None
none_is (Some x) h = absurd (cc)
none_is None h = refl

pub one_none : (o : Option ℕ) → one_if (is_none o) + one_some o ≡ 1
one_none (Some x) = refl
one_none None = refl

pub length-jobs : (js : List Job) → length js ≡ owns js + payers js
length-jobs [] = refl
length-jobs (j ∷ js) = let h = length-jobs js in let o = one_none j.payer in omega arith

pub owns-none : (js : List Job) → own_of js ≡ None → owns js ≡ 0
owns-none [] h = refl
owns-none (j ∷ js) h = by (is_none j.payer) h (owns-none js)
  where
    by : (b : Bool) → option_map (λ (k : Job). k.unit) (cond b (Some j) (find (λ (k : Job). is_none k.payer) js)) ≡ None → (own_of js ≡ None → owns js ≡ 0) → one_if b + owns js ≡ 0
    by true h r = absurd (cc)
    by false h r = let z = r h in omega arith

-- of a list in which a job has the slot: that job has it no longer, and is paid
pub paid_by-owns : (b : ℕ) (js : List Job) (i : ℕ) → own_of js ≡ Some i → (owns (paid_by b js) + 1 ≡ owns js) × (payers (paid_by b js) ≡ payers js + 1)
paid_by-owns b [] i h = absurd (cc)
paid_by-owns b (j ∷ js) i h = by (is_none j.payer) refl h (paid_by-owns b js i)
  where
    by : (t : Bool) → is_none j.payer ≡ t → option_map (λ (k : Job). k.unit) (cond t (Some j) (find (λ (k : Job). is_none k.payer) js)) ≡ Some i → (own_of js ≡ Some i → (owns (paid_by b js) + 1 ≡ owns js) × (payers (paid_by b js) ≡ payers js + 1))
        → (owns (cond t ((record j { payer = Some b }) ∷ js) (j ∷ paid_by b js)) + 1 ≡ one_if (is_none j.payer) + owns js) × (payers (cond t ((record j { payer = Some b }) ∷ js) (j ∷ paid_by b js)) ≡ one_some j.payer + payers js + 1)
    by true is h r = let e : one_if (is_none j.payer) ≡ 1 = ap one_if is in let o : one_some j.payer ≡ 0 = ap one_some (none_is j.payer is) in (omega arith, omega arith)
    by false is h r = let z = r h in (omega arith, omega arith)

pub running_at-paid_by : (x b : ℕ) (js : List Job) → running_at x (paid_by b js) ≡ running_at x js
running_at-paid_by x b [] = refl
running_at-paid_by x b (j ∷ js) = by (is_none j.payer) (running_at-paid_by x b js)
  where
    by : (t : Bool) → running_at x (paid_by b js) ≡ running_at x js → running_at x (cond t ((record j { payer = Some b }) ∷ js) (j ∷ paid_by b js)) ≡ one_if (eqb x j.unit) + running_at x js
    by true r = refl
    by false r = omega arith

pub length-paid_by : (b : ℕ) (js : List Job) → length (paid_by b js) ≡ length js
length-paid_by b [] = refl
length-paid_by b (j ∷ js) = by (is_none j.payer) (length-paid_by b js)
  where
    by : (t : Bool) → length (paid_by b js) ≡ length js → length (cond t ((record j { payer = Some b }) ∷ js) (j ∷ paid_by b js)) ≡ length (j ∷ js)
    by true r = refl
    by false r = omega arith

pub paid_at-paid_by : (x b : ℕ) (js : List Job) (i : ℕ) → own_of js ≡ Some i → paid_at x (paid_by b js) ≡ paid_at x js + one_if (eqb x b)
paid_at-paid_by x b [] i h = absurd (cc)
paid_at-paid_by x b (j ∷ js) i h = by (is_none j.payer) refl h (paid_at-paid_by x b js i)
  where
    by : (t : Bool) → is_none j.payer ≡ t → option_map (λ (k : Job). k.unit) (cond t (Some j) (find (λ (k : Job). is_none k.payer) js)) ≡ Some i → (own_of js ≡ Some i → paid_at x (paid_by b js) ≡ paid_at x js + one_if (eqb x b))
        → paid_at x (cond t ((record j { payer = Some b }) ∷ js) (j ∷ paid_by b js)) ≡ (times_some x j.payer + paid_at x js) + one_if (eqb x b)
    by true is h r = let o : times_some x j.payer ≡ 0 = ap (times_some x) (none_is j.payer is) in omega arith
    by false is h r = let z = r h in omega arith

-- what is counted of the jobs without that of unit i, which runs
jobs_without_by : (f : Job → ℕ) (g : Option ℕ → ℕ) (i : ℕ) → ((j : Job) → j.unit ≡ i → f j ≡ g j.payer) → (js : List Job) → runs i js ≡ true → total f (jobs_without i js) + g (payer_of i js) ≡ total f js
jobs_without_by f g i is [] h = absurd (cc)
jobs_without_by f g i is (j ∷ js) h = by (eqb j.unit i) refl h (jobs_without_by f g i is js)
  where
    by : (t : Bool) → eqb j.unit i ≡ t → (t || runs i js) ≡ true → (runs i js ≡ true → total f (jobs_without i js) + g (payer_of i js) ≡ total f js) → total f (cond t js (j ∷ jobs_without i js)) + g (cond t j.payer (payer_of i js)) ≡ f j + total f js
    by true e h r = let z = is j (eqb-true j.unit i e) in omega arith
    by false e h r = let z = r h in omega arith

pub owns-without : (i : ℕ) (js : List Job) → runs i js ≡ true → owns (jobs_without i js) + one_if (is_none (payer_of i js)) ≡ owns js
owns-without i js h = jobs_without_by (λ j. one_if (is_none j.payer)) (λ o. one_if (is_none o)) i (λ j e. refl) js h

pub payers-without : (i : ℕ) (js : List Job) → runs i js ≡ true → payers (jobs_without i js) + one_some (payer_of i js) ≡ payers js
payers-without i js h = jobs_without_by (λ j. one_some j.payer) one_some i (λ j e. refl) js h

pub paid_at-without : (x i : ℕ) (js : List Job) → runs i js ≡ true → paid_at x (jobs_without i js) + times_some x (payer_of i js) ≡ paid_at x js
paid_at-without x i js h = jobs_without_by (λ j. times_some x j.payer) (times_some x) i (λ j e. refl) js h

pub running_at-without : (x i : ℕ) (js : List Job) → runs i js ≡ true → running_at x (jobs_without i js) + one_if (eqb x i) ≡ running_at x js
running_at-without x i js h = jobs_without_by (λ j. one_if (eqb x j.unit)) (λ o. one_if (eqb x i)) i (λ j e. ap (λ (k : ℕ). one_if (eqb x k)) e) js h

pub length-without : (i : ℕ) (js : List Job) → runs i js ≡ true → length (jobs_without i js) + 1 ≡ length js
length-without i js h =
    let a = length-jobs js in let b = length-jobs (jobs_without i js) in
    let c = owns-without i js h in let d = payers-without i js h in let o = one_none (payer_of i js) in omega arith

pub running_at-runs : (i : ℕ) (js : List Job) → runs i js ≡ true → 1 ≤ running_at i js
running_at-runs i js h = let r = running_at-without i i js h in let o = one_if-same i in omega arith

pub queued_at-placed : (x : ℕ) (e : Queued) (q : List Queued) → queued_at x (placed e q) ≡ one_if (eqb x e.unit) + queued_at x q
queued_at-placed x e [] = refl
queued_at-placed x e (y ∷ ys) = by (precedes e y) (queued_at-placed x e ys)
  where
    by : (t : Bool) → queued_at x (placed e ys) ≡ one_if (eqb x e.unit) + queued_at x ys → queued_at x (cond t (e ∷ y ∷ ys) (y ∷ placed e ys)) ≡ one_if (eqb x e.unit) + (one_if (eqb x y.unit) + queued_at x ys)
    by true r = refl
    by false r = omega arith

pub length-placed : (e : Queued) (q : List Queued) → length (placed e q) ≡ length q + 1
length-placed e [] = refl
length-placed e (y ∷ ys) = by (precedes e y) (length-placed e ys)
  where
    by : (t : Bool) → length (placed e ys) ≡ length ys + 1 → length (cond t (e ∷ y ∷ ys) (y ∷ placed e ys)) ≡ length (y ∷ ys) + 1
    by true r = omega arith
    by false r = omega arith

-- what is at most m stays
pub queued_at-kept_to : (x m : ℕ) (q : List Queued) → x ≤ m → queued_at x (kept_to m q) ≡ queued_at x q
queued_at-kept_to x m [] h = refl
queued_at-kept_to x m (y ∷ ys) h = by (leb y.unit m) refl (queued_at-kept_to x m ys h)
  where
    by : (t : Bool) → leb y.unit m ≡ t → queued_at x (kept_to m ys) ≡ queued_at x ys → queued_at x (cond t (y ∷ kept_to m ys) (kept_to m ys)) ≡ one_if (eqb x y.unit) + queued_at x ys
    by true is r = omega arith
    by false is r = let e : eqb x y.unit ≡ false = grind (arith, nat_tests) in let z : one_if (eqb x y.unit) ≡ 0 = ap one_if e in omega arith

pub kept_to-fewer : (x m : ℕ) (q : List Queued) → queued_at x (kept_to m q) ≤ queued_at x q
kept_to-fewer x m [] = omega arith
kept_to-fewer x m (y ∷ ys) = by (leb y.unit m) (kept_to-fewer x m ys)
  where
    by : (t : Bool) → queued_at x (kept_to m ys) ≤ queued_at x ys → queued_at x (cond t (y ∷ kept_to m ys) (kept_to m ys)) ≤ one_if (eqb x y.unit) + queued_at x ys
    by true r = omega arith
    by false r = omega arith

pub kept_if-fewer : (k : Bool) (x m : ℕ) (q : List Queued) → queued_at x (kept_if k m q) ≤ queued_at x q
kept_if-fewer true x m q = omega arith
kept_if-fewer false x m q = kept_to-fewer x m q

pub length-kept_to : (m : ℕ) (q : List Queued) → length (kept_to m q) ≤ length q
length-kept_to m [] = omega arith
length-kept_to m (y ∷ ys) = by (leb y.unit m) (length-kept_to m ys)
  where
    by : (t : Bool) → length (kept_to m ys) ≤ length ys → length (cond t (y ∷ kept_to m ys) (kept_to m ys)) ≤ length (y ∷ ys)
    by true r = omega arith
    by false r = omega arith

pub length-kept_if : (k : Bool) (m : ℕ) (q : List Queued) → length (kept_if k m q) ≤ length q
length-kept_if true m q = omega arith
length-kept_if false m q = length-kept_to m q

pub times-bytes_without : (x b : ℕ) (l : List ℕ) → has_byte b l ≡ true → times x (bytes_without b l) + one_if (eqb x b) ≡ times x l
times-bytes_without x b [] h = absurd (cc)
times-bytes_without x b (y ∷ ys) h = by (eqb y b) refl h (times-bytes_without x b ys)
  where
    by : (t : Bool) → eqb y b ≡ t → (t || has_byte b ys) ≡ true → (has_byte b ys ≡ true → times x (bytes_without b ys) + one_if (eqb x b) ≡ times x ys) → times x (cond t ys (y ∷ bytes_without b ys)) + one_if (eqb x b) ≡ one_if (eqb x y) + times x ys
    by true is h r = let e : one_if (eqb x b) ≡ one_if (eqb x y) = ap (λ (z : ℕ). one_if (eqb x z)) (sym (eqb-true y b is)) in omega arith
    by false is h r = let z = r h in omega arith

pub length-bytes_without : (b : ℕ) (l : List ℕ) → has_byte b l ≡ true → length (bytes_without b l) + 1 ≡ length l
length-bytes_without b [] h = absurd (cc)
length-bytes_without b (y ∷ ys) h = by (eqb y b) h (length-bytes_without b ys)
  where
    by : (t : Bool) → (t || has_byte b ys) ≡ true → (has_byte b ys ≡ true → length (bytes_without b ys) + 1 ≡ length ys) → length (cond t ys (y ∷ bytes_without b ys)) + 1 ≡ length (y ∷ ys)
    by true h r = omega arith
    by false h r = let z = r h in omega arith

pub gen_is : (i : ℕ) (g : Option ℕ) → is_gen i g ≡ true → g ≡ Some i
gen_is i (Some k) h = ap Some (eqb-true k i h)
gen_is i None h = absurd (cc)

pub empty_is : (q : List Queued) → is_empty q ≡ true → q ≡ []
empty_is [] h = refl
empty_is (x ∷ xs) h = absurd (cc)

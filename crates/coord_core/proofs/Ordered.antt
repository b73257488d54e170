-- The queue stays in order, and short.
use Rattle.std.proofs.Common.{◌≡◌, ⊎_elim, ℕ, ◌+◌, ◌-◌, ◌*◌, ◌/◌, ◌<◌, ◌≤◌, ltb, leb, min, Bool, true, false, ◌&&◌, cond, List, [], ◌∷◌, length, Option, Some, None, refl, ap, subst, arith}
use Rattle.std.proofs.lemmas.Bool.{and_parts, and_cases, not-true, ltb-false, leb-false}
use Rattle.std.proofs.lemmas.Bool.Decides.{nat_tests}
use Rattle.coord_core.specs.declared.event.Event.{Event}
use Rattle.coord_core.specs.declared.event.Event.TheVariants.{Took, Empty, TakeFault, Generated, GenFailed, Made, MakeFailed, Wanted, Gave, GiveFault}
use Rattle.coord_core.specs.declared.queue.Queued.{Queued}
use Rattle.coord_core.specs.declared.terms.Terms.{Terms}
use Rattle.coord_core.specs.State.{State, one_some, own_of, is_gen, precedes, placed}
use Rattle.coord_core.specs.Effect.{kept_to, kept_if, wanted, effect}
use Rattle.coord_core.specs.Decide.{full_enough, more_to_do, is_free, is_to_generate, passed, pass, started, start, gives, lends, main_by, main, settled, asked, asks_now, may_ask, decided}
use Rattle.coord_core.specs.Run.{first, opened, step, run_from, run, is_awaited, LawfulFrom, Lawful}
use Rattle.coord_core.specs.Laws.{NoneBefore, IsOrdered}
use Rattle.coord_core.proofs.Jobs.{gen_is, length-placed, length-kept_to, length-kept_if}
use Rattle.coord_core.proofs.Acted.{decided-spare}
use Rattle.coord_core.proofs.Sound.{Sound, bounded_by, settled-sound, effect-sound, decided-sound, first-sound}

not_back : (e x : Queued) → precedes e x ≡ true → precedes x e ≡ false
not_back e x h = grind (arith, nat_tests)

not_over : (e x y : Queued) → precedes e x ≡ true → precedes y x ≡ false → precedes y e ≡ false
not_over e x y h k = grind (arith, nat_tests)

none-placed : (x e : Queued) (q : List Queued) → precedes e x ≡ false → NoneBefore x q → NoneBefore x (placed e q)
none-placed x e [] h n = (h, tt)
none-placed x e (y ∷ ys) h n = by (precedes e y) (none-placed x e ys h n.1)
  where
    by : (t : Bool) → NoneBefore x (placed e ys) → NoneBefore x (cond t (e ∷ y ∷ ys) (y ∷ placed e ys))
    by true r = (h, n)
    by false r = (n.0, r)

none-over : (e x : Queued) (q : List Queued) → precedes e x ≡ true → NoneBefore x q → NoneBefore e q
none-over e x [] h n = tt
none-over e x (y ∷ ys) h n = (not_over e x y h n.0, none-over e x ys h n.1)

ordered-placed : (e : Queued) (q : List Queued) → IsOrdered q → IsOrdered (placed e q)
ordered-placed e [] h = (tt, tt)
ordered-placed e (x ∷ xs) h = by (precedes e x) refl (ordered-placed e xs h.1)
  where
    by : (t : Bool) → precedes e x ≡ t → IsOrdered (placed e xs) → IsOrdered (cond t (e ∷ x ∷ xs) (x ∷ placed e xs))
    by true is r = ((not_back e x is, none-over e x xs is h.0), h)
    by false is r = (none-placed x e xs is h.0, r)

none-kept_to : (x : Queued) (m : ℕ) (q : List Queued) → NoneBefore x q → NoneBefore x (kept_to m q)
none-kept_to x m [] n = tt
none-kept_to x m (y ∷ ys) n = by (leb y.unit m) (none-kept_to x m ys n.1)
  where
    by : (t : Bool) → NoneBefore x (kept_to m ys) → NoneBefore x (cond t (y ∷ kept_to m ys) (kept_to m ys))
    by true r = (n.0, r)
    by false r = r

ordered-kept_to : (m : ℕ) (q : List Queued) → IsOrdered q → IsOrdered (kept_to m q)
ordered-kept_to m [] h = tt
ordered-kept_to m (y ∷ ys) h = by (leb y.unit m) (ordered-kept_to m ys h.1)
  where
    by : (t : Bool) → IsOrdered (kept_to m ys) → IsOrdered (cond t (y ∷ kept_to m ys) (kept_to m ys))
    by true r = (none-kept_to y m ys h.0, r)
    by false r = r

ordered-kept_if : (k : Bool) (m : ℕ) (q : List Queued) → IsOrdered q → IsOrdered (kept_if k m q)
ordered-kept_if true m q h = h
ordered-kept_if false m q h = ordered-kept_to m q h

-- an event keeps the order, and lets no more wait than did
abbrev Short : State → Type 0
Short s = length s.queue + one_some s.gen ≤ 16

effect-ordered : (e : Event) (s : State) → IsOrdered s.queue → IsOrdered (effect e s).queue
effect-ordered (Took b) s h = h
effect-ordered Empty s h = h
effect-ordered TakeFault s h = h
effect-ordered (Generated i c) s h = by (ltb i s.bar)
  where
    by : (t : Bool) → IsOrdered (cond t (placed (record { cost = c; unit = i }) s.queue) s.queue)
    by true = ordered-placed (record { cost = c; unit = i }) s.queue h
    by false = h
effect-ordered (GenFailed i) s h = ordered-kept_if s.terms.keep (min s.bar i) s.queue h
effect-ordered (Made i) s h = h
effect-ordered (MakeFailed i) s h = ordered-kept_if s.terms.keep (min s.bar i) s.queue h
effect-ordered (Wanted i) s h = by (is_gen i s.gen)
  where
    by : (t : Bool) → IsOrdered (wanted t i s).queue
    by true = ordered-kept_to (min s.bar i) s.queue h
    by false = ordered-kept_to (min s.bar i) s.queue h
effect-ordered (Gave b) s h = h
effect-ordered (GiveFault b) s h = h

effect-short : (e : Event) (s : State) → is_awaited s e ≡ true → Short s → Short (effect e s)
effect-short (Took b) s out h = h
effect-short Empty s out h = h
effect-short TakeFault s out h = h
effect-short (Generated i c) s out h = by (ltb i s.bar) (ap one_some (gen_is i s.gen out))
  where
    by : (t : Bool) → one_some s.gen ≡ 1 → length (cond t (placed (record { cost = c; unit = i }) s.queue) s.queue) + 0 ≤ 16
    by true g = let l = length-placed (record { cost = c; unit = i }) s.queue in omega arith
    by false g = omega arith
effect-short (GenFailed i) s out h = let l = length-kept_if s.terms.keep (min s.bar i) s.queue in omega arith
effect-short (Made i) s out h = h
effect-short (MakeFailed i) s out h = let l = length-kept_if s.terms.keep (min s.bar i) s.queue in omega arith
effect-short (Wanted i) s out h = by (is_gen i s.gen)
  where
    by : (t : Bool) → Short (wanted t i s)
    by true = let l = length-kept_to (min s.bar i) s.queue in omega arith
    by false = let l = length-kept_to (min s.bar i) s.queue in omega arith
effect-short (Gave b) s out h = h
effect-short (GiveFault b) s out h = h

-- what holds of a queue holds of what a decision leaves of it
abbrev Keeps : State → State → Type 0
Keeps s t = (IsOrdered s.queue → IsOrdered t.queue) × (length t.queue + one_some t.gen ≤ length s.queue + one_some s.gen)

passed-keeps : (s : State) (b o : Option ℕ) (w : Bool) → Keeps s (passed s b o w)
passed-keeps s (Some b) (Some i) true = (λ h. h, omega arith)
passed-keeps s (Some b) (Some i) false = (λ h. h, omega arith)
passed-keeps s (Some b) None w = (λ h. h, omega arith)
passed-keeps s None o w = (λ h. h, omega arith)

tail : (s : State) (x : Queued) (xs : List Queued) → s.queue ≡ x ∷ xs → (IsOrdered s.queue → IsOrdered xs) × (length xs ≤ length s.queue)
tail s x xs is = let e : length s.queue ≡ length (x ∷ xs) = ap (λ (q : List Queued). length q) is in (λ h. (subst IsOrdered is h).1, omega arith)

started-keeps : (s : State) (b : Option ℕ) (q : List Queued) → s.queue ≡ q → Keeps s (started s b q)
started-keeps s (Some b) (x ∷ xs) is = let t = tail s x xs is in let l = t.1 in (t.0, omega arith)
started-keeps s (Some b) [] is = (λ h. h, omega arith)
started-keeps s None q is = (λ h. h, omega arith)

gives-keeps : (s : State) (b : Option ℕ) → Keeps s (gives s b)
gives-keeps s (Some b) = (λ h. h, omega arith)
gives-keeps s None = (λ h. h, omega arith)

lends-keeps : (s : State) (q : List Queued) → s.queue ≡ q → Keeps s (lends s q)
lends-keeps s (x ∷ xs) is = let t = tail s x xs is in let l = t.1 in (t.0, omega arith)
lends-keeps s [] is = (λ h. h, omega arith)

asked-keeps : (s : State) (b : Bool) → Keeps s (asked s b)
asked-keeps s true = (λ h. h, omega arith)
asked-keeps s false = (λ h. h, omega arith)

settled-keeps : (s : State) → Keeps s (settled s)
settled-keeps s =
    let p = passed-keeps s s.spare (own_of s.running) (more_to_do s) in
    let q = started-keeps (pass s) (pass s).spare (pass s).queue refl in
    let g = gives-keeps (start (pass s)) (start (pass s)).spare in
    let a = p.1 in let b = q.1 in let c = g.1 in
    (λ h. g.0 (q.0 (p.0 h)), omega arith)

-- a queue that is not full enough has less than 16 units, with 64 jobs at most
few : (q w : ℕ) → w ≤ 64 → full_enough q w ≡ false → q ≤ 15
few q w most h = ⊎_elim (λ (a : ltb 0 q ≡ false). let l = ltb-false 0 q a in omega arith) (λ (b : leb (w - 3 * w / 4) q ≡ false). let l = leb-false (w - 3 * w / 4) q b in omega arith) (and_cases (ltb 0 q) (leb (w - 3 * w / 4) q) h)

main-ordered : (s : State) (f g : Bool) → IsOrdered s.queue → IsOrdered (main_by s f g).queue
main-ordered s false g h = h
main-ordered s true true h = h
main-ordered s true false h = (lends-keeps s s.queue refl).0 h

main-short : (s : State) (f g : Bool) → is_free s ≡ f → is_to_generate s ≡ g → length s.running ≤ 64 → Short s → Short (main_by s f g)
main-short s false g ef eg most h = h
main-short s true true ef eg most h = let b : length s.queue ≤ 15 = few (length s.queue) (length s.running) most (not-true _ ((and_parts _ _ eg).1)) in omega arith
main-short s true false ef eg most h = let k = (lends-keeps s s.queue refl).1 in omega arith

decided-ordered : (may : Bool) (s : State) → IsOrdered s.queue → IsOrdered (decided may s).queue
decided-ordered may s h = let s3 = settled s in let s4 = main s3 in (asked-keeps s4 (may && asks_now s4)).0 (main-ordered s3 (is_free s3) (is_to_generate s3) ((settled-keeps s).0 h))

decided-short : (l : ℕ) (may : Bool) (s : State) → l ≤ 64 → Sound l s → Short s → Short (decided may s)
decided-short l may s most sound h =
    let s3 = settled s in let s4 = main s3 in
    let b = bounded_by l s3 (settled-sound l s sound) in
    let b0 = b.out in let b1 = b.held in
    let k = (settled-keeps s).1 in
    let m = main-short s3 (is_free s3) (is_to_generate s3) refl refl (omega arith) (omega arith) in
    let a = (asked-keeps s4 (may && asks_now s4)).1 in omega arith

run_from-ordered : (s : State) (es : List Event) → IsOrdered s.queue → IsOrdered (run_from s es).queue
run_from-ordered s [] h = h
run_from-ordered s (e ∷ es) h = run_from-ordered (step s e) es (decided-ordered (may_ask e) (effect e s) (effect-ordered e s h))

pub ordered : (terms : Terms) (es : List Event) → IsOrdered (run terms es).queue
ordered terms es = run_from-ordered (opened terms) es (decided-ordered true (first terms) tt)

run_from-short : (l : ℕ) (s : State) (es : List Event) → l ≤ 64 → LawfulFrom s es → s.spare ≡ None → Sound l s → Short s → Short (run_from s es)
run_from-short l s [] most lawful none sound h = h
run_from-short l s (e ∷ es) most lawful none sound h =
    let mid = effect-sound l e s lawful.0 none sound in
    run_from-short l (step s e) es most lawful.1 (decided-spare (may_ask e) (effect e s)) (decided-sound l (may_ask e) (effect e s) mid) (decided-short l (may_ask e) (effect e s) most mid (effect-short e s lawful.0 h))

pub short : (terms : Terms) (es : List Event) → 0 < terms.lanes → terms.lanes ≤ 64 → Lawful terms es → length (run terms es).queue ≤ 16
short terms es some most l =
    let f = first-sound terms some in
    let r = run_from-short terms.lanes (opened terms) es most l (decided-spare true (first terms)) (decided-sound terms.lanes true (first terms) f) (decided-short terms.lanes true (first terms) most f (omega arith)) in omega arith

-- A call and a return do on the stack what they do on the acts.
use Rattle.std.proofs.Common.{◌≡◌, ℕ, ◌+◌, ◌-◌, ◌≤◌, List, [], ◌∷◌, ◌++◌, length, take, drop, reverse, replicate, slice_get, ℤ, pos, Bool, false, ◌||◌, if◌then◌else◌, Some, refl, arith, sym, suc, ◌∙◌, ap, length-append, length-drop}
use Rattle.std.specs.Prelude.{nat_lt}
use Rattle.std.proofs.lemmas.List.{length-take, take-take, drop-drop, reverse-append, length-reverse, take-append-le, drop-append-le, length-replicate, take_all, drop_all}
use Rattle.std.proofs.lemmas.Bool.Decides.{nat_tests}
use Rattle.stack_vm.specs.Heights.{greatest_of}
use Rattle.stack_vm.specs.Running.{act, slots_count, frame_act, seen, Counted}
use Rattle.stack_vm.specs.Acts.{Act, Outcome, Goes, calling, returning, words_of}
use Rattle.stack_vm.specs.Standing.{Called, waiting, resumed}
use Rattle.stack_vm.proofs.Stack.{drop_take_at}
use Rattle.stack_vm.proofs.Stays.{built}
use Rattle.object_format.specs.Image.{LinkedFn}
use Rattle.stack_vm.specs.declared.machine.State.{State}
use Rattle.stack_vm.specs.declared.machine.Frame.{Frame}

pub length-seen : (fs : List LinkedFn) (gs : List Frame) (V : List ℤ) → length (seen fs gs V) ≡ length gs
length-seen fs [] V = refl
length-seen fs (g ∷ gs) V = ap (λ (n : ℕ). suc n) (length-seen fs gs (take g.base V))

pub no_test : (n m : ℕ) → m ≤ n → nat_lt n m ≡ false
no_test n m h = grind (arith, nat_tests)

third : (a b c : Bool) (x y z : Outcome) → a ≡ false → b ≡ false → c ≡ false → (if a then x else (if b || c then y else z)) ≡ z
third a b c x y z p q r = rw (p, q, r) refl

goes_two : (a b c d : Act) (r q : List Act) → a ≡ c → b ≡ d → r ≡ q → Goes (a ∷ b ∷ r) [] ≡ Goes (c ∷ d ∷ q) []
goes_two a b c d r q x y z = rw (x, y, z) refl

pub calls : (fs : List LinkedFn) (f g : LinkedFn) (k : ℕ) (s t : State) (V now : List ℤ) (old new : List Frame)
    → slice_get fs s.number ≡ Some f → length V ≡ s.top → s.base + f.slots + g.params ≤ length V → g.params ≤ g.slots
    → s.below ≡ words_of (seen fs (reverse old) (take s.base V)) → Called fs g f k s t V now old new
    → calling fs k (Some g) (act f.slots s V) (seen fs (reverse old) (take s.base V)) ≡ Goes (act g.slots t now ∷ seen fs (reverse new) (take t.base now)) []
calls fs f g k s t V now old new is long room params below d =
    let p = g.params in
    let m = s.base + f.slots in
    let l = s.top - p in
    let zeros : List ℤ = replicate (g.slots - p) (pos 0) in
    let os : List ℤ = drop m V in
    let rest : List Act = seen fs (reverse old) (take s.base V) in
    let W : List ℤ = take l (V ++ zeros) in
    let many : length os ≡ length V - m = length-drop m V in
    let front : W ≡ take l V = take-append-le l V zeros (omega (arith, long)) in
    let count : length rest ≡ length old = length-seen fs (reverse old) (take s.base V) ∙ length-reverse old in
    let under : length os - p ≡ l - m = omega (arith, many, long) in
    let few : ((length os - p) + words_of rest) + greatest_of fs g ≤ 1048576 = omega (arith, d.few, ap (λ (u : State). u.below) d.state, below, under) in
    let size : length zeros ≡ g.slots - p = length-replicate (g.slots - p) (pos 0) in
    let at : m + (length os - p) ≡ l = omega (arith, many, long, room) in
    let words : drop (length os - p) os ++ zeros ≡ take g.slots (drop l (V ++ zeros)) =
    ap (λ (xs : List ℤ). xs ++ zeros) (drop-drop (length os - p) m V ∙ ap (λ (n : ℕ). drop n V) at)
    ∙ (sym (take_all g.slots (drop l V ++ zeros) (omega (arith, length-append (drop l V) zeros, length-drop l V, size, long, params, room)))
    ∙ ap (λ (xs : List ℤ). take g.slots xs) (sym (drop-append-le l V zeros (omega (arith, long))))) in
    let nothing : [] ≡ drop (l + g.slots) (V ++ zeros) = sym (drop_all (l + g.slots) (V ++ zeros) (omega (arith, length-append V zeros, size, long, params, room))) in
    let slots : take f.slots (drop s.base V) ≡ take (slots_count (slice_get fs s.number)) (drop s.base W) =
    rw (is, front) (sym (ap (λ (xs : List ℤ). take f.slots xs) (drop_take_at V s.base l (omega (arith, long, room))) ∙ take-take f.slots (l - s.base) (drop s.base V) (omega (arith, long, room)))) in
    let operands : take (length os - p) os ≡ drop (s.base + slots_count (slice_get fs s.number)) W =
    rw (is, front) (ap (λ (n : ℕ). take n os) under ∙ sym (drop_take_at V m l (omega (arith, long, room)))) in
    let below_it : rest ≡ seen fs (reverse old) (take s.base W) =
    ap (λ (xs : List ℤ). seen fs (reverse old) xs) (sym (ap (λ (xs : List ℤ). take s.base xs) front ∙ take-take s.base l V (omega (arith, long, room)))) in
    rw (d.state, d.words, d.frames, reverse-append old (waiting s ∷ []))
    (third _ _ _ _ _ _ (no_test (length os) p (omega (arith, many, room))) (no_test 9999 (length rest + 1) (omega (arith, count, d.shallow))) (no_test 1048576 _ few)
    ∙ goes_two _ _ _ _ _ _
    (built k k 0 0 (drop (length os - p) os ++ zeros) (take g.slots (drop l (V ++ zeros))) [] (drop (l + g.slots) (V ++ zeros)) refl refl words nothing)
    (built s.number s.number (s.place + 5) (s.place + 5) (take f.slots (drop s.base V)) _ (take (length os - p) os) _ refl refl slots operands)
    below_it)

goes_one : (a c : Act) (r q : List Act) → a ≡ c → r ≡ q → Goes (a ∷ r) [] ≡ Goes (c ∷ q) []
goes_one a c r q x y = rw (x, y) refl

pub returns : (fs : List LinkedFn) (f h : LinkedFn) (s : State) (b : Frame) (V now : List ℤ) (gs : List Frame)
    → slice_get fs b.number ≡ Some h → length V ≡ (s.base + f.slots) + f.«result» → b.base + h.slots ≤ s.base
    → now ≡ take s.base V ++ drop (length V - f.«result») V
    → returning (act f.slots s V) (seen fs (b ∷ gs) (take s.base V)) ≡ Goes (act h.slots (resumed f s b) now ∷ seen fs gs (take b.base now)) []
returns fs f h s b V now gs is long room words =
    let l = s.base in
    let U : List ℤ = take l V in
    let p : List ℤ = drop (length V - f.«result») V in
    let size : length U ≡ l = omega (arith, length-take l V, long) in
    let same : length V - f.«result» ≡ s.base + f.slots = omega (arith, long) in
    rw (words, is) (goes_one _ _ _ _
    (built b.number b.number b.place b.place (take h.slots (drop b.base U)) (take h.slots (drop b.base (U ++ p))) (drop (b.base + h.slots) U ++ drop (s.base + f.slots) V) (drop (b.base + h.slots) (U ++ p)) refl refl
    (sym (ap (λ (xs : List ℤ). take h.slots xs) (drop-append-le b.base U p (omega (arith, size, room))) ∙ take-append-le h.slots (drop b.base U) p (omega (arith, length-drop b.base U, size, room))))
    (sym (drop-append-le (b.base + h.slots) U p (omega (arith, size, room)) ∙ ap (λ (n : ℕ). drop (b.base + h.slots) U ++ drop n V) same)))
    (ap (λ (xs : List ℤ). seen fs gs xs) (sym (take-append-le b.base U p (omega (arith, size, room))))))

pub counted_is : (fs : List LinkedFn) (gs : List Frame) (V : List ℤ) (below : ℕ) → Counted fs gs V below → below ≡ words_of (seen fs gs V)
counted_is fs [] V below c = c
counted_is fs (g ∷ gs) V below c = c.0 ∙ ap (λ (n : ℕ). length (frame_act fs g V).operands + n) (counted_is fs gs (take g.base V) g.below c.1)

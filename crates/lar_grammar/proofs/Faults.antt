-- Where the machine stops: what it has gone through begins what the stack wants, and what comes later changes nothing of it.
use Rattle.std.proofs.Common.{◌≡◌, ℕ, suc, ◌≤◌, List, [], ◌∷◌, ◌++◌, length, Option, Some, None, Bool, true, false, if◌then◌else◌, refl, sym, ap, subst, arith, length-append}
use Rattle.lar_tree.specs.declared.token.Token.{Token}
use Rattle.lar_grammar.specs.Symbols.{Symbol, Stack, Move, skip, fail, take, enter}
use Rattle.lar_grammar.specs.Moves.{expand}
use Rattle.lar_grammar.specs.Machine.{Room, State, spend, left, spent, moves, after, skips, ends, goes, fault}
use Rattle.lar_grammar.proofs.Meaning.{Completes}
use Rattle.lar_grammar.proofs.Taking.{body_of, halves}
use Rattle.lar_grammar.proofs.Takes.{takes}
use Rattle.lar_grammar.proofs.LeftOut.{left_out}
use Rattle.lar_grammar.proofs.Inhabited.{completed}

-- ---- what is left at a fault

-- it is no longer than what was there
pub short : (ts : List Token) (room : Room) (ss : Stack) (rest : List Token) → fault ts room ss ≡ Some rest → length rest ≤ length ts
short [] room ss rest e = go (ends ss) e
  where
    go : (b : Bool) → (if b then None else Some []) ≡ Some rest → length rest ≤ 0
    go true z = cc
    go false z = let same : [] ≡ rest = cc in omega (arith, ap length same)
short (t ∷ ts) room ss rest e = go (after room ss (Some t.kind)) (λ r to z. short ts r to rest z) e
  where
    go : (o : Option State) → ((r : Room) (to : Stack) → fault ts r to ≡ Some rest → length rest ≤ length ts) → goes o (t ∷ ts) (fault ts) ≡ Some rest → length rest ≤ suc (length ts)
    go None k z = let same : t ∷ ts ≡ rest = cc in omega (arith, ap length same)
    go (Some s) k z = omega (arith, k s.0 s.1 z)

pub suffix : (ts : List Token) (room : Room) (ss : Stack) (rest : List Token) → fault ts room ss ≡ Some rest → (a : List Token) × (ts ≡ a ++ rest)
suffix [] room ss rest e = go (ends ss) e
  where
    go : (b : Bool) → (if b then None else Some []) ≡ Some rest → (a : List Token) × ([] ≡ a ++ rest)
    go true z = cc
    go false z = ([], (let same : [] ≡ rest = cc in same))
suffix (t ∷ ts) room ss rest e = go (after room ss (Some t.kind)) (λ r to z. suffix ts r to rest z) e
  where
    go : (o : Option State) → ((r : Room) (to : Stack) → fault ts r to ≡ Some rest → (a : List Token) × (ts ≡ a ++ rest)) → goes o (t ∷ ts) (fault ts) ≡ Some rest → (a : List Token) × (t ∷ ts ≡ a ++ rest)
    go None k z = ([], (let same : t ∷ ts ≡ rest = cc in same))
    go (Some s) k z = let x = k s.0 s.1 z in (t ∷ x.0, ap (λ y. t ∷ y) x.1)

-- ---- what is read before a fault is read the same before anything else

-- a fault, if there is one, leaves no more than n tokens
abbrev pub Late : ℕ → Option (List Token) → Type 0
Late n None = Unit {0}
Late n (Some r) = length r ≤ n

short_late : (o : Option (List Token)) (n : ℕ) → ((r : List Token) → o ≡ Some r → length r ≤ n) → Late n o
short_late None n k = tt
short_late (Some r) n k = k r refl

pub late : (a : List Token) (room : Room) (ss : Stack) (rest w : List Token) → fault (a ++ rest) room ss ≡ Some rest → Late (length w) (fault (a ++ w) room ss)
late [] room ss rest w e = short_late (fault w room ss) (length w) (λ r z. short w room ss r z)
late (t ∷ a) room ss rest w e = go (after room ss (Some t.kind)) (λ r to z. late a r to rest w z) e
  where
    go : (o : Option State) → ((r : Room) (to : Stack) → fault (a ++ rest) r to ≡ Some rest → Late (length w) (fault (a ++ w) r to)) → goes o (t ∷ (a ++ rest)) (fault (a ++ rest)) ≡ Some rest → Late (length w) (goes o (t ∷ (a ++ w)) (fault (a ++ w)))
    go None k z = let same : t ∷ (a ++ rest) ≡ rest = cc in absurd (omega (arith, ap length same, length-append a rest))
    go (Some s) k z = k s.0 s.1 z

-- a fault at a token is there whatever comes after it
pub early : (a : List Token) (t : Token) (b c : List Token) (room : Room) (ss : Stack) → fault (a ++ t ∷ b) room ss ≡ Some (t ∷ b) → fault (a ++ t ∷ c) room ss ≡ Some (t ∷ c)
early [] t b c room ss e = go (after room ss (Some t.kind)) (λ r to z. short b r to (t ∷ b) z) e
  where
    go : (o : Option State) → ((r : Room) (to : Stack) → fault b r to ≡ Some (t ∷ b) → suc (length b) ≤ length b) → goes o (t ∷ b) (fault b) ≡ Some (t ∷ b) → goes o (t ∷ c) (fault c) ≡ Some (t ∷ c)
    go None k z = refl
    go (Some s) k z = absurd (omega (arith, k s.0 s.1 z))
early (x ∷ a) t b c room ss e = go (after room ss (Some x.kind)) (λ r to z. early a t b c r to z) e
  where
    go : (o : Option State) → ((r : Room) (to : Stack) → fault (a ++ t ∷ b) r to ≡ Some (t ∷ b) → fault (a ++ t ∷ c) r to ≡ Some (t ∷ c)) → goes o (x ∷ (a ++ t ∷ b)) (fault (a ++ t ∷ b)) ≡ Some (t ∷ b) → goes o (x ∷ (a ++ t ∷ c)) (fault (a ++ t ∷ c)) ≡ Some (t ∷ c)
    go None k z = let same : x ∷ (a ++ t ∷ b) ≡ t ∷ b = cc in absurd (omega (arith, ap length same, length-append a (t ∷ b)))
    go (Some s) k z = k s.0 s.1 z

-- ---- a step back

abbrev stack_of : Option State → Stack
stack_of None = []
stack_of (Some s) = s.1

taken_back : (s : Symbol) (bs ss : Stack) (t : Token) (o : Option Room) (r : Room) (to : Stack) (w : List Token) → body_of (expand s (Some t.kind)) ≡ Some bs → spent o (bs ++ ss) ≡ Some (r, to) → Completes to w → Completes (s ∷ ss) (t ∷ w)
taken_back s bs ss t None r to w e a c = cc
taken_back s bs ss t (Some x) r to w e a c =
    let same : to ≡ bs ++ ss = sym (ap (λ (o : Option State). stack_of o) a) in
    let d = halves bs ss w (subst (λ (x : Stack). Completes x w) same c) in
    (t ∷ d.0, d.1, ap (λ x. t ∷ x) d.2, takes s t bs d.0 e d.3, d.4)

back_at : (s : Symbol) (ss : Stack) (t : Token) (room : Room) (r : Room) (to : Stack) (w : List Token) (m : Move) (o : Option State) → expand s (Some t.kind) ≡ m →
    (o ≡ Some (r, to) → Completes ss (t ∷ w)) → moves m o room ss ≡ Some (r, to) → Completes to w → Completes (s ∷ ss) (t ∷ w)
back_at s ss t room r to w skip o e later a c = ([], t ∷ w, refl, left_out s (Some t.kind) e, later a)
back_at s ss t room r to w fail o e later a c = cc
back_at s ss t room r to w (take bs) o e later a c = taken_back s bs ss t (spend room) r to w (ap body_of e) a c
back_at s ss t room r to w (enter bs) o e later a c = taken_back s bs ss t (spend (Some 512)) r to w (ap body_of e) a c

pub back : (ss : Stack) (room : Room) (t : Token) (r : Room) (to : Stack) (w : List Token) → after room ss (Some t.kind) ≡ Some (r, to) → Completes to w → Completes ss (t ∷ w)
back [] room t r to w a c = cc
back (s ∷ ss) room t r to w a c = back_at s ss t room r to w (expand s (Some t.kind)) (after (left s room) ss (Some t.kind)) refl (λ z. back ss (left s room) t r to w z c) a c

-- ---- what was read before a fault is completed to a whole

pub viable : (a : List Token) (room : Room) (ss : Stack) (rest : List Token) → fault (a ++ rest) room ss ≡ Some rest → (w : List Token) × Completes ss (a ++ w)
viable [] room ss rest e = completed ss
viable (t ∷ a) room ss rest e = go (after room ss (Some t.kind)) refl (λ r to z. viable a r to rest z) e
  where
    go : (o : Option State) → after room ss (Some t.kind) ≡ o → ((r : Room) (to : Stack) → fault (a ++ rest) r to ≡ Some rest → (w : List Token) × Completes to (a ++ w)) → goes o (t ∷ (a ++ rest)) (fault (a ++ rest)) ≡ Some rest → (w : List Token) × Completes ss (t ∷ (a ++ w))
    go None o k z = let same : t ∷ (a ++ rest) ≡ rest = cc in absurd (omega (arith, ap length same, length-append a rest))
    go (Some s) o k z = let v = k s.0 s.1 z in (v.0, back ss room t s.0 s.1 (a ++ v.0) o v.1)

-- ---- with no fault the tokens are a whole

ended_at : (s : Symbol) (ss : Stack) (m : Move) → expand s None ≡ m → (ends ss ≡ true → Completes ss []) → skips m (ends ss) ≡ true → Completes (s ∷ ss) []
ended_at s ss skip e later z = ([], [], refl, left_out s None e, later z)
ended_at s ss fail e later z = cc
ended_at s ss (take bs) e later z = cc
ended_at s ss (enter bs) e later z = cc

ended : (ss : Stack) → ends ss ≡ true → Completes ss []
ended [] e = refl
ended (s ∷ ss) e = ended_at s ss (expand s None) refl (ended ss) e

abbrev at_end : Bool → Option (List Token)
at_end b = if b then None else Some []

pub whole : (ts : List Token) (room : Room) (ss : Stack) → fault ts room ss ≡ None → Completes ss ts
whole [] room ss e = go (ends ss) refl e
  where
    go : (b : Bool) → ends ss ≡ b → at_end b ≡ None → Completes ss []
    go true e z = ended ss e
    go false e z = cc
whole (t ∷ ts) room ss e = go (after room ss (Some t.kind)) refl (λ r to z. whole ts r to z) e
  where
    go : (o : Option State) → after room ss (Some t.kind) ≡ o → ((r : Room) (to : Stack) → fault ts r to ≡ None → Completes to ts) → goes o (t ∷ ts) (fault ts) ≡ None → Completes ss (t ∷ ts)
    go None o k z = cc
    go (Some s) o k z = back ss room t s.0 s.1 ts o (k s.0 s.1 z)

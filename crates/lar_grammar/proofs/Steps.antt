-- One symbol of the stack: what it does to the fault.
use Rattle.std.proofs.Common.{◌≡◌, List, [], ◌∷◌, ◌++◌, Option, Some, None, Bool, true, false, refl, ap, ◌∙◌, subst, inl, inr, ◌⊎◌, append_assoc, if◌then◌else◌}
use Rattle.lar_source.specs.declared.file.Span.{Span}
use Rattle.lar_tree.specs.declared.token.Kind.{Kind}
use Rattle.lar_tree.specs.declared.token.Token.{Token}
use Rattle.lar_grammar.specs.Looks.{look}
use Rattle.lar_grammar.specs.Symbols.{Symbol, Stack, Move, skip, fail, take, enter, then_, entering, when}
use Rattle.lar_grammar.specs.Moves.{expand}
use Rattle.lar_grammar.specs.Machine.{Room, spend, left, State, spent, moves, after, skips, ends, goes, fault}

-- the next token's place, and what is behind it
abbrev pub next : List Token → Option (Span × List Token)
next [] = None
next (t ∷ ts) = Some (t.span, ts)

abbrev at_of : Option (Span × List Token) → Span → Span
at_of None at = at
at_of (Some p) at = p.0

abbrev rest_of : Option (Span × List Token) → List Token → List Token
rest_of None ts = ts
rest_of (Some p) ts = p.1

-- ---- a token taken, a symbol left out, a fault

pub passes_take : (ts rest : List Token) (room room' : Room) (s : Symbol) (bs ss : Stack) (at : Span) → expand s (look ts) ≡ take bs → next ts ≡ Some (at, rest) → spend room ≡ Some room' → fault ts room (s ∷ ss) ≡ fault rest room' (bs ++ ss)
passes_take [] rest room room' s bs ss at e n p = cc
passes_take (t ∷ ts) rest room room' s bs ss at e n p =
    let same : ts ≡ rest = ap (λ o. rest_of o rest) n in
    ap (λ m. goes (moves m (after (left s room) ss (Some t.kind)) room ss) (t ∷ ts) (fault ts)) e
    ∙ ap (λ r. goes (spent r (bs ++ ss)) (t ∷ ts) (fault ts)) p
    ∙ ap (λ r. fault r room' (bs ++ ss)) same

pub passes_enter : (ts rest : List Token) (room : Room) (s : Symbol) (bs ss : Stack) (at : Span) → expand s (look ts) ≡ enter bs → next ts ≡ Some (at, rest) → fault ts room (s ∷ ss) ≡ fault rest (Some 511) (bs ++ ss)
passes_enter [] rest room s bs ss at e n = cc
passes_enter (t ∷ ts) rest room s bs ss at e n =
    let same : ts ≡ rest = ap (λ o. rest_of o rest) n in
    ap (λ m. goes (moves m (after (left s room) ss (Some t.kind)) room ss) (t ∷ ts) (fault ts)) e
    ∙ ap (λ r. fault r (Some 511) (bs ++ ss)) same

pub passes_skip : (ts : List Token) (room : Room) (s : Symbol) (ss : Stack) → expand s (look ts) ≡ skip → fault ts room (s ∷ ss) ≡ fault ts (left s room) ss
passes_skip [] room s ss e = ap (λ m. if skips m (ends ss) then None else Some []) e
passes_skip (t ∷ ts) room s ss e = ap (λ m. goes (moves m (after (left s room) ss (Some t.kind)) room ss) (t ∷ ts) (fault ts)) e

pub stops_fail : (ts : List Token) (room : Room) (s : Symbol) (ss : Stack) → expand s (look ts) ≡ fail → fault ts room (s ∷ ss) ≡ Some ts
stops_fail [] room s ss e = ap (λ m. if skips m (ends ss) then None else Some []) e
stops_fail (t ∷ ts) room s ss e = ap (λ m. goes (moves m (after (left s room) ss (Some t.kind)) room ss) (t ∷ ts) (fault ts)) e

-- a token is wanted, and none may come
pub stops_blocked : (ts : List Token) (room : Room) (s : Symbol) (bs ss : Stack) → expand s (look ts) ≡ take bs → (look ts ≡ None) ⊎ (spend room ≡ None) → fault ts room (s ∷ ss) ≡ Some ts
stops_blocked [] room s bs ss e b = ap (λ m. if skips m (ends ss) then None else Some []) e
stops_blocked (t ∷ ts) room s bs ss e (inl n) = cc
stops_blocked (t ∷ ts) room s bs ss e (inr n) =
    ap (λ m. goes (moves m (after (left s room) ss (Some t.kind)) room ss) (t ∷ ts) (fault ts)) e
    ∙ ap (λ r. goes (spent r (bs ++ ss)) (t ∷ ts) (fault ts)) n

pub stops_end : (ts : List Token) (room : Room) (s : Symbol) (bs ss : Stack) → expand s (look ts) ≡ enter bs → look ts ≡ None → fault ts room (s ∷ ss) ≡ Some ts
stops_end [] room s bs ss e n = ap (λ m. if skips m (ends ss) then None else Some []) e
stops_end (t ∷ ts) room s bs ss e n = cc

-- nothing is wanted
pub stops_over : (t : Token) (ts : List Token) (room : Room) → fault (t ∷ ts) room [] ≡ Some (t ∷ ts)
stops_over t ts room = refl

-- ---- what was seen

pub advanced : (ts rest : List Token) (at : Span) (k : Kind) → next ts ≡ Some (at, rest) → look ts ≡ Some k → ts ≡ record { kind = k; span = at } ∷ rest
advanced [] rest at k n l = cc
advanced (t ∷ ts) rest at k n l =
    let same : ts ≡ rest = ap (λ o. rest_of o rest) n in
    let place : t.span ≡ at = ap (λ o. at_of o at) n in
    let seen : t.kind ≡ k = cc in
    ap (λ x. record { kind = x; span = t.span } ∷ ts) seen ∙ ap (λ x. record { kind = k; span = x } ∷ ts) place ∙ ap (λ x. record { kind = k; span = at } ∷ x) same

-- ---- moves

-- neither left out nor the first token of an outermost expression or type
abbrev pub Steady : Move → Type 0
Steady skip = ⊥
Steady fail = Unit {0}
Steady (take bs) = Unit {0}
Steady (enter bs) = ⊥

pub steady_never_skips : (m : Move) → Steady m → m ≡ skip → ⊥
steady_never_skips m steady e = subst Steady e steady

pub steady_never_enters : (m : Move) → Steady m → (b : Stack) → m ≡ enter b → ⊥
steady_never_enters m steady b e = subst Steady e steady

pub then_steady : (m : Move) (behind : Stack) → Steady m → Steady (then_ m behind)
then_steady skip behind steady = steady
then_steady fail behind steady = tt
then_steady (take bs) behind steady = tt
then_steady (enter bs) behind steady = steady

pub then_never_skips : (m : Move) (behind : Stack) → (m ≡ skip → ⊥) → then_ m behind ≡ skip → ⊥
then_never_skips skip behind not e = not refl
then_never_skips fail behind not e = cc
then_never_skips (take bs) behind not e = cc
then_never_skips (enter bs) behind not e = cc

pub entering_never_skips : (m : Move) → (m ≡ skip → ⊥) → entering m ≡ skip → ⊥
entering_never_skips skip not e = not refl
entering_never_skips fail not e = cc
entering_never_skips (take bs) not e = cc
entering_never_skips (enter bs) not e = cc

pub when_true : (b : Bool) (m n : Move) → b ≡ true → when b m n ≡ m
when_true true m n e = refl
when_true false m n e = cc

pub when_false : (b : Bool) (m n : Move) → b ≡ false → when b m n ≡ n
when_false true m n e = cc
when_false false m n e = refl

-- ---- a symbol that begins as another does

split_at : (ts : List Token) (room : Room) (ss behind : Stack) (m n : Move) (o o' : Option State) → m ≡ then_ n behind → (n ≡ skip → ⊥) → (t : Token) →
    goes (moves m o room ss) (t ∷ ts) (fault ts) ≡ goes (moves n o' room (behind ++ ss)) (t ∷ ts) (fault ts)
split_at ts room ss behind m skip o o' e not t = absurd (not refl)
split_at ts room ss behind m fail o o' e not t = ap (λ x. goes (moves x o room ss) (t ∷ ts) (fault ts)) e
split_at ts room ss behind m (take bs) o o' e not t =
    ap (λ x. goes (moves x o room ss) (t ∷ ts) (fault ts)) e
    ∙ ap (λ x. goes (spent (spend room) x) (t ∷ ts) (fault ts)) (append_assoc bs behind ss)
split_at ts room ss behind m (enter bs) o o' e not t =
    ap (λ x. goes (moves x o room ss) (t ∷ ts) (fault ts)) e
    ∙ ap (λ x. goes (spent (spend (Some 512)) x) (t ∷ ts) (fault ts)) (append_assoc bs behind ss)

split_end : (ss behind : Stack) (m n : Move) → m ≡ then_ n behind → (n ≡ skip → ⊥) → skips m (ends ss) ≡ skips n (ends (behind ++ ss))
split_end ss behind m skip e not = absurd (not refl)
split_end ss behind m fail e not = ap (λ x. skips x (ends ss)) e
split_end ss behind m (take bs) e not = ap (λ x. skips x (ends ss)) e
split_end ss behind m (enter bs) e not = ap (λ x. skips x (ends ss)) e

pub split : (ts : List Token) (room : Room) (s s' : Symbol) (behind ss : Stack) → expand s (look ts) ≡ then_ (expand s' (look ts)) behind → (expand s' (look ts) ≡ skip → ⊥) → fault ts room (s ∷ ss) ≡ fault ts room (s' ∷ (behind ++ ss))
split [] room s s' behind ss e not = ap (λ b. if b then None else Some []) (split_end ss behind _ _ e not)
split (t ∷ ts) room s s' behind ss e not = split_at ts room ss behind _ _ _ _ e not t

enter_at : (ts : List Token) (room : Room) (ss behind : Stack) (m n : Move) (o o' : Option State) → m ≡ then_ (entering n) behind → (n ≡ skip → ⊥) → (t : Token) →
    goes (moves m o room ss) (t ∷ ts) (fault ts) ≡ goes (moves n o' (Some 512) (behind ++ ss)) (t ∷ ts) (fault ts)
enter_at ts room ss behind m skip o o' e not t = absurd (not refl)
enter_at ts room ss behind m fail o o' e not t = ap (λ x. goes (moves x o room ss) (t ∷ ts) (fault ts)) e
enter_at ts room ss behind m (take bs) o o' e not t =
    ap (λ x. goes (moves x o room ss) (t ∷ ts) (fault ts)) e
    ∙ ap (λ x. goes (spent (spend (Some 512)) x) (t ∷ ts) (fault ts)) (append_assoc bs behind ss)
enter_at ts room ss behind m (enter bs) o o' e not t =
    ap (λ x. goes (moves x o room ss) (t ∷ ts) (fault ts)) e
    ∙ ap (λ x. goes (spent (spend (Some 512)) x) (t ∷ ts) (fault ts)) (append_assoc bs behind ss)

enter_end : (ss behind : Stack) (m n : Move) → m ≡ then_ (entering n) behind → (n ≡ skip → ⊥) → skips m (ends ss) ≡ skips n (ends (behind ++ ss))
enter_end ss behind m skip e not = absurd (not refl)
enter_end ss behind m fail e not = ap (λ x. skips x (ends ss)) e
enter_end ss behind m (take bs) e not = ap (λ x. skips x (ends ss)) e
enter_end ss behind m (enter bs) e not = ap (λ x. skips x (ends ss)) e

-- with the room of an outermost expression or type
pub split_enter : (ts : List Token) (room : Room) (s s' : Symbol) (behind ss : Stack) → expand s (look ts) ≡ then_ (entering (expand s' (look ts))) behind → (expand s' (look ts) ≡ skip → ⊥) → fault ts room (s ∷ ss) ≡ fault ts (Some 512) (s' ∷ (behind ++ ss))
split_enter [] room s s' behind ss e not = ap (λ b. if b then None else Some []) (enter_end ss behind _ _ e not)
split_enter (t ∷ ts) room s s' behind ss e not = enter_at ts room ss behind _ _ _ _ e not t

same_at : (ts : List Token) (room : Room) (ss : Stack) (m n : Move) (o o' : Option State) → m ≡ n → (n ≡ skip → ⊥) → (t : Token) →
    goes (moves m o room ss) (t ∷ ts) (fault ts) ≡ goes (moves n o' room ss) (t ∷ ts) (fault ts)
same_at ts room ss m skip o o' e not t = absurd (not refl)
same_at ts room ss m fail o o' e not t = ap (λ x. goes (moves x o room ss) (t ∷ ts) (fault ts)) e
same_at ts room ss m (take bs) o o' e not t = ap (λ x. goes (moves x o room ss) (t ∷ ts) (fault ts)) e
same_at ts room ss m (enter bs) o o' e not t = ap (λ x. goes (moves x o room ss) (t ∷ ts) (fault ts)) e

-- a symbol that does what another does
pub same_moves : (ts : List Token) (room : Room) (s s' : Symbol) (ss : Stack) → expand s (look ts) ≡ expand s' (look ts) → (expand s' (look ts) ≡ skip → ⊥) → fault ts room (s ∷ ss) ≡ fault ts room (s' ∷ ss)
same_moves [] room s s' ss e not = ap (λ m. if skips m (ends ss) then None else Some []) e
same_moves (t ∷ ts) room s s' ss e not = same_at ts room ss _ _ _ _ e not t

-- Steps where no outermost expression is open: a token or a part, and then the rest.
use Rattle.std.proofs.Common.{◌≡◌, List, [], ◌∷◌, ◌++◌, Some, true, refl, sym, ap, subst, append_assoc, append-nil}
use Rattle.lar_tree.specs.declared.token.Token.{Token}
use Rattle.lar_tree.specs.Marks.{tokens_of, Marked, un}
use Rattle.lar_grammar.specs.Looks.{Look, look}
use Rattle.lar_grammar.specs.Symbols.{Symbol, Stack, Move, skip, fail, take, enter, then_}
use Rattle.lar_grammar.specs.Moves.{expand}
use Rattle.lar_grammar.proofs.Going.{outside, Goes, part, token_then, stops_fail}

-- a token, and the rest
pub step : {Q : Look → Type 0} {t : Token} {ms : List Marked} {s : Symbol} {body onto to : Stack} → expand s (Some t.kind) ≡ take body → Goes outside Q ms (body ++ onto) to → Goes outside Q (un t ∷ ms) (s ∷ onto) to
step {t = t} {body = body} e g = token_then t body e g

-- the same where the token's symbol is the last
pub step_to : {Q : Look → Type 0} {t : Token} {ms : List Marked} {s : Symbol} {body to : Stack} → expand s (Some t.kind) ≡ take body → Goes outside Q ms body to → Goes outside Q (un t ∷ ms) (s ∷ []) to
step_to {Q} {t} {ms} {s} {body} {to} e g = step {body = body} e (subst (λ from. Goes outside Q ms from to) (sym (append-nil body)) g)

-- a part, and the rest
pub part_then : {P Q : Look → Type 0} {a b : List Marked} {s : Symbol} {onto to : Stack} → Goes outside P a (s ∷ []) [] → ((rest : List Token) → Q (look rest) → P (look (tokens_of b ++ rest))) → Goes outside Q b onto to → Goes outside Q (a ++ b) (s ∷ onto) to
part_then {s = s} {onto = onto} g k h = part {from = s ∷ []} onto g h k

-- where no further level may come
pub refused : {Q : Look → Type 0} {t : Token} {ms : List Marked} {s : Symbol} {onto to : Stack} → expand s (Some t.kind) ≡ fail → Goes outside Q ((t, true) ∷ ms) (s ∷ onto) to
refused {Q} {t} {ms} {s} {onto} {to} e = record { runs = λ room ok rest ss q. stops_fail (t ∷ (tokens_of ms ++ rest)) room s (onto ++ ss) e }

pub then-append : (m : Move) (a b : Stack) → then_ (then_ m a) b ≡ then_ m (a ++ b)
then-append skip a b = refl
then-append fail a b = refl
then-append (take ss) a b = ap take (append_assoc ss a b)
then-append (enter ss) a b = ap enter (append_assoc ss a b)

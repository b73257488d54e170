-- The machine goes through tokens, from one stack to another: what that means, and how such parts are put together.
use Rattle.std.proofs.Common.{◌≡◌, ℕ, zero, suc, List, [], ◌∷◌, ◌++◌, Option, Some, None, true, false, if◌then◌else◌, refl, sym, ap, ◌∙◌, append_assoc}
use Rattle.lar_tree.specs.declared.token.Token.{Token}
use Rattle.lar_tree.specs.Marks.{Marked, un, over, cut}
use Rattle.lar_tree.specs.Marks.{tokens_of}
use Rattle.lar_tree.proofs.MarkedTokens.{tokens-append, tokens-cut}
use Rattle.lar_grammar.specs.Looks.{Look, look}
use Rattle.lar_grammar.specs.Symbols.{Listed, Symbol, further, leave, Stack, Move, skip, fail, take, enter, then_, entering}
use Rattle.lar_grammar.specs.Moves.{expand}
use Rattle.lar_grammar.specs.Machine.{Room, spend, left, spent, moves, after, skips, ends, goes, fault}

-- ---- where a part stands

-- in an outermost expression or type, or in none
pub data Where : Type 0 where
  inside : Where
  outside : Where

abbrev pub Allows : Where → Room → Type 0
Allows inside room = Unit {0}
Allows outside room = room ≡ None

allows-spend : (w : Where) (room r : Room) → Allows w room → spend room ≡ Some r → Allows w r
allows-spend inside room r a e = tt
allows-spend outside None r a e = cc
allows-spend outside (Some n) r a e = cc

-- ---- the first token that may not stand

abbrev pub on : Option Room → Option (List Token) → (Room → Option (List Token)) → Option (List Token)
on None here later = here
on (Some r) here later = later r

-- the first token that is marked or finds no room, or what comes later
abbrev pub stops : List Marked → Room → List Token → (Room → Option (List Token)) → Option (List Token)
stops [] room rest later = later room
stops ((t, true) ∷ ms) room rest later = Some (t ∷ (tokens_of ms ++ rest))
stops ((t, false) ∷ ms) room rest later = on (spend room) (Some (t ∷ (tokens_of ms ++ rest))) (λ r. stops ms r rest later)

on_same : (o : Option Room) (x y : Option (List Token)) (f g : Room → Option (List Token)) → x ≡ y → ((r : Room) → o ≡ Some r → f r ≡ g r) → on o x f ≡ on o y g
on_same None x y f g e h = e
on_same (Some r) x y f g e h = h r refl

pub tokens_on : (a b : List Marked) (rest : List Token) → tokens_of (a ++ b) ++ rest ≡ tokens_of a ++ (tokens_of b ++ rest)
tokens_on a b rest = ap (λ x. x ++ rest) (tokens-append a b) ∙ append_assoc (tokens_of a) (tokens_of b) rest

pub stops_same : (w : Where) (ms : List Marked) (room : Room) → Allows w room → (rest : List Token) (f g : Room → Option (List Token)) → ((r : Room) → Allows w r → f r ≡ g r) → stops ms room rest f ≡ stops ms room rest g
stops_same w [] room a rest f g h = h room a
stops_same w ((t, true) ∷ ms) room a rest f g h = refl
stops_same w ((t, false) ∷ ms) room a rest f g h = on_same (spend room) _ _ _ _ refl (λ r e. stops_same w ms r (allows-spend w room r a e) rest f g h)

pub stops_append : (a b : List Marked) (room : Room) (rest : List Token) (later : Room → Option (List Token)) → stops (a ++ b) room rest later ≡ stops a room (tokens_of b ++ rest) (λ r. stops b r rest later)
stops_append [] b room rest later = refl
stops_append ((t, true) ∷ a) b room rest later = ap (λ x. Some (t ∷ x)) (tokens_on a b rest)
stops_append ((t, false) ∷ a) b room rest later = on_same (spend room) _ _ _ _ (ap (λ x. Some (t ∷ x)) (tokens_on a b rest)) (λ r e. stops_append a b r rest later)

-- the tokens past n are those that find no room
pub stops_cut : (n : ℕ) (ms : List Marked) (rest : List Token) (f later : Room → Option (List Token)) → ((r : Room) → f r ≡ later None) → stops ms (Some n) rest f ≡ stops (cut n ms) None rest later
stops_cut zero [] rest f later h = h (Some zero)
stops_cut (suc n) [] rest f later h = h (Some (suc n))
stops_cut zero ((t, true) ∷ ms) rest f later h = ap (λ y. Some (t ∷ (y ++ rest))) (sym (tokens-cut zero ms))
stops_cut zero ((t, false) ∷ ms) rest f later h = ap (λ y. Some (t ∷ (y ++ rest))) (sym (tokens-cut zero ms))
stops_cut (suc n) ((t, true) ∷ ms) rest f later h = ap (λ y. Some (t ∷ (y ++ rest))) (sym (tokens-cut n ms))
stops_cut (suc n) ((t, false) ∷ ms) rest f later h = stops_cut n ms rest f later h

-- ---- one symbol

pub passes_skip : (ts : List Token) (room : Room) (s : Symbol) (ss : Stack) → expand s (look ts) ≡ skip → fault ts room (s ∷ ss) ≡ fault ts (left s room) ss
passes_skip [] room s ss e = ap (λ m. if skips m (ends ss) then None else Some []) e
passes_skip (t ∷ ts) room s ss e = ap (λ m. goes (moves m (after (left s room) ss (Some t.kind)) room ss) (t ∷ ts) (fault ts)) e

pub passes_token : (t : Token) (ts : List Token) (room : Room) (s : Symbol) (body ss : Stack) → expand s (Some t.kind) ≡ take body → fault (t ∷ ts) room (s ∷ ss) ≡ on (spend room) (Some (t ∷ ts)) (λ r. fault ts r (body ++ ss))
passes_token t ts room s body ss e = ap (λ m. goes (moves m (after (left s room) ss (Some t.kind)) room ss) (t ∷ ts) (fault ts)) e ∙ by_room (spend room)
  where
    by_room : (o : Option Room) → goes (spent o (body ++ ss)) (t ∷ ts) (fault ts) ≡ on o (Some (t ∷ ts)) (λ r. fault ts r (body ++ ss))
    by_room None = refl
    by_room (Some r) = refl

pub stops_fail : (ts : List Token) (room : Room) (s : Symbol) (ss : Stack) → expand s (look ts) ≡ fail → fault ts room (s ∷ ss) ≡ Some ts
stops_fail [] room s ss e = ap (λ m. if skips m (ends ss) then None else Some []) e
stops_fail (t ∷ ts) room s ss e = ap (λ m. goes (moves m (after (left s room) ss (Some t.kind)) room ss) (t ∷ ts) (fault ts)) e

-- a symbol that is not left out begins as another and more
pub split : (ts : List Token) (room : Room) (s s' : Symbol) (more ss : Stack) (m : Move) → expand s' (look ts) ≡ m → expand s (look ts) ≡ then_ m more → (m ≡ skip → ⊥) → fault ts room (s ∷ ss) ≡ fault ts room (s' ∷ (more ++ ss))
split ts room s s' more ss skip e k not = absurd (not refl)
split ts room s s' more ss fail e k not = stops_fail ts room s ss k ∙ sym (stops_fail ts room s' (more ++ ss) e)
split [] room s s' more ss (take body) e k not = ap (λ m. if skips m (ends ss) then None else Some []) k ∙ sym (ap (λ m. if skips m (ends (more ++ ss)) then None else Some []) e)
split (t ∷ ts) room s s' more ss (take body) e k not =
    ap (λ m. goes (moves m (after (left s room) ss (Some t.kind)) room ss) (t ∷ ts) (fault ts)) k
    ∙ ap (λ x. goes (spent (spend room) x) (t ∷ ts) (fault ts)) (append_assoc body more ss)
    ∙ sym (ap (λ m. goes (moves m (after (left s' room) (more ++ ss) (Some t.kind)) room (more ++ ss)) (t ∷ ts) (fault ts)) e)
split [] room s s' more ss (enter body) e k not = ap (λ m. if skips m (ends ss) then None else Some []) k ∙ sym (ap (λ m. if skips m (ends (more ++ ss)) then None else Some []) e)
split (t ∷ ts) room s s' more ss (enter body) e k not =
    ap (λ m. goes (moves m (after (left s room) ss (Some t.kind)) room ss) (t ∷ ts) (fault ts)) k
    ∙ ap (λ x. goes (spent (spend (Some 512)) x) (t ∷ ts) (fault ts)) (append_assoc body more ss)
    ∙ sym (ap (λ m. goes (moves m (after (left s' room) (more ++ ss) (Some t.kind)) room (more ++ ss)) (t ∷ ts) (fault ts)) e)

-- one that begins as another and more, outermost
pub entered : (ts : List Token) (room : Room) (s s' : Symbol) (more ss : Stack) (m : Move) → expand s' (look ts) ≡ m → expand s (look ts) ≡ then_ (entering m) more → (m ≡ skip → ⊥) → fault ts room (s ∷ ss) ≡ fault ts (Some 512) (s' ∷ (more ++ ss))
entered ts room s s' more ss skip e k not = absurd (not refl)
entered ts room s s' more ss fail e k not = stops_fail ts room s ss k ∙ sym (stops_fail ts (Some 512) s' (more ++ ss) e)
entered [] room s s' more ss (take body) e k not = ap (λ m. if skips m (ends ss) then None else Some []) k ∙ sym (ap (λ m. if skips m (ends (more ++ ss)) then None else Some []) e)
entered (t ∷ ts) room s s' more ss (take body) e k not =
    ap (λ m. goes (moves m (after (left s room) ss (Some t.kind)) room ss) (t ∷ ts) (fault ts)) k
    ∙ ap (λ x. goes (spent (spend (Some 512)) x) (t ∷ ts) (fault ts)) (append_assoc body more ss)
    ∙ sym (ap (λ m. goes (moves m (after (left s' (Some 512)) (more ++ ss) (Some t.kind)) (Some 512) (more ++ ss)) (t ∷ ts) (fault ts)) e)
entered [] room s s' more ss (enter body) e k not = ap (λ m. if skips m (ends ss) then None else Some []) k ∙ sym (ap (λ m. if skips m (ends (more ++ ss)) then None else Some []) e)
entered (t ∷ ts) room s s' more ss (enter body) e k not =
    ap (λ m. goes (moves m (after (left s room) ss (Some t.kind)) room ss) (t ∷ ts) (fault ts)) k
    ∙ ap (λ x. goes (spent (spend (Some 512)) x) (t ∷ ts) (fault ts)) (append_assoc body more ss)
    ∙ sym (ap (λ m. goes (moves m (after (left s' (Some 512)) (more ++ ss) (Some t.kind)) (Some 512) (more ++ ss)) (t ∷ ts) (fault ts)) e)

-- ---- parts

-- The machine goes through these tokens from the one stack to the other, where what comes next is P, or stops at the first that is
-- marked or finds no room.
pub record Goes (w : Where) (P : Look → Type 0) (ms : List Marked) (from to : Stack) : Type 0 where
  pub runs : (room : Room) → Allows w room → (rest : List Token) (ss : Stack) → P (look rest) → fault (tokens_of ms ++ rest) room (from ++ ss) ≡ stops ms room rest (λ r. fault rest r (to ++ ss))

abbrev pub Any : Look → Type 0
Any l = Unit {0}

-- one part after the other
pub seq : {w : Where} {P Q : Look → Type 0} {a b : List Marked} {from mid to : Stack} → Goes w P a from mid → Goes w Q b mid to → ((rest : List Token) → Q (look rest) → P (look (tokens_of b ++ rest))) → Goes w Q (a ++ b) from to
seq {w} {P} {Q} {a} {b} {from} {mid} {to} g h k = record {
  runs = λ room ok rest ss q.
      ap (λ x. fault x room (from ++ ss)) (tokens_on a b rest)
      ∙ g.runs room ok (tokens_of b ++ rest) ss (k rest q)
      ∙ stops_same w a room ok (tokens_of b ++ rest) _ _ (λ r fits. h.runs r fits rest ss q)
      ∙ sym (stops_append a b room rest (λ r. fault rest r (to ++ ss)));
}

-- the same over a longer stack
pub over_more : {w : Where} {P : Look → Type 0} {a : List Marked} {from to : Stack} → Goes w P a from to → (onto : Stack) → Goes w P a (from ++ onto) (to ++ onto)
over_more {w} {P} {a} {from} {to} g onto = record {
  runs = λ room ok rest ss p.
      ap (fault (tokens_of a ++ rest) room) (append_assoc from onto ss)
      ∙ g.runs room ok rest (onto ++ ss) p
      ∙ stops_same w a room ok rest _ _ (λ r fits. ap (fault rest r) (sym (append_assoc to onto ss)));
}

-- a part, and what stands behind its symbols
pub part : {w : Where} {P Q : Look → Type 0} {a b : List Marked} {from to end : Stack} (more : Stack) → Goes w P a from to → Goes w Q b (to ++ more) end → ((rest : List Token) → Q (look rest) → P (look (tokens_of b ++ rest))) → Goes w Q (a ++ b) (from ++ more) end
part more g h k = seq (over_more g more) h k

-- under a stronger condition
pub when_also : {w : Where} {P Q : Look → Type 0} {a : List Marked} {from to : Stack} → ((l : Look) → Q l → P l) → Goes w P a from to → Goes w Q a from to
when_also k g = record { runs = λ room ok rest ss q. g.runs room ok rest ss (k (look rest) q) }

pub any_where : {P : Look → Type 0} {a : List Marked} {from to : Stack} → Goes inside P a from to → Goes outside P a from to
any_where g = record { runs = λ room ok rest ss p. g.runs room tt rest ss p }

-- no token
pub stays : {w : Where} {P : Look → Type 0} (from : Stack) → Goes w P [] from from
stays from = record { runs = λ room ok rest ss p. refl }

-- a token that is taken
pub token : {w : Where} {P : Look → Type 0} {s : Symbol} {body : Stack} (t : Token) → expand s (Some t.kind) ≡ take body → Goes w P (un t ∷ []) (s ∷ []) body
token {s = s} {body = body} t e = record { runs = λ room ok rest ss p. passes_token t rest room s body ss e }

-- a token that is taken, and what comes then
pub token_then : {w : Where} {P : Look → Type 0} {s : Symbol} {more to : Stack} {ms : List Marked} (t : Token) (body : Stack) → expand s (Some t.kind) ≡ take body → Goes w P ms (body ++ more) to → Goes w P (un t ∷ ms) (s ∷ more) to
token_then {w} {P} {s} {more} {to} {ms} t body e g = part {P = Any} more (token t e) g (λ rest q. tt)

-- a symbol that may be left out
pub left_out : {w : Where} {P : Look → Type 0} (s : Symbol) → ((room : Room) → left s room ≡ room) → ((l : Look) → P l → expand s l ≡ skip) → Goes w P [] (s ∷ []) []
left_out s z e = record { runs = λ room ok rest ss p. passes_skip rest room s ss (e (look rest) p) ∙ ap (λ r. fault rest r ss) (z room) }

-- a symbol that is left out before the first of the tokens
pub left_before : {w : Where} {P : Look → Type 0} {ms : List Marked} {more to : Stack} (s : Symbol) → ((room : Room) → left s room ≡ room) → ((rest : List Token) → P (look rest) → expand s (look (tokens_of ms ++ rest)) ≡ skip) → Goes w P ms more to → Goes w P ms (s ∷ more) to
left_before {ms = ms} {more = more} s z e g = record { runs = λ room ok rest ss p. passes_skip (tokens_of ms ++ rest) room s (more ++ ss) (e rest p) ∙ ap (λ r. fault (tokens_of ms ++ rest) r (more ++ ss)) (z room) ∙ g.runs room ok rest ss p }

-- what is left over is left out
pub drop_end : {w : Where} {P Q : Look → Type 0} {a : List Marked} {from to : Stack} (s : Symbol) → ((room : Room) → left s room ≡ room) → ((l : Look) → Q l → P l) → ((l : Look) → Q l → expand s l ≡ skip) → Goes w P a from (s ∷ to) → Goes w Q a from to
drop_end {w} {P} {Q} {a} {from} {to} s z k e g = record {
  runs = λ room ok rest ss q.
      g.runs room ok rest ss (k (look rest) q)
      ∙ stops_same w a room ok rest _ _ (λ r fits. passes_skip rest r s (to ++ ss) (e (look rest) q) ∙ ap (λ x. fault rest x (to ++ ss)) (z r));
}

-- a symbol that begins as another and more
pub opens : {w : Where} {P : Look → Type 0} {ms : List Marked} {to : Stack} (s s' : Symbol) (more behind : Stack) → ((rest : List Token) → P (look rest) → expand s (look (tokens_of ms ++ rest)) ≡ then_ (expand s' (look (tokens_of ms ++ rest))) more) → ((l : Look) → expand s' l ≡ skip → ⊥) → Goes w P ms (s' ∷ (more ++ behind)) to → Goes w P ms (s ∷ behind) to
opens {ms = ms} s s' more behind e n g = record {
  runs = λ room ok rest ss p.
      split (tokens_of ms ++ rest) room s s' more (behind ++ ss) _ refl (e rest p) (n _)
      ∙ ap (λ x. fault (tokens_of ms ++ rest) room (s' ∷ x)) (sym (append_assoc more behind ss))
      ∙ g.runs room ok rest ss p;
}

alike_at : (ts : List Token) (room : Room) (s s' : Symbol) (ss : Stack) → expand s (look ts) ≡ expand s' (look ts) → left s room ≡ left s' room → fault ts room (s ∷ ss) ≡ fault ts room (s' ∷ ss)
alike_at [] room s s' ss e z = ap (λ m. if skips m (ends ss) then None else Some []) e
alike_at (t ∷ ts) room s s' ss e z =
    ap (λ m. goes (moves m (after (left s room) ss (Some t.kind)) room ss) (t ∷ ts) (fault ts)) e
    ∙ ap (λ r. goes (moves (expand s' (Some t.kind)) (after r ss (Some t.kind)) room ss) (t ∷ ts) (fault ts)) z

-- a symbol that does as another with the first of the tokens
pub alike : {w : Where} {P : Look → Type 0} {ms : List Marked} {behind to : Stack} (s s' : Symbol) → ((room : Room) → left s room ≡ left s' room) → ((rest : List Token) → P (look rest) → expand s (look (tokens_of ms ++ rest)) ≡ expand s' (look (tokens_of ms ++ rest))) → Goes w P ms (s' ∷ behind) to → Goes w P ms (s ∷ behind) to
alike {ms = ms} {behind = behind} s s' z e g = record { runs = λ room ok rest ss p. alike_at (tokens_of ms ++ rest) room s s' (behind ++ ss) (e rest p) (z room) ∙ g.runs room ok rest ss p }

-- An outermost expression or type. The room that it opens ends with it, and what is past the room is cut.
pub outermost-goes : {P : Look → Type 0} {ms : List Marked} (s s' : Symbol) (more : Stack) → ((rest : List Token) → P (look rest) → expand s' (look (tokens_of ms ++ rest)) ≡ then_ (entering (expand s (look (tokens_of ms ++ rest)))) (leave ∷ more)) → ((l : Look) → expand s l ≡ skip → ⊥) → Goes inside P ms (s ∷ []) [] → Goes outside P (cut 512 ms) (s' ∷ []) more
outermost-goes {ms = ms} s s' more e n g = record {
  runs = λ room ok rest ss p.
      ap (λ x. fault (x ++ rest) room (s' ∷ ss)) (tokens-cut 512 ms)
      ∙ entered (tokens_of ms ++ rest) room s' s (leave ∷ more) ss _ refl (e rest p) (n _)
      ∙ g.runs (Some 512) tt rest (leave ∷ (more ++ ss)) p
      ∙ stops_cut 512 ms rest _ (λ r. fault rest r (more ++ ss)) (λ r. passes_skip rest r leave (more ++ ss) refl)
      ∙ ap (λ r. stops (cut 512 ms) r rest (λ x. fault rest x (more ++ ss))) (sym ok);
}

-- ---- past the limit of a list

abbrev pub HasFirst : List Marked → Type 0
HasFirst [] = ⊥
HasFirst (m ∷ ms) = Unit {0}

pub has_first-append : (a b : List Marked) → HasFirst a → HasFirst (a ++ b)
has_first-append [] b h = absurd h
has_first-append (m ∷ a) b h = tt

-- the first token of a member too many may not stand there
pub past_limit : {v : Where} {P : Look → Type 0} {to : Stack} (ms others : List Marked) (w : Listed) (behind : Stack) → HasFirst ms → Goes v P (over zero ms ++ others) (further w zero ∷ behind) to
past_limit [] others w behind h = absurd h
past_limit (m ∷ ms) others w behind h = record { runs = λ room ok rest ss p. refl }

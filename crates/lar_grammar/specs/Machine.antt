-- The machine: a stack of symbols over the tokens, and where it stops.
use Rattle.std.specs.Prelude.{ℕ, zero, suc, Bool, true, false, if◌then◌else◌, List, [], ◌∷◌, ◌++◌, Option, Some, None}
use Rattle.lar_tree.specs.declared.token.Token.{Token}
use Rattle.lar_grammar.specs.Looks.{Look}
use Rattle.lar_grammar.specs.Symbols.{Symbol, leave, Stack, Move, skip, fail, take, enter}
use Rattle.lar_grammar.specs.Moves.{expand}

-- How many tokens the outermost expression or type may still have, where one is open.
abbrev pub Room : Type 0
Room = Option ℕ

-- one token less
abbrev pub spend : Room → Option Room
spend None = Some None
spend (Some zero) = None
spend (Some (suc n)) = Some (Some n)

-- the room behind a symbol that is left out
abbrev pub left : Symbol → Room → Room
left leave room = None
left _ room = room

abbrev pub State : Type 0
State = Room × Stack

abbrev pub spent : Option Room → Stack → Option State
spent None ss = None
spent (Some room) ss = Some (room, ss)

-- the state behind a move of the first symbol; later is what comes where that is left out
abbrev pub moves : Move → Option State → Room → Stack → Option State
moves skip later room ss = later
moves fail later room ss = None
moves (take body) later room ss = spent (spend room) (body ++ ss)
moves (enter body) later room ss = spent (spend (Some 512)) (body ++ ss)

-- the state behind a token, if it may stand there
abbrev pub after : Room → Stack → Look → Option State
after room [] l = None
after room (s ∷ ss) l = moves (expand s l) (after (left s room) ss l) room ss

abbrev pub skips : Move → Bool → Bool
skips skip later = later
skips fail later = false
skips (take body) later = false
skips (enter body) later = false

-- nothing more is wanted
abbrev pub ends : Stack → Bool
ends [] = true
ends (s ∷ ss) = skips (expand s None) (ends ss)

abbrev pub goes : Option State → List Token → (Room → Stack → Option (List Token)) → Option (List Token)
goes None ts on = Some ts
goes (Some s) ts on = on s.0 s.1

-- The rest from the first token on that may not stand there. None where the tokens are all that the stack wants.
abbrev pub fault : List Token → Room → Stack → Option (List Token)
fault [] room ss = if ends ss then None else Some []
fault (t ∷ ts) room ss = goes (after room ss (Some t.kind)) (t ∷ ts) (fault ts)

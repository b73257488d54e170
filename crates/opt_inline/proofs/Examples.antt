-- Each rule on a small tree, before and after.
use Rattle.std.proofs.Common.{◌≡◌, refl, pos, true, false, [], ◌∷◌, List, Option, None}
use Rattle.unit_ir.specs.declared.operator.Binary.TheVariants as binary
use Rattle.unit_ir.specs.Exprs.{word, load, op2, call, seq, bind, no_exprs, exprs}
use Rattle.unit_ir.specs.Stmts.{give, print, no_stmts, stmts}
use Rattle.unit_ir.specs.Units.{PlainFn}
use Rattle.opt_inline.specs.Inline.{PlainSmall, small, expr_slots, inlined_expr}

-- function 0 doubles its one word, in one slot
abbrev doubles : PlainFn
doubles = record { symbol = []; external = false; params = 1; «result» = 1; slots = 1; body = stmts (give (op2 binary.Add (load 0) (load 0))) no_stmts }

abbrev table : List (Option PlainSmall)
table = small doubles ∷ []

-- what f gives of a word is put in place, with its slot raised by the slots so far
put_in_place : inlined_expr table 3 (call 0 (exprs (word (pos 5)) no_exprs)) ≡ bind 3 1 (seq (exprs (word (pos 5)) no_exprs)) (op2 binary.Add (load 3) (load 3))
put_in_place = refl

-- the arguments' calls come first, so they have the lower slots
arguments_first : inlined_expr table 3 (call 0 (exprs (call 0 (exprs (load 1) no_exprs)) no_exprs))
    ≡ bind 4 1 (seq (exprs (bind 3 1 (seq (exprs (load 1) no_exprs)) (op2 binary.Add (load 3) (load 3))) no_exprs)) (op2 binary.Add (load 4) (load 4))
arguments_first = refl

slots_grow : expr_slots table 3 (call 0 (exprs (call 0 (exprs (load 1) no_exprs)) no_exprs)) ≡ 5
slots_grow = refl

-- where the slots would be more than 255, a call stays, and the slots too
room_for_one : inlined_expr table 254 (op2 binary.Sub (call 0 (exprs (word (pos 1)) no_exprs)) (call 0 (exprs (word (pos 2)) no_exprs)))
    ≡ op2 binary.Sub (bind 254 1 (seq (exprs (word (pos 1)) no_exprs)) (op2 binary.Add (load 254) (load 254))) (call 0 (exprs (word (pos 2)) no_exprs))
room_for_one = refl

-- a call of an external, which has no place in the table, stays
external_stays : inlined_expr table 3 (call 1 no_exprs) ≡ call 1 no_exprs
external_stays = refl

-- a function that other units may call is not put in place, nor one whose expression has a call, nor one that does more
home_stays : small (record doubles { external = true }) ≡ None
home_stays = refl

caller_stays : small (record doubles { body = stmts (give (call 0 no_exprs)) no_stmts }) ≡ None
caller_stays = refl

more_stays : small (record doubles { body = stmts (print (load 0)) (stmts (give (load 0)) no_stmts) }) ≡ None
more_stays = refl

-- Each rule on a small tree, before and after.
use Rattle.std.proofs.Common.{◌≡◌, refl, pos}
use Rattle.unit_ir.specs.declared.operator.Binary.TheVariants as binary
use Rattle.unit_ir.specs.Exprs.{word, load, op2, both, call, seq, bind, no_exprs, exprs}
use Rattle.unit_ir.specs.Stmts.{store, fork, loop, give, print, eval, PlainStmts, no_stmts, stmts}
use Rattle.opt_slots.specs.Slots.{no_slot, only, also}
use Rattle.opt_slots.specs.Loads.{stmts_loads}
use Rattle.opt_dead.specs.Dead.{dead_stmts}

abbrev of_body : PlainStmts → PlainStmts
of_body ss = dead_stmts (stmts_loads ss) ss

-- a Store into a slot that is never loaded goes where nothing is seen of its value
store_gone : of_body (stmts (store 0 1 (word (pos 2))) (stmts (give (word (pos 3))) no_stmts)) ≡ stmts (give (word (pos 3))) no_stmts
unfolding no_slot only also
store_gone = refl

-- and becomes an Eval where it has a call
store_evaluated : of_body (stmts (store 0 2 (call 7 no_exprs)) no_stmts) ≡ stmts (eval (call 7 no_exprs) 2) no_stmts
unfolding no_slot only also
store_evaluated = refl

-- a Store stays where one of its slots is loaded, be it before the Store
store_stays : of_body (stmts (print (load 4)) (stmts (store 3 2 (seq (exprs (word (pos 1)) (exprs (word (pos 2)) no_exprs)))) no_stmts))
    ≡ stmts (print (load 4)) (stmts (store 3 2 (seq (exprs (word (pos 1)) (exprs (word (pos 2)) no_exprs)))) no_stmts)
unfolding no_slot only also
store_stays = refl

-- loads are counted before anything goes: the load of slot 0 goes with the second Store, and the first stays
load_counted : of_body (stmts (store 0 1 (word (pos 2))) (stmts (store 1 1 (load 0)) no_stmts)) ≡ stmts (store 0 1 (word (pos 2))) no_stmts
unfolding no_slot only also
load_counted = refl

-- an Eval with a remainder stays, one with a Bind and a test goes
remainder_stays : of_body (stmts (eval (op2 binary.Rem (word (pos 1)) (word (pos 0))) 1) no_stmts) ≡ stmts (eval (op2 binary.Rem (word (pos 1)) (word (pos 0))) 1) no_stmts
unfolding no_slot only also
remainder_stays = refl

bind_gone : of_body (stmts (eval (bind 0 1 (word (pos 1)) (both (load 0) (word (pos 1)))) 1) no_stmts) ≡ no_stmts
unfolding no_slot only also
bind_gone = refl

-- branches and bodies keep their place when they are emptied
emptied : of_body (stmts (fork (call 1 no_exprs) (stmts (store 5 1 (word (pos 0))) no_stmts) no_stmts) (stmts (loop (call 2 no_exprs) (stmts (eval (word (pos 1)) 1) no_stmts)) no_stmts))
    ≡ stmts (fork (call 1 no_exprs) no_stmts no_stmts) (stmts (loop (call 2 no_exprs) no_stmts) no_stmts)
unfolding no_slot only also
emptied = refl

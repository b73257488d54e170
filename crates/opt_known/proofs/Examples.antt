-- Each rule on a small tree, before and after.
use Rattle.std.proofs.Common.{◌≡◌, refl, pos}
use Rattle.unit_ir.specs.Exprs.{word, load, call, seq, bind, no_exprs, exprs}
use Rattle.unit_ir.specs.Stmts.{store, fork, loop, give, print, PlainStmts, no_stmts, stmts}
use Rattle.opt_slots.specs.Slots.{no_slot, between, also}
use Rattle.opt_known.specs.Facts.{nothing_known, forget, with_fact}
use Rattle.opt_known.specs.Known.{known_stmts}

abbrev of_body : PlainStmts → PlainStmts
of_body ss = known_stmts nothing_known ss

-- a constant, and the word of another slot, are known behind a Store of one word
constant_known : of_body (stmts (store 0 1 (word (pos 2))) (stmts (give (load 0)) no_stmts)) ≡ stmts (store 0 1 (word (pos 2))) (stmts (give (word (pos 2))) no_stmts)
unfolding no_slot between also nothing_known forget with_fact
constant_known = refl

copy_known : of_body (stmts (store 1 1 (load 0)) (stmts (give (load 1)) no_stmts)) ≡ stmts (store 1 1 (load 0)) (stmts (give (load 0)) no_stmts)
unfolding no_slot between also nothing_known forget with_fact
copy_known = refl

-- a fact is learned from the value as it stands after the walk: slot 2 holds the constant too
walked_first : of_body (stmts (store 0 1 (word (pos 7))) (stmts (store 2 1 (load 0)) (stmts (give (load 2)) no_stmts)))
    ≡ stmts (store 0 1 (word (pos 7))) (stmts (store 2 1 (word (pos 7))) (stmts (give (word (pos 7))) no_stmts))
unfolding no_slot between also nothing_known forget with_fact
walked_first = refl

-- a Store into a slot drops the facts that name it
named_dropped : of_body (stmts (store 1 1 (load 0)) (stmts (store 0 1 (call 3 no_exprs)) (stmts (give (load 1)) no_stmts)))
    ≡ stmts (store 1 1 (load 0)) (stmts (store 0 1 (call 3 no_exprs)) (stmts (give (load 1)) no_stmts))
unfolding no_slot between also nothing_known forget with_fact
named_dropped = refl

-- so does a Bind, behind its value
bind_drops : of_body (stmts (store 0 1 (word (pos 2))) (stmts (give (bind 0 1 (load 0) (load 0))) no_stmts))
    ≡ stmts (store 0 1 (word (pos 2))) (stmts (give (bind 0 1 (word (pos 2)) (load 0))) no_stmts)
unfolding no_slot between also nothing_known forget with_fact
bind_drops = refl

-- a Store of two words drops and learns nothing
two_words : of_body (stmts (store 0 2 (seq (exprs (word (pos 1)) (exprs (word (pos 2)) no_exprs)))) (stmts (give (load 0)) no_stmts))
    ≡ stmts (store 0 2 (seq (exprs (word (pos 1)) (exprs (word (pos 2)) no_exprs)))) (stmts (give (load 0)) no_stmts)
unfolding no_slot between also nothing_known forget with_fact
two_words = refl

-- both branches begin with the facts behind the condition; behind the If those are left that neither stores into
branches : of_body (stmts (store 0 1 (word (pos 2))) (stmts (store 1 1 (word (pos 3))) (stmts (fork (call 3 no_exprs) (stmts (store 0 1 (load 0)) no_stmts) (stmts (print (load 0)) no_stmts)) (stmts (print (load 0)) (stmts (print (load 1)) no_stmts)))))
    ≡ stmts (store 0 1 (word (pos 2))) (stmts (store 1 1 (word (pos 3))) (stmts (fork (call 3 no_exprs) (stmts (store 0 1 (word (pos 2))) no_stmts) (stmts (print (word (pos 2))) no_stmts)) (stmts (print (load 0)) (stmts (print (word (pos 3))) no_stmts))))
unfolding no_slot between also nothing_known forget with_fact
branches = refl

-- before a loop the facts go that it stores into; the others hold in its condition, in its body and behind it
loops : of_body (stmts (store 0 1 (word (pos 2))) (stmts (store 1 1 (word (pos 3))) (stmts (loop (load 0) (stmts (store 0 1 (load 1)) no_stmts)) (stmts (print (load 0)) (stmts (print (load 1)) no_stmts)))))
    ≡ stmts (store 0 1 (word (pos 2))) (stmts (store 1 1 (word (pos 3))) (stmts (loop (load 0) (stmts (store 0 1 (word (pos 3))) no_stmts)) (stmts (print (load 0)) (stmts (print (word (pos 3))) no_stmts))))
unfolding no_slot between also nothing_known forget with_fact
loops = refl

-- Inputs lowered by hand, computed from the definitions: each construct once, and each fault.
use Rattle.std.proofs.Common.{◌≡◌, ℕ, zero, suc, List, [], ◌∷◌, Bool, true, false, Option, Some, None, Ok, Err, refl}
use Rattle.std.specs.Prelude.{codes, pos, negsuc}
use Rattle.unit_input.specs.declared.expr.UnaryOp.TheVariants as unary_op
use Rattle.unit_input.specs.declared.expr.BinaryOp.TheVariants as binary_op
use Rattle.unit_input.specs.Exprs as input
use Rattle.unit_input.specs.Stmts as input_stmt
use Rattle.unit_input.specs.Inputs as inputs
use Rattle.unit_input.specs.Widths.{Scope}
use Rattle.unit_ir.specs.declared.operator.Unary.TheVariants as ir_unary
use Rattle.unit_ir.specs.declared.operator.Binary.TheVariants as ir_binary
use Rattle.unit_ir.specs.Exprs.{PlainExpr, word, load, op1, op2, both, either, call, seq, bind, PlainExprs, no_exprs, exprs}
use Rattle.unit_ir.specs.Stmts.{PlainStmts, store, fork, loop, give, print, eval, no_stmts, stmts}
use Rattle.unit_lower.specs.Lowering.{Lowered, lower, lower_stmts}
use Rattle.unit_lower.specs.declared.assertions.Failure.{Failure}
use Rattle.unit_lower.specs.Assertions.{value}
use Rattle.unit_lower.specs.LoweredUnit.{failure_of, lowered}

-- ---- the unit of `b::go`, which prints what its copy of `main::inc` gives for 2

abbrev b_input : inputs.PlainInput
b_input = record {
  level = 1;
  functions =
      record { symbol = codes "b::go"; external = true; «result» = 0; params = 0; locals = []; body = input_stmt.stmts (input_stmt.print (input.call 1 (input.exprs (input.int (pos 2)) input.no_exprs))) input_stmt.no_stmts }
      ∷ record { symbol = codes "main::inc"; external = false; «result» = 1; params = 1; locals = 1 ∷ []; body = input_stmt.stmts (input_stmt.give (input.binary binary_op.Add (input.local 0) (input.int (pos 1)))) input_stmt.no_stmts }
      ∷ [];
  externals = [];
}

b_lowered : lowered b_input ≡ Ok (record {
  functions =
      record { symbol = codes "b::go"; external = true; params = 0; «result» = 0; slots = 0; body = stmts (print (call 1 (exprs (word (pos 2)) no_exprs))) no_stmts }
      ∷ record { symbol = codes "main::inc"; external = false; params = 1; «result» = 1; slots = 1; body = stmts (give (op2 ir_binary.Add (load 0) (word (pos 1)))) no_stmts }
      ∷ [];
  externals = [];
})
b_lowered = refl

-- ---- expressions, where local 0 has one word, local 1 two and local 2 none, and call 0 takes two words and gives three

abbrev scope : Scope
scope = record { locals = 1 ∷ 2 ∷ 0 ∷ []; «result» = 1; callees = record { params = 2; «result» = 3 } ∷ [] }

abbrev two_words : PlainExpr
two_words = seq (exprs (load 1) (exprs (load 2) no_exprs))

one_word : lower scope (input.local 0) 3 ≡ record { made = load 0; next = 3 }
one_word = refl

some_words : lower scope (input.local 1) 3 ≡ record { made = two_words; next = 3 }
some_words = refl

no_word : lower scope (input.local 2) 3 ≡ record { made = seq no_exprs; next = 3 }
no_word = refl

part_of_a_local : lower scope (input.field (input.local 1) 1 1) 3 ≡ record { made = load 2; next = 3 }
part_of_a_local = refl

part_of_a_part : lower scope (input.field (input.field (input.local 1) 0 2) 1 1) 3 ≡ record { made = load 2; next = 3 }
part_of_a_part = refl

-- a local stands in a tuple as one part
tuple_of_locals : lower scope (input.tuple (input.exprs (input.local 0) (input.exprs (input.local 1) (input.exprs (input.local 2) input.no_exprs)))) 3
    ≡ record { made = seq (exprs (load 0) (exprs two_words (exprs (seq no_exprs) no_exprs))); next = 3 }
tuple_of_locals = refl

tuple_of_one : lower scope (input.tuple (input.exprs (input.truth true) input.no_exprs)) 3 ≡ record { made = word (pos 1); next = 3 }
tuple_of_one = refl

tuple_of_none : lower scope (input.tuple input.no_exprs) 3 ≡ record { made = seq no_exprs; next = 3 }
tuple_of_none = refl

-- a call's argument is one part too
abbrev called : input.PlainExpr
called = input.call 0 (input.exprs (input.local 1) input.no_exprs)

a_call : lower scope called 3 ≡ record { made = call 0 (exprs two_words no_exprs); next = 3 }
a_call = refl

-- the whole value is put into fresh slots
part_of_a_call : lower scope (input.field called 1 1) 3 ≡ record { made = bind 3 3 (call 0 (exprs two_words no_exprs)) (load 4); next = 6 }
part_of_a_call = refl

-- inner expressions end first
part_of_a_part_of_a_call : lower scope (input.field (input.field called 1 2) 1 1) 3
    ≡ record { made = bind 6 2 (bind 3 3 (call 0 (exprs two_words no_exprs)) (seq (exprs (load 4) (exprs (load 5) no_exprs)))) (load 7); next = 8 }
part_of_a_part_of_a_call = refl

operators : lower scope (input.unary unary_op.Not (input.binary binary_op.And (input.truth false) (input.binary binary_op.Or (input.truth true) (input.unary unary_op.Neg (input.local 0))))) 3
    ≡ record { made = op1 ir_unary.Not (both (word (pos 0)) (either (word (pos 1)) (op1 ir_unary.Neg (load 0)))); next = 3 }
operators = refl

-- ---- statements

abbrev body : input_stmt.PlainStmts
body = input_stmt.stmts (input_stmt.declare 0 (input.int (pos 5)))
    (input_stmt.stmts (input_stmt.assign 1 1 1 (input.local 0))
    (input_stmt.stmts (input_stmt.fork (input.truth true) (input_stmt.stmts (input_stmt.assert (input.truth true)) input_stmt.no_stmts) (input_stmt.stmts (input_stmt.print (input.local 0)) input_stmt.no_stmts))
    (input_stmt.stmts (input_stmt.loop (input.truth false) (input_stmt.stmts (input_stmt.eval (input.field called 0 2)) input_stmt.no_stmts))
    (input_stmt.stmts (input_stmt.give (input.field called 2 1)) input_stmt.no_stmts))))

body_lowered : lower_stmts scope body 3 ≡ record {
  made = stmts (store 0 1 (word (pos 5)))
      (stmts (store 2 1 (load 0))
      (stmts (fork (word (pos 1)) no_stmts (stmts (print (load 0)) no_stmts))
      (stmts (loop (word (pos 0)) (stmts (eval (bind 3 3 (call 0 (exprs two_words no_exprs)) (seq (exprs (load 3) (exprs (load 4) no_exprs)))) 2) no_stmts))
      (stmts (give (bind 6 3 (call 0 (exprs two_words no_exprs)) (load 8))) no_stmts))));
  next = 9;
}
body_lowered = refl

-- ---- assertions, and the order of faults

abbrev divided : input.PlainExpr
divided = input.binary binary_op.Equal (input.binary binary_op.Div (input.int (pos 1)) (input.int (pos 0))) (input.int (pos 1))

trapped : value divided ≡ None
trapped = refl

-- the right side is left out
left_out : value (input.binary binary_op.And (input.truth false) divided) ≡ Some (pos 0)
left_out = refl

least_by_minus_one : value (input.binary binary_op.Rem (input.int (negsuc 9223372036854775807)) (input.int (negsuc 0))) ≡ None
least_by_minus_one = refl

asserting : input.PlainExpr → input.PlainExpr → List ℕ → inputs.PlainFn
asserting a b locals = record {
  symbol = codes "main::main";
  external = true;
  «result» = 0;
  params = 0;
  locals = locals;
  body = input_stmt.stmts (input_stmt.assert (input.truth true)) (input_stmt.stmts (input_stmt.assert a) (input_stmt.stmts (input_stmt.assert b) input_stmt.no_stmts));
}

abbrev locals_of : ℕ → List ℕ
locals_of zero = []
locals_of (suc n) = 1 ∷ locals_of n

abbrev alone : List ℕ → Scope
alone locals = record { locals = locals; «result» = 0; callees = [] }

trap_before_false : failure_of (alone []) (asserting divided (input.truth false) []) ≡ Some (record { code = 31; number = 1 })
unfolding asserting
trap_before_false = refl

false_before_trap : failure_of (alone []) (asserting (input.truth false) divided []) ≡ Some (record { code = 30; number = 1 })
unfolding asserting
false_before_trap = refl

false_before_wide : failure_of (alone (256 ∷ [])) (asserting (input.truth true) (input.truth false) (256 ∷ [])) ≡ Some (record { code = 30; number = 2 })
unfolding asserting
false_before_wide = refl

most_slots : failure_of (alone (locals_of 255)) (asserting (input.truth true) (input.truth true) (locals_of 255)) ≡ None
unfolding asserting
most_slots = refl

too_many_slots : failure_of (alone (locals_of 256)) (asserting (input.truth true) (input.truth true) (locals_of 256)) ≡ Some (record { code = 32; number = 0 })
unfolding asserting
too_many_slots = refl

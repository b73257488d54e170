-- Slots raised as bytes are, and the small functions for which that is exact.
use Rattle.std.specs.Prelude.{ℕ, ◌≡◌, ◌+◌, ◌%◌, ◌^◌, List, Option, Some}
use Rattle.unit_ir.specs.Exprs.{PlainExpr, word, load, op1, op2, both, either, call, seq, bind, PlainExprs, no_exprs, exprs}
use Rattle.unit_ir.specs.InRange.{ExprInRange}
use Rattle.opt_inline.specs.Inline.{PlainSmall, callee}

-- every slot raised, and counted from 0 again behind 255
abbrev mutual
  pub turned_up : ℕ → PlainExpr → PlainExpr
  turned_up n (word v) = word v
  turned_up n (load s) = load ((s + n) % 2 ^ 8)
  turned_up n (op1 o a) = op1 o (turned_up n a)
  turned_up n (op2 o a b) = op2 o (turned_up n a) (turned_up n b)
  turned_up n (both a b) = both (turned_up n a) (turned_up n b)
  turned_up n (either a b) = either (turned_up n a) (turned_up n b)
  turned_up n (call k es) = call k (all_turned_up n es)
  turned_up n (seq es) = seq (all_turned_up n es)
  turned_up n (bind s w a b) = bind ((s + n) % 2 ^ 8) w (turned_up n a) (turned_up n b)

  pub all_turned_up : ℕ → PlainExprs → PlainExprs
  all_turned_up n no_exprs = no_exprs
  all_turned_up n (exprs e es) = exprs (turned_up n e) (all_turned_up n es)

-- each small function names slots below its own alone, and calls nothing
abbrev pub SmallsInRange : List (Option PlainSmall) → Type 0
SmallsInRange ss = (k : ℕ) (s : PlainSmall) → callee ss k ≡ Some s → ExprInRange s.slots 0 s.gives

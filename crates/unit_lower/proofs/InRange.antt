-- What is lowered names slots below a bound that the fresh slots keep, and calls that are there.
use Rattle.std.proofs.Common.{◌≡◌, ℕ, zero, suc, ◌+◌, ◌<◌, ◌≤◌, ◌^◌, length, Bool, true, false, ◌&&◌, ◌||◌, ◌==◌, nat_lt, Option, Some, None, refl, arith}
use Rattle.std.specs.Prelude.{slice_index}
use Rattle.std.proofs.lemmas.Bool.{ltb-true, and_parts, or_parts}
use Rattle.unit_input.specs.declared.expr.BinaryOp.{BinaryOp}
use Rattle.unit_input.specs.declared.expr.BinaryOp.TheVariants as binary_op
use Rattle.unit_input.specs.Exprs as input
use Rattle.unit_input.specs.Stmts as input_stmt
use Rattle.unit_input.specs.Widths.{Scope, callee, cut, width, total_width}
use Rattle.unit_input.specs.Assertions.{is_truth}
use Rattle.unit_input.specs.Rules.{is_part, is_expr, are_exprs, gives, is_stmt, are_stmts}
use Rattle.unit_ir.specs.Exprs.{PlainExpr, PlainExprs, no_exprs, exprs}
use Rattle.unit_ir.specs.Stmts.{PlainStmt, PlainStmts}
use Rattle.unit_ir.specs.InRange.{ExprInRange, ExprsInRange, StmtInRange, StmtsInRange}
use Rattle.unit_lower.specs.Slots.{first_slot, local_slots, place}
use Rattle.unit_lower.specs.Lowering.{Lowered, loads, sequence, words, binary_of, part_of, lower, lower_all, added, lower_stmt, lower_stmts}
use Rattle.unit_lower.specs.Wide.{is_over, is_wide, are_wide, is_wide_stmt, are_wide_stmts}
use Rattle.unit_lower.proofs.Nexts.{next_up, nexts_up, stmt_next_up, stmts_next_up}
use Rattle.unit_lower.proofs.Places.{local_within, part_within, place_within, narrow_width}

loads_in_range : (slots callees slot n : ℕ) → slot + n ≤ slots → ExprsInRange slots callees (loads slot n)
loads_in_range slots callees slot zero le = tt
loads_in_range slots callees slot (suc n) le = (omega (arith, le), loads_in_range slots callees (slot + 1) n (omega (arith, le)))

sequence_in_range : (slots callees : ℕ) (es : PlainExprs) → ExprsInRange slots callees es → ExprInRange slots callees (sequence es)
sequence_in_range slots callees no_exprs h = tt
sequence_in_range slots callees (exprs e no_exprs) h = h.0
sequence_in_range slots callees (exprs e (exprs f es)) h = h

words_in_range : (slots callees slot n : ℕ) → slot + n ≤ slots → ExprInRange slots callees (words slot n)
words_in_range slots callees slot n le = sequence_in_range slots callees (loads slot n) (loads_in_range slots callees slot n le)

binary_in_range : (slots callees : ℕ) (op : BinaryOp) (a b : PlainExpr) → ExprInRange slots callees a → ExprInRange slots callees b → ExprInRange slots callees (binary_of op a b)
binary_in_range slots callees binary_op.Add a b ha hb = (ha, hb)
binary_in_range slots callees binary_op.Sub a b ha hb = (ha, hb)
binary_in_range slots callees binary_op.Mul a b ha hb = (ha, hb)
binary_in_range slots callees binary_op.Div a b ha hb = (ha, hb)
binary_in_range slots callees binary_op.Rem a b ha hb = (ha, hb)
binary_in_range slots callees binary_op.Equal a b ha hb = (ha, hb)
binary_in_range slots callees binary_op.NotEqual a b ha hb = (ha, hb)
binary_in_range slots callees binary_op.Less a b ha hb = (ha, hb)
binary_in_range slots callees binary_op.AtMost a b ha hb = (ha, hb)
binary_in_range slots callees binary_op.Greater a b ha hb = (ha, hb)
binary_in_range slots callees binary_op.AtLeast a b ha hb = (ha, hb)
binary_in_range slots callees binary_op.And a b ha hb = (ha, hb)
binary_in_range slots callees binary_op.Or a b ha hb = (ha, hb)

-- a part of a value, whether that lies in slots or not
part_in_range : (s : Scope) (slots offset wide k : ℕ) (e : input.PlainExpr) (at : Option ℕ) → place s e ≡ at → is_expr s e ≡ true → is_wide s e ≡ false → is_part offset wide (width s e) ≡ true
    → local_slots s ≤ k → (part_of offset wide (width s e) at k (lower s e k)).next ≤ slots → ((lower s e k).next ≤ slots → ExprInRange slots (length s.callees) (lower s e k).made)
    → ExprInRange slots (length s.callees) (part_of offset wide (width s e) at k (lower s e k)).made
part_in_range s slots offset wide k e None is ok low part above le inner =
    let within = part_within offset wide (width s e) part (narrow_width s e low) in
    (le, inner (omega (arith, le)), words_in_range slots (length s.callees) ((lower s e k).next + offset) wide (omega (arith, le, within)))
part_in_range s slots offset wide k e (Some slot) is ok low part above le inner =
    let within = part_within offset wide (width s e) part (narrow_width s e low) in
    let lies = place_within s e slot ok low is in
    words_in_range slots (length s.callees) (slot + offset) wide (omega (arith, le, above, within, lies))

mutual
  pub expr_in_range : (s : Scope) (slots : ℕ) (e : input.PlainExpr) (k : ℕ) → is_expr s e ≡ true → is_wide s e ≡ false → local_slots s ≤ k → (lower s e k).next ≤ slots → ExprInRange slots (length s.callees) (lower s e k).made
  expr_in_range s slots (input.int v) k ok low above le = tt
  expr_in_range s slots (input.truth b) k ok low above le = tt
  expr_in_range s slots (input.local n) k ok low above le =
      words_in_range slots (length s.callees) (first_slot s n) (slice_index s.locals n) (omega (arith, above, le, local_within s n (ltb-true n (length s.locals) ok)))
  expr_in_range s slots (input.field e offset wide) k ok low above le =
      let parts = and_parts (is_part offset wide (width s e)) (is_expr s e) ok in
      let narrow = (or_parts (is_over wide) (is_wide s e) low).1 in
      part_in_range s slots offset wide k e (place s e) refl parts.1 narrow parts.0 above le (λ inner. expr_in_range s slots e k parts.1 narrow above inner)
  expr_in_range s slots (input.tuple es) k ok low above le =
      sequence_in_range slots (length s.callees) (lower_all s es k).made
      (exprs_in_range s slots es k (and_parts (nat_lt (input.expr_count es) 256) (are_exprs s es) ok).1 (or_parts (is_over (total_width s es)) (are_wide s es) low).1 above le)
  expr_in_range s slots (input.unary op e) k ok low above le = expr_in_range s slots e k (and_parts (width s e == 1) (is_expr s e) ok).1 low above le
  expr_in_range s slots (input.binary op a b) k ok low above le =
      let right = and_parts ((width s a == 1) && (width s b == 1) && is_expr s a) (is_expr s b) ok in
      let left = and_parts ((width s a == 1) && (width s b == 1)) (is_expr s a) right.0 in
      let narrow = or_parts (is_wide s a) (is_wide s b) low in
      let next = (lower s a k).next in
      let up = next_up s a k in
      let more = next_up s b next in
      binary_in_range slots (length s.callees) op (lower s a k).made (lower s b next).made
      (expr_in_range s slots a k left.1 narrow.0 above (omega (arith, le, more)))
      (expr_in_range s slots b next right.1 narrow.1 (omega (arith, above, up)) le)
  expr_in_range s slots (input.call f es) k ok low above le =
      let args = and_parts (nat_lt f (2 ^ 32) && nat_lt f (length s.callees) && nat_lt (input.expr_count es) 256 && (cut (total_width s es) == (callee s f).params)) (are_exprs s es) ok in
      let counts = (and_parts (nat_lt f (2 ^ 32) && nat_lt f (length s.callees) && nat_lt (input.expr_count es) 256) (cut (total_width s es) == (callee s f).params) args.0).0 in
      let numbers = (and_parts (nat_lt f (2 ^ 32) && nat_lt f (length s.callees)) (nat_lt (input.expr_count es) 256) counts).0 in
      let there = (and_parts (nat_lt f (2 ^ 32)) (nat_lt f (length s.callees)) numbers).1 in
      let narrow = or_parts (is_over (width s (input.call f es)) || is_over (total_width s es)) (are_wide s es) low in
      (ltb-true f (length s.callees) there, exprs_in_range s slots es k args.1 narrow.1 above le)

  pub exprs_in_range : (s : Scope) (slots : ℕ) (es : input.PlainExprs) (k : ℕ) → are_exprs s es ≡ true → are_wide s es ≡ false → local_slots s ≤ k → (lower_all s es k).next ≤ slots → ExprsInRange slots (length s.callees) (lower_all s es k).made
  exprs_in_range s slots input.no_exprs k ok low above le = tt
  exprs_in_range s slots (input.exprs e es) k ok low above le =
      let parts = and_parts (is_expr s e) (are_exprs s es) ok in
      let narrow = or_parts (is_wide s e) (are_wide s es) low in
      let next = (lower s e k).next in
      let up = next_up s e k in
      let more = nexts_up s es next in
      (expr_in_range s slots e k parts.0 narrow.0 above (omega (arith, le, more)), exprs_in_range s slots es next parts.1 narrow.1 (omega (arith, above, up)) le)

-- ---- statements

abbrev pub InRangeIf : ℕ → ℕ → Option PlainStmt → Type 0
InRangeIf slots callees None = Unit {0}
InRangeIf slots callees (Some s) = StmtInRange slots callees s

added_in_range : (slots callees : ℕ) (o : Option PlainStmt) (ss : PlainStmts) → InRangeIf slots callees o → StmtsInRange slots callees ss → StmtsInRange slots callees (added o ss)
added_in_range slots callees None ss first others = others
added_in_range slots callees (Some s) ss first others = (first, others)

given_in_range : (s : Scope) (slots : ℕ) (e : input.PlainExpr) (wide k : ℕ) → gives s e wide ≡ true → is_wide s e ≡ false → local_slots s ≤ k → (lower s e k).next ≤ slots → ExprInRange slots (length s.callees) (lower s e k).made
given_in_range s slots e wide k ok low above le = expr_in_range s slots e k (and_parts (width s e == wide) (is_expr s e) ok).1 low above le

mutual
  pub stmt_in_range : (s : Scope) (slots : ℕ) (x : input_stmt.PlainStmt) (k : ℕ) → is_stmt s x ≡ true → is_wide_stmt s x ≡ false → local_slots s ≤ k → (lower_stmt s x k).next ≤ slots → slots ≤ 255 → InRangeIf slots (length s.callees) (lower_stmt s x k).made
  stmt_in_range s slots (input_stmt.declare n e) k ok low above le few =
      let parts = and_parts (nat_lt n (length s.locals)) (gives s e (slice_index s.locals n)) ok in
      let lies = local_within s n (ltb-true n (length s.locals) parts.0) in
      (omega (arith, lies, above, le, next_up s e k), given_in_range s slots e (slice_index s.locals n) k parts.1 low above le)
  stmt_in_range s slots (input_stmt.assign n offset wide e) k ok low above le few =
      let parts = and_parts (nat_lt n (length s.locals) && is_part offset wide (slice_index s.locals n)) (gives s e wide) ok in
      let at = and_parts (nat_lt n (length s.locals)) (is_part offset wide (slice_index s.locals n)) parts.0 in
      let up = next_up s e k in
      let lies = local_within s n (ltb-true n (length s.locals) at.0) in
      let within = part_within offset wide (slice_index s.locals n) at.1 (omega (arith, lies, above, le, up, few)) in
      (omega (arith, lies, within, above, le, up), given_in_range s slots e wide k parts.1 low above le)
  stmt_in_range s slots (input_stmt.fork e a b) k ok low above le few =
      let parts = and_parts (gives s e 1 && are_stmts s a) (are_stmts s b) ok in
      let front = and_parts (gives s e 1) (are_stmts s a) parts.0 in
      let narrow = or_parts (is_wide s e || are_wide_stmts s a) (are_wide_stmts s b) low in
      let narrow_front = or_parts (is_wide s e) (are_wide_stmts s a) narrow.0 in
      let j = (lower s e k).next in
      let l = (lower_stmts s a j).next in
      let up = next_up s e k in
      let more = stmts_next_up s a j in
      let most = stmts_next_up s b l in (
        given_in_range s slots e 1 k front.0 narrow_front.0 above (omega (arith, le, more, most)),
        stmts_in_range s slots a j front.1 narrow_front.1 (omega (arith, above, up)) (omega (arith, le, most)) few,
        stmts_in_range s slots b l parts.1 narrow.1 (omega (arith, above, up, more)) le few,
      )
  stmt_in_range s slots (input_stmt.loop e a) k ok low above le few =
      let parts = and_parts (gives s e 1) (are_stmts s a) ok in
      let narrow = or_parts (is_wide s e) (are_wide_stmts s a) low in
      let j = (lower s e k).next in
      let up = next_up s e k in
      let more = stmts_next_up s a j in
      (given_in_range s slots e 1 k parts.0 narrow.0 above (omega (arith, le, more)), stmts_in_range s slots a j parts.1 narrow.1 (omega (arith, above, up)) le few)
  stmt_in_range s slots (input_stmt.give e) k ok low above le few = given_in_range s slots e s.«result» k ok low above le
  stmt_in_range s slots (input_stmt.print e) k ok low above le few = given_in_range s slots e 1 k ok low above le
  stmt_in_range s slots (input_stmt.assert e) k ok low above le few = tt
  stmt_in_range s slots (input_stmt.eval e) k ok low above le few = expr_in_range s slots e k ok low above le

  pub stmts_in_range : (s : Scope) (slots : ℕ) (xs : input_stmt.PlainStmts) (k : ℕ) → are_stmts s xs ≡ true → are_wide_stmts s xs ≡ false → local_slots s ≤ k → (lower_stmts s xs k).next ≤ slots → slots ≤ 255 → StmtsInRange slots (length s.callees) (lower_stmts s xs k).made
  stmts_in_range s slots input_stmt.no_stmts k ok low above le few = tt
  stmts_in_range s slots (input_stmt.stmts x xs) k ok low above le few =
      let parts = and_parts (is_stmt s x) (are_stmts s xs) ok in
      let narrow = or_parts (is_wide_stmt s x) (are_wide_stmts s xs) low in
      let j = (lower_stmt s x k).next in
      let up = stmt_next_up s x k in
      let more = stmts_next_up s xs j in
      added_in_range slots (length s.callees) (lower_stmt s x k).made (lower_stmts s xs j).made
      (stmt_in_range s slots x k parts.0 narrow.0 above (omega (arith, le, more)) few)
      (stmts_in_range s slots xs j parts.1 narrow.1 (omega (arith, above, up)) le few)

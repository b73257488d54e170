-- What statements become takes as many words at each place as are given there.
use Rattle.std.proofs.Common.{◌≡◌, ℕ, ◌+◌, ◌<◌, ◌≤◌, length, Bool, true, false, ◌&&◌, ◌||◌, ◌==◌, nat_lt, Option, Some, None, arith}
use Rattle.std.specs.Prelude.{slice_index}
use Rattle.std.proofs.lemmas.Bool.{ltb-true, eqb-true, and_parts, or_parts}
use Rattle.unit_input.specs.Exprs as input
use Rattle.unit_input.specs.Stmts as input_stmt
use Rattle.unit_input.specs.Widths.{Scope, width}
use Rattle.unit_input.specs.Assertions.{is_truth}
use Rattle.unit_input.specs.Rules.{is_part, is_expr, gives, is_stmt, are_stmts}
use Rattle.unit_ir.specs.Stmts.{PlainStmt, PlainStmts}
use Rattle.unit_ir.specs.Widths.{Signature, Gives, Suits, Suit}
use Rattle.unit_lower.specs.Callees.{signature}
use Rattle.unit_lower.specs.Slots.{first_slot, local_slots}
use Rattle.unit_lower.specs.Lowering.{lower, lower_stmt, lower_stmts, added}
use Rattle.unit_lower.specs.Wide.{is_wide, is_wide_stmt, are_wide_stmts}
use Rattle.unit_lower.proofs.Nexts.{next_up, stmt_next_up, stmts_next_up}
use Rattle.unit_lower.proofs.Places.{local_within, part_within}
use Rattle.unit_lower.proofs.Gives.{gives_as, lower_gives}

abbrev pub SuitsIf : (ℕ → Signature) → ℕ → ℕ → Option PlainStmt → Type 0
SuitsIf of slots given None = Unit {0}
SuitsIf of slots given (Some s) = Suits of slots given s

suits_added : (of : ℕ → Signature) (slots given : ℕ) (o : Option PlainStmt) (ss : PlainStmts) → SuitsIf of slots given o → Suit of slots given ss → Suit of slots given (added o ss)
suits_added of slots given None ss first others = others
suits_added of slots given (Some s) ss first others = (first, others)

-- an expression that is to give so many words
pub lower_given : (s : Scope) (slots : ℕ) (e : input.PlainExpr) (wide k : ℕ) → gives s e wide ≡ true → is_wide s e ≡ false → local_slots s ≤ k → (lower s e k).next ≤ slots → Gives (signature s) slots (lower s e k).made wide
lower_given s slots e wide k ok low above le =
    let parts = and_parts (width s e == wide) (is_expr s e) ok in
    gives_as (signature s) slots (lower s e k).made (width s e) wide (eqb-true (width s e) wide parts.0) (lower_gives s slots e k parts.1 low above le)

mutual
  pub lower_suits : (s : Scope) (slots : ℕ) (x : input_stmt.PlainStmt) (k : ℕ) → is_stmt s x ≡ true → is_wide_stmt s x ≡ false → local_slots s ≤ k → (lower_stmt s x k).next ≤ slots → slots ≤ 255 → SuitsIf (signature s) slots s.«result» (lower_stmt s x k).made
  lower_suits s slots (input_stmt.declare n e) k ok low above le few =
      let parts = and_parts (nat_lt n (length s.locals)) (gives s e (slice_index s.locals n)) ok in
      let lies = local_within s n (ltb-true n (length s.locals) parts.0) in
      (omega (arith, lies, above, le, next_up s e k), lower_given s slots e (slice_index s.locals n) k parts.1 low above le)
  lower_suits s slots (input_stmt.assign n offset wide e) k ok low above le few =
      let parts = and_parts (nat_lt n (length s.locals) && is_part offset wide (slice_index s.locals n)) (gives s e wide) ok in
      let at = and_parts (nat_lt n (length s.locals)) (is_part offset wide (slice_index s.locals n)) parts.0 in
      let up = next_up s e k in
      let lies = local_within s n (ltb-true n (length s.locals) at.0) in
      let within = part_within offset wide (slice_index s.locals n) at.1 (omega (arith, lies, above, le, up, few)) in
      (omega (arith, lies, within, above, le, up), lower_given s slots e wide k parts.1 low above le)
  lower_suits s slots (input_stmt.fork e a b) k ok low above le few =
      let parts = and_parts (gives s e 1 && are_stmts s a) (are_stmts s b) ok in
      let front = and_parts (gives s e 1) (are_stmts s a) parts.0 in
      let narrow = or_parts (is_wide s e || are_wide_stmts s a) (are_wide_stmts s b) low in
      let narrow_front = or_parts (is_wide s e) (are_wide_stmts s a) narrow.0 in
      let j = (lower s e k).next in
      let l = (lower_stmts s a j).next in
      let up = next_up s e k in
      let more = stmts_next_up s a j in
      let most = stmts_next_up s b l in (
        lower_given s slots e 1 k front.0 narrow_front.0 above (omega (arith, le, more, most)),
        lower_suit s slots a j front.1 narrow_front.1 (omega (arith, above, up)) (omega (arith, le, most)) few,
        lower_suit s slots b l parts.1 narrow.1 (omega (arith, above, up, more)) le few,
      )
  lower_suits s slots (input_stmt.loop e a) k ok low above le few =
      let parts = and_parts (gives s e 1) (are_stmts s a) ok in
      let narrow = or_parts (is_wide s e) (are_wide_stmts s a) low in
      let j = (lower s e k).next in
      let up = next_up s e k in
      let more = stmts_next_up s a j in
      (lower_given s slots e 1 k parts.0 narrow.0 above (omega (arith, le, more)), lower_suit s slots a j parts.1 narrow.1 (omega (arith, above, up)) le few)
  lower_suits s slots (input_stmt.give e) k ok low above le few = lower_given s slots e s.«result» k ok low above le
  lower_suits s slots (input_stmt.print e) k ok low above le few = lower_given s slots e 1 k ok low above le
  lower_suits s slots (input_stmt.assert e) k ok low above le few = tt
  lower_suits s slots (input_stmt.eval e) k ok low above le few = lower_gives s slots e k ok low above le

  pub lower_suit : (s : Scope) (slots : ℕ) (xs : input_stmt.PlainStmts) (k : ℕ) → are_stmts s xs ≡ true → are_wide_stmts s xs ≡ false → local_slots s ≤ k → (lower_stmts s xs k).next ≤ slots → slots ≤ 255 → Suit (signature s) slots s.«result» (lower_stmts s xs k).made
  lower_suit s slots input_stmt.no_stmts k ok low above le few = tt
  lower_suit s slots (input_stmt.stmts x xs) k ok low above le few =
      let parts = and_parts (is_stmt s x) (are_stmts s xs) ok in
      let narrow = or_parts (is_wide_stmt s x) (are_wide_stmts s xs) low in
      let j = (lower_stmt s x k).next in
      let up = stmt_next_up s x k in
      let more = stmts_next_up s xs j in
      suits_added (signature s) slots s.«result» (lower_stmt s x k).made (lower_stmts s xs j).made
      (lower_suits s slots x k parts.0 narrow.0 above (omega (arith, le, more)) few)
      (lower_suit s slots xs j parts.1 narrow.1 (omega (arith, above, up)) le few)

-- What an expression becomes gives as many words as the expression has, from slots below a bound that the fresh slots keep.
use Rattle.std.proofs.Common.{◌≡◌, ℕ, zero, suc, ◌+◌, ◌<◌, ◌≤◌, ◌^◌, length, Bool, true, false, ◌&&◌, ◌||◌, ◌==◌, nat_lt, Option, Some, None, refl, sym, ap, ◌∙◌, subst, arith}
use Rattle.std.specs.Prelude.{ℤ, pos, negsuc, slice_index}
use Rattle.std.proofs.lemmas.Bool.{ltb-true, eqb-true, and_parts, or_parts}
use Rattle.std.proofs.lemmas.Int.{ints}
use Rattle.unit_input.specs.declared.expr.BinaryOp.{BinaryOp}
use Rattle.unit_input.specs.declared.expr.BinaryOp.TheVariants as binary_op
use Rattle.unit_input.specs.Exprs as input
use Rattle.unit_input.specs.Widths.{Scope, callee, cut, width, total_width}
use Rattle.unit_input.specs.Rules.{is_word, is_part, is_expr, are_exprs}
use Rattle.unit_ir.specs.Exprs.{PlainExpr, PlainExprs, no_exprs, exprs}
use Rattle.unit_ir.specs.Operators as operators
use Rattle.unit_ir.specs.Widths.{Signature, IsWord, Gives, Give}
use Rattle.unit_lower.specs.Callees.{signature}
use Rattle.unit_lower.specs.Slots.{first_slot, local_slots, place}
use Rattle.unit_lower.specs.Lowering.{Lowered, loads, sequence, words, binary_of, part_of, lower, lower_all}
use Rattle.unit_lower.specs.Wide.{is_over, is_wide, are_wide}
use Rattle.unit_lower.proofs.Nexts.{next_up, nexts_up}
use Rattle.unit_lower.proofs.Places.{local_within, part_within, place_within, narrow_width, narrow_total}

pub word_is : (v : ℤ) → is_word v ≡ true → IsWord v
word_is (pos n) h = let low : n < 2 ^ 63 = ltb-true n (2 ^ 63) h in (omega (arith, ints), omega (arith, ints, low))
word_is (negsuc n) h = let low : n < 2 ^ 63 = ltb-true n (2 ^ 63) h in (omega (arith, ints, low), omega (arith, ints))

pub truth_is : (b : Bool) → IsWord (operators.truth b)
truth_is true = (omega (arith, ints), omega (arith, ints))
truth_is false = (omega (arith, ints), omega (arith, ints))

-- ---- loads and sequences

give_loads : (of : ℕ → Signature) (slots slot n : ℕ) → slot + n ≤ slots → Give of slots (loads slot n) n
give_loads of slots slot zero le = refl
give_loads of slots slot (suc n) le = (1, n, omega arith, (omega (arith, le), refl), give_loads of slots (slot + 1) n (omega (arith, le)))

gives_sequence : (of : ℕ → Signature) (slots : ℕ) (es : PlainExprs) (w : ℕ) → Give of slots es w → Gives of slots (sequence es) w
gives_sequence of slots no_exprs w g = g
gives_sequence of slots (exprs e no_exprs) w g =
    let same : g.0 ≡ w = omega (arith, g.2, g.4) in
    subst (λ n. Gives of slots e n) same g.3
gives_sequence of slots (exprs e (exprs f es)) w g = g

pub gives_words : (of : ℕ → Signature) (slots slot n : ℕ) → slot + n ≤ slots → Gives of slots (words slot n) n
gives_words of slots slot n le = gives_sequence of slots (loads slot n) n (give_loads of slots slot n le)

gives_binary : (of : ℕ → Signature) (slots : ℕ) (op : BinaryOp) (a b : PlainExpr) → Gives of slots a 1 → Gives of slots b 1 → Gives of slots (binary_of op a b) 1
gives_binary of slots binary_op.Add a b ga gb = (ga, gb, refl)
gives_binary of slots binary_op.Sub a b ga gb = (ga, gb, refl)
gives_binary of slots binary_op.Mul a b ga gb = (ga, gb, refl)
gives_binary of slots binary_op.Div a b ga gb = (ga, gb, refl)
gives_binary of slots binary_op.Rem a b ga gb = (ga, gb, refl)
gives_binary of slots binary_op.Equal a b ga gb = (ga, gb, refl)
gives_binary of slots binary_op.NotEqual a b ga gb = (ga, gb, refl)
gives_binary of slots binary_op.Less a b ga gb = (ga, gb, refl)
gives_binary of slots binary_op.AtMost a b ga gb = (ga, gb, refl)
gives_binary of slots binary_op.Greater a b ga gb = (ga, gb, refl)
gives_binary of slots binary_op.AtLeast a b ga gb = (ga, gb, refl)
gives_binary of slots binary_op.And a b ga gb = (ga, gb, refl)
gives_binary of slots binary_op.Or a b ga gb = (ga, gb, refl)

-- ---- expressions

pub gives_as : (of : ℕ → Signature) (slots : ℕ) (e : PlainExpr) (v w : ℕ) → v ≡ w → Gives of slots e v → Gives of slots e w
gives_as of slots e v w same g = subst (λ n. Gives of slots e n) same g

give_as : (of : ℕ → Signature) (slots : ℕ) (es : PlainExprs) (v w : ℕ) → v ≡ w → Give of slots es v → Give of slots es w
give_as of slots es v w same g = subst (λ n. Give of slots es n) same g

-- a part of a value, whether that lies in slots or not
part_gives : (s : Scope) (slots offset wide k : ℕ) (e : input.PlainExpr) (at : Option ℕ) → place s e ≡ at → is_expr s e ≡ true → is_wide s e ≡ false → is_part offset wide (width s e) ≡ true
    → local_slots s ≤ k → (part_of offset wide (width s e) at k (lower s e k)).next ≤ slots → ((lower s e k).next ≤ slots → Gives (signature s) slots (lower s e k).made (width s e))
    → Gives (signature s) slots (part_of offset wide (width s e) at k (lower s e k)).made wide
part_gives s slots offset wide k e None is ok low part above le inner =
    let within = part_within offset wide (width s e) part (narrow_width s e low) in
    (le, inner (omega (arith, le)), gives_words (signature s) slots ((lower s e k).next + offset) wide (omega (arith, le, within)))
part_gives s slots offset wide k e (Some slot) is ok low part above le inner =
    let within = part_within offset wide (width s e) part (narrow_width s e low) in
    let lies = place_within s e slot ok low is in
    gives_words (signature s) slots (slot + offset) wide (omega (arith, le, above, within, lies))

mutual
  pub lower_gives : (s : Scope) (slots : ℕ) (e : input.PlainExpr) (k : ℕ) → is_expr s e ≡ true → is_wide s e ≡ false → local_slots s ≤ k → (lower s e k).next ≤ slots → Gives (signature s) slots (lower s e k).made (width s e)
  lower_gives s slots (input.int v) k ok low above le = (word_is v ok, refl)
  lower_gives s slots (input.truth b) k ok low above le = (truth_is b, refl)
  lower_gives s slots (input.local n) k ok low above le =
      gives_words (signature s) slots (first_slot s n) (slice_index s.locals n) (omega (arith, above, le, local_within s n (ltb-true n (length s.locals) ok)))
  lower_gives s slots (input.field e offset wide) k ok low above le =
      let parts = and_parts (is_part offset wide (width s e)) (is_expr s e) ok in
      let narrow = (or_parts (is_over wide) (is_wide s e) low).1 in
      part_gives s slots offset wide k e (place s e) refl parts.1 narrow parts.0 above le (λ inner. lower_gives s slots e k parts.1 narrow above inner)
  lower_gives s slots (input.tuple es) k ok low above le =
      let parts = and_parts (nat_lt (input.expr_count es) 256) (are_exprs s es) ok in
      let narrow = or_parts (is_over (total_width s es)) (are_wide s es) low in
      gives_as (signature s) slots (sequence (lower_all s es k).made) (total_width s es) (cut (total_width s es)) (sym (narrow_total s es narrow.0))
      (gives_sequence (signature s) slots (lower_all s es k).made (total_width s es) (lower_give s slots es k parts.1 narrow.1 above le))
  lower_gives s slots (input.unary op e) k ok low above le =
      let parts = and_parts (width s e == 1) (is_expr s e) ok in
      (gives_as (signature s) slots (lower s e k).made (width s e) 1 (eqb-true (width s e) 1 parts.0) (lower_gives s slots e k parts.1 low above le), refl)
  lower_gives s slots (input.binary op a b) k ok low above le =
      let right = and_parts ((width s a == 1) && (width s b == 1) && is_expr s a) (is_expr s b) ok in
      let left = and_parts ((width s a == 1) && (width s b == 1)) (is_expr s a) right.0 in
      let ones = and_parts (width s a == 1) (width s b == 1) left.0 in
      let narrow = or_parts (is_wide s a) (is_wide s b) low in
      let next = (lower s a k).next in
      let up = next_up s a k in
      let more = next_up s b next in
      gives_binary (signature s) slots op (lower s a k).made (lower s b next).made
      (gives_as (signature s) slots (lower s a k).made (width s a) 1 (eqb-true (width s a) 1 ones.0) (lower_gives s slots a k left.1 narrow.0 above (omega (arith, le, more))))
      (gives_as (signature s) slots (lower s b next).made (width s b) 1 (eqb-true (width s b) 1 ones.1) (lower_gives s slots b next right.1 narrow.1 (omega (arith, above, up)) le))
  lower_gives s slots (input.call f es) k ok low above le =
      let args = and_parts (nat_lt f (2 ^ 32) && nat_lt f (length s.callees) && nat_lt (input.expr_count es) 256 && (cut (total_width s es) == (callee s f).params)) (are_exprs s es) ok in
      let params = (and_parts (nat_lt f (2 ^ 32) && nat_lt f (length s.callees) && nat_lt (input.expr_count es) 256) (cut (total_width s es) == (callee s f).params) args.0).1 in
      let narrow = or_parts (is_over (width s (input.call f es)) || is_over (total_width s es)) (are_wide s es) low in
      let total = (or_parts (is_over (width s (input.call f es))) (is_over (total_width s es)) narrow.0).1 in
      (give_as (signature s) slots (lower_all s es k).made (total_width s es) (callee s f).params (sym (narrow_total s es total) ∙ eqb-true (cut (total_width s es)) (callee s f).params params) (lower_give s slots es k args.1 narrow.1 above le), refl)

  pub lower_give : (s : Scope) (slots : ℕ) (es : input.PlainExprs) (k : ℕ) → are_exprs s es ≡ true → are_wide s es ≡ false → local_slots s ≤ k → (lower_all s es k).next ≤ slots → Give (signature s) slots (lower_all s es k).made (total_width s es)
  lower_give s slots input.no_exprs k ok low above le = refl
  lower_give s slots (input.exprs e es) k ok low above le =
      let parts = and_parts (is_expr s e) (are_exprs s es) ok in
      let narrow = or_parts (is_wide s e) (are_wide s es) low in
      let next = (lower s e k).next in
      let up = next_up s e k in
      let more = nexts_up s es next in
      (width s e, total_width s es, refl, lower_gives s slots e k parts.0 narrow.0 above (omega (arith, le, more)), lower_give s slots es next parts.1 narrow.1 (omega (arith, above, up)) le)

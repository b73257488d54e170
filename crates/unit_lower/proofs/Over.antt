-- Where a part is too wide, the whole is.
use Rattle.std.proofs.Common.{◌≡◌, ℕ, ◌+◌, ◌<◌, ◌≤◌, Bool, true, false, ◌||◌, ◌&&◌, ◌==◌, ◌⊎◌, Option, Some, None, refl, sym, ap, ◌∙◌, arith, inl, inr}
use Rattle.std.proofs.lemmas.Bool.{or_cases, or_left, or_right, ltb-true, lt-ltb, and_parts, cases_Bool}
use Rattle.unit_ir.specs.Exprs as ir
use Rattle.unit_input.specs.declared.expr.UnaryOp.{UnaryOp}
use Rattle.unit_input.specs.declared.expr.BinaryOp.{BinaryOp}
use Rattle.unit_input.specs.declared.expr.UnitExpr.{UnitExpr}
use Rattle.unit_input.specs.declared.expr.UnitExpr.TheVariants.{Field, Binary}
use Rattle.unit_input.specs.InputView.{expr_view}
use Rattle.unit_input.proofs.Views.{expr_view-Field, expr_view-Binary}
use Rattle.unit_input.specs.Exprs.{PlainExpr, int, truth, local, field, tuple, unary, binary, call, PlainExprs}
use Rattle.unit_input.specs.Widths.{Scope, width, total_width, callee}
use Rattle.unit_input.specs.Rules.{is_part, is_expr}
use Rattle.unit_lower.specs.declared.value.Value.{Value}
use Rattle.unit_lower.specs.declared.value.Value.TheVariants.{Lying, Made}
use Rattle.unit_lower.specs.declared.scope.Slots.{Slots}
use Rattle.unit_lower.specs.Slots.{first_slot, local_slots, moved, place}
use Rattle.std.specs.Prelude.{slice_index}
use Rattle.unit_lower.specs.Wide.{is_over, is_wide, are_wide}
use Rattle.unit_lower.specs.Lowering.{Lowered, words, part_of, lower, lower_all}
use Rattle.unit_lower.specs.ValueView.{made_of, width_of, place_of, next_after, IsPart, IsValueOf, is_over_expr, are_over_exprs}
use Rattle.unit_lower.proofs.Nexts.{next_up}
use Rattle.unit_lower.proofs.Places.{part_within, narrow_width, is_moved}

-- more is over where less is
pub over_up : (m n : ℕ) → m ≤ n → is_over m ≡ true → is_over n ≡ true
over_up m n le h = lt-ltb 255 n (let over : 255 < m = ltb-true 255 m h in omega (arith, le, over))

-- what is wide stays so, and slots are not given back
pub whole_over : (wide more : Bool) (m n : ℕ) → (wide ≡ true → more ≡ true) → m ≤ n → (wide || is_over m) ≡ true → (more || is_over n) ≡ true
whole_over wide more m n up le h = elim (or_cases wide (is_over m) h) [
  | inl w ↦ or_left more (is_over n) (up w)
  | inr o ↦ or_right more (is_over n) (over_up m n le o)
]

pub or_false : (a b : Bool) → a ≡ false → b ≡ false → (a || b) ≡ false
or_false false false h i = refl
or_false true b h i = cc
or_false false true h i = cc

pub not_over : (n : ℕ) → n ≤ 255 → is_over n ≡ false
not_over n h = elim (cases_Bool (is_over n)) [
  | inl yes_over ↦ absurd (let over : 255 < n = ltb-true 255 n yes_over in omega (arith, h, over))
  | inr not ↦ not
]

call_wide : (given total parts : Bool) → (total || parts) ≡ true → (given || total || parts) ≡ true
call_wide true total parts h = refl
call_wide false total parts h = h

given_wide : (given total parts : Bool) → given ≡ true → (given || total || parts) ≡ true
given_wide true total parts h = refl
given_wide false total parts h = cc

-- PARTS

placed_part : (offset wide whole k : ℕ) (at : Option ℕ) (slot : ℕ) (x : Lowered ir.PlainExpr) → at ≡ Some slot → (part_of offset wide whole at k x).next ≡ k
placed_part offset wide whole k (Some from) slot x h = refl
placed_part offset wide whole k None slot x h = cc

-- what lies in slots takes no fresh ones
pub placed_next : (s : Scope) (e : PlainExpr) (slot k : ℕ) → place s e ≡ Some slot → (lower s e k).next ≡ k
placed_next s (int v) slot k h = cc
placed_next s (truth b) slot k h = cc
placed_next s (local n) slot k h = refl
placed_next s (field e offset wide) slot k h = let from = is_moved offset slot (place s e) h in placed_part offset wide (width s e) k (place s e) from.0 (lower s e k) from.1
placed_next s (tuple es) slot k h = cc
placed_next s (unary op e) slot k h = cc
placed_next s (binary op a b) slot k h = cc
placed_next s (call f es) slot k h = cc

after_part : (offset wide whole k : ℕ) (at : Option ℕ) (x : Lowered ir.PlainExpr) → ((slot : ℕ) → at ≡ Some slot → x.next ≡ k) → x.next ≤ (part_of offset wide whole at k x).next
after_part offset wide whole k None x same = omega arith
after_part offset wide whole k (Some slot) x same = let is : x.next ≡ k = same slot refl in omega (arith, is)

field_up : (s : Scope) (e : PlainExpr) (offset wide k : ℕ) → (lower s e k).next ≤ (lower s (field e offset wide) k).next
field_up s e offset wide k = after_part offset wide (width s e) k (place s e) (lower s e k) (λ slot h. placed_next s e slot k h)

pub over_field : (s : Scope) (e : PlainExpr) (offset wide k : ℕ) → is_over_expr s e k ≡ true → is_over_expr s (field e offset wide) k ≡ true
over_field s e offset wide k h =
    whole_over (is_wide s e) (is_over wide || is_wide s e) (lower s e k).next (lower s (field e offset wide) k).next (or_right (is_over wide) (is_wide s e)) (field_up s e offset wide k) h

next_of_part : (offset wide whole k n : ℕ) (v : Value) (at : Option ℕ) (x : Lowered ir.PlainExpr) → place_of v ≡ at → width_of v ≡ whole → ((slot : ℕ) → at ≡ Some slot → x.next ≡ k) → n ≡ next_after v x.next → n ≡ (part_of offset wide whole at k x).next
next_of_part offset wide whole k n (Lying slots) None x at_is whole_is same is = cc
next_of_part offset wide whole k n (Lying slots) (Some slot) x at_is whole_is same is = is ∙ same slot refl
next_of_part offset wide whole k n (Made e w) None x at_is whole_is same is = is ∙ ap (λ m. x.next + m) whole_is
next_of_part offset wide whole k n (Made e w) (Some slot) x at_is whole_is same is = cc

pub field_next : (s : Scope) (e : PlainExpr) (offset wide k n next : ℕ) (v : Value) → IsValueOf s e k v → next ≡ (lower s e k).next → n ≡ next_after v next → n ≡ (lower s (field e offset wide) k).next
field_next s e offset wide k n next v of is after =
    next_of_part offset wide (width s e) k n v (place s e) (lower s e k) of.place of.width (λ slot h. placed_next s e slot k h) (after ∙ ap (next_after v) is)

pub over_bound : (s : Scope) (e : PlainExpr) (offset wide k next : ℕ) (v : Value) → IsValueOf s e k v → next ≡ (lower s e k).next → 255 < next_after v next → is_over_expr s (field e offset wide) k ≡ true
over_bound s e offset wide k next v of is over =
    let n : next_after v next ≡ (lower s (field e offset wide) k).next = field_next s e offset wide k (next_after v next) next v of is refl in
    or_right (is_over wide || is_wide s e) (is_over (lower s (field e offset wide) k).next) (lt-ltb 255 (lower s (field e offset wide) k).next (omega (arith, over, n)))

part_made : (offset wide whole k m : ℕ) (at : Option ℕ) (x y : Lowered ir.PlainExpr) → x.made ≡ y.made → x.next ≡ y.next → (part_of offset wide whole at k x).made ≡ (part_of offset wide whole at m y).made
part_made offset wide whole k m (Some slot) x y made next = refl
part_made offset wide whole k m None x y made next = ap (λ n. ir.bind n whole x.made (words (n + offset) wide)) next ∙ ap (λ e. ir.bind y.next whole e (words (y.next + offset) wide)) made

pub within_whole : (s : Scope) (e : PlainExpr) (offset wide : ℕ) → is_expr s (field e offset wide) ≡ true → is_wide s e ≡ false → offset + wide ≤ width s e
within_whole s e offset wide ok low = part_within offset wide (width s e) (and_parts (is_part offset wide (width s e)) (is_expr s e) ok).0 (narrow_width s e low)

-- the bound on a part as the code needs it
pub within_value : (s : Scope) (e : PlainExpr) (offset wide k : ℕ) (v : Value) → is_expr s (field e offset wide) ≡ true → IsValueOf s e k v → offset + wide ≤ width_of v
within_value s e offset wide k v ok of = let le = within_whole s e offset wide ok of.narrow in omega (arith, le, of.width)

pub narrow_value : (s : Scope) (e : PlainExpr) (k : ℕ) (v : Value) → IsValueOf s e k v → width_of v ≤ 255
narrow_value s e k v of = let le = narrow_width s e of.narrow in omega (arith, le, of.width)

pub rules_of_whole : (s : Scope) (e : PlainExpr) (offset wide : ℕ) → is_expr s (field e offset wide) ≡ true → is_expr s e ≡ true
rules_of_whole s e offset wide ok = (and_parts (is_part offset wide (width s e)) (is_expr s e) ok).1

pub field_value : (s : Scope) (e : PlainExpr) (offset wide k next : ℕ) (v r : Value) → is_expr s (field e offset wide) ≡ true → IsValueOf s e k v → next ≡ (lower s e k).next → IsPart offset wide v next r → IsValueOf s (field e offset wide) k r
field_value s e offset wide k next v r ok of is part = record {
  made =
      part.made
      ∙ ap (λ w. (part_of offset wide w (place_of v) next (record { made = made_of v; next = next })).made) of.width
      ∙ ap (λ at. (part_of offset wide (width s e) at next (record { made = made_of v; next = next })).made) of.place
      ∙ part_made offset wide (width s e) next k (place s e) (record { made = made_of v; next = next }) (lower s e k) of.made is;
  place = part.place ∙ ap (moved offset) of.place;
  width = part.width;
  narrow = or_false (is_over wide) (is_wide s e) (let le = within_whole s e offset wide ok of.narrow in let low = narrow_width s e of.narrow in not_over wide (omega (arith, le, low))) of.narrow;
  fits = part.fits;
}

-- OPERATORS

pub over_left : (s : Scope) (op : BinaryOp) (a b : PlainExpr) (k : ℕ) → is_over_expr s a k ≡ true → is_over_expr s (binary op a b) k ≡ true
over_left s op a b k h = whole_over (is_wide s a) (is_wide s a || is_wide s b) (lower s a k).next (lower s b (lower s a k).next).next (or_left (is_wide s a) (is_wide s b)) (next_up s b (lower s a k).next) h

pub over_right : (s : Scope) (op : BinaryOp) (a b : PlainExpr) (k next : ℕ) → next ≡ (lower s a k).next → is_over_expr s b next ≡ true → is_over_expr s (binary op a b) k ≡ true
over_right s op a b k next is h =
    whole_over (is_wide s b) (is_wide s a || is_wide s b) (lower s b (lower s a k).next).next (lower s b (lower s a k).next).next (or_right (is_wide s a) (is_wide s b)) (omega arith) (ap (λ n. is_over_expr s b n) (sym is) ∙ h)

-- LISTS

pub over_args : (s : Scope) (f : ℕ) (es : PlainExprs) (k : ℕ) → are_over_exprs s es k ≡ true → is_over_expr s (call f es) k ≡ true
over_args s f es k h =
    whole_over (is_over (total_width s es) || are_wide s es) (is_wide s (call f es)) (lower_all s es k).next (lower_all s es k).next
    (λ w. call_wide (is_over (width s (call f es))) (is_over (total_width s es)) (are_wide s es) w) (omega arith) h

pub over_given : (s : Scope) (f : ℕ) (es : PlainExprs) (k : ℕ) → 255 < 0 + (callee s f).«result» → is_over_expr s (call f es) k ≡ true
over_given s f es k h =
    let over : is_over (width s (call f es)) ≡ true = lt-ltb 255 (callee s f).«result» (omega (arith, h)) in
    or_left (is_wide s (call f es)) (is_over (lower_all s es k).next) (given_wide (is_over (width s (call f es))) (is_over (total_width s es)) (are_wide s es) over)

pub local_value : (s : Scope) (n k : ℕ) (slots : Slots) → slots.first ≡ first_slot s n → slots.count ≡ slice_index s.locals n → slots.first + slots.count ≤ 255 → IsValueOf s (local n) k (Lying slots)
local_value s n k slots first count fits = record {
  made = ap (λ a. words a slots.count) first ∙ ap (words (first_slot s n)) count;
  place = ap Some first;
  width = count;
  narrow = not_over (slice_index s.locals n) (omega (arith, count, fits));
  fits = fits;
}

-- the slots of locals stay below
pub above_after : (s : Scope) (e : PlainExpr) (k next : ℕ) → local_slots s ≤ k → next ≡ (lower s e k).next → local_slots s ≤ next
above_after s e k next above is = let up = next_up s e k in omega (arith, above, up, is)

-- TREES OF THE CODE

pub binary_seen : (e : UnitExpr) (op : BinaryOp) (a b ra rb : UnitExpr) → e ≡ Binary op a b → ra ≡ a → rb ≡ b → expr_view e ≡ binary op (expr_view ra) (expr_view rb)
binary_seen e op a b ra rb is ea eb = ap expr_view is ∙ expr_view-Binary op a b ∙ ap (λ x. binary op (expr_view x) (expr_view b)) (sym ea) ∙ ap (λ x. binary op (expr_view ra) (expr_view x)) (sym eb)

pub field_seen : (e a ra : UnitExpr) (offset wide : ℕ) → e ≡ Field a offset wide → ra ≡ a → expr_view e ≡ field (expr_view ra) offset wide
field_seen e a ra offset wide is ea = ap expr_view is ∙ expr_view-Field a offset wide ∙ ap (λ x. field (expr_view x) offset wide) (sym ea)

pub over_left_seen : (s : Scope) (e : UnitExpr) (op : BinaryOp) (a b ra : UnitExpr) (k : ℕ) → e ≡ Binary op a b → ra ≡ a → is_over_expr s (expr_view ra) k ≡ true → is_over_expr s (expr_view e) k ≡ true
over_left_seen s e op a b ra k is ea over = ap (λ x. is_over_expr s x k) (binary_seen e op a b ra b is ea refl) ∙ over_left s op (expr_view ra) (expr_view b) k over

pub right_rules_seen : (s : Scope) (e : UnitExpr) (op : BinaryOp) (a b rb : UnitExpr) → e ≡ Binary op a b → rb ≡ b → is_expr s (expr_view e) ≡ true → is_expr s (expr_view rb) ≡ true
right_rules_seen s e op a b rb is eb ok =
    (and_parts ((width s (expr_view a) == 1) && (width s (expr_view rb) == 1) && is_expr s (expr_view a)) (is_expr s (expr_view rb)) (ap (is_expr s) (sym (binary_seen e op a b a rb is refl eb)) ∙ ok)).1

pub over_bound_seen : (s : Scope) (e a ra : UnitExpr) (offset wide k next : ℕ) (v : Value) → e ≡ Field a offset wide → ra ≡ a → IsValueOf s (expr_view ra) k v → next ≡ (lower s (expr_view ra) k).next → 255 < next_after v next → is_over_expr s (expr_view e) k ≡ true
over_bound_seen s e a ra offset wide k next v is ea of next_is over = ap (λ x. is_over_expr s x k) (field_seen e a ra offset wide is ea) ∙ over_bound s (expr_view ra) offset wide k next v of next_is over

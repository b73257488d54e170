-- Assertions become truths that are made of numbers, truths and operators.
use Rattle.std.proofs.Common.{◌≡◌, refl, sym, ◌∙◌, Bool, true, false}
use Rattle.std.specs.Prelude.{◌&&◌, ◌||◌}
use Rattle.type_table.specs.TypeOf.{TypeOf, int, bool, param, number, end, more, tuple, struct}
use Rattle.lar_typed.specs.declared.op.UnaryOp.{UnaryOp}
use Rattle.lar_typed.specs.declared.op.UnaryOp.TheVariants as unary_op
use Rattle.lar_typed.specs.declared.op.BinaryOp.{BinaryOp}
use Rattle.lar_typed.specs.declared.op.BinaryOp.TheVariants as binary_op
use Rattle.lar_typed.specs.Exprs.{PlainExpr, truth, local, constant, generic, tuple_of, made, part, unary, binary, call, label_of}
use Rattle.lar_typed.specs.Exprs as expr
use Rattle.lar_typed.specs.SameType.{same_type}
use Rattle.lar_typed.specs.Lawful.{Frame, lawful, is_scalar, unary_fits, binary_fits}
use Rattle.lar_typed.specs.LawfulBody.{is_static}
use Rattle.lar_typed.proofs.SameTypes.{and_true, both_true, same_means}
use Rattle.lar_typed.proofs.ExprParts.{int_parts, truth_parts, constant_parts, generic_parts, unary_parts, binary_parts}
use Rattle.unit_input.specs.Exprs.{PlainExpr as UnitExpr}
use Rattle.unit_input.specs.Exprs as unit
use Rattle.unit_input.specs.Assertions.{is_number, is_truth}
use Rattle.closed_input.specs.Bodies.{Setting, unary_of, binary_of, closed_expr}

apart : (t : TypeOf) → t ≡ int → t ≡ bool → ⊥
apart t p q = different (sym p ∙ q)
  where
    different : int ≡ bool → ⊥
    different e = cc

or_right : (a b : Bool) → b ≡ true → (a || b) ≡ true
or_right true b h = refl
or_right false b h = h

or_left : (a b : Bool) → a ≡ true → (a || b) ≡ true
or_left true b h = refl
or_left false b h = cc

-- what an operand is told to be
record Operands (t u v a b : TypeOf) : Type 0 where
  outcome : t ≡ u
  left : a ≡ v
  right : b ≡ v

operands : (t u v a b : TypeOf) → (same_type t u && (same_type a v && same_type b v)) ≡ true → Operands t u v a b
operands t u v a b h =
    let p = and_true (same_type t u) (same_type a v && same_type b v) h in
    let q = and_true (same_type a v) (same_type b v) p.1 in
    record { outcome = same_means t u p.0; left = same_means a v q.0; right = same_means b v q.1 }

module _ (t a b : TypeOf) (l r : UnitExpr) where
  arithmetic : (h : Operands t int int a b) → (a ≡ int → is_number l ≡ true) → (b ≡ int → is_number r ≡ true) → (is_number l && is_number r) ≡ true
  arithmetic h f g = both_true (is_number l) (is_number r) (f h.left) (g h.right)

  logical : (h : Operands t bool bool a b) → (a ≡ bool → is_truth l ≡ true) → (b ≡ bool → is_truth r ≡ true) → (is_truth l && is_truth r) ≡ true
  logical h f g = both_true (is_truth l) (is_truth r) (f h.left) (g h.right)

  compared : (h : Operands t bool int a b) → (a ≡ int → is_number l ≡ true) → (b ≡ int → is_number r ≡ true) → (is_number l && is_number r) ≡ true
  compared h f g = both_true (is_number l) (is_number r) (f h.left) (g h.right)

  equated : (same_type t bool && (is_scalar a && same_type b a)) ≡ true → (a ≡ int → is_number l ≡ true) → (b ≡ int → is_number r ≡ true) → (a ≡ bool → is_truth l ≡ true) → (b ≡ bool → is_truth r ≡ true) → ((is_number l && is_number r) || (is_truth l && is_truth r)) ≡ true
  equated h f g f' g' =
      let p = and_true (same_type t bool) (is_scalar a && same_type b a) h in
      let q = and_true (is_scalar a) (same_type b a) p.1 in
      by a refl q.0 (same_means b a q.1)
    where
      by : (u : TypeOf) → a ≡ u → is_scalar u ≡ true → b ≡ a → ((is_number l && is_number r) || (is_truth l && is_truth r)) ≡ true
      by int e s same = or_left (is_number l && is_number r) (is_truth l && is_truth r) (both_true (is_number l) (is_number r) (f e) (g (same ∙ e)))
      by bool e s same = or_right (is_number l && is_number r) (is_truth l && is_truth r) (both_true (is_truth l) (is_truth r) (f' e) (g' (same ∙ e)))
      by (param k) e s same = cc
      by (number v) e s same = cc
      by end e s same = cc
      by (more u us) e s same = cc
      by (tuple us) e s same = cc
      by (struct n us) e s same = cc

  number_by : (op : BinaryOp) → binary_fits op t a b ≡ true → t ≡ int → (a ≡ int → is_number l ≡ true) → (b ≡ int → is_number r ≡ true) → is_number (unit.binary (binary_of op) l r) ≡ true
  number_by binary_op.Plus h e f g = arithmetic (operands t int int a b h) f g
  number_by binary_op.Minus h e f g = arithmetic (operands t int int a b h) f g
  number_by binary_op.Star h e f g = arithmetic (operands t int int a b h) f g
  number_by binary_op.Slash h e f g = arithmetic (operands t int int a b h) f g
  number_by binary_op.Percent h e f g = arithmetic (operands t int int a b h) f g
  number_by binary_op.Or h e f g = absurd (apart t e (operands t bool bool a b h).outcome)
  number_by binary_op.And h e f g = absurd (apart t e (operands t bool bool a b h).outcome)
  number_by binary_op.Equal h e f g = absurd (apart t e (same_means t bool (and_true (same_type t bool) (is_scalar a && same_type b a) h).0))
  number_by binary_op.NotEqual h e f g = absurd (apart t e (same_means t bool (and_true (same_type t bool) (is_scalar a && same_type b a) h).0))
  number_by binary_op.Less h e f g = absurd (apart t e (operands t bool int a b h).outcome)
  number_by binary_op.AtMost h e f g = absurd (apart t e (operands t bool int a b h).outcome)
  number_by binary_op.Greater h e f g = absurd (apart t e (operands t bool int a b h).outcome)
  number_by binary_op.AtLeast h e f g = absurd (apart t e (operands t bool int a b h).outcome)

  truth_by : (op : BinaryOp) → binary_fits op t a b ≡ true → t ≡ bool → (a ≡ int → is_number l ≡ true) → (b ≡ int → is_number r ≡ true) → (a ≡ bool → is_truth l ≡ true) → (b ≡ bool → is_truth r ≡ true) → is_truth (unit.binary (binary_of op) l r) ≡ true
  truth_by binary_op.Plus h e f g f' g' = absurd (apart t (operands t int int a b h).outcome e)
  truth_by binary_op.Minus h e f g f' g' = absurd (apart t (operands t int int a b h).outcome e)
  truth_by binary_op.Star h e f g f' g' = absurd (apart t (operands t int int a b h).outcome e)
  truth_by binary_op.Slash h e f g f' g' = absurd (apart t (operands t int int a b h).outcome e)
  truth_by binary_op.Percent h e f g f' g' = absurd (apart t (operands t int int a b h).outcome e)
  truth_by binary_op.Or h e f g f' g' = logical (operands t bool bool a b h) f' g'
  truth_by binary_op.And h e f g f' g' = logical (operands t bool bool a b h) f' g'
  truth_by binary_op.Equal h e f g f' g' = equated h f g f' g'
  truth_by binary_op.NotEqual h e f g f' g' = equated h f g f' g'
  truth_by binary_op.Less h e f g f' g' = compared (operands t bool int a b h) f g
  truth_by binary_op.AtMost h e f g f' g' = compared (operands t bool int a b h) f g
  truth_by binary_op.Greater h e f g f' g' = compared (operands t bool int a b h) f g
  truth_by binary_op.AtLeast h e f g f' g' = compared (operands t bool int a b h) f g

number_unary : (op : UnaryOp) (t a : TypeOf) (e : UnitExpr) → unary_fits op t a ≡ true → t ≡ int → (a ≡ int → is_number e ≡ true) → is_number (unit.unary (unary_of op) e) ≡ true
number_unary unary_op.Minus t a e h is f = f (same_means a int (and_true (same_type t int) (same_type a int) h).1)
number_unary unary_op.Not t a e h is f = absurd (apart t is (same_means t bool (and_true (same_type t bool) (same_type a bool) h).0))

truth_unary : (op : UnaryOp) (t a : TypeOf) (e : UnitExpr) → unary_fits op t a ≡ true → t ≡ bool → (a ≡ bool → is_truth e ≡ true) → is_truth (unit.unary (unary_of op) e) ≡ true
truth_unary unary_op.Not t a e h is f = f (same_means a bool (and_true (same_type t bool) (same_type a bool) h).1)
truth_unary unary_op.Minus t a e h is f = absurd (apart t (same_means t int (and_true (same_type t int) (same_type a int) h).0) is)

module _ (fr : Frame) (x : Setting) where
  mutual
    static_number : (e : PlainExpr) → lawful fr e ≡ true → is_static e ≡ true → label_of e ≡ int → is_number (closed_expr x e) ≡ true
    static_number (expr.int t v) h s e = refl
    static_number (constant t n) h s e = refl
    static_number (generic t k) h s e = refl
    static_number (truth t b) h s e = absurd (apart t e (truth_parts fr t b h))
    static_number (unary t op a) h s e = let p = unary_parts fr t op a h in number_unary op t (label_of a) (closed_expr x a) p.0 e (λ i. static_number a p.1 s i)
    static_number (binary t op a b) h s e =
        let p = binary_parts fr t op a b h in
        let q = and_true (is_static a) (is_static b) s in
        number_by t (label_of a) (label_of b) (closed_expr x a) (closed_expr x b) op p.0 e (λ i. static_number a p.1 q.0 i) (λ i. static_number b p.2 q.1 i)
    static_number (local t n) h s e = cc
    static_number (tuple_of t es) h s e = cc
    static_number (made t es) h s e = cc
    static_number (part t a k) h s e = cc
    static_number (call t n gs es at) h s e = cc

    pub static_truth : (e : PlainExpr) → lawful fr e ≡ true → is_static e ≡ true → label_of e ≡ bool → is_truth (closed_expr x e) ≡ true
    static_truth (truth t b) h s e = refl
    static_truth (expr.int t v) h s e = absurd (apart t (int_parts fr t v h) e)
    static_truth (constant t n) h s e = absurd (apart t (constant_parts fr t n h).of e)
    static_truth (generic t k) h s e = absurd (apart t (generic_parts fr t k h).of e)
    static_truth (unary t op a) h s e = let p = unary_parts fr t op a h in truth_unary op t (label_of a) (closed_expr x a) p.0 e (λ i. static_truth a p.1 s i)
    static_truth (binary t op a b) h s e =
        let p = binary_parts fr t op a b h in
        let q = and_true (is_static a) (is_static b) s in
        truth_by t (label_of a) (label_of b) (closed_expr x a) (closed_expr x b) op p.0 e (λ i. static_number a p.1 q.0 i) (λ i. static_number b p.2 q.1 i) (λ i. static_truth a p.1 q.0 i) (λ i. static_truth b p.2 q.1 i)
    static_truth (local t n) h s e = cc
    static_truth (tuple_of t es) h s e = cc
    static_truth (made t es) h s e = cc
    static_truth (part t a k) h s e = cc
    static_truth (call t n gs es at) h s e = cc

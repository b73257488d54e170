-- Where slots stay below 256, they are raised as bytes are; and what a call becomes.
use Rattle.std.proofs.Common.{◌≡◌, ℕ, ◌+◌, ◌<◌, ◌≤◌, ◌%◌, ◌^◌, if◌then◌else◌, List, [], ◌∷◌, Option, Some, None, length, get_or, zero, suc, inl, inr, refl, sym, ap, ◌∙◌, arith}
use Rattle.std.specs.Option.{option_map}
use Rattle.std.proofs.lemmas.Bool.Decides.{leb_tells}
use Rattle.unit_ir.specs.declared.stmt.IrStmt.{IrStmt}
use Rattle.unit_ir.specs.Exprs.{PlainExpr, word, load, op1, op2, both, either, call, seq, bind, PlainExprs, no_exprs, exprs}
use Rattle.unit_ir.specs.Stmts.{PlainStmt, store, fork, loop, give, print, eval, PlainStmts, no_stmts, stmts}
use Rattle.unit_ir.specs.StmtView.{stmt_view, stmts_view}
use Rattle.unit_ir.specs.InRange.{ExprInRange, ExprsInRange}
use Rattle.opt_inline.specs.declared.small.Small.{Small}
use Rattle.opt_inline.specs.Inline.{PlainSmall, given, callee, raised, all_raised, inlined_call}
use Rattle.opt_inline.specs.Places.{turned_up, all_turned_up}
use Rattle.opt_inline.specs.SmallView.{small_view, smalls_view}

below_256 : (m n s : ℕ) → s < m → m + n ≤ 255 → (s + n) % 2 ^ 8 ≡ s + n
below_256 m n s h low = omega arith

first_slot : (m n s w : ℕ) → s + w ≤ m → m + n ≤ 255 → (s + n) % 2 ^ 8 ≡ s + n
first_slot m n s w h low = omega arith

mutual
  pub turned_up-raised : (m n : ℕ) (e : PlainExpr) → ExprInRange m 0 e → m + n ≤ 255 → turned_up n e ≡ raised n e
  turned_up-raised m n (word v) h low = refl
  turned_up-raised m n (load s) h low = ap load (below_256 m n s h low)
  turned_up-raised m n (op1 o a) h low = ap (op1 o) (turned_up-raised m n a h low)
  turned_up-raised m n (op2 o a b) h low = ap (λ x. op2 o x (turned_up n b)) (turned_up-raised m n a h.0 low) ∙ ap (op2 o (raised n a)) (turned_up-raised m n b h.1 low)
  turned_up-raised m n (both a b) h low = ap (λ x. both x (turned_up n b)) (turned_up-raised m n a h.0 low) ∙ ap (both (raised n a)) (turned_up-raised m n b h.1 low)
  turned_up-raised m n (either a b) h low = ap (λ x. either x (turned_up n b)) (turned_up-raised m n a h.0 low) ∙ ap (either (raised n a)) (turned_up-raised m n b h.1 low)
  turned_up-raised m n (call k es) h low = ap (call k) (all_turned_up-raised m n es h.1 low)
  turned_up-raised m n (seq es) h low = ap seq (all_turned_up-raised m n es h low)
  turned_up-raised m n (bind s w a b) h low =
      ap (λ t. bind t w (turned_up n a) (turned_up n b)) (first_slot m n s w h.0 low)
      ∙ ap (λ x. bind (s + n) w x (turned_up n b)) (turned_up-raised m n a h.1 low)
      ∙ ap (bind (s + n) w (raised n a)) (turned_up-raised m n b h.2 low)

  pub all_turned_up-raised : (m n : ℕ) (es : PlainExprs) → ExprsInRange m 0 es → m + n ≤ 255 → all_turned_up n es ≡ all_raised n es
  all_turned_up-raised m n no_exprs h low = refl
  all_turned_up-raised m n (exprs e es) h low =
      ap (λ x. exprs x (all_turned_up n es)) (turned_up-raised m n e h.0 low) ∙ ap (exprs (raised n e)) (all_turned_up-raised m n es h.1 low)

-- a call of a small function for whose slots there is room
pub inlined_call-fits : (k : ℕ) (es : PlainExprs) (n : ℕ) (s : PlainSmall) → n + s.slots ≤ 255 → inlined_call k es n (Some s) ≡ bind n s.params (seq es) (raised n s.gives)
inlined_call-fits k es n s low =
    elim (leb_tells (n + s.slots) 255) [
      | inl fits ↦ ap (λ b. if b then bind n s.params (seq es) (raised n s.gives) else call k es) fits.0
      | inr over ↦ absurd (omega (arith, over.1))
    ]

pub callee-behind : (ss : List (Option Small)) (k : ℕ) → length ss ≤ k → callee (smalls_view ss) k ≡ None
callee-behind [] k h = refl
callee-behind (s ∷ ss) zero h = absurd (omega arith)
callee-behind (s ∷ ss) (suc k) h = callee-behind ss k (omega arith)

pub callee-there : (ss : List (Option Small)) (k : ℕ) (o : Option Small) → k < length ss → o ≡ get_or ss k o → callee (smalls_view ss) k ≡ option_map small_view o
callee-there [] k o h is = absurd (omega arith)
callee-there (s ∷ ss) zero o h is = ap (option_map small_view) (sym is)
callee-there (s ∷ ss) (suc k) o h is = callee-there ss k o (omega arith) is

given-two : (s t : PlainStmt) (ts : PlainStmts) → given (stmts s (stmts t ts)) ≡ None
given-two (store a w e) t ts = refl
given-two (fork e a b) t ts = refl
given-two (loop e a) t ts = refl
given-two (give e) t ts = refl
given-two (print e) t ts = refl
given-two (eval e w) t ts = refl

pub given-not_one : (body : List IrStmt) → (length body ≡ 1 → ⊥) → given (stmts_view body) ≡ None
given-not_one [] h = refl
given-not_one (s ∷ []) h = absurd (h refl)
given-not_one (s ∷ t ∷ ts) h = given-two (stmt_view s) (stmt_view t) (stmts_view ts)

pub given-one : (body : List IrStmt) (s : IrStmt) (p : PlainStmt) → length body ≡ 1 → s ≡ get_or body 0 s → stmt_view s ≡ p → given (stmts_view body) ≡ given (stmts p no_stmts)
given-one [] s p h is is_p = absurd (omega (arith, h))
given-one (x ∷ []) s p h is is_p = ap (λ y. given (stmts (stmt_view y) no_stmts)) (sym is) ∙ ap (λ q. given (stmts q no_stmts)) is_p
given-one (x ∷ y ∷ ys) s p h is is_p = absurd (omega (arith, h))

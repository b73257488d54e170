-- A tree of the code and the parts of which its code is.
use Rattle.std.proofs.Common.{◌≡◌, ℕ, List, sym, ap, ◌∙◌, subst}
use Rattle.object_format.specs.declared.opcode.Opcode.{Opcode}
use Rattle.object_format.specs.declared.opcode.Opcode.TheVariants as op
use Rattle.unit_ir.specs.declared.operator.Unary.{Unary}
use Rattle.unit_ir.specs.declared.operator.Binary.{Binary}
use Rattle.unit_ir.specs.declared.expr.IrExpr.{IrExpr}
use Rattle.unit_ir.specs.declared.expr.IrExpr.TheFolds.{fold-roll-IrExpr}
use Rattle.unit_ir.specs.declared.expr.IrExpr.TheOpen.{IrExpr-F}
use Rattle.unit_ir.specs.declared.expr.IrExpr.TheVariants.{Op1, Op2, And, Or, Call, Bind, rolls-Op1, rolls-Op2, rolls-And, rolls-Or, rolls-Call, rolls-Bind}
use Rattle.unit_ir.specs.Exprs.{PlainExpr, op1, op2, both, either, call, bind}
use Rattle.unit_ir.specs.ExprView.{expr_step, expr_view, exprs_view}
use Rattle.unit_emit.specs.Code.{behind, one, several, plain, with_number, stores, unary_opcode, binary_opcode, and_rest, or_rest, expr_code, exprs_code, Emits}
use Rattle.unit_emit.proofs.Codes.{emits_behind}

same_part : (old new : List ℕ) (x y : PlainExpr) → x ≡ y → Emits old (expr_code y) new → Emits old (expr_code x) new
same_part old new x y e m = subst (λ z. Emits old (expr_code z) new) (sym e) m

and_is : (a b : IrExpr) → expr_view (And a b) ≡ both (expr_view a) (expr_view b)
and_is a b = ap expr_view (sym (rolls-And a b)) ∙ fold-roll-IrExpr PlainExpr expr_step (IrExpr-F.And a b)

pub and_arm : (old new : List ℕ) (e a b ra rb : IrExpr) → e ≡ And a b → ra ≡ a → rb ≡ b → Emits old (behind (expr_code (expr_view ra)) (and_rest (expr_code (expr_view rb)))) new → Emits old (expr_code (expr_view e)) new
and_arm old new e a b ra rb is ea eb m =
    same_part old new (expr_view e) (both (expr_view ra) (expr_view rb)) (ap expr_view is ∙ and_is a b ∙ ap (λ x. both (expr_view x) (expr_view b)) (sym ea) ∙ ap (λ x. both (expr_view ra) (expr_view x)) (sym eb)) m

or_is : (a b : IrExpr) → expr_view (Or a b) ≡ either (expr_view a) (expr_view b)
or_is a b = ap expr_view (sym (rolls-Or a b)) ∙ fold-roll-IrExpr PlainExpr expr_step (IrExpr-F.Or a b)

pub or_arm : (old new : List ℕ) (e a b ra rb : IrExpr) → e ≡ Or a b → ra ≡ a → rb ≡ b → Emits old (behind (expr_code (expr_view ra)) (or_rest (expr_code (expr_view rb)))) new → Emits old (expr_code (expr_view e)) new
or_arm old new e a b ra rb is ea eb m =
    same_part old new (expr_view e) (either (expr_view ra) (expr_view rb)) (ap expr_view is ∙ or_is a b ∙ ap (λ x. either (expr_view x) (expr_view b)) (sym ea) ∙ ap (λ x. either (expr_view ra) (expr_view x)) (sym eb)) m

op1_is : (o : Unary) (a : IrExpr) → expr_view (Op1 o a) ≡ op1 o (expr_view a)
op1_is o a = ap expr_view (sym (rolls-Op1 o a)) ∙ fold-roll-IrExpr PlainExpr expr_step (IrExpr-F.Op1 o a)

pub op1_arm : (old mid new : List ℕ) (e a ra : IrExpr) (o : Unary) (code : Opcode) → e ≡ Op1 o a → ra ≡ a → code ≡ unary_opcode o → Emits old (expr_code (expr_view ra)) mid → Emits mid (one (plain code)) new → Emits old (expr_code (expr_view e)) new
op1_arm old mid new e a ra o code is ea ec m n =
    same_part old new (expr_view e) (op1 o (expr_view ra)) (ap expr_view is ∙ op1_is o a ∙ ap (λ x. op1 o (expr_view x)) (sym ea)) (emits_behind old mid new _ _ m (subst (λ x. Emits mid (one (plain x)) new) ec n))

op2_is : (o : Binary) (a b : IrExpr) → expr_view (Op2 o a b) ≡ op2 o (expr_view a) (expr_view b)
op2_is o a b = ap expr_view (sym (rolls-Op2 o a b)) ∙ fold-roll-IrExpr PlainExpr expr_step (IrExpr-F.Op2 o a b)

pub op2_arm : (old mid next new : List ℕ) (e a b ra rb : IrExpr) (o : Binary) (code : Opcode) → e ≡ Op2 o a b → ra ≡ a → rb ≡ b → code ≡ binary_opcode o
    → Emits old (expr_code (expr_view ra)) mid → Emits mid (expr_code (expr_view rb)) next → Emits next (one (plain code)) new → Emits old (expr_code (expr_view e)) new
op2_arm old mid next new e a b ra rb o code is ea eb ec m n k =
    same_part old new (expr_view e) (op2 o (expr_view ra) (expr_view rb)) (ap expr_view is ∙ op2_is o a b ∙ ap (λ x. op2 o (expr_view x) (expr_view b)) (sym ea) ∙ ap (λ x. op2 o (expr_view ra) (expr_view x)) (sym eb)) (emits_behind old mid new _ _ m (emits_behind mid next new _ _ n (subst (λ x. Emits next (one (plain x)) new) ec k)))

call_is : (k : ℕ) (es : List IrExpr) → expr_view (Call k es) ≡ call k (exprs_view es)
call_is k es = ap expr_view (sym (rolls-Call k es)) ∙ fold-roll-IrExpr PlainExpr expr_step (IrExpr-F.Call k es)

pub call_arm : (old mid new : List ℕ) (e : IrExpr) (es rs : List IrExpr) (k : ℕ) → e ≡ Call k es → rs ≡ es → Emits old (exprs_code (exprs_view rs)) mid → Emits mid (one (with_number op.Call k)) new → Emits old (expr_code (expr_view e)) new
call_arm old mid new e es rs k is ea m n =
    same_part old new (expr_view e) (call k (exprs_view rs)) (ap expr_view is ∙ call_is k es ∙ ap (λ x. call k (exprs_view x)) (sym ea)) (emits_behind old mid new _ _ m n)

bind_is : (s w : ℕ) (a b : IrExpr) → expr_view (Bind s w a b) ≡ bind s w (expr_view a) (expr_view b)
bind_is s w a b = ap expr_view (sym (rolls-Bind s w a b)) ∙ fold-roll-IrExpr PlainExpr expr_step (IrExpr-F.Bind s w a b)

pub bind_arm : (old mid next new : List ℕ) (e a b ra rb : IrExpr) (s w : ℕ) → e ≡ Bind s w a b → ra ≡ a → rb ≡ b
    → Emits old (expr_code (expr_view ra)) mid → Emits mid (several (stores s w)) next → Emits next (expr_code (expr_view rb)) new → Emits old (expr_code (expr_view e)) new
bind_arm old mid next new e a b ra rb s w is ea eb m n k =
    same_part old new (expr_view e) (bind s w (expr_view ra) (expr_view rb)) (ap expr_view is ∙ bind_is s w a b ∙ ap (λ x. bind s w (expr_view x) (expr_view b)) (sym ea) ∙ ap (λ x. bind s w (expr_view ra) (expr_view x)) (sym eb)) (emits_behind old mid new _ _ m (emits_behind mid next new _ _ n k))

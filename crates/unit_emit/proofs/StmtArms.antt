-- A statement of the code and the parts of which its code is.
use Rattle.std.proofs.Common.{◌≡◌, ℕ, List, [], ◌∷◌, refl, sym, ap, ◌∙◌, subst}
use Rattle.object_format.specs.declared.opcode.Opcode.TheVariants as op
use Rattle.unit_ir.specs.declared.expr.IrExpr.{IrExpr}
use Rattle.unit_ir.specs.declared.stmt.IrStmt.{IrStmt}
use Rattle.unit_ir.specs.declared.stmt.IrStmt.TheFolds.{fold-roll-IrStmt}
use Rattle.unit_ir.specs.declared.stmt.IrStmt.TheOpen.{IrStmt-F}
use Rattle.unit_ir.specs.declared.stmt.IrStmt.TheVariants.{Store, If, While, Return, Print, Eval, rolls-Store, rolls-If, rolls-While, rolls-Return, rolls-Print, rolls-Eval}
use Rattle.unit_ir.specs.Stmts.{PlainStmt, no_stmts, store, fork, loop, give, print, eval}
use Rattle.unit_ir.specs.ExprView.{expr_view}
use Rattle.unit_ir.specs.StmtView.{stmt_step, stmt_view, stmts_view}
use Rattle.unit_emit.specs.Code.{behind, one, several, plain, stores, pops, if_rest, else_rest, while_code, expr_code, stmt_code, stmts_code, Emits}
use Rattle.unit_emit.proofs.Codes.{emits_behind}

same_part : (old new : List ℕ) (x y : PlainStmt) → x ≡ y → Emits old (stmt_code y) new → Emits old (stmt_code x) new
same_part old new x y e m = subst (λ z. Emits old (stmt_code z) new) (sym e) m

pub store_arm : (old mid new : List ℕ) (t : IrStmt) (s w : ℕ) (e : IrExpr) → t ≡ Store s w e → Emits old (expr_code (expr_view e)) mid → Emits mid (several (stores s w)) new → Emits old (stmt_code (stmt_view t)) new
store_arm old mid new t s w e is m n =
    same_part old new (stmt_view t) (store s w (expr_view e)) (ap stmt_view (is ∙ sym (rolls-Store s w e)) ∙ fold-roll-IrStmt PlainStmt stmt_step (IrStmt-F.Store s w e)) (emits_behind old mid new _ _ m n)

pub give_arm : (old mid new : List ℕ) (t : IrStmt) (e : IrExpr) → t ≡ Return e → Emits old (expr_code (expr_view e)) mid → Emits mid (one (plain op.Return)) new → Emits old (stmt_code (stmt_view t)) new
give_arm old mid new t e is m n =
    same_part old new (stmt_view t) (give (expr_view e)) (ap stmt_view (is ∙ sym (rolls-Return e)) ∙ fold-roll-IrStmt PlainStmt stmt_step (IrStmt-F.Return e)) (emits_behind old mid new _ _ m n)

pub print_arm : (old mid new : List ℕ) (t : IrStmt) (e : IrExpr) → t ≡ Print e → Emits old (expr_code (expr_view e)) mid → Emits mid (one (plain op.Print)) new → Emits old (stmt_code (stmt_view t)) new
print_arm old mid new t e is m n =
    same_part old new (stmt_view t) (print (expr_view e)) (ap stmt_view (is ∙ sym (rolls-Print e)) ∙ fold-roll-IrStmt PlainStmt stmt_step (IrStmt-F.Print e)) (emits_behind old mid new _ _ m n)

pub eval_arm : (old mid new : List ℕ) (t : IrStmt) (e : IrExpr) (w : ℕ) → t ≡ Eval e w → Emits old (expr_code (expr_view e)) mid → Emits mid (several (pops w)) new → Emits old (stmt_code (stmt_view t)) new
eval_arm old mid new t e w is m n =
    same_part old new (stmt_view t) (eval (expr_view e) w) (ap stmt_view (is ∙ sym (rolls-Eval e w)) ∙ fold-roll-IrStmt PlainStmt stmt_step (IrStmt-F.Eval e w)) (emits_behind old mid new _ _ m n)

pub if_arm : (old new : List ℕ) (t : IrStmt) (e : IrExpr) (a b ra : List IrStmt) → t ≡ If e a b → ra ≡ a → b ≡ [] → Emits old (behind (expr_code (expr_view e)) (if_rest (stmts_code (stmts_view ra)))) new → Emits old (stmt_code (stmt_view t)) new
if_arm old new t e a b ra is ea eb m =
    same_part old new (stmt_view t) (fork (expr_view e) (stmts_view ra) no_stmts)
    (ap stmt_view (is ∙ sym (rolls-If e a b)) ∙ fold-roll-IrStmt PlainStmt stmt_step (IrStmt-F.If e a b) ∙ ap (λ x. fork (expr_view e) (stmts_view x) (stmts_view b)) (sym ea) ∙ ap (λ x. fork (expr_view e) (stmts_view ra) (stmts_view x)) eb) m

else_case : (old new : List ℕ) (e : IrExpr) (a b : List IrStmt) → (b ≡ [] → ⊥) → Emits old (behind (expr_code (expr_view e)) (else_rest (stmts_code (stmts_view a)) (stmts_code (stmts_view b)))) new → Emits old (stmt_code (fork (expr_view e) (stmts_view a) (stmts_view b))) new
else_case old new e a [] some m = absurd (some refl)
else_case old new e a (s ∷ ss) some m = m

pub else_arm : (old new : List ℕ) (t : IrStmt) (e : IrExpr) (a b ra rb : List IrStmt) → t ≡ If e a b → ra ≡ a → rb ≡ b → (b ≡ [] → ⊥) → Emits old (behind (expr_code (expr_view e)) (else_rest (stmts_code (stmts_view ra)) (stmts_code (stmts_view rb)))) new → Emits old (stmt_code (stmt_view t)) new
else_arm old new t e a b ra rb is ea eb some m =
    same_part old new (stmt_view t) (fork (expr_view e) (stmts_view ra) (stmts_view rb))
    (ap stmt_view (is ∙ sym (rolls-If e a b)) ∙ fold-roll-IrStmt PlainStmt stmt_step (IrStmt-F.If e a b) ∙ ap (λ x. fork (expr_view e) (stmts_view x) (stmts_view b)) (sym ea) ∙ ap (λ x. fork (expr_view e) (stmts_view ra) (stmts_view x)) (sym eb))
    (else_case old new e ra rb (λ none. some (sym eb ∙ none)) m)

pub while_arm : (old new : List ℕ) (t : IrStmt) (e : IrExpr) (a ra : List IrStmt) → t ≡ While e a → ra ≡ a → Emits old (while_code (expr_code (expr_view e)) (stmts_code (stmts_view ra))) new → Emits old (stmt_code (stmt_view t)) new
while_arm old new t e a ra is ea m =
    same_part old new (stmt_view t) (loop (expr_view e) (stmts_view ra)) (ap stmt_view (is ∙ sym (rolls-While e a)) ∙ fold-roll-IrStmt PlainStmt stmt_step (IrStmt-F.While e a) ∙ ap (λ x. loop (expr_view e) (stmts_view x)) (sym ea)) m

-- The plain statements of each variant, and the state behind those that declare nothing.
use Rattle.std.proofs.Common.{◌≡◌, List, Option, Some, None, refl, sym, ap, ◌∙◌}
use Rattle.std.specs.Prelude.{option_map}
use Rattle.lar_source.specs.declared.file.Span.{Span}
use Rattle.lar_tree.specs.declared.expr.Expr.{Expr}
use Rattle.lar_tree.specs.declared.stmt.Stmt.{Stmt}
use Rattle.lar_tree.specs.declared.stmt.Stmt.TheVariants as stmt
use Rattle.lar_tree.specs.declared.stmt.Block.{Block}
use Rattle.lar_tree.specs.declared.stmt.Asked.{Asked}
use Rattle.lar_tree.specs.declared.stmt.Setting.{Setting}
use Rattle.lar_tree.specs.declared.stmt.Else.TheOpen.{Stmt-F}
use Rattle.lar_tree.specs.declared.stmt.Else.TheFolds.{fold-roll-Stmt, fold_out-Block, fold_out-If}
use Rattle.lar_tree.specs.declared.stmt.Else.{Else}
use Rattle.lar_tree.specs.declared.stmt.If.{If, map-If}
use Rattle.lar_tree.specs.ExprView.{expr_view}
use Rattle.lar_tree.specs.Exprs.{PlainExpr}
use Rattle.lar_tree.specs.Stmts.{block, fork, no_else, PlainElse, PlainStmt, PlainBlock, PlainIf, PlainSetting, return_stmt, print_stmt, assert_stmt, expr_stmt, while_stmt}
use Rattle.lar_tree.specs.StmtView.{stmts_view, if_view, else_view, else_of, else_step, stmt_step, block_step, if_step, stmt_view, block_view, asked_view, setting_view}
use Rattle.lar_rules.specs.Fault.{Fault, least}
use Rattle.lar_rules.specs.Exprs.{judge}
use Rattle.lar_rules.specs.Bodies.{Body, State, Done, env_of, stmt_done, block_done, stmts_done, if_done, else_done, forked, closed, return_done, expr_done}
use Rattle.lar_typed.specs.Stmts as typed

pub return_view : (at : Span) (v : Option Expr) (to : Span) → stmt_view (stmt.Return at v to) ≡ return_stmt at (option_map expr_view v) to
return_view at v to = ap stmt_view (sym (stmt.rolls-Return at v to)) ∙ fold-roll-Stmt PlainElse PlainStmt PlainBlock PlainIf else_step stmt_step block_step if_step (Stmt-F.Return at v to)

pub print_view : (a : Asked) → stmt_view (stmt.Print a) ≡ print_stmt (asked_view a)
print_view a = ap stmt_view (sym (stmt.rolls-Print a)) ∙ fold-roll-Stmt PlainElse PlainStmt PlainBlock PlainIf else_step stmt_step block_step if_step (Stmt-F.Print a)

pub assert_view : (a : Asked) → stmt_view (stmt.StaticAssert a) ≡ assert_stmt (asked_view a)
assert_view a = ap stmt_view (sym (stmt.rolls-StaticAssert a)) ∙ fold-roll-Stmt PlainElse PlainStmt PlainBlock PlainIf else_step stmt_step block_step if_step (Stmt-F.StaticAssert a)

pub expr_stmt_view : (e : Expr) (o : Option Setting) (to : Span) → stmt_view (stmt.Expr e o to) ≡ expr_stmt (expr_view e) (option_map setting_view o) to
expr_stmt_view e o to = ap stmt_view (sym (stmt.rolls-Expr e o to)) ∙ fold-roll-Stmt PlainElse PlainStmt PlainBlock PlainIf else_step stmt_step block_step if_step (Stmt-F.Expr e o to)

pub while_view : (at : Span) (e : Expr) (b : Block) → stmt_view (stmt.While at e b) ≡ while_stmt at (expr_view e) (block_view b)
while_view at e b = ap stmt_view (sym (stmt.rolls-While at e b)) ∙ fold-roll-Stmt PlainElse PlainStmt PlainBlock PlainIf else_step stmt_step block_step if_step (Stmt-F.While at e b)

returned : (b : Body) (s : State) (at : Span) (v : Option PlainExpr) → (return_done b s at v).after ≡ s
returned b s at None = refl
returned b s at (Some e) = refl

set : (b : Body) (s : State) (e : PlainExpr) (o : Option PlainSetting) → (expr_done b s e o).after ≡ s
set b s e None = refl
set b s e (Some a) = refl

pub after_return : (b : Body) (s : State) (x : Stmt) (at : Span) (v : Option Expr) (to : Span) → x ≡ stmt.Return at v to → (stmt_done b s (stmt_view x)).after ≡ s
after_return b s x at v to is = ap (λ (y : PlainStmt). (stmt_done b s y).after) (ap stmt_view is ∙ return_view at v to) ∙ returned b s at (option_map expr_view v)

pub after_print : (b : Body) (s : State) (x : Stmt) (a : Asked) → x ≡ stmt.Print a → (stmt_done b s (stmt_view x)).after ≡ s
after_print b s x a is = ap (λ (y : PlainStmt). (stmt_done b s y).after) (ap stmt_view is ∙ print_view a)

pub after_assert : (b : Body) (s : State) (x : Stmt) (a : Asked) → x ≡ stmt.StaticAssert a → (stmt_done b s (stmt_view x)).after ≡ s
after_assert b s x a is = ap (λ (y : PlainStmt). (stmt_done b s y).after) (ap stmt_view is ∙ assert_view a)

pub after_expr : (b : Body) (s : State) (x : Stmt) (e : Expr) (o : Option Setting) (to : Span) → x ≡ stmt.Expr e o to → (stmt_done b s (stmt_view x)).after ≡ s
after_expr b s x e o to is = ap (λ (y : PlainStmt). (stmt_done b s y).after) (ap stmt_view is ∙ expr_stmt_view e o to) ∙ set b s (expr_view e) (option_map setting_view o)

pub while_same : (b : Body) (s : State) (x : Stmt) (at : Span) (e : Expr) (k : Block) → x ≡ stmt.While at e k → stmt_done b s (while_stmt at (expr_view e) (block_view k)) ≡ stmt_done b s (stmt_view x)
while_same b s x at e k is = ap (stmt_done b s) (sym (ap stmt_view is ∙ while_view at e k))

pub while_told : (b : Body) (s : State) (x : Stmt) (at : Span) (e : Expr) (k : Block) (best now : Option Fault) → x ≡ stmt.While at e k → now ≡ least best (stmt_done b s (while_stmt at (expr_view e) (block_view k))).faults → now ≡ least best (stmt_done b s (stmt_view x)).faults
while_told b s x at e k best now is h = h ∙ ap (λ (d : Done typed.PlainStmt). least best d.faults) (while_same b s x at e k is)

-- BLOCKS

block_is : (k : Block) → block_view k ≡ block k.open (stmts_view k.stmts) k.close
block_is k = fold_out-Block PlainElse PlainStmt PlainBlock PlainIf else_step stmt_step block_step if_step k

pub block_after : (b : Body) (s : State) (k : Block) (ss : List Stmt) → ss ≡ k.stmts → closed s (stmts_done b s (stmts_view ss)).after ≡ (block_done b s (block_view k)).after
block_after b s k ss e = ap (λ (xs : List Stmt). closed s (stmts_done b s (stmts_view xs)).after) e ∙ sym (ap (λ y. (block_done b s y).after) (block_is k))

pub block_same : (b there : Body) (s here : State) (k : PlainBlock) → there ≡ b → here ≡ s → block_done there here k ≡ block_done b s k
block_same b there s here k p q = ap (λ x. block_done x here k) p ∙ ap (λ x. block_done b x k) q

pub else_same : (b there : Body) (s here : State) (k : PlainElse) → there ≡ b → here ≡ s → else_done there here k ≡ else_done b s k
else_same b there s here k p q = ap (λ x. else_done x here k) p ∙ ap (λ x. else_done b x k) q

-- `if`

if_of : (at : Span) (e : Expr) (k : Block) (o : Option Else) → if_step (map-If Else Stmt Block If PlainElse PlainStmt PlainBlock PlainIf else_view stmt_view block_view if_view (record { keyword = at; test = e; «then» = k; other = o })) ≡ fork at (expr_view e) (block_view k) (else_of (option_map else_view o))
if_of at e k None = refl
if_of at e k (Some o) = refl

if_is : (f : If) → if_view f ≡ fork f.keyword (expr_view f.test) (block_view f.«then») (else_of (option_map else_view f.other))
if_is f = fold_out-If PlainElse PlainStmt PlainBlock PlainIf else_step stmt_step block_step if_step f ∙ if_of f.keyword f.test f.«then» f.other

if_rule : (b : Body) (s : State) (f : If) → if_done b s (if_view f)
    ≡ forked b (judge (env_of b s) (expr_view f.test)) (block_done b s (block_view f.«then»)) (else_done b (block_done b s (block_view f.«then»)).after (else_of (option_map else_view f.other)))
if_rule b s f = ap (if_done b s) (if_is f)

pub if_none : (b : Body) (s : State) (f : If) → f.other ≡ None
    → forked b (judge (env_of b s) (expr_view f.test)) (block_done b s (block_view f.«then»)) (else_done b (block_done b s (block_view f.«then»)).after no_else) ≡ if_done b s (if_view f)
if_none b s f e =
    ap (λ (o : Option Else). forked b (judge (env_of b s) (expr_view f.test)) (block_done b s (block_view f.«then»)) (else_done b (block_done b s (block_view f.«then»)).after (else_of (option_map else_view o)))) (sym e) ∙ sym (if_rule b s f)

pub if_some : (b : Body) (s : State) (f : If) (o : Else) → f.other ≡ Some o
    → forked b (judge (env_of b s) (expr_view f.test)) (block_done b s (block_view f.«then»)) (else_done b (block_done b s (block_view f.«then»)).after (else_view o)) ≡ if_done b s (if_view f)
if_some b s f o e =
    ap (λ (x : Option Else). forked b (judge (env_of b s) (expr_view f.test)) (block_done b s (block_view f.«then»)) (else_done b (block_done b s (block_view f.«then»)).after (else_of (option_map else_view x)))) (sym e) ∙ sym (if_rule b s f)

-- Lists of statements, of which some go, from the last on.
use Rattle.std.proofs.Common.{◌≡◌, ℕ, Bool, List, [], ◌∷◌, ◌++◌, map, refl, sym, ap, ◌∙◌}
use Rattle.std.specs.Prelude.{reverse}
use Rattle.unit_ir.specs.declared.stmt.IrStmt.{IrStmt}
use Rattle.unit_ir.specs.declared.function.IrFn.{IrFn}
use Rattle.unit_ir.specs.Stmts.{PlainStmts, no_stmts}
use Rattle.unit_ir.specs.StmtView.{stmt_view, stmts_view}
use Rattle.unit_ir.specs.Units.{PlainFn, fn_view}
use Rattle.opt_dead.specs.Dead.{before, dead_stmt, dead_stmts, dead_fn}

-- what is left of a list, before others
abbrev pub left_before : (ℕ → Bool) → List IrStmt → PlainStmts → PlainStmts
left_before l [] others = others
left_before l (s ∷ ss) others = before (dead_stmt l (stmt_view s)) (left_before l ss others)

pub left_before-none : (l : ℕ → Bool) (ss : List IrStmt) → left_before l ss no_stmts ≡ dead_stmts l (stmts_view ss)
left_before-none l [] = refl
left_before-none l (s ∷ ss) = ap (before (dead_stmt l (stmt_view s))) (left_before-none l ss)

left_before-last : (l : ℕ → Bool) (xs : List IrStmt) (last : IrStmt) (others : PlainStmts) → left_before l (xs ++ last ∷ []) others ≡ left_before l xs (before (dead_stmt l (stmt_view last)) others)
left_before-last l [] last others = refl
left_before-last l (x ∷ xs) last others = ap (before (dead_stmt l (stmt_view x))) (left_before-last l xs last others)

-- one turn of a loop over a list from its last statement on
pub kept_before : (l : ℕ → Bool) (old new : List IrStmt) (last : IrStmt) (then now : List IrStmt) (all : PlainStmts) → old ≡ new ++ last ∷ []
    → stmts_view (reverse now) ≡ before (dead_stmt l (stmt_view last)) (stmts_view (reverse then))
    → left_before l old (stmts_view (reverse then)) ≡ all → left_before l new (stmts_view (reverse now)) ≡ all
kept_before l old new last then now all is_old is_now so_far =
    ap (left_before l new) is_now
    ∙ sym (left_before-last l new last (stmts_view (reverse then)))
    ∙ ap (λ xs. left_before l xs (stmts_view (reverse then))) (sym is_old)
    ∙ so_far

abbrev pub dead_view : IrFn → PlainFn
dead_view f = dead_fn (fn_view f)

pub map-dead_fn : (fs : List IrFn) → map dead_fn (map fn_view fs) ≡ map dead_view fs
map-dead_fn [] = refl
map-dead_fn (f ∷ fs) = ap (λ l. dead_view f ∷ l) (map-dead_fn fs)

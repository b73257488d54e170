-- `if` and `while`: what their parts give is what the rules say.
use Rattle.std.proofs.Common.{◌≡◌, List, [], ◌++◌, append_assoc, sym, ap, ◌∙◌, Option}
use Rattle.type_table.specs.declared.row.Row.{Row}
use Rattle.type_table.specs.TypeOf.{bool}
use Rattle.type_table.specs.Rows.{Keeps}
use Rattle.lar_typed.specs.declared.expr.TypedExpr.{TypedExpr}
use Rattle.lar_typed.specs.declared.stmt.TypedStmt.{TypedStmt}
use Rattle.lar_typed.specs.Stmts.{PlainStmts}
use Rattle.lar_rules.specs.Fault.{Fault, least}
use Rattle.lar_rules.specs.Judged as rules
use Rattle.lar_rules.specs.Judged.{fitting, misfit}
use Rattle.lar_rules.specs.Bodies.{Body, Done, forked, after_test, fork_typed, loop_typed}
use Rattle.lar_judge.specs.Known.{typed_in, TypedWithin}
use Rattle.lar_judge.proofs.Kept.{typed_kept, within_kept}
use Rattle.lar_judge.proofs.Least.{least_none}
use Rattle.lar_judge.proofs.Operands.{told_two}
use Rattle.lar_stmts.specs.Stmts.{stmt_if, stmts_if, StmtIfWithin, StmtsIfWithin, StmtIs, StmtsIs}
use Rattle.lar_bodies.proofs.Kept.{stmts_is_kept}

pub fork_is : (r1 r2 new : List Row) (b : Body) (c : rules.Judged) (x y : Done PlainStmts) (test : Option TypedExpr) (then other : Option (List TypedStmt)) (r : Option TypedStmt) → Keeps r1 r2 → Keeps r2 new
    → Keeps r1 new → TypedWithin r1 test → typed_in r1 test ≡ fitting bool c → StmtsIs r2 then x.typed → StmtsIs new other y.typed
    → (TypedWithin new test → StmtsIfWithin new then → StmtsIfWithin new other → StmtIfWithin new r) → stmt_if new r ≡ fork_typed (typed_in new test) (stmts_if new then) (stmts_if new other) → StmtIs new r (forked b c x y).typed
fork_is r1 r2 new b c x y test then other r k l kl w e p q v is =
    let first : StmtsIs new then x.typed = stmts_is_kept r2 new then x.typed l p in
    record {
      within = v (within_kept r1 new test kl w) first.within q.within;
      is = is ∙ ap (λ t. fork_typed t (stmts_if new then) (stmts_if new other)) (typed_kept r1 new test kl w ∙ e)
          ∙ ap (λ t. fork_typed (fitting bool c) t (stmts_if new other)) first.is ∙ ap (fork_typed (fitting bool c) x.typed) q.is;
    }

pub loop_is : (r1 new : List Row) (b : Body) (c : rules.Judged) (a : Done PlainStmts) (test : Option TypedExpr) (body : Option (List TypedStmt)) (r : Option TypedStmt) → Keeps r1 new → TypedWithin r1 test → typed_in r1 test ≡ fitting bool c → StmtsIs new body a.typed
    → (TypedWithin new test → StmtsIfWithin new body → StmtIfWithin new r) → stmt_if new r ≡ loop_typed (typed_in new test) (stmts_if new body) → StmtIs new r (after_test b c a).typed
loop_is r1 new b c a test body r k w e p v is = record {
  within = v (within_kept r1 new test k w) p.within;
  is = is ∙ ap (λ t. loop_typed t (stmts_if new body)) (typed_kept r1 new test k w ∙ e) ∙ ap (loop_typed (fitting bool c)) p.is;
}

pub loop_told : (b : Body) (c : rules.Judged) (a : Done PlainStmts) (best mid now : Option Fault) → mid ≡ least best (c.faults ++ misfit b.site bool c) → now ≡ least mid a.faults → now ≡ least best (after_test b c a).faults
loop_told b c a best mid now m n = told_two best mid now (c.faults ++ misfit b.site bool c) a.faults m n ∙ ap (least best) (append_assoc c.faults (misfit b.site bool c) a.faults)

pub fork_told : (b : Body) (c : rules.Judged) (x y : Done PlainStmts) (best f1 f2 now : Option Fault) → f1 ≡ least best (c.faults ++ misfit b.site bool c) → f2 ≡ least f1 x.faults → now ≡ least f2 y.faults → now ≡ least best (forked b c x y).faults
fork_told b c x y best f1 f2 now m n o =
    told_two best f1 now (c.faults ++ misfit b.site bool c) (x.faults ++ y.faults) m (told_two f1 f2 now x.faults y.faults n o) ∙ ap (least best) (append_assoc c.faults (misfit b.site bool c) (x.faults ++ y.faults))

pub none_told : (f : Option Fault) → f ≡ least f []
none_told f = sym (least_none f)

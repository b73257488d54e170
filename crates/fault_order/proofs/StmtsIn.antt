-- The faults of a statement stand at its tokens.
use Rattle.std.proofs.Common.{refl, List, [], ◌++◌, Option, Some, None}
use Rattle.lar_source.specs.declared.file.Span.{Span}
use Rattle.type_table.specs.TypeOf.{TypeOf, int, bool, end, tuple}
use Rattle.lar_typed.specs.SameType.{same_type}
use Rattle.lar_tree.specs.declared.token.Token.{Token}
use Rattle.lar_tree.specs.Spelling.{flat_option}
use Rattle.lar_tree.specs.Types.{flat_type}
use Rattle.lar_tree.specs.Exprs.{PlainExpr, flat_expr}
use Rattle.lar_tree.specs.Stmts.{PlainSetting, PlainStmt, let_stmt, if_stmt, while_stmt, return_stmt, print_stmt, assert_stmt, expr_stmt, PlainBlock, block, PlainStmts, no_stmts, stmts, PlainIf, fork, PlainElse, no_else, else_block, else_if, flat_setting, flat_stmt, flat_block, flat_stmts, flat_if, flat_else}
use Rattle.lar_rules.specs.Written.{Site, written}
use Rattle.lar_rules.specs.Judged.{Judged, misfit, misfit_if}
use Rattle.lar_rules.specs.Exprs.{judge}
use Rattle.lar_rules.specs.Bodies.{Body, State, env_of, assert_env, return_misfit, return_done, is_place, misplaced, label_if, expr_done, stmt_done, block_done, stmts_done, if_done, else_done}
use Rattle.fault_order.specs.Places.{HasPlace}
use Rattle.fault_order.proofs.PlacesIn.{Into, into_left, into_right, into_tail, into_head, AllIn, stands, join, unless}
use Rattle.fault_order.proofs.TypesIn.{written_in}
use Rattle.fault_order.proofs.ExprsIn.{JudgedIn, misfit_in, misfit_if_in, judge_in}

fit_in : (s : Site) (ts : List Token) (t : TypeOf) (j : Judged) → JudgedIn s.file ts j
    → AllIn s.file ts (j.faults ++ misfit s t j)
fit_in s ts t j h = join s.file ts j.faults (misfit s t j) h.faults (misfit_in s ts t j h.at)

fit_if_in : (s : Site) (ts : List Token) (o : Option TypeOf) (j : Judged) → JudgedIn s.file ts j
    → AllIn s.file ts (j.faults ++ misfit_if s o j)
fit_if_in s ts o j h = join s.file ts j.faults (misfit_if s o j) h.faults (misfit_if_in s ts o j h.at)

nothing_in : (b : Body) (ts : List Token) (at : Span) (o : Option TypeOf) → HasPlace ts at
    → AllIn b.site.file ts (return_misfit b at o)
nothing_in b ts at None h = tt
nothing_in b ts at (Some t) h = unless b.site.file ts (same_type (tuple end) t) _ (stands b.site.file ts at _ _ h refl)

return_in : (b : Body) (s : State) (ts : List Token) (at : Span) (o : Option PlainExpr) → HasPlace ts at
    → Into (flat_option flat_expr o) ts → AllIn b.site.file ts (return_done b s at o).faults
return_in b s ts at None h i = nothing_in b ts at b.outcome h
return_in b s ts at (Some e) h i = fit_if_in b.site ts b.outcome (judge (env_of b s) e) (judge_in (env_of b s) ts e i)

expr_in : (b : Body) (s : State) (ts : List Token) (e : PlainExpr) (o : Option PlainSetting) → Into (flat_expr e) ts
    → Into (flat_option flat_setting o) ts → AllIn b.site.file ts (expr_done b s e o).faults
expr_in b s ts e None i k = (judge_in (env_of b s) ts e i).faults
expr_in b s ts e (Some a) i k =
    let l = judge (env_of b s) e in
    let r = judge (env_of b s) a.1 in
    let h = judge_in (env_of b s) ts e i in
    join b.site.file ts l.faults _ h.faults
    (join b.site.file ts (misplaced (env_of b s) e l.at) (r.faults ++ misfit_if b.site (label_if l.typed) r)
    (unless b.site.file ts (is_place (env_of b s) e) _ (stands b.site.file ts l.at _ [] h.at refl))
    (fit_if_in b.site ts (label_if l.typed) r
    (judge_in (env_of b s) ts a.1 (into_tail _ (flat_expr a.1) ts k))))

mutual
  stmt_in : (b : Body) (s : State) (ts : List Token) (x : PlainStmt) → Into (flat_stmt x) ts
      → AllIn b.site.file ts (stmt_done b s x).faults
  stmt_in b s ts (let_stmt l) i =
      let a = into_tail _ _ ts (into_tail _ _ ts (into_tail _ _ ts i)) in
      let c = into_tail _ _ ts (into_right (flat_type l.ty) _ ts a) in
      join b.site.file ts (written b.site l.ty).faults _ (written_in b.site ts l.ty (into_left (flat_type l.ty) _ ts a))
      (fit_if_in b.site ts (written b.site l.ty).of (judge (env_of b s) l.value)
      (judge_in (env_of b s) ts l.value (into_left (flat_expr l.value) _ ts c)))
  stmt_in b s ts (if_stmt f) i = if_in b s ts f i
  stmt_in b s ts (while_stmt at test body) i =
      let a = into_tail _ _ ts i in
      let h = judge_in (env_of b s) ts test (into_left (flat_expr test) _ ts a) in
      join b.site.file ts (judge (env_of b s) test).faults _ h.faults
      (join b.site.file ts (misfit b.site bool (judge (env_of b s) test)) (block_done b s body).faults
      (misfit_in b.site ts bool (judge (env_of b s) test) h.at)
      (block_in b s ts body (into_right (flat_expr test) (flat_block body) ts a)))
  stmt_in b s ts (return_stmt at value to) i =
      return_in b s ts at value (into_head _ _ ts i) (into_left (flat_option flat_expr value) _ ts (into_tail _ _ ts i))
  stmt_in b s ts (print_stmt a) i =
      fit_in b.site ts int (judge (env_of b s) a.value)
      (judge_in (env_of b s) ts a.value (into_left (flat_expr a.value) _ ts (into_tail _ _ ts (into_tail _ _ ts i))))
  stmt_in b s ts (assert_stmt a) i =
      fit_in b.site ts bool (judge (assert_env b s) a.value)
      (judge_in (assert_env b s) ts a.value
      (into_left (flat_expr a.value) _ ts (into_tail _ _ ts (into_tail _ _ ts i))))
  stmt_in b s ts (expr_stmt e setting to) i =
      expr_in b s ts e setting (into_left (flat_expr e) _ ts i)
      (into_left (flat_option flat_setting setting) _ ts (into_right (flat_expr e) _ ts i))

  pub block_in : (b : Body) (s : State) (ts : List Token) (x : PlainBlock) → Into (flat_block x) ts
      → AllIn b.site.file ts (block_done b s x).faults
  block_in b s ts (block from ss to) i = stmts_in b s ts ss (into_left (flat_stmts ss) _ ts (into_tail _ _ ts i))

  stmts_in : (b : Body) (s : State) (ts : List Token) (xs : PlainStmts) → Into (flat_stmts xs) ts
      → AllIn b.site.file ts (stmts_done b s xs).faults
  stmts_in b s ts no_stmts i = tt
  stmts_in b s ts (stmts x xs) i =
      join b.site.file ts (stmt_done b s x).faults (stmts_done b (stmt_done b s x).after xs).faults
      (stmt_in b s ts x (into_left (flat_stmt x) (flat_stmts xs) ts i))
      (stmts_in b (stmt_done b s x).after ts xs (into_right (flat_stmt x) (flat_stmts xs) ts i))

  if_in : (b : Body) (s : State) (ts : List Token) (f : PlainIf) → Into (flat_if f) ts
      → AllIn b.site.file ts (if_done b s f).faults
  if_in b s ts (fork at test body other) i =
      let a = into_tail _ _ ts i in
      let c = into_right (flat_expr test) _ ts a in
      let h = judge_in (env_of b s) ts test (into_left (flat_expr test) _ ts a) in
      let mid = (block_done b s body).after in
      join b.site.file ts (judge (env_of b s) test).faults _ h.faults
      (join b.site.file ts (misfit b.site bool (judge (env_of b s) test)) _
      (misfit_in b.site ts bool (judge (env_of b s) test) h.at)
      (join b.site.file ts (block_done b s body).faults (else_done b mid other).faults
      (block_in b s ts body (into_left (flat_block body) (flat_else other) ts c))
      (else_in b mid ts other (into_right (flat_block body) (flat_else other) ts c))))

  else_in : (b : Body) (s : State) (ts : List Token) (x : PlainElse) → Into (flat_else x) ts
      → AllIn b.site.file ts (else_done b s x).faults
  else_in b s ts no_else i = tt
  else_in b s ts (else_block at body) i = block_in b s ts body (into_tail _ (flat_block body) ts i)
  else_in b s ts (else_if at f) i = if_in b s ts f (into_tail _ (flat_if f) ts i)

-- What becomes of a statement keeps the rules.
use Rattle.std.proofs.Common.{◌≡◌, ℕ, ◌+◌, ◌<◌, ◌≤◌, List, [], ◌∷◌, ◌++◌, length, refl, sym, ap, ◌∙◌, subst as transport, arith, true, Option, Some, None}
use Rattle.std.specs.Prelude.{◌&&◌, ◌==◌, nat_lt, slice_get, slice_index}
use Rattle.std.proofs.lemmas.Bool.{lt-ltb, eq-eqb}
use Rattle.std.proofs.lemmas.List.{length-map}
use Rattle.std.proofs.lemmas.Option.{slice_get_within}
use Rattle.type_table.specs.declared.sort.Sort.{Sort}
use Rattle.type_table.specs.declared.sort.Sort.TheVariants.{Ty as of_type}
use Rattle.type_table.specs.TypeOf.{TypeOf, bool, end, tuple}
use Rattle.type_table.specs.Lawful.{one, these, fits}
use Rattle.lar_typed.specs.Exprs.{PlainExpr, label_of}
use Rattle.lar_typed.specs.Stmts.{StepOf, PlainStmt, PlainStmts, let_local, assign, fork, loop, return_nothing, return_value, print, assert, eval, no_stmts, stmts}
use Rattle.lar_typed.specs.Calls.{expr_calls, stmt_calls, stmts_calls}
use Rattle.lar_typed.specs.Size.{stmt_size, stmts_size}
use Rattle.lar_typed.specs.Trees.{PlainFunction}
use Rattle.lar_typed.specs.TreeView.{Contents, plain, IsTypedTree}
use Rattle.lar_typed.specs.Lawful.{Frame, struct_sorts, lawful}
use Rattle.lar_typed.specs.LawfulBody.{steps_fit, stmt_lawful, stmts_lawful}
use Rattle.lar_typed.specs.IsTyped.{frame_of, IsFunction}
use Rattle.lar_typed.specs.Parts.{Has}
use Rattle.lar_typed.proofs.SameTypes.{and_true, both_true, same_means}
use Rattle.lar_typed.proofs.StmtParts.{let_parts, assign_parts, step_parts, fork_parts, loop_parts, nothing_parts, value_parts, print_parts, assert_parts, eval_parts, block_parts}
use Rattle.mono_graph.specs.Instances.{PlainInstance}
use Rattle.unit_input.specs.Exprs.{PlainExpr as UnitExpr}
use Rattle.unit_input.specs.Exprs as unit
use Rattle.unit_input.specs.Stmts.{stmt_total, stmts_total}
use Rattle.unit_input.specs.Widths.{Scope, width, cut}
use Rattle.unit_input.specs.Assertions.{is_truth}
use Rattle.unit_input.specs.Rules.{is_part, is_expr, gives, is_stmt, are_stmts}
use Rattle.closed_input.specs.Places.{words_under, width_under, words_before, words_along, words_to}
use Rattle.closed_input.specs.Bodies.{Setting, closed_expr, closed_stmt, closed_stmts}
use Rattle.closed_input.specs.Unit.{setting_of}
use Rattle.closed_input.specs.Held.{expr_words, stmt_words, stmts_words}
use Rattle.closed_input.proofs.Fitting.{part_fits, listed_fits}
use Rattle.closed_input.proofs.Words.{part_within, words_tuple, words_end, width_int, width_bool}
use Rattle.closed_input.proofs.Callees.{AreNumbered}
use Rattle.closed_input.proofs.Expressed.{front_calls, back_calls, part_keeps, Fitted, local_width, expr_width, expr_keeps}
use Rattle.closed_input.proofs.Asserted.{static_truth}

-- ---- sizes
mutual
  stmt_total_low : (x : Setting) (st : PlainStmt) → stmt_total (closed_stmt x st) ≤ stmt_size st
  stmt_total_low x (let_local n e) = omega arith
  stmt_total_low x (assign n ps e) = omega arith
  stmt_total_low x (fork c a b) =
      let p : stmts_total (closed_stmts x a) ≤ stmts_size a = stmts_total_low x a in
      let q : stmts_total (closed_stmts x b) ≤ stmts_size b = stmts_total_low x b in
      omega arith
  stmt_total_low x (loop c a) = let p : stmts_total (closed_stmts x a) ≤ stmts_size a = stmts_total_low x a in omega arith
  stmt_total_low x return_nothing = omega arith
  stmt_total_low x (return_value e) = omega arith
  stmt_total_low x (print e) = omega arith
  stmt_total_low x (assert e at) = omega arith
  stmt_total_low x (eval e) = omega arith

  pub stmts_total_low : (x : Setting) (ss : PlainStmts) → stmts_total (closed_stmts x ss) ≤ stmts_size ss
  stmts_total_low x no_stmts = omega arith
  stmts_total_low x (stmts st ss) =
      let p : stmt_total (closed_stmt x st) ≤ stmt_size st = stmt_total_low x st in
      let q : stmts_total (closed_stmts x ss) ≤ stmts_size ss = stmts_total_low x ss in
      omega arith

module _ (tree : Contents) (typed : IsTypedTree tree) (f : PlainFunction) (function : IsFunction (plain tree) f) (args : TypeOf) (fit : fits (struct_sorts (plain tree).structs) [] args (these f.generics) ≡ true) (us : List PlainInstance) (s : Scope) (fitted : Fitted tree args us f s) where
  abbrev Sorts : List (List Sort)
  Sorts = struct_sorts (plain tree).structs

  abbrev In : Setting
  In = setting_of tree us args f

  abbrev Fr : Frame
  Fr = frame_of (plain tree) f

  -- the place that steps lead to lies in the local
  steps_within : (u t : TypeOf) (ps : List (StepOf TypeOf)) → fits Sorts f.generics u (one of_type) ≡ true → steps_fit Fr (Some u) ps t ≡ true → words_along tree args u ps + words_under tree args t ≤ words_under tree args u
  steps_within u t [] g h = transport (λ (v : TypeOf). 0 + words_under tree args v ≤ words_under tree args u) (sym (same_means t u h)) (omega arith)
  steps_within u t (p ∷ ps) g h =
      let q = step_parts Fr u p ps t h in
      let here : words_before tree args u p.part + words_under tree args p.of ≤ words_under tree args u = part_within tree args u p.of p.part f.generics typed fit g q.0 in
      let rest : words_along tree args p.of ps + words_under tree args t ≤ words_under tree args p.of = steps_within p.of t ps (part_fits (plain tree) f.generics u p.of p.part typed.typed g q.0) q.1 in
      omega arith

  record AssignWords (n : ℕ) (ps : List (StepOf TypeOf)) (t : TypeOf) : Type 0 where
    room : n < length f.locals
    part : is_part (cut (words_to tree args (slice_get f.locals n) ps)) (width_under tree args t) (slice_index s.locals n) ≡ true

  assign_words : (n : ℕ) (ps : List (StepOf TypeOf)) (t : TypeOf) → steps_fit Fr (slice_get f.locals n) ps t ≡ true → AssignWords n ps t
  assign_words n ps t h = by (slice_get f.locals n) refl h
    where
      by : (o : Option TypeOf) → slice_get f.locals n ≡ o → steps_fit Fr o ps t ≡ true → AssignWords n ps t
      by None e g = cc
      by (Some u) e g =
          let low : words_along tree args u ps + words_under tree args t ≤ words_under tree args u = steps_within u t ps (listed_fits Sorts f.generics f.locals u n function.lawful_locals e) g in
          record {
            room = slice_get_within f.locals n u e;
            part =
                ap (λ (o : Option TypeOf). is_part (cut (words_to tree args o ps)) (width_under tree args t) (slice_index s.locals n)) e
                ∙ ap (is_part (cut (words_along tree args u ps)) (width_under tree args t)) (local_width tree typed f function args fit us s fitted u n e)
                ∙ part_keeps (words_along tree args u ps) (words_under tree args t) (words_under tree args u) low;
          }

  -- an expression of this type gives so many words
  gives_words : (e : PlainExpr) (wide : ℕ) → lawful Fr e ≡ true → AreNumbered us args (expr_calls e) → expr_words (closed_expr In e) ≡ true → width_under tree args (label_of e) ≡ wide → gives s (closed_expr In e) wide ≡ true
  gives_words e wide h c w same =
      both_true (width s (closed_expr In e) == wide) (is_expr s (closed_expr In e)) (eq-eqb (width s (closed_expr In e)) wide (expr_width tree typed f function args fit us s fitted e h c ∙ same)) (expr_keeps tree typed f function args fit us s fitted e h c w)

  gives_bool : (e : PlainExpr) → Has Fr bool e → AreNumbered us args (expr_calls e) → expr_words (closed_expr In e) ≡ true → gives s (closed_expr In e) 1 ≡ true
  gives_bool e p c w = gives_words e 1 p.is_lawful c w (ap (width_under tree args) p.of ∙ width_bool tree args)

  local_room : (n : ℕ) → n < length f.locals → nat_lt n (length s.locals) ≡ true
  local_room n room =
      let len : length s.locals ≡ length f.locals = ap length fitted.locals ∙ length-map f.locals (width_under tree args) in
      lt-ltb n (length s.locals) (omega arith)

  nothing : f.outcome ≡ tuple end → gives s (unit.tuple unit.no_exprs) s.«result» ≡ true
  nothing e = ap (gives s (unit.tuple unit.no_exprs)) (fitted.«result» ∙ ap (width_under tree args) e ∙ ap cut (words_tuple tree args end ∙ words_end tree args))

  mutual
    stmt_keeps : (st : PlainStmt) → stmt_lawful Fr st ≡ true → AreNumbered us args (stmt_calls st) → stmt_words (closed_stmt In st) ≡ true → is_stmt s (closed_stmt In st) ≡ true
    stmt_keeps (let_local n e) h c w =
        let p = let_parts Fr n e h in
        both_true (nat_lt n (length s.locals)) (gives s (closed_expr In e) (slice_index s.locals n)) (local_room n (slice_get_within f.locals n (label_of e) p.0)) (gives_words e (slice_index s.locals n) p.1 c w (sym (local_width tree typed f function args fit us s fitted (label_of e) n p.0)))
    stmt_keeps (assign n ps e) h c w =
        let p = assign_parts Fr n ps e h in
        let q : AssignWords n ps (label_of e) = assign_words n ps (label_of e) p.0 in
        both_true (nat_lt n (length s.locals) && is_part (cut (words_to tree args (slice_get f.locals n) ps)) (width_under tree args (label_of e)) (slice_index s.locals n)) (gives s (closed_expr In e) (width_under tree args (label_of e)))
        (both_true (nat_lt n (length s.locals)) (is_part (cut (words_to tree args (slice_get f.locals n) ps)) (width_under tree args (label_of e)) (slice_index s.locals n)) (local_room n q.room) q.part)
        (gives_words e (width_under tree args (label_of e)) p.1 c w refl)
    stmt_keeps (fork e a b) h c w =
        let p = fork_parts Fr e a b h in
        let v = and_true (expr_words (closed_expr In e)) (stmts_words (closed_stmts In a) && stmts_words (closed_stmts In b)) w in
        let u = and_true (stmts_words (closed_stmts In a)) (stmts_words (closed_stmts In b)) v.1 in
        let d : AreNumbered us args (stmts_calls a ++ stmts_calls b) = back_calls us args (expr_calls e) (stmts_calls a ++ stmts_calls b) c in
        both_true (gives s (closed_expr In e) 1 && are_stmts s (closed_stmts In a)) (are_stmts s (closed_stmts In b))
        (both_true (gives s (closed_expr In e) 1) (are_stmts s (closed_stmts In a)) (gives_bool e p.0 (front_calls us args (expr_calls e) (stmts_calls a ++ stmts_calls b) c) v.0) (stmts_keep a p.1 (front_calls us args (stmts_calls a) (stmts_calls b) d) u.0))
        (stmts_keep b p.2 (back_calls us args (stmts_calls a) (stmts_calls b) d) u.1)
    stmt_keeps (loop e a) h c w =
        let p = loop_parts Fr e a h in
        let v = and_true (expr_words (closed_expr In e)) (stmts_words (closed_stmts In a)) w in
        both_true (gives s (closed_expr In e) 1) (are_stmts s (closed_stmts In a)) (gives_bool e p.0 (front_calls us args (expr_calls e) (stmts_calls a) c) v.0) (stmts_keep a p.1 (back_calls us args (expr_calls e) (stmts_calls a) c) v.1)
    stmt_keeps return_nothing h c w = nothing (nothing_parts Fr h)
    stmt_keeps (return_value e) h c w =
        let p = value_parts Fr e h in
        gives_words e s.«result» p.is_lawful c w (ap (width_under tree args) p.of ∙ sym fitted.«result»)
    stmt_keeps (print e) h c w =
        let p = print_parts Fr e h in
        gives_words e 1 p.is_lawful c w (ap (width_under tree args) p.of ∙ width_int tree args)
    stmt_keeps (assert e at) h c w =
        let p = assert_parts Fr e at h in
        both_true (is_truth (closed_expr In e)) (is_expr s (closed_expr In e)) (static_truth Fr In e (p.0).is_lawful p.1 (p.0).of) (expr_keeps tree typed f function args fit us s fitted e (p.0).is_lawful c w)
    stmt_keeps (eval e) h c w = expr_keeps tree typed f function args fit us s fitted e (eval_parts Fr e h) c w

    pub stmts_keep : (ss : PlainStmts) → stmts_lawful Fr ss ≡ true → AreNumbered us args (stmts_calls ss) → stmts_words (closed_stmts In ss) ≡ true → are_stmts s (closed_stmts In ss) ≡ true
    stmts_keep no_stmts h c w = refl
    stmts_keep (stmts st ss) h c w =
        let p = block_parts Fr st ss h in
        let v = and_true (stmt_words (closed_stmt In st)) (stmts_words (closed_stmts In ss)) w in
        both_true (is_stmt s (closed_stmt In st)) (are_stmts s (closed_stmts In ss)) (stmt_keeps st p.0 (front_calls us args (stmt_calls st) (stmts_calls ss) c) v.0) (stmts_keep ss p.1 (back_calls us args (stmt_calls st) (stmts_calls ss) c) v.1)

-- What is made of a statement is what it is closed to.
use Rattle.std.proofs.Common.{◌≡◌, ℕ, zero, suc, ◌+◌, ◌<◌, ◌^◌, List, [], ◌∷◌, ◌++◌, length, map, get_or, refl, sym, ap, ◌∙◌, subst as transport, arith, true, false, Option, Some, None, option_map}
use Rattle.std.specs.Prelude.{ℤ, slice_get}
use Rattle.std.proofs.lemmas.List.{length-map}
use Rattle.std.proofs.lemmas.Option.{slice_get-map, slice_get_within, get_or_from_slice_get}
use Rattle.type_table.specs.declared.sort.Sort.{Sort}
use Rattle.type_table.specs.declared.sort.Sort.TheVariants.{Ty as of_type}
use Rattle.type_table.specs.TypeOf.{TypeOf}
use Rattle.type_table.specs.Rows.{type_at}
use Rattle.type_table.specs.Lawful.{one, these, fits}
use Rattle.lar_typed.specs.Calls.{CallOf, expr_calls, stmt_calls, stmts_calls}
use Rattle.lar_typed.specs.Exprs.{ExprOf, label_of, expr_map}
use Rattle.lar_typed.specs.Stmts.{StepOf, StmtOf, StmtsOf, let_local, assign, fork, loop, return_nothing, return_value, print, assert, eval, no_stmts, stmts, step_map, stmt_map, stmts_map}
use Rattle.lar_typed.specs.Lawful.{Frame, struct_sorts, lawful}
use Rattle.lar_typed.specs.LawfulBody.{steps_fit, stmt_lawful, stmts_lawful}
use Rattle.lar_typed.specs.IsTyped.{frame_of, IsFunction}
use Rattle.lar_typed.specs.Trees.{FunctionOf, function_map}
use Rattle.lar_typed.specs.TreeView.{Contents, plain, IsTypedTree}
use Rattle.lar_typed.specs.Within.{ExprWithin, StepsWithin, StmtWithin, StmtsWithin, AllBelow}
use Rattle.lar_typed.proofs.StmtParts.{let_parts, assign_parts, step_parts, fork_parts, loop_parts, value_parts, print_parts, assert_parts, eval_parts, block_parts}
use Rattle.mono_graph.specs.Instances.{PlainInstance}
use Rattle.unit_input.specs.Exprs.{PlainExpr as UnitExpr}
use Rattle.unit_input.specs.Stmts.{PlainStmt as UnitStmt, PlainStmts as UnitStmts}
use Rattle.unit_input.specs.Stmts as unit
use Rattle.unit_input.specs.Widths.{cut}
use Rattle.closed_input.specs.Places.{width_under, words_before, words_along, words_to}
use Rattle.closed_input.specs.Bodies.{Setting, closed_expr, closed_stmt, closed_stmts}
use Rattle.closed_input.specs.Unit.{setting_of}
use Rattle.closed_input.proofs.Fitting.{part_fits, listed_fits}
use Rattle.closed_input.proofs.Words.{cut_sum}
use Rattle.unit_close.specs.Sight.{Sight}
use Rattle.unit_close.specs.Made.{width_at, until, along, made_expr, made_stmt, made_stmts}
use Rattle.unit_close.specs.Ready.{Ready, StepsReady, StmtReady, StmtsReady}
use Rattle.unit_close.proofs.Ahead.{Ahead, ahead_front, ahead_past, expr_count_same, stmt_count_same, stmts_count_same}
use Rattle.unit_close.proofs.ExprsClose.{label_map, label_within, sight_in, Known, row_of, place_of, width_same, until_same, label_fit, expr_closes}

below_at : (n : ℕ) (ts : List ℕ) (k r : ℕ) → AllBelow n ts → slice_get ts k ≡ Some r → r < n
below_at n [] k r w h = cc
below_at n (t ∷ ts) zero r w h = let same : t ≡ r = cc in transport (λ (x : ℕ). x < n) same w.0
below_at n (t ∷ ts) (suc k) r w h = below_at n ts k r w.1 h

module _ (tree : Contents) (typed : IsTypedTree tree) (g : FunctionOf ℕ) (function : IsFunction (plain tree) (function_map (type_at tree.rows) g)) (within : AllBelow (length tree.rows) g.locals) (args : TypeOf) (fit : fits (struct_sorts (plain tree).structs) [] args (these g.generics) ≡ true) (us : List PlainInstance) (ws : List ℕ) (ns : List ℤ) (cs : List ℕ) (known : Known tree args ws ns) (small : length g.locals < 2 ^ 32) where
  abbrev T : ℕ → TypeOf
  T = type_at tree.rows

  abbrev Sorts : List (List Sort)
  Sorts = struct_sorts (plain tree).structs

  abbrev In : Setting
  In = setting_of tree us args (function_map (type_at tree.rows) g)

  abbrev X : Sight
  X = sight_in tree g.locals ws ns cs

  abbrev Fr : Frame
  Fr = frame_of (plain tree) (function_map (type_at tree.rows) g)

  abbrev Fit : TypeOf → Type 0
  Fit t = fits Sorts g.generics t (one of_type) ≡ true

  abbrev Calls : ℕ → List (CallOf TypeOf) → Type 0
  Calls i ds = Ahead cs us args i ds

  one_expr : (i : ℕ) (e : ExprOf ℕ) → ExprWithin (length tree.rows) e → lawful Fr (expr_map T e) ≡ true → Calls i (expr_calls (expr_map T e)) → (made_expr X i e ≡ closed_expr In (expr_map T e)) × Ready X i e
  one_expr i e w h c = expr_closes tree typed g function args fit us ws ns cs known small i e w h c

  -- the steps to a place
  steps_close : (r : ℕ) (ps : List (StepOf ℕ)) (t : TypeOf) → r < length tree.rows → Fit (T r) → StepsWithin (length tree.rows) ps → steps_fit Fr (Some (T r)) (map (step_map T) ps) t ≡ true
      → (cut (along X r ps) ≡ cut (words_along tree args (T r) (map (step_map T) ps))) × StepsReady X r ps
  steps_close r [] t l f w h = (refl, tt)
  steps_close r (p ∷ ps) t l f w h =
      let q = step_parts Fr (T r) (step_map T p) (map (step_map T) ps) t h in
      let rest = steps_close p.of ps t w.0 (part_fits (plain tree) g.generics (T r) (T p.of) p.part typed.typed f q.0) w.1 q.1 in (
        cut_sum (until X r p.part) (along X p.of ps) (words_before tree args (T r) p.part) (words_along tree args (T p.of) (map (step_map T) ps)) (until_same tree typed g function args fit us ws ns cs known small r p.part f) rest.0,
        (place_of tree typed g function args fit us ws ns cs known small r l f, rest.1),
      )

  record Assigned (n : ℕ) (ps : List (StepOf ℕ)) : Type 0 where
    room : n < length g.locals
    same : cut (along X (get_or g.locals n 0) ps) ≡ cut (words_to tree args (slice_get (map T g.locals) n) (map (step_map T) ps))
    ready : StepsReady X (get_or g.locals n 0) ps

  assigned : (n : ℕ) (ps : List (StepOf ℕ)) (t : TypeOf) → StepsWithin (length tree.rows) ps → steps_fit Fr (slice_get (map T g.locals) n) (map (step_map T) ps) t ≡ true → Assigned n ps
  assigned n ps t w h = by (slice_get g.locals n) refl
    where
      there : slice_get (map T g.locals) n ≡ option_map T (slice_get g.locals n)
      there = slice_get-map T g.locals n

      by : (o : Option ℕ) → slice_get g.locals n ≡ o → Assigned n ps
      by None e = absurd (no (transport (λ (o : Option TypeOf). steps_fit Fr o (map (step_map T) ps) t ≡ true) (there ∙ ap (option_map T) e) h))
        where
          no : false ≡ true → ⊥
          no z = cc
      by (Some r) e =
          let at : slice_get (map T g.locals) n ≡ Some (T r) = there ∙ ap (option_map T) e in
          let is : get_or g.locals n 0 ≡ r = get_or_from_slice_get g.locals n r 0 e in
          let f : Fit (T r) = listed_fits Sorts g.generics (map T g.locals) (T r) n function.lawful_locals at in
          let q = steps_close r ps t (below_at (length tree.rows) g.locals n r within e) f w (transport (λ (o : Option TypeOf). steps_fit Fr o (map (step_map T) ps) t ≡ true) at h) in
          record {
            room = slice_get_within g.locals n r e;
            same = ap (λ (k : ℕ). cut (along X k ps)) is ∙ q.0 ∙ ap (λ (o : Option TypeOf). cut (words_to tree args o (map (step_map T) ps))) (sym at);
            ready = transport (λ (k : ℕ). StepsReady X k ps) (sym is) q.1;
          }

  mutual
    stmt_closes : (i : ℕ) (s : StmtOf ℕ) → StmtWithin (length tree.rows) s → stmt_lawful Fr (stmt_map T s) ≡ true → Calls i (stmt_calls (stmt_map T s)) → (made_stmt X i s ≡ closed_stmt In (stmt_map T s)) × StmtReady X i s
    stmt_closes i (let_local n e) w h c =
        let q = let_parts Fr n (expr_map T e) h in
        let p = one_expr i e w q.1 c in
        let room : n < length (map T g.locals) = slice_get_within (map T g.locals) n (label_of (expr_map T e)) q.0 in
        let len : length (map T g.locals) ≡ length g.locals = length-map g.locals T in
        (ap (unit.declare n) p.0, (omega arith, p.1))
    stmt_closes i (assign n ps e) w h c =
        let q = assign_parts Fr n (map (step_map T) ps) (expr_map T e) h in
        let p = one_expr i e w.1 q.1 c in
        let a : Assigned n ps = assigned n ps (label_of (expr_map T e)) w.0 q.0 in
        let f : Fit (T (label_of e)) = label_fit tree typed g function args fit us ws ns cs known small e q.1 in
        let room : n < length g.locals = a.room in (
          ap (λ (o : ℕ). unit.assign n o (width_at X (label_of e)) (made_expr X i e)) a.same
              ∙ ap (λ (o : ℕ). unit.assign n (cut (words_to tree args (slice_get (map T g.locals) n) (map (step_map T) ps))) o (made_expr X i e)) (width_same tree typed g function args fit us ws ns cs known small (label_of e) f ∙ ap (width_under tree args) (sym (label_map T e)))
              ∙ ap (unit.assign n (cut (words_to tree args (slice_get (map T g.locals) n) (map (step_map T) ps))) (width_under tree args (label_of (expr_map T e)))) p.0,
          (omega arith, room, a.ready, row_of tree typed g function args fit us ws ns cs known small (label_of e) (label_within (length tree.rows) e w.1) f, p.1),
        )
    stmt_closes i (fork e a b) w h c =
        let q = fork_parts Fr (expr_map T e) (stmts_map T a) (stmts_map T b) h in
        let d : Calls (i + length (expr_calls e)) (stmts_calls (stmts_map T a) ++ stmts_calls (stmts_map T b)) = ahead_past cs us args i (length (expr_calls e)) (expr_calls (expr_map T e)) (stmts_calls (stmts_map T a) ++ stmts_calls (stmts_map T b)) (expr_count_same T e) c in
        let p = one_expr i e w.0 (q.0).is_lawful (ahead_front cs us args i (expr_calls (expr_map T e)) (stmts_calls (stmts_map T a) ++ stmts_calls (stmts_map T b)) c) in
        let pa = stmts_close (i + length (expr_calls e)) a w.1 q.1 (ahead_front cs us args (i + length (expr_calls e)) (stmts_calls (stmts_map T a)) (stmts_calls (stmts_map T b)) d) in
        let pb = stmts_close (i + length (expr_calls e) + length (stmts_calls a)) b w.2 q.2 (ahead_past cs us args (i + length (expr_calls e)) (length (stmts_calls a)) (stmts_calls (stmts_map T a)) (stmts_calls (stmts_map T b)) (stmts_count_same T a) d) in (
          ap (λ (y : UnitExpr). unit.fork y (made_stmts X (i + length (expr_calls e)) a) (made_stmts X (i + length (expr_calls e) + length (stmts_calls a)) b)) p.0
              ∙ ap (λ (y : UnitStmts). unit.fork (closed_expr In (expr_map T e)) y (made_stmts X (i + length (expr_calls e) + length (stmts_calls a)) b)) pa.0
              ∙ ap (unit.fork (closed_expr In (expr_map T e)) (closed_stmts In (stmts_map T a))) pb.0,
          (p.1, pa.1, pb.1),
        )
    stmt_closes i (loop e a) w h c =
        let q = loop_parts Fr (expr_map T e) (stmts_map T a) h in
        let p = one_expr i e w.0 (q.0).is_lawful (ahead_front cs us args i (expr_calls (expr_map T e)) (stmts_calls (stmts_map T a)) c) in
        let pa = stmts_close (i + length (expr_calls e)) a w.1 q.1 (ahead_past cs us args i (length (expr_calls e)) (expr_calls (expr_map T e)) (stmts_calls (stmts_map T a)) (expr_count_same T e) c) in
        (ap (λ (y : UnitExpr). unit.loop y (made_stmts X (i + length (expr_calls e)) a)) p.0 ∙ ap (unit.loop (closed_expr In (expr_map T e))) pa.0, (p.1, pa.1))
    stmt_closes i return_nothing w h c = (refl, tt)
    stmt_closes i (return_value e) w h c = let p = one_expr i e w (value_parts Fr (expr_map T e) h).is_lawful c in (ap unit.give p.0, p.1)
    stmt_closes i (print e) w h c = let p = one_expr i e w (print_parts Fr (expr_map T e) h).is_lawful c in (ap unit.print p.0, p.1)
    stmt_closes i (assert e at) w h c = let p = one_expr i e w ((assert_parts Fr (expr_map T e) at h).0).is_lawful c in (ap unit.assert p.0, p.1)
    stmt_closes i (eval e) w h c = let p = one_expr i e w (eval_parts Fr (expr_map T e) h) c in (ap unit.eval p.0, p.1)

    pub stmts_close : (i : ℕ) (ss : StmtsOf ℕ) → StmtsWithin (length tree.rows) ss → stmts_lawful Fr (stmts_map T ss) ≡ true → Calls i (stmts_calls (stmts_map T ss)) → (made_stmts X i ss ≡ closed_stmts In (stmts_map T ss)) × StmtsReady X i ss
    stmts_close i no_stmts w h c = (refl, tt)
    stmts_close i (stmts s ss) w h c =
        let q = block_parts Fr (stmt_map T s) (stmts_map T ss) h in
        let p = stmt_closes i s w.0 q.0 (ahead_front cs us args i (stmt_calls (stmt_map T s)) (stmts_calls (stmts_map T ss)) c) in
        let r = stmts_close (i + length (stmt_calls s)) ss w.1 q.1 (ahead_past cs us args i (length (stmt_calls s)) (stmt_calls (stmt_map T s)) (stmts_calls (stmts_map T ss)) (stmt_count_same T s) c) in
        (ap (λ (y : UnitStmt). unit.stmts y (made_stmts X (i + length (stmt_calls s)) ss)) p.0 ∙ ap (unit.stmts (closed_stmt In (stmt_map T s))) r.0, (p.1, r.1))

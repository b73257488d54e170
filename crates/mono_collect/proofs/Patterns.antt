-- The patterns of a function's calls are those of its instances.
use Rattle.std.proofs.Common.{◌≡◌, ℕ, zero, suc, ◌<◌, List, [], ◌∷◌, length, map, get_or, refl, sym, ap, ◌∙◌, subst as transport, arith}
use Rattle.std.specs.List.{AllByRecursion}
use Rattle.std.proofs.lemmas.List.{length-map, get_or_default}
use Rattle.type_table.specs.declared.row.Row.{Row}
use Rattle.type_table.specs.TypeOf.{TypeOf}
use Rattle.type_table.specs.Rows.{type_at}
use Rattle.lar_typed.specs.declared.tree.TypedFunction.{TypedFunction}
use Rattle.lar_typed.specs.Calls.{CallOf, stmts_calls}
use Rattle.lar_typed.specs.IsTyped.{signature_of, frame_of}
use Rattle.lar_typed.specs.Stmts.{stmts_map}
use Rattle.lar_typed.specs.StmtView.{stmts_view}
use Rattle.lar_typed.specs.Trees.{PlainFunction, function_map}
use Rattle.lar_typed.specs.TreeView.{Contents, IsTypedTree, function_view, plain}
use Rattle.lar_typed.specs.Within.{FunctionWithin, FunctionsWithin}
use Rattle.mono_items.specs.declared.items.Instance.{Instance}
use Rattle.mono_bodies.specs.declared.calls.PatternCall.{PatternCall}
use Rattle.mono_bodies.specs.Patterns.{call_view}
use Rattle.mono_graph.specs.Instances.{call_under, calls_under, calls_of}
use Rattle.mono_graph.proofs.Calls.{call_map, stmts_calls_map, Below, stmts_below}
use Rattle.mono_graph.proofs.LawfulCalls.{LawfulCalls, stmts_lawful_calls}
use Rattle.mono_collect.specs.declared.bodies.Body.{Body}
use Rattle.mono_collect.specs.Arguments.{call_by}
use Rattle.mono_collect.specs.Bodies.{PlainBody, body_view, body_of}
use Rattle.mono_collect.specs.States.{ArePatterns}
use Rattle.mono_collect.proofs.Itemised.{plain_at, body_at, typed_at}

within_at : (n : ℕ) (fs : List TypedFunction) (k : ℕ) (d : TypedFunction) → FunctionsWithin n (map function_view fs) → k < length fs → FunctionWithin n (function_view (get_or fs k d))
within_at n [] k d h l = absurd (omega arith)
within_at n (f ∷ fs) zero d h l = h.0
within_at n (f ∷ fs) (suc k) d h l = within_at n fs k d h.1 (omega arith)

generics_below : (n : ℕ) (cs : List PatternCall) → Below n (map call_view cs) → AllByRecursion (λ c. c.generics < n) cs
generics_below n [] h = tt
generics_below n (c ∷ cs) h = (h.0, generics_below n cs h.1)

callees_below : (n : ℕ) (g : ℕ → TypeOf) (cs : List PatternCall) → AllByRecursion (λ c. c.callee < n) (map (call_map g) (map call_view cs)) → AllByRecursion (λ c. c.callee < n) cs
callees_below n g [] h = tt
callees_below n g (c ∷ cs) h = (h.0, callees_below n g cs h.1)

lawful_there : (tree : Contents) (f : PlainFunction) (n : ℕ) (cs : List (CallOf TypeOf)) → length (map signature_of (plain tree).functions) ≡ n → LawfulCalls (frame_of (plain tree) f) cs → AllByRecursion (λ c. c.callee < n) cs
lawful_there tree f n [] e h = tt
lawful_there tree f n (c ∷ cs) e h = (transport (λ (m : ℕ). c.callee < m) e (h.0).there, lawful_there tree f n cs e h.1)

patterns_by : (rows : List Row) (arguments : ℕ) (cs : List PatternCall) → map (call_under (type_at rows arguments)) (map (call_map (type_at rows)) (map call_view cs)) ≡ map (call_by rows arguments) cs
patterns_by rows arguments [] = refl
patterns_by rows arguments (c ∷ cs) = ap (λ (xs : List (CallOf TypeOf)). call_by rows arguments c ∷ xs) (patterns_by rows arguments cs)

pub patterns_are : (tree : Contents) (bodies : List Body) (x : Instance) (b : Body) (calls : List PatternCall) → IsTypedTree tree → map body_view bodies ≡ map body_of tree.functions → x.function < length tree.functions → b ≡ get_or bodies x.function b → calls ≡ b.calls.items → ArePatterns tree x calls
unfolding calls_of
patterns_are tree bodies x b calls typed are there is same = by tree.functions refl
  where
    with_function : (f : TypedFunction) → f ≡ get_or tree.functions x.function f → ArePatterns tree x calls
    with_function f eq =
        let g : ℕ → TypeOf = type_at tree.rows in
        let pf : PlainFunction = function_map g (function_view f) in
        let cs : map call_view calls ≡ stmts_calls (stmts_view f.body) = ap (map call_view) same ∙ ap (λ (y : PlainBody). y.calls) (body_at bodies tree.functions x.function b f are there is eq) in
        let mapped : stmts_calls (stmts_map g (stmts_view f.body)) ≡ map (call_map g) (map call_view calls) = stmts_calls_map g (stmts_view f.body) ∙ ap (map (call_map g)) (sym cs) in
        let len : length (map signature_of (plain tree).functions) ≡ length tree.functions = length-map (plain tree).functions signature_of ∙ length-map (map function_view tree.functions) (function_map g) ∙ length-map tree.functions function_view in
        let lawful : LawfulCalls (frame_of (plain tree) pf) (stmts_calls (stmts_map g (stmts_view f.body))) = stmts_lawful_calls (frame_of (plain tree) pf) (stmts_map g (stmts_view f.body)) (typed_at tree x.function f typed there eq).lawful_body in
        let at : FunctionWithin (length tree.rows) (function_view f) = transport (λ (h : TypedFunction). FunctionWithin (length tree.rows) (function_view h)) (sym eq) (within_at (length tree.rows) tree.functions x.function f (typed.within).1 there) in
        record {
          callees = callees_below (length tree.functions) g calls (transport (λ (xs : List (CallOf TypeOf)). AllByRecursion (λ (c : CallOf TypeOf). c.callee < length tree.functions) xs) mapped (lawful_there tree pf (length tree.functions) (stmts_calls (stmts_map g (stmts_view f.body))) len lawful));
          generics = generics_below (length tree.rows) calls (transport (Below (length tree.rows)) (sym cs) (stmts_below (length tree.rows) (stmts_view f.body) at.2));
          are = ap (calls_under (type_at tree.rows x.arguments)) (plain_at tree x.function f there eq) ∙ ap (map (call_under (type_at tree.rows x.arguments))) mapped ∙ patterns_by tree.rows x.arguments calls;
        }

    by : (gs : List TypedFunction) → gs ≡ tree.functions → ArePatterns tree x calls
    by [] e = absurd (let l : 0 ≡ length tree.functions = ap length e in omega arith)
    by (d ∷ gs) e = with_function (get_or tree.functions x.function d) (get_or_default tree.functions x.function d (get_or tree.functions x.function d) there)

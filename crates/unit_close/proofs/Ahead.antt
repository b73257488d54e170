-- The numbers of the calls that are still to come.
use Rattle.std.proofs.Common.{◌≡◌, ℕ, ◌+◌, ◌<◌, List, [], ◌∷◌, ◌++◌, length, get_or, ap, ◌∙◌, subst as transport, arith}
use Rattle.std.proofs.lemmas.List.{length-map}
use Rattle.type_table.specs.TypeOf.{TypeOf}
use Rattle.lar_typed.specs.Calls.{CallOf, expr_calls, stmt_calls, stmts_calls}
use Rattle.lar_typed.specs.Exprs.{ExprOf, expr_map}
use Rattle.lar_typed.specs.Stmts.{StmtOf, StmtsOf, stmt_map, stmts_map}
use Rattle.mono_graph.specs.Instances.{PlainInstance, target, call_under}
use Rattle.mono_graph.proofs.Calls.{call_map, expr_calls_map, stmt_calls_map, stmts_calls_map}
use Rattle.closed_input.specs.Bodies.{number_in}

-- from number i on stand the numbers of these calls
abbrev pub Ahead : List ℕ → List PlainInstance → TypeOf → ℕ → List (CallOf TypeOf) → Type 0
Ahead ns us args i [] = Unit {0}
Ahead ns us args i (c ∷ cs) = (i < length ns) × (get_or ns i 0 ≡ number_in us (target (call_under args c))) × Ahead ns us args (i + 1) cs

pub ahead_front : (ns : List ℕ) (us : List PlainInstance) (args : TypeOf) (i : ℕ) (cs ds : List (CallOf TypeOf)) → Ahead ns us args i (cs ++ ds) → Ahead ns us args i cs
ahead_front ns us args i [] ds h = tt
ahead_front ns us args i (c ∷ cs) ds h = (h.0, h.1, ahead_front ns us args (i + 1) cs ds h.2)

pub ahead_back : (ns : List ℕ) (us : List PlainInstance) (args : TypeOf) (i : ℕ) (cs ds : List (CallOf TypeOf)) → Ahead ns us args i (cs ++ ds) → Ahead ns us args (i + length cs) ds
ahead_back ns us args i [] ds h = transport (λ (n : ℕ). Ahead ns us args n ds) (omega arith) h
ahead_back ns us args i (c ∷ cs) ds h = transport (λ (n : ℕ). Ahead ns us args n ds) (omega arith) (ahead_back ns us args (i + 1) cs ds h.2)

-- behind calls of a part whose labels are replaced
pub ahead_past : (ns : List ℕ) (us : List PlainInstance) (args : TypeOf) (i n : ℕ) (cs ds : List (CallOf TypeOf)) → length cs ≡ n → Ahead ns us args i (cs ++ ds) → Ahead ns us args (i + n) ds
ahead_past ns us args i n cs ds e h = transport (λ (m : ℕ). Ahead ns us args (i + m) ds) e (ahead_back ns us args i cs ds h)

pub expr_count_same : (g : ℕ → TypeOf) (e : ExprOf ℕ) → length (expr_calls (expr_map g e)) ≡ length (expr_calls e)
expr_count_same g e = ap length (expr_calls_map g e) ∙ length-map (expr_calls e) (call_map g)

pub stmt_count_same : (g : ℕ → TypeOf) (s : StmtOf ℕ) → length (stmt_calls (stmt_map g s)) ≡ length (stmt_calls s)
stmt_count_same g s = ap length (stmt_calls_map g s) ∙ length-map (stmt_calls s) (call_map g)

pub stmts_count_same : (g : ℕ → TypeOf) (ss : StmtsOf ℕ) → length (stmts_calls (stmts_map g ss)) ≡ length (stmts_calls ss)
stmts_count_same g ss = ap length (stmts_calls_map g ss) ∙ length-map (stmts_calls ss) (call_map g)

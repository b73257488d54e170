-- Lists of statements that grow at their end.
use Rattle.std.proofs.Common.{◌≡◌, ℕ, ◌+◌, ◌<◌, List, [], ◌∷◌, ◌++◌, length, map, take, get_or, refl, sym, ap, ◌∙◌, append_assoc, Option, Some, None}
use Rattle.std.proofs.lemmas.List.{map_more}
use Rattle.type_table.specs.declared.row.Row.{Row}
use Rattle.type_table.specs.Rows.{type_at}
use Rattle.lar_typed.specs.declared.stmt.TypedStmt.{TypedStmt}
use Rattle.lar_typed.specs.Stmts as typed
use Rattle.lar_typed.specs.Stmts.{PlainStmts, stmt_map, stmts_map}
use Rattle.lar_typed.specs.StmtView.{stmt_view as typed_view, stmts_view as typed_views}
use Rattle.lar_typed.specs.Within.{StmtWithin, StmtsWithin}
use Rattle.lar_tree.specs.declared.stmt.Stmt.{Stmt}
use Rattle.lar_tree.specs.Stmts.{PlainStmt}
use Rattle.lar_tree.specs.StmtView.{stmt_view, stmts_view, stmts_of}
use Rattle.lar_rules.specs.Fault.{Fault}
use Rattle.lar_rules.specs.Bodies.{Body, State, Done, stmt_done, stmts_done, then_stmt}
use Rattle.lar_bodies.specs.Walks.{one_last, then_last}

push_in : (rows : List Row) (ss : List TypedStmt) (s : TypedStmt) → stmts_map (type_at rows) (typed_views (ss ++ s ∷ [])) ≡ one_last (stmts_map (type_at rows) (typed_views ss)) (stmt_map (type_at rows) (typed_view s))
push_in rows [] s = refl
push_in rows (x ∷ ss) s = ap (typed.stmts (stmt_map (type_at rows) (typed_view x))) (push_in rows ss s)

push_within : (n : ℕ) (ss : List TypedStmt) (s : TypedStmt) → StmtsWithin n (typed_views ss) → StmtWithin n (typed_view s) → StmtsWithin n (typed_views (ss ++ s ∷ []))
push_within n [] s w v = (v, tt)
push_within n (x ∷ ss) s w v = (w.0, push_within n ss s w.1 v)

pub then_in : (rows : List Row) (ss ts : List TypedStmt) (s : TypedStmt) → ts ≡ ss ++ s ∷ [] → stmts_map (type_at rows) (typed_views ts) ≡ one_last (stmts_map (type_at rows) (typed_views ss)) (stmt_map (type_at rows) (typed_view s))
then_in rows ss ts s is = ap (λ (xs : List TypedStmt). stmts_map (type_at rows) (typed_views xs)) is ∙ push_in rows ss s

pub then_within : (n : ℕ) (ss ts : List TypedStmt) (s : TypedStmt) → ts ≡ ss ++ s ∷ [] → StmtsWithin n (typed_views ss) → StmtWithin n (typed_view s) → StmtsWithin n (typed_views ts)
then_within n ss ts s is w v = rw is (push_within n ss s w v)

last_none : (x : Option typed.PlainStmt) → then_stmt x (Some typed.no_stmts) ≡ then_last (Some typed.no_stmts) x
last_none None = refl
last_none (Some x) = refl

typed_last : (y : Option typed.PlainStmt) (ss : Option PlainStmts) (x : Option typed.PlainStmt) → then_stmt y (then_last ss x) ≡ then_last (then_stmt y ss) x
typed_last (Some y) (Some ss) (Some x) = refl
typed_last (Some y) (Some ss) None = refl
typed_last (Some y) None x = refl
typed_last None (Some ss) (Some x) = refl
typed_last None (Some ss) None = refl
typed_last None None x = refl

none_more : (xs : List Fault) → xs ++ [] ≡ xs
none_more [] = refl
none_more (x ∷ xs) = ap (λ (ys : List Fault). x ∷ ys) (none_more xs)

-- statements and one more
abbrev pub and_then : Done PlainStmts → Done typed.PlainStmt → Done PlainStmts
and_then d x = record { typed = then_last d.typed x.typed; faults = d.faults ++ x.faults; after = x.after }

abbrev done_of : Option PlainStmts → List Fault → State → Done PlainStmts
done_of t fs after = record { typed = t; faults = fs; after = after }

sequel_is : (y : Option typed.PlainStmt) (ys : List Fault) (ss : Option PlainStmts) (fs : List Fault) (x : Option typed.PlainStmt) (gs : List Fault) (after : State) (whole : Done PlainStmts) → whole ≡ done_of (then_last ss x) (fs ++ gs) after
    → done_of (then_stmt y whole.typed) (ys ++ whole.faults) whole.after ≡ done_of (then_last (then_stmt y ss) x) ((ys ++ fs) ++ gs) after
sequel_is y ys ss fs x gs after whole e =
    ap (λ (d : Done PlainStmts). done_of (then_stmt y d.typed) (ys ++ d.faults) d.after) e
    ∙ ap (λ t. done_of t (ys ++ (fs ++ gs)) after) (typed_last y ss x)
    ∙ ap (λ f. done_of (then_last (then_stmt y ss) x) f after) (sym (append_assoc ys fs gs))

pub done_last : (b : Body) (s : State) (xs : List PlainStmt) (x : PlainStmt) → stmts_done b s (stmts_of (xs ++ x ∷ [])) ≡ and_then (stmts_done b s (stmts_of xs)) (stmt_done b (stmts_done b s (stmts_of xs)).after x)
done_last b s [] x =
    ap (λ t. done_of t ((stmt_done b s x).faults ++ []) (stmt_done b s x).after) (last_none (stmt_done b s x).typed)
    ∙ ap (λ f. done_of (then_last (Some typed.no_stmts) (stmt_done b s x).typed) f (stmt_done b s x).after) (none_more (stmt_done b s x).faults)
done_last b s (y ∷ ys) x =
    let one = stmt_done b s y in
    let rest = stmts_done b one.after (stmts_of ys) in
    let last = stmt_done b rest.after x in
    sequel_is one.typed one.faults rest.typed rest.faults last.typed last.faults last.after (stmts_done b one.after (stmts_of (ys ++ x ∷ []))) (done_last b one.after ys x)

-- one statement further in the loop over them
pub done_more : (b : Body) (s : State) (xs : List Stmt) (i : ℕ) (x : Stmt) → i < length xs → x ≡ get_or xs i x
    → stmts_done b s (stmts_view (take (i + 1) xs)) ≡ and_then (stmts_done b s (stmts_view (take i xs))) (stmt_done b (stmts_done b s (stmts_view (take i xs))).after (stmt_view x))
done_more b s xs i x h at =
    ap (λ ys. stmts_done b s (stmts_of ys)) (map_more stmt_view xs i x h) ∙ ap (λ (y : Stmt). stmts_done b s (stmts_of (map stmt_view (take i xs) ++ stmt_view y ∷ []))) (sym at)
    ∙ done_last b s (map stmt_view (take i xs)) (stmt_view x)

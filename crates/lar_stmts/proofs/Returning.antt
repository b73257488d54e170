-- `return`, and blocks that return.
use Rattle.std.proofs.Common.{◌≡◌, ℕ, zero, suc, ◌+◌, ◌<◌, ◌≤◌, List, [], ◌∷◌, length, drop, get_or, refl, sym, ap, ◌∙◌, arith, Bool, true, false, Option, Some, None}
use Rattle.std.specs.Prelude.{if◌then◌else◌, ◌||◌, option_map}
use Rattle.std.proofs.lemmas.List.{drop_more}
use Rattle.lar_source.specs.declared.file.Span.{Span}
use Rattle.type_table.specs.declared.row.Row.{Row}
use Rattle.type_table.specs.declared.row.Row.TheVariants.{Tuple}
use Rattle.type_table.specs.TypeOf.{TypeOf, end, tuple}
use Rattle.type_table.specs.Rows.{type_at, type_of, types, Stands}
use Rattle.lar_typed.specs.SameType.{same_type}
use Rattle.lar_tree.specs.declared.expr.Expr.{Expr}
use Rattle.lar_tree.specs.declared.stmt.Stmt.{Stmt}
use Rattle.lar_tree.specs.ExprView.{expr_view}
use Rattle.lar_tree.specs.StmtView.{stmt_view, stmts_view}
use Rattle.lar_rules.specs.Fault.{Fault, kept, least}
use Rattle.lar_rules.specs.Written.{Site}
use Rattle.lar_rules.specs.Judged.{other_type}
use Rattle.lar_rules.specs.Bodies.{Body, State, return_misfit, return_done, stmt_returns, stmts_return}
use Rattle.lar_judge.specs.Known.{type_if}
use Rattle.lar_judge.proofs.Least.{least_none, least_one}
use Rattle.lar_stmts.specs.States.{body_in}

-- the tuple of no types
pub unit_stands : (mid new : List Row) (none n : ℕ) → Stands mid none end → Stands new n (type_of (types mid) (Tuple none)) → Stands new n (tuple end)
unfolding type_at
unit_stands mid new none n s t = record { within = t.within; is = t.is ∙ ap tuple s.is }

pub unit_told : (b : Body) (at : Span) (t u v : TypeOf) (best : Option Fault) (r : Bool) → r ≡ true → r ≡ same_type u v → u ≡ tuple end → v ≡ t → best ≡ least best (return_misfit b at (Some t))
unit_told b at t u v best r holds is unit same =
    sym (least_none best) ∙ ap (λ (x : Bool). least best (if x then [] else other_type b.site at t (tuple end) ∷ [])) (sym holds ∙ is ∙ ap (λ x. same_type x v) unit ∙ ap (same_type (tuple end)) same)

pub other_told : (b : Body) (at : Span) (t u v : TypeOf) (best now : Option Fault) (r : Bool) → r ≡ false → r ≡ same_type u v → u ≡ tuple end → v ≡ t → now ≡ kept best (other_type b.site at v u) → now ≡ least best (return_misfit b at (Some t))
other_told b at t u v best now r fails is unit same n =
    n ∙ ap (λ x. kept best (other_type b.site at x u)) same ∙ ap (λ x. kept best (other_type b.site at t x)) unit ∙ sym (least_one best (other_type b.site at t (tuple end)))
    ∙ ap (λ (x : Bool). least best (if x then [] else other_type b.site at t (tuple end) ∷ [])) (sym fails ∙ is ∙ ap (λ x. same_type x v) unit ∙ ap (same_type (tuple end)) same)

pub nothing_told : (rows : List Row) (site : Site) (outcome : Option ℕ) (s : State) (at : Span) (value : Option Expr) (best : Option Fault) → value ≡ None → outcome ≡ None
    → best ≡ least best (return_done (body_in rows site outcome) s at (option_map expr_view value)).faults
nothing_told rows site outcome s at value best e f =
    sym (least_none best) ∙ ap (λ (o : Option ℕ). least best (return_misfit (body_in rows site o) at (type_if rows o))) (sym f)
    ∙ ap (λ (v : Option Expr). least best (return_done (body_in rows site outcome) s at (option_map expr_view v)).faults) (sym e)

-- BLOCKS

here_returns : (xs : List Stmt) (i : ℕ) (x : Stmt) → i < length xs → x ≡ get_or xs i x → stmts_return (stmts_view (drop i xs)) ≡ (stmt_returns (stmt_view x) || stmts_return (stmts_view (drop (i + 1) xs)))
here_returns xs i x h at = ap (λ (ys : List Stmt). stmts_return (stmts_view ys)) (drop_more xs i x h ∙ ap (λ (y : Stmt). y ∷ drop (i + 1) xs) (sym at))

pub one_returns : (xs : List Stmt) (i : ℕ) (x : Stmt) (b whole : Bool) → i < length xs → x ≡ get_or xs i x → b ≡ stmt_returns (stmt_view x) → b ≡ true → stmts_return (stmts_view (drop i xs)) ≡ whole → true ≡ whole
one_returns xs i x b whole h at is holds so = sym (here_returns xs i x h at ∙ ap (λ (y : Bool). y || stmts_return (stmts_view (drop (i + 1) xs))) (sym is ∙ holds)) ∙ so

pub one_further : (xs : List Stmt) (i : ℕ) (x : Stmt) (b whole : Bool) → i < length xs → x ≡ get_or xs i x → b ≡ stmt_returns (stmt_view x) → b ≡ false → stmts_return (stmts_view (drop i xs)) ≡ whole → stmts_return (stmts_view (drop (i + 1) xs)) ≡ whole
one_further xs i x b whole h at is fails so = sym (here_returns xs i x h at ∙ ap (λ (y : Bool). y || stmts_return (stmts_view (drop (i + 1) xs))) (sym is ∙ fails)) ∙ so

drop_past : {A : Type 0} (xs : List A) (n : ℕ) → length xs ≤ n → drop n xs ≡ []
drop_past [] zero h = refl
drop_past [] (suc n) h = refl
drop_past (x ∷ xs) zero h = absurd (omega arith)
drop_past (x ∷ xs) (suc n) h = drop_past xs n (omega arith)

pub none_returns : (xs : List Stmt) (i : ℕ) (whole : Bool) → length xs ≤ i → stmts_return (stmts_view (drop i xs)) ≡ whole → false ≡ whole
none_returns xs i whole h so = ap (λ (ys : List Stmt). stmts_return (stmts_view ys)) (sym (drop_past xs i h)) ∙ so

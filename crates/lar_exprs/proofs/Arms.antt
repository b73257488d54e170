-- The rules with what the walk knows of their parts.
use Rattle.std.proofs.Common.{◌≡◌, ℤ, List, [], ◌∷◌, ◌++◌, map, Option, Some, Result, Ok, Err, OnOk, refl, sym, ap, ◌∙◌}
use Rattle.lar_source.specs.declared.file.Span.{Span}
use Rattle.type_table.specs.declared.row.Row.{Row}
use Rattle.type_table.specs.Rows.{Keeps}
use Rattle.lar_tree.specs.declared.commas.Commas.{Commas}
use Rattle.lar_tree.specs.declared.commas.Member.{Member}
use Rattle.lar_tree.specs.declared.expr.Expr.{Expr}
use Rattle.lar_tree.specs.declared.expr.Expr.TheVariants as expr
use Rattle.lar_tree.specs.declared.expr.Selector.{Selector}
use Rattle.lar_tree.specs.declared.expr.Unary.{Unary}
use Rattle.lar_tree.specs.declared.expr.Binary.{Binary}
use Rattle.lar_tree.specs.PlainLists.{values}
use Rattle.lar_tree.specs.Commas.{member_map}
use Rattle.lar_tree.specs.Exprs.{PlainExpr}
use Rattle.lar_tree.specs.ExprView.{expr_view, parts_view, more_parts}
use Rattle.lar_rules.specs.Fault.{Fault, least}
use Rattle.lar_rules.specs.Judged.{Env, all_faults}
use Rattle.lar_rules.specs.Judged as rules
use Rattle.lar_rules.specs.Exprs.{judge, judge_parts, judge_more, judged_unary, judged_binary, judged_field, judged_paren}
use Rattle.lar_judge.specs.declared.judged.Judged.{Judged}
use Rattle.lar_judge.specs.Known.{known, silent, Knows}
use Rattle.lar_judge.specs.Lists.{knowns}
use Rattle.lar_judge.proofs.Kept.{knows_kept}
use Rattle.lar_judge.proofs.Least.{least_none}
use Rattle.lar_judge.proofs.Operands.{told_two}
use Rattle.lar_judge.proofs.SilentRules.{unary_faults, unary_same, binary_faults, binary_same, bracket_faults, bracket_same, field_faults, field_same}
use Rattle.lar_exprs.specs.Walks.{judged, judged_list, member_exprs, AllKnown}
use Rattle.lar_exprs.proofs.Views.{number_view, truth_view, untruth_view, paren_view, field_view, unary_view, binary_view}

pub ok_always : {T E P : Type 0} (r : Result T E) → P → OnOk r P
ok_always (Ok x) p = p
ok_always (Err e) p = tt

judge_same : (env : Env) (e : Expr) (p : PlainExpr) → expr_view e ≡ p → judge env p ≡ judge env (expr_view e)
judge_same env e p is = ap (judge env) (sym is)

pub number_told : (env : Env) (e : Expr) (v : ℤ) (at : Span) (best : Option Fault) → e ≡ expr.Number v at → best ≡ least best (judge env (expr_view e)).faults
number_told env e v at best is = sym (least_none best) ∙ ap (λ d. least best d.faults) (judge_same env e _ (ap expr_view is ∙ number_view v at))

pub truth_told : (env : Env) (e : Expr) (at : Span) (best : Option Fault) → e ≡ expr.True at → best ≡ least best (judge env (expr_view e)).faults
truth_told env e at best is = sym (least_none best) ∙ ap (λ d. least best d.faults) (judge_same env e _ (ap expr_view is ∙ truth_view at))

pub untruth_told : (env : Env) (e : Expr) (at : Span) (best : Option Fault) → e ≡ expr.False at → best ≡ least best (judge env (expr_view e)).faults
untruth_told env e at best is = sym (least_none best) ∙ ap (λ d. least best d.faults) (judge_same env e _ (ap expr_view is ∙ untruth_view at))

-- what is known of the parts, without their faults, gives what is known of the whole
pub whole_known : (rows : List Row) (r : Judged) (part whole : rules.Judged) → Knows rows r part → silent part ≡ silent whole → Knows rows r whole
whole_known rows r part whole h e = record { within = h.within; is = h.is ∙ e }

-- first the faults of the parts, then those of the rule
pub whole_told : (best mid now : Option Fault) (head tail whole : List Fault) → mid ≡ least best head → now ≡ least mid tail → whole ≡ head ++ tail → now ≡ least best whole
whole_told best mid now head tail whole m n e = told_two best mid now head tail m n ∙ ap (least best) (sym e)

pub unary_known : (mid new : List Row) (env : Env) (e inner : Expr) (op : Unary) (at : Span) (j r : Judged) → e ≡ expr.Unary op at inner → Knows mid j (judged env inner) → Knows new r (judged_unary env op at (known mid j)) → Knows new r (judge env (expr_view e))
unary_known mid new env e inner op at j r is h k =
    let d : rules.Judged = judged env inner in
    whole_known new r _ _ k (ap (λ x. silent (judged_unary env op at x)) h.is ∙ unary_same env op at d ∙ ap silent (judge_same env e _ (ap expr_view is ∙ unary_view op at inner)))

pub unary_told : (rows : List Row) (env : Env) (e inner : Expr) (op : Unary) (at : Span) (j : Judged) (best mid now : Option Fault) → e ≡ expr.Unary op at inner → Knows rows j (judged env inner) → mid ≡ least best (judged env inner).faults
    → now ≡ least mid (judged_unary env op at (known rows j)).faults → now ≡ least best (judge env (expr_view e)).faults
unary_told rows env e inner op at j best mid now is h m n =
    let d : rules.Judged = judged env inner in
    whole_told best mid now d.faults _ _ m (n ∙ ap (λ x. least mid (judged_unary env op at x).faults) h.is) (sym (ap (λ x. x.faults) (judge_same env e _ (ap expr_view is ∙ unary_view op at inner))) ∙ unary_faults env op at d)

pub field_known : (mid new : List Row) (env there : Env) (e inner : Expr) (dot : Span) (s : Selector) (j r : Judged) → there ≡ env → e ≡ expr.Field inner dot s → Knows mid j (judged env inner) → Knows new r (judged_field there (known mid j) s) → Knows new r (judge env (expr_view e))
field_known mid new env there e inner dot s j r same is h k =
    let d : rules.Judged = judged env inner in
    whole_known new r _ _ k (ap (λ x. silent (judged_field x (known mid j) s)) same ∙ ap (λ x. silent (judged_field env x s)) h.is ∙ field_same env d s ∙ ap silent (judge_same env e _ (ap expr_view is ∙ field_view inner dot s)))

pub field_told : (rows : List Row) (env there : Env) (e inner : Expr) (dot : Span) (s : Selector) (j : Judged) (best mid now : Option Fault) → there ≡ env → e ≡ expr.Field inner dot s → Knows rows j (judged env inner) → mid ≡ least best (judged env inner).faults
    → now ≡ least mid (judged_field there (known rows j) s).faults → now ≡ least best (judge env (expr_view e)).faults
field_told rows env there e inner dot s j best mid now same is h m n =
    let d : rules.Judged = judged env inner in
    whole_told best mid now d.faults _ _ m (n ∙ ap (λ x. least mid (judged_field x (known rows j) s).faults) same ∙ ap (λ x. least mid (judged_field env x s).faults) h.is)
    (sym (ap (λ x. x.faults) (judge_same env e _ (ap expr_view is ∙ field_view inner dot s))) ∙ field_faults env d s)

pub binary_known : (r1 r2 new : List Row) (env there : Env) (e left right : Expr) (op : Binary) (at : Span) (a b r : Judged) → Keeps r1 r2 → there ≡ env → e ≡ expr.Binary left op at right → Knows r1 a (judged env left) → Knows r2 b (judged there right)
    → Knows new r (judged_binary env op (known r2 a) (known r2 b)) → Knows new r (judge env (expr_view e))
binary_known r1 r2 new env there e left right op at a b r k same is h i n =
    let x : rules.Judged = judged env left in
    let y : rules.Judged = judged env right in
    let first : Knows r2 a x = knows_kept r1 r2 a x k h in
    let second : known r2 b ≡ silent y = i.is ∙ ap (λ t. silent (judged t right)) same in
    whole_known new r _ _ n (ap (λ u. silent (judged_binary env op u (known r2 b))) first.is ∙ ap (λ u. silent (judged_binary env op (silent x) u)) second ∙ binary_same env op x y ∙ ap silent (judge_same env e _ (ap expr_view is ∙ binary_view left op at right)))

pub binary_told : (r1 r2 : List Row) (env there : Env) (e left right : Expr) (op : Binary) (at : Span) (a b : Judged) (best f1 f2 now : Option Fault) → Keeps r1 r2 → there ≡ env → e ≡ expr.Binary left op at right → Knows r1 a (judged env left) → Knows r2 b (judged there right)
    → f1 ≡ least best (judged env left).faults → f2 ≡ least f1 (judged there right).faults → now ≡ least f2 (judged_binary env op (known r2 a) (known r2 b)).faults → now ≡ least best (judge env (expr_view e)).faults
binary_told r1 r2 env there e left right op at a b best f1 f2 now k same is h i m n l =
    let x : rules.Judged = judged env left in
    let y : rules.Judged = judged env right in
    let first : Knows r2 a x = knows_kept r1 r2 a x k h in
    let second : known r2 b ≡ silent y = i.is ∙ ap (λ t. silent (judged t right)) same in
    let own : List Fault = (judged_binary env op (silent x) (silent y)).faults in
    let last : now ≡ least f2 own = l ∙ ap (λ u. least f2 (judged_binary env op u (known r2 b)).faults) first.is ∙ ap (λ u. least f2 (judged_binary env op (silent x) u).faults) second in
    whole_told best f1 now x.faults (y.faults ++ own) _ m (told_two f1 f2 now y.faults own (n ∙ ap (λ t. least f1 (judged t right).faults) same) last)
    (sym (ap (λ u. u.faults) (judge_same env e _ (ap expr_view is ∙ binary_view left op at right))) ∙ binary_faults env op x y)

more_is : (env : Env) (ms : List (Member Expr)) → judge_more env (more_parts (map (member_map expr_view) ms)) ≡ judged_list env (member_exprs ms)
more_is env [] = refl
more_is env (m ∷ ms) = ap (λ ds. judged env m.value ∷ ds) (more_is env ms)

-- the parts of a list, one by one
pub parts_are : (env : Env) (c : Commas Expr) → judge_parts env (parts_view (Some c)) ≡ judged_list env (values c)
parts_are env c = ap (λ ds. judged env c.first ∷ ds) (more_is env c.more)

pub paren_is : (env : Env) (e : Expr) (from to : Span) (o : Option (Commas Expr)) (c : Commas Expr) → e ≡ expr.Paren from o to → o ≡ Some c → judged_paren env from (judged_list env (values c)) ≡ judge env (expr_view e)
paren_is env e from to o c is some =
    ap (judged_paren env from) (sym (parts_are env c)) ∙ judge_same env e _ (ap expr_view (is ∙ ap (λ x. expr.Paren from x to) some) ∙ paren_view from c to)

pub bracket_known : (rows new : List Row) (env : Env) (from : Span) (js : List Judged) (ds : List rules.Judged) (r : Judged) → AllKnown rows js ds → Knows new r (judged_paren env from (knowns rows js)) → Knows new r (judged_paren env from ds)
bracket_known rows new env from js ds r h k = whole_known new r _ _ k (ap (λ xs. silent (judged_paren env from xs)) h.are ∙ bracket_same env from ds)

pub bracket_told : (rows : List Row) (env : Env) (from : Span) (js : List Judged) (ds : List rules.Judged) (best mid now : Option Fault) → AllKnown rows js ds → mid ≡ least best (all_faults ds) → now ≡ least mid (judged_paren env from (knowns rows js)).faults
    → now ≡ least best (judged_paren env from ds).faults
bracket_told rows env from js ds best mid now h m n = whole_told best mid now (all_faults ds) _ _ m (n ∙ ap (λ xs. least mid (judged_paren env from xs).faults) h.are) (bracket_faults env from ds)

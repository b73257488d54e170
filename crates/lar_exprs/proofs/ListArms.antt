-- Calls and `new` with what the walk knows of their parts.
use Rattle.std.proofs.Common.{◌≡◌, ℕ, suc, List, [], ◌∷◌, ◌++◌, length, map, Option, Some, None, option_map, refl, sym, ap, ◌∙◌}
use Rattle.std.specs.Borrow.{Bor}
use Rattle.lar_source.specs.declared.file.Span.{Span}
use Rattle.type_table.specs.declared.row.Row.{Row}
use Rattle.lar_tree.specs.declared.name.Name.{Name}
use Rattle.lar_tree.specs.declared.name.Path.{Path}
use Rattle.lar_tree.specs.declared.commas.Commas.{Commas}
use Rattle.lar_tree.specs.declared.commas.Member.{Member}
use Rattle.lar_tree.specs.declared.expr.Expr.{Expr}
use Rattle.lar_tree.specs.declared.expr.Call.{Call}
use Rattle.lar_tree.specs.declared.expr.New.{New, out-New}
use Rattle.lar_tree.specs.declared.expr.Init.{Init as TreeInit}
use Rattle.lar_tree.specs.PlainLists.{values}
use Rattle.lar_tree.specs.Commas.{member_map}
use Rattle.lar_tree.specs.Exprs.{PlainTurbofish, PlainInit}
use Rattle.lar_tree.specs.ExprView.{expr_view, call_view, init_view, new_view, turbofish_view, parts_view, inits_view, more_inits}
use Rattle.lar_rules.specs.Fault.{Fault, least}
use Rattle.lar_rules.specs.Declared.{Struct, Function, struct_meant, function_meant}
use Rattle.lar_rules.specs.Written.{Given}
use Rattle.lar_rules.specs.Judged.{Env, all_faults}
use Rattle.lar_rules.specs.Judged as rules
use Rattle.lar_rules.specs.Exprs.{Init, init_values, judge, judge_parts, judge_inits, judge_more_inits, judged_call, judged_new, turbofish_given}
use Rattle.lar_judge.specs.declared.judged.Judged.{Judged}
use Rattle.lar_judge.specs.Known.{silent, Knows}
use Rattle.lar_judge.specs.Lists.{knowns, silents}
use Rattle.lar_judge.specs.Calls.{call_head, call_rest}
use Rattle.lar_judge.specs.Making.{InitsAre, new_head, new_rest, names, silent_inits}
use Rattle.lar_judge.proofs.Operands.{told_two}
use Rattle.lar_judge.proofs.SilentNew.{new_faults, new_same}
use Rattle.lar_judge.proofs.SilentRules.{call_faults, call_same}
use Rattle.lar_exprs.specs.Lists.{set_names, parts_count}
use Rattle.lar_exprs.specs.Walks.{judged, judged_list, member_values}
use Rattle.lar_exprs.proofs.Arms.{whole_known, whole_told, parts_are}
use Rattle.lar_exprs.proofs.Views.{call_is, new_is, init_is}

-- the generics that are given to a call and to `new`
abbrev pub given_to : Env → Option PlainTurbofish → List Given
given_to env t = turbofish_given env.site t

abbrev pub meant_by : Env → Path → Option Function
meant_by env p = function_meant env.site.all env.site.modules p

abbrev pub made_by : Env → Path → Option Struct
made_by env p = struct_meant env.site.all env.site.modules p

-- CALLS

pub call_rule : (env : Env) (c : Call) → judge env (call_view c) ≡ judged_call env c.path (given_to env (option_map turbofish_view c.generics)) (judge_parts env (parts_view c.args)) (meant_by env c.path)
call_rule env c = ap (judge env) (call_is c)

pub args_none : (env : Env) (o : Option (Commas Expr)) → o ≡ None → judge_parts env (parts_view o) ≡ []
args_none env o e = ap (λ x. judge_parts env (parts_view x)) e

pub args_some : (env : Env) (o : Option (Commas Expr)) (l : Commas Expr) → o ≡ Some l → judge_parts env (parts_view o) ≡ judged_list env (values l)
args_some env o l e = ap (λ x. judge_parts env (parts_view x)) e ∙ parts_are env l

mapped-length : {A B : Type 0} (f : A → B) (xs : List A) → length (map f xs) ≡ length xs
mapped-length f [] = refl
mapped-length f (x ∷ xs) = ap suc (mapped-length f xs)

pub args-count : (env : Env) (o : Option (Commas Expr)) → parts_count o ≡ length (judge_parts env (parts_view o))
args-count env None = refl
args-count env (Some l) = sym (ap length (parts_are env l) ∙ mapped-length (judged env) (values l))

pub call_known : (rows : List Row) (env : Env) (c : Call) (js : List Judged) (r : Judged) → knowns rows js ≡ silents (judge_parts env (parts_view c.args))
    → Knows rows r (judged_call env c.path (given_to env (option_map turbofish_view c.generics)) (knowns rows js) (meant_by env c.path)) → Knows rows r (judge env (call_view c))
call_known rows env c js r e k =
    let gs : List Given = given_to env (option_map turbofish_view c.generics) in
    let ds : List rules.Judged = judge_parts env (parts_view c.args) in
    whole_known rows r _ _ k (ap (λ xs. silent (judged_call env c.path gs xs (meant_by env c.path))) e ∙ call_same env c.path gs ds (meant_by env c.path) ∙ ap silent (sym (call_rule env c)))

pub call_told : (rows : List Row) (env : Env) (c : Call) (js : List Judged) (count : ℕ) (best f1 f2 now : Option Fault) → knowns rows js ≡ silents (judge_parts env (parts_view c.args)) → count ≡ parts_count c.args
    → f1 ≡ least best (call_head env.site c.path (given_to env (option_map turbofish_view c.generics)) count (meant_by env c.path)) → f2 ≡ least f1 (all_faults (judge_parts env (parts_view c.args)))
    → now ≡ least f2 (call_rest env c.path (given_to env (option_map turbofish_view c.generics)) (knowns rows js) (meant_by env c.path)) → now ≡ least best (judge env (call_view c)).faults
call_told rows env c js count best f1 f2 now e n a b l =
    let gs : List Given = given_to env (option_map turbofish_view c.generics) in
    let f : Option Function = meant_by env c.path in
    let ds : List rules.Judged = judge_parts env (parts_view c.args) in
    whole_told best f1 now (call_head env.site c.path gs (length ds) f) (all_faults ds ++ call_rest env c.path gs (silents ds) f) _
    (a ∙ ap (λ k. least best (call_head env.site c.path gs k f)) (n ∙ args-count env c.args))
    (told_two f1 f2 now (all_faults ds) (call_rest env c.path gs (silents ds) f) b (l ∙ ap (λ xs. least f2 (call_rest env c.path gs xs f)) e))
    (ap (λ d. d.faults) (call_rule env c) ∙ call_faults env c.path gs ds f)

-- NEW

pub new_rule : (env : Env) (n : New) → judge env (new_view n) ≡ judged_new env (out-New n).keyword (out-New n).path (given_to env (option_map turbofish_view (out-New n).generics)) (judge_inits env (inits_view (out-New n).inits)) (made_by env (out-New n).path)
new_rule env n = ap (judge env) (new_is n)

-- the fields that are set, one by one
abbrev pub init_judged : Env → TreeInit → Init
init_judged env i = (i.name, judged env i.value)

one_init : (env : Env) (i : TreeInit) (comma : Span) → (i.name, judge env (expr_view i.value)) ≡ init_judged env i
one_init env i comma = refl

more_inits_are : (env : Env) (ms : List (Member TreeInit)) → judge_more_inits env (more_inits (map (member_map init_view) ms)) ≡ map (λ m. init_judged env m.value) ms
more_inits_are env [] = refl
more_inits_are env (m ∷ ms) =
    ap (λ (i : PlainInit). (i.0, judge env i.2) ∷ judge_more_inits env (more_inits (map (member_map init_view) ms))) (init_is m.value)
    ∙ ap (λ is. init_judged env m.value ∷ is) (more_inits_are env ms)

pub inits_are : (env : Env) (c : Commas TreeInit) → judge_inits env (inits_view (Some c)) ≡ map (init_judged env) (values c)
inits_are env c =
    ap (λ (i : PlainInit). (i.0, judge env i.2) ∷ judge_more_inits env (more_inits (map (member_map init_view) c.more))) (init_is c.first)
    ∙ ap (λ is. init_judged env c.first ∷ is) (more_inits_are env c.more ∙ behind c.more)
  where
    behind : (ms : List (Member TreeInit)) → map (λ m. init_judged env m.value) ms ≡ map (init_judged env) (map (λ m. m.value) ms)
    behind [] = refl
    behind (m ∷ ms) = ap (λ is. init_judged env m.value ∷ is) (behind ms)

names_set : (env : Env) (is : List TreeInit) → map (λ i. i.name) is ≡ map (λ i. i.0) (map (init_judged env) is)
names_set env [] = refl
names_set env (i ∷ is) = ap (λ ns. i.name ∷ ns) (names_set env is)

pub set_are : (env : Env) (o : Option (Commas TreeInit)) → set_names o ≡ map (λ i. i.0) (judge_inits env (inits_view o))
set_are env None = refl
set_are env (Some c) = names_set env (values c) ∙ ap (map (λ i. i.0)) (sym (inits_are env c))

values_behind : (env : Env) (ms : List (Member TreeInit)) → init_values (map (init_judged env) (map (λ m. m.value) ms)) ≡ judged_list env (member_values ms)
values_behind env [] = refl
values_behind env (m ∷ ms) = ap (λ ds. judged env (m.value).value ∷ ds) (values_behind env ms)

pub values_none : (env : Env) (o : Option (Commas TreeInit)) → o ≡ None → init_values (judge_inits env (inits_view o)) ≡ []
values_none env o e = ap (λ x. init_values (judge_inits env (inits_view x))) e

pub values_some : (env : Env) (o : Option (Commas TreeInit)) (c : Commas TreeInit) → o ≡ Some c → init_values (judge_inits env (inits_view o)) ≡ judged_list env (c.first.value ∷ member_values c.more)
values_some env o c e = ap (λ x. init_values (judge_inits env (inits_view x))) e ∙ ap init_values (inits_are env c) ∙ ap (λ ds. judged env c.first.value ∷ ds) (values_behind env c.more)

silent_names : (is : List Init) → map (λ i. i.0) is ≡ map (λ i. i.0) (silent_inits is)
silent_names [] = refl
silent_names (i ∷ is) = ap (λ ns. i.0 ∷ ns) (silent_names is)

silent_values : (is : List Init) → silents (init_values is) ≡ init_values (silent_inits is)
silent_values [] = refl
silent_values (i ∷ is) = ap (λ ds. silent i.1 ∷ ds) (silent_values is)

-- the names and values of the walk are those that are set
pub inits_known : (rows : List Row) (env : Env) (n : New) (named : List (Bor Name)) (js : List Judged) → names named ≡ set_names (out-New n).inits → knowns rows js ≡ silents (init_values (judge_inits env (inits_view (out-New n).inits)))
    → InitsAre rows named js (silent_inits (judge_inits env (inits_view (out-New n).inits)))
inits_known rows env n named js e f = record {
  set = e ∙ set_are env (out-New n).inits ∙ silent_names (judge_inits env (inits_view (out-New n).inits));
  to = f ∙ silent_values (judge_inits env (inits_view (out-New n).inits));
}

pub new_known : (rows : List Row) (env : Env) (n : New) (r : Judged)
    → Knows rows r (judged_new env (out-New n).keyword (out-New n).path (given_to env (option_map turbofish_view (out-New n).generics)) (silent_inits (judge_inits env (inits_view (out-New n).inits))) (made_by env (out-New n).path)) → Knows rows r (judge env (new_view n))
new_known rows env n r k =
    let gs : List Given = given_to env (option_map turbofish_view (out-New n).generics) in
    whole_known rows r _ _ k (new_same env (out-New n).keyword (out-New n).path gs (judge_inits env (inits_view (out-New n).inits)) (made_by env (out-New n).path) ∙ ap silent (sym (new_rule env n)))

pub new_told : (env : Env) (n : New) (best f1 f2 now : Option Fault) → f1 ≡ least best (new_head env.site (out-New n).path (given_to env (option_map turbofish_view (out-New n).generics)) (made_by env (out-New n).path))
    → f2 ≡ least f1 (all_faults (init_values (judge_inits env (inits_view (out-New n).inits))))
    → now ≡ least f2 (new_rest env (out-New n).keyword (out-New n).path (given_to env (option_map turbofish_view (out-New n).generics)) (silent_inits (judge_inits env (inits_view (out-New n).inits))) (made_by env (out-New n).path)) → now ≡ least best (judge env (new_view n)).faults
new_told env n best f1 f2 now a b l =
    let gs : List Given = given_to env (option_map turbofish_view (out-New n).generics) in
    let is : List Init = judge_inits env (inits_view (out-New n).inits) in
    let x : Option Struct = made_by env (out-New n).path in
    whole_told best f1 now (new_head env.site (out-New n).path gs x) (all_faults (init_values is) ++ new_rest env (out-New n).keyword (out-New n).path gs (silent_inits is) x) _ a
    (told_two f1 f2 now (all_faults (init_values is)) (new_rest env (out-New n).keyword (out-New n).path gs (silent_inits is) x) b l)
    (ap (λ d. d.faults) (new_rule env n) ∙ new_faults env (out-New n).keyword (out-New n).path gs is x)

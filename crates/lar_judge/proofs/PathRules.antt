-- Paths that stand for values.
use Rattle.std.proofs.Common.{◌≡◌, ℕ, List, [], length, sym, ap, ◌∙◌, subst, Bool, true, false, Option, Some, None}
use Rattle.type_table.specs.declared.row.Row.{Row}
use Rattle.type_table.specs.TypeOf.{TypeOf, int}
use Rattle.type_table.specs.Rows.{type_at, Stands}
use Rattle.lar_tree.specs.declared.name.Path.{Path}
use Rattle.lar_typed.specs.declared.expr.TypedExpr.{TypedExpr}
use Rattle.lar_typed.specs.Exprs as typed
use Rattle.lar_typed.specs.Exprs.{ExprOf, PlainExpr, expr_map}
use Rattle.lar_typed.specs.ExprView.{expr_view}
use Rattle.lar_typed.specs.Within.{ExprWithin}
use Rattle.lar_rules.specs.Fault.{Fault, kept, least}
use Rattle.lar_rules.specs.Written.{unknown}
use Rattle.lar_rules.specs.Judged as rules
use Rattle.lar_rules.specs.Exprs.{ValueName, a_local, a_number, a_constant, no_value, judged_path, judged_local, local_typed}
use Rattle.lar_judge.specs.Known.{typed_in, TypedWithin, silent, Knows}
use Rattle.lar_judge.proofs.Least.{least_none, least_one}

abbrev judged_as : rules.Env → Path → ValueName → rules.Judged
judged_as env p v = judged_path env p v

-- a path without a meaning
pub unknown_knows : (rows : List Row) (env : rules.Env) (p : Path) (v : ValueName) → no_value ≡ v → Knows rows (record { at = p.first.span; typed = None }) (judged_as env p v)
unknown_knows rows env p v e = record { within = tt; is = ap (λ (x : ValueName). silent (judged_as env p x)) e }

pub unknown_told : (env : rules.Env) (p : Path) (v : ValueName) (best new : Option Fault) → no_value ≡ v → new ≡ kept best (unknown env.site p) → new ≡ least best (judged_as env p v).faults
unknown_told env p v best new e n = n ∙ sym (least_one best (unknown env.site p)) ∙ ap (λ (x : ValueName). least best (judged_as env p x).faults) e

-- a local in an assertion
pub refused_knows : (rows : List Row) (env : rules.Env) (p : Path) (l : rules.Local) (v : ValueName) → a_local l ≡ v → env.asserting ≡ true → Knows rows (record { at = p.first.span; typed = None }) (judged_as env p v)
refused_knows rows env p l v e b = record { within = tt; is = sym (ap (λ (x : Bool). silent (judged_local env p l x)) b) ∙ ap (λ (x : ValueName). silent (judged_as env p x)) e }

pub refused_said : (env : rules.Env) (p : Path) (l : rules.Local) (v : ValueName) (best new : Option Fault) → a_local l ≡ v → env.asserting ≡ true → new ≡ kept best (unknown env.site p) → new ≡ least best (judged_as env p v).faults
refused_said env p l v best new e b n =
    n ∙ sym (least_one best (unknown env.site p)) ∙ sym (ap (λ (x : Bool). least best (judged_local env p l x).faults) b) ∙ ap (λ (x : ValueName). least best (judged_as env p x).faults) e

pub local_knows : (rows : List Row) (env : rules.Env) (p : Path) (l : rules.Local) (v : ValueName) (o : Option TypedExpr) → a_local l ≡ v → env.asserting ≡ false → TypedWithin rows o → typed_in rows o ≡ local_typed l l.of → Knows rows (record { at = p.first.span; typed = o }) (judged_as env p v)
local_knows rows env p l v o e b w t =
    let P : Option PlainExpr → rules.Judged = λ x. record { at = p.first.span; typed = x; faults = [] } in
    record { within = w; is = ap P t ∙ sym (ap (λ (x : Bool). silent (judged_local env p l x)) b) ∙ ap (λ (x : ValueName). silent (judged_as env p x)) e }

pub local_said : (env : rules.Env) (p : Path) (l : rules.Local) (v : ValueName) (best : Option Fault) → a_local l ≡ v → env.asserting ≡ false → best ≡ least best (judged_as env p v).faults
local_said env p l v best e b = sym (least_none best) ∙ sym (ap (λ (x : Bool). least best (judged_local env p l x).faults) b) ∙ ap (λ (x : ValueName). least best (judged_as env p x).faults) e

pub generic_knows : (rows : List Row) (env : rules.Env) (p : Path) (k : ℕ) (v : ValueName) (n : ℕ) (e : TypedExpr) → a_number k ≡ v → Stands rows n int → expr_view e ≡ typed.generic n k → Knows rows (record { at = p.first.span; typed = Some e }) (judged_as env p v)
generic_knows rows env p k v n e is s m =
    let made : expr_map (type_at rows) (expr_view e) ≡ typed.generic int k = ap (expr_map (type_at rows)) m ∙ ap (λ (t : TypeOf). typed.generic t k) s.is in
    let P : PlainExpr → rules.Judged = λ x. record { at = p.first.span; typed = Some x; faults = [] } in
    record { within = subst (λ (x : ExprOf ℕ). ExprWithin (length rows) x) (sym m) s.within; is = ap P made ∙ ap (λ (x : ValueName). silent (judged_as env p x)) is }

pub constant_knows : (rows : List Row) (env : rules.Env) (p : Path) (k : ℕ) (v : ValueName) (n : ℕ) (e : TypedExpr) → a_constant k ≡ v → Stands rows n int → expr_view e ≡ typed.constant n k → Knows rows (record { at = p.first.span; typed = Some e }) (judged_as env p v)
constant_knows rows env p k v n e is s m =
    let made : expr_map (type_at rows) (expr_view e) ≡ typed.constant int k = ap (expr_map (type_at rows)) m ∙ ap (λ (t : TypeOf). typed.constant t k) s.is in
    let P : PlainExpr → rules.Judged = λ x. record { at = p.first.span; typed = Some x; faults = [] } in
    record { within = subst (λ (x : ExprOf ℕ). ExprWithin (length rows) x) (sym m) s.within; is = ap P made ∙ ap (λ (x : ValueName). silent (judged_as env p x)) is }

pub number_said : (env : rules.Env) (p : Path) (k : ℕ) (v : ValueName) (best : Option Fault) → a_number k ≡ v → best ≡ least best (judged_as env p v).faults
number_said env p k v best e = sym (least_none best) ∙ ap (λ (x : ValueName). least best (judged_as env p x).faults) e

pub constant_said : (env : rules.Env) (p : Path) (k : ℕ) (v : ValueName) (best : Option Fault) → a_constant k ≡ v → best ≡ least best (judged_as env p v).faults
constant_said env p k v best e = sym (least_none best) ∙ ap (λ (x : ValueName). least best (judged_as env p x).faults) e

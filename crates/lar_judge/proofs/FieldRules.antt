-- What stands behind a dot.
use Rattle.std.proofs.Common.{◌≡◌, ℕ, List, [], refl, sym, ap, ◌∙◌, subst, Option, Some, None}
use Rattle.lar_source.specs.declared.file.Span.{Span}
use Rattle.type_table.specs.declared.row.Row.{Row}
use Rattle.type_table.specs.TypeOf.{TypeOf}
use Rattle.type_table.specs.Rows.{type_at, Keeps}
use Rattle.lar_tree.specs.declared.expr.Selector.{Selector}
use Rattle.lar_typed.specs.declared.expr.TypedExpr.{TypedExpr}
use Rattle.lar_typed.specs.Exprs.{PlainExpr, label_of}
use Rattle.lar_typed.specs.ExprView.{expr_view}
use Rattle.lar_rules.specs.Fault.{Fault, least}
use Rattle.lar_rules.specs.Judged as rules
use Rattle.lar_rules.specs.Exprs.{Part as PlainPart, part_selected, judged_part, judged_field, judged_field_of}
use Rattle.lar_judge.specs.declared.judged.Judged.{Judged}
use Rattle.lar_judge.specs.declared.site.Part.{Part}
use Rattle.lar_judge.specs.Known.{expr_in, typed_in, TypedWithin, known, Knows}
use Rattle.lar_judge.specs.Selected.{part_in, part_if, missing}
use Rattle.lar_judge.proofs.Asserted.{refusal_last}
use Rattle.lar_judge.proofs.Kept.{typed_kept}
use Rattle.lar_judge.proofs.Labels.{same_label}
use Rattle.lar_judge.proofs.Operands.{knows_same, told_two}

-- it has a fault in it
pub faulty_is : (rows : List Row) (env : rules.Env) (e : Judged) (s : Selector) → e.typed ≡ None → rules.unless_asserting env e.at None [] ≡ judged_field env (known rows e) s
faulty_is rows env e s is = sym (ap (λ (o : Option TypedExpr). judged_field_of env (known rows e) s (typed_in rows o)) is)

-- what is selected of an expression of this type
pub selected_is : (rows : List Row) (env : rules.Env) (e : Judged) (x : TypedExpr) (l : ℕ) (s : Selector) (o : Option PlainPart) → e.typed ≡ Some x → l ≡ label_of (expr_view x) → o ≡ part_selected env.site.all (type_at rows l) s
    → judged_part env e.at [] s (expr_in rows x) o ≡ judged_field env (known rows e) s
selected_is rows env e x l s o is label sel =
    let of : type_at rows l ≡ label_of (expr_in rows x) = ap (type_at rows) label ∙ sym (same_label rows (expr_view x)) in
    ap (judged_part env e.at [] s (expr_in rows x)) (sel ∙ ap (λ (t : TypeOf). part_selected env.site.all t s) of)
    ∙ sym (ap (λ (o : Option TypedExpr). judged_field_of env (known rows e) s (typed_in rows o)) is)

-- the rule of a part, in two halves
part_rule : (env : rules.Env) (at : Span) (s : Selector) (e : PlainExpr) (o : Option PlainPart) → judged_part env at [] s e o ≡ rules.unless_asserting env at (part_if e o) (missing env.site.file s o)
part_rule env at s e None = refl
part_rule env at s e (Some p) = refl

some_same : (a b : PlainExpr) → Some a ≡ Some b → a ≡ b
some_same a b e = cc

-- the whole rule, in a table that grew
field_rule : (old new : List Row) (env : rules.Env) (e : Judged) (x : TypedExpr) (l : ℕ) (s : Selector) (part : Option Part) → Keeps old new → TypedWithin old (Some x) → e.typed ≡ Some x → l ≡ label_of (expr_view x) → part_in new part ≡ part_selected env.site.all (type_at old l) s
    → rules.unless_asserting env e.at (part_if (expr_in new x) (part_in new part)) (missing env.site.file s (part_in new part)) ≡ judged_field env (known old e) s
field_rule old new env e x l s part k w is label sel =
    let same : expr_in new x ≡ expr_in old x = some_same (expr_in new x) (expr_in old x) (typed_kept old new (Some x) k w) in
    ap (λ (y : PlainExpr). rules.unless_asserting env e.at (part_if y (part_in new part)) (missing env.site.file s (part_in new part))) same
    ∙ sym (part_rule env e.at s (expr_in old x) (part_in new part))
    ∙ selected_is old env e x l s (part_in new part) is label sel

pub field_knows : (old new : List Row) (env : rules.Env) (e : Judged) (x : TypedExpr) (l : ℕ) (s : Selector) (part : Option Part) (t : Option TypedExpr) (r : Judged) → Keeps old new → TypedWithin old e.typed → e.typed ≡ Some x → l ≡ label_of (expr_view x) → part_in new part ≡ part_selected env.site.all (type_at old l) s
    → typed_in new t ≡ part_if (expr_in new x) (part_in new part)
    → ((faults : List Fault) → Knows new r (rules.unless_asserting env e.at (typed_in new t) faults)) → Knows new r (judged_field env (known old e) s)
field_knows old new env e x l s part t r k w is label sel made h =
    let within : TypedWithin old (Some x) = subst (λ (o : Option TypedExpr). TypedWithin old o) is w in
    knows_same new r _ _ (ap (λ (y : Option PlainExpr). rules.unless_asserting env e.at y (missing env.site.file s (part_in new part))) made ∙ field_rule old new env e x l s part k within is label sel) (h (missing env.site.file s (part_in new part)))

pub field_told : (old new : List Row) (env : rules.Env) (e : Judged) (x : TypedExpr) (l : ℕ) (s : Selector) (part : Option Part) (file : ℕ) (best mid now : Option Fault) → Keeps old new → TypedWithin old e.typed → e.typed ≡ Some x → l ≡ label_of (expr_view x) → part_in new part ≡ part_selected env.site.all (type_at old l) s
    → file ≡ env.site.file → mid ≡ least best (missing file s (part_in new part)) → now ≡ least mid (rules.unless_asserting env e.at None []).faults → now ≡ least best (judged_field env (known old e) s).faults
field_told old new env e x l s part file best mid now k w is label sel f m n =
    let within : TypedWithin old (Some x) = subst (λ (o : Option TypedExpr). TypedWithin old o) is w in
    told_two best mid now _ _ (m ∙ ap (λ (i : ℕ). least best (missing i s (part_in new part))) f) n
    ∙ ap (least best) (sym (refusal_last env e.at (part_if (expr_in new x) (part_in new part)) None (missing env.site.file s (part_in new part))))
    ∙ ap (λ j. least best j.faults) (field_rule old new env e x l s part k within is label sel)

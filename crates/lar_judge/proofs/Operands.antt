-- Operators: what their parts give is what the rules say.
use Rattle.std.proofs.Common.{◌≡◌, ℕ, ◌<◌, List, [], ◌++◌, length, sym, ap, subst, ◌∙◌, Option, Some, None, true, false}
use Rattle.std.specs.Prelude.{option_map}
use Rattle.lar_source.specs.declared.file.Span.{Span}
use Rattle.type_table.specs.declared.row.Row.{Row}
use Rattle.type_table.specs.TypeOf.{TypeOf, int}
use Rattle.type_table.specs.Rows.{type_at, Keeps, Stands}
use Rattle.lar_tree.specs.declared.expr.Unary.{Unary}
use Rattle.lar_tree.specs.declared.expr.Binary.{Binary}
use Rattle.lar_typed.specs.declared.expr.TypedExpr.{TypedExpr}
use Rattle.lar_typed.specs.declared.op.UnaryOp.{UnaryOp}
use Rattle.lar_typed.specs.declared.op.BinaryOp.{BinaryOp}
use Rattle.lar_typed.specs.Exprs.{label_of}
use Rattle.lar_typed.specs.ExprView.{expr_view}
use Rattle.lar_typed.specs.Lawful.{is_scalar}
use Rattle.lar_typed.specs.Exprs as typed
use Rattle.lar_rules.specs.Fault.{Fault, kept, least}
use Rattle.lar_rules.specs.Written.{Site}
use Rattle.lar_rules.specs.Judged.{Env, misfit, fitting_of, fitting_if, other_type}
use Rattle.lar_rules.specs.Judged as rules
use Rattle.lar_rules.specs.Exprs.{judged_unary, unary_type, typed_unary_op, typed_binary_op, operand_type, result_type, both_typed, judged_operands, judged_binary, scalar_of, not_scalar_of}
use Rattle.lar_judge.specs.declared.judged.Judged.{Judged}
use Rattle.lar_judge.specs.declared.operators.Rule.{Rule}
use Rattle.lar_judge.specs.Known.{expr_in, typed_in, TypedWithin, type_if, IfWithin, known, Knows}
use Rattle.lar_judge.specs.Rule.{IsRule}
use Rattle.lar_judge.proofs.Kept.{typed_kept, known_kept, type_kept, type_within_kept}
use Rattle.lar_judge.proofs.Labels.{same_label}
use Rattle.lar_judge.proofs.Least.{least_none, least_append}
use Rattle.lar_judge.proofs.Misfits.{least_if, least_unless}
use Rattle.lar_judge.proofs.Rows.{stands_kept, keeps_twice}

-- a fault of an expression in a table that grew
pub misfit_kept : (s : Site) (t u : TypeOf) (best : Option Fault) (old new : List Row) (e : Judged) → Keeps old new → TypedWithin old e.typed → t ≡ u → least best (misfit s t (known new e)) ≡ least best (misfit s u (known old e))
misfit_kept s t u best old new e k w p = ap (λ j. least best (misfit s t j)) (known_kept old new e k w) ∙ ap (λ x. least best (misfit s x (known old e))) p

pub unary_knows : (old new : List Row) (e : Judged) (of : ℕ) (op : Unary) (o : UnaryOp) (at : Span) (env : Env) (f r : Option TypedExpr)
    → Keeps old new → TypedWithin old e.typed → Stands new of (unary_type op) → o ≡ typed_unary_op op
    → TypedWithin new f → typed_in new f ≡ fitting_of (type_at new of) (typed_in new e.typed)
    → ((rows : List Row) → of < length rows → TypedWithin rows f → TypedWithin rows r) → ((rows : List Row) → typed_in rows r ≡ option_map (typed.unary (type_at rows of) o) (typed_in rows f))
    → Knows new (record { at = at; typed = r }) (judged_unary env op at (known old e))
unary_knows old new e of op o at env f r k w st oe fw fi rw_ ri =
    let t : TypeOf = unary_type op in
    let got : typed_in new r ≡ option_map (typed.unary t (typed_unary_op op)) (fitting_of t (typed_in old e.typed)) =
    ri new
    ∙ ap (option_map (typed.unary (type_at new of) o)) (fi ∙ ap (fitting_of (type_at new of)) (typed_kept old new e.typed k w))
    ∙ ap (λ (x : TypeOf). option_map (typed.unary x o) (fitting_of x (typed_in old e.typed))) st.is
    ∙ ap (λ (x : UnaryOp). option_map (typed.unary t x) (fitting_of t (typed_in old e.typed))) oe in
    let P : Option typed.PlainExpr → rules.Judged = λ x. record { at = at; typed = x; faults = [] } in
    record { within = rw_ new st.within fw; is = ap P got }

pub rule_is : (a b c : List Row) (op : Binary) (r : Rule)
    → Keeps a b → Keeps b c → r.op ≡ typed_binary_op op → Stands a r.of (result_type op) → IfWithin b r.wanted → type_if b r.wanted ≡ operand_type op → Stands c r.int int → IsRule c op r
rule_is a b c op r k l oe st w is i = record {
  same_op = oe;
  gives = stands_kept a c r.of (result_type op) (keeps_twice a b c k l) st;
  within = type_within_kept b c r.wanted l w;
  asks = type_kept b c r.wanted l w ∙ is;
  int_stands = i;
}

both_knows : (rows : List Row) (at : Span) (of : ℕ) (op : BinaryOp) (f g r : Option TypedExpr) (x y : Option typed.PlainExpr)
    → of < length rows → TypedWithin rows f → TypedWithin rows g → typed_in rows f ≡ x → typed_in rows g ≡ y
    → ((rows : List Row) → of < length rows → TypedWithin rows f → TypedWithin rows g → TypedWithin rows r)
    → ((rows : List Row) → typed_in rows r ≡ both_typed (type_at rows of) op (typed_in rows f) (typed_in rows g))
    → (faults : List Fault) → Knows rows (record { at = at; typed = r }) (record { at = at; typed = both_typed (type_at rows of) op x y; faults = faults })
both_knows rows at of op f g r x y l fw gw fi gi w i faults =
    let got : typed_in rows r ≡ both_typed (type_at rows of) op x y =
    i rows ∙ ap (λ z. both_typed (type_at rows of) op z (typed_in rows g)) fi ∙ ap (both_typed (type_at rows of) op x) gi in
    let P : Option typed.PlainExpr → rules.Judged = λ z. record { at = at; typed = z; faults = [] } in
    record { within = w rows l fw gw; is = ap P got }

pub same_operands_knows : (rows : List Row) (env : Env) (a b : Judged) (of wanted : ℕ) (op : BinaryOp) (f g r : Option TypedExpr)
    → of < length rows → TypedWithin rows f → TypedWithin rows g
    → typed_in rows f ≡ fitting_of (type_at rows wanted) (typed_in rows a.typed) → typed_in rows g ≡ fitting_of (type_at rows wanted) (typed_in rows b.typed)
    → ((rows : List Row) → of < length rows → TypedWithin rows f → TypedWithin rows g → TypedWithin rows r)
    → ((rows : List Row) → typed_in rows r ≡ both_typed (type_at rows of) op (typed_in rows f) (typed_in rows g))
    → Knows rows (record { at = a.at; typed = r }) (judged_operands env (type_at rows of) op (known rows a) (known rows b) (Some (type_at rows wanted)))
same_operands_knows rows env a b of wanted op f g r l fw gw fi gi w i =
    both_knows rows a.at of op f g r (fitting_of (type_at rows wanted) (typed_in rows a.typed)) (fitting_of (type_at rows wanted) (typed_in rows b.typed)) l fw gw fi gi w i
    (judged_operands env (type_at rows of) op (known rows a) (known rows b) (Some (type_at rows wanted))).faults

pub compared_knows : (rows : List Row) (env : Env) (a b : Judged) (of : ℕ) (wanted : Option ℕ) (op : BinaryOp) (f g r : Option TypedExpr)
    → of < length rows → type_if rows wanted ≡ scalar_of (typed_in rows a.typed) → TypedWithin rows f → TypedWithin rows g
    → typed_in rows f ≡ fitting_if (type_if rows wanted) (known rows a) → typed_in rows g ≡ fitting_if (type_if rows wanted) (known rows b)
    → ((rows : List Row) → of < length rows → TypedWithin rows f → TypedWithin rows g → TypedWithin rows r)
    → ((rows : List Row) → typed_in rows r ≡ both_typed (type_at rows of) op (typed_in rows f) (typed_in rows g))
    → Knows rows (record { at = a.at; typed = r }) (judged_operands env (type_at rows of) op (known rows a) (known rows b) None)
compared_knows rows env a b of wanted op f g r l s fw gw fi gi w i =
    both_knows rows a.at of op f g r (fitting_if (scalar_of (typed_in rows a.typed)) (known rows a)) (fitting_if (scalar_of (typed_in rows a.typed)) (known rows b)) l fw gw
    (fi ∙ ap (λ o. fitting_if o (known rows a)) s) (gi ∙ ap (λ o. fitting_if o (known rows b)) s) w i
    (judged_operands env (type_at rows of) op (known rows a) (known rows b) None).faults

-- two lists of faults, one after the other
pub told_two : (best mid new : Option Fault) (xs ys : List Fault) → mid ≡ least best xs → new ≡ least mid ys → new ≡ least best (xs ++ ys)
told_two best mid new xs ys p q = q ∙ ap (λ b. least b ys) p ∙ sym (least_append best xs ys)

pub not_scalar_noted : (s : Site) (at : Span) (best : Option Fault) (rows : List Row) (o : Option TypedExpr) (x : TypedExpr) (n l : ℕ) → o ≡ Some x → type_at rows n ≡ int → l ≡ label_of (expr_view x) → is_scalar (type_at rows l) ≡ false
    → kept best (other_type s at (type_at rows n) (type_at rows l)) ≡ least best (not_scalar_of s at (typed_in rows o))
not_scalar_noted s at best rows o x n l is st label other =
    let it : type_at rows l ≡ label_of (expr_in rows x) = ap (type_at rows) label ∙ sym (same_label rows (expr_view x)) in
    ap (λ (u : TypeOf). kept best (other_type s at u (type_at rows l))) st
    ∙ ap (λ (u : TypeOf). kept best (other_type s at int u)) it
    ∙ sym (least_if best (other_type s at int (label_of (expr_in rows x))) (is_scalar (label_of (expr_in rows x))) (ap is_scalar (sym it) ∙ other))
    ∙ ap (λ (o : Option TypedExpr). least best (not_scalar_of s at (typed_in rows o))) (sym is)

pub not_scalar_none : (s : Site) (at : Span) (best : Option Fault) (rows : List Row) (o : Option TypedExpr) (x : TypedExpr) (l : ℕ) → o ≡ Some x → l ≡ label_of (expr_view x) → is_scalar (type_at rows l) ≡ true → best ≡ least best (not_scalar_of s at (typed_in rows o))
not_scalar_none s at best rows o x l is label other =
    let it : type_at rows l ≡ label_of (expr_in rows x) = ap (type_at rows) label ∙ sym (same_label rows (expr_view x)) in
    sym (least_unless best (other_type s at int (label_of (expr_in rows x))) (is_scalar (label_of (expr_in rows x))) (ap is_scalar (sym it) ∙ other))
    ∙ ap (λ (o : Option TypedExpr). least best (not_scalar_of s at (typed_in rows o))) (sym is)

pub not_scalar_faulty : (s : Site) (at : Span) (best : Option Fault) (rows : List Row) (o : Option TypedExpr) → o ≡ None → best ≡ least best (not_scalar_of s at (typed_in rows o))
not_scalar_faulty s at best rows o is = sym (least_none best) ∙ ap (λ (o : Option TypedExpr). least best (not_scalar_of s at (typed_in rows o))) (sym is)

-- the rule of an operator in the numbers of a table that grew
pub rule_same : (old new : List Row) (op : Binary) (r : Rule) (env : Env) (a b : Judged) (o : Option TypeOf) → Keeps old new → IsRule new op r → TypedWithin old a.typed → TypedWithin old b.typed → type_if new r.wanted ≡ o
    → judged_operands env (type_at new r.of) r.op (known new a) (known new b) o ≡ judged_binary env op (known old a) (known old b)
rule_same old new op r env a b o k h wa wb e =
    ap (λ (t : TypeOf). judged_operands env t r.op (known new a) (known new b) o) h.gives.is
    ∙ ap (λ (p : BinaryOp). judged_operands env (result_type op) p (known new a) (known new b) o) h.same_op
    ∙ ap (λ (j : rules.Judged). judged_operands env (result_type op) (typed_binary_op op) j (known new b) o) (known_kept old new a k wa)
    ∙ ap (λ (j : rules.Judged). judged_operands env (result_type op) (typed_binary_op op) (known old a) j o) (known_kept old new b k wb)
    ∙ ap (judged_operands env (result_type op) (typed_binary_op op) (known old a) (known old b)) (sym e ∙ h.asks)

pub knows_same : (rows : List Row) (j : Judged) (d e : rules.Judged) → d ≡ e → Knows rows j d → Knows rows j e
knows_same rows j d e p h = subst (λ (x : rules.Judged). Knows rows j x) p h

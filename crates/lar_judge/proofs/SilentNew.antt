-- `new` without the faults of its values: they stand before its own, behind those of its path, and its type does not depend on them.
use Rattle.std.proofs.Common.{◌≡◌, List, [], ◌∷◌, ◌++◌, refl, sym, ap, ◌∙◌, append_assoc, Bool, true, false, Option, Some, None}
use Rattle.std.specs.Prelude.{if◌then◌else◌}
use Rattle.std.specs.Str.{bytes_eq}
use Rattle.lar_source.specs.declared.file.Span.{Span}
use Rattle.lar_source.specs.declared.code.Code.TheVariants.{NoSuchPlace}
use Rattle.type_table.specs.TypeOf.{TypeOf}
use Rattle.lar_tree.specs.declared.name.Path.{Path}
use Rattle.lar_typed.specs.Exprs.{PlainExpr, PlainExprs}
use Rattle.lar_rules.specs.Fault.{Fault, fault}
use Rattle.lar_rules.specs.Declared.{Struct}
use Rattle.lar_rules.specs.Written.{Site, Given, all_given, unknown}
use Rattle.lar_rules.specs.Signatures.{Member, fields}
use Rattle.lar_rules.specs.Judged.{Env, unless_asserting, all_faults, misfit_if, fitting_if, then_expr, under}
use Rattle.lar_rules.specs.Exprs.{Init, init_values, misset, set_typed, made_typed, judged_new}
use Rattle.lar_judge.specs.Known.{silent}
use Rattle.lar_judge.specs.Making.{made_generics, new_head, new_rest, silent_inits}
use Rattle.lar_judge.proofs.Asserted.{refusal_last}
use Rattle.lar_judge.proofs.SilentRules.{misfit_same, fitting_same, unless_same}

misset_by : (s : Site) (at : Span) (gs : Option TypeOf) (m : Member) (ms : List Member) (i : Init) (is : List Init) (b : Bool) (other : List Fault) → misset s at gs ms (silent_inits is) ≡ misset s at gs ms is
    → (if b then misfit_if s (under gs m.1) (silent i.1) ++ misset s at gs ms (silent_inits is) else other) ≡ (if b then misfit_if s (under gs m.1) i.1 ++ misset s at gs ms is else other)
misset_by s at gs m ms i is true other h =
    ap (λ (fs : List Fault). fs ++ misset s at gs ms (silent_inits is)) (misfit_same s (under gs m.1) i.1) ∙ ap (λ (fs : List Fault). misfit_if s (under gs m.1) i.1 ++ fs) h
misset_by s at gs m ms i is false other h = refl

pub misset_same : (s : Site) (at : Span) (gs : Option TypeOf) (ms : List Member) (is : List Init) → misset s at gs ms (silent_inits is) ≡ misset s at gs ms is
misset_same s at gs [] [] = refl
misset_same s at gs [] (i ∷ is) = refl
misset_same s at gs (m ∷ ms) [] = refl
misset_same s at gs (m ∷ ms) (i ∷ is) = misset_by s at gs m ms i is (bytes_eq (m.0).text (i.0).text) (fault s.file (i.0).span NoSuchPlace [] ∷ []) (misset_same s at gs ms is)

set_by : (gs : Option TypeOf) (m : Member) (ms : List Member) (i : Init) (is : List Init) (b : Bool) → set_typed gs ms (silent_inits is) ≡ set_typed gs ms is
    → (if b then then_expr (fitting_if (under gs m.1) (silent i.1)) (set_typed gs ms (silent_inits is)) else None) ≡ (if b then then_expr (fitting_if (under gs m.1) i.1) (set_typed gs ms is) else None)
set_by gs m ms i is true h = ap (λ e. then_expr e (set_typed gs ms (silent_inits is))) (fitting_same (under gs m.1) i.1) ∙ ap (then_expr (fitting_if (under gs m.1) i.1)) h
set_by gs m ms i is false h = refl

pub set_same : (gs : Option TypeOf) (ms : List Member) (is : List Init) → set_typed gs ms (silent_inits is) ≡ set_typed gs ms is
set_same gs [] [] = refl
set_same gs [] (i ∷ is) = refl
set_same gs (m ∷ ms) [] = refl
set_same gs (m ∷ ms) (i ∷ is) = set_by gs m ms i is (bytes_eq (m.0).text (i.0).text) (set_same gs ms is)

regrouped : (g a m r : List Fault) → (g ++ (a ++ m)) ++ r ≡ g ++ (a ++ (m ++ r))
regrouped g a m r = simp append_assoc

pub new_faults : (env : Env) (at : Span) (p : Path) (gs : List Given) (is : List Init) (x : Option Struct) → (judged_new env at p gs is x).faults ≡ new_head env.site p gs x ++ (all_faults (init_values is) ++ new_rest env at p gs (silent_inits is) x)
new_faults env at p gs is None =
    let refusal : List Fault = (unless_asserting env at None []).faults in
    refusal_last env at None None (unknown env.site p ∷ (all_given gs ++ all_faults (init_values is))) ∙ ap (λ (fs : List Fault). unknown env.site p ∷ fs) (append_assoc (all_given gs) (all_faults (init_values is)) refusal)
new_faults env at p gs is (Some x) =
    let g : Option TypeOf = (made_generics env.site p gs x).of in
    let refusal : List Fault = (unless_asserting env at None []).faults in
    let head : List Fault = (made_generics env.site p gs x).faults in
    let tail : List Fault = misset env.site at g (fields env.site.all x) is in
    refusal_last env at (made_typed x.number g (set_typed g (fields env.site.all x) is)) None (head ++ (all_faults (init_values is) ++ tail))
    ∙ regrouped head (all_faults (init_values is)) tail refusal
    ∙ ap (λ (fs : List Fault). head ++ (all_faults (init_values is) ++ (fs ++ refusal))) (sym (misset_same env.site at g (fields env.site.all x) is))

pub new_same : (env : Env) (at : Span) (p : Path) (gs : List Given) (is : List Init) (x : Option Struct) → silent (judged_new env at p gs (silent_inits is) x) ≡ silent (judged_new env at p gs is x)
new_same env at p gs is None = unless_same env at None (unknown env.site p ∷ (all_given gs ++ all_faults (init_values (silent_inits is)))) (unknown env.site p ∷ (all_given gs ++ all_faults (init_values is)))
new_same env at p gs is (Some x) =
    let g : Option TypeOf = (made_generics env.site p gs x).of in
    let made : Option PlainExprs → Option PlainExpr = made_typed x.number g in
    unless_same env at (made (set_typed g (fields env.site.all x) (silent_inits is))) _ []
    ∙ ap (λ es. silent (unless_asserting env at (made es) [])) (set_same g (fields env.site.all x) is)
    ∙ unless_same env at (made (set_typed g (fields env.site.all x) is)) [] _

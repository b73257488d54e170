-- What is told of the place of an assignment, and which place it is.
use Rattle.std.proofs.Common.{◌≡◌, ℕ, ◌<◌, List, [], ◌∷◌, ◌++◌, map, sym, ap, ◌∙◌, Bool, true, false, Option}
use Rattle.std.specs.Prelude.{if◌then◌else◌}
use Rattle.lar_source.specs.declared.file.Span.{Span}
use Rattle.lar_source.specs.declared.code.Code.TheVariants.{NoSuchPlace}
use Rattle.lar_tree.specs.Exprs.{PlainExpr}
use Rattle.lar_typed.specs.declared.stmt.Step.{Step}
use Rattle.lar_typed.specs.StmtView.{step_view}
use Rattle.lar_typed.specs.Within.{StepsWithin}
use Rattle.lar_rules.specs.Fault.{Fault, fault, kept, least}
use Rattle.lar_rules.specs.Judged.{Env}
use Rattle.lar_rules.specs.Bodies.{is_place, misplaced}
use Rattle.lar_judge.proofs.Least.{least_none, least_one}

pub misplaced_told : (env : Env) (e : PlainExpr) (at : Span) (b : Bool) (file : ℕ) (best now : Option Fault) → b ≡ is_place env e → b ≡ false → file ≡ env.site.file → now ≡ kept best (fault file at NoSuchPlace []) → now ≡ least best (misplaced env e at)
misplaced_told env e at b file best now is fails f n =
    n ∙ ap (λ (i : ℕ). kept best (fault i at NoSuchPlace [])) f ∙ sym (least_one best (fault env.site.file at NoSuchPlace []))
    ∙ ap (λ (x : Bool). least best (if x then [] else fault env.site.file at NoSuchPlace [] ∷ [])) (sym fails ∙ is)

pub placed_told : (env : Env) (e : PlainExpr) (at : Span) (b : Bool) (best : Option Fault) → b ≡ is_place env e → b ≡ true → best ≡ least best (misplaced env e at)
placed_told env e at b best is holds =
    sym (least_none best) ∙ ap (λ (x : Bool). least best (if x then [] else fault env.site.file at NoSuchPlace [] ∷ [])) (sym holds ∙ is)

steps_more : (n : ℕ) (ps : List Step) (p : Step) → p.of < n → StepsWithin n (map step_view ps) → StepsWithin n (map step_view (ps ++ p ∷ []))
steps_more n [] p h w = (h, tt)
steps_more n (x ∷ ps) p h w = (w.0, steps_more n ps p h w.1)

pub steps_pushed : (n : ℕ) (ps qs : List Step) (p : Step) → qs ≡ ps ++ p ∷ [] → p.of < n → StepsWithin n (map step_view ps) → StepsWithin n (map step_view qs)
steps_pushed n ps qs p e h w = rw e (steps_more n ps p h w)

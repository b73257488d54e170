use Rattle.std.proofs.Common.{◌+◌, ◌∷◌, ◌++◌, drop, map, ap, sym, ◌∙◌}
use Rattle.std.proofs.lemmas.List.{drop_more, drop_all}
use Rattle.lar_names.specs.Scopes.{list_at}
use Rattle.lar_names.proofs.ScopeFacts.{step_down, step_none, step_end, from_root}
use Rattle.lar_names.proofs.scopes.Scopes.walk.Goals as goal

pub returns-in-None-clause-number : goal.returns-in-None-clause-number
returns-in-None-clause-number c =
    let rest = map (λ s. (s.name).text) c.args.more.now in
    sym (step_none c.args.self.now 0 c.as_str.result.now rest (c.args.first.now.text ∷ rest) c.find.ensures.scopes (from_root c.args.self.now c.as_str.result.now rest c.find.ensures.scopes ∙ ap (λ n. n ∷ rest) c.as_str.ensures.text) (sym c.in-None.ensures.number))

pub loop-segment-init : goal.loop-segment-init
loop-segment-init c =
    let rest = map (λ s. (s.name).text) c.args.more.now in
    let down = step_down c.args.self.now 0 c.in-Some.scope c.as_str.result.now rest (c.args.first.now.text ∷ rest) (from_root c.args.self.now c.as_str.result.now rest c.find.ensures.scopes ∙ ap (λ n. n ∷ rest) c.as_str.ensures.text) (sym c.in-Some.ensures.number) in
    record { bound = down.0; rest = down.1 }

pub returns-in-None-find-clause-number : goal.returns-in-None-find-clause-number
returns-in-None-find-clause-number c =
    let ls = c.args.self.now in
    let i = c.loop-segment.segment-index in
    let rest = map (λ s. (s.name).text) (drop (i + 1) c.args.more.now) in
    let here = ap (λ n. list_at ls c.loop-segment.scope ++ n ∷ rest) c.as_str-in-loop-segment.ensures.text
    ∙ (ap (λ s. list_at ls c.loop-segment.scope ++ (s.name).text ∷ rest) c.segment-item.is
    ∙ (ap (λ xs. list_at ls c.loop-segment.scope ++ map (λ s. (s.name).text) xs) (sym (drop_more c.args.more.now i c.segment-item.result c.loop-segment-test.true)) ∙ c.loop-segment.invariant.rest)) in
    sym (step_none ls c.loop-segment.scope c.as_str-in-loop-segment.result.now rest (c.args.first.now.text ∷ map (λ s. (s.name).text) c.args.more.now) c.find.ensures.scopes here (sym c.in-None-find.ensures.number))

pub loop-segment-preserved : goal.loop-segment-preserved
loop-segment-preserved c =
    let ls = c.args.self.now in
    let i = c.loop-segment.segment-index in
    let rest = map (λ s. (s.name).text) (drop (i + 1) c.args.more.now) in
    let here = ap (λ n. list_at ls c.loop-segment.scope ++ n ∷ rest) c.as_str-in-loop-segment.ensures.text
    ∙ (ap (λ s. list_at ls c.loop-segment.scope ++ (s.name).text ∷ rest) c.segment-item.is
    ∙ (ap (λ xs. list_at ls c.loop-segment.scope ++ map (λ s. (s.name).text) xs) (sym (drop_more c.args.more.now i c.segment-item.result c.loop-segment-test.true)) ∙ c.loop-segment.invariant.rest)) in
    let down = step_down ls c.loop-segment.scope c.in-Some-find.inner c.as_str-in-loop-segment.result.now rest (c.args.first.now.text ∷ map (λ s. (s.name).text) c.args.more.now) here (sym c.in-Some-find.ensures.number) in
    record { bound = down.0; rest = down.1 }

pub returns-clause-number : goal.returns-clause-number
returns-clause-number c =
    let over = c.loop-segment-test.false in
    sym (step_end c.args.self.now c.loop-segment.scope (map (λ s. (s.name).text) (drop c.loop-segment.segment-index c.args.more.now)) (c.args.first.now.text ∷ map (λ s. (s.name).text) c.args.more.now) c.find.ensures.scopes c.loop-segment.invariant.bound c.loop-segment.invariant.rest (ap (map (λ s. (s.name).text)) (drop_all c.loop-segment.segment-index c.args.more.now over)))

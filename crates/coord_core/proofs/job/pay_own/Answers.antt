use Rattle.std.proofs.Common.{ℕ, List, set, get_or, position, Some, sym, ap, ◌∙◌, is_none}
use Rattle.coord_core.specs.declared.job.Job.{Job}
use Rattle.coord_core.proofs.Places.{place_some, place_none, paid_by-set, paid_by-none}
use Rattle.coord_core.proofs.job.pay_own.Goals as goal

pub returns-in-Some-clause-jobs : goal.returns-in-Some-clause-jobs
returns-in-Some-clause-jobs c =
    let items = c.args.running.now.items in
    let now = c.index_mut.result.now in
    let found = c.place_of_own.ensures ∙ ap (λ (l : List Job). position (λ j. is_none j.payer) l) c.deref.ensures.value in
    let at = place_some (λ (j : Job). is_none j.payer) items c.in-Some.at (sym found ∙ c.in-Some.is) in
    ap (λ (j : Job). set items c.in-Some.at (record { unit = j.unit; payer = Some c.args.byte })) c.index_mut.ensures.value
    ∙ ap (λ (n : ℕ). set items n (record { unit = (get_or items n now).unit; payer = Some c.args.byte })) (sym at.0)
    ∙ sym (paid_by-set c.args.byte items now at.1)

pub returns-in_default-clause-jobs : goal.returns-in_default-clause-jobs
returns-in_default-clause-jobs c =
    let items = c.args.running.now.items in
    let found = c.place_of_own.ensures ∙ ap (λ (l : List Job). position (λ j. is_none j.payer) l) c.deref.ensures.value in
    sym (paid_by-none c.args.byte items (place_none (λ (j : Job). is_none j.payer) items (sym found ∙ c.in_default.is)))

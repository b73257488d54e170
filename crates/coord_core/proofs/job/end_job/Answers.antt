use Rattle.std.proofs.Common.{◌==◌, ℕ, List, remove, get_or, position, sym, ap, ◌∙◌}
use Rattle.coord_core.specs.declared.job.Job.{Job}
use Rattle.coord_core.proofs.Places.{place_some, place_none, jobs_without-remove, jobs_without-none}
use Rattle.coord_core.proofs.job.end_job.Goals as goal

pub returns-in-Some-clause-jobs : goal.returns-in-Some-clause-jobs
returns-in-Some-clause-jobs c =
    let items = c.args.running.now.items in
    let found = c.place_of.ensures ∙ ap (λ (l : List Job). position (λ j. j.unit == c.args.unit) l) c.deref.ensures.value in
    let at = place_some (λ (j : Job). j.unit == c.args.unit) items c.in-Some.at (sym found ∙ c.in-Some.is) in
    c.remove.ensures.items ∙ ap (λ (n : ℕ). remove items n) (sym at.0) ∙ sym ((jobs_without-remove c.args.unit items c.remove.result at.1).0)

pub returns-in-Some-clause-byte : goal.returns-in-Some-clause-byte
returns-in-Some-clause-byte c =
    let items = c.args.running.now.items in
    let found = c.place_of.ensures ∙ ap (λ (l : List Job). position (λ j. j.unit == c.args.unit) l) c.deref.ensures.value in
    let at = place_some (λ (j : Job). j.unit == c.args.unit) items c.in-Some.at (sym found ∙ c.in-Some.is) in
    ap (λ (j : Job). j.payer) c.remove.ensures.value ∙ ap (λ (n : ℕ). (get_or items n c.remove.result).payer) (sym at.0) ∙ sym ((jobs_without-remove c.args.unit items c.remove.result at.1).1)

pub returns-in-None-clause-jobs : goal.returns-in-None-clause-jobs
returns-in-None-clause-jobs c =
    let items = c.args.running.now.items in
    let found = c.place_of.ensures ∙ ap (λ (l : List Job). position (λ j. j.unit == c.args.unit) l) c.deref.ensures.value in
    sym ((jobs_without-none c.args.unit items (place_none (λ (j : Job). j.unit == c.args.unit) items (sym found ∙ c.in-None.is))).0)

pub returns-in-None-clause-byte : goal.returns-in-None-clause-byte
returns-in-None-clause-byte c =
    let items = c.args.running.now.items in
    let found = c.place_of.ensures ∙ ap (λ (l : List Job). position (λ j. j.unit == c.args.unit) l) c.deref.ensures.value in
    sym ((jobs_without-none c.args.unit items (place_none (λ (j : Job). j.unit == c.args.unit) items (sym found ∙ c.in-None.is))).1)

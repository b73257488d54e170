use Rattle.std.proofs.Common.{◌≡◌, ℕ, Result, Ok, Err, Some, true, ap, subst, ◌∙◌, arith}
use Rattle.coord_core.specs.declared.event.Event.TheVariants.{Generated, GenFailed, Wanted}
use Rattle.coord_core.specs.Effect.{effect}
use Rattle.coord_core.specs.Decide.{actions_of}
use Rattle.coord_core.specs.Journal.{jobs_by}
use Rattle.lar_bytes.specs.declared.memory.OrMemory.{OrMemory}
use Rattle.coord_run.specs.Meaning.{Meaning, Answers}
use Rattle.coord_run.specs.Books.{BooksState, fed, state_of}
use Rattle.coord_run.proofs.EventLemmas.{may-generate}
use Rattle.coord_run.proofs.UnitLemmas.{generated-ties, gen_failed-ties, gen_wanted-ties}
use Rattle.coord_run.proofs.DispatchLemmas.{tied-as, fallen-desk}
use Rattle.coord_run.proofs.answering.generate.Goals as goal

pub generate_under-answer-requires-clause-share : goal.generate_under-answer-requires-clause-share
generate_under-answer-requires-clause-share g c κs bounds = let r = c.requires in (may-generate r.0 _ _ _ _ r.4 _ r.5).0

pub generate_under-answer-requires-clause-absent : goal.generate_under-answer-requires-clause-absent
generate_under-answer-requires-clause-absent g c κs bounds = let r = c.requires in (may-generate r.0 _ _ _ _ r.4 _ r.5).1

pub generate_under-answer-requires-clause-unit : goal.generate_under-answer-requires-clause-unit
generate_under-answer-requires-clause-unit g c = let r = c.requires in let m = (may-generate r.0 _ _ _ _ r.4 _ r.5).2 in let u = r.4.sized.units ∙ ap (λ (m : Meaning g.row.W-Part.Denot g.row.W-Fault.Denot). m.count) r.3 in omega arith

pub keep_part-requires : goal.keep_part-requires
keep_part-requires g c = let r = c.requires in let m = (may-generate r.0 _ _ _ _ r.4 _ r.5).2 in let w = r.4.sized.part_width in omega arith

pub settle-requires : goal.settle-requires
settle-requires g c = let r = c.requires in let m = (may-generate r.0 _ _ _ _ r.4 _ r.5).2 in let w = r.4.sized.width in omega arith

pub settle-requires-in-Err-Memory : goal.settle-requires-in-Err-Memory
settle-requires-in-Err-Memory g c = let r = c.requires in let m = (may-generate r.0 _ _ _ _ r.4 _ r.5).2 in let w = r.4.sized.width in omega arith

pub returns-in-Ok : goal.returns-in-Ok
returns-in-Ok g c start pool waiting same tied =
    let e = Generated c.args.unit c.in-Ok.cost in
    let meant : (g.W.Work.meaning c.args.work.now).generated c.args.unit ≡ Ok (c.in-Ok.part, c.in-Ok.cost) = subst (λ (a : Result (g.row.W-Part.Denot × ℕ) (OrMemory g.row.W-Fault.Denot)). Answers ((g.W.Work.meaning c.args.work.now).generated c.args.unit) a) c.in-Ok.is c.generate_under-answer.ensures.answer in
    tied-as start _ _ _ _ _ _ pool waiting
    (c.next.ensures.state ∙ ap (fed e (Some c.generate_under-answer.result.0)) c.keep_part.ensures)
    (ap jobs_by (c.next.ensures.actions ∙ ap (λ (b : BooksState g.row.W-Part.Denot g.row.W-Fault.Denot). actions_of true (effect e (state_of b))) c.keep_part.ensures))
    c.generate_under-answer.ensures.desk
    (generated-ties start _ c.args.unit c.args.desk.now.table c.generate_under-answer.result.0 _ pool waiting tied c.requires.5 (c.requires.6, c.requires.7) c.generate_under-answer.ensures.last (fallen-desk _ _ _ c.generate_under-answer.ensures.desk c.generate_under-answer.ensures.fall) c.in-Ok.cost c.in-Ok.part (ap (λ (m : Meaning g.row.W-Part.Denot g.row.W-Fault.Denot). m.generated c.args.unit) same ∙ meant))

pub returns-in-Err-Refused : goal.returns-in-Err-Refused
returns-in-Err-Refused g c start pool waiting same tied =
    let e = GenFailed c.args.unit in
    let meant = subst (λ (a : Result (g.row.W-Part.Denot × ℕ) (OrMemory g.row.W-Fault.Denot)). Answers ((g.W.Work.meaning c.args.work.now).generated c.args.unit) a) (c.in-Err-Refused.is ∙ ap Err c.in-Err-Refused.field-0-is) c.generate_under-answer.ensures.answer in
    tied-as start _ _ _ _ _ _ pool waiting
    (c.next-in-Err-Refused.ensures.state ∙ ap (fed e (Some c.generate_under-answer.result.0)) c.settle.ensures)
    (ap jobs_by (c.next-in-Err-Refused.ensures.actions ∙ ap (λ (b : BooksState g.row.W-Part.Denot g.row.W-Fault.Denot). actions_of true (effect e (state_of b))) c.settle.ensures))
    c.generate_under-answer.ensures.desk
    (gen_failed-ties start _ c.args.unit c.args.desk.now.table c.generate_under-answer.result.0 _ pool waiting tied c.requires.5 (c.requires.6, c.requires.7) c.generate_under-answer.ensures.last (fallen-desk _ _ _ c.generate_under-answer.ensures.desk c.generate_under-answer.ensures.fall) c.in-Err-Refused.fault (ap (λ (m : Meaning g.row.W-Part.Denot g.row.W-Fault.Denot). m.generated c.args.unit) same ∙ meant))

pub returns-in-Err-Memory : goal.returns-in-Err-Memory
returns-in-Err-Memory g c start pool waiting same tied =
    let e = Wanted c.args.unit in
    tied-as start _ _ _ _ _ _ pool waiting
    (c.next-in-Err-Memory.ensures.state ∙ ap (fed e (Some c.generate_under-answer.result.0)) c.settle-in-Err-Memory.ensures)
    (ap jobs_by (c.next-in-Err-Memory.ensures.actions ∙ ap (λ (b : BooksState g.row.W-Part.Denot g.row.W-Fault.Denot). actions_of true (effect e (state_of b))) c.settle-in-Err-Memory.ensures))
    c.generate_under-answer.ensures.desk
    (gen_wanted-ties start _ c.args.unit c.args.desk.now.table c.generate_under-answer.result.0 _ pool waiting tied c.requires.5 (c.requires.6, c.requires.7) c.generate_under-answer.ensures.last (fallen-desk _ _ _ c.generate_under-answer.ensures.desk c.generate_under-answer.ensures.fall))

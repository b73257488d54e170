use Rattle.std.proofs.Common.{◌||◌, ℕ, List, length, Result, Err, Some, true, ap, subst, ◌∙◌, arith}
use Rattle.coord_core.specs.declared.event.Event.TheVariants.{Made, MakeFailed, Wanted}
use Rattle.coord_core.specs.State.{is_gen, runs}
use Rattle.coord_core.specs.Effect.{effect}
use Rattle.coord_core.specs.Decide.{actions_of}
use Rattle.coord_core.specs.Journal.{jobs_by}
use Rattle.lar_bytes.specs.declared.memory.OrMemory.{OrMemory}
use Rattle.coord_run.specs.Meaning.{Meaning, Answers}
use Rattle.coord_run.specs.Books.{BooksState, fed, state_of, settled}
use Rattle.coord_run.proofs.EventLemmas.{may-collect, runs-at, or-last}
use Rattle.coord_run.proofs.UnitLemmas.{made-ties, make_failed-ties, make_wanted-ties}
use Rattle.coord_run.proofs.DispatchLemmas.{tied-as, fallen-desk}
use Rattle.coord_run.proofs.answering.collect.Goals as goal

pub count-requires : goal.count-requires
count-requires g c = let r = c.requires in let m = (may-collect r.0 _ _ _ _ r.3 _ c.receive-unit.ensures.out).3 in let o = c.receive-unit.ensures.once in omega arith

pub settle-requires : goal.settle-requires
settle-requires g c = let r = c.requires in let m = (may-collect r.0 _ _ _ _ r.3 _ c.receive-unit.ensures.out).1 in let n = r.3.sized.width in let e = ap (λ (z : BooksState g.row.W-Part.Denot g.row.W-Fault.Denot). length z.outcomes) c.count.ensures in omega arith

pub settle-requires-in-Err-Refused : goal.settle-requires-in-Err-Refused
settle-requires-in-Err-Refused g c = let r = c.requires in let m = (may-collect r.0 _ _ _ _ r.3 _ c.receive-unit.ensures.out).1 in let n = r.3.sized.width in let e = ap (λ (z : BooksState g.row.W-Part.Denot g.row.W-Fault.Denot). length z.outcomes) c.count.ensures in omega arith

pub settle-requires-in-Err-Memory : goal.settle-requires-in-Err-Memory
settle-requires-in-Err-Memory g c = let r = c.requires in let m = (may-collect r.0 _ _ _ _ r.3 _ c.receive-unit.ensures.out).1 in let n = r.3.sized.width in let e = ap (λ (z : BooksState g.row.W-Part.Denot g.row.W-Fault.Denot). length z.outcomes) c.count.ensures in omega arith

pub next-requires-clause-awaited : goal.next-requires-clause-awaited
next-requires-clause-awaited g c =
    let r = c.requires in
    ap (λ (z : BooksState g.row.W-Part.Denot g.row.W-Fault.Denot). runs c.receive-unit.result.unit (state_of z).running) (c.settle.ensures ∙ ap (settled _ _) c.count.ensures) ∙ runs-at r.0 _ _ _ _ r.3 _ c.receive-unit.ensures.out

pub next-requires-in-Err-Refused-clause-awaited : goal.next-requires-in-Err-Refused-clause-awaited
next-requires-in-Err-Refused-clause-awaited g c =
    let r = c.requires in
    ap (λ (z : BooksState g.row.W-Part.Denot g.row.W-Fault.Denot). runs c.receive-unit.result.unit (state_of z).running) (c.settle-in-Err-Refused.ensures ∙ ap (settled _ _) c.count.ensures) ∙ runs-at r.0 _ _ _ _ r.3 _ c.receive-unit.ensures.out

pub next-requires-in-Err-Memory-clause-awaited : goal.next-requires-in-Err-Memory-clause-awaited
next-requires-in-Err-Memory-clause-awaited g c =
    let r = c.requires in
    ap (λ (z : BooksState g.row.W-Part.Denot g.row.W-Fault.Denot). is_gen c.receive-unit.result.unit (state_of z).gen || runs c.receive-unit.result.unit (state_of z).running) (c.settle-in-Err-Memory.ensures ∙ ap (settled _ _) c.count.ensures) ∙ or-last _ _ (runs-at r.0 _ _ _ _ r.3 _ c.receive-unit.ensures.out)

pub returns-in-Ok-clause-keeps : goal.returns-in-Ok-clause-keeps
returns-in-Ok-clause-keeps g c start pool same tied =
    let e = Made c.receive-unit.result.unit in
    let books = c.settle.ensures ∙ ap (settled _ _) c.count.ensures in
    let meant = subst (λ (a : Result (List ℕ) (OrMemory g.row.W-Fault.Denot)). Answers ((g.W.Work.meaning c.args.lanes.now.work).made c.receive-unit.result.unit) a) c.in-Ok.is c.receive-unit.ensures.answer in
    tied-as start _ _ _ _ _ _ pool _
    (c.next.ensures.state ∙ ap (fed e (Some c.receive-unit.result.reading)) books)
    (ap jobs_by (c.next.ensures.actions ∙ ap (λ (b : BooksState g.row.W-Part.Denot g.row.W-Fault.Denot). actions_of true (effect e (state_of b))) books))
    c.receive-unit.ensures.desk
    (made-ties start _ c.receive-unit.result.unit c.receive-unit.result.makes c.args.desk.now.table c.receive-unit.result.reading _ pool _ _ tied c.receive-unit.ensures.out (c.requires.5, c.requires.4, c.requires.7) c.receive-unit.ensures.once c.receive-unit.ensures.waiting c.receive-unit.ensures.last (fallen-desk _ _ _ c.receive-unit.ensures.desk c.receive-unit.ensures.fall) _ (ap (λ (m : Meaning g.row.W-Part.Denot g.row.W-Fault.Denot). m.made c.receive-unit.result.unit) same ∙ meant))

pub returns-in-Err-Refused-clause-keeps : goal.returns-in-Err-Refused-clause-keeps
returns-in-Err-Refused-clause-keeps g c start pool same tied =
    let e = MakeFailed c.receive-unit.result.unit in
    let books = c.settle-in-Err-Refused.ensures ∙ ap (settled _ _) c.count.ensures in
    let meant = subst (λ (a : Result (List ℕ) (OrMemory g.row.W-Fault.Denot)). Answers ((g.W.Work.meaning c.args.lanes.now.work).made c.receive-unit.result.unit) a) (c.in-Err-Refused.is ∙ ap Err c.in-Err-Refused.field-0-is) c.receive-unit.ensures.answer in
    tied-as start _ _ _ _ _ _ pool _
    (c.next-in-Err-Refused.ensures.state ∙ ap (fed e (Some c.receive-unit.result.reading)) books)
    (ap jobs_by (c.next-in-Err-Refused.ensures.actions ∙ ap (λ (b : BooksState g.row.W-Part.Denot g.row.W-Fault.Denot). actions_of true (effect e (state_of b))) books))
    c.receive-unit.ensures.desk
    (make_failed-ties start _ c.receive-unit.result.unit c.receive-unit.result.makes c.args.desk.now.table c.receive-unit.result.reading _ pool _ _ tied c.receive-unit.ensures.out (c.requires.5, c.requires.4, c.requires.7) c.receive-unit.ensures.once c.receive-unit.ensures.waiting c.receive-unit.ensures.last (fallen-desk _ _ _ c.receive-unit.ensures.desk c.receive-unit.ensures.fall) _ (ap (λ (m : Meaning g.row.W-Part.Denot g.row.W-Fault.Denot). m.made c.receive-unit.result.unit) same ∙ meant))

pub returns-in-Err-Memory-clause-keeps : goal.returns-in-Err-Memory-clause-keeps
returns-in-Err-Memory-clause-keeps g c start pool same tied =
    let e = Wanted c.receive-unit.result.unit in
    let books = c.settle-in-Err-Memory.ensures ∙ ap (settled _ _) c.count.ensures in
    tied-as start _ _ _ _ _ _ pool _
    (c.next-in-Err-Memory.ensures.state ∙ ap (fed e (Some c.receive-unit.result.reading)) books)
    (ap jobs_by (c.next-in-Err-Memory.ensures.actions ∙ ap (λ (b : BooksState g.row.W-Part.Denot g.row.W-Fault.Denot). actions_of true (effect e (state_of b))) books))
    c.receive-unit.ensures.desk
    (make_wanted-ties start _ c.receive-unit.result.unit c.receive-unit.result.makes c.args.desk.now.table c.receive-unit.result.reading _ pool _ _ tied c.receive-unit.ensures.out (c.requires.5, c.requires.4, c.requires.7) c.receive-unit.ensures.once c.receive-unit.ensures.waiting c.receive-unit.ensures.last (fallen-desk _ _ _ c.receive-unit.ensures.desk c.receive-unit.ensures.fall))

use Rattle.std.proofs.Common.{◌≡◌, ℕ, Bool, ap, ◌∙◌}
use Rattle.unit_ir.specs.StmtView.{stmts_view}
use Rattle.unit_ir.specs.Units.{PlainFn, fn_view}
use Rattle.opt_slots.specs.Loads.{stmts_loads}
use Rattle.opt_slots.specs.Slots.{slots_of, also}
use Rattle.opt_slots.proofs.Slots.{no_slot-also}
use Rattle.opt_dead.specs.Dead.{dead_stmts}
use Rattle.opt_dead.proofs.functions.dead_fn.Goals as goal

pub returns : goal.returns
returns c =
    let loads : ℕ → Bool = stmts_loads (stmts_view c.args.function.body) in
    let found : slots_of c.note_loads.new.loaded ≡ loads =
    c.note_loads.ensures
    ∙ ap (λ a. also a (stmts_loads (stmts_view c.as_slice.result.now))) c.empty-loaded.ensures
    ∙ no_slot-also (stmts_loads (stmts_view c.as_slice.result.now))
    ∙ ap (λ ss. stmts_loads (stmts_view ss)) c.as_slice.ensures in
    ap
    (λ body. let f : PlainFn = record (fn_view c.args.function) { body = body } in f)
    (c.in_ok-body.ensures ∙ ap (λ a. dead_stmts a (stmts_view c.args.function.body)) found)

use Rattle.std.proofs.Common.{◌≡◌, ◌+◌, ◌<◌, ◌≤◌, length, true, sym, ap, ◌∙◌, subst}
use Rattle.coord_core.specs.State.{State, one_some}
use Rattle.coord_core.specs.Decide.{is_free, start, give}
use Rattle.coord_core.specs.Board.{state_of}
use Rattle.coord_core.proofs.Stages.{start_room, slot_most, slot_room}
use Rattle.coord_core.proofs.board.Board.decide.Goals as goal

pub start-start-requires-clause-fits : goal.start-start-requires-clause-fits
start-start-requires-clause-fits c = subst (λ (s : State). length s.running + one_some s.spare ≤ 64) (sym c.pass-pass.ensures.state) (start_room (state_of c.args.self.now) c.requires.bound c.requires.lanes)

pub fill_slot-main-requires-clause-most : goal.fill_slot-main-requires-clause-most
fill_slot-main-requires-clause-most c =
    let is = c.give-give.ensures.state ∙ ap give (c.start-start.ensures.state ∙ ap start c.pass-pass.ensures.state) in
    subst (λ (s : State). length s.running ≤ 64) (sym is) (slot_most (state_of c.args.self.now) c.requires.bound c.requires.lanes)

pub fill_slot-main-requires-clause-fits : goal.fill_slot-main-requires-clause-fits
fill_slot-main-requires-clause-fits c =
    let is = c.give-give.ensures.state ∙ ap give (c.start-start.ensures.state ∙ ap start c.pass-pass.ensures.state) in
    subst (λ (s : State). is_free s ≡ true → length s.running < 64) (sym is) (slot_room (state_of c.args.self.now) c.requires.bound c.requires.lanes)

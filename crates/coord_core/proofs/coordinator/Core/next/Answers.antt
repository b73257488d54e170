use Rattle.std.proofs.Common.{◌≡◌, ℕ, true, Bool, List, Option, vec_capacity, sym, ap, ◌∙◌, subst, arith}
use Rattle.coord_core.specs.declared.event.Event.{Event}
use Rattle.coord_core.specs.declared.terms.Terms.{Terms}
use Rattle.coord_core.specs.State.{State}
use Rattle.coord_core.specs.Effect.{effect}
use Rattle.coord_core.specs.Decide.{may_ask, decided, actions_of}
use Rattle.coord_core.specs.Run.{step, run, is_awaited}
use Rattle.coord_core.specs.Journal.{failed_by, lesser_by}
use Rattle.coord_core.specs.Laws.{Bounded, Fits}
use Rattle.coord_core.specs.Board.{state_of}
use Rattle.coord_core.specs.Core.{CoreState, core_state, state_in, after_event, IsCore}
use Rattle.coord_core.proofs.Budget.{fits}
use Rattle.coord_core.proofs.Continued.{bounded-told, fits-told, room-told, terms-step, core-told}
use Rattle.coord_core.proofs.coordinator.Core.next.Goals as goal

pub take_in-requires-clause-fits : goal.take_in-requires-clause-fits
take_in-requires-clause-fits c =
    let b = c.self.inside.board in let i = c.self.invariant.0 in
    subst (λ (s : State). Fits b.terms.units s) (sym i.state) (fits b.terms c.self.inside.journal.items i.lawful)

pub decide-actions-requires-clause-fits : goal.decide-actions-requires-clause-fits
decide-actions-requires-clause-fits c =
    let b = c.self.inside.board in let i = c.self.invariant.0 in let e = c.args.event in
    let out = subst (λ (v : CoreState). is_awaited (state_in v) e ≡ true) (sym c.self.view_is) c.requires in
    subst (λ (s : State). Fits s.terms.units s) (sym (c.take_in.ensures.state ∙ ap (effect e) i.state)) (fits-told b.terms c.self.inside.journal.items e i.lawful out)

pub decide-actions-requires-clause-bound : goal.decide-actions-requires-clause-bound
decide-actions-requires-clause-bound c =
    let b = c.self.inside.board in let i = c.self.invariant.0 in let e = c.args.event in
    let out = subst (λ (v : CoreState). is_awaited (state_in v) e ≡ true) (sym c.self.view_is) c.requires in
    subst (λ (s : State). Bounded s.terms.lanes s) (sym (c.take_in.ensures.state ∙ ap (effect e) i.state)) (bounded-told b.terms c.self.inside.journal.items e i.lawful out i.some_lane)

pub push_reserved-requires : goal.push_reserved-requires
push_reserved-requires c =
    let b = c.self.inside.board in let j = c.self.inside.journal in let i = c.self.invariant.0 in let e = c.args.event in
    let out = subst (λ (v : CoreState). is_awaited (state_in v) e ≡ true) (sym c.self.view_is) c.requires in
    let r = room-told b.terms j.items e i.lawful out in
    let l = j.ok.0 in let k = i.room in omega arith

pub invariant_of-self : goal.invariant_of-self
invariant_of-self c =
    let b = c.self.inside.board in let j = c.self.inside.journal in let i = c.self.invariant.0 in let e = c.args.event in
    let out = subst (λ (v : CoreState). is_awaited (state_in v) e ≡ true) (sym c.self.view_is) c.requires in
    let stepped = c.decide-actions.ensures.state ∙ ap (λ (m : Bool). decided m (state_of c.take_in.new.self)) c.may_ask.ensures ∙ ap (decided (may_ask e)) (c.take_in.ensures.state ∙ ap (effect e) i.state) in
    let kept = c.push_reserved.ensures.capacity in let k = i.room in
    let told = core-told b.terms j.items e i.lawful out i.some_lane i.most_lanes (vec_capacity c.push_reserved.new.self) (omega arith) c.self.inside.failure i.failure_is in (
      subst (λ (s : State). IsCore s c.lesser_failure-self-inside.result c.push_reserved.new.self.items (vec_capacity c.push_reserved.new.self)) (sym stepped)
          (subst (λ (o : Option ℕ). IsCore (step (run b.terms j.items) e) o c.push_reserved.new.self.items (vec_capacity c.push_reserved.new.self)) (sym c.lesser_failure-self-inside.ensures)
          (subst (λ (l : List Event). IsCore (step (run b.terms j.items) e) (lesser_by (failed_by e) c.self.inside.failure) l (vec_capacity c.push_reserved.new.self)) (sym c.push_reserved.ensures.items) told)),
      c.decide-actions.ensures.room,
    )

pub returns-clause-journal : goal.returns-clause-journal
returns-clause-journal c =
    let b = c.self.inside.board in let j = c.self.inside.journal in let i = c.self.invariant.0 in let e = c.args.event in
    let out = subst (λ (v : CoreState). is_awaited (state_in v) e ≡ true) (sym c.self.view_is) c.requires in
    let stepped = c.decide-actions.ensures.state ∙ ap (λ (m : Bool). decided m (state_of c.take_in.new.self)) c.may_ask.ensures ∙ ap (decided (may_ask e)) (c.take_in.ensures.state ∙ ap (effect e) i.state) in
    let terms = ap (λ (s : State). s.terms) stepped ∙ terms-step b.terms j.items e i.lawful out in
    let items = c.push_reserved.new.self.items in
    ap (λ (t : Terms). core_state t items) terms
    ∙ ap (λ (l : List Event). core_state b.terms l) c.push_reserved.ensures.items
    ∙ ap (λ (v : CoreState). after_event e v) c.self.view_is

pub returns-clause-actions : goal.returns-clause-actions
returns-clause-actions c =
    let i = c.self.invariant.0 in let e = c.args.event in
    c.decide-actions.ensures.actions
    ∙ ap (λ (m : Bool). actions_of m (state_of c.take_in.new.self)) c.may_ask.ensures
    ∙ ap (actions_of (may_ask e)) (c.take_in.ensures.state ∙ ap (effect e) i.state)
    ∙ ap (λ (v : CoreState). actions_of (may_ask e) (effect e (state_in v))) c.self.view_is

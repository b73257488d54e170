use Rattle.std.proofs.Common.{◌≡◌, true, [], sym, ap, subst, ◌∙◌, arith}
use Rattle.coord_core.specs.State.{State}
use Rattle.coord_core.specs.Effect.{effect}
use Rattle.coord_core.specs.Decide.{may_ask, actions_of}
use Rattle.coord_core.specs.Run.{run, is_awaited}
use Rattle.coord_core.specs.Core.{state_in}
use Rattle.coord_run.specs.Books.{state_of}
use Rattle.coord_run.proofs.Runs.{entry-room, fed-books}
use Rattle.coord_run.proofs.books.Books.next.Goals as goal

pub next-actions-requires : goal.next-actions-requires
next-actions-requires g c =
    let at : state_in c.self.inside.core ≡ state_of c.args.self.now = ap (run c.self.inside.core.terms) c.self.invariant.journal ∙ ap state_of c.self.view_is in
    subst (λ (s : State). is_awaited s c.args.event ≡ true) (sym at) c.requires.awaited

pub push_reserved-requires : goal.push_reserved-requires
push_reserved-requires g c =
    let at : state_in c.self.inside.core ≡ state_of c.args.self.now = ap (run c.self.inside.core.terms) c.self.invariant.journal ∙ ap state_of c.self.view_is in
    let r = entry-room _ _ _ _ _ _ _ c.args.event c.self.invariant (subst (λ (s : State). is_awaited s c.args.event ≡ true) (sym at) c.requires.awaited) in
    let l = c.self.inside.journal.ok.0 in omega arith

pub invariant_of-self : goal.invariant_of-self
invariant_of-self g c =
    let at : state_in c.self.inside.core ≡ state_of c.args.self.now = ap (run c.self.inside.core.terms) c.self.invariant.journal ∙ ap state_of c.self.view_is in
    let h = fed-books _ _ _ _ _ _ _ (record { event = c.args.event; reading = c.args.reading }) c.self.invariant (subst (λ (s : State). is_awaited s c.args.event ≡ true) (sym at) c.requires.awaited) (subst (λ (s : State). (effect c.args.event s).giving ≡ []) (sym at) c.requires.giving) in
    simp (c.next-actions.ensures.journal, c.push_reserved.ensures.items, c.push_reserved.ensures.capacity, c.after-self-inside.ensures, c.next-actions.ensures.actions) h

pub returns-clause-actions : goal.returns-clause-actions
returns-clause-actions g c =
    let at : state_in c.self.inside.core ≡ state_of c.args.self.now = ap (run c.self.inside.core.terms) c.self.invariant.journal ∙ ap state_of c.self.view_is in
    c.next-actions.ensures.actions ∙ ap (λ (s : State). actions_of (may_ask c.args.event) (effect c.args.event s)) at

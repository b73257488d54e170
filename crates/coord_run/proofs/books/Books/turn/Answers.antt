use Rattle.std.proofs.Common.{◌≡◌, Bool, ap, subst, ◌∙◌}
use Rattle.coord_core.specs.State.{State}
use Rattle.coord_core.specs.Run.{run}
use Rattle.coord_core.specs.Core.{state_in}
use Rattle.coord_run.specs.Turns.{ask_first}
use Rattle.coord_run.specs.Pending.{IsPending}
use Rattle.coord_run.specs.Books.{state_of, ask_first_of}
use Rattle.coord_run.proofs.books.Books.turn.Goals as goal

pub returns : goal.returns
returns g c =
    let core = c.self.inside.core in
    let at : state_in core ≡ state_of c.args.self.now = ap (run core.terms) c.self.invariant.journal ∙ ap state_of c.self.view_is in
    let first : ask_first core.terms core.journal ≡ ask_first_of c.args.self.now = ap (ask_first core.terms) c.self.invariant.journal ∙ ap ask_first_of c.self.view_is in
    c.turn.ensures _ _ (subst (λ (f : Bool). IsPending (state_of c.args.self.now) f c.self.inside.pending) first (subst (λ (s : State). IsPending s (ask_first core.terms core.journal) c.self.inside.pending) at c.self.invariant.pending_is))

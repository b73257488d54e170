use Rattle.std.proofs.Common.{◌≡◌, ◌<◌, ◌∷◌, [], length, sym, subst}
use Rattle.lar_names.specs.Scopes.{list_at, within}
use Rattle.lar_names.proofs.Numbers.{number_found}
use Rattle.lar_names.proofs.ScopeFacts.{new_number}
use Rattle.lar_names.proofs.scopes.Scopes.enter.Goals as goal

pub returns-in-Some-clause-number : goal.returns-in-Some-clause-number
returns-in-Some-clause-number c = number_found c.args.self.now (within (list_at c.args.self.now c.args.parent) c.args.name.now) c.in-Some.number (sym c.in-Some.ensures.number)

pub returns-clause-number : goal.returns-clause-number
returns-clause-number c =
    let m = within (list_at c.args.self.now c.args.parent) c.args.name.now in
    subst (λ ls. (c.len-number.result < length ls) × (list_at ls c.len-number.result ≡ m)) (sym c.in_ok-push.ensures.ok) (new_number c.args.self.now m c.len-number.result c.len-number.ensures.len)

pub returns-clause-grown : goal.returns-clause-grown
returns-clause-grown c = (within (list_at c.args.self.now c.args.parent) c.args.name.now ∷ [], c.in_ok-push.ensures.ok)

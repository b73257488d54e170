use Rattle.std.proofs.Common.{◌≡◌, length, sym, ◌∙◌, subst, arith}
use Rattle.lar_names.specs.ScopeLists.{AreInner}
use Rattle.lar_names.proofs.ScopeFacts.{lists_none, inner_one}
use Rattle.lar_names.proofs.scopes.Scopes.new.Goals as goal

pub invariant_of-result : goal.invariant_of-result
invariant_of-result c =
    let none = c.new-inner.ensures.none in
    let one = c.in_ok-open.ensures.count in
    let count : length c.open.new.self.maps.items ≡ 1 = omega (arith, none, one) in
    subst (λ ls. AreInner ls c.open.new.self.maps.items) (sym (lists_none c.new.result.items c.new.ensures.items)) (inner_one c.open.new.self.maps.items count (λ s q. c.open.ensures.look s q ∙ c.new-inner.ensures.look s q))

pub returns : goal.returns
returns c = lists_none c.new.result.items c.new.ensures.items

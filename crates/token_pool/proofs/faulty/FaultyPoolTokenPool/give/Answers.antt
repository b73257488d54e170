use Rattle.std.proofs.Common.{◌-◌, ◌≤◌, ap, sym, refl, subst, arith}
use Rattle.counting.specs.Count.{times}
use Rattle.outside.specs.CallsState.{CallsState}
use Rattle.token_pool.specs.Faulty.{FaultyState}
use Rattle.token_pool.proofs.Failing.{IsPart-room, IsStocked-more, faulty_gave}
use Rattle.token_pool.proofs.faulty.FaultyPoolTokenPool.give.Goals as goal

pub push_back_reserved-requires : goal.push_back_reserved-requires
push_back_reserved-requires g c =
    let owed = subst (λ (s : FaultyState). 1 ≤ times c.args.byte s.bytes - times c.args.byte s.free) (sym c.self.view_is) c.requires in
    let room = IsPart-room c.args.byte _ _ c.self.invariant.part owed in
    let count = c.self.invariant.count_is in
    let fits = c.self.invariant.fits in
    omega arith

pub invariant_of-self-2 : goal.invariant_of-self-2
invariant_of-self-2 g c =
    let owed = subst (λ (s : FaultyState). 1 ≤ times c.args.byte s.bytes - times c.args.byte s.free) (sym c.self.view_is) c.requires in
    let pushed = c.push_back_reserved.ensures in
    IsStocked-more _ _ _ _ _ _ _ _ c.self.invariant owed pushed.items pushed.len pushed.capacity

pub returns-clause-told : goal.returns-clause-told
returns-clause-told g c =
    let owed = subst (λ (s : FaultyState). 1 ≤ times c.args.byte s.bytes - times c.args.byte s.free) (sym c.self.view_is) c.requires in
    let after : FaultyState = record { bytes = c.self.inside.bytes.items; free = c.push_back_reserved.new.self.items; taken = c.self.inside.taken; calls = c.next_fails.new.self } in
    faulty_gave _ after _ _ c.self.view_is c.self.invariant.part owed refl c.push_back_reserved.ensures.items refl (ap (λ (k : CallsState). k.faults) c.if-next_fails.ensures.counted)

use Rattle.std.proofs.Common.{◌≡◌, ℕ, List, subst, sym, ap, ◌∙◌, arith}
use Rattle.std.specs.Prelude.{Some}
use Rattle.stack_vm.specs.Operation.{IsThere}
use Rattle.stack_vm.specs.Sound.{IsFine}
use Rattle.stack_vm.specs.Standing.{height}
use Rattle.stack_vm.specs.declared.operation.Operation.{Operation}
use Rattle.stack_vm.proofs.Listing.{there_one}
use Rattle.stack_vm.proofs.Places.{at_greatest, at_within}
use Rattle.stack_vm.proofs.machine.fetch.Goals as goal

pub read-requires : goal.read-requires
read-requires c =
    let fine = c.requires.stands.sound.each c.args.state.place _ c.requires.stands.here in
    (fine.0, subst (λ (code : List ℕ). IsThere code c.args.state.place fine.0) (sym c.requires.code) fine.1.there)

pub returns-clause-is : goal.returns-clause-is
returns-clause-is c =
    let fine = c.requires.stands.sound.each c.args.state.place _ c.requires.stands.here in
    let same : fine.0 ≡ c.read.result = there_one c.args.code.now c.args.state.place fine.0 c.read.result (subst (λ (code : List ℕ). IsThere code c.args.state.place fine.0) (sym c.requires.code) fine.1.there) c.read.ensures in
    fine.1.at ∙ ap (λ (i : Operation). Some i) same

pub returns-clause-next : goal.returns-clause-next
returns-clause-next c =
    let fs = c.args.functions.now in
    let f = c.args.function.now in
    let s = c.args.state in
    let fine = c.requires.stands.sound.each s.place _ c.requires.stands.here in
    let same : fine.0 ≡ c.read.result = there_one c.args.code.now s.place fine.0 c.read.result (subst (λ (code : List ℕ). IsThere code s.place fine.0) (sym c.requires.code) fine.1.there) c.read.ensures in
    record {
      fine = subst (λ (i : Operation). IsFine fs f s.place (height f s) i) same fine.1.fine;
      below = omega (arith, c.requires.stands.room, c.requires.stands.above, at_greatest fs f s.place _ c.requires.stands.here);
      short = omega (arith, at_within fs f s.place _ c.requires.stands.here, c.requires.stands.own.short);
      room = λ place h a. omega (arith, c.requires.stands.room, at_greatest fs f place h a);
    }

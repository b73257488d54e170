use Rattle.std.proofs.Common.{ℕ, ◌+◌, ◌<◌, ◌≤◌, List, length, Option, sym, ap, subst, arith, refl}
use Rattle.stack_vm.specs.Operation.{IsThere}
use Rattle.stack_vm.specs.Sweep.{Swept}
use Rattle.stack_vm.proofs.Listing.{whole_front}
use Rattle.stack_vm.proofs.Swept.{swept_more, swept_all, ends_within}
use Rattle.stack_vm.proofs.sweeping.sweep.Goals as goal

pub read-requires : goal.read-requires
read-requires c =
    let s = c.loop-offset.invariant in
    let offset = c.loop-offset.offset in
    let code = c.args.function.now.code in
    let lt : offset < length code = omega (arith, c.loop-offset-test.true, ap length c.requires.code) in
    let front = whole_front s.whole.0 code offset lt s.whole.1 in
    (front.0, subst (λ (bs : List ℕ). IsThere bs offset front.0) (sym c.requires.code) front.1.there)

pub is_free-requires : goal.is_free-requires
is_free-requires c =
    let s = c.loop-offset.invariant in
    let offset = c.loop-offset.offset in
    let fs = c.args.functions.now in
    let f = c.args.function.now in
    let lt : offset < length f.code = omega (arith, c.loop-offset-test.true, ap length c.requires.code) in
    let there : IsThere f.code offset c.read.result = subst (λ (bs : List ℕ). IsThere bs offset c.read.result) c.requires.code c.read.ensures in
    let end = ends_within fs f offset c.loop-offset.handed c.loop-offset.most c.loop-offset.noted c.read.result c.in_ok-way.way.size s lt there c.in_ok-way.ensures.size in
    (end.0, omega (arith, end.1, s.long, c.bring.auto.noted, c.arrive.auto.noted))

pub loop-offset-preserved : goal.loop-offset-preserved
loop-offset-preserved c =
    let s = c.loop-offset.invariant in
    let offset = c.loop-offset.offset in
    let fs = c.args.functions.now in
    let f = c.args.function.now in
    let way = c.in_ok-way.way in
    let lt : offset < length f.code = omega (arith, c.loop-offset-test.true, ap length c.requires.code) in
    let there : IsThere f.code offset c.read.result = subst (λ (bs : List ℕ). IsThere bs offset c.read.result) c.requires.code c.read.ensures in
    let more =
    swept_more fs f offset c.loop-offset.handed c.loop-offset.most c.loop-offset.noted c.read.result c.in_ok-height.height c.arrive.new.noted way c.bring.new.noted
    s lt c.requires.short there c.in_ok-height.ensures c.in_ok-way.ensures (c.if-not-bring.ensures refl) (λ t a b. c.if-not-is_free.ensures refl t a b) in
    subst (λ (n : ℕ). Swept fs f (offset + way.size) way.handed n c.bring.new.noted) (sym c.larger-most.ensures) more

pub returns-in-None : goal.returns-in-None
returns-in-None c at =
    let past : length c.args.function.now.code ≤ c.loop-offset.offset = omega (arith, c.loop-offset-test.false, ap length c.requires.code) in
    let s = subst (λ (o : Option ℕ). Swept c.args.functions.now c.args.function.now c.loop-offset.offset o c.loop-offset.most c.loop-offset.noted) c.in-None.is c.loop-offset.invariant in
    swept_all c.args.functions.now c.args.function.now c.loop-offset.offset c.loop-offset.most c.loop-offset.noted s past at

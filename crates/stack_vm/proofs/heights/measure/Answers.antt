use Rattle.std.proofs.Common.{◌≡◌, ℕ, ◌+◌, ◌*◌, ◌<◌, ◌≤◌, ◌++◌, ◌∷◌, [], List, length, slice_index, get_or, take, arith, sym, ◌∙◌, ap, pos}
use Rattle.std.specs.Prelude.{max}
use Rattle.std.proofs.lemmas.List.{take_more}
use Rattle.std.proofs.lemmas.Option.{slice_get-get_or}
use Rattle.stack_vm.specs.Heights.{reached, at_start, here, next, Before, heights, left_by}
use Rattle.stack_vm.specs.declared.operation.Operation.TheVariants.{Push8}
use Rattle.stack_vm.specs.declared.operation.Placed.{Placed}
use Rattle.stack_vm.proofs.Measuring.{reached_more, heights_more, greatest_more, here_is, here_low, shown_higher}
use Rattle.stack_vm.proofs.heights.measure.Goals as goal

pub loop-placed-preserved : goal.loop-placed-preserved
loop-placed-preserved c =
    let fs = c.args.functions.now in
    let place = c.loop-placed.placed-index in
    let all = c.args.listed.now in
    let nothing : Placed = record { offset = 0; operation = Push8 (pos 0) } in
    let p : Placed = get_or all place nothing in
    let b : Before = reached fs at_start (take place all) in
    let low : 255 * place + 255 < 4294967295 = omega (arith, c.requires.few, c.loop-placed-test.true) in
    let lt : place < length all = c.loop-placed-test.true in
    let there : p.offset < length c.loop-placed.brought = omega (arith, c.requires.places place p (slice_get-get_or all place nothing lt), c.loop-placed.invariant.numbers) in
    let h : c.here-height.result ≡ here b p.offset = here_is c.loop-placed.before b p.offset c.here-height.result (slice_index c.loop-placed.brought p.offset) (255 * place) c.loop-placed.invariant.handed c.here-height.ensures.some c.here-height.ensures.none (c.loop-placed.invariant.brought.each p.offset there) (c.loop-placed.invariant.brought.small p.offset) (omega arith) in
    let small : here b p.offset ≤ 255 * place = here_low b p.offset (255 * place) (λ n e. c.loop-placed.invariant.few n (c.loop-placed.invariant.handed ∙ e)) (c.loop-placed.invariant.brought.small p.offset) in
    let front : take (place + 1) all ≡ take place all ++ p ∷ [] = take_more all place nothing lt in
    let more : reached fs at_start (take (place + 1) all) ≡ next fs b p = ap (λ (ps : List Placed). reached fs at_start ps) front ∙ reached_more fs at_start (take place all) p in
    let higher : heights fs at_start (take (place + 1) all) ≡ heights fs at_start (take place all) ++ (p.offset, c.here-height.result) ∷ [] = ap (λ (ps : List Placed). heights fs at_start ps) front ∙ heights_more fs at_start (take place all) p ∙ ap (λ (n : ℕ). heights fs at_start (take place all) ++ (p.offset, n) ∷ []) (sym h) in
    let left : c.leaves-left.result ≡ left_by fs p.operation (here b p.offset) = c.leaves-left.ensures.left ∙ ap (λ (n : ℕ). left_by fs p.operation n) h in
    let below : c.leaves-left.result ≤ 255 * (place + 1) = omega (arith, c.leaves-left.ensures.small) in
    record {
      numbers = omega arith;
      handed = rw (more, ← left) c.handed-before.ensures.on;
      few = λ n e. omega (arith, below, c.handed-before.ensures.same n e);
      brought = rw (more, ← left) (c.bring.ensures b.jumps (255 * (place + 1)) (shown_higher b.jumps c.loop-placed.brought (255 * place) (255 * (place + 1)) c.loop-placed.invariant.brought (omega arith)) below (omega arith));
      found = rw higher (c.note.ensures (heights fs at_start (take place all)) (255 * (place + 1)) (shown_higher _ c.loop-placed.found (255 * place) (255 * (place + 1)) c.loop-placed.invariant.found (omega arith)) (omega arith) (omega arith));
      most = rw higher (c.larger-most.ensures ∙ ap (λ (n : ℕ). max n c.here-height.result) c.loop-placed.invariant.most ∙ sym (greatest_more (heights fs at_start (take place all)) p.offset c.here-height.result));
    }

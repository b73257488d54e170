use Rattle.std.proofs.Common.{◌≡◌, ℕ, ◌+◌, ◌<◌, ◌||◌, ◌++◌, ◌∷◌, [], List, length, get_or, take, pos, arith, sym, ◌∙◌, ap, Bool}
use Rattle.std.proofs.lemmas.List.{take_more}
use Rattle.stack_vm.specs.Heights.{left_by, jumps_to, first_at}
use Rattle.stack_vm.specs.Faults.{brings_other, is_crossed, height_at}
use Rattle.stack_vm.specs.declared.operation.Operation.TheVariants.{Push8}
use Rattle.stack_vm.specs.declared.operation.Placed.{Placed}
use Rattle.stack_vm.proofs.Crossed.{crossed_more}
use Rattle.stack_vm.proofs.crossing.cross.Goals as goal

pub leaves-left-requires : goal.leaves-left-requires
leaves-left-requires c =
    let shown = c.height_of-height.ensures c.requires.shown.0 _ c.requires.shown.1 (omega arith) in
    omega (arith, shown.1)

pub loop-placed-preserved : goal.loop-placed-preserved
loop-placed-preserved c =
    let fs = c.args.functions.now in
    let place = c.loop-placed.placed-index in
    let all = c.args.listed.now in
    let nothing : Placed = record { offset = 0; operation = Push8 (pos 0) } in
    let p : Placed = get_or all place nothing in
    let lt : place < length all = c.loop-placed-test.true in
    let front : take (place + 1) all ≡ take place all ++ p ∷ [] = take_more all place nothing lt in
    record {
      long = omega (arith, c.loop-placed.invariant.long);
      seen = λ pairs shown t h.
          let height = c.height_of-height.ensures pairs _ shown (omega arith) in
          let left : c.leaves-left.result ≡ left_by fs p.operation (height_at pairs p.offset) = c.leaves-left.ensures.left ∙ ap (λ (n : ℕ). left_by fs p.operation n) height.0 in
          c.note.ensures pairs _ shown (omega arith) t (omega (arith, c.loop-placed.invariant.long, h))
          ∙ (ap (λ (b : Bool). b || brings_other (jumps_to p.operation) c.leaves-left.result (first_at pairs t) t) (c.loop-placed.invariant.seen pairs shown t h)
          ∙ (ap (λ (n : ℕ). is_crossed fs pairs t (take place all) || brings_other (jumps_to p.operation) n (first_at pairs t) t) left
          ∙ (sym (crossed_more fs pairs t (take place all) p)
          ∙ ap (λ (xs : List Placed). is_crossed fs pairs t xs) (sym front))));
    }

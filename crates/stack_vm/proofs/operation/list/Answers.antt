use Rattle.std.proofs.Common.{◌≡◌, ℕ, List, ◌+◌, ◌∷◌, [], ◌++◌, drop, sym, ap, ◌∙◌, append_assoc, append-nil, subst, arith}
use Rattle.std.specs.Prelude.{None}
use Rattle.std.proofs.lemmas.List.{drop_all}
use Rattle.object_format.specs.Reading.{code_fault}
use Rattle.stack_vm.specs.Operation.{placed, size, operations}
use Rattle.stack_vm.specs.declared.operation.Operation.{Operation}
use Rattle.stack_vm.specs.declared.operation.Placed.{Placed}
use Rattle.stack_vm.proofs.Listing.{whole_front, there_one}
use Rattle.stack_vm.proofs.operation.list.Goals as goal

pub read-operation-requires : goal.read-operation-requires
read-operation-requires c =
    let front = whole_front c.loop-offset.invariant.whole.0 c.args.code.now c.loop-offset.offset c.loop-offset-test.true c.loop-offset.invariant.whole.1 in
    (front.0, front.1.there)

pub loop-offset-preserved : goal.loop-offset-preserved
loop-offset-preserved c =
    let code = c.args.code.now in
    let offset = c.loop-offset.offset in
    let count = c.loop-offset.invariant.whole.0 in
    let front = whole_front count code offset c.loop-offset-test.true c.loop-offset.invariant.whole.1 in
    let same : front.0 ≡ c.read-operation.result = there_one code offset front.0 c.read-operation.result front.1.there c.read-operation.ensures in
    let end : offset + size front.0 ≡ offset + c.size-offset.result = ap (λ (i : Operation). offset + size i) same ∙ ap (λ (k : ℕ). offset + k) (sym c.size-offset.ensures) in
    let old = c.loop-offset.listed.items in
    let p : Placed = record { offset = offset; operation = c.read-operation.result } in
    let after : List Placed = placed (offset + c.size-offset.result) 0 (drop (offset + c.size-offset.result) code) in
    let split : placed offset 0 (drop offset code) ≡ p ∷ after = front.1.placed ∙ ap (λ (k : ℕ). record { offset = offset; operation = front.0 } ∷ placed k 0 (drop k code)) end ∙ ap (λ (i : Operation). record { offset = offset; operation = i } ∷ after) same in
    record {
      within = omega (arith, front.1.long, end);
      whole = (count, subst (λ (k : ℕ). code_fault count k (drop k code) ≡ None) end front.1.whole);
      all = rw c.in_ok-push.ensures.items (append_assoc old (p ∷ []) after ∙ ap (λ (ps : List Placed). old ++ ps) (sym split) ∙ c.loop-offset.invariant.all);
    }

pub returns : goal.returns
unfolding operations
returns c =
    let nothing : drop c.loop-offset.offset c.args.code.now ≡ [] = drop_all c.loop-offset.offset c.args.code.now c.loop-offset-test.false in
    sym (append-nil c.loop-offset.listed.items) ∙ ap (λ (bs : List ℕ). c.loop-offset.listed.items ++ placed c.loop-offset.offset 0 bs) (sym nothing) ∙ c.loop-offset.invariant.all

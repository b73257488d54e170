-- The operations of code, one after the other.
use Rattle.std.proofs.Common.{◌≡◌, ℕ, ◌+◌, ◌<◌, ◌≤◌, List, [], ◌∷◌, ◌++◌, length, take, drop, Option, Some, None, ltb, refl, sym, ap, ◌∙◌, arith, inl, inr}
use Rattle.std.specs.Prelude.{slice_index}
use Rattle.std.proofs.lemmas.Bool.{ltb-false, cases_Bool}
use Rattle.std.proofs.lemmas.List.{length-drop, drop-drop, drop_more}
use Rattle.object_format.specs.Code.{operand_of, begun_by, pieces_after}
use Rattle.object_format.specs.Opcode.{row, opcode_of}
use Rattle.object_format.specs.Reading.{pieces_fault, piece_fault}
use Rattle.object_format.specs.declared.opcode.Opcode.{Opcode}
use Rattle.object_format.specs.declared.opcode.Opcode.TheVariants as op
use Rattle.object_format.proofs.CodeFaults.{code_fault_after, or_later-none, fine_parts}
use Rattle.object_format.proofs.Pieces.{pieces_after-skip}
use Rattle.stack_vm.specs.Operation.{opcode, size, read_as, operations_in, stands_by, IsThere, placed}
use Rattle.stack_vm.specs.declared.operation.Operation.{Operation}
use Rattle.stack_vm.specs.declared.operation.Placed.{Placed}

-- the opcode with which an instruction was read is its own
pub opcode-read_as : (o : Opcode) (bytes : List ℕ) → opcode (read_as o bytes) ≡ o
opcode-read_as op.Push8 bytes = refl
opcode-read_as op.Push64 bytes = refl
opcode-read_as op.Load bytes = refl
opcode-read_as op.Store bytes = refl
opcode-read_as op.Pop bytes = refl
opcode-read_as (op.Compute o) bytes = refl
opcode-read_as op.Neg bytes = refl
opcode-read_as op.Not bytes = refl
opcode-read_as op.Jump bytes = refl
opcode-read_as op.JumpZero bytes = refl
opcode-read_as op.Call bytes = refl
opcode-read_as op.Return bytes = refl
opcode-read_as op.Print bytes = refl
opcode-read_as op.Trap bytes = refl
opcode-read_as op.Dup bytes = refl
opcode-read_as op.Nop bytes = refl

-- the operation with this opcode, read from the bytes behind it
abbrev pub reads : Opcode → List ℕ → Operation
reads o behind = read_as o (take (row o).operand behind)

-- what stands behind an operation that is there
pub record Whole (code : List ℕ) (offset : ℕ) (o : Opcode) (i : Operation) : Type 0 where
  pub opcode : opcode_of (slice_index code offset) ≡ Some o
  pub long : offset + 1 + (row o).operand ≤ length code
  pub is : reads o (drop (offset + 1) code) ≡ i

one_is : (p q : Placed) → p ∷ [] ≡ q ∷ [] → p ≡ q
one_is p q e = cc

begun_parts : (at : ℕ) (o : Option Opcode) (behind : List ℕ) (i : Operation) → stands_by at o behind ≡ record { offset = at; operation = i } ∷ []
    → (p : Opcode) × (o ≡ Some p) × ((row p).operand ≤ length behind) × (reads p behind ≡ i)
begun_parts at None behind i e = absurd cc
begun_parts at (Some p) behind i e =
    elim (cases_Bool (ltb (length behind) (row p).operand)) [
      | inl short ↦ absurd (let bad = rw short at e in cc)
      | inr long ↦ (p, refl, ltb-false _ _ long, let same = rw long at e in ap (λ (q : Placed). q.operation) (one_is _ _ same))
    ]

pub there_whole : (code : List ℕ) (offset : ℕ) (i : Operation) → IsThere code offset i → (o : Opcode) × Whole code offset o i
there_whole code offset i t =
    let parts = begun_parts offset _ _ i t.begun in
    (parts.0, record { opcode = parts.1; long = omega (arith, parts.2, length-drop (offset + 1) code, t.within); is = parts.3 })

pub size-there : (code : List ℕ) (offset : ℕ) (i : Operation) (o : Opcode) → Whole code offset o i → size i ≡ 1 + (row o).operand
size-there code offset i o w =
    let same : opcode i ≡ o = ap opcode (sym w.is) ∙ opcode-read_as o (take (row o).operand (drop (offset + 1) code)) in
    ap (λ (p : Opcode). 1 + (row p).operand) same

-- the front of whole code
pub record Front (count : Option ℕ) (code : List ℕ) (offset : ℕ) (i : Operation) : Type 0 where
  pub there : IsThere code offset i
  pub long : offset + size i ≤ length code
  pub placed : placed offset 0 (drop offset code) ≡ record { offset = offset; operation = i } ∷ placed (offset + size i) 0 (drop (offset + size i) code)
  pub whole : code_fault_after count (offset + size i) 0 (drop (offset + size i) code) ≡ None

front_of : (count : Option ℕ) (code : List ℕ) (offset : ℕ) (o : Option Opcode) → opcode_of (slice_index code offset) ≡ o → offset < length code
    → piece_fault count offset (begun_by o (drop (offset + 1) code)) ≡ None → code_fault_after count (offset + 1) (operand_of o) (drop (offset + 1) code) ≡ None
    → (i : Operation) × Front count code offset i
front_of count code offset None is lt fine more = absurd cc
front_of count code offset (Some o) is lt fine more =
    let byte = slice_index code offset in
    let behind = drop (offset + 1) code in
    let n = (row o).operand in
    let i = reads o behind in
    let parts = fine_parts count offset (ltb (length behind) n) (record { opcode = o; operand = take n behind }) fine in
    let long : n ≤ length behind = ltb-false _ _ parts.0 in
    let begun : stands_by offset (opcode_of byte) behind ≡ record { offset = offset; operation = i } ∷ [] = rw (is, parts.0) refl in
    let sized : size i ≡ 1 + n = ap (λ (p : Opcode). 1 + (row p).operand) (opcode-read_as o (take n behind)) in
    let end : offset + 1 + n ≡ offset + size i = omega (arith, sized) in
    let dropped : drop n behind ≡ drop (offset + size i) code = drop-drop n (offset + 1) code ∙ ap (λ (k : ℕ). drop k code) end in
    let split : drop offset code ≡ byte ∷ behind = drop_more code offset 0 lt in
    let skip = pieces_after-skip (offset + 1) n behind long ∙ ap (λ (k : ℕ). pieces_after 0 k (drop n behind)) end ∙ ap (pieces_after 0 (offset + size i)) dropped in
    let moved = ap operations_in skip in
    let rest : operand_of (opcode_of byte) ≡ n = ap operand_of is in
    let after = ap (pieces_fault count) skip in (
      i,
      record {
        there = record { within = lt; begun = begun };
        long = omega (arith, long, length-drop (offset + 1) code, sized, lt);
        placed = ap (placed offset 0) split ∙ ap (λ (ps : List Placed). ps ++ placed (offset + 1) (operand_of (opcode_of byte)) behind) begun ∙ ap (λ (k : ℕ). record { offset = offset; operation = i } ∷ placed (offset + 1) k behind) rest ∙ ap (λ (ps : List Placed). record { offset = offset; operation = i } ∷ ps) moved;
        whole = sym after ∙ more;
      },
    )

pub whole_front : (count : Option ℕ) (code : List ℕ) (offset : ℕ) → offset < length code → code_fault_after count offset 0 (drop offset code) ≡ None → (i : Operation) × Front count code offset i
whole_front count code offset lt e =
    let byte = slice_index code offset in
    let behind = drop (offset + 1) code in
    let split : drop offset code ≡ byte ∷ behind = drop_more code offset 0 lt in
    let parts = or_later-none (piece_fault count offset (begun_by (opcode_of byte) behind)) (code_fault_after count (offset + 1) (operand_of (opcode_of byte)) behind) (sym (ap (code_fault_after count offset 0) split) ∙ e) in
    front_of count code offset (opcode_of byte) refl lt parts.0 parts.1

-- only one operation is there
pub there_one : (code : List ℕ) (offset : ℕ) (i j : Operation) → IsThere code offset i → IsThere code offset j → i ≡ j
there_one code offset i j a b = ap (λ (q : Placed). q.operation) (one_is _ _ (sym a.begun ∙ b.begun))

-- Where the instructions of code stand: below its length, and not more of them than bytes.
use Rattle.std.proofs.Common.{◌≡◌, ℕ, zero, suc, ◌+◌, ◌-◌, ◌^◌, ◌<◌, ◌≤◌, List, [], ◌∷◌, ◌++◌, length, take, replicate, Option, Some, None, Bool, true, false, ltb, cond, refl, sym, ap, arith, subst, slice_get, get_or}
use Rattle.std.specs.List.{AllByRecursion}
use Rattle.std.proofs.lemmas.Bool.{ne_eqb}
use Rattle.std.proofs.lemmas.Option.{slice_get-get_or}
use Rattle.std.proofs.lemmas.List.{length-append, get_or-replicate, length-replicate}
use Rattle.object_format.specs.Image.{LinkedFn}
use Rattle.object_format.specs.Opcode.{row, opcode_of}
use Rattle.object_format.specs.Code.{Instruction, operand_of}
use Rattle.object_format.specs.declared.opcode.Opcode.{Opcode}
use Rattle.stack_vm.specs.Operation.{placed_by, stands_by, placed, operations}
use Rattle.stack_vm.specs.Heights.{Before, heights, next, first_at, at_start, heights_of, Shows}
use Rattle.stack_vm.specs.Faults.{IsWithin}
use Rattle.stack_vm.specs.declared.operation.Placed.{Placed}

pub all-append : (P : Placed → Type 0) (xs ys : List Placed) → AllByRecursion P xs → AllByRecursion P ys → AllByRecursion P (xs ++ ys)
all-append P [] ys p q = q
all-append P (x ∷ xs) ys p q = (p.0, all-append P xs ys p.1 q)

pub all_get : {X : Type 0} (P : X → Type 0) (xs : List X) (k : ℕ) (x : X) → AllByRecursion P xs → slice_get xs k ≡ Some x → P x
all_get P [] k x h e = absurd cc
all_get P (y ∷ ys) zero x h e = let same : y ≡ x = cc in subst P same h.0
all_get P (y ∷ ys) (suc k) x h e = all_get P ys k x h.1 e

abbrev pub IsLow : ℕ → Placed → Type 0
IsLow n p = p.offset < n

begun_low : (n at : ℕ) (o : Option Opcode) (behind : List ℕ) → at < n → AllByRecursion (IsLow n) (stands_by at o behind)
begun_low n at None behind h = tt
begun_low n at (Some o) behind h =
    elim (ltb (length behind) (row o).operand) as (λ b. AllByRecursion (IsLow n) (placed_by at (cond b None (Some (record { opcode = o; operand = take (row o).operand behind }))))) [
      | true ↦ tt
      | false ↦ (h, tt)
    ]

pub placed_low : (n at k : ℕ) (bytes : List ℕ) → at + length bytes ≤ n → AllByRecursion (IsLow n) (placed at k bytes)
placed_low n at zero [] h = tt
placed_low n at (suc k) [] h = tt
placed_low n at (suc k) (b ∷ bs) h = placed_low n (at + 1) k bs (omega arith)
placed_low n at zero (b ∷ bs) h =
    all-append (IsLow n) (stands_by at (opcode_of b) bs) (placed (at + 1) (operand_of (opcode_of b)) bs) (begun_low n at (opcode_of b) bs (omega arith)) (placed_low n (at + 1) (operand_of (opcode_of b)) bs (omega arith))

few_if : (b : Bool) (at : ℕ) (i : Instruction) → length (placed_by at (cond b None (Some i))) ≤ 1
few_if true at i = omega arith
few_if false at i = omega arith

begun_few : (at : ℕ) (o : Option Opcode) (behind : List ℕ) → length (stands_by at o behind) ≤ 1
begun_few at None behind = omega arith
begun_few at (Some o) behind = few_if (ltb (length behind) (row o).operand) at (record { opcode = o; operand = take (row o).operand behind })

pub placed_few : (at k : ℕ) (bytes : List ℕ) → length (placed at k bytes) ≤ length bytes
placed_few at zero [] = omega arith
placed_few at (suc k) [] = omega arith
placed_few at (suc k) (b ∷ bs) = omega (arith, placed_few (at + 1) k bs)
placed_few at zero (b ∷ bs) =
    omega (arith, length-append (stands_by at (opcode_of b) bs) (placed (at + 1) (operand_of (opcode_of b)) bs), begun_few at (opcode_of b) bs, placed_few (at + 1) (operand_of (opcode_of b)) bs)

pub heights_low : (fs : List LinkedFn) (b : Before) (ps : List Placed) (n t : ℕ) → AllByRecursion (IsLow n) ps → n ≤ t → first_at (heights fs b ps) t ≡ None
heights_low fs b [] n t h le = refl
heights_low fs b (p ∷ ps) n t h le = rw (ne_eqb p.offset t (λ e. absurd (omega (arith, h.0, e)))) (heights_low fs (next fs b p) ps n t h.1 le)

-- the same of the instructions of code
pub instructions_low : (code : List ℕ) → AllByRecursion (IsLow (length code)) (operations code)
unfolding operations
instructions_low code = placed_low (length code) 0 0 code (omega arith)

pub instructions_few : (code : List ℕ) → length (operations code) ≤ length code
unfolding operations
instructions_few code = placed_few 0 0 code

pub heights_within : (fs : List LinkedFn) (code : List ℕ) → IsWithin (heights_of fs code) (length code)
unfolding heights_of
heights_within fs code t le = heights_low fs at_start (operations code) (length code) t (instructions_low code) le

-- nothing is shown at first
pub shows_nothing : (n : ℕ) → Shows [] (replicate n (2 ^ 32 - 1)) 0
shows_nothing n = record { each = λ t lt. get_or-replicate n t (2 ^ 32 - 1) 0 (omega (arith, length-replicate n (2 ^ 32 - 1))); small = λ t h e. absurd cc }

-- what was measured over the listed instructions of code
pub heights-listed : (fs : List LinkedFn) (code : List ℕ) (listed : List Placed) → listed ≡ operations code → heights fs at_start listed ≡ heights_of fs code
unfolding heights_of
heights-listed fs code listed e = ap (heights fs at_start) e

pub within_same : (hs : List (ℕ × ℕ)) (m n : ℕ) → IsWithin hs m → m ≤ n → IsWithin hs n
within_same hs m n h le t lt = h t (omega arith)

-- the element at an index, as a loop gives it
pub element_at : {X : Type 0} (xs : List X) (k : ℕ) (x : X) → k < length xs → x ≡ get_or xs k x → slice_get xs k ≡ Some x
element_at {X} xs k x h e = subst (λ (y : X). slice_get xs k ≡ Some y) (sym e) (slice_get-get_or xs k x h)

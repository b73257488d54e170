-- Code that is put together from whole instructions is whole, and keeps its calls below a count.
--
-- How a caller shows what `ImageFn::new` and `Image::new` require, by the example of code that
-- pushes numbers and prints them: with `print_code z = push_code z ++ 23 ∷ []`,
--
--   push_linked : (n : ℕ) (z : ℤ) → IsLinkedCode n (push_code z)          -- both cases: linked-instruction
--   print_linked : (n : ℕ) (zs : List ℤ) → IsLinkedCode n (flat_map print_code zs)
--   print_linked n [] = linked-none n
--   print_linked n (z ∷ zs) =
--       linked-append n _ _ (linked-append n _ _ (push_linked n z) (linked-instruction n Print [] refl (cc))) (print_linked n zs)
--
-- then `whole-linked` of it is the `whole` of `ImageFn::new`, and the pair (it, tt) the `calls` of
-- `Image::new` where the function is the only one.
use Rattle.std.proofs.Common.{◌≡◌, ◌≢◌, ℕ, ◌<◌, ◌≤◌, List, [], ◌∷◌, ◌++◌, length, refl, sym, ap, ◌∙◌, append_assoc, arith}
use Rattle.std.specs.Int.{w32, from_be_bytes}
use Rattle.std.specs.List.{flat_map, AllByRecursion}
use Rattle.std.proofs.lemmas.List.{append-nil}
use Rattle.object_format.specs.Opcode.{row}
use Rattle.object_format.specs.Code.{Instruction, IsInstruction, IsLinkedInstruction, bytes_of, IsMadeOf, IsWhole, IsLinkedCode}
use Rattle.object_format.specs.declared.opcode.Opcode.{Opcode}
use Rattle.object_format.specs.declared.opcode.Opcode.TheVariants.{Call}

pub all-append : (P : Instruction → Type 0) (xs ys : List Instruction) → AllByRecursion P xs → AllByRecursion P ys → AllByRecursion P (xs ++ ys)
all-append P [] ys p q = q
all-append P (x ∷ xs) ys p q = (p.0, all-append P xs ys p.1 q)

pub all-more : (P Q : Instruction → Type 0) → ((i : Instruction) → P i → Q i) → (xs : List Instruction) → AllByRecursion P xs → AllByRecursion Q xs
all-more P Q f [] p = tt
all-more P Q f (x ∷ xs) p = (f x p.0, all-more P Q f xs p.1)

pub bytes_of-append : (xs ys : List Instruction) → flat_map bytes_of (xs ++ ys) ≡ flat_map bytes_of xs ++ flat_map bytes_of ys
bytes_of-append [] ys = refl
bytes_of-append (x ∷ xs) ys = ap (λ bs. bytes_of x ++ bs) (bytes_of-append xs ys) ∙ sym (append_assoc (bytes_of x) (flat_map bytes_of xs) (flat_map bytes_of ys))

-- code of good instructions, before more of it
pub made-append : (P : Instruction → Type 0) (xs ys : List ℕ) → IsMadeOf P xs → IsMadeOf P ys → IsMadeOf P (xs ++ ys)
made-append P xs ys p q = record {
  parts = p.parts ++ q.parts;
  spelled = bytes_of-append p.parts q.parts ∙ ap (λ bs. bs ++ flat_map bytes_of q.parts) p.spelled ∙ ap (λ bs. xs ++ bs) q.spelled;
  good = all-append P p.parts q.parts p.good q.good;
}

-- one good instruction is code
pub made-instruction : (P : Instruction → Type 0) (i : Instruction) → P i → IsMadeOf P (bytes_of i)
made-instruction P i h = record { parts = i ∷ []; spelled = append-nil (bytes_of i); good = (h, tt) }

pub made-none : (P : Instruction → Type 0) → IsMadeOf P []
made-none P = record { parts = []; spelled = refl; good = tt }

-- the same three for whole code
pub whole-append : (xs ys : List ℕ) → IsWhole xs → IsWhole ys → IsWhole (xs ++ ys)
whole-append = made-append IsInstruction

pub whole-instruction : (opcode : Opcode) (operand : List ℕ) → length operand ≡ (row opcode).operand → IsWhole ((row opcode).number ∷ operand)
whole-instruction opcode operand h = made-instruction IsInstruction (record { opcode = opcode; operand = operand }) h

pub whole-none : IsWhole []
whole-none = made-none IsInstruction

-- and for code whose calls are below a count
pub linked-append : (count : ℕ) (xs ys : List ℕ) → IsLinkedCode count xs → IsLinkedCode count ys → IsLinkedCode count (xs ++ ys)
linked-append count = made-append (IsLinkedInstruction count)

pub linked-instruction : (count : ℕ) (opcode : Opcode) (operand : List ℕ) → length operand ≡ (row opcode).operand → opcode ≢ Call → IsLinkedCode count ((row opcode).number ∷ operand)
linked-instruction count opcode operand h other = made-instruction (IsLinkedInstruction count) (record { opcode = opcode; operand = operand }) (h, λ is. absurd (other is))

pub linked-call : (count : ℕ) (operand : List ℕ) → length operand ≡ 4 → from_be_bytes w32 operand < count → IsLinkedCode count (0x15 ∷ operand)
linked-call count operand h below = made-instruction (IsLinkedInstruction count) (record { opcode = Call; operand = operand }) (h, λ is. below)

pub linked-none : (count : ℕ) → IsLinkedCode count []
linked-none count = made-none (IsLinkedInstruction count)

-- what has its calls below a count is whole
pub whole-linked : (count : ℕ) (code : List ℕ) → IsLinkedCode count code → IsWhole code
whole-linked count code h = record {
  parts = h.parts;
  spelled = h.spelled;
  good = all-more (IsLinkedInstruction count) IsInstruction (λ i p. p.0) h.parts h.good;
}

-- and stays below a greater count
pub linked-more : (count more : ℕ) (code : List ℕ) → count ≤ more → IsLinkedCode count code → IsLinkedCode more code
linked-more count more code le h = record {
  parts = h.parts;
  spelled = h.spelled;
  good = all-more (IsLinkedInstruction count) (IsLinkedInstruction more) (λ i p. (p.0, λ call. omega (arith, p.1 call))) h.parts h.good;
}

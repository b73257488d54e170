-- The first fault of instructions, one after the other.
use Rattle.std.proofs.Common.{◌≡◌, ℕ, ◌+◌, ◌<◌, ◌≤◌, List, length, drop, get_or, Option, eqb, arith, sym, ◌∙◌, ap, inl, inr}
use Rattle.std.proofs.lemmas.Bool.{cases_eq, eq-eqb, ne_eqb}
use Rattle.std.proofs.lemmas.List.{drop_more, drop_all}
use Rattle.object_format.specs.Image.{LinkedFn}
use Rattle.object_format.specs.Reading.{or_later}
use Rattle.object_format.specs.declared.fault.What.{What}
use Rattle.stack_vm.specs.Faults.{word_at, fault_if, is_empty, code_faults, is_crossed, height_at}
use Rattle.stack_vm.specs.declared.operation.Placed.{Placed}

pub is_empty-drop : (ps : List Placed) (k : ℕ) (d : Placed) → k ≤ length ps → eqb k (length ps) ≡ is_empty (drop k ps)
is_empty-drop ps k d le =
    elim (cases_eq k (length ps)) [
      | inl same ↦ eq-eqb k (length ps) same ∙ sym (ap is_empty (drop_all k ps (omega arith)))
      | inr other ↦
          let lt : k < length ps = omega (arith, other) in
          ne_eqb k (length ps) other ∙ sym (ap is_empty (drop_more ps k d lt))
    ]

-- the word of the instruction at an index
abbrev pub word_of : List LinkedFn → List (ℕ × ℕ) → LinkedFn → List Placed → ℕ → Placed → Option What
word_of fs hs f all index p = word_at fs hs f p.operation (height_at hs p.offset) (is_crossed fs hs p.offset all) (is_empty (drop (index + 1) all))

pub code_faults-at : (fs : List LinkedFn) (hs : List (ℕ × ℕ)) (f : LinkedFn) (all : List Placed) (at index : ℕ) (d : Placed) → index < length all
    → code_faults fs hs f all at (drop index all) ≡ or_later (fault_if (at + (get_or all index d).offset) (word_of fs hs f all index (get_or all index d))) (code_faults fs hs f all at (drop (index + 1) all))
code_faults-at fs hs f all at index d lt = ap (code_faults fs hs f all at) (drop_more all index d lt)

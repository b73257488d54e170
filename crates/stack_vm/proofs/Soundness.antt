-- A function without a fault is sound: each of its instructions finds its words and its slot, and leads to an instruction with the height that it leaves.
use Rattle.std.proofs.Common.{◌≡◌, ℕ, zero, suc, ◌+◌, ◌-◌, ◌<◌, ◌≤◌, List, [], ◌∷◌, ◌++◌, length, drop, take, get_or, Option, Some, None, Bool, true, false, ltb, leb, eqb, cond, not, ◌&&◌, ◌||◌, refl, sym, ap, ◌∙◌, arith, subst, inl, inr, unwrap_or}
use Rattle.std.specs.Prelude.{slice_index, is_none}
use Rattle.std.specs.Int.{w32, from_be_bytes}
use Rattle.std.proofs.lemmas.Bool.{ltb-false, leb-false, eqb-true, eq-eqb, ne_eqb, cases_Bool, cases_lt, cases_eq}
use Rattle.std.proofs.lemmas.List.{length-drop, get_or-drop, drop-drop}
use Rattle.object_format.specs.Image.{LinkedFn}
use Rattle.object_format.specs.Opcode.{row, opcode_of}
use Rattle.object_format.specs.Code.{Instruction, IsLinkedCode, operand_of, begun_by}
use Rattle.object_format.specs.Reading.{piece_fault}
use Rattle.object_format.specs.Version.{slots_offset, code_offset}
use Rattle.object_format.specs.declared.version.Version.{Version}
use Rattle.object_format.specs.declared.opcode.Opcode.{Opcode}
use Rattle.object_format.specs.declared.opcode.Opcode.TheVariants as op
use Rattle.object_format.specs.declared.fault.What.{What}
use Rattle.object_format.specs.declared.fault.What.TheVariants as word
use Rattle.object_format.proofs.CodeFaults.{code_fault_after, or_later-none, fine_parts, allowed-call_fault, code_fault-linked}
use Rattle.stack_vm.specs.Operation.{size, placed_by, stands_by, placed, operations, find_at, IsThere}
use Rattle.stack_vm.specs.Heights.{taken, left_by, jumps_to, handed_on, Before, here, next, heights, at_start, heights_of, first_at}
use Rattle.stack_vm.specs.Faults.{misses, lacks_slot, is_return, may_end, brings_other, height_at, is_crossed, word_at, fault_if, is_empty, code_faults, function_fault}
use Rattle.stack_vm.specs.Sound.{At, Leaves, IsFine, IsSound}
use Rattle.stack_vm.specs.declared.operation.Operation.{Operation}
use Rattle.stack_vm.specs.declared.operation.Operation.TheVariants.{Push8, Push64, Load, Store, Pop, Dup, Nop, Compute, Neg, Not, Jump, JumpZero, Call, Return, Print, Trap}
use Rattle.stack_vm.specs.declared.operation.Placed.{Placed}
use Rattle.stack_vm.proofs.Listing.{reads, opcode-read_as}

some_is : {x y : ℕ} → Some x ≡ Some y → x ≡ y
some_is e = cc

-- ---- what a judgement says of one instruction

pub record Kept (fs : List LinkedFn) (hs : List (ℕ × ℕ)) (f : LinkedFn) (i : Operation) (height : ℕ) (crossed is_last : Bool) : Type 0 where
  pub target : misses hs (jumps_to i) ≡ false
  pub slot : lacks_slot i f.slots ≡ false
  pub words : taken fs i ≤ height
  pub same : crossed ≡ false
  pub leaves : is_return i ≡ true → height ≡ f.«result»
  pub ends : is_last ≡ true → may_end i ≡ true

-- one test of the chain that did not hold
passes : (b : Bool) (what : What) (more : Option What) → cond b (Some what) more ≡ None → (b ≡ false) × (more ≡ None)
passes true what more e = absurd cc
passes false what more e = (refl, e)

or_none : (a b : Bool) → (a || b) ≡ false → (a ≡ false) × (b ≡ false)
or_none true b e = absurd cc
or_none false b e = (refl, e)

and_not : (a b : Bool) → (a && not b) ≡ false → a ≡ true → b ≡ true
and_not true true e h = refl
and_not true false e h = absurd cc
and_not false b e h = absurd cc

kept : (fs : List LinkedFn) (hs : List (ℕ × ℕ)) (f : LinkedFn) (i : Operation) (height : ℕ) (crossed is_last : Bool) → word_at fs hs f i height crossed is_last ≡ None → Kept fs hs f i height crossed is_last
kept fs hs f i height crossed is_last e =
    let a = passes (misses hs (jumps_to i)) word.Jump _ e in
    let b = passes (lacks_slot i f.slots) word.Slot _ a.1 in
    let c = passes (ltb height (taken fs i) || (crossed || (is_return i && not (eqb height f.«result»)))) word.Height _ b.1 in
    let d = passes (is_last && not (may_end i)) word.End None c.1 in
    let words = or_none (ltb height (taken fs i)) _ c.0 in
    let same = or_none crossed _ words.1 in
    record {
      target = a.0;
      slot = b.0;
      words = ltb-false height (taken fs i) words.0;
      same = same.0;
      leaves = λ is. eqb-true height f.«result» (and_not (is_return i) (eqb height f.«result») same.1 is);
      ends = λ last. and_not is_last (may_end i) d.0 last;
    }

fault_if-none : (at : ℕ) (o : Option What) → fault_if at o ≡ None → o ≡ None
fault_if-none at None e = refl
fault_if-none at (Some what) e = absurd cc

-- ---- offsets

heights_begun : (fs : List LinkedFn) (b : Before) (at : ℕ) (o : Option Opcode) (bytes : List ℕ) (k t : ℕ) → t < at → ((c : Before) → first_at (heights fs c (placed (at + 1) k bytes)) t ≡ None)
    → first_at (heights fs b (stands_by at o bytes ++ placed (at + 1) k bytes)) t ≡ None
heights_begun fs b at None bytes k t lt more = more b
heights_begun fs b at (Some o) bytes k t lt more =
    elim (ltb (length bytes) (row o).operand) as (λ short. first_at (heights fs b (placed_by at (cond short None (Some (record { opcode = o; operand = take (row o).operand bytes }))) ++ placed (at + 1) k bytes)) t ≡ None) [
      | true ↦ more b
      | false ↦ rw (ne_eqb at t (λ e. absurd (omega (arith, lt, e)))) (more _)
    ]

-- what stands behind an offset has no height before it
heights_high : (fs : List LinkedFn) (b : Before) (at k : ℕ) (bytes : List ℕ) (t : ℕ) → t < at → first_at (heights fs b (placed at k bytes)) t ≡ None
heights_high fs b at zero [] t lt = refl
heights_high fs b at (suc k) [] t lt = refl
heights_high fs b at (suc k) (x ∷ bs) t lt = heights_high fs b (at + 1) k bs t (omega arith)
heights_high fs b at zero (x ∷ bs) t lt = heights_begun fs b at (opcode_of x) bs (operand_of (opcode_of x)) t lt (λ c. heights_high fs c (at + 1) (operand_of (opcode_of x)) bs t (omega arith))

-- an instruction without fault
pub record Begun (count at : ℕ) (o : Opcode) (behind : List ℕ) : Type 0 where
  pub long : (row o).operand ≤ length behind
  pub begun : stands_by at (Some o) behind ≡ record { offset = at; operation = reads o behind } ∷ []
  pub below : (k : ℕ) → reads o behind ≡ Call k → k < count

call_number : (o : Opcode) (behind : List ℕ) (k : ℕ) → reads o behind ≡ Call k → (o ≡ op.Call) × (from_be_bytes w32 (take (row o).operand behind) ≡ k)
call_number op.Call behind k e = (refl, cc)
call_number o behind k e = absurd cc

begun_fine : (count at : ℕ) (o : Opcode) (behind : List ℕ) → piece_fault (Some count) at (begun_by (Some o) behind) ≡ None → Begun count at o behind
begun_fine count at o behind fine =
    let n = (row o).operand in
    let i : Instruction = record { opcode = o; operand = take n behind } in
    let parts = fine_parts (Some count) at (ltb (length behind) n) i fine in
    record {
      long = ltb-false _ _ parts.0;
      begun = rw parts.0 refl;
      below = λ k e.
          let call = call_number o behind k e in
          omega (arith, allowed-call_fault (Some count) at i parts.1 call.0, call.1);
    }

known : (count at : ℕ) (o : Option Opcode) (behind : List ℕ) → piece_fault (Some count) at (begun_by o behind) ≡ None → (p : Opcode) × (o ≡ Some p)
known count at None behind e = absurd cc
known count at (Some p) behind e = (p, refl)

-- the next instruction has the height that is here
next_here : (fs : List LinkedFn) (b : Before) (count at n : ℕ) (bytes : List ℕ) → code_fault_after (Some count) at n bytes ≡ None → n < length bytes → first_at (heights fs b (placed at n bytes)) (at + n) ≡ Some (here b (at + n))
next_here fs b count at zero [] e h = absurd (omega arith)
next_here fs b count at (suc k) [] e h = absurd (omega arith)
next_here fs b count at (suc k) (x ∷ bs) e h =
    let place : (at + 1) + k ≡ at + suc k = omega arith in
    subst (λ (t : ℕ). first_at (heights fs b (placed (at + 1) k bs)) t ≡ Some (here b t)) place (next_here fs b count (at + 1) k bs e (omega arith))
next_here fs b count at zero (x ∷ bs) e h =
    let parts = or_later-none _ _ e in
    let o = known count at (opcode_of x) bs parts.0 in
    let begun = begun_fine count at o.0 bs (subst (λ (p : Option Opcode). piece_fault (Some count) at (begun_by p bs) ≡ None) o.1 parts.0) in
    let place : at ≡ at + 0 = omega arith in
    let head : stands_by at (opcode_of x) bs ≡ record { offset = at; operation = reads o.0 bs } ∷ [] = ap (λ (p : Option Opcode). stands_by at p bs) o.1 ∙ begun.begun in
    let found : first_at (heights fs b (placed at 0 (x ∷ bs))) at ≡ Some (here b at) = rw (head, eq-eqb at at refl) refl in
    subst (λ (t : ℕ). first_at (heights fs b (placed at 0 (x ∷ bs))) t ≡ Some (here b t)) place found

-- nothing stands behind code that is passed over
placed_all : (at n : ℕ) (bytes : List ℕ) → length bytes ≤ n → placed at n bytes ≡ []
placed_all at zero [] h = refl
placed_all at (suc k) [] h = refl
placed_all at zero (x ∷ bs) h = absurd (omega arith)
placed_all at (suc k) (x ∷ bs) h = placed_all (at + 1) k bs (omega arith)

-- ---- each instruction

-- what one instruction of a function without fault keeps, but for what its jump brings
pub record Local (fs : List LinkedFn) (hs : List (ℕ × ℕ)) (f : LinkedFn) (place height : ℕ) (i : Operation) : Type 0 where
  pub target : misses hs (jumps_to i) ≡ false
  pub slot : lacks_slot i f.slots ≡ false
  pub words : taken fs i ≤ height
  pub leaves : is_return i ≡ true → height ≡ f.«result»
  pub goes : (n : ℕ) → handed_on i (left_by fs i height) ≡ Some n → first_at hs (place + size i) ≡ Some n
  pub below : (k : ℕ) → i ≡ Call k → k < length fs

pub record Judged (fs : List LinkedFn) (hs : List (ℕ × ℕ)) (f : LinkedFn) (all : List Placed) (place height : ℕ) : Type 0 where
  pub operation : Operation
  pub found : find_at all place ≡ Some operation
  pub there : IsThere f.code place operation
  pub local : Local fs hs f place height operation
  pub same : is_crossed fs hs place all ≡ false

no_more : (i : Operation) (left n : ℕ) → may_end i ≡ true → handed_on i left ≡ Some n → ⊥
no_more (Jump to) left n e h = absurd cc
no_more Return left n e h = absurd cc
no_more Trap left n e h = absurd cc
no_more i left n e h = absurd cc

handed_here : (b : Before) (place n : ℕ) → b.handed ≡ Some n → here b place ≡ n
handed_here b place n e = rw e refl

drop_parts : (code bs : List ℕ) (at x : ℕ) → x ∷ bs ≡ drop at code → (at < length code) × (slice_index code at ≡ x) × (bs ≡ drop (at + 1) code)
drop_parts code bs at x e =
    let lt : at < length code = omega (arith, ap length e, length-drop at code) in
    let z : at + 0 ≡ at = omega arith in
    let first : slice_index code at ≡ x = subst (λ (k : ℕ). get_or code k 0 ≡ x) z (sym (get_or-drop at code 0 0) ∙ sym (ap (λ (xs : List ℕ). get_or xs 0 0) e)) in
    (lt, first, ap (λ (xs : List ℕ). drop 1 xs) e ∙ drop-drop 1 at code)

size-read_as : (o : Opcode) (bytes : List ℕ) → size (reads o bytes) ≡ 1 + (row o).operand
size-read_as o bytes = ap (λ (p : Opcode). 1 + (row p).operand) (opcode-read_as o (take (row o).operand bytes))

-- what the rest of a function's code is known to be
pub record Rest (fs : List LinkedFn) (hs : List (ℕ × ℕ)) (f : LinkedFn) (all : List Placed) (base : ℕ) (b : Before) (at k : ℕ) (bytes : List ℕ) : Type 0 where
  pub whole : code_fault_after (Some (length fs)) at k bytes ≡ None
  pub short : k ≤ length bytes
  pub is : bytes ≡ drop at f.code
  pub look : (t : ℕ) → at ≤ t → first_at hs t ≡ first_at (heights fs b (placed at k bytes)) t
  pub find : (t : ℕ) → at ≤ t → find_at all t ≡ find_at (placed at k bytes) t
  pub none : code_faults fs hs f all base (placed at k bytes) ≡ None

head_local : (fs : List LinkedFn) (hs : List (ℕ × ℕ)) (f : LinkedFn) (all : List Placed) (b : Before) (at : ℕ) (o : Opcode) (bs : List ℕ)
    → let i = reads o bs in let n = (row o).operand in let p : Placed = record { offset = at; operation = i } in
    Begun (length fs) at o bs → code_fault_after (Some (length fs)) (at + 1) n bs ≡ None
    → Kept fs hs f i (here b at) (is_crossed fs hs at all) (is_empty (placed (at + 1) n bs))
    → ((t : ℕ) → at + 1 ≤ t → first_at hs t ≡ first_at (heights fs (next fs b p) (placed (at + 1) n bs)) t)
    → Local fs hs f at (here b at) i
head_local fs hs f all b at o bs begun whole kept look =
    let i = reads o bs in
    let n = (row o).operand in
    let p : Placed = record { offset = at; operation = i } in
    let end : at + size i ≡ at + 1 + n = omega (arith, size-read_as o bs) in
    record {
      target = kept.target;
      slot = kept.slot;
      words = kept.words;
      leaves = kept.leaves;
      below = begun.below;
      goes = λ m handed.
          elim (cases_lt n (length bs)) [
            | inl more ↦
                let there = next_here fs (next fs b p) (length fs) (at + 1) n bs whole more in
                let same : here (next fs b p) (at + 1 + n) ≡ m = handed_here (next fs b p) (at + 1 + n) m handed in
                ap (first_at hs) end ∙ look (at + 1 + n) (omega arith) ∙ there ∙ ap (λ (k : ℕ). Some k) same
            | inr last ↦
                let nothing : placed (at + 1) n bs ≡ [] = placed_all (at + 1) n bs last in
                absurd (no_more i _ m (kept.ends (ap is_empty nothing)) handed)
          ];
    }

-- the head of code without fault, as its parts
head_split : (fs : List LinkedFn) (hs : List (ℕ × ℕ)) (f : LinkedFn) (all : List Placed) (base : ℕ) (b : Before) (at x : ℕ) (bs : List ℕ) → Rest fs hs f all base b at 0 (x ∷ bs)
    → (o : Opcode) × (opcode_of x ≡ Some o) × Begun (length fs) at o bs × (code_fault_after (Some (length fs)) (at + 1) (row o).operand bs ≡ None)
    × (placed at 0 (x ∷ bs) ≡ record { offset = at; operation = reads o bs } ∷ placed (at + 1) (row o).operand bs)
head_split fs hs f all base b at x bs r =
    let parts = or_later-none _ _ r.whole in
    let o = known (length fs) at (opcode_of x) bs parts.0 in
    let begun = begun_fine (length fs) at o.0 bs (subst (λ (p : Option Opcode). piece_fault (Some (length fs)) at (begun_by p bs) ≡ None) o.1 parts.0) in
    let whole : code_fault_after (Some (length fs)) (at + 1) (row o.0).operand bs ≡ None = subst (λ (p : Option Opcode). code_fault_after (Some (length fs)) (at + 1) (operand_of p) bs ≡ None) o.1 parts.1 in
    let split : placed at 0 (x ∷ bs) ≡ record { offset = at; operation = reads o.0 bs } ∷ placed (at + 1) (row o.0).operand bs =
    ap (λ (p : Option Opcode). stands_by at p bs ++ placed (at + 1) (operand_of p) bs) o.1 ∙ ap (λ (ps : List Placed). ps ++ placed (at + 1) (row o.0).operand bs) begun.begun in
    (o.0, o.1, begun, whole, split)

-- what is known of the rest is known behind its head
behind_head : (fs : List LinkedFn) (hs : List (ℕ × ℕ)) (f : LinkedFn) (all : List Placed) (base : ℕ) (b : Before) (at x : ℕ) (bs : List ℕ) (o : Opcode)
    → Rest fs hs f all base b at 0 (x ∷ bs) → Begun (length fs) at o bs → code_fault_after (Some (length fs)) (at + 1) (row o).operand bs ≡ None
    → placed at 0 (x ∷ bs) ≡ record { offset = at; operation = reads o bs } ∷ placed (at + 1) (row o).operand bs
    → Rest fs hs f all base (next fs b (record { offset = at; operation = reads o bs })) (at + 1) (row o).operand bs
behind_head fs hs f all base b at x bs o r begun whole split =
    let p : Placed = record { offset = at; operation = reads o bs } in
    let ps = placed (at + 1) (row o).operand bs in
    let judged = or_later-none (fault_if (base + at) (word_at fs hs f p.operation (height_at hs at) (is_crossed fs hs at all) (is_empty ps))) (code_faults fs hs f all base ps) (sym (ap (code_faults fs hs f all base) split) ∙ r.none) in
    record {
      whole = whole;
      short = begun.long;
      is = (drop_parts f.code bs at x r.is).2;
      look = λ t lt. r.look t (omega arith) ∙ ap (λ (qs : List Placed). first_at (heights fs b qs) t) split ∙ rw (ne_eqb at t (λ e. absurd (omega (arith, lt, e)))) refl;
      find = λ t lt. r.find t (omega arith) ∙ ap (λ (qs : List Placed). find_at qs t) split ∙ rw (ne_eqb at t (λ e. absurd (omega (arith, lt, e)))) refl;
      none = judged.1;
    }

-- the head itself
judged_head : (fs : List LinkedFn) (hs : List (ℕ × ℕ)) (f : LinkedFn) (all : List Placed) (base : ℕ) (b : Before) (at x : ℕ) (bs : List ℕ) (o : Opcode)
    → Rest fs hs f all base b at 0 (x ∷ bs) → opcode_of x ≡ Some o → Begun (length fs) at o bs → code_fault_after (Some (length fs)) (at + 1) (row o).operand bs ≡ None
    → placed at 0 (x ∷ bs) ≡ record { offset = at; operation = reads o bs } ∷ placed (at + 1) (row o).operand bs
    → (first_at hs at ≡ Some (here b at)) × Judged fs hs f all at (here b at)
judged_head fs hs f all base b at x bs o r is begun whole split =
    let i = reads o bs in
    let p : Placed = record { offset = at; operation = i } in
    let ps = placed (at + 1) (row o).operand bs in
    let behind = behind_head fs hs f all base b at x bs o r begun whole split in
    let found : first_at hs at ≡ Some (here b at) = r.look at (omega arith) ∙ ap (λ (qs : List Placed). first_at (heights fs b qs) at) split ∙ rw (eq-eqb at at refl) refl in
    let height : height_at hs at ≡ here b at = ap (λ (v : Option ℕ). unwrap_or v 0) found in
    let judged = or_later-none (fault_if (base + at) (word_at fs hs f i (height_at hs at) (is_crossed fs hs at all) (is_empty ps))) (code_faults fs hs f all base ps) (sym (ap (code_faults fs hs f all base) split) ∙ r.none) in
    let kept_at = kept fs hs f i (here b at) (is_crossed fs hs at all) (is_empty ps) (subst (λ (n : ℕ). word_at fs hs f i n (is_crossed fs hs at all) (is_empty ps) ≡ None) height (fault_if-none (base + at) _ judged.0)) in
    let at_code = drop_parts f.code bs at x r.is in
    let begun_code : stands_by at (opcode_of (slice_index f.code at)) (drop (at + 1) f.code) ≡ p ∷ [] =
    ap (λ (y : ℕ). stands_by at (opcode_of y) (drop (at + 1) f.code)) at_code.1 ∙ ap (λ (q : Option Opcode). stands_by at q (drop (at + 1) f.code)) is ∙ ap (λ (ys : List ℕ). stands_by at (Some o) ys) (sym at_code.2) ∙ begun.begun in (
      found,
      record {
        operation = i;
        found = r.find at (omega arith) ∙ ap (λ (qs : List Placed). find_at qs at) split ∙ rw (eq-eqb at at refl) refl;
        there = record { within = at_code.0; begun = begun_code };
        local = head_local fs hs f all b at o bs begun whole kept_at behind.look;
        same = kept_at.same;
      },
    )

-- each offset with a height has a judged instruction
every : (fs : List LinkedFn) (hs : List (ℕ × ℕ)) (f : LinkedFn) (all : List Placed) (base : ℕ) (b : Before) (at k : ℕ) (bytes : List ℕ) → Rest fs hs f all base b at k bytes
    → (t h : ℕ) → at ≤ t → first_at hs t ≡ Some h → Judged fs hs f all t h
every fs hs f all base b at zero [] r t h le e = absurd (let nothing = r.look t le in cc)
every fs hs f all base b at (suc k) [] r t h le e = absurd (let nothing = r.look t le in cc)
every fs hs f all base b at (suc k) (x ∷ bs) r t h le e =
    elim (cases_eq at t) [
      | inl here_it ↦ absurd (let none = r.look t le ∙ heights_high fs b (at + 1) k bs t (omega arith) in cc)
      | inr other ↦ every fs hs f all base b (at + 1) k bs (record {
        whole = r.whole;
        short = omega (arith, r.short);
        is = (drop_parts f.code bs at x r.is).2;
        look = λ u lt. r.look u (omega arith);
        find = λ u lt. r.find u (omega arith);
        none = r.none;
      }) t h (omega (arith, other)) e
    ]
every fs hs f all base b at zero (x ∷ bs) r t h le e =
    let o = head_split fs hs f all base b at x bs r in
    elim (cases_eq at t) [
      | inl here_it ↦
          let head = judged_head fs hs f all base b at x bs o.0 r o.1 o.2 o.3 o.4 in
          let height : here b at ≡ h = some_is (sym head.0 ∙ ap (first_at hs) here_it ∙ e) in
          subst (λ (n : ℕ). Judged fs hs f all n h) here_it (subst (λ (n : ℕ). Judged fs hs f all at n) height head.1)
      | inr other ↦ every fs hs f all base (next fs b (record { offset = at; operation = reads o.0 bs })) (at + 1) (row o.0).operand bs (behind_head fs hs f all base b at x bs o.0 r o.2 o.3 o.4) t h (omega (arith, other)) e
    ]

-- ---- what a jump brings

brought_same : (to left own : ℕ) → brings_other (Some to) left (Some own) to ≡ false → left ≡ own
brought_same to left own e = eqb-true left own (and_not (eqb to to) (eqb left own) e (eq-eqb to to refl))

crossed_by : (fs : List LinkedFn) (hs : List (ℕ × ℕ)) (t place : ℕ) (ps : List Placed) (i : Operation) → is_crossed fs hs t ps ≡ false → find_at ps place ≡ Some i
    → brings_other (jumps_to i) (left_by fs i (height_at hs place)) (first_at hs t) t ≡ false
crossed_by fs hs t place [] i c e = absurd cc
crossed_by fs hs t place (p ∷ ps) i c e =
    let parts = or_none (brings_other (jumps_to p.operation) (left_by fs p.operation (height_at hs p.offset)) (first_at hs t) t) (is_crossed fs hs t ps) c in
    elim (cases_Bool (eqb p.offset place)) [
      | inl here_it ↦
          let found : Some p.operation ≡ Some i = rw here_it at e in
          let same : p.operation ≡ i = cc in
          let place_is : p.offset ≡ place = eqb-true p.offset place here_it in
          subst (λ (n : ℕ). brings_other (jumps_to i) (left_by fs i (height_at hs n)) (first_at hs t) t ≡ false) place_is
          (subst (λ (j : Operation). brings_other (jumps_to j) (left_by fs j (height_at hs p.offset)) (first_at hs t) t ≡ false) same parts.0)
      | inr later ↦ crossed_by fs hs t place ps i parts.1 (rw later at e)
    ]

some_there : (o : Option ℕ) → is_none o ≡ false → (n : ℕ) × (o ≡ Some n)
some_there None e = absurd cc
some_there (Some n) e = (n, refl)

-- the height at a target is the one that is left
target_height : (fs : List LinkedFn) (hs : List (ℕ × ℕ)) (f : LinkedFn) (all : List Placed) (place h to : ℕ) (j : Judged fs hs f all place h)
    → ((t k : ℕ) → first_at hs t ≡ Some k → Judged fs hs f all t k) → first_at hs place ≡ Some h → jumps_to j.operation ≡ Some to → first_at hs to ≡ Some (left_by fs j.operation h)
target_height fs hs f all place h to j each e jumps =
    let i = j.operation in
    let there = some_there (first_at hs to) (subst (λ (o : Option ℕ). misses hs o ≡ false) jumps j.local.target) in
    let at_target = each to there.0 there.1 in
    let crossed = crossed_by fs hs to place all i at_target.same j.found in
    let height : height_at hs place ≡ h = ap (λ (o : Option ℕ). unwrap_or o 0) e in
    let here_is : brings_other (Some to) (left_by fs i h) (Some there.0) to ≡ false =
    subst (λ (o : Option ℕ). brings_other (Some to) (left_by fs i h) o to ≡ false) there.1
    (subst (λ (o : Option ℕ). brings_other o (left_by fs i h) (first_at hs to) to ≡ false) jumps
    (subst (λ (n : ℕ). brings_other (jumps_to i) (left_by fs i n) (first_at hs to) to ≡ false) height crossed)) in
    there.1 ∙ ap (λ (n : ℕ). Some n) (sym (brought_same to (left_by fs i h) there.0 here_is))

-- ---- from what is kept to what the machine needs

low_slot : (slots s : ℕ) → leb slots s ≡ false → s < slots
low_slot slots s e = leb-false slots s e

pub record Targets (fs : List LinkedFn) (f : LinkedFn) (h : ℕ) (i : Operation) : Type 0 where
  pub leads : (to : ℕ) → jumps_to i ≡ Some to → At fs f to (left_by fs i h)

goes_at : (fs : List LinkedFn) (f : LinkedFn) (place next_place h n : ℕ) (i : Operation) → Local fs (heights_of fs f.code) f place h i → place + size i ≡ next_place → handed_on i (left_by fs i h) ≡ Some n → At fs f next_place n
goes_at fs f place next_place h n i l same e = record { has = ap (first_at (heights_of fs f.code)) (sym same) ∙ l.goes n e }

plain : (fs : List LinkedFn) (f : LinkedFn) (place h takes_n pushes_n : ℕ) (i : Operation) → Local fs (heights_of fs f.code) f place h i → taken fs i ≡ takes_n → handed_on i (left_by fs i h) ≡ Some ((h - takes_n) + pushes_n)
    → Leaves fs f (place + size i) h takes_n pushes_n
plain fs f place h takes_n pushes_n i l t e = record { there = omega (arith, l.words, t); next = goes_at fs f place (place + size i) h _ i l refl e }

fine_of : (fs : List LinkedFn) (f : LinkedFn) (place h : ℕ) (i : Operation) → Local fs (heights_of fs f.code) f place h i → Targets fs f h i → IsFine fs f place h i
fine_of fs f place h (Push8 n) l t = plain fs f place h 0 1 (Push8 n) l refl refl
fine_of fs f place h (Push64 n) l t = plain fs f place h 0 1 (Push64 n) l refl refl
fine_of fs f place h (Load s) l t = (low_slot f.slots s l.slot, plain fs f place h 0 1 (Load s) l refl refl)
fine_of fs f place h (Store s) l t = (low_slot f.slots s l.slot, plain fs f place h 1 0 (Store s) l refl refl)
fine_of fs f place h Pop l t = plain fs f place h 1 0 Pop l refl refl
fine_of fs f place h Dup l t = plain fs f place h 1 2 Dup l refl refl
fine_of fs f place h Nop l t = plain fs f place h 0 0 Nop l refl refl
fine_of fs f place h Neg l t = plain fs f place h 1 1 Neg l refl refl
fine_of fs f place h Not l t = plain fs f place h 1 1 Not l refl refl
fine_of fs f place h Print l t = plain fs f place h 1 0 Print l refl refl
fine_of fs f place h (Compute o) l t = plain fs f place h 2 1 (Compute o) l refl refl
fine_of fs f place h (Jump to) l t = let z : (h - 0) + 0 ≡ h = omega arith in subst (λ (n : ℕ). At fs f to n) z (t.leads to refl)
fine_of fs f place h (JumpZero to) l t =
    let z : (h - 1) + 0 ≡ h - 1 = omega arith in
    (l.words, subst (λ (n : ℕ). At fs f to n) z (t.leads to refl), subst (λ (n : ℕ). At fs f (place + 5) n) z (goes_at fs f place (place + 5) h _ (JumpZero to) l refl refl))
fine_of fs f place h (Call k) l t = (
  l.below k refl,
  λ g is.
      let takes_is : taken fs (Call k) ≡ g.params = rw is refl in
      let left_is : left_by fs (Call k) h ≡ (h - g.params) + g.«result» = rw is refl in
      record { there = omega (arith, l.words, takes_is); next = goes_at fs f place (place + 5) h _ (Call k) l refl (ap (λ (n : ℕ). Some n) left_is) },
)
fine_of fs f place h Return l t = l.leaves refl
fine_of fs f place h Trap l t = tt

-- ---- the function

function_parts : (fs : List LinkedFn) (version : Version) (at : ℕ) (f : LinkedFn) → function_fault fs version at f ≡ None
    → (f.params ≤ f.slots) × (length f.code ≡ 0 → ⊥) × (code_faults fs (heights_of fs f.code) f (operations f.code) (at + code_offset version) (operations f.code) ≡ None)
unfolding function_fault
function_parts fs version at f e = parts (ltb f.slots f.params) (eqb (length f.code) 0) refl refl e
  where
    parts : (a b : Bool) → ltb f.slots f.params ≡ a → eqb (length f.code) 0 ≡ b
        → cond a (Some (record { at = at + slots_offset; what = word.Slots })) (cond b (Some (record { at = at + code_offset version; what = word.End })) (code_faults fs (heights_of fs f.code) f (operations f.code) (at + code_offset version) (operations f.code))) ≡ None
        → (f.params ≤ f.slots) × (length f.code ≡ 0 → ⊥) × (code_faults fs (heights_of fs f.code) f (operations f.code) (at + code_offset version) (operations f.code) ≡ None)
    parts true b p q e = absurd cc
    parts false true p q e = absurd cc
    parts false false p q e = (ltb-false _ _ p, λ z. absurd (let is = eq-eqb (length f.code) 0 z in cc), e)

pub sound_function : (fs : List LinkedFn) (version : Version) (at : ℕ) (f : LinkedFn) → function_fault fs version at f ≡ None → IsLinkedCode (length fs) f.code → IsSound fs f
unfolding heights_of operations
sound_function fs version at f e linked =
    let parts = function_parts fs version at f e in
    let hs = heights_of fs f.code in
    let all = operations f.code in
    let whole : code_fault_after (Some (length fs)) 0 0 f.code ≡ None = code_fault-linked (length fs) 0 f.code linked in
    let rest : Rest fs hs f all (at + code_offset version) at_start 0 0 f.code = record {
      whole = whole;
      short = omega arith;
      is = refl;
      look = λ t le. refl;
      find = λ t le. refl;
      none = parts.2;
    } in
    let each : (t k : ℕ) → first_at hs t ≡ Some k → Judged fs hs f all t k = λ t k is. every fs hs f all (at + code_offset version) at_start 0 0 f.code rest t k (omega arith) is in
    record {
      start = record { has = next_here fs at_start (length fs) 0 0 f.code whole (omega (arith, parts.1)) };
      params = parts.0;
      each = λ place h a.
          let j = each place h a.has in (
            j.operation,
            record {
              at = j.found;
              there = j.there;
              fine = fine_of fs f place h j.operation j.local (record { leads = λ to jumps. record { has = target_height fs hs f all place h to j each a.has jumps } });
            },
          );
    }

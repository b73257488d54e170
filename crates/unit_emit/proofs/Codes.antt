-- Codes one behind the other.
use Rattle.std.proofs.Common.{◌≡◌, ℕ, ◌+◌, List, [], ◌∷◌, ◌++◌, length, refl, sym, ap, ◌∙◌, pos, append_assoc, length-append, subst}
use Rattle.std.proofs.lemmas.List.{append-nil}
use Rattle.object_format.specs.Code.{Instruction, bytes_of, spelled}
use Rattle.object_format.specs.declared.opcode.Opcode.{Opcode}
use Rattle.unit_emit.specs.Code.{bytes, Part, nothing, one, behind, with_number, push, Emits}

pub spelled_append : (xs ys : List Instruction) → spelled (xs ++ ys) ≡ spelled xs ++ spelled ys
spelled_append [] ys = refl
spelled_append (x ∷ xs) ys = ap (λ l. bytes_of x ++ l) (spelled_append xs ys) ∙ sym (append_assoc (bytes_of x) (spelled xs) (spelled ys))

pub bytes_append : (xs ys : List Instruction) → bytes (xs ++ ys) ≡ bytes xs + bytes ys
bytes_append xs ys = ap length (spelled_append xs ys) ∙ length-append (spelled xs) (spelled ys)

pub emits_nothing : (old : List ℕ) → Emits old nothing old
emits_nothing old = record { is = sym (append-nil old) }

pub emits_one : (old new : List ℕ) (i : Instruction) → new ≡ old ++ bytes_of i → Emits old (one i) new
emits_one old new i e = record { is = e ∙ ap (λ l. old ++ l) (sym (append-nil (bytes_of i))) }

-- the buffer's length behind a part
pub emitted_length : (old new : List ℕ) (a : Part) → Emits old a new → length new ≡ length old + bytes (a (length old))
emitted_length old new a e = ap length e.is ∙ length-append old (spelled (a (length old)))

pub emits_behind : (old mid now : List ℕ) (a b : Part) → Emits old a mid → Emits mid b now → Emits old (behind a b) now
emits_behind old mid now a b first second =
    let ca = a (length old) in
    let cb = b (length old + bytes ca) in
    record {
      is =
          second.is
          ∙ ap (λ n. mid ++ spelled (b n)) (emitted_length old mid a first)
          ∙ ap (λ l. l ++ spelled cb) first.is
          ∙ append_assoc old (spelled ca) (spelled cb)
          ∙ ap (λ l. old ++ l) (sym (spelled_append ca cb));
    }

-- an instruction with a number is five bytes, and the push of a short word two
pub number_bytes : (o : Opcode) (n : ℕ) (ys : List Instruction) → bytes (with_number o n ∷ ys) ≡ 5 + bytes ys
number_bytes o n ys = length-append (bytes_of (with_number o n)) (spelled ys)

pub one_bytes : (ys : List Instruction) → bytes (push (pos 1) ∷ ys) ≡ 2 + bytes ys
one_bytes ys = length-append (bytes_of (push (pos 1))) (spelled ys)

pub whole_code : (c0 c1 c2 : List ℕ) (a : Part) (i j : Instruction) → c0 ≡ [] → Emits c0 a c1 → i ≡ j → Emits c1 (one i) c2 → c2 ≡ spelled (behind a (one j) 0)
whole_code c0 c1 c2 a i j none ea same ei =
    let all = emits_behind c0 c1 c2 a (one j) ea (subst (λ k. Emits c1 (one k) c2) same ei) in
    all.is ∙ ap (λ l. l ++ spelled (behind a (one j) (length l))) none

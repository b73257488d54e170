-- Operands that are filled in later.
use Rattle.std.proofs.Common.{◌≡◌, ℕ, ◌+◌, pos, List, [], ◌∷◌, ◌++◌, length, drop, take, refl, sym, ap, ◌∙◌, arith, append_assoc, length-append}
use Rattle.std.proofs.Math.Seq.{take-append_seam, drop-append-add}
use Rattle.std.specs.Int.{w32, to_be_bytes}
use Rattle.object_format.specs.Opcode.{row}
use Rattle.object_format.specs.Code.{Instruction, spelled}
use Rattle.object_format.specs.declared.opcode.Opcode.{Opcode}
use Rattle.object_format.specs.declared.opcode.Opcode.TheVariants as op
use Rattle.unit_emit.specs.Code.{bytes, Part, one, behind, with_number, push, and_rest, or_at, or_rest, if_rest, else_rest, while_code, Emits, mended}
use Rattle.unit_emit.proofs.Codes.{spelled_append, bytes_append, emitted_length, emits_behind, number_bytes, one_bytes}

mended_seam : (pre hole post : List ℕ) (at n : ℕ) → at ≡ length pre → length hole ≡ 4 → mended (pre ++ (hole ++ post)) at n ≡ pre ++ (to_be_bytes w32 n ++ post)
mended_seam pre hole post at n here four =
    ap (λ k. take k (pre ++ (hole ++ post)) ++ (to_be_bytes w32 n ++ drop (k + 4) (pre ++ (hole ++ post)))) here
    ∙ ap (λ l. l ++ (to_be_bytes w32 n ++ drop (length pre + 4) (pre ++ (hole ++ post)))) (take-append_seam pre (hole ++ post))
    ∙ ap (λ l. pre ++ (to_be_bytes w32 n ++ l)) (drop-append-add pre (hole ++ post) 4 ∙ ap (λ k. drop k (hole ++ post)) (sym four ∙ plus_zero (length hole)) ∙ drop-append-add hole post 0)
  where
    plus_zero : (k : ℕ) → k ≡ k + 0
    plus_zero k = omega arith

pub mend_one : (old : List ℕ) (xs ys : List Instruction) (o : Opcode) (m n at : ℕ) → at ≡ length old + bytes xs + 1 → mended (old ++ spelled (xs ++ with_number o m ∷ ys)) at n ≡ old ++ spelled (xs ++ with_number o n ∷ ys)
mend_one old xs ys o m n at here =
    let pre = old ++ (spelled xs ++ (row o).number ∷ []) in
    let len : at ≡ length pre = omega (arith, here, length-append old (spelled xs ++ (row o).number ∷ []), length-append (spelled xs) ((row o).number ∷ [])) in
    ap (λ l. mended l at n) (split m) ∙ mended_seam pre (to_be_bytes w32 m) (spelled ys) at n len refl ∙ sym (split n)
  where
    split : (k : ℕ) → old ++ spelled (xs ++ with_number o k ∷ ys) ≡ (old ++ (spelled xs ++ (row o).number ∷ [])) ++ (to_be_bytes w32 k ++ spelled ys)
    split k =
        ap (λ l. old ++ l) (spelled_append xs (with_number o k ∷ ys) ∙ sym (append_assoc (spelled xs) ((row o).number ∷ []) (to_be_bytes w32 k ++ spelled ys)))
        ∙ sym (append_assoc old (spelled xs ++ (row o).number ∷ []) (to_be_bytes w32 k ++ spelled ys))

pub mend_two : (old : List ℕ) (xs ys zs : List Instruction) (o1 o2 : Opcode) (m1 m2 n1 n2 at1 at2 : ℕ) → at1 ≡ length old + bytes xs + 1 → at2 ≡ length old + bytes xs + 5 + bytes ys + 1
    → mended (mended (old ++ spelled (xs ++ with_number o1 m1 ∷ (ys ++ with_number o2 m2 ∷ zs))) at1 n1) at2 n2 ≡ old ++ spelled (xs ++ with_number o1 n1 ∷ (ys ++ with_number o2 n2 ∷ zs))
mend_two old xs ys zs o1 o2 m1 m2 n1 n2 at1 at2 here1 here2 =
    let front = xs ++ with_number o1 n1 ∷ ys in
    let len : bytes front ≡ bytes xs + (5 + bytes ys) = bytes_append xs (with_number o1 n1 ∷ ys) ∙ ap (λ k. bytes xs + k) (number_bytes o1 n1 ys) in
    let here : at2 ≡ length old + bytes front + 1 = omega (arith, here2, len) in
    ap (λ l. mended l at2 n2) (mend_one old xs (ys ++ with_number o2 m2 ∷ zs) o1 m1 n1 at1 here1)
    ∙ ap (λ l. mended (old ++ spelled l) at2 n2) (sym (append_assoc xs (with_number o1 n1 ∷ ys) (with_number o2 m2 ∷ zs)))
    ∙ mend_one old front zs o2 m2 n2 at2 here
    ∙ ap (λ l. old ++ spelled l) (append_assoc xs (with_number o1 n1 ∷ ys) (with_number o2 n2 ∷ zs))

-- [a], JZ x, [b], JMP y, x: PUSH8 0, y:
pub emits_and : (c0 c1 c2 c3 c4 c5 c6 c7 : List ℕ) (a b : Part) (test other : ℕ)
    → Emits c0 a c1 → test ≡ length c1 → Emits c1 (one (with_number op.JumpZero 0)) c2 → Emits c2 b c3 → other ≡ length c3 → Emits c3 (one (with_number op.Jump 0)) c4 → Emits c4 (one (push (pos 0))) c5
    → c6 ≡ mended c5 (test + 1) (other + 5) → c7 ≡ mended c6 (other + 1) (other + 7) → Emits c0 (behind a (and_rest b)) c7
emits_and c0 c1 c2 c3 c4 c5 c6 c7 a b test other ea et ej eb eo eg ep m1 m2 =
    let p = length c0 in
    let ca = a p in
    let q = p + bytes ca + 5 in
    let cb = b q in
    let to_b = emits_behind c0 c1 c3 a _ ea (emits_behind c1 c2 c3 _ b ej eb) in
    let all = emits_behind c0 c1 c5 a _ ea (emits_behind c1 c2 c5 _ _ ej (emits_behind c2 c3 c5 b _ eb (emits_behind c3 c4 c5 _ _ eg ep))) in
    let at_test : test ≡ p + bytes ca = et ∙ emitted_length c0 c1 a ea in
    let len_b : bytes (ca ++ with_number op.JumpZero 0 ∷ cb) ≡ bytes ca + (5 + bytes cb) = bytes_append ca (with_number op.JumpZero 0 ∷ cb) ∙ ap (λ k. bytes ca + k) (number_bytes op.JumpZero 0 cb) in
    let long : length c3 ≡ p + bytes (ca ++ with_number op.JumpZero 0 ∷ cb) = emitted_length c0 c3 _ to_b in
    let at_other : other ≡ q + bytes cb = omega (arith, eo, long, len_b) in
    let here1 : test + 1 ≡ p + bytes ca + 1 = omega (arith, at_test) in
    let here2 : other + 1 ≡ p + bytes ca + 5 + bytes cb + 1 = omega (arith, at_other) in
    record {
      is =
          m2 ∙ ap (λ l. mended l (other + 1) (other + 7)) (m1 ∙ ap (λ l. mended l (test + 1) (other + 5)) all.is)
          ∙ mend_two c0 ca cb (push (pos 0) ∷ []) op.JumpZero op.Jump 0 0 (other + 5) (other + 7) (test + 1) (other + 1) here1 here2
          ∙ ap (λ n. c0 ++ spelled (ca ++ with_number op.JumpZero (n + 5) ∷ (cb ++ with_number op.Jump (n + 7) ∷ push (pos 0) ∷ []))) at_other;
    }

-- [a], JZ x, PUSH8 1, JMP y, x: [b], y:
pub emits_or : (c0 c1 c2 c3 c4 c5 c6 c7 : List ℕ) (a b : Part) (test end : ℕ)
    → Emits c0 a c1 → test ≡ length c1 → Emits c1 (one (with_number op.JumpZero 0)) c2 → Emits c2 (one (push (pos 1))) c3 → Emits c3 (one (with_number op.Jump 0)) c4 → Emits c4 b c5
    → c6 ≡ mended c5 (test + 1) (test + 12) → end ≡ length c6 → c7 ≡ mended c6 (test + 8) end → Emits c0 (behind a (or_rest b)) c7
emits_or c0 c1 c2 c3 c4 c5 c6 c7 a b test end ea et ej ep eg eb m1 ee m2 =
    let p = length c0 in
    let ca = a p in
    let q = p + bytes ca + 5 + 2 + 5 in
    let q12 : q ≡ p + bytes ca + 12 = omega arith in
    let cb = b q in
    let all = emits_behind c0 c1 c5 a _ ea (emits_behind c1 c2 c5 _ _ ej (emits_behind c2 c3 c5 _ _ ep (emits_behind c3 c4 c5 _ _ eg eb))) in
    let at_test : test ≡ p + bytes ca = et ∙ emitted_length c0 c1 a ea in
    let here1 : test + 1 ≡ p + bytes ca + 1 = omega (arith, at_test) in
    let here2 : test + 8 ≡ p + bytes ca + 5 + 2 + 1 = omega (arith, at_test) in
    let once : c6 ≡ c0 ++ spelled (ca ++ with_number op.JumpZero (test + 12) ∷ (push (pos 1) ∷ with_number op.Jump 0 ∷ cb)) =
    m1 ∙ ap (λ l. mended l (test + 1) (test + 12)) all.is ∙ mend_one c0 ca (push (pos 1) ∷ with_number op.Jump 0 ∷ cb) op.JumpZero 0 (test + 12) (test + 1) here1 in
    let len : bytes (ca ++ with_number op.JumpZero (test + 12) ∷ (push (pos 1) ∷ with_number op.Jump 0 ∷ cb)) ≡ bytes ca + (5 + (2 + (5 + bytes cb))) = bytes_append ca _ ∙ ap (λ k. bytes ca + k) (number_bytes op.JumpZero (test + 12) (push (pos 1) ∷ with_number op.Jump 0 ∷ cb) ∙ ap (λ k. 5 + k) (one_bytes (with_number op.Jump 0 ∷ cb) ∙ ap (λ k. 2 + k) (number_bytes op.Jump 0 cb))) in
    let long : length c6 ≡ p + bytes (ca ++ with_number op.JumpZero (test + 12) ∷ (push (pos 1) ∷ with_number op.Jump 0 ∷ cb)) = ap length once ∙ length-append c0 _ in
    let at_end : end ≡ q + bytes cb = omega (arith, ee, long, len) in
    let twelve : test + 12 ≡ q = omega (arith, at_test) in
    record {
      is =
          m2 ∙ ap (λ l. mended l (test + 8) end) (m1 ∙ ap (λ l. mended l (test + 1) (test + 12)) all.is)
          ∙ mend_two c0 ca (push (pos 1) ∷ []) cb op.JumpZero op.Jump 0 0 (test + 12) end (test + 1) (test + 8) here1 here2
          ∙ ap (λ n. c0 ++ spelled (ca ++ with_number op.JumpZero n ∷ (push (pos 1) ∷ with_number op.Jump end ∷ cb))) twelve
          ∙ ap (λ n. c0 ++ spelled (ca ++ with_number op.JumpZero q ∷ (push (pos 1) ∷ with_number op.Jump n ∷ cb))) at_end
          ∙ ap (λ k. c0 ++ spelled (ca ++ or_at k (b k))) q12;
    }

-- [e], JZ x, [a], x:
pub emits_if : (c0 c1 c2 c3 c4 : List ℕ) (e a : Part) (test end : ℕ)
    → Emits c0 e c1 → test ≡ length c1 → Emits c1 (one (with_number op.JumpZero 0)) c2 → Emits c2 a c3 → end ≡ length c3 → c4 ≡ mended c3 (test + 1) end → Emits c0 (behind e (if_rest a)) c4
emits_if c0 c1 c2 c3 c4 e a test end ee et ej ea el m =
    let p = length c0 in
    let ce = e p in
    let q = p + bytes ce + 5 in
    let ca = a q in
    let all = emits_behind c0 c1 c3 e _ ee (emits_behind c1 c2 c3 _ a ej ea) in
    let at_test : test ≡ p + bytes ce = et ∙ emitted_length c0 c1 e ee in
    let len : bytes (ce ++ with_number op.JumpZero 0 ∷ ca) ≡ bytes ce + (5 + bytes ca) = bytes_append ce (with_number op.JumpZero 0 ∷ ca) ∙ ap (λ k. bytes ce + k) (number_bytes op.JumpZero 0 ca) in
    let long : length c3 ≡ p + bytes (ce ++ with_number op.JumpZero 0 ∷ ca) = emitted_length c0 c3 _ all in
    let at_end : end ≡ q + bytes ca = omega (arith, el, long, len) in
    let here : test + 1 ≡ p + bytes ce + 1 = omega (arith, at_test) in
    record {
      is =
          m ∙ ap (λ l. mended l (test + 1) end) all.is
          ∙ mend_one c0 ce ca op.JumpZero 0 end (test + 1) here
          ∙ ap (λ n. c0 ++ spelled (ce ++ with_number op.JumpZero n ∷ ca)) at_end;
    }

-- [e], JZ x, [a], JMP y, x: [b], y:
pub emits_else : (c0 c1 c2 c3 c4 c5 c6 c7 : List ℕ) (e a b : Part) (test other end : ℕ)
    → Emits c0 e c1 → test ≡ length c1 → Emits c1 (one (with_number op.JumpZero 0)) c2 → Emits c2 a c3 → other ≡ length c3 → Emits c3 (one (with_number op.Jump 0)) c4 → Emits c4 b c5 → end ≡ length c5
    → c6 ≡ mended c5 (test + 1) (other + 5) → c7 ≡ mended c6 (other + 1) end → Emits c0 (behind e (else_rest a b)) c7
emits_else c0 c1 c2 c3 c4 c5 c6 c7 e a b test other end ee et ej ea eo eg eb el m1 m2 =
    let p = length c0 in
    let ce = e p in
    let q = p + bytes ce + 5 in
    let ca = a q in
    let r = q + bytes ca + 5 in
    let cb = b r in
    let all = emits_behind c0 c1 c5 e _ ee (emits_behind c1 c2 c5 _ _ ej (emits_behind c2 c3 c5 a _ ea (emits_behind c3 c4 c5 _ b eg eb))) in
    let to_a = emits_behind c0 c1 c3 e _ ee (emits_behind c1 c2 c3 _ a ej ea) in
    let at_test : test ≡ p + bytes ce = et ∙ emitted_length c0 c1 e ee in
    let len_a : bytes (ce ++ with_number op.JumpZero 0 ∷ ca) ≡ bytes ce + (5 + bytes ca) = bytes_append ce (with_number op.JumpZero 0 ∷ ca) ∙ ap (λ k. bytes ce + k) (number_bytes op.JumpZero 0 ca) in
    let long_a : length c3 ≡ p + bytes (ce ++ with_number op.JumpZero 0 ∷ ca) = emitted_length c0 c3 _ to_a in
    let at_other : other ≡ q + bytes ca = omega (arith, eo, long_a, len_a) in
    let len_b : length c4 ≡ length c3 + 5 = emitted_length c3 c4 _ eg in
    let long_b : length c5 ≡ length c4 + bytes (b (length c4)) = emitted_length c4 c5 b eb in
    let at_b : length c4 ≡ r = omega (arith, len_b, eo, at_other) in
    let at_end : end ≡ r + bytes cb = el ∙ long_b ∙ ap (λ n. n + bytes (b n)) at_b in
    let here1 : test + 1 ≡ p + bytes ce + 1 = omega (arith, at_test) in
    let here2 : other + 1 ≡ p + bytes ce + 5 + bytes ca + 1 = omega (arith, at_other) in
    record {
      is =
          m2 ∙ ap (λ l. mended l (other + 1) end) (m1 ∙ ap (λ l. mended l (test + 1) (other + 5)) all.is)
          ∙ mend_two c0 ce ca cb op.JumpZero op.Jump 0 0 (other + 5) end (test + 1) (other + 1) here1 here2
          ∙ ap (λ n. c0 ++ spelled (ce ++ with_number op.JumpZero (n + 5) ∷ (ca ++ with_number op.Jump end ∷ cb))) at_other
          ∙ ap (λ n. c0 ++ spelled (ce ++ with_number op.JumpZero (q + bytes ca + 5) ∷ (ca ++ with_number op.Jump n ∷ cb))) at_end;
    }

-- z: [e], JZ x, [a], JMP z, x:
pub emits_while : (c0 c1 c2 c3 c4 c6 c7 : List ℕ) (e a : Part) (start test other : ℕ)
    → start ≡ length c0 → Emits c0 e c1 → test ≡ length c1 → Emits c1 (one (with_number op.JumpZero 0)) c2 → Emits c2 a c3 → other ≡ length c3 → Emits c3 (one (with_number op.Jump 0)) c4
    → c6 ≡ mended c4 (test + 1) (other + 5) → c7 ≡ mended c6 (other + 1) start → Emits c0 (while_code e a) c7
emits_while c0 c1 c2 c3 c4 c6 c7 e a start test other es ee et ej ea eo eg m1 m2 =
    let p = length c0 in
    let ce = e p in
    let q = p + bytes ce + 5 in
    let ca = a q in
    let all = emits_behind c0 c1 c4 e _ ee (emits_behind c1 c2 c4 _ _ ej (emits_behind c2 c3 c4 a _ ea eg)) in
    let to_a = emits_behind c0 c1 c3 e _ ee (emits_behind c1 c2 c3 _ a ej ea) in
    let at_test : test ≡ p + bytes ce = et ∙ emitted_length c0 c1 e ee in
    let len_a : bytes (ce ++ with_number op.JumpZero 0 ∷ ca) ≡ bytes ce + (5 + bytes ca) = bytes_append ce (with_number op.JumpZero 0 ∷ ca) ∙ ap (λ k. bytes ce + k) (number_bytes op.JumpZero 0 ca) in
    let long_a : length c3 ≡ p + bytes (ce ++ with_number op.JumpZero 0 ∷ ca) = emitted_length c0 c3 _ to_a in
    let at_other : other ≡ q + bytes ca = omega (arith, eo, long_a, len_a) in
    let here1 : test + 1 ≡ p + bytes ce + 1 = omega (arith, at_test) in
    let here2 : other + 1 ≡ p + bytes ce + 5 + bytes ca + 1 = omega (arith, at_other) in
    record {
      is =
          m2 ∙ ap (λ l. mended l (other + 1) start) (m1 ∙ ap (λ l. mended l (test + 1) (other + 5)) all.is)
          ∙ mend_two c0 ce ca [] op.JumpZero op.Jump 0 0 (other + 5) start (test + 1) (other + 1) here1 here2
          ∙ ap (λ n. c0 ++ spelled (ce ++ with_number op.JumpZero (n + 5) ∷ (ca ++ with_number op.Jump start ∷ []))) at_other
          ∙ ap (λ n. c0 ++ spelled (ce ++ with_number op.JumpZero (q + bytes ca + 5) ∷ (ca ++ with_number op.Jump n ∷ []))) es;
    }

use Rattle.std.proofs.Common.{◌≡◌, ℕ, zero, suc, ◌+◌, ◌-◌, ◌%◌, ◌^◌, ◌<◌, List, refl, ap, ◌∙◌, arith, subst}
use Rattle.object_format.specs.declared.opcode.Opcode.TheVariants as op
use Rattle.unit_emit.specs.Code.{Emits, one, several, with_byte, stores}
use Rattle.unit_emit.proofs.Codes.{emits_behind}
use Rattle.unit_emit.proofs.exprs.put_stores.Goals as goal

one_more : (old mid now : List ℕ) (first left slot : ℕ) → 0 < left → slot ≡ (first + (left - 1)) % 2 ^ 8 → Emits old (one (with_byte op.Store slot)) mid → Emits mid (several (stores first (left - 1))) now → Emits old (several (stores first left)) now
one_more old mid now first zero slot pos is done rest = absurd (omega arith)
one_more old mid now first (suc n) slot pos is done rest =
    let less : suc n - 1 ≡ n = omega arith in
    let here = subst (λ s. Emits old (one (with_byte op.Store s)) mid) (is ∙ ap (λ k. (first + k) % 2 ^ 8) less) done in
    emits_behind old mid now _ _ here (subst (λ k. Emits mid (several (stores first k)) now) less rest)

pub loop-left-preserved : goal.loop-left-preserved
loop-left-preserved c = λ now rest. c.loop-left.invariant now (one_more _ _ now c.args.first c.loop-left.left _ c.loop-left-test.true refl c.in_ok-put_byte.ensures rest)

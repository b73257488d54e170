use Rattle.std.proofs.Common.{◌≡◌, ℕ, zero, suc, ◌-◌, ◌<◌, List, arith, subst}
use Rattle.object_format.specs.declared.opcode.Opcode.TheVariants as op
use Rattle.unit_emit.specs.Code.{Emits, one, several, plain, pops}
use Rattle.unit_emit.proofs.Codes.{emits_behind}
use Rattle.unit_emit.proofs.stmts.put_pops.Goals as goal

one_more : (old mid now : List ℕ) (left : ℕ) → 0 < left → Emits old (one (plain op.Pop)) mid → Emits mid (several (pops (left - 1))) now → Emits old (several (pops left)) now
one_more old mid now zero pos done rest = absurd (omega arith)
one_more old mid now (suc n) pos done rest =
    let less : suc n - 1 ≡ n = omega arith in
    emits_behind old mid now _ _ done (subst (λ k. Emits mid (several (pops k)) now) less rest)

pub loop-left-preserved : goal.loop-left-preserved
loop-left-preserved c = λ now rest. c.loop-left.invariant now (one_more _ _ now c.loop-left.left c.loop-left-test.true c.in_ok-put.ensures rest)

use Rattle.std.proofs.Common.{◌≡◌, refl, sym, inl, inr, arith}
use Rattle.std.proofs.lemmas.Bool.{cases_lt}
use Rattle.object_format.proofs.Opcodes.{opcode_of-past}
use Rattle.object_format.proofs.opcode.Opcode.of.Goals as goal

pub returns-in_default : goal.returns-in_default
returns-in_default c =
    elim (cases_lt 26 c.args.byte) [
      | inl past ↦ sym (opcode_of-past c.args.byte past)
      | inr le ↦ let none : c.args.byte ≡ 0 = omega arith in rw none refl
    ]

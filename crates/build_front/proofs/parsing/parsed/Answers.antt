use Rattle.std.proofs.Common.{arith, subst}
use Rattle.lar_syntax.specs.Parsed.{Parses}
use Rattle.build_front.proofs.Kept.{kept_if}
use Rattle.build_front.proofs.parsing.parsed.Goals as goal

pub returns-clause-kept : goal.returns-clause-kept
returns-clause-kept c =
    kept_if c.args.file.now c.args.number c.in_ok-tokens.tokens.items c.parse.result (c.in_ok-tokens.ensures).lawful (c.in_ok-tokens.ensures).in_order (omega (arith, (c.in_ok-tokens.ensures).few, c.requires))
    (subst (λ ts. Parses c.args.file.now ts c.parse.result) (c.as_slice.ensures).value c.parse.ensures)

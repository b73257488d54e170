use Rattle.std.proofs.Common.{false, cond, ap, ◌+◌, drop}
use Rattle.std.proofs.lemmas.Str.Pattern.{starts_text}
use Rattle.make_flags.specs.Flags as spec
use Rattle.make_flags.proofs.flags.named_after.Goals as goal

pub returns-in-None : goal.returns-in-None
returns-in-None c = ap (λ b. cond b (spec.jobserver_of (c.args.at + 17) (drop 17 c.args.word.now)) c.args.named) (starts_text false spec.auth c.args.word.now c.in-None.ensures.cases)

use Rattle.std.proofs.Common.{drop}
use Rattle.std.specs.List.{concat}
use Rattle.listings.specs.Listed.{parts_of, text_of}
use Rattle.larch_cli.proofs.Sent.{SoFar}
use Rattle.larch_cli.proofs.sending.put_parts.Given as goal

abbrev pub invariant-loop-part : goal.invariant-loop-part
invariant-loop-part g l = SoFar (g.S.Sink.told l.initial.out) (g.S.Sink.told l.out) l.text.items (concat (drop l.part (parts_of l.listed))) (text_of l.listed)

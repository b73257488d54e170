use Rattle.std.proofs.Common.{◌≡◌, map, take}
use Rattle.clap.specs.Words.{app_of}
use Rattle.words.specs.Lines as spec
use Rattle.words.specs.Reads as reads
use Rattle.words.proofs.line.command_for.Given as goal

abbrev pub invariant-loop-choice : goal.invariant-loop-choice
invariant-loop-choice l = app_of l.command ≡ reads.app_with (map reads.rule_for (map spec.choice_shown (take l.choice-index l.table)))

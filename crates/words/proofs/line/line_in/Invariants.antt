use Rattle.std.proofs.Common.{◌≡◌, map, take}
use Rattle.std.specs.List.{filter_map}
use Rattle.clap.specs.Words.{found_of, rows_of}
use Rattle.words.specs.Lines.{choice_shown, given_shown}
use Rattle.words.specs.Reads.{given_in}
use Rattle.words.proofs.line.line_in.Given as goal

abbrev pub invariant-loop-choice : goal.invariant-loop-choice
invariant-loop-choice l = record {
  files : l.line.files ≡ l.initial.line.files;
  given : map given_shown l.line.given.items ≡ filter_map (given_in (rows_of (found_of l.matches))) (map choice_shown (take l.choice-index l.table));
}

use Rattle.std.proofs.Common.{◌≡◌, ◌+◌, length}
use denote.Text.{Utf8}
use denote.Shadow.{shadow}
use Rattle.std.specs.List.{slice_split}
use Rattle.make_flags.specs.Words.{is_space, placed, words_of}
use Rattle.make_flags.proofs.Answering.{answer}
use Rattle.make_flags.specs.Flags as spec
use Rattle.make_flags.proofs.flags.jobserver_in.Given as goal

abbrev pub invariant-loop-word : goal.invariant-loop-word
invariant-loop-word l =
    shadow (Utf8 l.rest) × (l.at + length l.rest ≡ length l.text)
    × (answer l.named (placed l.at (slice_split is_space l.rest)) ≡ spec.jobserver_among (spec.options_of (words_of l.text)))

abbrev pub decreases-loop-word : goal.decreases-loop-word
decreases-loop-word l = length l.rest

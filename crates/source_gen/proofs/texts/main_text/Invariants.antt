use Rattle.std.proofs.Common.{◌≡◌, ◌++◌, string_bytes, codes}
use Rattle.std.specs.List.{flat_map, range_with_len}
use Rattle.source_gen.specs.Sources.{call_line}
use Rattle.source_gen.proofs.texts.main_text.Given as goal

abbrev pub invariant-loop-k : goal.invariant-loop-k
invariant-loop-k l = string_bytes l.text ≡ codes "fn main() {\n" ++ flat_map call_line (range_with_len 0 l.k-counter)

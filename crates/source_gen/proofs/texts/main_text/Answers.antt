use Rattle.std.proofs.Common.{◌∙◌, ◌++◌, append_assoc, codes, ap, sym}
use Rattle.std.specs.List.{flat_map, range_with_len}
use Rattle.source_gen.specs.Sources.{call_line}
use Rattle.source_gen.proofs.Ranges.{flat_map-range_more}
use Rattle.source_gen.proofs.texts.main_text.Goals as goal

pub loop-k-preserved : goal.loop-k-preserved
loop-k-preserved c =
    let head = codes "fn main() {\n" in
    let lines = flat_map call_line (range_with_len 0 c.loop-k.k-counter) in
    c.in_ok-write.ensures.bytes ∙ ap (λ bs. bs ++ call_line c.loop-k.k-counter) c.loop-k.invariant ∙ append_assoc head lines (call_line c.loop-k.k-counter)
    ∙ ap (λ bs. head ++ bs) (sym (flat_map-range_more call_line c.loop-k.k-counter))

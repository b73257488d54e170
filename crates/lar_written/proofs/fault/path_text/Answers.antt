use Rattle.std.proofs.Common.{◌∙◌, ap, sym, ◌++◌, string_bytes, codes}
use Rattle.std.proofs.Common.{List, ℕ}
use Rattle.std.proofs.lemmas.Str.{IsAscii-append}
use Rattle.std.specs.Str.{IsAscii}
use Rattle.std.proofs.Common.{subst, rules}
use Rattle.lar_written.proofs.Paths.{path_step}
use Rattle.lar_written.proofs.fault.path_text.Goals as goal

colons : IsAscii (codes "::")
colons = search rules

pub loop-segment-preserved : goal.loop-segment-preserved
loop-segment-preserved c = record {
  text = path_step c.args.path.now.first.text c.as_slice-segment-items.result.now c.loop-segment.segment-index c.segment-item.result (string_bytes c.loop-segment.text) (string_bytes c.push_str-in-loop-segment.new.self) (string_bytes c.push_str-in-loop-segment-2.new.self) c.loop-segment.invariant.text c.in_ok-push_str-2.ensures.bytes (c.in_ok-push_str-3.ensures.bytes ∙ ap (λ (t : List ℕ). string_bytes c.push_str-in-loop-segment.new.self ++ t) c.as_str-in-loop-segment.ensures.text) c.segment-item.is c.loop-segment-test.true;
  ascii = subst IsAscii (sym c.in_ok-push_str-3.ensures.bytes) (IsAscii-append (string_bytes c.push_str-in-loop-segment.new.self) c.as_str-in-loop-segment.result.now (subst IsAscii (sym c.in_ok-push_str-2.ensures.bytes) (IsAscii-append (string_bytes c.loop-segment.text) (codes "::") c.loop-segment.invariant.ascii colons)) c.as_str-in-loop-segment.ensures.ascii);
}

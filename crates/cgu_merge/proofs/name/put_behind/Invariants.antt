use Rattle.std.proofs.Common.{◌≡◌, ◌++◌, map, take}
use Rattle.std.specs.Prelude.{string_bytes}
use Rattle.std.specs.Str.{IsAscii}
use Rattle.text_order.specs.TextOrder.{text_at}
use Rattle.cgu_merge.specs.Merging.{behind}
use Rattle.cgu_merge.proofs.name.put_behind.Given as goal

abbrev pub invariant-loop-place : goal.invariant-loop-place
invariant-loop-place l = (string_bytes l.text ≡ string_bytes l.initial.text ++ behind (map (text_at l.names) (take l.place-index l.places))) × IsAscii (string_bytes l.text)

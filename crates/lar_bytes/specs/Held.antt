-- The bytes of a text, wherever they lie.
use Rattle.std.specs.Prelude.{ℕ, List, string_bytes, box_value}
use Rattle.lar_bytes.specs.declared.text.Held.{Held}
use Rattle.lar_bytes.specs.declared.text.Held.TheVariants.{Short, Long}

abbrev pub bytes_of : Held → List ℕ
bytes_of (Short text) = text
bytes_of (Long text) = string_bytes (box_value text)

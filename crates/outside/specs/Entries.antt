-- The entries of a map from names to bytes, as they lie in memory.
use Rattle.std.specs.Prelude.{ℕ, List, map, string_bytes}
use Rattle.std.specs.FinMap.{from_entries}
use Rattle.std.specs.declared.vec.Vec.{Vec}
use Rattle.std.specs.declared.alloc.Global.{Global}
use Rattle.std.specs.declared.string.String.{String}
use Rattle.outside.specs.Held.{Held}

abbrev pub held_in : List (String Global × Vec ℕ Global) → Held
held_in entries = from_entries (map (λ e. (string_bytes e.0, e.1.items)) entries)

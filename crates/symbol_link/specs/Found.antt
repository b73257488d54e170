-- What definitions hold of each symbol.
use Rattle.std.specs.Prelude.{List, ℕ, Option}
use Rattle.std.specs.Ordering.{nat_cmp}
use Rattle.std.specs.Cmp.Lexicographic.{slice_cmp}
use Rattle.std.specs.BTreeMap.{get_by}
use Rattle.symbol_link.specs.declared.definitions.Definition.{Definition}
use Rattle.symbol_link.specs.declared.definitions.Definitions.{Definitions}

abbrev pub found : Definitions → List ℕ → Option Definition
found definitions symbol = get_by (λ k. slice_cmp nat_cmp symbol k.now) definitions.by_symbol

-- Whether a name is among those of a set.
use Rattle.std.specs.Prelude.{ℕ, Bool, List, is_some}
use Rattle.std.specs.Ordering.{nat_cmp}
use Rattle.std.specs.Cmp.Lexicographic.{slice_cmp}
use Rattle.std.specs.BTreeMap.{get_by}
use Rattle.lar_names.specs.declared.earlier.Earlier.{Earlier}

abbrev pub is_earlier : Earlier → List ℕ → Bool
is_earlier e q = is_some (get_by (λ k. slice_cmp nat_cmp q k.now) e.names)

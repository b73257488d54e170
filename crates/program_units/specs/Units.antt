-- The codegen units of a program, as a function of the program and its instances.
use Rattle.std.specs.Prelude.{ℕ, zero, suc, Bool, ◌&&◌, ◌||◌, nat_eq, List, length, map, filter, slice_get}
use Rattle.std.specs.List.{list_any, range_with_len}
use Rattle.reach.specs.Reach.{has}
use Rattle.text_order.specs.TextOrder.{text_order}
use Rattle.cgu_merge.specs.Merging.{Merged, name_of}
use Rattle.lar_typed.specs.Trees.{PlainTree}
use Rattle.mono_items.specs.Homes.{first_names}
use Rattle.mono_items.specs.Units.{own_items, units_left}
use Rattle.mono_graph.specs.Instances.{PlainInstance}
use Rattle.units_text.specs.Lines.{PlainUnit, unit_lines}
use Rattle.program_units.specs.Placing.{symbol_in, items_of, is_homeless, calls_homeless}

-- Whether at most n steps lead from one of these places to p. A step leads from one of the first `count` places.
abbrev pub is_led : (ℕ → ℕ → Bool) → ℕ → List ℕ → ℕ → ℕ → Bool
is_led step count from zero p = has nat_eq p from
is_led step count from (suc n) p = is_led step count from n p || list_any (λ q. is_led step count from n q && step q p) (range_with_len 0 count)

-- The copies that a unit of these home items gets, in the order that is given: each item without a home to which calls lead from a
-- home item, through items without a home alone. As many calls as there are instances lead to whatever any number of calls leads to.
unfoldable pub copies_in : PlainTree → List PlainInstance → List ℕ → List ℕ → List ℕ
copies_in tree us order home = filter (λ p. is_homeless tree (slice_get us p) && is_led (calls_homeless tree us) (length us) home (length us) p) order

-- a unit of these home items
abbrev pub unit_with : PlainTree → List PlainInstance → List ℕ → Merged → List ℕ → PlainUnit
unit_with tree us order u home = record { name = name_of (first_names (items_of tree us)) u.firsts; size = u.size; home = home; copies = copies_in tree us order home }

-- the unit that is left of merging
abbrev pub unit_of : PlainTree → List PlainInstance → List ℕ → Merged → PlainUnit
unit_of tree us order u = unit_with tree us order u (own_items (items_of tree us) order u.firsts)

-- The units of a program of these instances: first units are merged while there are more than the limit, and each gets its copies.
-- Inside a unit items stand in byte order of symbols, and units in that of names.
unfoldable pub units_of : PlainTree → ℕ → List PlainInstance → List PlainUnit
units_of tree limit us = map (unit_of tree us (text_order (map (symbol_in tree) us))) (units_left (items_of tree us) limit)

-- their lines
unfoldable pub units_listed : PlainTree → ℕ → List PlainInstance → List ℕ
units_listed tree limit us = unit_lines (units_of tree limit us)

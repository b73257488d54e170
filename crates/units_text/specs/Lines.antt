-- The lines of codegen units.
use Rattle.std.specs.Prelude.{ℕ, List, ◌++◌, length, codes}
use Rattle.std.specs.List.{flat_map}
use Rattle.std.specs.Fmt.{decimal}
use Rattle.mono_items.specs.declared.items.UnitPlan.{UnitPlan}

-- A unit as plain data: its name, the size of the items that have their home in it, the places of these items among all that are
-- compiled, and those of the items that are copied into it.
pub record PlainUnit : Type 0 where
  pub name : List ℕ
  pub size : ℕ
  pub home : List ℕ
  pub copies : List ℕ

abbrev pub unit_view : UnitPlan → PlainUnit
unit_view plan = record { name = plan.name; size = plan.size; home = plan.home.items; copies = plan.copies.items }

-- `NAME size S items I copies C`, and the end of the line
abbrev pub unit_line : PlainUnit → List ℕ
unit_line u = u.name ++ (codes " size " ++ decimal u.size ++ codes " items " ++ decimal (length u.home) ++ codes " copies " ++ decimal (length u.copies) ++ codes "\n")

-- the lines of units, in order
abbrev pub unit_lines : List PlainUnit → List ℕ
unit_lines us = flat_map unit_line us

-- Types of a declaration with the generics of a use in place of its own, in the numbers of a table.
use Rattle.std.specs.Prelude.{List, map, Option}
use Rattle.type_table.specs.declared.row.Row.{Row}
use Rattle.type_table.specs.TypeOf.{TypeOf}
use Rattle.lar_rules.specs.Judged.{under}
use Rattle.lar_written.specs.declared.members.Member.{Member}
use Rattle.lar_judge.specs.Known.{type_if}

-- the types of members
abbrev pub members_under : List Row → Option TypeOf → List Member → List (Option TypeOf)
members_under rows gs ms = map (λ m. under gs (type_if rows m.of)) ms

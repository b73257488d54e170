use Rattle.std.proofs.Common.{◌≡◌, List, map, drop}
use Rattle.type_table.specs.declared.row.Row.{Row}
use Rattle.lar_rules.specs.Exprs.{member_from, member_named}
use Rattle.lar_written.specs.Members.{member_view}
use Rattle.lar_site.proofs.selecting.field_named.Given as goal

abbrev pub invariant-loop-place : goal.invariant-loop-place
invariant-loop-place l = (rows : List Row) → member_from l.place l.name (map (member_view rows) (drop l.place l.fields)) ≡ member_named l.name (map (member_view rows) l.fields)

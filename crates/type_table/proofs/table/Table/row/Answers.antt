use Rattle.std.proofs.Common.{subst}
use Rattle.type_table.specs.Rows.{IsTable}
use Rattle.type_table.proofs.Grown.{row_is, row_got}
use Rattle.type_table.proofs.table.Table.row.Goals as goal

pub returns-clause-stands : goal.returns-clause-stands
returns-clause-stands c = row_is c.args.self.now c.args.number c.index.result.now (subst IsTable c.self.view_is c.self.invariant.1) c.requires (row_got c.self.inside.rows.items c.args.self.now c.args.number c.index.result.now c.self.view_is c.requires c.index.ensures)

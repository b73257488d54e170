-- What an operator between two operands asks and gives, in numbers of rows.
use Rattle.std.specs.Prelude.{◌≡◌, List}
use Rattle.type_table.specs.declared.row.Row.{Row}
use Rattle.type_table.specs.TypeOf.{int}
use Rattle.type_table.specs.Rows.{Stands}
use Rattle.lar_tree.specs.declared.expr.Binary.{Binary}
use Rattle.lar_rules.specs.Exprs.{typed_binary_op, operand_type, result_type}
use Rattle.lar_judge.specs.declared.operators.Rule.{Rule}
use Rattle.lar_judge.specs.Known.{type_if, IfWithin}

pub record IsRule (rows : List Row) (op : Binary) (r : Rule) : Type 0 where
  pub same_op : r.op ≡ typed_binary_op op
  pub gives : Stands rows r.of (result_type op)
  pub within : IfWithin rows r.wanted
  pub asks : type_if rows r.wanted ≡ operand_type op
  pub int_stands : Stands rows r.int int

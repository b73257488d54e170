-- What the code has at hand while it goes through a body.
use Rattle.std.specs.Prelude.{ℕ, ℤ, ◌≤◌, List, length}
use Rattle.type_table.specs.declared.row.Row.{Row}
use Rattle.type_table.specs.declared.decl.StructDecl.{StructDecl}
use Rattle.lar_typed.specs.declared.tree.TypedConst.{TypedConst}
use Rattle.unit_close.specs.declared.around.Around.{Around}
use Rattle.unit_close.specs.Measures.{IsMeasure}

-- the same as plain data: the tree's types, structs and constants; of the instance the widths of its arguments and the numbers
-- of its const generics; the types of the locals; and the numbers of the body's calls
pub record Sight : Type 0 where
  pub rows : List Row
  pub structs : List StructDecl
  pub consts : List TypedConst
  pub widths : List ℕ
  pub numbers : List ℤ
  pub locals : List ℕ
  pub calls : List ℕ

abbrev pub sight : Around → Sight
sight x = record { rows = (x.measure).types.now; structs = (x.measure).structs.now; consts = x.consts.now; widths = x.widths.now; numbers = x.numbers.now; locals = x.locals.now; calls = x.calls.now }

-- what holds of it in every body
pub record IsAround (x : Around) : Type 0 where
  pub measure : IsMeasure x.measure
  pub few : length x.widths.now ≤ 16

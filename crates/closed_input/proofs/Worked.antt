-- Statements under an instance that were closed by hand, computed from the definitions.
use Rattle.std.proofs.Common.{◌≡◌, [], ◌∷◌, refl}
use Rattle.std.specs.Prelude.{pos}
use Rattle.type_table.specs.TypeOf.{TypeOf, int, end, more, tuple}
use Rattle.type_widths.specs.Width.{width}
use Rattle.lar_typed.specs.Exprs as expr
use Rattle.lar_typed.specs.Stmts as stmt
use Rattle.lar_typed.specs.TreeView.{Contents}
use Rattle.unit_input.specs.Exprs as unit
use Rattle.unit_input.specs.Stmts as unit_stmt
use Rattle.closed_input.specs.Places.{width_under}
use Rattle.closed_input.specs.Bodies.{Setting, closed_stmt}

abbrev nothing : Contents
nothing = record { rows = []; structs = []; consts = []; functions = [] }

-- an instance whose one generic stands for (i64,i64), with a local of the type (T,i64)
abbrev here : Setting
here = record { tree = nothing; arguments = more (tuple (more int (more int end))) end; locals = tuple (more (TypeOf.param 0) (more int end)) ∷ []; callees = [] }

-- `x.1 = 7;` sets one word behind two
second_set : closed_stmt here (stmt.assign 0 (record { part = 1; of = int } ∷ []) (expr.int int (pos 7))) ≡ unit_stmt.assign 0 2 1 (unit.int (pos 7))
unfolding width
second_set = refl

-- `print(x.1);` prints that word
second_printed : closed_stmt here (stmt.print (expr.part int (expr.local (tuple (more (TypeOf.param 0) (more int end))) 0) 1)) ≡ unit_stmt.print (unit.field (unit.local 0) 2 1)
unfolding width
second_printed = refl

-- the local has three words
whole_width : width_under nothing (more (tuple (more int (more int end))) end) (tuple (more (TypeOf.param 0) (more int end))) ≡ 3
unfolding width
whole_width = refl

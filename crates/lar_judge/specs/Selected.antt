-- A part of a tuple or a field of a struct, in the numbers of a table.
use Rattle.std.specs.Prelude.{ℕ, List, [], ◌∷◌, Option, Some, None}
use Rattle.lar_source.specs.declared.code.Code.TheVariants.{NoSuchPlace}
use Rattle.lar_tree.specs.declared.expr.Selector.{Selector}
use Rattle.lar_typed.specs.Exprs.{PlainExpr}
use Rattle.lar_rules.specs.Fault.{Fault, fault}
use Rattle.type_table.specs.declared.row.Row.{Row}
use Rattle.lar_rules.specs.Exprs as rules
use Rattle.lar_judge.specs.declared.site.Part.{Part}
use Rattle.lar_judge.specs.Known.{type_if, IfWithin}

abbrev pub part_in : List Row → Option Part → Option rules.Part
part_in rows None = None
part_in rows (Some p) = Some (p.place, type_if rows p.of)

abbrev pub PartWithin : List Row → Option Part → Type 0
PartWithin rows None = Unit {0}
PartWithin rows (Some p) = IfWithin rows p.of

-- the part of an expression, where there is one and its type is known
abbrev pub part_if : PlainExpr → Option rules.Part → Option PlainExpr
part_if e None = None
part_if e (Some p) = rules.part_typed e p.0 p.1

abbrev pub missing : ℕ → Selector → Option rules.Part → List Fault
missing file s None = fault file (rules.selector_at s) NoSuchPlace [] ∷ []
missing file s (Some p) = []

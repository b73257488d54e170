-- Where an expression is judged, and what a path means there, in the numbers of a table.
use Rattle.std.specs.Prelude.{Bool, List}
use Rattle.type_table.specs.declared.row.Row.{Row}
use Rattle.lar_rules.specs.Written.{Site}
use Rattle.lar_tree.specs.declared.name.Path.{Path}
use Rattle.lar_rules.specs.Judged.{Env, Judged}
use Rattle.lar_rules.specs.Exprs.{ValueName, a_local, a_number, a_constant, no_value, value_named, judged_path}
use Rattle.lar_judge.specs.declared.locals.Local.{Local}
use Rattle.lar_judge.specs.declared.paths.Value.{Value}
use Rattle.lar_judge.specs.declared.paths.Value.TheVariants as value
use Rattle.lar_judge.specs.Known.{IfWithin}
use Rattle.lar_judge.specs.Locals.{local_in, locals_in}

abbrev pub plain_env : Site → List Row → List Local → Bool → Env
plain_env site rows locals asserting = record { site = site; locals = locals_in rows locals; asserting = asserting }

abbrev pub value_in : List Row → Value → ValueName
value_in rows (value.Local l) = a_local (local_in rows l)
value_in rows (value.Generic k) = a_number k
value_in rows (value.Constant n) = a_constant n
value_in rows value.Nothing = no_value

abbrev pub ValueWithin : List Row → Value → Type 0
ValueWithin rows (value.Local l) = IfWithin rows l.of
ValueWithin rows (value.Generic k) = Unit {0}
ValueWithin rows (value.Constant n) = Unit {0}
ValueWithin rows value.Nothing = Unit {0}

-- the path that is judged there
abbrev pub path_judged : Site → List Row → List Local → Bool → Path → Judged
path_judged site rows locals asserting p = judged_path (plain_env site rows locals asserting) p (value_named (plain_env site rows locals asserting) p)

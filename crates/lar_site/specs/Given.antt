-- The generics that are given behind a path in an expression.
use Rattle.std.specs.Prelude.{List, Option, option_map}
use Rattle.lar_tree.specs.declared.expr.Turbofish.{Turbofish}
use Rattle.lar_tree.specs.ExprView.{turbofish_view}
use Rattle.lar_rules.specs.Written.{Site, Given}
use Rattle.lar_rules.specs.Exprs.{turbofish_given}

abbrev pub given_there : Site → Option Turbofish → List Given
given_there s t = turbofish_given s (option_map turbofish_view t)

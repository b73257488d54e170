use Rattle.coord_core.proofs.Bar.{barred, bar_names, bar_fails, bar_wanted, least-is}
use Rattle.coord_core.proofs.laws.bar.Goals as goal

pub returns-clause-bar : goal.returns-clause-bar
returns-clause-bar c = barred

pub returns-clause-names : goal.returns-clause-names
returns-clause-names c = bar_names

pub returns-clause-failure : goal.returns-clause-failure
returns-clause-failure c = bar_fails

pub returns-clause-wanted : goal.returns-clause-wanted
returns-clause-wanted c = bar_wanted

pub returns-clause-least : goal.returns-clause-least
returns-clause-least c = least-is

use Rattle.std.proofs.Common.{refl}
use Rattle.lar_names.specs.NamesView.{names_view}
use Rattle.lar_types.proofs.MainFacts.{main_by_number}
use Rattle.lar_types.proofs.main_fn.has_main.Goals as goal

pub returns-in-Some : goal.returns-in-Some
returns-in-Some c = main_by_number (names_view c.args.names.now) c.in-Some.number c.is_main.result _ c.in-Some.ensures refl c.is_main.ensures

use Rattle.std.proofs.Common.{Some}
use Rattle.std.specs.Arc.{arc_value}
use Rattle.coord_run.proofs.driving.drive.Given as goal

abbrev pub ghosts-drive_named : goal.ghosts-drive_named
ghosts-drive_named g a = record { work = Some (arc_value a.work.now) }

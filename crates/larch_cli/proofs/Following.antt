-- How the calls of steps are calls of a command.
use Rattle.std.proofs.Common.{◌≡◌, Result, Ok, Err, refl}
use Rattle.scripts.specs.Following.{Follows}
use Rattle.scripts.specs.Outside.{Outside}
use Rattle.scripts.specs.Script.{End, Stop}
use Rattle.scripts.proofs.Following as general
use Rattle.larch_cli.specs.Commands.{Steps, given, reasons}
use Rattle.larch_cli.specs.declared.status.Status.{Status}
use Rattle.larch_cli.specs.declared.status.Status.TheVariants as status

-- memory may be wanted before the first call
pub breaks : {A : Type 0} (s : Steps A) (o : Outside) → Follows reasons s o o (Err status.Memory)
breaks s o = general.breaks reasons s o

pub ends : {A : Type 0} (a : A) (o : Outside) → Follows {A = A} reasons (End a) o o (Ok a)
ends a o = general.ends reasons a o

pub stops : (A : Type 0) (s why : Status) (o : Outside) → why ≡ s → Follows {A = A} reasons (Stop s) o o (Err why)
stops A s why o is = general.stops A reasons s why o is

pub gives : {X : Type 0} (r : Result X Status) (o : Outside) → Follows reasons (given r) o o r
gives (Ok x) o = ends x o
gives (Err s) o = stops _ s s o refl

pub ruleset following = (breaks, ends, stops)

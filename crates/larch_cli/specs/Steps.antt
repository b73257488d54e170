-- The functions of the program, by the scripts that they follow.
use Rattle.std.specs.Prelude.{◌≡◌, ℕ, ℤ, List, Result, Ok, Err}
use Rattle.std.specs.declared.alloc.Global.{Global}
use Rattle.std.specs.declared.vec.Vec.{Vec}
use Rattle.files.specs.FilesState.{FilesState}
use Rattle.lar_source.specs.declared.file.File.{File}
use Rattle.lar_typed.specs.Trees.{PlainTree}
use Rattle.lar_typed.specs.TreeView.{Contents, plain}
use Rattle.listings.specs.Listed.{text_of}
use Rattle.listings.specs.declared.listed.Listed.{Listed}
use Rattle.object_format.specs.Image.{Linked}
use Rattle.object_format.specs.Object.{Unlinked}
use Rattle.object_format.specs.declared.fault.BadFile.{BadFile}
use Rattle.scripts.specs.Following.{Follows}
use Rattle.scripts.specs.Outside.{Outside, seen}
use Rattle.sinks.specs.SinkState.{SinkState}
use Rattle.stack_vm.specs.Valid.{Validated}
use Rattle.larch_cli.specs.Commands.{Steps, reasons}
use Rattle.larch_cli.specs.declared.status.Status.{Status}
use Rattle.larch_cli.specs.declared.status.Status.TheVariants as status

-- The script calls nothing.
abbrev pub Idly : {A : Type 0} → Steps A → Result A Status → Type 0
Idly script result = (o : Outside) → Follows reasons script o o result

-- It calls files alone.
abbrev pub OnFiles : {A : Type 0} → Steps A → FilesState → FilesState → Result A Status → Type 0
OnFiles script old new result = (out err : SinkState) → Follows reasons script (seen old out err) (seen new out err) result

-- It calls the output stream alone.
abbrev pub OnOut : {A : Type 0} → Steps A → SinkState → SinkState → Result A Status → Type 0
OnOut script old new result = (files : FilesState) (err : SinkState) → Follows reasons script (seen files old err) (seen files new err) result

-- It calls both.
abbrev pub OnBoth : {A : Type 0} → Steps A → FilesState → FilesState → SinkState → SinkState → Result A Status → Type 0
OnBoth script files files_now out out_now result = (err : SinkState) → Follows reasons script (seen files out err) (seen files_now out_now err) result

-- what is given, wherever it lies in memory
abbrev pub numbers_shown : Result (Vec ℤ Global) Status → Result (List ℤ) Status
numbers_shown (Ok numbers) = Ok numbers.items
numbers_shown (Err s) = Err s

abbrev pub objects_shown : Result (Vec Unlinked Global) Status → Result (List Unlinked) Status
objects_shown (Ok objects) = Ok objects.items
objects_shown (Err s) = Err s

abbrev pub image_shown : Result Validated Status → Result Linked Status
image_shown (Ok valid) = Ok valid.image
image_shown (Err s) = Err s

abbrev pub text_shown : Result Listed Status → Result (List ℕ) Status
text_shown (Ok x) = Ok (text_of x)
text_shown (Err s) = Err s

abbrev pub sources_shown : Result (Vec File Global) Status → Result (List File) Status
sources_shown (Ok files) = Ok files.items
sources_shown (Err s) = Err s

abbrev pub tree_shown : Result Contents Status → Result PlainTree Status
tree_shown (Ok tree) = Ok (plain tree)
tree_shown (Err s) = Err s

abbrev pub lines_shown : Result (Vec ℕ Global) Status → Result (List ℕ) Status
lines_shown (Ok text) = Ok text.items
lines_shown (Err s) = Err s

-- the refusal of a file, where there is memory for its name
abbrev pub IsBadFile : List ℕ → BadFile → Status → Type 0
IsBadFile name fault status.Memory = Unit {0}
IsBadFile name fault answer = answer ≡ status.BadFile name fault

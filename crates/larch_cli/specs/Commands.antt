-- What each command does, as a script.
use Rattle.std.specs.Prelude.{ℕ, ◌-◌, if◌then◌else◌, Bool, true, false, List, [], ◌∷◌, ◌++◌, map, length, is_some, Option, Some, None, Result, Ok, Err, codes}
use Rattle.build_front.specs.Front.{fronted}
use Rattle.build_units.specs.Listed.{listed}
use Rattle.lar_source.specs.Diagnostic.{Diagnostic}
use Rattle.lar_source.specs.declared.file.File.{File}
use Rattle.lar_typed.specs.Trees.{PlainTree}
use Rattle.listings.specs.Listed.{listing_at}
use Rattle.make_flags.specs.Flags.{flags_of}
use Rattle.make_flags.specs.declared.flags.Flags.{Flags}
use Rattle.make_flags.specs.declared.flags.Jobserver.{Jobserver}
use Rattle.make_flags.specs.declared.flags.Jobserver.TheVariants as jobserver
use Rattle.object_format.specs.Image.{Linked, image_spelling}
use Rattle.object_format.specs.Object.{Unlinked}
use Rattle.object_format.specs.ObjectReading.{object_at}
use Rattle.object_format.specs.declared.fault.BadFile.{BadFile}
use Rattle.scripts.specs.Following.{Reasons}
use Rattle.scripts.specs.Script.{Script, End, Stop, Call, Read, Write, Put, ToOut, Finding, Bytes, Absent, Failed, ◌>>=◌}
use Rattle.source_gen.specs.Sources.{files_of}
use Rattle.stack_vm.specs.Acts.{Ran, runs_of}
use Rattle.stack_vm.specs.declared.end.End.{End as How}
use Rattle.stack_vm.specs.declared.end.End.TheVariants as how
use Rattle.symbol_link.specs.Linked.{linked}
use Rattle.symbol_link.specs.declared.fault.LinkFault.{LinkFault}
use Rattle.words.specs.Commands.{command_of, image_name}
use Rattle.words.specs.Recipes.{Recipe}
use Rattle.words.specs.declared.commands.Command.{Command}
use Rattle.words.specs.declared.commands.Command.TheVariants.{Build, Check, Units, Run, Dump, Link, Gen}
use Rattle.larch_cli.specs.Spelled.{accepted, image_of, limited, valid_image, with_file, summary, functions_line, wrote_line}
use Rattle.larch_cli.specs.declared.status.Status.{Status}
use Rattle.larch_cli.specs.declared.status.Status.TheVariants as status

-- a script of the program, which may end early by a status
abbrev pub Steps : Type 0 → Type 0
Steps A = Script Status A

-- at any place: memory was wanted, or a put failed
abbrev pub reasons : Reasons Status
reasons = record { memory = status.Memory; put_fault = status.SinkFault }

-- ---- steps

abbrev pub found : List ℕ → Finding → Steps (List ℕ)
found name (Bytes bytes) = End bytes
found name Absent = Stop (status.Absent name)
found name Failed = Stop (status.FileFault name)

-- reads so many first bytes of a file
abbrev pub fetch : List ℕ → ℕ → Steps (List ℕ)
fetch name most = Call (Read name most) (found name)

abbrev pub saved : List ℕ → Bool → Steps (Unit {0})
saved name true = End tt
saved name false = Stop (status.FileFault name)

-- writes a file
abbrev pub save : List ℕ → List ℕ → Steps (Unit {0})
save name bytes = Call (Write name bytes) (saved name)

-- puts a text on the output stream
abbrev pub say : List ℕ → Steps (Unit {0})
say text = Call (Put ToOut text) (λ x. End tt)

abbrev pub or_stop : {X : Type 0} → Status → Option X → Steps X
or_stop s (Some x) = End x
or_stop s None = Stop s

abbrev pub given : {X : Type 0} → Result X Status → Steps X
given (Ok x) = End x
given (Err s) = Stop s

-- what the file of this name spells
abbrev pub judged : {X : Type 0} → List ℕ → Result X BadFile → Steps X
judged name (Ok x) = End x
judged name (Err fault) = Stop (status.BadFile name fault)

abbrev pub linked_or : Result Linked LinkFault → Steps Linked
linked_or (Ok image) = End image
linked_or (Err fault) = Stop (status.LinkFault fault)

-- ---- commands

-- Sources are read one after the other. So many bytes are still asked for, and these files were read before.
abbrev pub gather_sources : ℕ → List File → List (List ℕ) → Steps (List File)
gather_sources left files [] = End files
gather_sources left files (name ∷ names) = fetch name left >>= λ bytes. gather_sources (left - length bytes) (files ++ record { name = name; bytes = bytes } ∷ []) names

-- all bytes of the sources but those past one more than the limit of their sum
abbrev pub fetch_sources : List (List ℕ) → Steps (List File)
fetch_sources names = gather_sources 16777217 [] names

-- a value, or the first diagnostic
abbrev pub or_told : {X : Type 0} → Result X Diagnostic → Steps X
or_told (Ok x) = End x
or_told (Err d) = Stop (status.Diagnostic d)

abbrev pub check_script : List (List ℕ) → Steps (Unit {0})
check_script names = fetch_sources names >>= λ files. or_told (fronted files) >>= λ tree. say (codes "ok\n")

abbrev pub build_script : List (List ℕ) → Steps (Unit {0})
build_script names = fetch_sources names >>= λ files. or_told (fronted files) >>= λ tree. or_stop status.Unsupported (accepted files) >>= λ numbers. save image_name (image_of numbers) >>= λ _. say summary

abbrev pub units_script : List (List ℕ) → ℕ → Steps (Unit {0})
units_script names limit = fetch_sources names >>= λ files. or_told (fronted files) >>= λ tree. or_told (listed (map (λ f. f.name) files) limit tree) >>= say

-- the end of a run
abbrev pub end_gives : How → Result (Unit {0}) Status
end_gives how.Ended = Ok tt
end_gives (how.Trapped kind function offset) = Err (status.Trapped kind function offset)
end_gives how.OutOfSteps = Err status.OutOfSteps
end_gives how.WriteFault = Err status.SinkFault
end_gives how.Memory = Err status.Memory

-- By its definition a run ends in one of the first three ways.
abbrev pub run_end : How → Steps (Unit {0})
run_end how.Ended = End tt
run_end (how.Trapped kind function offset) = Stop (status.Trapped kind function offset)
run_end other = Stop status.OutOfSteps

-- a run: its text, and then its end; that of a valid image is never stuck
abbrev pub printed : Option Ran → Steps (Unit {0})
printed None = Stop status.OutOfSteps
printed (Some ran) = say ran.text >>= λ _. run_end ran.how

abbrev pub run_script : List ℕ → ℕ → Steps (Unit {0})
run_script name steps = fetch name 67108865 >>= λ bytes. judged name (limited valid_image bytes) >>= λ image. printed (runs_of image steps)

abbrev pub dump_script : List ℕ → Steps (Unit {0})
dump_script name = fetch name 67108865 >>= λ bytes. judged name (limited listing_at bytes) >>= say

-- All files are read before a bad one among them is reported.
abbrev pub gather : Result (List Unlinked) Status → List (List ℕ) → Steps (List Unlinked)
gather decoded [] = given decoded
gather decoded (name ∷ names) = fetch name 67108865 >>= λ bytes. gather (with_file decoded name (limited object_at bytes)) names

abbrev pub link_script : List (List ℕ) → List ℕ → Steps (Unit {0})
link_script names output = gather (Ok []) names >>= λ objects. linked_or (linked objects) >>= λ image. save output (image_spelling image) >>= λ _. say (functions_line image)

-- writes these files, in order
abbrev pub save_all : List File → Steps (Unit {0})
save_all [] = End tt
save_all (file ∷ files) = save file.name file.bytes >>= λ _. save_all files

abbrev pub gen_script : Recipe → Steps (Unit {0})
gen_script recipe = save_all (files_of recipe.seed recipe.modules) >>= λ _. say (wrote_line (length (files_of recipe.seed recipe.modules)))

abbrev pub command_script : Command → Steps (Unit {0})
command_script (Build names) = build_script names
command_script (Check names) = check_script names
command_script (Units names limit) = units_script names limit
command_script (Run name steps) = run_script name steps
command_script (Dump name) = dump_script name
command_script (Link names output) = link_script names output
command_script (Gen recipe) = gen_script recipe

-- ---- a call

-- what a call asks for: nothing, where make is run dry; or the command that the words name, if they name one
pub data Request : Type 0 where
  Nothing : Request
  Named : Option Command → Request

-- whether make has a jobserver, which it may withhold
abbrev pub has_jobserver : Jobserver → Bool
has_jobserver jobserver.Absent = false
has_jobserver other = true

abbrev pub request_by : Flags → List (List ℕ) → Request
request_by flags words = if flags.stop then Nothing else Named (command_of (has_jobserver flags.jobserver) words)

abbrev pub request_of : Option (List ℕ) → List (List ℕ) → Request
request_of makeflags words = request_by (flags_of makeflags) words

-- words that are not served touch nothing
abbrev pub request_script : Request → Steps (Unit {0})
request_script Nothing = End tt
request_script (Named None) = Stop status.Usage
request_script (Named (Some command)) = command_script command

abbrev pub is_served : Request → Bool
is_served Nothing = true
is_served (Named command) = is_some command

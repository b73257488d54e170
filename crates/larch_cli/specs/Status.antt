-- What a status says.
use Rattle.std.specs.Prelude.{ℕ, List, [], ◌++◌, codes, Result, Ok, Err}
use Rattle.std.specs.Fmt.{decimal}
use Rattle.lar_source.specs.Diagnostic.{line_of as diagnostic_line}
use Rattle.object_format.specs.Words.{word_of}
use Rattle.stack_vm.specs.declared.end.Kind.{Kind}
use Rattle.stack_vm.specs.declared.end.Kind.TheVariants as kinds
use Rattle.symbol_link.specs.declared.fault.LinkFault.{LinkFault as Fault}
use Rattle.symbol_link.specs.declared.fault.LinkFault.TheVariants as faults
use Rattle.larch_cli.specs.declared.status.Status.{Status}
use Rattle.larch_cli.specs.declared.status.Status.TheVariants.{Done, Diagnostic, Usage, Absent, FileFault, SinkFault, Memory, BadFile, Trapped, OutOfSteps, LinkFault, Unsupported}

-- A command that ran to its end is done.
abbrev pub status_of : Result (Unit {0}) Status → Status
status_of (Ok x) = Done
status_of (Err status) = status

-- the number with which the process ends
abbrev pub number_of : Status → ℕ
number_of Done = 0
number_of (Diagnostic d) = 1
number_of Usage = 2
number_of (Absent name) = 3
number_of (FileFault name) = 4
number_of SinkFault = 6
number_of Memory = 8
number_of (BadFile name fault) = 9
number_of (LinkFault fault) = 10
number_of (Trapped kind function offset) = 11
number_of OutOfSteps = 12
number_of Unsupported = 13

-- the word for why an instruction traps
abbrev pub kind_word : Kind → List ℕ
kind_word kinds.Division = codes "division"
kind_word kinds.Overflow = codes "overflow"
kind_word kinds.Depth = codes "depth"
kind_word kinds.Trap = codes "trap"

-- the line for why objects cannot be linked
abbrev pub link_line : Fault → List ℕ
link_line (faults.Twice symbol first second) = codes "larchc: link: " ++ (symbol ++ (codes " defined in " ++ (decimal first ++ (codes " and " ++ (decimal second ++ codes "\n")))))
link_line (faults.Undefined symbol object) = codes "larchc: link: " ++ (symbol ++ (codes " undefined in " ++ (decimal object ++ codes "\n")))
link_line faults.NoEntry = codes "larchc: link: no entry\n"
link_line faults.TooLarge = codes "larchc: link: image over 67108864 bytes\n"

-- the line for the error stream, but for a diagnostic's
abbrev pub text_of : Status → List ℕ
text_of Done = []
text_of (Diagnostic d) = []
text_of Usage = codes "larchc: usage\n"
text_of (Absent name) = codes "larchc: " ++ name ++ codes ": not found\n"
text_of (FileFault name) = codes "larchc: " ++ name ++ codes ": file fault\n"
text_of SinkFault = []
text_of Memory = codes "larchc: out of memory\n"
text_of (BadFile name fault) = codes "larchc: " ++ (name ++ (codes ": bad file at " ++ (decimal fault.at ++ (codes ": " ++ (word_of fault.what ++ codes "\n")))))
text_of (LinkFault fault) = link_line fault
text_of (Trapped kind function offset) = codes "larchc: trap " ++ (kind_word kind ++ (codes " at " ++ (decimal function ++ (codes ":" ++ (decimal offset ++ codes "\n")))))
text_of OutOfSteps = codes "larchc: out of steps\n"
text_of Unsupported = codes "larchc: unsupported input\n"

-- the line for the error stream
abbrev pub line_of : Status → List ℕ
line_of (Diagnostic d) = diagnostic_line d
line_of s = text_of s

-- The table of commands: what each takes of its line.
use Rattle.std.specs.Prelude.{◌≡◌, ◌++◌, ◌&&◌, nat_le, if◌then◌else◌, Bool, true, false, List, [], ◌∷◌, length, Option, Some, None, option_map, option_and_then, unwrap_or, codes}
use Rattle.std.specs.List.{list_all}
use Rattle.std.specs.Str.{bytes_eq}
use Rattle.words.specs.Lines.{Choice, Given, Line, Text, line_of, look}
use Rattle.words.specs.Numbers.{is_name, number_in}
use Rattle.words.specs.Recipes.{Recipe}
use Rattle.words.specs.Sources.{sources_of}
use Rattle.words.specs.declared.commands.Command.{Command}
use Rattle.words.specs.declared.commands.Command.TheVariants.{Build, Check, Units, Run, Dump, Link, Gen}

-- an option with a value, and a flag
abbrev pub valued : Text → Choice
valued name = record { name = name; takes_value = true }

abbrev pub flag : Text → Choice
flag name = record { name = name; takes_value = false }

-- the value of an option, or its default
abbrev pub value_or : Text → Text → List Given → Text
value_or default name given = unwrap_or (option_and_then (λ g. g.value) (look name given)) default

abbrev pub image_name : Text
image_name = codes "a.lrpx"

-- the one file word of a line, where it names a file
abbrev pub one_name : List Text → Option Text
one_name [] = None
one_name (file ∷ []) = if is_name file then Some file else None
one_name (file ∷ another ∷ more) = None

-- the file words of a line, where they are 1 to 256 and each names a file
abbrev pub names_of : List Text → Option (List Text)
names_of files = if nat_le 1 (length files) && nat_le (length files) 256 && list_all is_name files then Some files else None

-- what adding these to the names comes to, by whether each names a file
abbrev pub AddsNames : List Text → List Text → List Text → Bool → Type 0
AddsNames old new files true = (list_all is_name files ≡ true) × (new ≡ old ++ files)
AddsNames old new files false = list_all is_name files ≡ false

-- the number of jobs where it is not given: 1 where make has a jobserver
abbrev pub default_jobs : Bool → Text
default_jobs jobserver = if jobserver then codes "1" else codes "4"

-- build NAME.larch .., with --jobs N, of which only 1 is served
abbrev pub build_taken : Bool → Line → Option Command
build_taken jobserver line = option_and_then (λ jobs. option_map Build (sources_of line.files)) (number_in 1 1 (value_or (default_jobs jobserver) (codes "jobs") line.given))

abbrev pub build_of : Bool → List Text → Option Command
build_of jobserver words = option_and_then (build_taken jobserver) (line_of (valued (codes "jobs") ∷ []) words)

-- check NAME.larch ..
abbrev pub check_taken : Line → Option Command
check_taken line = option_map Check (sources_of line.files)

abbrev pub check_of : List Text → Option Command
check_of words = option_and_then check_taken (line_of [] words)

-- units NAME.larch .., with --units N: 1 to 256, and 16 where it is not given
abbrev pub units_taken : Line → Option Command
units_taken line = option_and_then (λ limit. option_map (λ sources. Units sources limit) (sources_of line.files)) (number_in 1 256 (value_or (codes "16") (codes "units") line.given))

abbrev pub units_of : List Text → Option Command
units_of words = option_and_then units_taken (line_of (valued (codes "units") ∷ []) words)

-- run NAME, with --steps N: 1 to 1000000000000, and 100000000 where it is not given
abbrev pub run_taken : Line → Option Command
run_taken line = option_and_then (λ name. option_map (Run name) (number_in 1 1000000000000 (value_or (codes "100000000") (codes "steps") line.given))) (one_name line.files)

abbrev pub run_of : List Text → Option Command
run_of words = option_and_then run_taken (line_of (valued (codes "steps") ∷ []) words)

-- dump NAME
abbrev pub dump_taken : Line → Option Command
dump_taken line = option_map Dump (one_name line.files)

abbrev pub dump_of : List Text → Option Command
dump_of words = option_and_then dump_taken (line_of [] words)

-- link NAME.., with --out NAME: a.lrpx where it is not given
abbrev pub link_to : List Text → Text → Option Command
link_to names output = if is_name output then Some (Link names output) else None

abbrev pub link_taken : Line → Option Command
link_taken line = option_and_then (λ names. link_to names (value_or image_name (codes "out") line.given)) (names_of line.files)

abbrev pub link_of : List Text → Option Command
link_of words = option_and_then link_taken (line_of (valued (codes "out") ∷ []) words)

-- SEED and MODULES: 0 to 2147483647, and 1 to 255
abbrev pub recipe_in : List Text → Option Recipe
recipe_in [] = None
recipe_in (seed ∷ []) = None
recipe_in (seed ∷ modules ∷ []) = option_and_then (λ s. option_map (λ m. record { seed = s; modules = m }) (number_in 1 255 modules)) (number_in 0 2147483647 seed)
recipe_in (seed ∷ modules ∷ more ∷ rest) = None

-- gen SEED MODULES
abbrev pub gen_taken : Line → Option Command
gen_taken line = option_map Gen (recipe_in line.files)

abbrev pub gen_of : List Text → Option Command
gen_of words = option_and_then gen_taken (line_of [] words)

-- the command with this name, from the words after it
abbrev pub command_named : Bool → Text → List Text → Option Command
command_named jobserver command words =
    if bytes_eq command (codes "build") then build_of jobserver words
    else (if bytes_eq command (codes "check") then check_of words
    else (if bytes_eq command (codes "units") then units_of words
    else (if bytes_eq command (codes "run") then run_of words
    else (if bytes_eq command (codes "dump") then dump_of words
    else (if bytes_eq command (codes "link") then link_of words
    else (if bytes_eq command (codes "gen") then gen_of words
    else None))))))

-- the command that the words name
abbrev pub command_of : Bool → List Text → Option Command
command_of jobserver [] = None
command_of jobserver (command ∷ words) = command_named jobserver command words

-- Reading an object from left to right, with the first fault that is met. The rule of calls is looked at last, once all of the bytes are read.
use Rattle.std.specs.Prelude.{ℕ, ◌+◌, Bool, true, false, not, ◌&&◌, nat_lt, ◌==◌, if◌then◌else◌, List, [], ◌∷◌, ◌++◌, length, Option, Some, None, Result, Ok}
use Rattle.std.specs.Int.{w32}
use Rattle.std.specs.Char.{is_ascii_graphic}
use Rattle.std.specs.List.{list_all, list_any}
use Rattle.std.specs.Str.{bytes_eq}
use Rattle.object_format.specs.Image.{LinkedFn}
use Rattle.object_format.specs.Object.{UnlinkedFn, Unlinked, callees_of, callee_count, object_magic, object_spelling}
use Rattle.object_format.specs.Version.{code_offset, object_functions_place}
use Rattle.object_format.specs.declared.version.Version.{Version}
use Rattle.object_format.specs.declared.version.Version.TheVariants.{One, Two}
use Rattle.object_format.specs.Reading.{Rest, ◌>>=◌, refused, block_at, byte_at, number_at, opening_at, end_at, items_at, code_fault, or_later, unless, function_at}
use Rattle.object_format.specs.declared.fault.BadFile.{BadFile}
use Rattle.object_format.specs.declared.fault.What.TheVariants.{Symbol, Kind}

-- ---- symbols

-- one byte at least, each a sign that can be seen
abbrev pub is_symbol : List ℕ → Bool
is_symbol s = nat_lt 0 (length s) && list_all is_ascii_graphic s

-- a symbol is one of these
abbrev pub is_among : List (List ℕ) → List ℕ → Bool
is_among symbols s = list_any (bytes_eq s) symbols

-- a symbol that is none of those before it
unfoldable pub symbol_at : List (List ℕ) → Rest → Result (List ℕ × Rest) BadFile
symbol_at before r = do
  len ← number_at w32 r
  symbol ← block_at len.0 len.1
  if is_symbol symbol.0 && not (is_among before symbol.0) then Ok symbol else refused len.1.at Symbol

-- ---- functions and externals

-- whether a function is external
abbrev pub kind_at : Rest → Result (Bool × Rest) BadFile
kind_at r = byte_at r >>= λ kind. if kind.0 == 1 then Ok (true, kind.1) else (if kind.0 == 0 then Ok (false, kind.1) else refused r.at Kind)

-- a function under a symbol
abbrev pub named : List ℕ → Bool → LinkedFn → UnlinkedFn
named symbol external f = record { symbol = symbol; external = external; params = f.params; «result» = f.result; slots = f.slots; code = f.code }

abbrev pub with_function : Unlinked → UnlinkedFn → Unlinked
with_function o f = record { functions = o.functions ++ f ∷ []; externals = o.externals }

abbrev pub with_external : Unlinked → List ℕ → Unlinked
with_external o s = record { functions = o.functions; externals = o.externals ++ s ∷ [] }

-- an object without functions and externals
abbrev pub nothing : Unlinked
nothing = record { functions = []; externals = [] }

-- one function more, whose calls are not looked at yet
unfoldable pub unlinked_behind : Version → Unlinked → Rest → Result (Unlinked × Rest) BadFile
unlinked_behind version so_far r = do
  symbol ← symbol_at (callees_of so_far) r
  kind ← kind_at symbol.1
  body ← function_at version None kind.1
  Ok (with_function so_far (named symbol.0 kind.0 body.0), body.1)

-- one external more
unfoldable pub external_behind : Unlinked → Rest → Result (Unlinked × Rest) BadFile
external_behind so_far r = do
  symbol ← symbol_at (callees_of so_far) r
  Ok (with_external so_far symbol.0, symbol.1)

-- the count of functions and the functions
unfoldable pub functions_part_at : Version → Rest → Result (Unlinked × Rest) BadFile
functions_part_at version r = do
  count ← number_at w32 r
  items_at (unlinked_behind version) count.0 nothing count.1

-- the count of externals and the externals
unfoldable pub externals_part_at : Unlinked → Rest → Result (Unlinked × Rest) BadFile
externals_part_at so_far r = do
  count ← number_at w32 r
  items_at external_behind count.0 so_far count.1

-- ---- the object

-- the place of a function's code, where the function stands at this place: behind its symbol with its length, its kind, its three numbers and the length of the code
abbrev pub code_place : Version → ℕ → UnlinkedFn → ℕ
code_place version at f = at + 4 + length f.symbol + 1 + code_offset version

-- the first call that has no callee, in functions of which the first stands at this place
abbrev pub call_fault_in : Version → ℕ → ℕ → List UnlinkedFn → Option BadFile
call_fault_in version callees at [] = None
call_fault_in version callees at (f ∷ fs) =
    or_later (code_fault (Some callees) (code_place version at f) f.code) (call_fault_in version callees (code_place version at f + length f.code) fs)

-- magic, version, the functions and the externals
unfoldable pub parts_at : Version → Rest → Result (Version × Unlinked × Rest) BadFile
parts_at newest r = do
  body ← opening_at newest object_magic r
  functions ← functions_part_at body.0 body.1
  externals ← externals_part_at functions.0 functions.1
  Ok (body.0, externals.0, externals.1)

-- an object in a version that is none above the newest one that is taken, all of the bytes
unfoldable pub object_up_to : Version → List ℕ → Result Unlinked BadFile
object_up_to newest bytes = do
  parts ← parts_at newest (record { at = 0; bytes = bytes })
  end ← end_at parts.2
  unless (call_fault_in parts.0 (callee_count parts.1) object_functions_place parts.1.functions) parts.1

-- an object in any version
abbrev pub object_at : List ℕ → Result Unlinked BadFile
object_at = object_up_to Two

-- the newest spelling of the object that the oldest version's bytes spell
abbrev pub lifted_at : List ℕ → Result (List ℕ) BadFile
lifted_at bytes = object_up_to One bytes >>= λ object. Ok (object_spelling object)

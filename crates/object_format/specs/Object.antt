-- What an object is, the rules that it keeps, and its one spelling in each version.
use Rattle.std.specs.Prelude.{◌≡◌, ℕ, ◌+◌, ◌<◌, ◌≤◌, ◌^◌, Bool, true, false, List, [], ◌∷◌, ◌++◌, length, map}
use Rattle.std.specs.Int.{w32, to_be_bytes}
use Rattle.std.specs.List.{flat_map, AllByRecursion, IsDistinct}
use Rattle.std.specs.Str.{bytes_eq}
use Rattle.object_format.specs.Code.{IsLinkedCode}
use Rattle.object_format.specs.Image.{LinkedFn, IsLinkedFn, function_spelling, opening}
use Rattle.object_format.specs.Version.{most_code}
use Rattle.object_format.specs.declared.version.Version.{Version}
use Rattle.object_format.specs.declared.version.Version.TheVariants.{One, Two}

-- a function of an object, without where it lies in memory; external is whether other objects may call it
pub record UnlinkedFn : Type 0 where
  pub symbol : List ℕ
  pub external : Bool
  pub params : ℕ
  pub «result» : ℕ
  pub slots : ℕ
  pub code : List ℕ

-- an object: its functions, and the symbols of those that it calls and does not have
pub record Unlinked : Type 0 where
  pub functions : List UnlinkedFn
  pub externals : List (List ℕ)

-- a byte that a symbol may have: a sign that can be seen
abbrev pub IsSymbolByte : ℕ → Type 0
IsSymbolByte b = (0x21 ≤ b) × (b ≤ 0x7e)

-- a symbol has a byte at least
pub record IsSymbol (s : List ℕ) : Type 0 where
  pub some : 0 < length s
  pub short : length s < 2 ^ 32
  pub signs : AllByRecursion IsSymbolByte s

-- what an image has of a function, but for the numbers of its calls
abbrev pub body_of : UnlinkedFn → LinkedFn
body_of f = record { params = f.params; «result» = f.result; slots = f.slots; code = f.code }

-- what a function keeps by itself
pub record IsUnlinkedFn (f : UnlinkedFn) : Type 0 where
  pub symbol : IsSymbol f.symbol
  pub body : IsLinkedFn (body_of f)

-- the symbols of an object, in the order of the numbers that its calls have for them
abbrev pub symbols_of : List UnlinkedFn → List (List ℕ)
symbols_of fs = map (λ f. f.symbol) fs

abbrev pub callees_of : Unlinked → List (List ℕ)
callees_of o = symbols_of o.functions ++ o.externals

-- how many they are
abbrev pub callee_count : Unlinked → ℕ
callee_count o = length o.functions + length o.externals

-- what an object keeps over its functions and externals: no symbol stands twice, and each call has one
pub record IsUnlinked (o : Unlinked) : Type 0 where
  pub functions : length o.functions < 2 ^ 32
  pub externals : length o.externals < 2 ^ 32
  pub symbols : AllByRecursion IsSymbol o.externals
  pub distinct : IsDistinct bytes_eq (callees_of o)
  pub calls : AllByRecursion (λ f. IsLinkedCode (callee_count o) f.code) o.functions

-- an object whose functions keep their own rules too
pub record IsObject (o : Unlinked) : Type 0 where
  pub unlinked : IsUnlinked o
  pub each : AllByRecursion IsUnlinkedFn o.functions

-- each function's code is no longer than the version's limit
abbrev pub ObjectFitsVersion : Version → List UnlinkedFn → Type 0
ObjectFitsVersion version = AllByRecursion (λ f. length f.code ≤ most_code version)

-- a symbol behind its length in four bytes
abbrev pub symbol_spelling : List ℕ → List ℕ
symbol_spelling s = to_be_bytes w32 (length s) ++ s

abbrev pub kind_byte : Bool → ℕ
kind_byte true = 1
kind_byte false = 0

-- the symbol, the kind, and the function as in an image
abbrev pub unlinked_spelling : Version → UnlinkedFn → List ℕ
unlinked_spelling version f = symbol_spelling f.symbol ++ kind_byte f.external ∷ function_spelling version (body_of f)

-- functions behind their count
abbrev pub functions_spelling : Version → List UnlinkedFn → List ℕ
functions_spelling version fs = to_be_bytes w32 (length fs) ++ flat_map (unlinked_spelling version) fs

-- symbols behind their count
abbrev pub symbols_spelling : List (List ℕ) → List ℕ
symbols_spelling ss = to_be_bytes w32 (length ss) ++ flat_map symbol_spelling ss

-- "LROB"
abbrev pub object_magic : List ℕ
object_magic = 0x4c ∷ 0x52 ∷ 0x4f ∷ 0x42 ∷ []

-- magic and version, the functions and the externals
abbrev pub object_spelling_in : Version → Unlinked → List ℕ
object_spelling_in version o = opening object_magic version ++ functions_spelling version o.functions ++ symbols_spelling o.externals

-- The bytes are the object's spelling in this version, in which its code may be so long.
pub record SpellsObjectAs (version : Version) (bytes : List ℕ) (o : Unlinked) : Type 0 where
  pub object : IsObject o
  pub fits : ObjectFitsVersion version o.functions
  pub spelled : bytes ≡ object_spelling_in version o

-- The same in some version.
pub record SpellsObject (bytes : List ℕ) (o : Unlinked) : Type 0 where
  pub version : Version
  pub spells : SpellsObjectAs version bytes o

-- the spelling in the newest version, which is the one that is written
abbrev pub object_spelling : Unlinked → List ℕ
object_spelling = object_spelling_in Two

-- The bytes spell an object in the oldest version, and these others spell it in the newest.
pub record LiftsTo (bytes lifted : List ℕ) : Type 0 where
  pub object : Unlinked
  pub before : SpellsObjectAs One bytes object
  pub after : lifted ≡ object_spelling object

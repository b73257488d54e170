-- What linking makes of objects.
use Rattle.std.specs.Prelude.{ℕ, ◌+◌, ◌-◌, List, [], ◌∷◌, ◌++◌, length, map, codes, slice_index, Option, Some, None, Result, Ok, Err, nat_lt, if◌then◌else◌}
use Rattle.object_format.specs.Image.{Linked, LinkedFn, image_spelling}
use Rattle.symbol_link.specs.declared.definitions.Definition.{Definition}
use Rattle.symbol_link.specs.declared.fault.LinkFault.{LinkFault}
use Rattle.symbol_link.specs.declared.fault.LinkFault.TheVariants.{NoEntry, TooLarge}
use Rattle.object_format.specs.Object.{Unlinked, UnlinkedFn}
use Rattle.symbol_link.specs.Symbols.{definition_of, place_of}
use Rattle.symbol_link.specs.Faults.{twice, undefined}
use Rattle.symbol_link.specs.Relocation.{relocated}

-- the places of an object's externals
abbrev pub places_of : (List ℕ → Option Definition) → List (List ℕ) → List ℕ
places_of definitions externals = map (λ symbol. place_of (definitions symbol)) externals

-- What a call's number becomes: below the count of the object's own functions the place of the own function, where
-- the first of them has place `start`; from there on the place of the external's definition.
abbrev pub callee : ℕ → ℕ → List ℕ → ℕ → ℕ
callee start own externals number = if nat_lt number own then start + number else slice_index externals (number - own)

-- a function of an object in the image
abbrev pub placed : (ℕ → ℕ) → UnlinkedFn → LinkedFn
placed place f = record { params = f.params; «result» = f.result; slots = f.slots; code = relocated place f.code }

-- the functions of an object whose first function has place `start`
abbrev pub placed_all : (List ℕ → Option Definition) → ℕ → Unlinked → List LinkedFn
placed_all definitions start o = map (placed (callee start (length o.functions) (places_of definitions o.externals))) o.functions

-- the functions of objects, one after the other, from place `start` on
abbrev pub functions_from : (List ℕ → Option Definition) → ℕ → List Unlinked → List LinkedFn
functions_from definitions start [] = []
functions_from definitions start (o ∷ os) = placed_all definitions start o ++ functions_from definitions (start + length o.functions) os

-- the symbol at which a program begins
abbrev pub entry_symbol : List ℕ
entry_symbol = codes "main::main"

abbrev pub image_of : List Unlinked → ℕ → Linked
image_of objects entry = record { entry = entry; functions = functions_from (definition_of objects) 0 objects }

-- the most bytes that an image's spelling may have
abbrev pub most : ℕ
most = 67108864

abbrev pub or_too_large : Linked → Result Linked LinkFault
or_too_large image = if nat_lt most (length (image_spelling image)) then Err TooLarge else Ok image

abbrev pub entered : List Unlinked → Option Definition → Result Linked LinkFault
entered objects (Some entry) = or_too_large (image_of objects entry.place)
entered objects None = Err NoEntry

abbrev pub unless : {A : Type 0} → Option LinkFault → Result A LinkFault → Result A LinkFault
unless (Some fault) otherwise = Err fault
unless None otherwise = otherwise

-- the image of objects, or the first of the refusals: twice, undefined, no entry, too large
unfoldable pub linked : List Unlinked → Result Linked LinkFault
linked objects = unless (twice objects) (unless (undefined objects) (entered objects (definition_of objects entry_symbol)))

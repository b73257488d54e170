-- What holds of a linked image, function by function.
use Rattle.std.specs.Prelude.{◌≡◌, ℕ, ◌+◌, List, length, take, slice_get, Some, true}
use Rattle.object_format.specs.Image.{Linked}
use Rattle.object_format.specs.Object.{Unlinked, UnlinkedFn}
use Rattle.symbol_link.specs.Linked.{placed, places_of, callee, entry_symbol}
use Rattle.symbol_link.specs.Symbols.{definition_of, function_count}

-- this is function `number` of object `object`
pub record IsFunction (objects : List Unlinked) (object number : ℕ) (o : Unlinked) (f : UnlinkedFn) : Type 0 where
  pub of_objects : slice_get objects object ≡ Some o
  pub of_object : slice_get o.functions number ≡ Some f

-- how many functions stand before those of this object
abbrev pub before : List Unlinked → ℕ → ℕ
before objects object = function_count (take object objects)

pub record IsJoined (objects : List Unlinked) (image : Linked) : Type 0 where
  -- the image has as many functions as the objects
  pub count : length image.functions ≡ function_count objects
  -- each function stands behind those before it, and its calls lead to its object's functions and to its externals' definitions
  pub placed : (object number : ℕ) (o : Unlinked) (f : UnlinkedFn) → IsFunction objects object number o f
      → slice_get image.functions (before objects object + number) ≡ Some (placed (callee (before objects object) (length o.functions) (places_of (definition_of objects) o.externals)) f)
  -- an external function is what its symbol is defined as, at its place
  pub defined : (object number : ℕ) (o : Unlinked) (f : UnlinkedFn) → IsFunction objects object number o f → f.external ≡ true
      → definition_of objects f.symbol ≡ Some (record { object = object; place = before objects object + number })
  -- a run begins at the definition of the entry's symbol
  pub entry : (object number : ℕ) (o : Unlinked) (f : UnlinkedFn) → IsFunction objects object number o f → f.external ≡ true → f.symbol ≡ entry_symbol → image.entry ≡ before objects object + number

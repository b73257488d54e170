-- The number of a meaning, where it is of a kind.
use Rattle.std.specs.Prelude.{ℕ, Option, Some, None}
use Rattle.lar_names.specs.declared.meaning.Meaning.{Meaning}
use Rattle.lar_names.specs.declared.meaning.Meaning.TheVariants.{Module, Struct, Const, Function}

abbrev pub struct_number : Meaning → Option ℕ
struct_number Module = None
struct_number (Struct n) = Some n
struct_number (Const n) = None
struct_number (Function n) = None

abbrev pub const_number : Meaning → Option ℕ
const_number Module = None
const_number (Struct n) = None
const_number (Const n) = Some n
const_number (Function n) = None

abbrev pub function_number : Meaning → Option ℕ
function_number Module = None
function_number (Struct n) = None
function_number (Const n) = None
function_number (Function n) = Some n

-- The limits that belong to the grammar.
use Rattle.std.specs.Prelude.{ℕ}

-- parts of a tuple
abbrev pub max_tuple : ℕ
max_tuple = 8

-- parameters of a function, arguments of a call, and generics of either, of a struct or of `new`
abbrev pub max_args : ℕ
max_args = 16

-- fields of a struct, and inits of `new`
abbrev pub max_fields : ℕ
max_fields = 64

-- tokens of an expression that stands in no other, and of a type that stands in no other type and in no expression
abbrev pub max_tokens : ℕ
max_tokens = 512

-- levels of blocks and modules
abbrev pub max_levels : ℕ
max_levels = 64

-- The text that a type is printed as: `i64`, `bool`, `()`, `(A,B)`, `m::S<A>`; numbers are decimal, and generics stand by their names.
use Rattle.std.specs.Prelude.{ℕ, List, [], ◌∷◌, ◌++◌, slice_get, Option, Some, None, codes}
use Rattle.std.specs.Fmt.{signed_decimal}
use Rattle.type_table.specs.declared.decl.StructDecl.{StructDecl}
use Rattle.type_table.specs.TypeOf.{TypeOf, int, bool, param, number, end, more, tuple, struct}

abbrev pub decl_text : Option StructDecl → List ℕ
decl_text None = []
decl_text (Some s) = s.module ++ codes "::" ++ s.name

-- the path of a struct by its place; one that is not there has none
abbrev pub struct_text : List StructDecl → ℕ → List ℕ
struct_text structs n = decl_text (slice_get structs n)

abbrev pub name_text : Option (List ℕ) → List ℕ
name_text None = []
name_text (Some name) = name

-- the name of a generic by its place; one that is not there has none
abbrev pub generic_text : List (List ℕ) → ℕ → List ℕ
generic_text generics k = name_text (slice_get generics k)

-- the comma before the other members of a list, if there are any
abbrev pub comma : TypeOf → List ℕ
comma end = []
comma _ = codes ","

-- the text of a list of arguments in angles, where there are any
abbrev pub angled : TypeOf → List ℕ → List ℕ
angled end text = []
angled _ text = codes "<" ++ text ++ codes ">"

abbrev pub text_of : List StructDecl → List (List ℕ) → TypeOf → List ℕ
text_of structs generics int = codes "i64"
text_of structs generics bool = codes "bool"
text_of structs generics (param k) = generic_text generics k
text_of structs generics (number v) = signed_decimal v
text_of structs generics end = []
text_of structs generics (more t ts) = text_of structs generics t ++ comma ts ++ text_of structs generics ts
text_of structs generics (tuple ts) = codes "(" ++ text_of structs generics ts ++ codes ")"
text_of structs generics (struct n ts) = struct_text structs n ++ angled ts (text_of structs generics ts)

-- The types that expressions have, and the numbers that are in range in them.
use Rattle.std.specs.Prelude.{ℕ, zero, suc, Bool, true, false, ◌&&◌, ◌||◌, nat_lt, nat_le, List, [], ◌∷◌, map, length, slice_get, Option, Some, None}
use Rattle.type_table.specs.declared.sort.Sort.{Sort}
use Rattle.type_table.specs.declared.sort.Sort.TheVariants.{Ty as of_type, Number as of_number}
use Rattle.type_table.specs.TypeOf.{TypeOf, int, bool, param, number, end, more, tuple, struct}
use Rattle.type_table.specs.Substitution.{subst, argument, count}
use Rattle.type_table.specs.Lawful.{Wanted, one, these, some_types, wants, is_tuple_count, fits}
use Rattle.lar_typed.specs.declared.op.UnaryOp.{UnaryOp}
use Rattle.lar_typed.specs.declared.op.UnaryOp.TheVariants as unary_op
use Rattle.lar_typed.specs.declared.op.BinaryOp.{BinaryOp}
use Rattle.lar_typed.specs.declared.op.BinaryOp.TheVariants as binary_op
use Rattle.lar_typed.specs.Exprs.{PlainExpr, PlainExprs, truth, local, constant, generic, tuple_of, made, part, unary, binary, call, no_exprs, exprs, label_of}
use Rattle.lar_typed.specs.Exprs as expr
use Rattle.lar_typed.specs.SameType.{same_type, is_type}
use Rattle.lar_typed.specs.Trees.{PlainStruct}

-- what a call sees of a function; the parameters' types as a list
pub record Signature : Type 0 where
  pub generics : List Sort
  pub params : TypeOf
  pub outcome : TypeOf

-- what a body stands in
pub record Frame : Type 0 where
  pub structs : List PlainStruct
  -- how many constants there are
  pub consts : ℕ
  pub functions : List Signature
  -- the sorts of the function's generics, the types of its locals, and that of its result
  pub generics : List Sort
  pub locals : List TypeOf
  pub outcome : TypeOf

-- generics of which each stands for a type
abbrev pub type_generics : ℕ → List Sort
type_generics zero = []
type_generics (suc n) = of_type ∷ type_generics n

abbrev pub struct_sorts : List PlainStruct → List (List Sort)
struct_sorts structs = map (λ s. type_generics s.generics) structs

-- each struct that the type names is there and has its generics, and so has the function
abbrev pub type_fits : Frame → TypeOf → Wanted → Bool
type_fits fr t w = fits (struct_sorts fr.structs) fr.generics t w

-- the type of field k of a struct, where its generics stand for the types gs
abbrev pub field_type : TypeOf → ℕ → Option PlainStruct → Option TypeOf
field_type gs k None = None
field_type gs k (Some s) = argument (subst gs s.fields) k

-- the type of part k of a tuple, or of field k of a struct
abbrev pub part_type : List PlainStruct → TypeOf → ℕ → Option TypeOf
part_type structs (tuple ts) k = argument ts k
part_type structs (struct n gs) k = field_type gs k (slice_get structs n)
part_type structs _ k = None

abbrev pub is_scalar : TypeOf → Bool
is_scalar int = true
is_scalar bool = true
is_scalar _ = false

-- the types of a result and of its operands
abbrev pub unary_fits : UnaryOp → TypeOf → TypeOf → Bool
unary_fits unary_op.Minus t a = same_type t int && same_type a int
unary_fits unary_op.Not t a = same_type t bool && same_type a bool

abbrev pub binary_fits : BinaryOp → TypeOf → TypeOf → TypeOf → Bool
binary_fits binary_op.Or t a b = same_type t bool && (same_type a bool && same_type b bool)
binary_fits binary_op.And t a b = same_type t bool && (same_type a bool && same_type b bool)
binary_fits binary_op.Equal t a b = same_type t bool && (is_scalar a && same_type b a)
binary_fits binary_op.NotEqual t a b = same_type t bool && (is_scalar a && same_type b a)
binary_fits binary_op.Less t a b = same_type t bool && (same_type a int && same_type b int)
binary_fits binary_op.AtMost t a b = same_type t bool && (same_type a int && same_type b int)
binary_fits binary_op.Greater t a b = same_type t bool && (same_type a int && same_type b int)
binary_fits binary_op.AtLeast t a b = same_type t bool && (same_type a int && same_type b int)
binary_fits binary_op.Plus t a b = same_type t int && (same_type a int && same_type b int)
binary_fits binary_op.Minus t a b = same_type t int && (same_type a int && same_type b int)
binary_fits binary_op.Star t a b = same_type t int && (same_type a int && same_type b int)
binary_fits binary_op.Slash t a b = same_type t int && (same_type a int && same_type b int)
binary_fits binary_op.Percent t a b = same_type t int && (same_type a int && same_type b int)

-- what is made of parts with the types ts is of the type t: a struct with these fields
abbrev pub fields_are : TypeOf → TypeOf → Option PlainStruct → Bool
fields_are gs ts None = false
fields_are gs ts (Some s) = same_type ts (subst gs s.fields)

abbrev pub made_fits : List PlainStruct → TypeOf → TypeOf → Bool
made_fits structs (struct n gs) ts = fields_are gs ts (slice_get structs n)
made_fits structs _ ts = false

-- a call with the generics gs and arguments of the types ts is of the type t
abbrev pub call_fits : Frame → TypeOf → TypeOf → TypeOf → Option Signature → Bool
call_fits fr t gs ts None = false
call_fits fr t gs ts (Some f) = type_fits fr gs (these f.generics) && (same_type ts (subst gs f.params) && same_type t (subst gs f.outcome))

abbrev pub types_of : PlainExprs → TypeOf
types_of no_exprs = end
types_of (exprs e es) = more (label_of e) (types_of es)

-- The types of an expression and of all in it are those of its rules, and each number is in range.
abbrev mutual
  pub lawful : Frame → PlainExpr → Bool
  lawful fr (expr.int t v) = same_type t int
  lawful fr (truth t b) = same_type t bool
  lawful fr (local t n) = is_type t (slice_get fr.locals n)
  lawful fr (constant t n) = same_type t int && nat_lt n fr.consts
  lawful fr (generic t k) = same_type t int && wants (one of_number) (slice_get fr.generics k)
  lawful fr (tuple_of t es) = same_type t (tuple (types_of es)) && (is_tuple_count (count (types_of es)) && all_lawful fr es)
  lawful fr (made t es) = type_fits fr t (one of_type) && (made_fits fr.structs t (types_of es) && all_lawful fr es)
  lawful fr (part t e k) = is_type t (part_type fr.structs (label_of e) k) && lawful fr e
  lawful fr (unary t op e) = unary_fits op t (label_of e) && lawful fr e
  lawful fr (binary t op a b) = binary_fits op t (label_of a) (label_of b) && (lawful fr a && lawful fr b)
  lawful fr (call t n gs es at) = call_fits fr t gs (types_of es) (slice_get fr.functions n) && all_lawful fr es

  pub all_lawful : Frame → PlainExprs → Bool
  all_lawful fr no_exprs = true
  all_lawful fr (exprs e es) = lawful fr e && all_lawful fr es

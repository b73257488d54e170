-- What each kind of expression and statement gives to who knows that it is lawful.
use Rattle.std.specs.Prelude.{◌≡◌, ℕ, ◌<◌, true, List, length, slice_get, Some}
use Rattle.type_table.specs.declared.sort.Sort.{Sort}
use Rattle.type_table.specs.declared.sort.Sort.TheVariants.{Ty as of_type, Number as of_number}
use Rattle.type_table.specs.TypeOf.{TypeOf, int, bool, end, tuple, struct}
use Rattle.type_table.specs.Substitution.{subst, count}
use Rattle.type_table.specs.Lawful.{one, these, is_tuple_count}
use Rattle.lar_typed.specs.Exprs.{PlainExpr, PlainExprs, label_of}
use Rattle.lar_typed.specs.Stmts.{StepOf, PlainStmts}
use Rattle.lar_typed.specs.Trees.{PlainStruct}
use Rattle.lar_typed.specs.Lawful.{Signature, Frame, type_fits, lawful, all_lawful, types_of}
use Rattle.lar_typed.specs.LawfulBody.{steps_fit, is_static, stmts_lawful}

pub record LocalParts (fr : Frame) (t : TypeOf) (n : ℕ) : Type 0 where
  pub there : n < length fr.locals
  pub of : slice_get fr.locals n ≡ Some t

pub record ConstantParts (fr : Frame) (t : TypeOf) (n : ℕ) : Type 0 where
  pub there : n < fr.consts
  pub of : t ≡ int

pub record GenericParts (fr : Frame) (t : TypeOf) (k : ℕ) : Type 0 where
  pub there : k < length fr.generics
  pub sort : slice_get fr.generics k ≡ Some of_number
  pub of : t ≡ int

pub record TupleParts (fr : Frame) (t : TypeOf) (es : PlainExprs) : Type 0 where
  pub of : t ≡ tuple (types_of es)
  pub counted : is_tuple_count (count (types_of es)) ≡ true
  pub lawful_parts : all_lawful fr es ≡ true

-- a struct: its number, the types that its generics stand for, and its declaration
pub record MadeParts (fr : Frame) (t : TypeOf) (es : PlainExprs) : Type 0 where
  pub number : ℕ
  pub generics : TypeOf
  pub struct_decl : PlainStruct
  pub of : t ≡ struct number generics
  pub fits : type_fits fr t (one of_type) ≡ true
  pub decl_there : slice_get fr.structs number ≡ Some struct_decl
  pub fields_are : types_of es ≡ subst generics struct_decl.fields
  pub lawful_fields : all_lawful fr es ≡ true

pub record CallParts (fr : Frame) (t : TypeOf) (n : ℕ) (gs : TypeOf) (es : PlainExprs) : Type 0 where
  pub signature : Signature
  pub there : n < length fr.functions
  pub signature_there : slice_get fr.functions n ≡ Some signature
  pub generics_fit : type_fits fr gs (these signature.generics) ≡ true
  pub args_are : types_of es ≡ subst gs signature.params
  pub of : t ≡ subst gs signature.outcome
  pub lawful_args : all_lawful fr es ≡ true

-- an expression of this type that is lawful
pub record Has (fr : Frame) (t : TypeOf) (e : PlainExpr) : Type 0 where
  pub of : label_of e ≡ t
  pub is_lawful : lawful fr e ≡ true

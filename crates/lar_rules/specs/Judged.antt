-- What is known of an expression, and the rules that look at its type.
use Rattle.std.specs.Prelude.{ℕ, suc, Bool, true, false, List, [], ◌∷◌, ◌++◌, Option, Some, None, option_map, if◌then◌else◌}
use Rattle.lar_source.specs.declared.file.Span.{Span}
use Rattle.lar_source.specs.declared.code.Code.TheVariants.{WrongType, NoSuchPlace}
use Rattle.type_table.specs.TypeOf.{TypeOf}
use Rattle.type_table.specs.Substitution.{subst}
use Rattle.lar_typed.specs.Exprs as typed
use Rattle.lar_typed.specs.SameType.{same_type}
use Rattle.lar_rules.specs.Fault.{Fault, fault}
use Rattle.lar_rules.specs.Printed.{struct_path, generic_text, type_text}
use Rattle.lar_rules.specs.Written.{Site}

-- a local: its name, its number in the function, and its type where there is no fault in the declaration
pub record Local : Type 0 where
  pub name : List ℕ
  pub number : ℕ
  pub of : Option TypeOf

-- where an expression is written; the innermost local comes first
pub record Env : Type 0 where
  pub site : Site
  pub locals : List Local
  -- whether it stands in a `static_assert`
  pub asserting : Bool

-- The expression with its types where it has no fault in it, and the faults in it. It begins at `at`.
pub record Judged : Type 0 where
  pub at : Span
  pub typed : Option typed.PlainExpr
  pub faults : List Fault

abbrev pub printed : Site → TypeOf → List ℕ
printed s t = type_text (struct_path s.all) (generic_text s.generics) t

abbrev pub other_type : Site → Span → TypeOf → TypeOf → Fault
other_type s at wanted found = fault s.file at WrongType (printed s wanted ∷ printed s found ∷ [])

abbrev pub misfit_of : Site → TypeOf → Span → Option typed.PlainExpr → List Fault
misfit_of s t at None = []
misfit_of s t at (Some e) = if same_type (typed.label_of e) t then [] else other_type s at t (typed.label_of e) ∷ []

-- it has this type; nothing is said of what has a fault in it
abbrev pub misfit : Site → TypeOf → Judged → List Fault
misfit s t j = misfit_of s t j.at j.typed

abbrev pub fitting_of : TypeOf → Option typed.PlainExpr → Option typed.PlainExpr
fitting_of t None = None
fitting_of t (Some e) = if same_type (typed.label_of e) t then Some e else None

-- the expression, where it has this type
abbrev pub fitting : TypeOf → Judged → Option typed.PlainExpr
fitting t j = fitting_of t j.typed

-- the same, where the type is known
abbrev pub misfit_if : Site → Option TypeOf → Judged → List Fault
misfit_if s None j = []
misfit_if s (Some t) j = misfit s t j

abbrev pub fitting_if : Option TypeOf → Judged → Option typed.PlainExpr
fitting_if None j = None
fitting_if (Some t) j = fitting t j

abbrev pub all_faults : List Judged → List Fault
all_faults [] = []
all_faults (j ∷ js) = j.faults ++ all_faults js

abbrev pub then_expr : Option typed.PlainExpr → Option typed.PlainExprs → Option typed.PlainExprs
then_expr (Some e) (Some es) = Some (typed.exprs e es)
then_expr _ _ = None

abbrev pub all_typed : List Judged → Option typed.PlainExprs
all_typed [] = Some typed.no_exprs
all_typed (j ∷ js) = then_expr j.typed (all_typed js)

-- a type of a declaration, with the generics of a use in place of its own; known where both are
abbrev pub under : Option TypeOf → Option TypeOf → Option TypeOf
under (Some gs) (Some t) = Some (subst gs t)
under _ _ = None

abbrev pub judged_if : Bool → Span → Option typed.PlainExpr → List Fault → List Fault → Judged
judged_if true at e faults refusal = record { at = at; typed = None; faults = faults ++ refusal }
judged_if false at e faults refusal = record { at = at; typed = e; faults = faults }

-- a call, a tuple, `new` or a field, none of which stands in a `static_assert`
abbrev pub unless_asserting : Env → Span → Option typed.PlainExpr → List Fault → Judged
unless_asserting env at e faults = judged_if env.asserting at e faults (fault env.site.file at NoSuchPlace [] ∷ [])

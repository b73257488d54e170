-- Values, operators and tuples with their types are lawful.
use Rattle.std.proofs.Common.{◌≡◌, ℕ, suc, ◌<◌, ◌≤◌, refl, sym, ap, ◌∙◌, subst as transport, arith, lt-ltb, Bool, true, false, ◌&&◌, if◌then◌else◌, List, [], ◌∷◌, length, slice_get, Option, Some, None, option_map}
use Rattle.lar_source.specs.declared.file.Span.{Span}
use Rattle.type_table.specs.TypeOf.{TypeOf, int, bool, more}
use Rattle.type_table.specs.Substitution.{count}
use Rattle.type_table.specs.declared.sort.Sort.TheVariants.{Number as of_number}
use Rattle.type_table.specs.Lawful.{one, wants, is_tuple_count}
use Rattle.lar_typed.specs.Exprs as typed
use Rattle.lar_typed.specs.SameType.{same_type, is_type}
use Rattle.lar_typed.specs.Lawful.{Frame, is_scalar, unary_fits, binary_fits, types_of, lawful, all_lawful}
use Rattle.lar_typed.specs.Parts.{Has}
use Rattle.lar_typed.specs.declared.op.BinaryOp.{BinaryOp as TypedBinary}
use Rattle.lar_typed.proofs.SameTypes.{both_true, same_means, same_self}
use Rattle.lar_tree.specs.declared.name.Path.{Path}
use Rattle.lar_tree.specs.declared.expr.Unary.{Unary}
use Rattle.lar_tree.specs.declared.expr.Unary.TheVariants as unary
use Rattle.lar_tree.specs.declared.expr.Binary.{Binary}
use Rattle.lar_tree.specs.declared.expr.Binary.TheVariants as binary
use Rattle.lar_tree.specs.Stmts.{IfThere}
use Rattle.lar_tree.specs.Lawful.{Every}
use Rattle.lar_rules.specs.Fault.{Fault}
use Rattle.lar_rules.specs.Judged.{Local, Env, Judged, fitting_of, fitting, fitting_if, then_expr, all_typed, judged_if, unless_asserting}
use Rattle.lar_rules.specs.Exprs.{ValueName, a_local, a_number, a_constant, no_value, local_typed, judged_local, judged_path, typed_unary_op, unary_type, typed_binary_op, operand_type, result_type, both_typed, scalar_of, judged_operands, types_of as judged_types, tuple_typed, judged_tuple, judged_paren}
use Rattle.lar_sound.specs.Frames.{IsLocalIn}
use Rattle.lar_sound.proofs.Known.{some_same, none_some}
use Rattle.lar_sound.proofs.ValuesMeant.{ValueHolds}
use Rattle.lar_sound.proofs.WrittenLawful.{tuple_counted}

-- the expression, where there is one, is lawful
abbrev pub LawfulIf : Frame → Option typed.PlainExpr → Type 0
LawfulIf fr o = IfThere (λ (e : typed.PlainExpr). lawful fr e ≡ true) o

abbrev pub JudgedLawful : Frame → Judged → Type 0
JudgedLawful fr j = LawfulIf fr j.typed

-- lawful expressions of these types
abbrev pub ListHas : Frame → TypeOf → typed.PlainExprs → Type 0
ListHas fr ts es = (all_lawful fr es ≡ true) × (types_of es ≡ ts)

-- WHAT HAS A TYPE

one_fitting : (fr : Frame) (t : TypeOf) (b : Bool) (e : typed.PlainExpr) → same_type (typed.label_of e) t ≡ b
    → lawful fr e ≡ true → IfThere (Has fr t) (if b then Some e else None)
one_fitting fr t true e s h = record { of = same_means (typed.label_of e) t s; is_lawful = h }
one_fitting fr t false e s h = tt

pub fitting_has : (fr : Frame) (t : TypeOf) (o : Option typed.PlainExpr) → LawfulIf fr o
    → IfThere (Has fr t) (fitting_of t o)
fitting_has fr t None h = tt
fitting_has fr t (Some e) h = one_fitting fr t (same_type (typed.label_of e) t) e refl h

if_lawful : (fr : Frame) (b : Bool) (at : Span) (e : Option typed.PlainExpr) (fs rs : List Fault) → LawfulIf fr e
    → JudgedLawful fr (judged_if b at e fs rs)
if_lawful fr true at e fs rs h = tt
if_lawful fr false at e fs rs h = h

pub unless_lawful : (fr : Frame) (env : Env) (at : Span) (e : Option typed.PlainExpr) (fs : List Fault) → LawfulIf fr e
    → JudgedLawful fr (unless_asserting env at e fs)
unless_lawful fr env at e fs h = if_lawful fr env.asserting at e fs _ h

pub is_type_itself : (t : TypeOf) (o : Option TypeOf) → o ≡ Some t → is_type t o ≡ true
is_type_itself t o e = ap (is_type t) e ∙ same_self t

pub same_of : (t u : TypeOf) → t ≡ u → same_type t u ≡ true
same_of t u e = ap (λ (x : TypeOf). same_type x u) e ∙ same_self u

-- PATHS

local_lawful : (fr : Frame) (l : Local) (o : Option TypeOf)
    → IfThere (λ (t : TypeOf). slice_get fr.locals l.number ≡ Some t) o → LawfulIf fr (local_typed l o)
local_lawful fr l None h = tt
local_lawful fr l (Some t) h = is_type_itself t (slice_get fr.locals l.number) h

meant_lawful : (fr : Frame) (env : Env) (p : Path) (l : Local) (b : Bool) → IsLocalIn fr.locals l
    → JudgedLawful fr (judged_local env p l b)
meant_lawful fr env p l true h = tt
meant_lawful fr env p l false h = local_lawful fr l l.of h

pub path_lawful : (fr : Frame) (env : Env) (p : Path) (v : ValueName)
    → ValueHolds (IsLocalIn fr.locals) (λ (k : ℕ). slice_get fr.generics k ≡ Some of_number)
    (λ (n : ℕ). n < fr.consts) v → JudgedLawful fr (judged_path env p v)
path_lawful fr env p (a_local l) h = meant_lawful fr env p l env.asserting h
path_lawful fr env p (a_number k) h = ap (wants (one of_number)) h
path_lawful fr env p (a_constant n) h = lt-ltb n fr.consts h
path_lawful fr env p no_value h = tt

-- OPERATORS

unary_fit : (op : Unary) → unary_fits (typed_unary_op op) (unary_type op) (unary_type op) ≡ true
unary_fit unary.Minus = refl
unary_fit unary.Not = refl

pub unary_lawful : (fr : Frame) (op : Unary) (o : Option typed.PlainExpr) → IfThere (Has fr (unary_type op)) o
    → LawfulIf fr (option_map (typed.unary (unary_type op) (typed_unary_op op)) o)
unary_lawful fr op None h = tt
unary_lawful fr op (Some e) h =
    both_true (unary_fits (typed_unary_op op) (unary_type op) (typed.label_of e)) (lawful fr e)
    (ap (unary_fits (typed_unary_op op) (unary_type op)) h.of ∙ unary_fit op) h.is_lawful

abbrev SameFit : Binary → TypeOf → Type 0
SameFit op t = binary_fits (typed_binary_op op) (result_type op) t t ≡ true

pub binary_known : (op : Binary) (o : TypeOf) → operand_type op ≡ Some o → SameFit op o
binary_known binary.Or o e = transport (SameFit binary.Or) (some_same bool o e) refl
binary_known binary.And o e = transport (SameFit binary.And) (some_same bool o e) refl
binary_known binary.Equal o e = absurd (none_some o e)
binary_known binary.NotEqual o e = absurd (none_some o e)
binary_known binary.Less o e = transport (SameFit binary.Less) (some_same int o e) refl
binary_known binary.AtMost o e = transport (SameFit binary.AtMost) (some_same int o e) refl
binary_known binary.Greater o e = transport (SameFit binary.Greater) (some_same int o e) refl
binary_known binary.AtLeast o e = transport (SameFit binary.AtLeast) (some_same int o e) refl
binary_known binary.Plus o e = transport (SameFit binary.Plus) (some_same int o e) refl
binary_known binary.Minus o e = transport (SameFit binary.Minus) (some_same int o e) refl
binary_known binary.Star o e = transport (SameFit binary.Star) (some_same int o e) refl
binary_known binary.Slash o e = transport (SameFit binary.Slash) (some_same int o e) refl
binary_known binary.Percent o e = transport (SameFit binary.Percent) (some_same int o e) refl

pub binary_scalar : (op : Binary) → operand_type op ≡ None → (t : TypeOf) → is_scalar t ≡ true → SameFit op t
binary_scalar binary.Equal e t h = both_true (is_scalar t) (same_type t t) h (same_self t)
binary_scalar binary.NotEqual e t h = both_true (is_scalar t) (same_type t t) h (same_self t)
binary_scalar binary.Or e t h = absurd (none_some bool (sym e))
binary_scalar binary.And e t h = absurd (none_some bool (sym e))
binary_scalar binary.Less e t h = absurd (none_some int (sym e))
binary_scalar binary.AtMost e t h = absurd (none_some int (sym e))
binary_scalar binary.Greater e t h = absurd (none_some int (sym e))
binary_scalar binary.AtLeast e t h = absurd (none_some int (sym e))
binary_scalar binary.Plus e t h = absurd (none_some int (sym e))
binary_scalar binary.Minus e t h = absurd (none_some int (sym e))
binary_scalar binary.Star e t h = absurd (none_some int (sym e))
binary_scalar binary.Slash e t h = absurd (none_some int (sym e))
binary_scalar binary.Percent e t h = absurd (none_some int (sym e))

both_lawful : (fr : Frame) (t u : TypeOf) (op : TypedBinary) (a b : Option typed.PlainExpr)
    → binary_fits op t u u ≡ true → IfThere (Has fr u) a → IfThere (Has fr u) b → LawfulIf fr (both_typed t op a b)
both_lawful fr t u op None b f h k = tt
both_lawful fr t u op (Some x) None f h k = tt
both_lawful fr t u op (Some x) (Some y) f h k =
    both_true (binary_fits op t (typed.label_of x) (typed.label_of y)) (lawful fr x && lawful fr y)
    (ap (λ (v : TypeOf). binary_fits op t v (typed.label_of y)) h.of ∙ ap (binary_fits op t u) k.of ∙ f)
    (both_true (lawful fr x) (lawful fr y) h.is_lawful k.is_lawful)

scalar_is : (b : Bool) (t : TypeOf) → is_scalar t ≡ b
    → IfThere (λ (u : TypeOf). is_scalar u ≡ true) (if b then Some t else None)
scalar_is true t e = e
scalar_is false t e = tt

scalar_there : (o : Option typed.PlainExpr) → IfThere (λ (u : TypeOf). is_scalar u ≡ true) (scalar_of o)
scalar_there None = tt
scalar_there (Some e) = scalar_is (is_scalar (typed.label_of e)) (typed.label_of e) refl

scalars_lawful : (fr : Frame) (t : TypeOf) (op : TypedBinary) (o : Option TypeOf) (a b : Judged)
    → ((u : TypeOf) → is_scalar u ≡ true → binary_fits op t u u ≡ true) → IfThere (λ (u : TypeOf). is_scalar u ≡ true) o
    → JudgedLawful fr a → JudgedLawful fr b
    → LawfulIf fr (both_typed t op (fitting_if o a) (fitting_if o b))
scalars_lawful fr t op None a b f h x y = tt
scalars_lawful fr t op (Some u) a b f h x y =
    both_lawful fr t u op (fitting u a) (fitting u b) (f u h) (fitting_has fr u a.typed x) (fitting_has fr u b.typed y)

pub operands_lawful : (fr : Frame) (env : Env) (t : TypeOf) (op : TypedBinary) (a b : Judged) (o : Option TypeOf)
    → ((u : TypeOf) → o ≡ Some u → binary_fits op t u u ≡ true)
    → (o ≡ None → (u : TypeOf) → is_scalar u ≡ true → binary_fits op t u u ≡ true) → JudgedLawful fr a
    → JudgedLawful fr b
    → JudgedLawful fr (judged_operands env t op a b o)
operands_lawful fr env t op a b (Some u) f g x y =
    both_lawful fr t u op (fitting u a) (fitting u b) (f u refl) (fitting_has fr u a.typed x)
    (fitting_has fr u b.typed y)
operands_lawful fr env t op a b None f g x y =
    scalars_lawful fr t op (scalar_of a.typed) a b (g refl) (scalar_there a.typed) x y

-- TUPLES

same_types_of : (es : typed.PlainExprs) → judged_types es ≡ types_of es
same_types_of typed.no_exprs = refl
same_types_of (typed.exprs e es) = ap (more (typed.label_of e)) (same_types_of es)

-- lawful expressions, so many
abbrev ListCounted : Frame → ℕ → typed.PlainExprs → Type 0
ListCounted fr n es = (all_lawful fr es ≡ true) × (count (types_of es) ≡ n)

then_counted : (fr : Frame) (n : ℕ) (a : Option typed.PlainExpr) (b : Option typed.PlainExprs) → LawfulIf fr a
    → IfThere (ListCounted fr n) b → IfThere (ListCounted fr (suc n)) (then_expr a b)
then_counted fr n None b h k = tt
then_counted fr n (Some e) None h k = tt
then_counted fr n (Some e) (Some es) h k = (both_true (lawful fr e) (all_lawful fr es) h k.0, ap suc k.1)

all_counted : (fr : Frame) (js : List Judged) → Every (JudgedLawful fr) js
    → IfThere (ListCounted fr (length js)) (all_typed js)
all_counted fr [] h = (refl, refl)
all_counted fr (j ∷ js) h = then_counted fr (length js) j.typed (all_typed js) h.0 (all_counted fr js h.1)

tuple_of_lawful : (fr : Frame) (n : ℕ) (o : Option typed.PlainExprs) → is_tuple_count n ≡ true
    → IfThere (ListCounted fr n) o → LawfulIf fr (option_map tuple_typed o)
tuple_of_lawful fr n None c h = tt
tuple_of_lawful fr n (Some es) c h =
    both_true (same_type (judged_types es) (types_of es)) (is_tuple_count (count (types_of es)) && all_lawful fr es)
    (same_of (judged_types es) (types_of es) (same_types_of es))
    (both_true (is_tuple_count (count (types_of es))) (all_lawful fr es) (ap is_tuple_count h.1 ∙ c) h.0)

tuple_lawful : (fr : Frame) (env : Env) (at : Span) (js : List Judged) → is_tuple_count (length js) ≡ true
    → Every (JudgedLawful fr) js → JudgedLawful fr (judged_tuple env at js)
tuple_lawful fr env at js c h =
    unless_lawful fr env at (option_map tuple_typed (all_typed js)) _
    (tuple_of_lawful fr (length js) (all_typed js) c (all_counted fr js h))

pub paren_lawful : (fr : Frame) (env : Env) (at : Span) (js : List Judged) → length js ≤ 8 → Every (JudgedLawful fr) js
    → JudgedLawful fr (judged_paren env at js)
paren_lawful fr env at [] l h = tuple_lawful fr env at [] refl h
paren_lawful fr env at (j ∷ []) l h = h.0
paren_lawful fr env at (j ∷ k ∷ js) l h =
    tuple_lawful fr env at (j ∷ k ∷ js) (tuple_counted (length js) (omega (arith, l))) h

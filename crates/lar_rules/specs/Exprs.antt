-- The type of each expression and the faults in it, a rule for each construct.
use Rattle.std.specs.Prelude.{ℕ, zero, suc, ◌==◌, ℤ, nat_abs, Bool, true, false, List, [], ◌∷◌, ◌++◌, length, map, Option, Some, None, option_map, option_and_then, if◌then◌else◌}
use Rattle.std.specs.Str.{bytes_eq}
use Rattle.lar_source.specs.declared.file.Span.{Span}
use Rattle.lar_source.specs.declared.code.Code.TheVariants.{WrongType, NoSuchPlace}
use Rattle.type_table.specs.TypeOf.{TypeOf, int, bool, param, number, end, more, tuple, struct}
use Rattle.type_table.specs.Substitution.{argument}
use Rattle.lar_typed.specs.Exprs as typed
use Rattle.lar_typed.specs.SameType.{same_type}
use Rattle.lar_typed.specs.Lawful.{is_scalar}
use Rattle.lar_typed.specs.declared.op.UnaryOp.{UnaryOp as TypedUnary}
use Rattle.lar_typed.specs.declared.op.UnaryOp.TheVariants as typed_unary
use Rattle.lar_typed.specs.declared.op.BinaryOp.{BinaryOp as TypedBinary}
use Rattle.lar_typed.specs.declared.op.BinaryOp.TheVariants as typed_binary
use Rattle.lar_tree.specs.declared.name.Name.{Name}
use Rattle.lar_tree.specs.declared.name.Path.{Path}
use Rattle.lar_tree.specs.declared.expr.Selector.{Selector}
use Rattle.lar_tree.specs.declared.expr.Selector.TheVariants as selector
use Rattle.lar_tree.specs.declared.expr.Unary.{Unary}
use Rattle.lar_tree.specs.declared.expr.Unary.TheVariants as unary
use Rattle.lar_tree.specs.declared.expr.Binary.{Binary}
use Rattle.lar_tree.specs.declared.expr.Binary.TheVariants as binary
use Rattle.lar_tree.specs.Firsts.{expr_start}
use Rattle.lar_tree.specs.Exprs as plain
use Rattle.lar_rules.specs.Fault.{Fault, fault}
use Rattle.lar_rules.specs.Declared.{Declared, Struct, Function, struct_meant, const_meant, function_meant, texts_of}
use Rattle.lar_rules.specs.Written.{Site, Given, given, all_given, Fitted, fitted, unknown, miscounted, number_generic, struct_sorts}
use Rattle.lar_rules.specs.Signatures.{Member, fields, params, outcome, function_sorts, struct_numbered}
use Rattle.lar_rules.specs.Judged.{Local, Env, Judged, misfit, fitting, misfit_if, fitting_if, other_type, all_faults, all_typed, under, then_expr, unless_asserting}

-- the innermost local of this name
abbrev pub local_named : List ℕ → List Local → Option Local
local_named name [] = None
local_named name (l ∷ ls) = if bytes_eq l.name name then Some l else local_named name ls

-- What a path means in an expression: one name is the innermost local, else a const generic, else a constant of the module; more
-- names are a constant.
pub data ValueName : Type 0 where
  a_local : Local → ValueName
  a_number : ℕ → ValueName
  a_constant : ℕ → ValueName
  no_value : ValueName

abbrev pub constant_or_none : Option ℕ → ValueName
constant_or_none None = no_value
constant_or_none (Some n) = a_constant n

abbrev pub number_or : Option ℕ → ValueName → ValueName
number_or None v = v
number_or (Some k) v = a_number k

abbrev pub local_or : Option Local → ValueName → ValueName
local_or None v = v
local_or (Some l) v = a_local l

abbrev pub local_meant : List (List ℕ) → List Local → Option Local
local_meant (n ∷ []) ls = local_named n ls
local_meant ns ls = None

abbrev pub value_named : Env → Path → ValueName
value_named env p =
    local_or (local_meant (texts_of p) env.locals)
    (number_or (number_generic env.site.generics (texts_of p)) (constant_or_none (const_meant env.site.all env.site.modules p)))

abbrev pub local_typed : Local → Option TypeOf → Option typed.PlainExpr
local_typed l None = None
local_typed l (Some t) = Some (typed.local t l.number)

-- a local has no place in a `static_assert`
abbrev pub judged_local : Env → Path → Local → Bool → Judged
judged_local env p l true = record { at = p.first.span; typed = None; faults = unknown env.site p ∷ [] }
judged_local env p l false = record { at = p.first.span; typed = local_typed l l.of; faults = [] }

abbrev pub judged_path : Env → Path → ValueName → Judged
judged_path env p (a_local l) = judged_local env p l env.asserting
judged_path env p (a_number k) = record { at = p.first.span; typed = Some (typed.generic int k); faults = [] }
judged_path env p (a_constant n) = record { at = p.first.span; typed = Some (typed.constant int n); faults = [] }
judged_path env p no_value = record { at = p.first.span; typed = None; faults = unknown env.site p ∷ [] }

-- OPERATORS

-- `-` and `!`
abbrev pub typed_unary_op : Unary → TypedUnary
typed_unary_op unary.Minus = typed_unary.Minus
typed_unary_op unary.Not = typed_unary.Not

abbrev pub unary_type : Unary → TypeOf
unary_type unary.Minus = int
unary_type unary.Not = bool

abbrev pub judged_unary : Env → Unary → Span → Judged → Judged
judged_unary env op at e = record {
  at = at;
  typed = option_map (typed.unary (unary_type op) (typed_unary_op op)) (fitting (unary_type op) e);
  faults = e.faults ++ misfit env.site (unary_type op) e;
}

abbrev pub typed_binary_op : Binary → TypedBinary
typed_binary_op binary.Or = typed_binary.Or
typed_binary_op binary.And = typed_binary.And
typed_binary_op binary.Equal = typed_binary.Equal
typed_binary_op binary.NotEqual = typed_binary.NotEqual
typed_binary_op binary.Less = typed_binary.Less
typed_binary_op binary.AtMost = typed_binary.AtMost
typed_binary_op binary.Greater = typed_binary.Greater
typed_binary_op binary.AtLeast = typed_binary.AtLeast
typed_binary_op binary.Plus = typed_binary.Plus
typed_binary_op binary.Minus = typed_binary.Minus
typed_binary_op binary.Star = typed_binary.Star
typed_binary_op binary.Slash = typed_binary.Slash
typed_binary_op binary.Percent = typed_binary.Percent

-- the type of both operands; none for `==` and `!=`, which compare two of either
abbrev pub operand_type : Binary → Option TypeOf
operand_type binary.Or = Some bool
operand_type binary.And = Some bool
operand_type binary.Equal = None
operand_type binary.NotEqual = None
operand_type binary.Less = Some int
operand_type binary.AtMost = Some int
operand_type binary.Greater = Some int
operand_type binary.AtLeast = Some int
operand_type binary.Plus = Some int
operand_type binary.Minus = Some int
operand_type binary.Star = Some int
operand_type binary.Slash = Some int
operand_type binary.Percent = Some int

abbrev pub result_type : Binary → TypeOf
result_type binary.Plus = int
result_type binary.Minus = int
result_type binary.Star = int
result_type binary.Slash = int
result_type binary.Percent = int
result_type op = bool

abbrev pub both_typed : TypeOf → TypedBinary → Option typed.PlainExpr → Option typed.PlainExpr → Option typed.PlainExpr
both_typed t op (Some a) (Some b) = Some (typed.binary t op a b)
both_typed t op _ _ = None

-- the left operand of `==`: i64 or bool
abbrev pub scalar_of : Option typed.PlainExpr → Option TypeOf
scalar_of None = None
scalar_of (Some e) = if is_scalar (typed.label_of e) then Some (typed.label_of e) else None

abbrev pub not_scalar_of : Site → Span → Option typed.PlainExpr → List Fault
not_scalar_of s at None = []
not_scalar_of s at (Some e) = if is_scalar (typed.label_of e) then [] else other_type s at int (typed.label_of e) ∷ []

-- The rule by the operands' type. Of `==` and `!=` the left one is i64 or bool, and the right one like the left.
abbrev pub judged_operands : Env → TypeOf → TypedBinary → Judged → Judged → Option TypeOf → Judged
judged_operands env t op a b (Some o) = record {
  at = a.at;
  typed = both_typed t op (fitting o a) (fitting o b);
  faults = a.faults ++ (b.faults ++ (misfit env.site o a ++ misfit env.site o b));
}
judged_operands env t op a b None = record {
  at = a.at;
  typed = both_typed t op (fitting_if (scalar_of a.typed) a) (fitting_if (scalar_of a.typed) b);
  faults = a.faults ++ (b.faults ++ (not_scalar_of env.site a.at a.typed ++ misfit_if env.site (scalar_of a.typed) b));
}

abbrev pub judged_binary : Env → Binary → Judged → Judged → Judged
judged_binary env op a b = judged_operands env (result_type op) (typed_binary_op op) a b (operand_type op)

-- TUPLES, FIELDS, STRUCTS

abbrev pub types_of : typed.PlainExprs → TypeOf
types_of typed.no_exprs = end
types_of (typed.exprs e es) = more (typed.label_of e) (types_of es)

abbrev pub tuple_typed : typed.PlainExprs → typed.PlainExpr
tuple_typed es = typed.tuple_of (tuple (types_of es)) es

abbrev pub judged_tuple : Env → Span → List Judged → Judged
judged_tuple env at js = unless_asserting env at (option_map tuple_typed (all_typed js)) (all_faults js)

-- `(e)` is what e is; `()` and two or more are a tuple
abbrev pub judged_paren : Env → Span → List Judged → Judged
judged_paren env at (j ∷ []) = record { at = at; typed = j.typed; faults = j.faults }
judged_paren env at js = judged_tuple env at js

abbrev pub member_from : ℕ → List ℕ → List Member → Option (ℕ × Option TypeOf)
member_from k name [] = None
member_from k name (m ∷ ms) = if bytes_eq (m.0).text name then Some (k, m.1) else member_from (suc k) name ms

-- the place of the first field of this name, and its type
abbrev pub member_named : List ℕ → List Member → Option (ℕ × Option TypeOf)
member_named name ms = member_from 0 name ms

-- a part, by its place; its type, where it is known
abbrev pub Part : Type 0
Part = ℕ × Option TypeOf

abbrev pub field_part : List Declared → TypeOf → List ℕ → Option Struct → Option Part
field_part all gs name None = None
field_part all gs name (Some x) = option_map (λ m. (m.0, under (Some gs) m.1)) (member_named name (fields all x))

abbrev pub tuple_part : TypeOf → ℕ → Option Part
tuple_part ts k = option_map (λ t. (k, Some t)) (argument ts k)

-- the part of a tuple by its number, or the field of a struct by its name
abbrev pub part_selected : List Declared → TypeOf → Selector → Option Part
part_selected all (struct n gs) (selector.Name f) = field_part all gs f.text (struct_numbered all n)
part_selected all (tuple ts) (selector.Number k at) = tuple_part ts (nat_abs k)
part_selected all t s = None

abbrev pub selector_at : Selector → Span
selector_at (selector.Name f) = f.span
selector_at (selector.Number k at) = at

abbrev pub part_typed : typed.PlainExpr → ℕ → Option TypeOf → Option typed.PlainExpr
part_typed e k None = None
part_typed e k (Some t) = Some (typed.part t e k)

abbrev pub judged_part : Env → Span → List Fault → Selector → typed.PlainExpr → Option Part → Judged
judged_part env at faults s e None = unless_asserting env at None (faults ++ fault env.site.file (selector_at s) NoSuchPlace [] ∷ [])
judged_part env at faults s e (Some p) = unless_asserting env at (part_typed e p.0 p.1) faults

abbrev pub judged_field_of : Env → Judged → Selector → Option typed.PlainExpr → Judged
judged_field_of env e s None = unless_asserting env e.at None e.faults
judged_field_of env e s (Some x) = judged_part env e.at e.faults s x (part_selected env.site.all (typed.label_of x) s)

abbrev pub judged_field : Env → Judged → Selector → Judged
judged_field env e s = judged_field_of env e s e.typed

-- a field of `new`, and what it is set to
abbrev pub Init : Type 0
Init = Name × Judged

abbrev pub init_values : List Init → List Judged
init_values is = map (λ i. i.1) is

-- all fields in their order: a fault at the first name that is another, or at `new` where one is missing
abbrev pub misset : Site → Span → Option TypeOf → List Member → List Init → List Fault
misset s at gs [] [] = []
misset s at gs [] (i ∷ is) = fault s.file (i.0).span NoSuchPlace [] ∷ []
misset s at gs (m ∷ ms) [] = fault s.file at NoSuchPlace [] ∷ []
misset s at gs (m ∷ ms) (i ∷ is) =
    if bytes_eq (m.0).text (i.0).text then misfit_if s (under gs m.1) i.1 ++ misset s at gs ms is
    else fault s.file (i.0).span NoSuchPlace [] ∷ []

abbrev pub set_typed : Option TypeOf → List Member → List Init → Option typed.PlainExprs
set_typed gs (m ∷ ms) (i ∷ is) = if bytes_eq (m.0).text (i.0).text then then_expr (fitting_if (under gs m.1) i.1) (set_typed gs ms is) else None
set_typed gs [] [] = Some typed.no_exprs
set_typed gs _ _ = None

abbrev pub made_typed : ℕ → Option TypeOf → Option typed.PlainExprs → Option typed.PlainExpr
made_typed n (Some gs) (Some es) = Some (typed.made (struct n gs) es)
made_typed n _ _ = None

abbrev pub made_of : Env → Span → Struct → Fitted → List Init → Judged
made_of env at x g is =
    unless_asserting env at (made_typed x.number g.of (set_typed g.of (fields env.site.all x) is))
    (g.faults ++ (all_faults (init_values is) ++ misset env.site at g.of (fields env.site.all x) is))

abbrev pub judged_new : Env → Span → Path → List Given → List Init → Option Struct → Judged
judged_new env at p gs is None = unless_asserting env at None (unknown env.site p ∷ (all_given gs ++ all_faults (init_values is)))
judged_new env at p gs is (Some x) = made_of env at x (fitted env.site p (struct_sorts x) gs) is

-- CALLS

-- each argument has the type of its parameter
abbrev pub mispassed : Site → Option TypeOf → List Member → List Judged → List Fault
mispassed s gs (m ∷ ms) (j ∷ js) = misfit_if s (under gs m.1) j ++ mispassed s gs ms js
mispassed s gs _ _ = []

abbrev pub passed : Option TypeOf → List Member → List Judged → Option typed.PlainExprs
passed gs (m ∷ ms) (j ∷ js) = then_expr (fitting_if (under gs m.1) j) (passed gs ms js)
passed gs [] [] = Some typed.no_exprs
passed gs _ _ = None

-- as many arguments as parameters; a path whose generics are wrong in number has no other such fault
abbrev pub miscalled : Site → Path → Bool → ℕ → ℕ → List Fault
miscalled s p false declared found = []
miscalled s p true declared found = if declared == found then [] else miscounted s p declared found ∷ []

abbrev pub call_typed : ℕ → Span → Option TypeOf → Option TypeOf → Option typed.PlainExprs → Option typed.PlainExpr
call_typed n at (Some gs) (Some t) (Some es) = Some (typed.call t n gs es at)
call_typed n at _ _ _ = None

abbrev pub called : Env → Path → Function → Fitted → List Judged → Judged
called env p f g js =
    unless_asserting env p.first.span
    (call_typed f.number p.first.span g.of (under g.of (outcome env.site.all f)) (passed g.of (params env.site.all f) js))
    (g.faults ++ (miscalled env.site p g.counted (length (params env.site.all f)) (length js) ++ (all_faults js ++ mispassed env.site g.of (params env.site.all f) js)))

abbrev pub judged_call : Env → Path → List Given → List Judged → Option Function → Judged
judged_call env p gs js None = unless_asserting env p.first.span None (unknown env.site p ∷ (all_given gs ++ all_faults js))
judged_call env p gs js (Some f) = called env p f (fitted env.site p (function_sorts f) gs) js

-- ALL EXPRESSIONS

abbrev pub turbofish_given : Site → Option plain.PlainTurbofish → List Given
turbofish_given s None = []
turbofish_given s (Some t) = given s t.1

abbrev mutual
  pub judge : Env → plain.PlainExpr → Judged
  judge env (plain.number n at) = record { at = at; typed = Some (typed.int int n); faults = [] }
  judge env (plain.truth at) = record { at = at; typed = Some (typed.truth bool true); faults = [] }
  judge env (plain.untruth at) = record { at = at; typed = Some (typed.truth bool false); faults = [] }
  judge env (plain.paren from ps to) = judged_paren env from (judge_parts env ps)
  judge env (plain.new_struct at p generics from is to) = judged_new env at p (turbofish_given env.site generics) (judge_inits env is) (struct_meant env.site.all env.site.modules p)
  judge env (plain.path p) = judged_path env p (value_named env p)
  judge env (plain.call p generics from ps to) = judged_call env p (turbofish_given env.site generics) (judge_parts env ps) (function_meant env.site.all env.site.modules p)
  judge env (plain.field inner dot s) = judged_field env (judge env inner) s
  judge env (plain.unary_of op at inner) = judged_unary env op at (judge env inner)
  judge env (plain.binary_of left op at right) = judged_binary env op (judge env left) (judge env right)

  pub judge_parts : Env → plain.PlainParts → List Judged
  judge_parts env plain.no_parts = []
  judge_parts env (plain.parts first others) = judge env first ∷ judge_more env others

  pub judge_more : Env → plain.MoreParts → List Judged
  judge_more env plain.last_part = []
  judge_more env (plain.next_part comma e others) = judge env e ∷ judge_more env others

  pub judge_inits : Env → plain.PlainInits → List Init
  judge_inits env plain.no_inits = []
  judge_inits env (plain.inits n colon e others) = (n, judge env e) ∷ judge_more_inits env others

  pub judge_more_inits : Env → plain.MoreInits → List Init
  judge_more_inits env plain.last_init = []
  judge_more_inits env (plain.next_init comma n colon e others) = (n, judge env e) ∷ judge_more_inits env others

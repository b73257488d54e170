-- What stands in a `static_assert` is made of numbers, truths, constants, const generics and operators alone.
use Rattle.std.proofs.Common.{◌≡◌, refl, Bool, true, false, if◌then◌else◌, List, [], ◌∷◌, Option, Some, None, option_map}
use Rattle.lar_source.specs.declared.file.Span.{Span}
use Rattle.type_table.specs.TypeOf.{TypeOf}
use Rattle.lar_typed.specs.Exprs as typed
use Rattle.lar_typed.specs.SameType.{same_type}
use Rattle.lar_typed.specs.LawfulBody.{is_static}
use Rattle.lar_typed.specs.declared.op.BinaryOp.{BinaryOp as TypedBinary}
use Rattle.lar_typed.proofs.SameTypes.{both_true}
use Rattle.lar_tree.specs.declared.name.Path.{Path}
use Rattle.lar_tree.specs.declared.expr.Selector.{Selector}
use Rattle.lar_tree.specs.declared.expr.Unary.{Unary}
use Rattle.lar_tree.specs.Stmts.{IfThere}
use Rattle.lar_tree.specs.Lawful.{Every}
use Rattle.lar_tree.specs.Exprs as plain
use Rattle.lar_rules.specs.Fault.{Fault}
use Rattle.lar_rules.specs.Declared.{Struct, Function, struct_meant, function_meant}
use Rattle.lar_rules.specs.Written.{Site, Given}
use Rattle.lar_rules.specs.Judged.{Local, Env, Judged, fitting_of, fitting, fitting_if}
use Rattle.lar_rules.specs.Exprs.{ValueName, a_local, a_number, a_constant, no_value, value_named, judged_path, typed_unary_op, unary_type, typed_binary_op, operand_type, result_type, both_typed, scalar_of, judged_operands, judged_paren, Part, part_selected, judged_part, judged_field_of, Init, judged_new, judged_call, turbofish_given, judge, judge_parts, judge_more, judge_inits}

-- what holds of an expression holds of it where it has a type
one_keeps : (P : typed.PlainExpr → Type 0) (b : Bool) (e : typed.PlainExpr) → P e
    → IfThere P (if b then Some e else None)
one_keeps P true e h = h
one_keeps P false e h = tt

pub fitting_keeps : (P : typed.PlainExpr → Type 0) (t : TypeOf) (o : Option typed.PlainExpr) → IfThere P o
    → IfThere P (fitting_of t o)
fitting_keeps P t None h = tt
fitting_keeps P t (Some e) h = one_keeps P (same_type (typed.label_of e) t) e h

pub fitting_if_keeps : (P : typed.PlainExpr → Type 0) (o : Option TypeOf) (j : Judged) → IfThere P j.typed
    → IfThere P (fitting_if o j)
fitting_if_keeps P None j h = tt
fitting_if_keeps P (Some t) j h = fitting_keeps P t j.typed h

abbrev Static : typed.PlainExpr → Type 0
Static e = is_static e ≡ true

abbrev pub StaticIf : Option typed.PlainExpr → Type 0
StaticIf o = IfThere Static o

-- where an asserted expression is written
abbrev pub asserted : Site → List Local → Env
asserted s ls = record { site = s; locals = ls; asserting = true }

path_static : (s : Site) (ls : List Local) (p : Path) (v : ValueName) → StaticIf (judged_path (asserted s ls) p v).typed
path_static s ls p (a_local l) = tt
path_static s ls p (a_number k) = refl
path_static s ls p (a_constant n) = refl
path_static s ls p no_value = tt

paren_static : (s : Site) (ls : List Local) (at : Span) (js : List Judged) → Every (λ (j : Judged). StaticIf j.typed) js
    → StaticIf (judged_paren (asserted s ls) at js).typed
paren_static s ls at [] h = tt
paren_static s ls at (j ∷ []) h = h.0
paren_static s ls at (j ∷ k ∷ js) h = tt

new_static : (s : Site) (ls : List Local) (at : Span) (p : Path) (gs : List Given) (is : List Init) (o : Option Struct)
    → StaticIf (judged_new (asserted s ls) at p gs is o).typed
new_static s ls at p gs is None = tt
new_static s ls at p gs is (Some x) = tt

call_static : (s : Site) (ls : List Local) (p : Path) (gs : List Given) (js : List Judged) (o : Option Function)
    → StaticIf (judged_call (asserted s ls) p gs js o).typed
call_static s ls p gs js None = tt
call_static s ls p gs js (Some f) = tt

part_static : (s : Site) (ls : List Local) (at : Span) (fs : List Fault) (x : Selector) (e : typed.PlainExpr)
    (o : Option Part) → StaticIf (judged_part (asserted s ls) at fs x e o).typed
part_static s ls at fs x e None = tt
part_static s ls at fs x e (Some p) = tt

field_static : (s : Site) (ls : List Local) (e : Judged) (x : Selector) (o : Option typed.PlainExpr)
    → StaticIf (judged_field_of (asserted s ls) e x o).typed
field_static s ls e x None = tt
field_static s ls e x (Some y) = part_static s ls e.at e.faults x y (part_selected s.all (typed.label_of y) x)

unary_static : (op : Unary) (o : Option typed.PlainExpr) → StaticIf o
    → StaticIf (option_map (typed.unary (unary_type op) (typed_unary_op op)) o)
unary_static op None h = tt
unary_static op (Some e) h = h

both_static : (t : TypeOf) (op : TypedBinary) (a b : Option typed.PlainExpr) → StaticIf a → StaticIf b
    → StaticIf (both_typed t op a b)
both_static t op None b h k = tt
both_static t op (Some x) None h k = tt
both_static t op (Some x) (Some y) h k = both_true (is_static x) (is_static y) h k

operands_static : (env : Env) (t : TypeOf) (op : TypedBinary) (a b : Judged) (o : Option TypeOf) → StaticIf a.typed
    → StaticIf b.typed → StaticIf (judged_operands env t op a b o).typed
operands_static env t op a b (Some u) h k =
    both_static t op (fitting u a) (fitting u b) (fitting_keeps Static u a.typed h) (fitting_keeps Static u b.typed k)
operands_static env t op a b None h k =
    both_static t op (fitting_if (scalar_of a.typed) a) (fitting_if (scalar_of a.typed) b)
    (fitting_if_keeps Static (scalar_of a.typed) a h) (fitting_if_keeps Static (scalar_of a.typed) b k)

mutual
  pub judge_static : (s : Site) (ls : List Local) (e : plain.PlainExpr) → StaticIf (judge (asserted s ls) e).typed
  judge_static s ls (plain.number v at) = refl
  judge_static s ls (plain.truth at) = refl
  judge_static s ls (plain.untruth at) = refl
  judge_static s ls (plain.paren from ps to) =
      paren_static s ls from (judge_parts (asserted s ls) ps) (parts_static s ls ps)
  judge_static s ls (plain.new_struct at p generics from is to) =
      new_static s ls at p (turbofish_given s generics) (judge_inits (asserted s ls) is)
      (struct_meant s.all s.modules p)
  judge_static s ls (plain.path p) = path_static s ls p (value_named (asserted s ls) p)
  judge_static s ls (plain.call p generics from ps to) =
      call_static s ls p (turbofish_given s generics) (judge_parts (asserted s ls) ps)
      (function_meant s.all s.modules p)
  judge_static s ls (plain.field inner dot x) =
      field_static s ls (judge (asserted s ls) inner) x (judge (asserted s ls) inner).typed
  judge_static s ls (plain.unary_of op at inner) =
      unary_static op (fitting (unary_type op) (judge (asserted s ls) inner))
      (fitting_keeps Static (unary_type op) (judge (asserted s ls) inner).typed (judge_static s ls inner))
  judge_static s ls (plain.binary_of left op at right) =
      operands_static (asserted s ls) (result_type op) (typed_binary_op op) (judge (asserted s ls) left)
      (judge (asserted s ls) right) (operand_type op) (judge_static s ls left) (judge_static s ls right)

  parts_static : (s : Site) (ls : List Local) (ps : plain.PlainParts)
      → Every (λ (j : Judged). StaticIf j.typed) (judge_parts (asserted s ls) ps)
  parts_static s ls plain.no_parts = tt
  parts_static s ls (plain.parts first others) = (judge_static s ls first, more_static s ls others)

  more_static : (s : Site) (ls : List Local) (ps : plain.MoreParts)
      → Every (λ (j : Judged). StaticIf j.typed) (judge_more (asserted s ls) ps)
  more_static s ls plain.last_part = tt
  more_static s ls (plain.next_part comma e others) = (judge_static s ls e, more_static s ls others)

-- An expression with its types has at most as many parts as the one that is written.
use Rattle.std.proofs.Common.{◌≡◌, ℕ, ◌+◌, ◌≤◌, refl, ap, subst as transport, arith, Bool, true, false, if◌then◌else◌, List, [], ◌∷◌, Option, Some, None, option_map, bytes_eq}
use Rattle.lar_source.specs.declared.file.Span.{Span}
use Rattle.type_table.specs.TypeOf.{TypeOf}
use Rattle.lar_typed.specs.Exprs as typed
use Rattle.lar_typed.specs.Size.{expr_size as typed_size, exprs_size}
use Rattle.lar_typed.specs.declared.op.BinaryOp.{BinaryOp as TypedBinary}
use Rattle.lar_tree.specs.declared.name.Path.{Path}
use Rattle.lar_tree.specs.declared.expr.Selector.{Selector}
use Rattle.lar_tree.specs.declared.expr.Unary.{Unary}
use Rattle.lar_tree.specs.Stmts.{IfThere}
use Rattle.lar_tree.specs.Sizes.{expr_size, parts_size, more_parts_size, inits_size, more_inits_size}
use Rattle.lar_tree.specs.Exprs as plain
use Rattle.lar_rules.specs.Fault.{Fault}
use Rattle.lar_rules.specs.Declared.{Struct, Function, struct_meant, function_meant}
use Rattle.lar_rules.specs.Written.{Given, fitted, struct_sorts}
use Rattle.lar_rules.specs.Signatures.{Member, fields, params, outcome, function_sorts}
use Rattle.lar_rules.specs.Judged.{Local, Env, Judged, fitting_of, fitting, fitting_if, then_expr, all_typed, under, judged_if}
use Rattle.lar_rules.specs.Exprs.{ValueName, a_local, a_number, a_constant, no_value, value_named, local_typed, judged_local, judged_path, typed_unary_op, unary_type, typed_binary_op, operand_type, result_type, both_typed, scalar_of, judged_operands, tuple_typed, judged_tuple, judged_paren, Part, part_selected, part_typed, judged_part, judged_field_of, Init, set_typed, made_typed, judged_new, passed, call_typed, judged_call, turbofish_given, judge, judge_parts, judge_more, judge_inits, judge_more_inits}
use Rattle.lar_sound.proofs.ExprsStatic.{fitting_keeps, fitting_if_keeps}

abbrev pub SmallIf : ℕ → Option typed.PlainExpr → Type 0
SmallIf n o = IfThere (λ (e : typed.PlainExpr). typed_size e ≤ n) o

abbrev ListSmallIf : ℕ → Option typed.PlainExprs → Type 0
ListSmallIf n o = IfThere (λ (es : typed.PlainExprs). exprs_size es ≤ n) o

abbrev total : List ℕ → ℕ
total [] = 0
total (n ∷ ns) = n + total ns

-- each is at most so large
abbrev AllSmall : List ℕ → List Judged → Type 0
AllSmall [] [] = Unit {0}
AllSmall (n ∷ ns) (j ∷ js) = SmallIf n j.typed × AllSmall ns js
AllSmall _ _ = ⊥

abbrev InitsSmall : List ℕ → List Init → Type 0
InitsSmall [] [] = Unit {0}
InitsSmall (n ∷ ns) (i ∷ is) = SmallIf n (i.1).typed × InitsSmall ns is
InitsSmall _ _ = ⊥

pub fitting_small : (n : ℕ) (t : TypeOf) (o : Option typed.PlainExpr) → SmallIf n o → SmallIf n (fitting_of t o)
fitting_small n t o h = fitting_keeps (λ (e : typed.PlainExpr). typed_size e ≤ n) t o h

pub fitting_if_small : (n : ℕ) (o : Option TypeOf) (j : Judged) → SmallIf n j.typed → SmallIf n (fitting_if o j)
fitting_if_small n o j h = fitting_if_keeps (λ (e : typed.PlainExpr). typed_size e ≤ n) o j h

wider : (n m : ℕ) (o : Option typed.PlainExpr) → n ≤ m → SmallIf n o → SmallIf m o
wider n m None l h = tt
wider n m (Some e) l h = (let k : typed_size e ≤ n = h in omega arith)

if_small : (n : ℕ) (b : Bool) (at : Span) (e : Option typed.PlainExpr) (fs rs : List Fault) → SmallIf n e
    → SmallIf n (judged_if b at e fs rs).typed
if_small n true at e fs rs h = tt
if_small n false at e fs rs h = h

local_small : (l : Local) (o : Option TypeOf) → SmallIf 1 (local_typed l o)
local_small l None = tt
local_small l (Some t) = omega arith

meant_small : (env : Env) (p : Path) (l : Local) (b : Bool) → SmallIf 1 (judged_local env p l b).typed
meant_small env p l true = tt
meant_small env p l false = local_small l l.of

path_small : (env : Env) (p : Path) (v : ValueName) → SmallIf 1 (judged_path env p v).typed
path_small env p (a_local l) = meant_small env p l env.asserting
path_small env p (a_number k) = omega arith
path_small env p (a_constant n) = omega arith
path_small env p no_value = tt

unary_small : (n : ℕ) (op : Unary) (o : Option typed.PlainExpr) → SmallIf n o
    → SmallIf (1 + n) (option_map (typed.unary (unary_type op) (typed_unary_op op)) o)
unary_small n op None h = tt
unary_small n op (Some e) h = (let k : typed_size e ≤ n = h in omega arith)

both_small : (n m : ℕ) (t : TypeOf) (op : TypedBinary) (a b : Option typed.PlainExpr) → SmallIf n a → SmallIf m b
    → SmallIf (1 + n + m) (both_typed t op a b)
both_small n m t op None b h k = tt
both_small n m t op (Some x) None h k = tt
both_small n m t op (Some x) (Some y) h k = (let p : typed_size x ≤ n = h in let q : typed_size y ≤ m = k in
    omega arith)

operands_small : (n m : ℕ) (env : Env) (t : TypeOf) (op : TypedBinary) (a b : Judged) (o : Option TypeOf)
    → SmallIf n a.typed → SmallIf m b.typed → SmallIf (1 + n + m) (judged_operands env t op a b o).typed
operands_small n m env t op a b (Some u) h k =
    both_small n m t op (fitting u a) (fitting u b) (fitting_small n u a.typed h) (fitting_small m u b.typed k)
operands_small n m env t op a b None h k =
    both_small n m t op (fitting_if (scalar_of a.typed) a) (fitting_if (scalar_of a.typed) b)
    (fitting_if_small n (scalar_of a.typed) a h) (fitting_if_small m (scalar_of a.typed) b k)

then_small : (n m : ℕ) (a : Option typed.PlainExpr) (b : Option typed.PlainExprs) → SmallIf n a → ListSmallIf m b
    → ListSmallIf (n + m) (then_expr a b)
then_small n m None b h k = tt
then_small n m (Some e) None h k = tt
then_small n m (Some e) (Some es) h k = (let p : typed_size e ≤ n = h in let q : exprs_size es ≤ m = k in omega arith)

all_small : (ns : List ℕ) (js : List Judged) → AllSmall ns js → ListSmallIf (total ns) (all_typed js)
all_small [] [] h = omega arith
all_small [] (j ∷ js) h = absurd h
all_small (n ∷ ns) [] h = absurd h
all_small (n ∷ ns) (j ∷ js) h = then_small n (total ns) j.typed (all_typed js) h.0 (all_small ns js h.1)

tuple_of_small : (n : ℕ) (o : Option typed.PlainExprs) → ListSmallIf n o → SmallIf (1 + n) (option_map tuple_typed o)
tuple_of_small n None h = tt
tuple_of_small n (Some es) h = (let k : exprs_size es ≤ n = h in omega arith)

tuple_small : (ns : List ℕ) (env : Env) (at : Span) (js : List Judged) → AllSmall ns js
    → SmallIf (1 + total ns) (judged_tuple env at js).typed
tuple_small ns env at js h = if_small (1 + total ns) env.asserting at (option_map tuple_typed (all_typed js)) _ _
    (tuple_of_small (total ns) (all_typed js) (all_small ns js h))

paren_small : (ns : List ℕ) (env : Env) (at : Span) (js : List Judged) → AllSmall ns js
    → SmallIf (1 + total ns) (judged_paren env at js).typed
paren_small ns env at [] h = tuple_small ns env at [] h
paren_small [] env at (j ∷ []) h = absurd h
paren_small (n ∷ []) env at (j ∷ []) h = wider n (1 + (n + 0)) j.typed (omega arith) h.0
paren_small (n ∷ m ∷ ns) env at (j ∷ []) h = absurd h.1
paren_small ns env at (j ∷ k ∷ js) h = tuple_small ns env at (j ∷ k ∷ js) h

part_of_small : (n : ℕ) (e : typed.PlainExpr) (k : ℕ) (o : Option TypeOf) → typed_size e ≤ n
    → SmallIf (1 + n) (part_typed e k o)
part_of_small n e k None h = tt
part_of_small n e k (Some t) h = omega arith

part_small : (n : ℕ) (env : Env) (at : Span) (fs : List Fault) (s : Selector) (e : typed.PlainExpr) (o : Option Part)
    → typed_size e ≤ n → SmallIf (1 + n) (judged_part env at fs s e o).typed
part_small n env at fs s e None h = if_small (1 + n) env.asserting at None _ _ tt
part_small n env at fs s e (Some p) h =
    if_small (1 + n) env.asserting at (part_typed e p.0 p.1) fs _ (part_of_small n e p.0 p.1 h)

field_small : (n : ℕ) (env : Env) (e : Judged) (s : Selector) (o : Option typed.PlainExpr) → SmallIf n o
    → SmallIf (1 + n) (judged_field_of env e s o).typed
field_small n env e s None h = if_small (1 + n) env.asserting e.at None e.faults _ tt
field_small n env e s (Some x) h =
    part_small n env e.at e.faults s x (part_selected env.site.all (typed.label_of x) s) h

if_set : (n : ℕ) (b : Bool) (o : Option typed.PlainExprs) → ListSmallIf n o → ListSmallIf n (if b then o else None)
if_set n true o h = h
if_set n false o h = tt

set_small : (ns : List ℕ) (gs : Option TypeOf) (ms : List Member) (is : List Init) → InitsSmall ns is
    → ListSmallIf (total ns) (set_typed gs ms is)
set_small [] gs [] [] h = omega arith
set_small (n ∷ ns) gs [] [] h = absurd h
set_small ns gs [] (i ∷ is) h = tt
set_small ns gs (m ∷ ms) [] h = tt
set_small [] gs (m ∷ ms) (i ∷ is) h = absurd h
set_small (n ∷ ns) gs (m ∷ ms) (i ∷ is) h =
    if_set (n + total ns) (bytes_eq (m.0).text (i.0).text)
    (then_expr (fitting_if (under gs m.1) i.1) (set_typed gs ms is))
    (then_small n (total ns) (fitting_if (under gs m.1) i.1) (set_typed gs ms is)
    (fitting_if_small n (under gs m.1) i.1 h.0) (set_small ns gs ms is h.1))

made_small : (n : ℕ) (k : ℕ) (gs : Option TypeOf) (o : Option typed.PlainExprs) → ListSmallIf n o
    → SmallIf (1 + n) (made_typed k gs o)
made_small n k None o h = tt
made_small n k (Some g) None h = tt
made_small n k (Some g) (Some es) h = (let q : exprs_size es ≤ n = h in omega arith)

new_small : (ns : List ℕ) (env : Env) (at : Span) (p : Path) (gs : List Given) (is : List Init) (o : Option Struct)
    → InitsSmall ns is → SmallIf (1 + total ns) (judged_new env at p gs is o).typed
new_small ns env at p gs is None h = if_small (1 + total ns) env.asserting at None _ _ tt
new_small ns env at p gs is (Some x) h =
    let g = (fitted env.site p (struct_sorts x) gs).of in
    if_small (1 + total ns) env.asserting at (made_typed x.number g (set_typed g (fields env.site.all x) is)) _ _
    (made_small (total ns) x.number g (set_typed g (fields env.site.all x) is)
    (set_small ns g (fields env.site.all x) is h))

passed_small : (ns : List ℕ) (gs : Option TypeOf) (ms : List Member) (js : List Judged) → AllSmall ns js
    → ListSmallIf (total ns) (passed gs ms js)
passed_small [] gs [] [] h = omega arith
passed_small (n ∷ ns) gs [] [] h = absurd h
passed_small ns gs [] (j ∷ js) h = tt
passed_small ns gs (m ∷ ms) [] h = tt
passed_small [] gs (m ∷ ms) (j ∷ js) h = absurd h
passed_small (n ∷ ns) gs (m ∷ ms) (j ∷ js) h =
    then_small n (total ns) (fitting_if (under gs m.1) j) (passed gs ms js) (fitting_if_small n (under gs m.1) j h.0)
    (passed_small ns gs ms js h.1)

call_one : (n : ℕ) (k : ℕ) (at : Span) (a b : Option TypeOf) (o : Option typed.PlainExprs) → ListSmallIf n o
    → SmallIf (1 + n) (call_typed k at a b o)
call_one n k at None b o h = tt
call_one n k at (Some x) None o h = tt
call_one n k at (Some x) (Some y) None h = tt
call_one n k at (Some x) (Some y) (Some es) h = (let q : exprs_size es ≤ n = h in omega arith)

call_small : (ns : List ℕ) (env : Env) (p : Path) (gs : List Given) (js : List Judged) (o : Option Function)
    → AllSmall ns js → SmallIf (1 + total ns) (judged_call env p gs js o).typed
call_small ns env p gs js None h = if_small (1 + total ns) env.asserting p.first.span None _ _ tt
call_small ns env p gs js (Some f) h =
    let g = (fitted env.site p (function_sorts f) gs).of in
    if_small (1 + total ns) env.asserting p.first.span _ _ _
    (call_one (total ns) f.number p.first.span g (under g (outcome env.site.all f))
    (passed g (params env.site.all f) js) (passed_small ns g (params env.site.all f) js h))

-- the sizes of the parts that are written
abbrev more_sizes : plain.MoreParts → List ℕ
more_sizes plain.last_part = []
more_sizes (plain.next_part comma e others) = expr_size e ∷ more_sizes others

abbrev part_sizes : plain.PlainParts → List ℕ
part_sizes plain.no_parts = []
part_sizes (plain.parts first others) = expr_size first ∷ more_sizes others

abbrev more_init_sizes : plain.MoreInits → List ℕ
more_init_sizes plain.last_init = []
more_init_sizes (plain.next_init comma n colon e others) = expr_size e ∷ more_init_sizes others

abbrev init_sizes : plain.PlainInits → List ℕ
init_sizes plain.no_inits = []
init_sizes (plain.inits n colon e others) = expr_size e ∷ more_init_sizes others

more_total : (ps : plain.MoreParts) → total (more_sizes ps) ≡ more_parts_size ps
more_total plain.last_part = refl
more_total (plain.next_part comma e others) = ap (λ (n : ℕ). expr_size e + n) (more_total others)

parts_total : (ps : plain.PlainParts) → total (part_sizes ps) ≡ parts_size ps
parts_total plain.no_parts = refl
parts_total (plain.parts first others) = ap (λ (n : ℕ). expr_size first + n) (more_total others)

more_inits_total : (is : plain.MoreInits) → total (more_init_sizes is) ≡ more_inits_size is
more_inits_total plain.last_init = refl
more_inits_total (plain.next_init comma n colon e others) = ap (λ (k : ℕ). expr_size e + k) (more_inits_total others)

inits_total : (is : plain.PlainInits) → total (init_sizes is) ≡ inits_size is
inits_total plain.no_inits = refl
inits_total (plain.inits n colon e others) = ap (λ (k : ℕ). expr_size e + k) (more_inits_total others)

mutual
  pub judge_small : (env : Env) (e : plain.PlainExpr) → SmallIf (expr_size e) (judge env e).typed
  judge_small env (plain.number v at) = omega arith
  judge_small env (plain.truth at) = omega arith
  judge_small env (plain.untruth at) = omega arith
  judge_small env (plain.paren from ps to) =
      transport (λ (n : ℕ). SmallIf (1 + n) (judged_paren env from (judge_parts env ps)).typed) (parts_total ps)
      (paren_small (part_sizes ps) env from (judge_parts env ps) (parts_small env ps))
  judge_small env (plain.new_struct at p generics from is to) =
      transport (λ (n : ℕ). SmallIf (1 + n) (judge env (plain.new_struct at p generics from is to)).typed)
      (inits_total is)
      (new_small (init_sizes is) env at p (turbofish_given env.site generics) (judge_inits env is)
      (struct_meant env.site.all env.site.modules p) (inits_small env is))
  judge_small env (plain.path p) = path_small env p (value_named env p)
  judge_small env (plain.call p generics from ps to) =
      transport (λ (n : ℕ). SmallIf (1 + n) (judge env (plain.call p generics from ps to)).typed) (parts_total ps)
      (call_small (part_sizes ps) env p (turbofish_given env.site generics) (judge_parts env ps)
      (function_meant env.site.all env.site.modules p) (parts_small env ps))
  judge_small env (plain.field inner dot s) =
      field_small (expr_size inner) env (judge env inner) s (judge env inner).typed (judge_small env inner)
  judge_small env (plain.unary_of op at inner) =
      unary_small (expr_size inner) op (fitting (unary_type op) (judge env inner))
      (fitting_small (expr_size inner) (unary_type op) (judge env inner).typed (judge_small env inner))
  judge_small env (plain.binary_of left op at right) =
      operands_small (expr_size left) (expr_size right) env (result_type op) (typed_binary_op op) (judge env left)
      (judge env right) (operand_type op) (judge_small env left) (judge_small env right)

  parts_small : (env : Env) (ps : plain.PlainParts) → AllSmall (part_sizes ps) (judge_parts env ps)
  parts_small env plain.no_parts = tt
  parts_small env (plain.parts first others) = (judge_small env first, more_small env others)

  more_small : (env : Env) (ps : plain.MoreParts) → AllSmall (more_sizes ps) (judge_more env ps)
  more_small env plain.last_part = tt
  more_small env (plain.next_part comma e others) = (judge_small env e, more_small env others)

  inits_small : (env : Env) (is : plain.PlainInits) → InitsSmall (init_sizes is) (judge_inits env is)
  inits_small env plain.no_inits = tt
  inits_small env (plain.inits n colon e others) = (judge_small env e, more_inits_small env others)

  more_inits_small : (env : Env) (is : plain.MoreInits) → InitsSmall (more_init_sizes is) (judge_more_inits env is)
  more_inits_small env plain.last_init = tt
  more_inits_small env (plain.next_init comma n colon e others) = (judge_small env e, more_inits_small env others)

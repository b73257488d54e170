-- An expression without a fault is known, where all names are.
use Rattle.std.proofs.Common.{◌≡◌, ℕ, suc, refl, sym, arith, subst as transport, eqb, eqb-true, Bool, true, false, if◌then◌else◌, List, [], ◌∷◌, ◌++◌, length, Option, Some, None, option_map, bytes_eq, nat_abs, true≢false}
use Rattle.lar_source.specs.declared.file.Span.{Span}
use Rattle.type_table.specs.TypeOf.{TypeOf, int, tuple, struct}
use Rattle.type_table.specs.Substitution.{argument}
use Rattle.lar_typed.specs.Exprs as typed
use Rattle.lar_typed.specs.SameType.{same_type}
use Rattle.lar_typed.specs.Lawful.{is_scalar}
use Rattle.lar_typed.specs.declared.op.BinaryOp.{BinaryOp as TypedBinary}
use Rattle.lar_typed.proofs.SameTypes.{same_self}
use Rattle.lar_tree.specs.declared.name.Path.{Path}
use Rattle.lar_tree.specs.declared.expr.Selector.{Selector}
use Rattle.lar_tree.specs.declared.expr.Selector.TheVariants as selector
use Rattle.lar_tree.specs.Stmts.{IfThere}
use Rattle.lar_tree.specs.Lawful.{Every}
use Rattle.lar_tree.specs.Exprs as plain
use Rattle.lar_rules.specs.Fault.{Fault}
use Rattle.lar_rules.specs.Declared.{Declared, Struct, Function, struct_meant, const_meant, function_meant, texts_of}
use Rattle.lar_rules.specs.Written.{Site, Given, Fitted, fitted, number_generic, struct_sorts}
use Rattle.lar_rules.specs.Signatures.{Member, fields, params, outcome, function_sorts, struct_numbered}
use Rattle.lar_rules.specs.Judged.{Local, Env, Judged, misfit_of, misfit, fitting_of, fitting, misfit_if, fitting_if, other_type, all_faults, then_expr, all_typed, under, judged_if, unless_asserting}
use Rattle.lar_rules.specs.Exprs.{ValueName, a_local, a_number, a_constant, no_value, value_named, local_typed, judged_local, judged_path, typed_unary_op, unary_type, typed_binary_op, operand_type, result_type, both_typed, scalar_of, not_scalar_of, judged_operands, tuple_typed, judged_tuple, judged_paren, member_from, member_named, Part, field_part, part_selected, part_typed, judged_part, judged_field_of, Init, init_values, misset, set_typed, made_typed, made_of, judged_new, mispassed, passed, miscalled, call_typed, called, judged_call, turbofish_given, judge, judge_parts, judge_more, judge_inits, judge_more_inits}
use Rattle.lar_sound.specs.Known.{IsKnown, IsFaultless, IsTold}
use Rattle.lar_sound.specs.KnownNames.{IsMemberKnown, IsLocalKnown, AreFieldsKnown, IsSignatureKnown, AreItemsKnown, AreNamesKnown}
use Rattle.lar_sound.proofs.FittedBy.{fitted_holds}
use Rattle.lar_sound.proofs.Known.{faultless_parts, known_map, fit_told, told_true}
use Rattle.lar_sound.proofs.ItemsMeant.{struct_meant_holds, function_meant_holds, struct_numbered_holds}
use Rattle.lar_sound.proofs.ValuesMeant.{ValueHolds, value_holds}
use Rattle.lar_sound.proofs.WrittenTold.{GivenTold, fitted_told, given_told}

abbrev pub JudgedTold : Judged → Type 0
JudgedTold j = IsTold j.typed j.faults

-- WHAT HAS A TYPE

pub misfit_told : (s : Site) (t : TypeOf) (at : Span) (o : Option typed.PlainExpr) → IsKnown o
    → IsFaultless (misfit_of s t at o) → IsKnown (fitting_of t o)
misfit_told s t at None k h = absurd k
misfit_told s t at (Some e) k h = fit_told (same_type (typed.label_of e) t) (other_type s at t (typed.label_of e)) e h

pub misfit_if_told : (s : Site) (o : Option TypeOf) (j : Judged) → IsKnown o → IsKnown j.typed
    → IsFaultless (misfit_if s o j) → IsKnown (fitting_if o j)
misfit_if_told s None j k h f = absurd k
misfit_if_told s (Some t) j k h f = misfit_told s t j.at j.typed h f

pub then_expr_known : (a : Option typed.PlainExpr) (b : Option typed.PlainExprs) → IsKnown a → IsKnown b
    → IsKnown (then_expr a b)
then_expr_known None b h k = absurd h
then_expr_known (Some x) None h k = absurd k
then_expr_known (Some x) (Some y) h k = tt

under_known : (a b : Option TypeOf) → IsKnown a → IsKnown b → IsKnown (under a b)
under_known None b h k = absurd h
under_known (Some x) None h k = absurd k
under_known (Some x) (Some y) h k = tt

all_told : (js : List Judged) → Every JudgedTold js → IsTold (all_typed js) (all_faults js)
all_told [] t h = tt
all_told (j ∷ js) t h =
    let p = faultless_parts j.faults (all_faults js) h in
    then_expr_known j.typed (all_typed js) (t.0 p.0) (all_told js t.1 p.1)

all_known : (js : List Judged) → Every JudgedTold js → IsFaultless (all_faults js)
    → Every (λ (j : Judged). IsKnown j.typed) js
all_known [] t h = tt
all_known (j ∷ js) t h = let p = faultless_parts j.faults (all_faults js) h in (t.0 p.0, all_known js t.1 p.1)

if_told : (b : Bool) (at : Span) (e : Option typed.PlainExpr) (faults : List Fault) (f : Fault) → IsTold e faults
    → JudgedTold (judged_if b at e faults (f ∷ []))
if_told true at e faults f t h = absurd ((faultless_parts faults (f ∷ []) h).1)
if_told false at e faults f t h = t h

unless_told : (env : Env) (at : Span) (e : Option typed.PlainExpr) (faults : List Fault) → IsTold e faults
    → JudgedTold (unless_asserting env at e faults)
unless_told env at e faults t = if_told env.asserting at e faults _ t

-- PATHS

local_told : (env : Env) (p : Path) (l : Local) (b : Bool) → IsLocalKnown l → JudgedTold (judged_local env p l b)
local_told env p l true k h = absurd h
local_told env p l false k h = by l.of k
  where
    by : (o : Option TypeOf) → IsKnown o → IsKnown (local_typed l o)
    by None k = absurd k
    by (Some t) k = tt

path_told : (env : Env) (p : Path) (v : ValueName)
    → ValueHolds IsLocalKnown (λ (n : ℕ). Unit {0}) (λ (n : ℕ). Unit {0}) v → JudgedTold (judged_path env p v)
path_told env p (a_local l) k h = local_told env p l env.asserting k h
path_told env p (a_number n) k h = tt
path_told env p (a_constant n) k h = tt
path_told env p no_value k h = absurd h

there_anyway : (o : Option ℕ) → IfThere (λ (n : ℕ). Unit {0}) o
there_anyway None = tt
there_anyway (Some n) = tt

-- OPERATORS

both_known : (t : TypeOf) (op : TypedBinary) (a b : Option typed.PlainExpr) → IsKnown a → IsKnown b
    → IsKnown (both_typed t op a b)
both_known t op None b h k = absurd h
both_known t op (Some x) None h k = absurd k
both_known t op (Some x) (Some y) h k = tt

scalar_told : (s : Site) (at : Span) (o : Option typed.PlainExpr) → IsKnown o → IsFaultless (not_scalar_of s at o)
    → IsKnown (scalar_of o)
scalar_told s at None k h = absurd k
scalar_told s at (Some e) k h = fit_told (is_scalar (typed.label_of e)) (other_type s at int (typed.label_of e))
    (typed.label_of e) h

-- what is a scalar has its own type
self_known : (b : Bool) (e : typed.PlainExpr) → b ≡ true → IsKnown (if b then Some e else None)
self_known true e h = tt
self_known false e h = absurd (true≢false (sym h))

self_fits : (at : Span) (fs : List Fault) (x : Option typed.PlainExpr) → IsKnown (scalar_of x)
    → IsKnown (fitting_if (scalar_of x) (record { at = at; typed = x; faults = fs }))
self_fits at fs None k = absurd k
self_fits at fs (Some e) k = by (is_scalar (typed.label_of e)) k
  where
    by : (b : Bool) → IsKnown (if b then Some (typed.label_of e) else None)
        → IsKnown
        (fitting_if (if b then Some (typed.label_of e) else None) (record { at = at; typed = Some e; faults = fs }))
    by true h = self_known (same_type (typed.label_of e) (typed.label_of e)) e (same_self (typed.label_of e))
    by false h = absurd h

operands_told : (env : Env) (t : TypeOf) (op : TypedBinary) (a b : Judged) (o : Option TypeOf) → JudgedTold a
    → JudgedTold b → JudgedTold (judged_operands env t op a b o)
operands_told env t op a b (Some o) ta tb h =
    let p = faultless_parts a.faults (b.faults ++ (misfit env.site o a ++ misfit env.site o b)) h in
    let q = faultless_parts b.faults (misfit env.site o a ++ misfit env.site o b) p.1 in
    let r = faultless_parts (misfit env.site o a) (misfit env.site o b) q.1 in
    both_known t op (fitting o a) (fitting o b) (misfit_told env.site o a.at a.typed (ta p.0) r.0)
    (misfit_told env.site o b.at b.typed (tb q.0) r.1)
operands_told env t op a b None ta tb h =
    let p = faultless_parts a.faults
    (b.faults ++ (not_scalar_of env.site a.at a.typed ++ misfit_if env.site (scalar_of a.typed) b)) h in
    let q = faultless_parts b.faults (not_scalar_of env.site a.at a.typed ++ misfit_if env.site (scalar_of a.typed) b)
    p.1 in
    let r = faultless_parts (not_scalar_of env.site a.at a.typed) (misfit_if env.site (scalar_of a.typed) b) q.1 in
    let k = scalar_told env.site a.at a.typed (ta p.0) r.0 in
    both_known t op (fitting_if (scalar_of a.typed) a) (fitting_if (scalar_of a.typed) b)
    (self_fits a.at a.faults a.typed k) (misfit_if_told env.site (scalar_of a.typed) b k (tb q.0) r.1)

-- TUPLES, FIELDS, STRUCTS

tuple_told : (env : Env) (at : Span) (js : List Judged) → Every JudgedTold js → JudgedTold (judged_tuple env at js)
tuple_told env at js t =
    unless_told env at (option_map tuple_typed (all_typed js)) (all_faults js)
    (λ h. known_map tuple_typed (all_typed js) (all_told js t h))

paren_told : (env : Env) (at : Span) (js : List Judged) → Every JudgedTold js → JudgedTold (judged_paren env at js)
paren_told env at [] t = tuple_told env at [] t
paren_told env at (j ∷ []) t = t.0
paren_told env at (j ∷ k ∷ js) t = tuple_told env at (j ∷ k ∷ js) t

abbrev PartKnown : Part → Type 0
PartKnown p = IsKnown p.1

one_member : (b : Bool) (k : ℕ) (m : Member) (o : Option Part) → IsMemberKnown m → IfThere PartKnown o
    → IfThere PartKnown (if b then Some (k, m.1) else o)
one_member true k m o h r = h
one_member false k m o h r = r

member_known : (k : ℕ) (name : List ℕ) (ms : List Member) → Every IsMemberKnown ms
    → IfThere PartKnown (member_from k name ms)
member_known k name [] h = tt
member_known k name (m ∷ ms) h =
    one_member (bytes_eq (m.0).text name) k m (member_from (suc k) name ms) h.0 (member_known (suc k) name ms h.1)

under_part : (gs : TypeOf) (o : Option Part) → IfThere PartKnown o
    → IfThere PartKnown (option_map (λ m. (m.0, under (Some gs) m.1)) o)
under_part gs None h = tt
under_part gs (Some m) h = under_known (Some gs) m.1 tt h

field_known : (all : List Declared) (gs : TypeOf) (name : List ℕ) (o : Option Struct) (n : ℕ)
    → IfThere (λ (x : Struct). AreFieldsKnown all x × (x.number ≡ n)) o → IfThere PartKnown (field_part all gs name o)
field_known all gs name None n h = tt
field_known all gs name (Some x) n h =
    under_part gs (member_named name (fields all x)) (member_known 0 name (fields all x) h.0)

argument_known : (k : ℕ) (o : Option TypeOf) → IfThere PartKnown (option_map (λ t. (k, Some t)) o)
argument_known k None = tt
argument_known k (Some t) = tt

selected_known : (all : List Declared) (t : TypeOf) (s : Selector) → AreItemsKnown all
    → IfThere PartKnown (part_selected all t s)
selected_known all (struct n gs) (selector.Name f) h =
    field_known all gs f.text (struct_numbered all n) n
    (struct_numbered_holds (AreFieldsKnown all) (IsSignatureKnown all) (λ (n : ℕ). Unit {0}) all n h)
selected_known all (tuple ts) (selector.Number k at) h = argument_known (nat_abs k) (argument ts (nat_abs k))
selected_known all _ _ h = tt

part_known : (e : typed.PlainExpr) (k : ℕ) (o : Option TypeOf) → IsKnown o → IsKnown (part_typed e k o)
part_known e k None h = absurd h
part_known e k (Some t) h = tt

part_told : (env : Env) (at : Span) (faults : List Fault) (s : Selector) (e : typed.PlainExpr) (o : Option Part)
    → IfThere PartKnown o → JudgedTold (judged_part env at faults s e o)
part_told env at faults s e None k = unless_told env at None _ (λ h. absurd ((faultless_parts faults _ h).1))
part_told env at faults s e (Some p) k = unless_told env at (part_typed e p.0 p.1) faults (λ h. part_known e p.0 p.1 k)

field_told : (env : Env) (e : Judged) (s : Selector) (o : Option typed.PlainExpr) → AreItemsKnown env.site.all
    → IsTold o e.faults → JudgedTold (judged_field_of env e s o)
field_told env e s None items t = unless_told env e.at None e.faults t
field_told env e s (Some x) items t = part_told env e.at e.faults s x (part_selected env.site.all (typed.label_of x) s)
    (selected_known env.site.all (typed.label_of x) s items)

abbrev InitTold : Init → Type 0
InitTold i = JudgedTold i.1

set_step : (s : Site) (b : Bool) (f : Fault) (o : Option TypeOf) (j : Judged) (fs : List Fault)
    (es : Option typed.PlainExprs) → IsKnown o → IsKnown j.typed → (IsFaultless fs → IsKnown es)
    → IsFaultless (if b then misfit_if s o j ++ fs else f ∷ [])
    → IsKnown (if b then then_expr (fitting_if o j) es else None)
set_step s true f o j fs es k h rest n =
    let p = faultless_parts (misfit_if s o j) fs n in
    then_expr_known (fitting_if o j) es (misfit_if_told s o j k h p.0) (rest p.1)
set_step s false f o j fs es k h rest n = absurd n

set_told : (s : Site) (at : Span) (gs : Option TypeOf) (ms : List Member) (is : List Init) → IsKnown gs
    → Every IsMemberKnown ms → Every InitTold is → IsFaultless (all_faults (init_values is))
    → IsFaultless (misset s at gs ms is) → IsKnown (set_typed gs ms is)
set_told s at gs [] [] k mk t h m = tt
set_told s at gs [] (i ∷ is) k mk t h m = absurd m
set_told s at gs (m ∷ ms) [] k mk t h f = absurd f
set_told s at gs (m ∷ ms) (i ∷ is) k mk t h f =
    let p = faultless_parts (i.1).faults (all_faults (init_values is)) h in
    set_step s (bytes_eq (m.0).text (i.0).text) _ (under gs m.1) i.1 (misset s at gs ms is) (set_typed gs ms is)
    (under_known gs m.1 k mk.0) (t.0 p.0) (λ r. set_told s at gs ms is k mk.1 t.1 p.1 r) f

made_known : (n : ℕ) (a : Option TypeOf) (b : Option typed.PlainExprs) → IsKnown a → IsKnown b
    → IsKnown (made_typed n a b)
made_known n None b h k = absurd h
made_known n (Some x) None h k = absurd k
made_known n (Some x) (Some y) h k = tt

made_told : (env : Env) (at : Span) (x : Struct) (g : Fitted) (is : List Init) → AreFieldsKnown env.site.all x
    → IsTold g.of g.faults → Every InitTold is → JudgedTold (made_of env at x g is)
made_told env at x g is mk tg t =
    unless_told env at (made_typed x.number g.of (set_typed g.of (fields env.site.all x) is)) _ (λ h.
    let p = faultless_parts g.faults (all_faults (init_values is) ++ misset env.site at g.of (fields env.site.all x) is)
    h in
    let q = faultless_parts (all_faults (init_values is)) (misset env.site at g.of (fields env.site.all x) is) p.1 in
    made_known x.number g.of (set_typed g.of (fields env.site.all x) is) (tg p.0)
    (set_told env.site at g.of (fields env.site.all x) is (tg p.0) mk t q.0 q.1))

new_told : (env : Env) (at : Span) (p : Path) (gs : List Given) (is : List Init) (o : Option Struct)
    → IfThere (AreFieldsKnown env.site.all) o → Every GivenTold gs → Every InitTold is
    → JudgedTold (judged_new env at p gs is o)
new_told env at p gs is None k tg t = unless_told env at None _ (λ h. absurd h)
new_told env at p gs is (Some x) k tg t =
    made_told env at x (fitted env.site p (struct_sorts x) gs) is k
    (λ h. fitted_told env.site p (struct_sorts x) gs tg h) t

-- CALLS

passed_told : (s : Site) (gs : Option TypeOf) (ms : List Member) (js : List Judged) → length ms ≡ length js → IsKnown gs
    → Every IsMemberKnown ms → Every (λ (j : Judged). IsKnown j.typed) js → IsFaultless (mispassed s gs ms js)
    → IsKnown (passed gs ms js)
passed_told s gs [] [] e k mk t m = tt
passed_told s gs [] (j ∷ js) e k mk t m = absurd (omega (arith, e))
passed_told s gs (m ∷ ms) [] e k mk t f = absurd (omega (arith, e))
passed_told s gs (m ∷ ms) (j ∷ js) e k mk t f =
    let p = faultless_parts (misfit_if s (under gs m.1) j) (mispassed s gs ms js) f in
    then_expr_known (fitting_if (under gs m.1) j) (passed gs ms js)
    (misfit_if_told s (under gs m.1) j (under_known gs m.1 k mk.0) t.0 p.0)
    (passed_told s gs ms js (omega (arith, e)) k mk.1 t.1 p.1)

call_known : (n : ℕ) (at : Span) (a b : Option TypeOf) (es : Option typed.PlainExprs) → IsKnown a → IsKnown b
    → IsKnown es → IsKnown (call_typed n at a b es)
call_known n at None b es h k r = absurd h
call_known n at (Some x) None es h k r = absurd k
call_known n at (Some x) (Some y) None h k r = absurd r
call_known n at (Some x) (Some y) (Some z) h k r = tt

-- a path whose generics were counted has as many arguments as parameters
counted_same : (s : Site) (p : Path) (m n : ℕ) → IsFaultless (miscalled s p true m n) → m ≡ n
counted_same s p m n h = eqb-true m n (told_true (eqb m n) _ h)

called_told : (env : Env) (p : Path) (f : Function) (g : Fitted) (js : List Judged) → IsSignatureKnown env.site.all f
    → (IsKnown g.of → g.counted ≡ true) → IsTold g.of g.faults → Every JudgedTold js → JudgedTold (called env p f g js)
called_told env p f g js sk c tg t = unless_told env p.first.span _ _ (λ h.
    let q = faultless_parts g.faults _ h in
    let r = faultless_parts (miscalled env.site p g.counted (length (params env.site.all f)) (length js)) _ q.1 in
    let u = faultless_parts (all_faults js) (mispassed env.site g.of (params env.site.all f) js) r.1 in
    let k = tg q.0 in
    let e = counted_same env.site p (length (params env.site.all f)) (length js)
    (transport (λ (b : Bool). IsFaultless (miscalled env.site p b (length (params env.site.all f)) (length js)))
    (c k) r.0) in
    call_known f.number p.first.span g.of (under g.of (outcome env.site.all f)) (passed g.of (params env.site.all f) js)
    k (under_known g.of (outcome env.site.all f) k sk.1)
    (passed_told env.site g.of (params env.site.all f) js e k sk.0 (all_known js t u.0) u.1))

fitted_counted : (s : Site) (p : Path) (f : Function) (gs : List Given) → IsKnown (fitted s p (function_sorts f) gs).of
    → (fitted s p (function_sorts f) gs).counted ≡ true
fitted_counted s p f gs =
    fitted_holds (λ (x : Fitted). IsKnown x.of → x.counted ≡ true) s p (function_sorts f) gs (λ e k. refl)
    (λ k. absurd k)

call_told : (env : Env) (p : Path) (gs : List Given) (js : List Judged) (o : Option Function)
    → IfThere (IsSignatureKnown env.site.all) o → Every GivenTold gs → Every JudgedTold js
    → JudgedTold (judged_call env p gs js o)
call_told env p gs js None k tg t = unless_told env p.first.span None _ (λ h. absurd h)
call_told env p gs js (Some f) k tg t =
    called_told env p f (fitted env.site p (function_sorts f) gs) js k (fitted_counted env.site p f gs)
    (λ h. fitted_told env.site p (function_sorts f) gs tg h) t

-- ALL EXPRESSIONS

turbofish_told : (s : Site) (o : Option plain.PlainTurbofish) → Every GivenTold (turbofish_given s o)
turbofish_told s None = tt
turbofish_told s (Some t) = given_told s t.1

mutual
  pub judge_told : (env : Env) → AreNamesKnown env → (e : plain.PlainExpr) → JudgedTold (judge env e)
  judge_told env n (plain.number v at) = λ h. tt
  judge_told env n (plain.truth at) = λ h. tt
  judge_told env n (plain.untruth at) = λ h. tt
  judge_told env n (plain.paren from ps to) = paren_told env from (judge_parts env ps) (parts_told env n ps)
  judge_told env n (plain.new_struct at p generics from is to) =
      new_told env at p (turbofish_given env.site generics) (judge_inits env is)
      (struct_meant env.site.all env.site.modules p)
      (struct_meant_holds (AreFieldsKnown env.site.all) (IsSignatureKnown env.site.all)
      (λ (k : ℕ). Unit {0}) env.site.all env.site.modules p n.items) (turbofish_told env.site generics)
      (inits_told env n is)
  judge_told env n (plain.path p) =
      path_told env p (value_named env p)
      (value_holds IsLocalKnown (λ (k : ℕ). Unit {0}) (λ (k : ℕ). Unit {0}) env p n.locals
      (there_anyway (number_generic env.site.generics (texts_of p)))
      (there_anyway (const_meant env.site.all env.site.modules p)))
  judge_told env n (plain.call p generics from ps to) =
      call_told env p (turbofish_given env.site generics) (judge_parts env ps)
      (function_meant env.site.all env.site.modules p)
      (function_meant_holds (AreFieldsKnown env.site.all) (IsSignatureKnown env.site.all)
      (λ (k : ℕ). Unit {0}) env.site.all env.site.modules p n.items) (turbofish_told env.site generics)
      (parts_told env n ps)
  judge_told env n (plain.field inner dot s) =
      field_told env (judge env inner) s (judge env inner).typed n.items (judge_told env n inner)
  judge_told env n (plain.unary_of op at inner) = λ h.
      let p = faultless_parts (judge env inner).faults _ h in
      known_map (typed.unary (unary_type op) (typed_unary_op op)) _
      (misfit_told env.site (unary_type op) (judge env inner).at (judge env inner).typed
      (judge_told env n inner p.0) p.1)
  judge_told env n (plain.binary_of left op at right) =
      operands_told env (result_type op) (typed_binary_op op) (judge env left) (judge env right) (operand_type op)
      (judge_told env n left) (judge_told env n right)

  parts_told : (env : Env) → AreNamesKnown env → (ps : plain.PlainParts) → Every JudgedTold (judge_parts env ps)
  parts_told env n plain.no_parts = tt
  parts_told env n (plain.parts first others) = (judge_told env n first, more_told env n others)

  more_told : (env : Env) → AreNamesKnown env → (ps : plain.MoreParts) → Every JudgedTold (judge_more env ps)
  more_told env n plain.last_part = tt
  more_told env n (plain.next_part comma e others) = (judge_told env n e, more_told env n others)

  inits_told : (env : Env) → AreNamesKnown env → (is : plain.PlainInits) → Every InitTold (judge_inits env is)
  inits_told env n plain.no_inits = tt
  inits_told env n (plain.inits name colon e others) = (judge_told env n e, more_inits_told env n others)

  more_inits_told : (env : Env) → AreNamesKnown env → (is : plain.MoreInits) → Every InitTold (judge_more_inits env is)
  more_inits_told env n plain.last_init = tt
  more_inits_told env n (plain.next_init comma name colon e others) = (judge_told env n e, more_inits_told env n others)

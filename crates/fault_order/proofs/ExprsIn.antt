-- The faults of an expression stand at its tokens, and it begins at one of them.
use Rattle.std.proofs.Common.{ℕ, refl, inl, inr, Bool, true, false, if◌then◌else◌, List, [], ◌∷◌, ◌++◌, length, Option, Some, None, bytes_eq, eqb}
use Rattle.lar_source.specs.declared.file.Span.{Span}
use Rattle.type_table.specs.TypeOf.{TypeOf}
use Rattle.lar_typed.specs.Exprs as typed
use Rattle.lar_typed.specs.SameType.{same_type}
use Rattle.lar_typed.specs.Lawful.{is_scalar}
use Rattle.lar_typed.specs.declared.op.BinaryOp.{BinaryOp as TypedBinary}
use Rattle.lar_tree.specs.declared.token.Token.{Token}
use Rattle.lar_tree.specs.declared.name.Path.{Path}
use Rattle.lar_tree.specs.declared.expr.Selector.{Selector}
use Rattle.lar_tree.specs.declared.expr.Selector.TheVariants as selector
use Rattle.lar_tree.specs.declared.sign.Sign.TheVariants as sign
use Rattle.lar_tree.specs.Spelling.{sign_token, flat_path, flat_option}
use Rattle.lar_tree.specs.Lawful.{Every}
use Rattle.lar_tree.specs.Types.{flat_args}
use Rattle.lar_tree.specs.Exprs as plain
use Rattle.lar_rules.specs.Fault.{Fault}
use Rattle.lar_rules.specs.Declared.{Struct, Function, struct_meant, function_meant}
use Rattle.lar_rules.specs.Written.{Site, Given, all_given, fitted, struct_sorts}
use Rattle.lar_rules.specs.Signatures.{Member, fields, params, function_sorts}
use Rattle.lar_rules.specs.Judged.{Local, Env, Judged, misfit_of, misfit, misfit_if, all_faults, under, judged_if, unless_asserting}
use Rattle.lar_rules.specs.Exprs.{ValueName, a_local, a_number, a_constant, no_value, value_named, judged_local, judged_path, unary_type, typed_binary_op, operand_type, result_type, scalar_of, not_scalar_of, judged_operands, judged_tuple, judged_paren, Part, part_selected, selector_at, judged_part, judged_field_of, Init, init_values, misset, judged_new, mispassed, miscalled, judged_call, turbofish_given, judge, judge_parts, judge_more, judge_inits, judge_more_inits}
use Rattle.fault_order.specs.Places.{HasPlace, StandsIn}
use Rattle.fault_order.proofs.PlacesIn.{Into, into_left, into_right, into_tail, into_head, AllIn, stands, join, unless}
use Rattle.fault_order.proofs.TypesIn.{GivenIn, all_given_in, fitted_in, path_start, given_in}

pub record JudgedIn (file : ℕ) (ts : List Token) (j : Judged) : Type 0 where
  pub at : HasPlace ts j.at
  pub faults : AllIn file ts j.faults

-- RULES

misfit_of_in : (s : Site) (ts : List Token) (t : TypeOf) (at : Span) (o : Option typed.PlainExpr) → HasPlace ts at
    → AllIn s.file ts (misfit_of s t at o)
misfit_of_in s ts t at None h = tt
misfit_of_in s ts t at (Some e) h = unless s.file ts (same_type (typed.label_of e) t) _ (stands s.file ts at _ _ h refl)

pub misfit_in : (s : Site) (ts : List Token) (t : TypeOf) (j : Judged) → HasPlace ts j.at
    → AllIn s.file ts (misfit s t j)
misfit_in s ts t j h = misfit_of_in s ts t j.at j.typed h

pub misfit_if_in : (s : Site) (ts : List Token) (o : Option TypeOf) (j : Judged) → HasPlace ts j.at
    → AllIn s.file ts (misfit_if s o j)
misfit_if_in s ts None j h = tt
misfit_if_in s ts (Some t) j h = misfit_in s ts t j h

all_in : (file : ℕ) (ts : List Token) (js : List Judged) → Every (JudgedIn file ts) js → AllIn file ts (all_faults js)
all_in file ts [] h = tt
all_in file ts (j ∷ js) h = join file ts j.faults (all_faults js) (h.0).faults (all_in file ts js h.1)

if_in : (file : ℕ) (ts : List Token) (b : Bool) (at : Span) (e : Option typed.PlainExpr) (fs : List Fault) (f : Fault)
    → HasPlace ts at → AllIn file ts fs → StandsIn file ts f → JudgedIn file ts (judged_if b at e fs (f ∷ []))
if_in file ts true at e fs f h k s = record { at = h; faults = join file ts fs (f ∷ []) k (s, tt) }
if_in file ts false at e fs f h k s = record { at = h; faults = k }

asserting_in : (env : Env) (ts : List Token) (at : Span) (e : Option typed.PlainExpr) (fs : List Fault) → HasPlace ts at
    → AllIn env.site.file ts fs → JudgedIn env.site.file ts (unless_asserting env at e fs)
asserting_in env ts at e fs h k =
    if_in env.site.file ts env.asserting at e fs _ h k (stands env.site.file ts at _ [] h refl)

local_in : (env : Env) (ts : List Token) (p : Path) (l : Local) (b : Bool) → HasPlace ts p.first.span
    → JudgedIn env.site.file ts (judged_local env p l b)
local_in env ts p l true h = record { at = h; faults = (stands env.site.file ts p.first.span _ _ h refl, tt) }
local_in env ts p l false h = record { at = h; faults = tt }

path_in : (env : Env) (ts : List Token) (p : Path) (v : ValueName) → HasPlace ts p.first.span
    → JudgedIn env.site.file ts (judged_path env p v)
path_in env ts p (a_local l) h = local_in env ts p l env.asserting h
path_in env ts p (a_number k) h = record { at = h; faults = tt }
path_in env ts p (a_constant n) h = record { at = h; faults = tt }
path_in env ts p no_value h = record { at = h; faults = (stands env.site.file ts p.first.span _ _ h refl, tt) }

scalar_in : (s : Site) (ts : List Token) (at : Span) (o : Option typed.PlainExpr) → HasPlace ts at
    → AllIn s.file ts (not_scalar_of s at o)
scalar_in s ts at None h = tt
scalar_in s ts at (Some e) h = unless s.file ts (is_scalar (typed.label_of e)) _ (stands s.file ts at _ _ h refl)

operands_in : (env : Env) (ts : List Token) (t : TypeOf) (op : TypedBinary) (a b : Judged) (o : Option TypeOf)
    → JudgedIn env.site.file ts a → JudgedIn env.site.file ts b
    → JudgedIn env.site.file ts (judged_operands env t op a b o)
operands_in env ts t op a b (Some u) h k = record {
  at = h.at;
  faults =
      join env.site.file ts a.faults _ h.faults
      (join env.site.file ts b.faults _ k.faults
      (join env.site.file ts (misfit env.site u a) (misfit env.site u b) (misfit_in env.site ts u a h.at)
      (misfit_in env.site ts u b k.at)));
}
operands_in env ts t op a b None h k = record {
  at = h.at;
  faults = join env.site.file ts a.faults _ h.faults (join env.site.file ts b.faults _ k.faults
      (join env.site.file ts (not_scalar_of env.site a.at a.typed) (misfit_if env.site (scalar_of a.typed) b)
      (scalar_in env.site ts a.at a.typed h.at) (misfit_if_in env.site ts (scalar_of a.typed) b k.at)));
}

tuple_in : (env : Env) (ts : List Token) (at : Span) (js : List Judged) → HasPlace ts at
    → Every (JudgedIn env.site.file ts) js → JudgedIn env.site.file ts (judged_tuple env at js)
tuple_in env ts at js h k = asserting_in env ts at _ (all_faults js) h (all_in env.site.file ts js k)

paren_in : (env : Env) (ts : List Token) (at : Span) (js : List Judged) → HasPlace ts at
    → Every (JudgedIn env.site.file ts) js → JudgedIn env.site.file ts (judged_paren env at js)
paren_in env ts at [] h k = tuple_in env ts at [] h k
paren_in env ts at (j ∷ []) h k = record { at = h; faults = (k.0).faults }
paren_in env ts at (j ∷ i ∷ js) h k = tuple_in env ts at (j ∷ i ∷ js) h k

part_in : (env : Env) (ts : List Token) (at : Span) (fs : List Fault) (s : Selector) (e : typed.PlainExpr)
    (o : Option Part) → HasPlace ts at → HasPlace ts (selector_at s) → AllIn env.site.file ts fs
    → JudgedIn env.site.file ts (judged_part env at fs s e o)
part_in env ts at fs s e None h k l =
    asserting_in env ts at None _ h
    (join env.site.file ts fs _ l (stands env.site.file ts (selector_at s) _ [] k refl, tt))
part_in env ts at fs s e (Some p) h k l = asserting_in env ts at _ fs h l

field_in : (env : Env) (ts : List Token) (e : Judged) (s : Selector) (o : Option typed.PlainExpr)
    → HasPlace ts (selector_at s) → JudgedIn env.site.file ts e → JudgedIn env.site.file ts (judged_field_of env e s o)
field_in env ts e s None k h = asserting_in env ts e.at None e.faults h.at h.faults
field_in env ts e s (Some x) k h =
    part_in env ts e.at e.faults s x (part_selected env.site.all (typed.label_of x) s) h.at k h.faults

selector_in : (s : Selector) (dot : Span)
    → HasPlace (sign_token sign.Dot dot ∷ plain.selector_token s ∷ []) (selector_at s)
selector_in (selector.Name f) dot = inr (inl refl)
selector_in (selector.Number k at) dot = inr (inl refl)

-- STRUCTS AND CALLS

pub record InitIn (file : ℕ) (ts : List Token) (i : Init) : Type 0 where
  pub name : HasPlace ts (i.0).span
  pub value : JudgedIn file ts i.1

values_in : (file : ℕ) (ts : List Token) (is : List Init) → Every (InitIn file ts) is
    → AllIn file ts (all_faults (init_values is))
values_in file ts [] h = tt
values_in file ts (i ∷ is) h =
    join file ts (i.1).faults (all_faults (init_values is)) ((h.0).value).faults (values_in file ts is h.1)

set_in : (file : ℕ) (ts : List Token) (b : Bool) (xs : List Fault) (f : Fault) → AllIn file ts xs → StandsIn file ts f
    → AllIn file ts (if b then xs else f ∷ [])
set_in file ts true xs f h k = h
set_in file ts false xs f h k = (k, tt)

misset_in : (s : Site) (ts : List Token) (at : Span) (gs : Option TypeOf) (ms : List Member) (is : List Init)
    → HasPlace ts at → Every (InitIn s.file ts) is → AllIn s.file ts (misset s at gs ms is)
misset_in s ts at gs [] [] h k = tt
misset_in s ts at gs [] (i ∷ is) h k = (stands s.file ts (i.0).span _ [] (k.0).name refl, tt)
misset_in s ts at gs (m ∷ ms) [] h k = (stands s.file ts at _ [] h refl, tt)
misset_in s ts at gs (m ∷ ms) (i ∷ is) h k =
    set_in s.file ts (bytes_eq (m.0).text (i.0).text) (misfit_if s (under gs m.1) i.1 ++ misset s at gs ms is) _
    (join s.file ts (misfit_if s (under gs m.1) i.1) (misset s at gs ms is)
    (misfit_if_in s ts (under gs m.1) i.1 ((k.0).value).at) (misset_in s ts at gs ms is h k.1))
    (stands s.file ts (i.0).span _ [] (k.0).name refl)

new_in : (env : Env) (ts : List Token) (at : Span) (p : Path) (gs : List Given) (is : List Init) (o : Option Struct)
    → HasPlace ts at → HasPlace ts p.first.span → Every (GivenIn env.site.file ts) gs
    → Every (InitIn env.site.file ts) is → JudgedIn env.site.file ts (judged_new env at p gs is o)
new_in env ts at p gs is None h k g i =
    asserting_in env ts at None _ h (
      stands env.site.file ts p.first.span _ _ k refl,
      join env.site.file ts (all_given gs) (all_faults (init_values is)) (all_given_in env.site.file ts gs g)
          (values_in env.site.file ts is i),
    )
new_in env ts at p gs is (Some x) h k g i =
    let f = fitted env.site p (struct_sorts x) gs in
    asserting_in env ts at _ _ h (join env.site.file ts f.faults _ (fitted_in env.site ts p (struct_sorts x) gs k g)
    (join env.site.file ts (all_faults (init_values is)) (misset env.site at f.of (fields env.site.all x) is)
    (values_in env.site.file ts is i) (misset_in env.site ts at f.of (fields env.site.all x) is h i)))

mispassed_in : (s : Site) (ts : List Token) (gs : Option TypeOf) (ms : List Member) (js : List Judged)
    → Every (JudgedIn s.file ts) js → AllIn s.file ts (mispassed s gs ms js)
mispassed_in s ts gs [] [] h = tt
mispassed_in s ts gs [] (j ∷ js) h = tt
mispassed_in s ts gs (m ∷ ms) [] h = tt
mispassed_in s ts gs (m ∷ ms) (j ∷ js) h =
    join s.file ts (misfit_if s (under gs m.1) j) (mispassed s gs ms js) (misfit_if_in s ts (under gs m.1) j (h.0).at)
    (mispassed_in s ts gs ms js h.1)

miscalled_in : (s : Site) (ts : List Token) (p : Path) (b : Bool) (m n : ℕ) → HasPlace ts p.first.span
    → AllIn s.file ts (miscalled s p b m n)
miscalled_in s ts p false m n h = tt
miscalled_in s ts p true m n h = unless s.file ts (eqb m n) _ (stands s.file ts p.first.span _ _ h refl)

call_in : (env : Env) (ts : List Token) (p : Path) (gs : List Given) (js : List Judged) (o : Option Function)
    → HasPlace ts p.first.span → Every (GivenIn env.site.file ts) gs → Every (JudgedIn env.site.file ts) js
    → JudgedIn env.site.file ts (judged_call env p gs js o)
call_in env ts p gs js None h g k =
    asserting_in env ts p.first.span None _ h (
      stands env.site.file ts p.first.span _ _ h refl,
      join env.site.file ts (all_given gs) (all_faults js)
          (all_given_in env.site.file ts gs g) (all_in env.site.file ts js k),
    )
call_in env ts p gs js (Some f) h g k =
    let x = fitted env.site p (function_sorts f) gs in
    let ms = params env.site.all f in
    asserting_in env ts p.first.span _ _ h
    (join env.site.file ts x.faults _ (fitted_in env.site ts p (function_sorts f) gs h g)
    (join env.site.file ts (miscalled env.site p x.counted (length ms) (length js)) _
    (miscalled_in env.site ts p x.counted (length ms) (length js) h)
    (join env.site.file ts (all_faults js) (mispassed env.site x.of ms js) (all_in env.site.file ts js k)
    (mispassed_in env.site ts x.of ms js k))))

turbofish_in : (s : Site) (ts : List Token) (o : Option plain.PlainTurbofish)
    → Into (flat_option plain.flat_turbofish o) ts → Every (GivenIn s.file ts) (turbofish_given s o)
turbofish_in s ts None i = tt
turbofish_in s ts (Some t) i = given_in s ts t.1 (into_tail _ (flat_args t.1) ts i)

-- ALL EXPRESSIONS

mutual
  pub judge_in : (env : Env) (ts : List Token) (e : plain.PlainExpr) → Into (plain.flat_expr e) ts
      → JudgedIn env.site.file ts (judge env e)
  judge_in env ts (plain.number v at) i = record { at = into_head _ [] ts i; faults = tt }
  judge_in env ts (plain.truth at) i = record { at = into_head _ [] ts i; faults = tt }
  judge_in env ts (plain.untruth at) i = record { at = into_head _ [] ts i; faults = tt }
  judge_in env ts (plain.paren from ps to) i =
      paren_in env ts from (judge_parts env ps) (into_head _ _ ts i)
      (parts_in env ts ps (into_left (plain.flat_parts ps) _ ts (into_tail _ _ ts i)))
  judge_in env ts (plain.new_struct at p generics from is to) i =
      let a = into_tail _ _ ts i in
      let b = into_right (flat_path p) _ ts a in
      let c = into_tail _ _ ts (into_right (flat_option plain.flat_turbofish generics) _ ts b) in
      new_in env ts at p (turbofish_given env.site generics) (judge_inits env is)
      (struct_meant env.site.all env.site.modules p) (into_head _ _ ts i)
      (path_start p ts (into_left (flat_path p) _ ts a))
      (turbofish_in env.site ts generics (into_left (flat_option plain.flat_turbofish generics) _ ts b))
      (inits_in env ts is (into_left (plain.flat_inits is) _ ts c))
  judge_in env ts (plain.path p) i = path_in env ts p (value_named env p) (path_start p ts i)
  judge_in env ts (plain.call p generics from ps to) i =
      let b = into_right (flat_path p) _ ts i in
      let c = into_tail _ _ ts (into_right (flat_option plain.flat_turbofish generics) _ ts b) in
      call_in env ts p (turbofish_given env.site generics) (judge_parts env ps)
      (function_meant env.site.all env.site.modules p) (path_start p ts (into_left (flat_path p) _ ts i))
      (turbofish_in env.site ts generics (into_left (flat_option plain.flat_turbofish generics) _ ts b))
      (parts_in env ts ps (into_left (plain.flat_parts ps) _ ts c))
  judge_in env ts (plain.field inner dot s) i =
      let k = into_right (plain.flat_expr inner) _ ts i in
      field_in env ts (judge env inner) s (judge env inner).typed (k.into (selector_at s) (selector_in s dot))
      (judge_in env ts inner (into_left (plain.flat_expr inner) _ ts i))
  judge_in env ts (plain.unary_of op at inner) i =
      let k = judge_in env ts inner (into_tail _ (plain.flat_expr inner) ts i) in
      record {
        at = into_head _ _ ts i;
        faults =
            join env.site.file ts (judge env inner).faults _ k.faults
            (misfit_in env.site ts (unary_type op) (judge env inner) k.at);
      }
  judge_in env ts (plain.binary_of left op at right) i =
      operands_in env ts (result_type op) (typed_binary_op op) (judge env left) (judge env right) (operand_type op)
      (judge_in env ts left (into_left (plain.flat_expr left) _ ts i))
      (judge_in env ts right (into_tail _ (plain.flat_expr right) ts (into_right (plain.flat_expr left) _ ts i)))

  parts_in : (env : Env) (ts : List Token) (ps : plain.PlainParts) → Into (plain.flat_parts ps) ts
      → Every (JudgedIn env.site.file ts) (judge_parts env ps)
  parts_in env ts plain.no_parts i = tt
  parts_in env ts (plain.parts first others) i = (
    judge_in env ts first (into_left (plain.flat_expr first) _ ts i),
    more_in env ts others (into_right (plain.flat_expr first) _ ts i),
  )

  more_in : (env : Env) (ts : List Token) (ps : plain.MoreParts) → Into (plain.flat_more_parts ps) ts
      → Every (JudgedIn env.site.file ts) (judge_more env ps)
  more_in env ts plain.last_part i = tt
  more_in env ts (plain.next_part comma e others) i =
      let a = into_tail _ _ ts i in (
        judge_in env ts e (into_left (plain.flat_expr e) _ ts a),
        more_in env ts others (into_right (plain.flat_expr e) _ ts a),
      )

  inits_in : (env : Env) (ts : List Token) (is : plain.PlainInits) → Into (plain.flat_inits is) ts
      → Every (InitIn env.site.file ts) (judge_inits env is)
  inits_in env ts plain.no_inits i = tt
  inits_in env ts (plain.inits n colon e others) i =
      let a = into_tail _ _ ts (into_tail _ _ ts i) in (
        record { name = into_head _ _ ts i; value = judge_in env ts e (into_left (plain.flat_expr e) _ ts a) },
        more_inits_in env ts others (into_right (plain.flat_expr e) _ ts a),
      )

  more_inits_in : (env : Env) (ts : List Token) (is : plain.MoreInits) → Into (plain.flat_more_inits is) ts
      → Every (InitIn env.site.file ts) (judge_more_inits env is)
  more_inits_in env ts plain.last_init i = tt
  more_inits_in env ts (plain.next_init comma n colon e others) i =
      let b = into_tail _ _ ts i in
      let a = into_tail _ _ ts (into_tail _ _ ts b) in (
        record { name = into_head _ _ ts b; value = judge_in env ts e (into_left (plain.flat_expr e) _ ts a) },
        more_inits_in env ts others (into_right (plain.flat_expr e) _ ts a),
      )

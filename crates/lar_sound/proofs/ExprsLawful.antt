-- An expression with its types is lawful in a frame that fits.
use Rattle.std.proofs.Common.{◌≡◌, ℕ, suc, ◌<◌, ◌≤◌, refl, sym, ap, ◌∙◌, subst as transport, Bool, true, false, ◌&&◌, if◌then◌else◌, List, [], ◌∷◌, length, map, slice_get, nat_abs, Option, Some, None, option_map, bytes_eq}
use Rattle.lar_source.specs.declared.file.Span.{Span}
use Rattle.type_table.specs.TypeOf.{TypeOf, more, tuple, struct}
use Rattle.type_table.specs.Substitution.{subst, argument}
use Rattle.type_table.specs.declared.sort.Sort.{Sort}
use Rattle.type_table.specs.declared.sort.Sort.TheVariants.{Number as of_number}
use Rattle.type_table.specs.Lawful.{these, fits_struct, fits}
use Rattle.lar_typed.specs.Exprs as typed
use Rattle.lar_typed.specs.SameType.{same_type, is_type, list_of}
use Rattle.lar_typed.specs.Trees.{PlainStruct}
use Rattle.lar_typed.specs.Lawful.{Frame, struct_sorts, field_type, part_type, fields_are, call_fits, types_of, lawful, all_lawful}
use Rattle.lar_typed.specs.Parts.{Has}
use Rattle.lar_typed.proofs.SameTypes.{both_true, same_self}
use Rattle.lar_tree.specs.declared.name.Path.{Path}
use Rattle.lar_tree.specs.declared.expr.Selector.{Selector}
use Rattle.lar_tree.specs.declared.expr.Selector.TheVariants as selector
use Rattle.lar_tree.specs.PlainLists.{parts_in, further_parts}
use Rattle.lar_tree.specs.Stmts.{IfThere}
use Rattle.lar_tree.specs.Lawful.{Every, LimitedTurbofish, LimitedExpr, LimitedParts, LimitedMoreParts, LimitedInits, LimitedMoreInits}
use Rattle.lar_tree.specs.Exprs as plain
use Rattle.lar_rules.specs.Fault.{Fault}
use Rattle.lar_rules.specs.Declared.{Declared, Struct, Function, struct_meant, function_meant, texts_of}
use Rattle.lar_rules.specs.Written.{Given, fitted, struct_sorts as declared_sorts}
use Rattle.lar_rules.specs.Signatures.{Member, fields, params, outcome, function_sorts, struct_numbered}
use Rattle.lar_rules.specs.Judged.{Env, Judged, fitting, fitting_if, then_expr, under}
use Rattle.lar_rules.specs.Exprs.{value_named, unary_type, typed_binary_op, operand_type, result_type, member_named, Part, field_part, part_selected, part_typed, judged_part, judged_field_of, Init, set_typed, made_typed, judged_new, passed, call_typed, judged_call, turbofish_given, judge, judge_parts, judge_more, judge_inits, judge_more_inits}
use Rattle.lar_rules.specs.Checked.{all_known}
use Rattle.lar_sound.specs.Frames.{IsStructIn, IsFunctionIn, IsLocalIn, IsFrameOf}
use Rattle.lar_sound.proofs.Known.{some_same}
use Rattle.lar_sound.proofs.ItemsMeant.{struct_meant_holds, const_meant_holds, function_meant_holds, struct_numbered_holds}
use Rattle.lar_sound.proofs.ValuesMeant.{value_holds}
use Rattle.lar_sound.proofs.GenericsMeant.{number_generic_there}
use Rattle.lar_sound.proofs.WrittenLawful.{Fits, GivenFits, fitted_fits, given_fits}
use Rattle.lar_sound.proofs.ValuesLawful.{LawfulIf, JudgedLawful, ListHas, fitting_has, unless_lawful, is_type_itself, same_of, path_lawful, unary_lawful, binary_known, binary_scalar, operands_lawful, paren_lawful}
use Rattle.lar_sound.proofs.FramesFit.{sorts_there, sorts_of, known_parts, known_at, argument_subst, MemberAt, member_at}

-- FIELDS

abbrev PartFits : Frame → TypeOf → Part → Type 0
PartFits fr u p = IfThere (λ (t : TypeOf). part_type fr.structs u p.0 ≡ Some t) p.1

tuple_part_fits : (fr : Frame) (ts : TypeOf) (k : ℕ) (o : Option TypeOf) → argument ts k ≡ o
    → IfThere (PartFits fr (tuple ts)) (option_map (λ t. (k, Some t)) o)
tuple_part_fits fr ts k None e = tt
tuple_part_fits fr ts k (Some t) e = e

field_there : (fr : Frame) (n : ℕ) (gs : TypeOf) (decl : PlainStruct) (ts : List TypeOf) (k : ℕ) (t : TypeOf)
    → slice_get fr.structs n ≡ Some decl → decl.fields ≡ list_of ts → slice_get ts k ≡ Some t
    → part_type fr.structs (struct n gs) k ≡ Some (subst gs t)
field_there fr n gs decl ts k t e f h =
    ap (field_type gs k) e ∙ ap (λ (u : TypeOf). argument (subst gs u) k) f ∙ argument_subst gs ts k
    ∙ ap (option_map (subst gs)) h

under_fits : (fr : Frame) (n : ℕ) (gs : TypeOf) (decl : PlainStruct) (ts : List TypeOf) (k : ℕ) (o : Option TypeOf)
    → slice_get fr.structs n ≡ Some decl → decl.fields ≡ list_of ts → slice_get ts k ≡ o
    → IfThere (λ (t : TypeOf). part_type fr.structs (struct n gs) k ≡ Some t) (under (Some gs) o)
under_fits fr n gs decl ts k None e f h = tt
under_fits fr n gs decl ts k (Some t) e f h = field_there fr n gs decl ts k t e f h

member_fits : (fr : Frame) (n : ℕ) (gs : TypeOf) (decl : PlainStruct) (ts : List TypeOf) (ms : List Member)
    (o : Option Part) → slice_get fr.structs n ≡ Some decl → decl.fields ≡ list_of ts
    → all_known (map (λ m. m.1) ms) ≡ Some ts
    → IfThere (MemberAt ms) o → IfThere (PartFits fr (struct n gs)) (option_map (λ m. (m.0, under (Some gs) m.1)) o)
member_fits fr n gs decl ts ms None e f k h = tt
member_fits fr n gs decl ts ms (Some m) e f k h =
    under_fits fr n gs decl ts m.0 m.1 e f (known_at (map (λ m. m.1) ms) ts m.0 m.1 k h)

field_fits : (fr : Frame) (all : List Declared) (n : ℕ) (gs : TypeOf) (name : List ℕ) (o : Option Struct)
    → IfThere (λ (x : Struct). IsStructIn fr.structs all x × (x.number ≡ n)) o
    → IfThere (PartFits fr (struct n gs)) (field_part all gs name o)
field_fits fr all n gs name None h = tt
field_fits fr all n gs name (Some x) h =
    let s = h.0 in
    member_fits fr n gs s.decl s.types (fields all x) (member_named name (fields all x))
    (ap (slice_get fr.structs) (sym h.1) ∙ s.there) s.typed s.known (member_at name (fields all x))

selected_fits : (fr : Frame) (env : Env) (t : TypeOf) (s : Selector) → IsFrameOf fr env
    → IfThere (PartFits fr t) (part_selected env.site.all t s)
selected_fits fr env (struct n gs) (selector.Name f) h =
    field_fits fr env.site.all n gs f.text (struct_numbered env.site.all n)
    (struct_numbered_holds (IsStructIn fr.structs env.site.all) (IsFunctionIn fr.functions env.site.all) _
    env.site.all n h.items)
selected_fits fr env (tuple ts) (selector.Number k at) h =
    tuple_part_fits fr ts (nat_abs k) (argument ts (nat_abs k)) refl
selected_fits fr env _ _ h = tt

part_of_lawful : (fr : Frame) (e : typed.PlainExpr) (k : ℕ) (o : Option TypeOf) → lawful fr e ≡ true
    → IfThere (λ (t : TypeOf). part_type fr.structs (typed.label_of e) k ≡ Some t) o → LawfulIf fr (part_typed e k o)
part_of_lawful fr e k None l h = tt
part_of_lawful fr e k (Some t) l h =
    both_true (is_type t (part_type fr.structs (typed.label_of e) k)) (lawful fr e)
    (is_type_itself t (part_type fr.structs (typed.label_of e) k) h) l

part_lawful : (fr : Frame) (env : Env) (at : Span) (fs : List Fault) (s : Selector) (e : typed.PlainExpr)
    (o : Option Part) → lawful fr e ≡ true → IfThere (PartFits fr (typed.label_of e)) o
    → JudgedLawful fr (judged_part env at fs s e o)
part_lawful fr env at fs s e None l h = unless_lawful fr env at None _ tt
part_lawful fr env at fs s e (Some p) l h =
    unless_lawful fr env at (part_typed e p.0 p.1) fs (part_of_lawful fr e p.0 p.1 l h)

field_lawful : (fr : Frame) (env : Env) (e : Judged) (s : Selector) (o : Option typed.PlainExpr) → IsFrameOf fr env
    → LawfulIf fr o → JudgedLawful fr (judged_field_of env e s o)
field_lawful fr env e s None f h = unless_lawful fr env e.at None e.faults tt
field_lawful fr env e s (Some x) f h =
    part_lawful fr env e.at e.faults s x (part_selected env.site.all (typed.label_of x) s) h
    (selected_fits fr env (typed.label_of x) s f)

-- STRUCTS

then_has : (fr : Frame) (t ts : TypeOf) (a : Option typed.PlainExpr) (b : Option typed.PlainExprs)
    → IfThere (Has fr t) a → IfThere (ListHas fr ts) b → IfThere (ListHas fr (more t ts)) (then_expr a b)
then_has fr t ts None b h k = tt
then_has fr t ts (Some e) None h k = tt
then_has fr t ts (Some e) (Some es) h k = (
  both_true (lawful fr e) (all_lawful fr es) h.is_lawful k.0,
  ap (λ (u : TypeOf). more u (types_of es)) h.of
      ∙ ap (more t) k.1,
)

abbrev InitLawful : Frame → Init → Type 0
InitLawful fr i = JudgedLawful fr i.1

-- a member of a known type, and what it is set to
one_set : (fr : Frame) (gs t : TypeOf) (o : Option TypeOf) (j : Judged) → o ≡ Some t → JudgedLawful fr j
    → IfThere (Has fr (subst gs t)) (fitting_if (under (Some gs) o) j)
one_set fr gs t o j e h =
    transport (λ (x : Option TypeOf). IfThere (Has fr (subst gs t)) (fitting_if (under (Some gs) x) j)) (sym e)
    (fitting_has fr (subst gs t) j.typed h)

if_set : (fr : Frame) (ts : TypeOf) (b : Bool) (o : Option typed.PlainExprs) → IfThere (ListHas fr ts) o
    → IfThere (ListHas fr ts) (if b then o else None)
if_set fr ts true o h = h
if_set fr ts false o h = tt

set_has : (fr : Frame) (gs : TypeOf) (ms : List Member) (is : List Init) (ts : List TypeOf)
    → all_known (map (λ m. m.1) ms) ≡ Some ts → Every (InitLawful fr) is
    → IfThere (ListHas fr (subst gs (list_of ts))) (set_typed (Some gs) ms is)
set_has fr gs [] [] ts k h = (refl, ap (λ (us : List TypeOf). subst gs (list_of us)) (some_same [] ts k))
set_has fr gs [] (i ∷ is) ts k h = tt
set_has fr gs (m ∷ ms) [] ts k h = tt
set_has fr gs (m ∷ ms) (i ∷ is) ts k h =
    let p = known_parts m.1 (all_known (map (λ m. m.1) ms)) ts k in
    transport
    (λ (us : List TypeOf). IfThere (ListHas fr (subst gs (list_of us))) (set_typed (Some gs) (m ∷ ms) (i ∷ is)))
    p.are
    (if_set fr (more (subst gs p.first) (subst gs (list_of p.others))) (bytes_eq (m.0).text (i.0).text)
    (then_expr (fitting_if (under (Some gs) m.1) i.1) (set_typed (Some gs) ms is))
    (then_has fr (subst gs p.first) (subst gs (list_of p.others)) (fitting_if (under (Some gs) m.1) i.1)
    (set_typed (Some gs) ms is) (one_set fr gs p.first m.1 i.1 p.first_is h.0)
    (set_has fr gs ms is p.others p.others_are h.1)))

made_one : (fr : Frame) (all : List Declared) (x : Struct) (gs : TypeOf) (o : Option typed.PlainExprs)
    → (s : IsStructIn fr.structs all x) → Fits (struct_sorts fr.structs) fr.generics (these (declared_sorts x)) gs
    → IfThere (ListHas fr (subst gs (list_of s.types))) o
    → LawfulIf fr (made_typed x.number (Some gs) o)
made_one fr all x gs None s f h = tt
made_one fr all x gs (Some es) s f h =
    both_true
    (fits_struct (fits (struct_sorts fr.structs) fr.generics gs) (slice_get (struct_sorts fr.structs) x.number))
    (fields_are gs (types_of es) (slice_get fr.structs x.number) && all_lawful fr es)
    (ap (fits_struct (fits (struct_sorts fr.structs) fr.generics gs)) (sorts_there fr.structs all x s) ∙ f)
    (both_true (fields_are gs (types_of es) (slice_get fr.structs x.number)) (all_lawful fr es)
    (ap (fields_are gs (types_of es)) s.there
    ∙ same_of (types_of es) (subst gs (s.decl).fields) (h.1 ∙ ap (subst gs) (sym s.typed))) h.0)

made_lawful : (fr : Frame) (env : Env) (at : Span) (x : Struct) (g : Option TypeOf) (is : List Init)
    → IsStructIn fr.structs env.site.all x
    → IfThere (Fits (struct_sorts fr.structs) fr.generics (these (declared_sorts x))) g → Every (InitLawful fr) is
    → LawfulIf fr (made_typed x.number g (set_typed g (fields env.site.all x) is))
made_lawful fr env at x None is s f h = tt
made_lawful fr env at x (Some gs) is s f h =
    made_one fr env.site.all x gs (set_typed (Some gs) (fields env.site.all x) is) s f
    (set_has fr gs (fields env.site.all x) is s.types s.known h)

new_lawful : (fr : Frame) (env : Env) (at : Span) (p : Path) (gs : List Given) (is : List Init) (o : Option Struct)
    → IfThere (IsStructIn fr.structs env.site.all) o → Every (GivenFits (struct_sorts fr.structs) fr.generics) gs
    → Every (InitLawful fr) is
    → JudgedLawful fr (judged_new env at p gs is o)
new_lawful fr env at p gs is None s f h = unless_lawful fr env at None _ tt
new_lawful fr env at p gs is (Some x) s f h =
    unless_lawful fr env at
    (made_typed x.number (fitted env.site p (declared_sorts x) gs).of
    (set_typed (fitted env.site p (declared_sorts x) gs).of (fields env.site.all x) is)) _
    (made_lawful fr env at x (fitted env.site p (declared_sorts x) gs).of is s
    (fitted_fits (struct_sorts fr.structs) fr.generics env.site p (declared_sorts x) gs f) h)

-- CALLS

passed_has : (fr : Frame) (gs : TypeOf) (ms : List Member) (js : List Judged) (ts : List TypeOf)
    → all_known (map (λ m. m.1) ms) ≡ Some ts → Every (JudgedLawful fr) js
    → IfThere (ListHas fr (subst gs (list_of ts))) (passed (Some gs) ms js)
passed_has fr gs [] [] ts k h = (refl, ap (λ (us : List TypeOf). subst gs (list_of us)) (some_same [] ts k))
passed_has fr gs [] (j ∷ js) ts k h = tt
passed_has fr gs (m ∷ ms) [] ts k h = tt
passed_has fr gs (m ∷ ms) (j ∷ js) ts k h =
    let p = known_parts m.1 (all_known (map (λ m. m.1) ms)) ts k in
    transport (λ (us : List TypeOf). IfThere (ListHas fr (subst gs (list_of us))) (passed (Some gs) (m ∷ ms) (j ∷ js)))
    p.are
    (then_has fr (subst gs p.first) (subst gs (list_of p.others)) (fitting_if (under (Some gs) m.1) j)
    (passed (Some gs) ms js) (one_set fr gs p.first m.1 j p.first_is h.0)
    (passed_has fr gs ms js p.others p.others_are h.1))

call_one : (fr : Frame) (all : List Declared) (f : Function) (at : Span) (gs : TypeOf) (o : Option typed.PlainExprs)
    → (s : IsFunctionIn fr.functions all f) → Fits (struct_sorts fr.structs) fr.generics (these (function_sorts f)) gs
    → IfThere (ListHas fr (subst gs (list_of s.types))) o
    → LawfulIf fr (call_typed f.number at (Some gs) (Some (subst gs (s.signature).outcome)) o)
call_one fr all f at gs None s w h = tt
call_one fr all f at gs (Some es) s w h =
    let sig = s.signature in
    let ss = struct_sorts fr.structs in
    both_true (call_fits fr (subst gs sig.outcome) gs (types_of es) (slice_get fr.functions f.number))
    (all_lawful fr es)
    (ap (call_fits fr (subst gs sig.outcome) gs (types_of es)) s.there
    ∙ both_true (fits ss fr.generics gs (these sig.generics))
    (same_type (types_of es) (subst gs sig.params) && same_type (subst gs sig.outcome)
    (subst gs sig.outcome))
    (ap (λ (ws : List Sort). fits ss fr.generics gs (these ws)) s.generics ∙ w)
    (both_true (same_type (types_of es) (subst gs sig.params))
    (same_type (subst gs sig.outcome) (subst gs sig.outcome))
    (same_of (types_of es) (subst gs sig.params) (h.1 ∙ ap (subst gs) (sym s.typed)))
    (same_self (subst gs sig.outcome)))) h.0

call_lawful_by : (fr : Frame) (env : Env) (at : Span) (f : Function) (g : Option TypeOf) (js : List Judged)
    → IsFunctionIn fr.functions env.site.all f
    → IfThere (Fits (struct_sorts fr.structs) fr.generics (these (function_sorts f))) g → Every (JudgedLawful fr) js
    → LawfulIf fr (call_typed f.number at g (under g (outcome env.site.all f)) (passed g (params env.site.all f) js))
call_lawful_by fr env at f None js s w h = tt
call_lawful_by fr env at f (Some gs) js s w h =
    transport
    (λ (t : Option TypeOf). LawfulIf fr
    (call_typed f.number at (Some gs) (under (Some gs) t) (passed (Some gs) (params env.site.all f) js)))
    (sym s.outcome)
    (call_one fr env.site.all f at gs (passed (Some gs) (params env.site.all f) js) s w
    (passed_has fr gs (params env.site.all f) js s.types s.known h))

call_lawful : (fr : Frame) (env : Env) (p : Path) (gs : List Given) (js : List Judged) (o : Option Function)
    → IfThere (IsFunctionIn fr.functions env.site.all) o → Every (GivenFits (struct_sorts fr.structs) fr.generics) gs
    → Every (JudgedLawful fr) js
    → JudgedLawful fr (judged_call env p gs js o)
call_lawful fr env p gs js None s f h = unless_lawful fr env p.first.span None _ tt
call_lawful fr env p gs js (Some x) s f h =
    unless_lawful fr env p.first.span _ _
    (call_lawful_by fr env p.first.span x (fitted env.site p (function_sorts x) gs).of js s
    (fitted_fits (struct_sorts fr.structs) fr.generics env.site p (function_sorts x) gs f) h)

-- ALL EXPRESSIONS

turbofish_fits : (fr : Frame) (env : Env) → IsFrameOf fr env → (o : Option plain.PlainTurbofish)
    → IfThere LimitedTurbofish o → Every (GivenFits (struct_sorts fr.structs) fr.generics) (turbofish_given env.site o)
turbofish_fits fr env f None l = tt
turbofish_fits fr env f (Some t) l = given_fits (struct_sorts fr.structs) fr.generics env.site (sorts_of fr env f) t.1 l

further_length : (env : Env) (ps : plain.MoreParts) → length (judge_more env ps) ≡ length (further_parts ps)
further_length env plain.last_part = refl
further_length env (plain.next_part comma e others) = ap suc (further_length env others)

parts_length : (env : Env) (ps : plain.PlainParts) → length (judge_parts env ps) ≡ length (parts_in ps)
parts_length env plain.no_parts = refl
parts_length env (plain.parts first others) = ap suc (further_length env others)

mutual
  pub judge_lawful : (fr : Frame) (env : Env) → IsFrameOf fr env → (e : plain.PlainExpr) → LimitedExpr e
      → LawfulIf fr (judge env e).typed
  judge_lawful fr env f (plain.number v at) l = refl
  judge_lawful fr env f (plain.truth at) l = refl
  judge_lawful fr env f (plain.untruth at) l = refl
  judge_lawful fr env f (plain.paren from ps to) l =
      paren_lawful fr env from (judge_parts env ps) (transport (λ (n : ℕ). n ≤ 8) (sym (parts_length env ps)) l.0)
      (parts_lawful fr env f ps l.1)
  judge_lawful fr env f (plain.new_struct at p generics from is to) l =
      new_lawful fr env at p (turbofish_given env.site generics) (judge_inits env is)
      (struct_meant env.site.all env.site.modules p)
      (struct_meant_holds (IsStructIn fr.structs env.site.all) (IsFunctionIn fr.functions env.site.all) _
      env.site.all env.site.modules p f.items) (turbofish_fits fr env f generics l.1)
      (inits_lawful fr env f is l.2)
  judge_lawful fr env f (plain.path p) l =
      path_lawful fr env p (value_named env p)
      (value_holds (IsLocalIn fr.locals) (λ (k : ℕ). slice_get fr.generics k ≡ Some of_number)
      (λ (n : ℕ). n < fr.consts) env p f.locals
      (number_generic_there env.site.generics fr.generics (texts_of p) f.generics)
      (const_meant_holds (IsStructIn fr.structs env.site.all) (IsFunctionIn fr.functions env.site.all)
      (λ (n : ℕ). n < fr.consts) env.site.all env.site.modules p f.items))
  judge_lawful fr env f (plain.call p generics from ps to) l =
      call_lawful fr env p (turbofish_given env.site generics) (judge_parts env ps)
      (function_meant env.site.all env.site.modules p)
      (function_meant_holds (IsStructIn fr.structs env.site.all) (IsFunctionIn fr.functions env.site.all) _
      env.site.all env.site.modules p f.items) (turbofish_fits fr env f generics l.1)
      (parts_lawful fr env f ps l.2)
  judge_lawful fr env f (plain.field inner dot s) l =
      field_lawful fr env (judge env inner) s (judge env inner).typed f (judge_lawful fr env f inner l)
  judge_lawful fr env f (plain.unary_of op at inner) l =
      unary_lawful fr op (fitting (unary_type op) (judge env inner))
      (fitting_has fr (unary_type op) (judge env inner).typed (judge_lawful fr env f inner l))
  judge_lawful fr env f (plain.binary_of left op at right) l =
      operands_lawful fr env (result_type op) (typed_binary_op op) (judge env left) (judge env right) (operand_type op)
      (binary_known op) (binary_scalar op) (judge_lawful fr env f left l.0) (judge_lawful fr env f right l.1)

  parts_lawful : (fr : Frame) (env : Env) → IsFrameOf fr env → (ps : plain.PlainParts) → LimitedParts ps
      → Every (JudgedLawful fr) (judge_parts env ps)
  parts_lawful fr env f plain.no_parts l = tt
  parts_lawful fr env f (plain.parts first others) l =
      (judge_lawful fr env f first l.0, more_lawful fr env f others l.1)

  more_lawful : (fr : Frame) (env : Env) → IsFrameOf fr env → (ps : plain.MoreParts) → LimitedMoreParts ps
      → Every (JudgedLawful fr) (judge_more env ps)
  more_lawful fr env f plain.last_part l = tt
  more_lawful fr env f (plain.next_part comma e others) l =
      (judge_lawful fr env f e l.0, more_lawful fr env f others l.1)

  inits_lawful : (fr : Frame) (env : Env) → IsFrameOf fr env → (is : plain.PlainInits) → LimitedInits is
      → Every (InitLawful fr) (judge_inits env is)
  inits_lawful fr env f plain.no_inits l = tt
  inits_lawful fr env f (plain.inits name colon e others) l =
      (judge_lawful fr env f e l.0, more_inits_lawful fr env f others l.1)

  more_inits_lawful : (fr : Frame) (env : Env) → IsFrameOf fr env → (is : plain.MoreInits) → LimitedMoreInits is
      → Every (InitLawful fr) (judge_more_inits env is)
  more_inits_lawful fr env f plain.last_init l = tt
  more_inits_lawful fr env f (plain.next_init comma name colon e others) l =
      (judge_lawful fr env f e l.0, more_inits_lawful fr env f others l.1)

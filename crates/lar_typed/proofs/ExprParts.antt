use Rattle.std.proofs.Common.{◌≡◌, ℕ, ◌<◌, List, length, refl, sym, ap, ◌∙◌, Bool, true, false, Option, Some, None, arith}
use Rattle.std.specs.Prelude.{ℤ, ◌&&◌, nat_lt, slice_get}
use Rattle.lar_source.specs.declared.file.Span.{Span}
use Rattle.std.proofs.lemmas.Bool.{ltb-true}
use Rattle.std.proofs.lemmas.Option.{slice_get_within}
use Rattle.type_table.specs.declared.sort.Sort.{Sort}
use Rattle.type_table.specs.declared.sort.Sort.TheVariants.{Ty as of_type, Number as of_number}
use Rattle.type_table.specs.TypeOf.{TypeOf, int, bool, param, number, end, more, tuple, struct}
use Rattle.type_table.specs.Substitution.{subst, count}
use Rattle.type_table.specs.Lawful.{one, these, wants, is_tuple_count}
use Rattle.lar_typed.specs.declared.op.UnaryOp.{UnaryOp}
use Rattle.lar_typed.specs.declared.op.BinaryOp.{BinaryOp}
use Rattle.lar_typed.specs.Exprs.{PlainExpr, PlainExprs, truth, local, constant, generic, tuple_of, made, part, unary, binary, call, no_exprs, exprs, label_of}
use Rattle.lar_typed.specs.Exprs as expr
use Rattle.lar_typed.specs.SameType.{same_type, is_type}
use Rattle.lar_typed.specs.Trees.{PlainStruct}
use Rattle.lar_typed.specs.Lawful.{Signature, Frame, type_fits, part_type, unary_fits, binary_fits, fields_are, made_fits, call_fits, types_of, lawful, all_lawful}
use Rattle.lar_typed.specs.Parts.{LocalParts, ConstantParts, GenericParts, TupleParts, MadeParts, CallParts}
use Rattle.lar_typed.proofs.SameTypes.{and_true, same_means, is_type_means}

pub int_parts : (fr : Frame) (t : TypeOf) (v : ℤ) → lawful fr (expr.int t v) ≡ true → t ≡ int
int_parts fr t v h = same_means t int h

pub truth_parts : (fr : Frame) (t : TypeOf) (b : Bool) → lawful fr (truth t b) ≡ true → t ≡ bool
truth_parts fr t b h = same_means t bool h

pub local_parts : (fr : Frame) (t : TypeOf) (n : ℕ) → lawful fr (local t n) ≡ true → LocalParts fr t n
local_parts fr t n h =
    let there : slice_get fr.locals n ≡ Some t = is_type_means t (slice_get fr.locals n) h in
    record { there = slice_get_within fr.locals n t there; of = there }

pub constant_parts : (fr : Frame) (t : TypeOf) (n : ℕ) → lawful fr (constant t n) ≡ true → ConstantParts fr t n
constant_parts fr t n h =
    let p : (same_type t int ≡ true) × (nat_lt n fr.consts ≡ true) = and_true (same_type t int) (nat_lt n fr.consts) h in
    record { there = ltb-true n fr.consts p.1; of = same_means t int p.0 }

number_there : (o : Option Sort) → wants (one of_number) o ≡ true → o ≡ Some of_number
number_there None h = cc
number_there (Some of_number) h = refl
number_there (Some of_type) h = cc

pub generic_parts : (fr : Frame) (t : TypeOf) (k : ℕ) → lawful fr (generic t k) ≡ true → GenericParts fr t k
generic_parts fr t k h =
    let p : (same_type t int ≡ true) × (wants (one of_number) (slice_get fr.generics k) ≡ true) = and_true (same_type t int) (wants (one of_number) (slice_get fr.generics k)) h in
    let there : slice_get fr.generics k ≡ Some of_number = number_there (slice_get fr.generics k) p.1 in
    record { there = slice_get_within fr.generics k of_number there; sort = there; of = same_means t int p.0 }

pub tuple_parts : (fr : Frame) (t : TypeOf) (es : PlainExprs) → lawful fr (tuple_of t es) ≡ true → TupleParts fr t es
tuple_parts fr t es h =
    let p : (same_type t (tuple (types_of es)) ≡ true) × ((is_tuple_count (count (types_of es)) && all_lawful fr es) ≡ true) = and_true (same_type t (tuple (types_of es))) (is_tuple_count (count (types_of es)) && all_lawful fr es) h in
    let q : (is_tuple_count (count (types_of es)) ≡ true) × (all_lawful fr es ≡ true) = and_true (is_tuple_count (count (types_of es))) (all_lawful fr es) p.1 in
    record { of = same_means t (tuple (types_of es)) p.0; counted = q.0; lawful_parts = q.1 }

record Declared (fr : Frame) (n : ℕ) (gs ts : TypeOf) : Type 0 where
  decl : PlainStruct
  there : slice_get fr.structs n ≡ Some decl
  are : ts ≡ subst gs decl.fields

declared_by : (fr : Frame) (n : ℕ) (gs ts : TypeOf) (o : Option PlainStruct) → slice_get fr.structs n ≡ o → fields_are gs ts o ≡ true → Declared fr n gs ts
declared_by fr n gs ts None e h = absurd (no_fields h)
  where
    no_fields : false ≡ true → ⊥
    no_fields x = cc
declared_by fr n gs ts (Some s) e h = record { decl = s; there = e; are = same_means ts (subst gs s.fields) h }

pub made_parts : (fr : Frame) (t : TypeOf) (es : PlainExprs) → lawful fr (made t es) ≡ true → MadeParts fr t es
made_parts fr t es h =
    let p : (type_fits fr t (one of_type) ≡ true) × ((made_fits fr.structs t (types_of es) && all_lawful fr es) ≡ true) = and_true (type_fits fr t (one of_type)) (made_fits fr.structs t (types_of es) && all_lawful fr es) h in
    let q : (made_fits fr.structs t (types_of es) ≡ true) × (all_lawful fr es ≡ true) = and_true (made_fits fr.structs t (types_of es)) (all_lawful fr es) p.1 in
    by_type t p.0 q.0 q.1
  where
    by_type : (u : TypeOf) → type_fits fr u (one of_type) ≡ true → made_fits fr.structs u (types_of es) ≡ true → all_lawful fr es ≡ true → MadeParts fr u es
    by_type (struct n gs) f m l =
        let d : Declared fr n gs (types_of es) = declared_by fr n gs (types_of es) (slice_get fr.structs n) refl m in
        record { number = n; generics = gs; struct_decl = d.decl; of = refl; fits = f; decl_there = d.there; fields_are = d.are; lawful_fields = l }
    by_type int f m l = absurd (cc)
    by_type bool f m l = absurd (cc)
    by_type (param k) f m l = absurd (cc)
    by_type (number v) f m l = absurd (cc)
    by_type end f m l = absurd (cc)
    by_type (more u us) f m l = absurd (cc)
    by_type (tuple us) f m l = absurd (cc)

pub field_parts : (fr : Frame) (t : TypeOf) (e : PlainExpr) (k : ℕ) → lawful fr (part t e k) ≡ true → (part_type fr.structs (label_of e) k ≡ Some t) × (lawful fr e ≡ true)
field_parts fr t e k h =
    let p : (is_type t (part_type fr.structs (label_of e) k) ≡ true) × (lawful fr e ≡ true) = and_true (is_type t (part_type fr.structs (label_of e) k)) (lawful fr e) h in
    (is_type_means t (part_type fr.structs (label_of e) k) p.0, p.1)

pub unary_parts : (fr : Frame) (t : TypeOf) (op : UnaryOp) (e : PlainExpr) → lawful fr (unary t op e) ≡ true → (unary_fits op t (label_of e) ≡ true) × (lawful fr e ≡ true)
unary_parts fr t op e h = and_true (unary_fits op t (label_of e)) (lawful fr e) h

pub binary_parts : (fr : Frame) (t : TypeOf) (op : BinaryOp) (a b : PlainExpr) → lawful fr (binary t op a b) ≡ true → (binary_fits op t (label_of a) (label_of b) ≡ true) × (lawful fr a ≡ true) × (lawful fr b ≡ true)
binary_parts fr t op a b h =
    let p : (binary_fits op t (label_of a) (label_of b) ≡ true) × ((lawful fr a && lawful fr b) ≡ true) = and_true (binary_fits op t (label_of a) (label_of b)) (lawful fr a && lawful fr b) h in
    let q : (lawful fr a ≡ true) × (lawful fr b ≡ true) = and_true (lawful fr a) (lawful fr b) p.1 in
    (p.0, q.0, q.1)

record Called (fr : Frame) (t : TypeOf) (n : ℕ) (gs ts : TypeOf) : Type 0 where
  signature : Signature
  there : slice_get fr.functions n ≡ Some signature
  fit : type_fits fr gs (these signature.generics) ≡ true
  are : ts ≡ subst gs signature.params
  of : t ≡ subst gs signature.outcome

called_by : (fr : Frame) (t : TypeOf) (n : ℕ) (gs ts : TypeOf) (o : Option Signature) → slice_get fr.functions n ≡ o → call_fits fr t gs ts o ≡ true → Called fr t n gs ts
called_by fr t n gs ts None e h = absurd (no_call h)
  where
    no_call : false ≡ true → ⊥
    no_call x = cc
called_by fr t n gs ts (Some f) e h =
    let p : (type_fits fr gs (these f.generics) ≡ true) × ((same_type ts (subst gs f.params) && same_type t (subst gs f.outcome)) ≡ true) = and_true (type_fits fr gs (these f.generics)) (same_type ts (subst gs f.params) && same_type t (subst gs f.outcome)) h in
    let q : (same_type ts (subst gs f.params) ≡ true) × (same_type t (subst gs f.outcome) ≡ true) = and_true (same_type ts (subst gs f.params)) (same_type t (subst gs f.outcome)) p.1 in
    record { signature = f; there = e; fit = p.0; are = same_means ts (subst gs f.params) q.0; of = same_means t (subst gs f.outcome) q.1 }

pub call_parts : (fr : Frame) (t : TypeOf) (n : ℕ) (gs : TypeOf) (es : PlainExprs) (at : Span) → lawful fr (call t n gs es at) ≡ true → CallParts fr t n gs es
call_parts fr t n gs es at h =
    let p : (call_fits fr t gs (types_of es) (slice_get fr.functions n) ≡ true) × (all_lawful fr es ≡ true) = and_true (call_fits fr t gs (types_of es) (slice_get fr.functions n)) (all_lawful fr es) h in
    let d : Called fr t n gs (types_of es) = called_by fr t n gs (types_of es) (slice_get fr.functions n) refl p.0 in
    record { signature = d.signature; there = slice_get_within fr.functions n d.signature d.there; signature_there = d.there; generics_fit = d.fit; args_are = d.are; of = d.of; lawful_args = p.1 }

pub list_parts : (fr : Frame) (e : PlainExpr) (es : PlainExprs) → all_lawful fr (exprs e es) ≡ true → (lawful fr e ≡ true) × (all_lawful fr es ≡ true)
list_parts fr e es h = and_true (lawful fr e) (all_lawful fr es) h

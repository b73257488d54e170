-- The types in a typed tree are lawful.
use Rattle.std.proofs.Common.{◌≡◌, ℕ, zero, suc, List, [], ◌∷◌, length, map, take, refl, sym, ap, ◌∙◌, subst as transport, Bool, true, Option, Some, None, option_map}
use Rattle.std.specs.Prelude.{◌&&◌, slice_get}
use Rattle.std.proofs.lemmas.Option.{slice_get_within, get_or_from_slice_get, slice_get-map}
use Rattle.type_table.specs.declared.sort.Sort.{Sort}
use Rattle.type_table.specs.declared.sort.Sort.TheVariants.{Ty as of_type}
use Rattle.type_table.specs.TypeOf.{TypeOf, int, bool, param, number, end, more, tuple, struct}
use Rattle.type_table.specs.Rows.{type_at}
use Rattle.type_table.specs.declared.row.Row.{Row}
use Rattle.type_table.specs.declared.decl.StructDecl.{StructDecl}
use Rattle.type_table.specs.Depth.{fields_type, fields_of}
use Rattle.type_table.specs.Substitution.{subst, argument, count}
use Rattle.type_table.specs.Lawful.{Wanted, one, these, some_types, fits_struct, is_tuple_count, fits}
use Rattle.type_table.proofs.Replacing.{lawful_kept}
use Rattle.lar_typed.specs.declared.op.UnaryOp.{UnaryOp}
use Rattle.lar_typed.specs.declared.op.UnaryOp.TheVariants as unary_op
use Rattle.lar_typed.specs.declared.op.BinaryOp.{BinaryOp}
use Rattle.lar_typed.specs.declared.op.BinaryOp.TheVariants as binary_op
use Rattle.lar_typed.specs.Exprs.{PlainExpr, PlainExprs, truth, local, constant, generic, tuple_of, made, part, unary, binary, call, no_exprs, exprs, label_of}
use Rattle.lar_typed.specs.Exprs as expr
use Rattle.lar_typed.specs.SameType.{same_type, list_of}
use Rattle.lar_typed.specs.Trees.{PlainStruct, PlainFunction, PlainTree, struct_map}
use Rattle.lar_typed.specs.TreeView.{Contents, struct_view, plain}
use Rattle.lar_typed.specs.Lawful.{Signature, type_generics, struct_sorts, field_type, part_type, unary_fits, binary_fits, types_of, lawful, all_lawful}
use Rattle.lar_typed.specs.IsTyped.{signature_of, frame_of, IsStruct, IsFunction, IsTyped}
use Rattle.lar_typed.specs.Parts.{TupleParts, CallParts}
use Rattle.lar_typed.proofs.SameTypes.{and_true, both_true, same_means}
use Rattle.lar_typed.proofs.ExprParts.{int_parts, truth_parts, local_parts, constant_parts, generic_parts, tuple_parts, made_parts, field_parts, unary_parts, binary_parts, call_parts, list_parts}

-- ---- structs and functions by their places
abbrev decl_plain : List Row → StructDecl → PlainStruct
decl_plain rows s = struct_map (type_at rows) (struct_view s)

plain_struct : (tree : Contents) (n : ℕ) → slice_get (plain tree).structs n ≡ option_map (decl_plain tree.rows) (slice_get tree.structs n)
plain_struct tree n = by_list tree.structs n
  where
    by_list : (ss : List StructDecl) (k : ℕ) → slice_get (map (struct_map (type_at tree.rows)) (map struct_view ss)) k ≡ option_map (decl_plain tree.rows) (slice_get ss k)
    by_list [] k = refl
    by_list (s ∷ ss) zero = refl
    by_list (s ∷ ss) (suc k) = by_list ss k

-- the fields of a struct that is there
pub fields_are : (tree : Contents) (n : ℕ) (d : PlainStruct) → slice_get (plain tree).structs n ≡ Some d → fields_of tree.rows tree.structs n ≡ d.fields
fields_are tree n d h = by_option (slice_get tree.structs n) (sym (plain_struct tree n) ∙ h)
  where
    by_option : (o : Option StructDecl) → option_map (decl_plain tree.rows) o ≡ Some d → fields_type tree.rows o ≡ d.fields
    by_option None e = cc
    by_option (Some s) e = let same : decl_plain tree.rows s ≡ d = cc in ap (λ (x : PlainStruct). x.fields) same

pub struct_is_typed : (tree : PlainTree) (n : ℕ) (d : PlainStruct) → IsTyped tree → slice_get tree.structs n ≡ Some d → IsStruct tree d
struct_is_typed tree n d t h = transport (IsStruct tree) (get_or_from_slice_get tree.structs n d d h) (t.structs n d (slice_get_within tree.structs n d h))

pub function_is_typed : (tree : PlainTree) (n : ℕ) (f : PlainFunction) → IsTyped tree → slice_get tree.functions n ≡ Some f → IsFunction tree f
function_is_typed tree n f t h = transport (IsFunction tree) (get_or_from_slice_get tree.functions n f f h) (t.functions n f (slice_get_within tree.functions n f h))

pub record Signed (tree : PlainTree) (n : ℕ) (s : Signature) : Type 0 where
  pub function : PlainFunction
  pub there : slice_get tree.functions n ≡ Some function
  pub is : s ≡ signature_of function

-- the function of a signature
pub signed : (tree : PlainTree) (n : ℕ) (s : Signature) → slice_get (map signature_of tree.functions) n ≡ Some s → Signed tree n s
signed tree n s h = by_option (slice_get tree.functions n) refl (sym (slice_get-map signature_of tree.functions n) ∙ h)
  where
    by_option : (o : Option PlainFunction) → slice_get tree.functions n ≡ o → option_map signature_of o ≡ Some s → Signed tree n s
    by_option None at e = cc
    by_option (Some f) at e = record { function = f; there = at; is = cc }

sorts_at : (structs : List PlainStruct) (n : ℕ) (d : PlainStruct) → slice_get structs n ≡ Some d → slice_get (struct_sorts structs) n ≡ Some (type_generics d.generics)
sorts_at structs n d h = slice_get-map (λ (s : PlainStruct). type_generics s.generics) structs n ∙ ap (option_map (λ (s : PlainStruct). type_generics s.generics)) h

-- the arguments of a lawful struct type are of the sorts of its generics
pub struct_fits : (structs : List PlainStruct) (generics : List Sort) (n : ℕ) (d : PlainStruct) (gs : TypeOf) → slice_get structs n ≡ Some d → fits (struct_sorts structs) generics (struct n gs) (one of_type) ≡ true → fits (struct_sorts structs) generics gs (these (type_generics d.generics)) ≡ true
struct_fits structs generics n d gs h f = by (slice_get (struct_sorts structs) n) (sorts_at structs n d h) f
  where
    by : (o : Option (List Sort)) → o ≡ Some (type_generics d.generics) → fits_struct (fits (struct_sorts structs) generics gs) o ≡ true → fits (struct_sorts structs) generics gs (these (type_generics d.generics)) ≡ true
    by None e g = cc
    by (Some ss) e g = let same : ss ≡ type_generics d.generics = cc in transport (λ (xs : List Sort). fits (struct_sorts structs) generics gs (these xs) ≡ true) same g

-- ---- lists
-- a list has as many members as it is wanted to have
pub count_fits : (structs : List (List Sort)) (generics ss : List Sort) (a : TypeOf) → fits structs generics a (these ss) ≡ true → count a ≡ length ss
count_fits structs generics [] end h = refl
count_fits structs generics (s ∷ ss) end h = cc
count_fits structs generics [] (more t ts) h = cc
count_fits structs generics (s ∷ ss) (more t ts) h = ap suc (count_fits structs generics ss ts (and_true (fits structs generics t (one s)) (fits structs generics ts (these ss)) h).1)
count_fits structs generics ss int h = cc
count_fits structs generics ss bool h = cc
count_fits structs generics ss (param k) h = cc
count_fits structs generics ss (number v) h = cc
count_fits structs generics ss (tuple ts) h = cc
count_fits structs generics ss (struct n ts) h = cc

-- a member of a list of types
pub member_fits : (structs : List (List Sort)) (generics : List Sort) (ts t : TypeOf) (k : ℕ) → fits structs generics ts some_types ≡ true → argument ts k ≡ Some t → fits structs generics t (one of_type) ≡ true
member_fits structs generics (more u us) t zero h e =
    let same : u ≡ t = cc in
    transport (λ (x : TypeOf). fits structs generics x (one of_type) ≡ true) same (and_true (fits structs generics u (one of_type)) (fits structs generics us some_types) h).0
member_fits structs generics (more u us) t (suc k) h e = member_fits structs generics us t k (and_true (fits structs generics u (one of_type)) (fits structs generics us some_types) h).1 e
member_fits structs generics int t k h e = cc
member_fits structs generics bool t k h e = cc
member_fits structs generics (param j) t k h e = cc
member_fits structs generics (number v) t k h e = cc
member_fits structs generics end t k h e = cc
member_fits structs generics (tuple us) t k h e = cc
member_fits structs generics (struct n us) t k h e = cc

-- the types of the first locals
pub first_fit : (structs : List (List Sort)) (generics : List Sort) (k : ℕ) (ts : List TypeOf) → fits structs generics (list_of ts) some_types ≡ true → fits structs generics (list_of (take k ts)) some_types ≡ true
first_fit structs generics zero ts h = refl
first_fit structs generics (suc k) [] h = refl
first_fit structs generics (suc k) (t ∷ ts) h =
    let p = and_true (fits structs generics t (one of_type)) (fits structs generics (list_of ts) some_types) h in
    both_true (fits structs generics t (one of_type)) (fits structs generics (list_of (take k ts)) some_types) p.0 (first_fit structs generics k ts p.1)

pub listed_fits : (structs : List (List Sort)) (generics : List Sort) (ts : List TypeOf) (t : TypeOf) (n : ℕ) → fits structs generics (list_of ts) some_types ≡ true → slice_get ts n ≡ Some t → fits structs generics t (one of_type) ≡ true
listed_fits structs generics [] t n h e = cc
listed_fits structs generics (u ∷ us) t zero h e =
    let same : u ≡ t = cc in
    transport (λ (x : TypeOf). fits structs generics x (one of_type) ≡ true) same (and_true (fits structs generics u (one of_type)) (fits structs generics (list_of us) some_types) h).0
listed_fits structs generics (u ∷ us) t (suc n) h e = listed_fits structs generics us t n (and_true (fits structs generics u (one of_type)) (fits structs generics (list_of us) some_types) h).1 e

-- ---- parts
tuple_fits : (structs : List (List Sort)) (generics : List Sort) (ts : TypeOf) → fits structs generics (tuple ts) (one of_type) ≡ true → fits structs generics ts some_types ≡ true
tuple_fits structs generics ts h = (and_true (is_tuple_count (count ts)) (fits structs generics ts some_types) h).1

-- a part of a value with a lawful type has a lawful type
pub part_fits : (tree : PlainTree) (generics : List Sort) (u t : TypeOf) (k : ℕ) → IsTyped tree → fits (struct_sorts tree.structs) generics u (one of_type) ≡ true → part_type tree.structs u k ≡ Some t → fits (struct_sorts tree.structs) generics t (one of_type) ≡ true
part_fits tree generics (tuple ts) t k typed h e = member_fits (struct_sorts tree.structs) generics ts t k (tuple_fits (struct_sorts tree.structs) generics ts h) e
part_fits tree generics (struct n gs) t k typed h e = by (slice_get tree.structs n) refl e
  where
    by : (o : Option PlainStruct) → slice_get tree.structs n ≡ o → field_type gs k o ≡ Some t → fits (struct_sorts tree.structs) generics t (one of_type) ≡ true
    by None at g = cc
    by (Some d) at g =
        member_fits (struct_sorts tree.structs) generics (subst gs d.fields) t k
        (lawful_kept (struct_sorts tree.structs) (type_generics d.generics) generics gs d.fields some_types (struct_fits tree.structs generics n d gs at h) (struct_is_typed tree n d typed at).lawful_fields) g
part_fits tree generics int t k typed h e = cc
part_fits tree generics bool t k typed h e = cc
part_fits tree generics (param j) t k typed h e = cc
part_fits tree generics (number v) t k typed h e = cc
part_fits tree generics end t k typed h e = cc
part_fits tree generics (more us vs) t k typed h e = cc

-- ---- labels
int_or_bool : (structs : List (List Sort)) (generics : List Sort) (t : TypeOf) (b : Bool) → (same_type t int && b) ≡ true → fits structs generics t (one of_type) ≡ true
int_or_bool structs generics t b h = transport (λ (x : TypeOf). fits structs generics x (one of_type) ≡ true) (sym (same_means t int (and_true (same_type t int) b h).0)) refl

bool_or_int : (structs : List (List Sort)) (generics : List Sort) (t : TypeOf) (b : Bool) → (same_type t bool && b) ≡ true → fits structs generics t (one of_type) ≡ true
bool_or_int structs generics t b h = transport (λ (x : TypeOf). fits structs generics x (one of_type) ≡ true) (sym (same_means t bool (and_true (same_type t bool) b h).0)) refl

unary_label : (structs : List (List Sort)) (generics : List Sort) (op : UnaryOp) (t a : TypeOf) → unary_fits op t a ≡ true → fits structs generics t (one of_type) ≡ true
unary_label structs generics unary_op.Minus t a h = int_or_bool structs generics t _ h
unary_label structs generics unary_op.Not t a h = bool_or_int structs generics t _ h

binary_label : (structs : List (List Sort)) (generics : List Sort) (op : BinaryOp) (t a b : TypeOf) → binary_fits op t a b ≡ true → fits structs generics t (one of_type) ≡ true
binary_label structs generics binary_op.Or t a b h = bool_or_int structs generics t _ h
binary_label structs generics binary_op.And t a b h = bool_or_int structs generics t _ h
binary_label structs generics binary_op.Equal t a b h = bool_or_int structs generics t _ h
binary_label structs generics binary_op.NotEqual t a b h = bool_or_int structs generics t _ h
binary_label structs generics binary_op.Less t a b h = bool_or_int structs generics t _ h
binary_label structs generics binary_op.AtMost t a b h = bool_or_int structs generics t _ h
binary_label structs generics binary_op.Greater t a b h = bool_or_int structs generics t _ h
binary_label structs generics binary_op.AtLeast t a b h = bool_or_int structs generics t _ h
binary_label structs generics binary_op.Plus t a b h = int_or_bool structs generics t _ h
binary_label structs generics binary_op.Minus t a b h = int_or_bool structs generics t _ h
binary_label structs generics binary_op.Star t a b h = int_or_bool structs generics t _ h
binary_label structs generics binary_op.Slash t a b h = int_or_bool structs generics t _ h
binary_label structs generics binary_op.Percent t a b h = int_or_bool structs generics t _ h

module _ (tree : PlainTree) (typed : IsTyped tree) (f : PlainFunction) (function : IsFunction tree f) where
  abbrev Fits : TypeOf → Wanted → Type 0
  Fits t w = fits (struct_sorts tree.structs) f.generics t w ≡ true

  type_of_call : (t : TypeOf) (n : ℕ) (gs : TypeOf) (es : PlainExprs) → CallParts (frame_of tree f) t n gs es → Fits t (one of_type)
  type_of_call t n gs es p =
      let g : Signed tree n p.signature = signed tree n p.signature p.signature_there in
      let fit : Fits gs (these (g.function).generics) = transport (λ (s : Signature). Fits gs (these s.generics)) g.is p.generics_fit in
      let of : t ≡ subst gs (g.function).outcome = p.of ∙ ap (λ (s : Signature). subst gs s.outcome) g.is in
      transport (λ (x : TypeOf). Fits x (one of_type)) (sym of) (lawful_kept (struct_sorts tree.structs) (g.function).generics f.generics gs (g.function).outcome (one of_type) fit (function_is_typed tree n g.function typed g.there).lawful_outcome)

  mutual
    -- the type of a lawful expression is lawful
    pub label_fits : (e : PlainExpr) → lawful (frame_of tree f) e ≡ true → Fits (label_of e) (one of_type)
    label_fits (expr.int t v) h = transport (λ (x : TypeOf). Fits x (one of_type)) (sym (int_parts (frame_of tree f) t v h)) refl
    label_fits (truth t b) h = transport (λ (x : TypeOf). Fits x (one of_type)) (sym (truth_parts (frame_of tree f) t b h)) refl
    label_fits (local t n) h = listed_fits (struct_sorts tree.structs) f.generics f.locals t n function.lawful_locals (local_parts (frame_of tree f) t n h).of
    label_fits (constant t n) h = transport (λ (x : TypeOf). Fits x (one of_type)) (sym (constant_parts (frame_of tree f) t n h).of) refl
    label_fits (generic t k) h = transport (λ (x : TypeOf). Fits x (one of_type)) (sym (generic_parts (frame_of tree f) t k h).of) refl
    label_fits (tuple_of t es) h =
        let p : TupleParts (frame_of tree f) t es = tuple_parts (frame_of tree f) t es h in
        transport (λ (x : TypeOf). Fits x (one of_type)) (sym p.of) (both_true (is_tuple_count (count (types_of es))) (fits (struct_sorts tree.structs) f.generics (types_of es) some_types) p.counted (labels_fit es p.lawful_parts))
    label_fits (made t es) h = (made_parts (frame_of tree f) t es h).fits
    label_fits (part t e k) h =
        let p = field_parts (frame_of tree f) t e k h in
        part_fits tree f.generics (label_of e) t k typed (label_fits e p.1) p.0
    label_fits (unary t op e) h = unary_label (struct_sorts tree.structs) f.generics op t (label_of e) (unary_parts (frame_of tree f) t op e h).0
    label_fits (binary t op a b) h = binary_label (struct_sorts tree.structs) f.generics op t (label_of a) (label_of b) (binary_parts (frame_of tree f) t op a b h).0
    label_fits (call t n gs es at) h = type_of_call t n gs es (call_parts (frame_of tree f) t n gs es at h)

    pub labels_fit : (es : PlainExprs) → all_lawful (frame_of tree f) es ≡ true → Fits (types_of es) some_types
    labels_fit no_exprs h = refl
    labels_fit (exprs e es) h =
        let p = list_parts (frame_of tree f) e es h in
        both_true (fits (struct_sorts tree.structs) f.generics (label_of e) (one of_type)) (fits (struct_sorts tree.structs) f.generics (types_of es) some_types) (label_fits e p.0) (labels_fit es p.1)

-- Each item of a typed program is there for who names it.
use Rattle.std.proofs.Common.{◌≡◌, ℕ, suc, ◌<◌, ◌≤◌, refl, sym, ap, ◌∙◌, subst as transport, arith, true, List, [], ◌∷◌, ◌++◌, length, map, take, Option, Some, None, option_map}
use Rattle.std.proofs.lemmas.Option.{slice_get-map}
use Rattle.std.proofs.lemmas.List.{length-map}
use Rattle.type_table.specs.TypeOf.{TypeOf}
use Rattle.type_table.specs.Lawful.{one, some_types, fits}
use Rattle.type_table.specs.Substitution.{count}
use Rattle.type_table.specs.declared.sort.Sort.{Sort}
use Rattle.type_table.specs.declared.sort.Sort.TheVariants.{Ty as of_type}
use Rattle.lar_typed.specs.SameType.{list_of}
use Rattle.lar_typed.specs.Trees.{PlainTree, PlainFunction as TypedFunction, PlainStruct as TypedStruct}
use Rattle.lar_typed.specs.IsTyped.{signature_of}
use Rattle.lar_typed.proofs.SameTypes.{both_true}
use Rattle.lar_tree.specs.Lawful.{Every, AtMost, LimitedField}
use Rattle.lar_tree.specs.Items.{PlainField}
use Rattle.lar_tree.specs.declared.commas.Commas.{Commas}
use Rattle.lar_tree.specs.Stmts.{IfThere}
use Rattle.lar_rules.specs.Declared.{Declared, Struct, Function}
use Rattle.lar_rules.specs.Written.{Site}
use Rattle.lar_rules.specs.Signatures.{member, function_site, list_in, params}
use Rattle.lar_rules.specs.Functions.{entry_state, body_of}
use Rattle.lar_rules.specs.Faults.{none_yet}
use Rattle.lar_rules.specs.Checked.{then_known, all_known}
use Rattle.lar_sound.specs.Items.{EachItem}
use Rattle.lar_sound.specs.Frames.{IsStructIn, IsFunctionIn, AreItemsIn, AreSortsOf}
use Rattle.lar_sound.proofs.Known.{some_same}
use Rattle.lar_sound.proofs.ItemsMeant.{each_map}
use Rattle.lar_sound.proofs.FramesFit.{known_parts}
use Rattle.lar_sound.proofs.WrittenLawful.{Fits, written_fits}
use Rattle.lar_sound.proofs.StmtsAfter.{Types, AreTypes, block_after}
use Rattle.lar_sound.proofs.TreeItems.{StructThere, FunctionThere}
use Rattle.lar_sound.proofs.TypedParts.{struct_parts, function_made}

-- LISTS OF TYPES

-- what is known of a front is a front of what is known
pub known_front : (xs zs : Types) (ts : List TypeOf) → all_known (xs ++ zs) ≡ Some ts
    → all_known xs ≡ Some (take (length xs) ts)
known_front [] zs ts e = refl
known_front (x ∷ xs) zs ts e =
    let p = known_parts x (all_known (xs ++ zs)) ts e in
    let r = known_front xs zs p.others p.others_are in
    ap (λ (o : Option TypeOf). then_known o (all_known xs)) p.first_is ∙ ap (then_known (Some p.first)) r
    ∙ ap (λ (us : List TypeOf). Some (take (suc (length xs)) us)) p.are

pub list_fits : (ss : List (List Sort)) (gens : List Sort) (os : Types) (ts : List TypeOf) → AreTypes ss gens os
    → all_known os ≡ Some ts → fits ss gens (list_of ts) some_types ≡ true
list_fits ss gens [] ts h e = ap (λ (us : List TypeOf). fits ss gens (list_of us) some_types) (sym (some_same [] ts e))
list_fits ss gens (o ∷ os) ts h e =
    let p = known_parts o (all_known os) ts e in
    let f : fits ss gens p.first (one of_type) ≡ true =
    transport (λ (x : Option TypeOf). IfThere (Fits ss gens (one of_type)) x) p.first_is h.0 in
    ap (λ (us : List TypeOf). fits ss gens (list_of us) some_types) (sym p.are)
    ∙ both_true (fits ss gens p.first (one of_type)) (fits ss gens (list_of p.others) some_types) f
    (list_fits ss gens os p.others h.1 p.others_are)

pub member_types : (ss : List (List Sort)) (gens : List Sort) (s : Site) → AreSortsOf ss gens s → (fs : List PlainField)
    → Every LimitedField fs → AreTypes ss gens (map (λ m. m.1) (map (member s) fs))
member_types ss gens s a [] l = tt
member_types ss gens s a (f ∷ fs) l = (written_fits ss gens s a f.2 (l.0).1, member_types ss gens s a fs l.1)

pub count_list : (ts : List TypeOf) → count (list_of ts) ≡ length ts
count_list [] = refl
count_list (t ∷ ts) = ap suc (count_list ts)

pub limited_list : (n : ℕ) (o : Option (Commas PlainField)) → IfThere (AtMost n LimitedField) o
    → (length (list_in o) ≤ n) × Every LimitedField (list_in o)
limited_list n None h = (omega arith, tt)
limited_list n (Some c) h = h

pub members_length : (s : Site) (fs : List PlainField) → length (map (λ m. m.1) (map (member s) fs)) ≡ length fs
members_length s fs = length-map (map (member s) fs) (λ m. m.1) ∙ length-map fs (member s)

-- ITEMS

struct_in : (t : PlainTree) (all : List Declared) (x : Struct) → StructThere t all x → IsStructIn t.structs all x
struct_in t all x s =
    let p = struct_parts all x s.it s.typed in
    record {
      decl = s.it;
      types = p.types;
      there = s.there;
      generics = ap (λ (y : TypedStruct). y.generics) (sym p.is);
      known = p.known;
      typed = ap (λ (y : TypedStruct). y.fields) (sym p.is);
    }

function_in : (t : PlainTree) (all : List Declared) (x : Function) → FunctionThere t all x
    → IsFunctionIn (map signature_of t.functions) all x
function_in t all x s =
    let m = function_made all x s.it s.typed in
    let g = (block_after (body_of all x) (entry_state all x) x.it.body).grows in
    let n : ℕ = length (list_in x.it.params) in
    let k = known_front (map (λ m. m.1) (params all x)) g.0 m.locals (ap all_known g.1 ∙ m.locals_known) in
    record {
      signature = signature_of s.it;
      types = take n m.locals;
      there = slice_get-map signature_of t.functions x.number ∙ ap (option_map signature_of) s.there;
      generics = ap (λ (y : TypedFunction). y.generics) (sym m.is);
      known = k ∙ ap (λ (i : ℕ). Some (take i m.locals)) (members_length (function_site all x) (list_in x.it.params));
      typed = ap (λ (y : TypedFunction). (signature_of y).params) (sym m.is);
      outcome = m.result_known ∙ ap (λ (y : TypedFunction). Some y.outcome) m.is;
    }

pub items_in : (t : PlainTree) (all : List Declared)
    → EachItem (StructThere t all) (FunctionThere t all) (λ (n : ℕ). n < length t.consts) none_yet all
    → AreItemsIn t.structs (map signature_of t.functions) (length t.consts) all
items_in t all h =
    each_map (StructThere t all) (IsStructIn t.structs all) (FunctionThere t all)
    (IsFunctionIn (map signature_of t.functions) all) (λ (n : ℕ). n < length t.consts)
    (λ (n : ℕ). n < length t.consts) none_yet all
    (struct_in t all) (function_in t all) (λ n k. k) h

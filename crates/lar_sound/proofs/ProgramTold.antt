-- A program without a fault is known.
use Rattle.std.proofs.Common.{◌≡◌, ℕ, suc, refl, Bool, true, false, List, [], ◌∷◌, ◌++◌, map, Option, Some, None}
use Rattle.type_table.specs.TypeOf.{TypeOf}
use Rattle.lar_typed.specs.Trees.{PlainTree, PlainFunction as TypedFunction, PlainStruct as TypedStruct}
use Rattle.lar_typed.specs.Stmts.{PlainStmts}
use Rattle.lar_tree.specs.Lawful.{Every}
use Rattle.lar_tree.specs.Items.{PlainField, PlainOutput}
use Rattle.lar_rules.specs.Fault.{Fault, least}
use Rattle.lar_rules.specs.Declared.{Source, What, a_module, a_struct, a_const, a_function, Declared, Places, past, declared, Struct, Function}
use Rattle.lar_rules.specs.Generics.{struct_generics, function_generics}
use Rattle.lar_rules.specs.Written.{Site, written}
use Rattle.lar_rules.specs.Signatures.{Member, member, struct_site, function_site, list_in, fields, params, outcome_written, outcome}
use Rattle.lar_rules.specs.Twice.{repeated, repeated_items}
use Rattle.lar_rules.specs.Structs.{field_faults, nesting_faults, struct_faults}
use Rattle.lar_rules.specs.Functions.{numbered_locals, entry_state, body_of, output_faults, ending_faults, body_done, function_faults}
use Rattle.lar_rules.specs.Faults.{faults_from, none_yet, past_limit, max_functions, faults, main_meant, is_lawful_main, main_or, fault_or_main, first_fault}
use Rattle.lar_rules.specs.Checked.{then_known, all_known, typed_struct_of, typed_struct, function_if, typed_function, with_struct, with_function, with_item, tree_from, typed}
use Rattle.lar_rules.proofs.Least.{none_is_none}
use Rattle.lar_sound.specs.Known.{IsKnown, IsFaultless}
use Rattle.lar_sound.specs.Items.{HoldsAt, EachItem}
use Rattle.lar_sound.specs.KnownNames.{IsMemberKnown, IsLocalKnown, AreFieldsKnown, IsSignatureKnown, AreItemsKnown, IsBodyKnown, IsStateKnown}
use Rattle.lar_sound.proofs.Known.{faultless_parts, faultless, known_map, value_of}
use Rattle.lar_sound.proofs.ItemsMeant.{each_map, each_faultless}
use Rattle.lar_sound.proofs.WrittenTold.{written_told}
use Rattle.lar_sound.proofs.StmtsTold.{body_told}

-- NAMES

members_told : (s : Site) (fs : List PlainField) → IsFaultless (field_faults s fs)
    → Every IsMemberKnown (map (member s) fs)
members_told s [] h = tt
members_told s (f ∷ fs) h =
    let p = faultless_parts (written s f.2).faults (field_faults s fs) h in
    (written_told s f.2 p.0, members_told s fs p.1)

fields_told : (all : List Declared) (x : Struct) → IsFaultless (struct_faults all x) → AreFieldsKnown all x
fields_told all x h =
    let p = faultless_parts (repeated x.from.file [] (map (λ g. g.name) (struct_generics x.it.generics))) _ h in
    let q = faultless_parts (repeated x.from.file [] (map (λ f. f.0) (list_in x.it.fields))) _ p.1 in
    let r = faultless_parts (field_faults (struct_site all x) (list_in x.it.fields)) (nesting_faults all x) q.1 in
    members_told (struct_site all x) (list_in x.it.fields) r.0

outcome_told : (s : Site) (o : Option PlainOutput) → IsFaultless (output_faults s o) → IsKnown (outcome_written s o)
outcome_told s None h = tt
outcome_told s (Some o) h = written_told s o.1 h

-- the parts of a function without a fault
pub record FunctionParts (all : List Declared) (x : Function) : Type 0 where
  pub params : IsFaultless (field_faults (function_site all x) (list_in x.it.params))
  pub output : IsFaultless (output_faults (function_site all x) x.it.output)
  pub body : IsFaultless (body_done all x).faults
  pub ending : IsFaultless (ending_faults all x)

pub function_parts : (all : List Declared) (x : Function) → IsFaultless (function_faults all x) → FunctionParts all x
function_parts all x h =
    let p = faultless_parts
    (repeated x.from.file []
    (map (λ g. g.name) (function_generics x.it.generics) ++ map (λ p. p.0) (list_in x.it.params))) _ h in
    let q = faultless_parts (field_faults (function_site all x) (list_in x.it.params)) _ p.1 in
    let r = faultless_parts (output_faults (function_site all x) x.it.output) _ q.1 in
    let u = faultless_parts (body_done all x).faults (ending_faults all x) r.1 in
    record { params = q.0; output = r.0; body = u.0; ending = u.1 }

signature_told : (all : List Declared) (x : Function) → IsFaultless (function_faults all x) → IsSignatureKnown all x
signature_told all x h =
    let p = function_parts all x h in (
      members_told (function_site all x) (list_in x.it.params) p.params,
      outcome_told (function_site all x) x.it.output p.output,
    )

pub items_told : (all : List Declared) → IsFaultless (faults_from all none_yet all) → AreItemsKnown all
items_told all h =
    each_map (λ (x : Struct). IsFaultless (struct_faults all x)) (AreFieldsKnown all)
    (λ (x : Function). IsFaultless (function_faults all x)) (IsSignatureKnown all) (λ (n : ℕ). Unit {0})
    (λ (n : ℕ). Unit {0}) none_yet all
    (fields_told all) (signature_told all) (λ n k. tt) (each_faultless all none_yet all h)

-- ITEMS

then_known_told : (a : Option TypeOf) (b : Option (List TypeOf)) → IsKnown a → IsKnown b → IsKnown (then_known a b)
then_known_told None b h k = absurd h
then_known_told (Some x) None h k = absurd k
then_known_told (Some x) (Some y) h k = tt

all_known_told : (ts : List (Option TypeOf)) → Every (λ (t : Option TypeOf). IsKnown t) ts → IsKnown (all_known ts)
all_known_told [] h = tt
all_known_told (t ∷ ts) h = then_known_told t (all_known ts) h.0 (all_known_told ts h.1)

types_known : (ms : List Member) → Every IsMemberKnown ms → Every (λ (t : Option TypeOf). IsKnown t) (map (λ m. m.1) ms)
types_known [] h = tt
types_known (m ∷ ms) h = (h.0, types_known ms h.1)

locals_known : (k : ℕ) (ms : List Member) → Every IsMemberKnown ms → Every IsLocalKnown (numbered_locals k ms)
locals_known k [] h = tt
locals_known k (m ∷ ms) h = (h.0, locals_known (suc k) ms h.1)

pub struct_told : (all : List Declared) (x : Struct) → IsFaultless (struct_faults all x) → IsKnown (typed_struct all x)
struct_told all x h =
    known_map (typed_struct_of all x) (all_known (map (λ m. m.1) (fields all x)))
    (all_known_told (map (λ m. m.1) (fields all x)) (types_known (fields all x) (fields_told all x h)))

function_if_told : (all : List Declared) (x : Function) (a : Option (List TypeOf)) (b : Option TypeOf)
    (c : Option PlainStmts) → IsKnown a → IsKnown b → IsKnown c → IsKnown (function_if all x a b c)
function_if_told all x None b c f g h = absurd f
function_if_told all x (Some s) None c f g h = absurd g
function_if_told all x (Some s) (Some t) None f g h = absurd h
function_if_told all x (Some s) (Some t) (Some u) f g h = tt

pub function_told : (all : List Declared) → AreItemsKnown all → (x : Function) → IsFaultless (function_faults all x)
    → IsKnown (typed_function all x)
function_told all items x h =
    let sig = signature_told all x h in
    let parts = function_parts all x h in
    let bk : IsBodyKnown (body_of all x) = record { items = items; outcome = sig.1 } in
    let sk : IsStateKnown (entry_state all x) =
    record { locals = locals_known 0 (params all x) sig.0; types = types_known (params all x) sig.0 } in
    let w = body_told (body_of all x) bk (entry_state all x) sk x.it.body parts.body in
    function_if_told all x (all_known (body_done all x).after.types) (outcome all x) (body_done all x).typed
    (all_known_told (body_done all x).after.types (w.1).types) sig.1 w.0

-- THE PROGRAM

with_struct_told : (a : Option TypedStruct) (b : Option PlainTree) → IsKnown a → IsKnown b → IsKnown (with_struct a b)
with_struct_told None b h k = absurd h
with_struct_told (Some x) None h k = absurd k
with_struct_told (Some x) (Some y) h k = tt

with_function_told : (a : Option TypedFunction) (b : Option PlainTree) → IsKnown a → IsKnown b
    → IsKnown (with_function a b)
with_function_told None b h k = absurd h
with_function_told (Some x) None h k = absurd k
with_function_told (Some x) (Some y) h k = tt

tree_told : (all : List Declared) (p : Places) (ds : List Declared)
    → EachItem (λ (x : Struct). IsKnown (typed_struct all x)) (λ (x : Function). IsKnown (typed_function all x))
    (λ (n : ℕ). Unit {0}) p ds → IsKnown (tree_from all p ds)
tree_told all p [] h = tt
tree_told all p (d ∷ ds) h = one d.what (tree_from all (past p d.what) ds) h.0 (tree_told all (past p d.what) ds h.1)
  where
    one : (w : What) (t : Option PlainTree)
        → HoldsAt (λ (x : Struct). IsKnown (typed_struct all x)) (λ (x : Function). IsKnown (typed_function all x))
        (λ (n : ℕ). Unit {0}) p d w → IsKnown t → IsKnown (with_item all p d w t)
    one a_module t h k = k
    one (a_struct s) t h k = with_struct_told _ t h k
    one (a_const c) None h k = absurd k
    one (a_const c) (Some t) h k = tt
    one (a_function f) t h k = with_function_told _ t h k

-- what no fault at all means
pub record NoFault (all : List Declared) : Type 0 where
  pub none_twice : IsFaultless (repeated_items [] all)
  pub items : IsFaultless (faults_from all none_yet all)
  pub few : IsFaultless (past_limit all max_functions)
  pub main : is_lawful_main all (main_meant all) ≡ true

no_first : (o : Option Fault) (all : List Declared) → fault_or_main o all ≡ None
    → (o ≡ None) × (is_lawful_main all (main_meant all) ≡ true)
no_first (Some f) all e = absurd (let no : ⊥ = cc in no)
no_first None all e = (refl, by (is_lawful_main all (main_meant all)) e)
  where
    by : (b : Bool) → main_or b ≡ None → b ≡ true
    by true e = refl
    by false e = absurd (let no : ⊥ = cc in no)

pub no_fault : (sources : List Source) → first_fault sources ≡ None → NoFault (declared sources)
unfolding first_fault faults
no_fault sources e =
    let all = declared sources in
    let q = no_first (least None (faults sources)) all e in
    let none = faultless (faults sources) (none_is_none (faults sources) q.0) in
    let r = faultless_parts (repeated_items [] all) (faults_from all none_yet all ++ past_limit all max_functions)
    none in
    let u = faultless_parts (faults_from all none_yet all) (past_limit all max_functions) r.1 in
    record { none_twice = r.0; items = u.0; few = u.1; main = q.1 }

pub program_told : (sources : List Source) → first_fault sources ≡ None → IsKnown (typed sources)
unfolding typed
program_told sources e =
    let all = declared sources in
    let n = no_fault sources e in
    let items = items_told all n.items in
    tree_told all none_yet all
    (each_map (λ (x : Struct). IsFaultless (struct_faults all x)) (λ (x : Struct). IsKnown (typed_struct all x))
    (λ (x : Function). IsFaultless (function_faults all x)) (λ (x : Function). IsKnown (typed_function all x))
    (λ (k : ℕ). Unit {0}) (λ (k : ℕ). Unit {0}) none_yet all
    (struct_told all) (function_told all items) (λ k u. tt) (each_faultless all none_yet all n.items))

pub program_typed : (sources : List Source) → first_fault sources ≡ None → (t : PlainTree) × (typed sources ≡ Some t)
program_typed sources e = value_of (typed sources) (program_told sources e)

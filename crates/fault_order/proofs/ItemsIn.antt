-- The faults of a struct and of a function stand at its tokens.
use Rattle.std.proofs.Common.{refl, ◌||◌, List, [], ◌∷◌, ◌++◌, map, Option, Some, None}
use Rattle.lar_tree.specs.declared.token.Token.{Token}
use Rattle.lar_tree.specs.declared.name.Name.{Name}
use Rattle.lar_tree.specs.declared.commas.Commas.{Commas}
use Rattle.lar_tree.specs.declared.item.Angled.{Angled}
use Rattle.lar_tree.specs.declared.item.Generic.{Generic}
use Rattle.lar_tree.specs.declared.item.Generic.TheVariants as generic
use Rattle.lar_tree.specs.Commas.{flat_commas}
use Rattle.lar_tree.specs.Spelling.{flat_option, name_token, sign_token}
use Rattle.lar_tree.specs.declared.sign.Sign.TheVariants as sign
use Rattle.lar_tree.specs.PlainLists.{values}
use Rattle.lar_tree.specs.Lawful.{Every}
use Rattle.lar_tree.specs.Types.{flat_type}
use Rattle.lar_tree.specs.Stmts.{PlainBlock, block, flat_stmts, flat_block}
use Rattle.lar_tree.specs.Items.{PlainField, PlainOutput, flat_attributes, flat_generic, flat_name, flat_angled, flat_field, flat_output, flat_struct, flat_head}
use Rattle.lar_rules.specs.Declared.{Declared, Struct, Function}
use Rattle.lar_rules.specs.Generics.{GenericName, generic_name, struct_generics, function_generics}
use Rattle.lar_rules.specs.Written.{Site, written}
use Rattle.lar_rules.specs.Signatures.{struct_site, function_site, list_in, outcome}
use Rattle.lar_rules.specs.Twice.{repeated}
use Rattle.lar_rules.specs.Bodies.{block_returns}
use Rattle.lar_rules.specs.Structs.{field_faults, is_followed, max_chain, nesting_faults, struct_faults}
use Rattle.lar_rules.specs.Functions.{entry_state, body_of, output_faults, block_close, is_unit, ending_faults, body_done}
use Rattle.lar_sound.proofs.EachOf.{every_join, every_map}
use Rattle.fault_order.specs.Places.{HasPlace}
use Rattle.fault_order.specs.Order.{head_faults, body_faults}
use Rattle.fault_order.proofs.PlacesIn.{Into, into_left, into_right, into_tail, into_head, AllIn, stands, join, unless, when, every_of_map, values_in, list_values_in, repeated_in}
use Rattle.fault_order.proofs.TypesIn.{written_in}
use Rattle.fault_order.proofs.StmtsIn.{block_in}

abbrev NameIn : List Token → Name → Type 0
NameIn ts n = HasPlace ts n.span

-- a field or parameter whose name and type stand at the tokens
record FieldIn (ts : List Token) (f : PlainField) : Type 0 where
  name : HasPlace ts (f.0).span
  ty : Into (flat_type f.2) ts

field_in : (ts : List Token) (f : PlainField) → Into (flat_field f) ts → FieldIn ts f
field_in ts f i = record { name = into_head _ _ ts i; ty = into_tail _ (flat_type f.2) ts (into_tail _ _ ts i) }

fields_in : (ts : List Token) (o : Option (Commas PlainField)) → Into (flat_option (flat_commas flat_field) o) ts
    → Every (FieldIn ts) (list_in o)
fields_in ts o i = list_values_in flat_field (FieldIn ts) ts (field_in ts) o i

field_names : (ts : List Token) (fs : List PlainField) → Every (FieldIn ts) fs → Every (NameIn ts) (map (λ f. f.0) fs)
field_names ts fs h =
    every_of_map (NameIn ts) (λ f. f.0) fs
    (every_map (FieldIn ts) (λ (f : PlainField). HasPlace ts (f.0).span) fs (λ f k. k.name) h)

field_faults_in : (s : Site) (ts : List Token) (fs : List PlainField) → Every (FieldIn ts) fs
    → AllIn s.file ts (field_faults s fs)
field_faults_in s ts [] h = tt
field_faults_in s ts (f ∷ fs) h =
    join s.file ts (written s f.2).faults (field_faults s fs) (written_in s ts f.2 (h.0).ty)
    (field_faults_in s ts fs h.1)

-- STRUCTS

angled_in : {A : Type 0} (flat : A → List Token) (P : A → Type 0) (ts : List Token) → ((x : A) → Into (flat x) ts → P x)
    → (a : Angled A) → Into (flat_angled flat a) ts → Every P (values a.list)
angled_in flat P ts f a i = values_in flat P ts f a.list (into_left (flat_commas flat a.list) _ ts (into_tail _ _ ts i))

struct_names : (ts : List Token) (o : Option (Angled Name)) → Into (flat_option (flat_angled flat_name) o) ts
    → Every (NameIn ts) (map (λ g. g.name) (struct_generics o))
struct_names ts None i = tt
struct_names ts (Some a) i =
    every_of_map (NameIn ts) (λ g. g.name) (struct_generics (Some a))
    (every_of_map (λ (g : GenericName). HasPlace ts (g.name).span) _ (values a.list)
    (angled_in flat_name (NameIn ts) ts (λ n k. into_head (name_token n) [] ts k) a i))

pub struct_faults_in : (all : List Declared) (x : Struct) → AllIn x.from.file (flat_struct x.it) (struct_faults all x)
struct_faults_in all x =
    let ts = flat_struct x.it in
    let whole : Into ts ts = record { into = λ at h. h } in
    let file = x.from.file in
    let fs = list_in x.it.fields in
    let a = into_tail _ _ ts whole in
    let b = into_tail _ _ ts a in
    let c = into_tail _ _ ts (into_right (flat_option (flat_angled flat_name) x.it.generics) _ ts b) in
    let held = fields_in ts x.it.fields (into_left (flat_option (flat_commas flat_field) x.it.fields) _ ts c) in
    join file ts (repeated file [] (map (λ g. g.name) (struct_generics x.it.generics))) _
    (repeated_in file ts [] (map (λ g. g.name) (struct_generics x.it.generics))
    (struct_names ts x.it.generics (into_left (flat_option (flat_angled flat_name) x.it.generics) _ ts b)))
    (join file ts (repeated file [] (map (λ f. f.0) fs)) _
    (repeated_in file ts [] (map (λ f. f.0) fs) (field_names ts fs held))
    (join file ts (field_faults (struct_site all x) fs) (nesting_faults all x)
    (field_faults_in (struct_site all x) ts fs held)
    (when file ts (is_followed all max_chain x) _
    (stands file ts x.it.name.span _ _ (into_head (name_token x.it.name) _ ts a) refl))))

-- FUNCTIONS

generic_in : (ts : List Token) (g : Generic) → Into (flat_generic g) ts → HasPlace ts ((generic_name g).name).span
generic_in ts (generic.Ty n) i = into_head (name_token n) [] ts i
generic_in ts (generic.Const c) i = into_head (name_token c.name) _ ts (into_tail _ _ ts i)

function_names : (ts : List Token) (o : Option (Angled Generic)) → Into (flat_option (flat_angled flat_generic) o) ts
    → Every (NameIn ts) (map (λ g. g.name) (function_generics o))
function_names ts None i = tt
function_names ts (Some a) i =
    every_of_map (NameIn ts) (λ g. g.name) (function_generics (Some a))
    (every_of_map (λ (g : GenericName). HasPlace ts (g.name).span) generic_name (values a.list)
    (angled_in flat_generic (λ (g : Generic). HasPlace ts ((generic_name g).name).span) ts (generic_in ts) a i))

output_in : (s : Site) (ts : List Token) (o : Option PlainOutput) → Into (flat_option flat_output o) ts
    → AllIn s.file ts (output_faults s o)
output_in s ts None i = tt
output_in s ts (Some o) i = written_in s ts o.1 (into_tail _ (flat_type o.1) ts i)

pub head_faults_in : (all : List Declared) (x : Function) (ts : List Token) → Into (flat_head x.it) ts
    → AllIn x.from.file ts (head_faults all x)
head_faults_in all x ts whole =
    let file = x.from.file in
    let ps = list_in x.it.params in
    let names = map (λ g. g.name) (function_generics x.it.generics) in
    let a = into_tail _ _ ts (into_tail _ _ ts (into_right (flat_attributes x.it.attributes) _ ts whole)) in
    let b = into_tail _ _ ts (into_right (flat_option (flat_angled flat_generic) x.it.generics) _ ts a) in
    let c = into_tail _ _ ts (into_right (flat_option (flat_commas flat_field) x.it.params) _ ts b) in
    let held = fields_in ts x.it.params (into_left (flat_option (flat_commas flat_field) x.it.params) _ ts b) in
    join file ts (repeated file [] (names ++ map (λ p. p.0) ps)) _
    (repeated_in file ts [] (names ++ map (λ p. p.0) ps)
    (every_join (NameIn ts) names (map (λ p. p.0) ps)
    (function_names ts x.it.generics (into_left (flat_option (flat_angled flat_generic) x.it.generics) _ ts a))
    (field_names ts ps held)))
    (join file ts (field_faults (function_site all x) ps) (output_faults (function_site all x) x.it.output)
    (field_faults_in (function_site all x) ts ps held) (output_in (function_site all x) ts x.it.output c))

close_in : (b : PlainBlock) (ts : List Token) → Into (flat_block b) ts → HasPlace ts (block_close b)
close_in (block from ss to) ts i =
    into_head (sign_token sign.CloseBrace to) [] ts (into_right (flat_stmts ss) _ ts (into_tail _ _ ts i))

pub body_faults_in : (all : List Declared) (x : Function) (ts : List Token) → Into (flat_block x.it.body) ts
    → AllIn x.from.file ts (body_faults all x)
body_faults_in all x ts i =
    let file = x.from.file in
    join file ts (body_done all x).faults (ending_faults all x)
    (block_in (body_of all x) (entry_state all x) ts x.it.body i)
    (unless file ts (is_unit (outcome all x) || block_returns x.it.body) _
    (stands file ts (block_close x.it.body) _ _ (close_in x.it.body ts i) refl))

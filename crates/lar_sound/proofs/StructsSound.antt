-- A struct without a fault is a lawful struct of the typed program.
use Rattle.std.proofs.Common.{◌≡◌, ℕ, ◌<◌, ◌≤◌, sym, ap, ◌∙◌, subst as transport, arith, List, [], length, map, Option, Some, None}
use Rattle.std.proofs.lemmas.List.{length-map}
use Rattle.type_table.specs.Substitution.{count}
use Rattle.lar_typed.specs.SameType.{list_of}
use Rattle.lar_typed.specs.Trees.{PlainTree, PlainStruct as TypedStruct}
use Rattle.lar_typed.specs.Lawful.{struct_sorts, type_generics}
use Rattle.lar_typed.specs.IsTyped.{signature_of, struct_depth, depth_in, IsStruct}
use Rattle.lar_tree.specs.declared.name.Name.{Name}
use Rattle.lar_tree.specs.declared.item.Angled.{Angled}
use Rattle.lar_tree.specs.Limits.{max_fields}
use Rattle.lar_tree.specs.PlainLists.{values}
use Rattle.lar_tree.specs.Lawful.{LimitedAngled}
use Rattle.lar_tree.specs.Stmts.{IfThere}
use Rattle.lar_rules.specs.Declared.{Declared, Struct, struct_meant}
use Rattle.lar_rules.specs.Generics.{struct_generics}
use Rattle.lar_rules.specs.Signatures.{struct_site, list_in, fields}
use Rattle.lar_rules.specs.Twice.{repeated}
use Rattle.lar_rules.specs.Structs.{field_faults, next_structs, followers, max_chain, nesting_faults, struct_faults}
use Rattle.lar_rules.specs.Faults.{none_yet}
use Rattle.lar_rules.specs.Checked.{typed_struct}
use Rattle.lar_sound.specs.Known.{IsFaultless}
use Rattle.lar_sound.specs.Items.{EachItem}
use Rattle.lar_sound.proofs.Known.{faultless_parts}
use Rattle.lar_sound.proofs.EachOf.{every_both}
use Rattle.lar_sound.proofs.ItemsMeant.{struct_meant_holds}
use Rattle.lar_sound.proofs.FramesFit.{struct_sorts_are, site_sorts, known_length}
use Rattle.lar_sound.proofs.NamesJoined.{module_path}
use Rattle.lar_sound.proofs.Depths.{chain_below, chain_falls, fields_hold, fields_under}
use Rattle.lar_sound.proofs.TreeItems.{StructThere, FunctionThere}
use Rattle.lar_sound.proofs.SourceItems.{IsGoodStruct}
use Rattle.lar_sound.proofs.TypedParts.{struct_parts}
use Rattle.lar_sound.proofs.ItemsIn.{list_fits, member_types, count_list, limited_list, members_length, items_in}

few_named : (o : Option (Angled Name)) → IfThere LimitedAngled o → length (struct_generics o) ≤ 16
few_named None h = omega arith
few_named (Some a) h =
    let k : length (values a.list) ≤ 16 = h in let e : length (struct_generics (Some a)) ≡ length (values a.list) =
    length-map (values a.list) _ in omega (arith, k, e)

-- a struct that is there has its depth
depth_there : (t : PlainTree) (all : List Declared) (x : Struct) → StructThere t all x
    → depth_in t.structs x.number ≡ followers all max_chain x
depth_there t all x s =
    let p = struct_parts all x s.it s.typed in ap struct_depth s.there ∙ ap (λ (y : TypedStruct). y.depth) (sym p.is)

if_depth : (t : PlainTree) (all : List Declared) (o : Option Struct) → IfThere (StructThere t all) o
    → IfThere (λ (x : Struct). depth_in t.structs x.number ≡ followers all max_chain x) o
if_depth t all None h = tt
if_depth t all (Some x) h = depth_there t all x h

nesting_told : (all : List Declared) (x : Struct) → IsFaultless (struct_faults all x)
    → IsFaultless (nesting_faults all x)
nesting_told all x h =
    let p = faultless_parts (repeated x.from.file [] (map (λ g. g.name) (struct_generics x.it.generics))) _ h in
    let q = faultless_parts (repeated x.from.file [] (map (λ f. f.0) (list_in x.it.fields))) _ p.1 in
    (faultless_parts (field_faults (struct_site all x) (list_in x.it.fields)) (nesting_faults all x) q.1).1

abbrev Below : PlainTree → ℕ → Struct → Type 0
Below t d x = depth_in t.structs x.number < d

pub struct_sound : (t : PlainTree) (all : List Declared)
    → EachItem (StructThere t all) (FunctionThere t all) (λ (n : ℕ). n < length t.consts) none_yet all
    → (x : Struct) → IsGoodStruct x → IsFaultless (struct_faults all x) → (y : TypedStruct)
    → typed_struct all x ≡ Some y → IsStruct t y
struct_sound t all items x g h y e =
    let p = struct_parts all x y e in
    let s = struct_site all x in
    let fs = list_in x.it.fields in
    let few = limited_list max_fields x.it.fields (g.limited).1 in
    let sorts =
    site_sorts t.structs (map signature_of t.functions) (length t.consts) s
    (type_generics (length (struct_generics x.it.generics))) (items_in t all items)
    (struct_sorts_are x.it.generics) in
    let nest = nesting_told all x h in
    let n : length p.types ≡ length (map (λ m. m.1) (fields all x)) =
    known_length (map (λ m. m.1) (fields all x)) p.types p.known in
    let m : length (map (λ m. m.1) (fields all x)) ≡ length fs = members_length s fs in
    let c : count (list_of p.types) ≡ length p.types = count_list p.types in
    let l : length fs ≤ 64 = few.0 in
    let depths = fields_hold (λ (z : Struct). depth_in t.structs z.number ≡ followers all max_chain z) s
    (λ here path. if_depth t all (struct_meant all here path)
    (struct_meant_holds (StructThere t all) (FunctionThere t all) _ all here path items)) fs in
    let lower = every_both (λ (z : Struct). depth_in t.structs z.number ≡ followers all max_chain z)
    (λ (z : Struct). followers all max_chain z < followers all max_chain x) (Below t (followers all max_chain x))
    (next_structs all x)
    (λ z a b. transport (λ (k : ℕ). k < followers all max_chain x) (sym a) b) depths (chain_falls all x nest) in
    transport (λ (z : TypedStruct). IsStruct t z) p.is (record {
      path = module_path x.from.modules g.modules;
      named = g.named;
      few_generics = few_named x.it.generics (g.limited).0;
      few_fields = omega (arith, n, m, c, l);
      lawful_fields = list_fits (struct_sorts t.structs) (type_generics (length (struct_generics x.it.generics)))
          (map (λ m. m.1) (fields all x)) p.types
          (member_types (struct_sorts t.structs) (type_generics (length (struct_generics x.it.generics))) s sorts fs
          few.1) p.known;
      shallow = chain_below all x nest;
      falls = fields_under (depth_in t.structs) (followers all max_chain x) s fs p.types p.known lower;
    })

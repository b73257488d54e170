-- What is read of one struct and of one function.
use Rattle.std.proofs.Common.{◌≡◌, ◌≢◌, ℕ, zero, suc, ◌<◌, Bool, List, [], ◌∷◌, ◌++◌, length, map, get_or, Option, Some, option_map, sym, ap, ◌∙◌, subst, arith, append_assoc}
use Rattle.std.specs.Prelude.{slice_get, if◌then◌else◌}
use Rattle.std.specs.Borrow.{Bor}
use Rattle.lar_source.specs.declared.code.Code.TheVariants.{NestedTooDeep}
use Rattle.lar_tree.specs.declared.name.Name.{Name}
use Rattle.lar_tree.specs.Items.{PlainStruct}
use Rattle.lar_tree.specs.ItemView.{struct_view, fn_view, output_view}
use Rattle.type_table.specs.declared.row.Row.{Row}
use Rattle.type_table.specs.Rows.{Keeps}
use Rattle.lar_rules.specs.Fault.{Fault, fault, kept, least}
use Rattle.lar_rules.specs.Declared.{Declared, Struct}
use Rattle.lar_rules.specs.Generics.{GenericName, struct_generics, function_generics}
use Rattle.lar_rules.specs.Signatures.{struct_numbered, member, outcome_written}
use Rattle.lar_rules.specs.Structs.{field_faults, max_chain, nesting_faults, followers}
use Rattle.lar_rules.specs.Functions.{output_faults}
use Rattle.lar_rules.specs.Twice.{repeated}
use Rattle.lar_rules.specs.Written.{Site}
use Rattle.lar_rules.proofs.Least.{least_append}
use Rattle.lar_names.specs.declared.names.Names.{Names}
use Rattle.lar_names.specs.declared.items.StructItem.{StructItem}
use Rattle.lar_names.specs.declared.items.FunctionItem.{FunctionItem}
use Rattle.lar_names.specs.Items.{struct_item, function_item}
use Rattle.lar_names.specs.NamesView.{names_view, scope_lists, scope_view}
use Rattle.lar_names.specs.Numbered.{struct_at, function_at}
use Rattle.lar_written.specs.Members.{MembersStand, fields_in}
use Rattle.lar_written.specs.Names.{names}
use Rattle.lar_written.specs.Standing.{StandsIf}
use Rattle.lar_written.specs.Sites.{generics_view}
use Rattle.lar_signatures.specs.declared.function.FunctionSignature.{FunctionSignature}
use Rattle.lar_signatures.specs.Depths.{AreDepths, IsDepth, nested_if}
use Rattle.lar_signatures.specs.Noted.{faults_of_struct, faults_of_head}
use Rattle.lar_signatures.specs.Signatures.{FunctionStands}
use Rattle.lar_signatures.proofs.Followed.{nesting_is, is_equal, not_equal}
use Rattle.lar_signatures.proofs.Grown.{members_grown}

-- ONE STRUCT

pub nested_noted : (file : ℕ) (n : Name) (depth : ℕ) (best after : Option Fault) → depth ≡ max_chain → after ≡ kept best (fault file n.span NestedTooDeep (n.text ∷ [])) → after ≡ least best (nested_if file n depth)
unfolding least
nested_noted file n depth best after e noted = noted ∙ ap (λ (b : Bool). least best (if b then fault file n.span NestedTooDeep (n.text ∷ []) ∷ [] else [])) (sym (is_equal depth max_chain e))

pub nested_none : (file : ℕ) (n : Name) (depth : ℕ) (best : Option Fault) → depth ≢ max_chain → best ≡ least best (nested_if file n depth)
unfolding least
nested_none file n depth best e = ap (λ (b : Bool). least best (if b then fault file n.span NestedTooDeep (n.text ∷ []) ∷ [] else [])) (sym (not_equal depth max_chain e))

-- two lists of names, one after the other
pub two_lists : (file : ℕ) (ks bs : List Name) (ns ms xs ys : List (Bor Name)) (best mid new : Option Fault) → ns ≡ xs → names xs ≡ ks → ms ≡ ys → names ys ≡ bs
    → mid ≡ least best (repeated file [] (names ns)) → new ≡ least mid (repeated file [] (names ms)) → new ≡ least best (repeated file [] ks ++ repeated file [] bs)
two_lists file ks bs ns ms xs ys best mid new a b c d e f =
    f ∙ ap (λ (zs : List Name). least mid (repeated file [] zs)) (ap names c ∙ d)
    ∙ ap (λ (o : Option Fault). least o (repeated file [] bs)) (e ∙ ap (λ (zs : List Name). least best (repeated file [] zs)) (ap names a ∙ b))
    ∙ sym (least_append best (repeated file [] ks) (repeated file [] bs))

pub one_list : (file : ℕ) (ks : List Name) (ns xs : List (Bor Name)) (best new : Option Fault) → ns ≡ xs → names xs ≡ ks → new ≡ least best (repeated file [] (names ns)) → new ≡ least best (repeated file [] ks)
one_list file ks ns xs best new a b e = e ∙ ap (λ (zs : List Name). least best (repeated file [] zs)) (ap names a ∙ b)

four_parts : (a b c d : List Fault) (f0 f1 f2 f3 : Option Fault) → f1 ≡ least f0 (a ++ b) → f2 ≡ least f1 c → f3 ≡ least f2 d → f3 ≡ least f0 (a ++ (b ++ (c ++ d)))
four_parts a b c d f0 f1 f2 f3 p q r =
    r ∙ ap (λ (o : Option Fault). least o d) q ∙ sym (least_append f1 c d) ∙ ap (λ (o : Option Fault). least o (c ++ d)) p ∙ sym (least_append f0 (a ++ b) (c ++ d))
    ∙ ap (least f0) (append_assoc a b (c ++ d))

-- where a declaration stands, with these generics in scope
abbrev pub site_of : Names → ℕ → ℕ → List GenericName → Site
site_of ns file scope gs = record { all = names_view ns; file = file; modules = scope_view ns scope; generics = gs }

pub struct_told : (ns : Names) (item : StructItem) (n depth : ℕ) (gs : List GenericName) (f0 f1 f2 f3 : Option Fault) → gs ≡ struct_generics (struct_view item.it.now).generics
    → f1 ≡ least f0 (repeated item.file [] (map (λ g. g.name) gs) ++ repeated item.file [] (map (λ f. f.0) (fields_in (item.it.now).fields)))
    → f2 ≡ least f1 (field_faults (site_of ns item.file item.scope gs) (fields_in (item.it.now).fields))
    → f3 ≡ least f2 (nested_if item.file (item.it.now).name depth)
    → IsDepth (names_view ns) (struct_at n (struct_item (scope_lists ns) item)) depth
    → f3 ≡ least f0 (faults_of_struct (names_view ns) n (struct_item (scope_lists ns) item))
unfolding faults_of_struct
struct_told ns item n depth gs f0 f1 f2 f3 e names_told fields_told nest_told is =
    let x : Struct = struct_at n (struct_item (scope_lists ns) item) in
    let fs = fields_in (item.it.now).fields in
    four_parts (repeated item.file [] (map (λ (g : GenericName). g.name) gs)) (repeated item.file [] (map (λ f. f.0) fs)) (field_faults (site_of ns item.file item.scope gs) fs) (nesting_faults (names_view ns) x) f0 f1 f2 f3
    names_told fields_told (nest_told ∙ ap (least f2) (nesting_is (names_view ns) x depth is.is))
    ∙ ap (λ (hs : List GenericName). least f0 (repeated item.file [] (map (λ (g : GenericName). g.name) hs) ++ (repeated item.file [] (map (λ f. f.0) fs) ++ (field_faults (site_of ns item.file item.scope hs) fs ++ nesting_faults (names_view ns) x)))) e

-- ONE FUNCTION

three_parts : (a b c : List Fault) (f0 f1 f2 f3 : Option Fault) → f1 ≡ least f0 a → f2 ≡ least f1 b → f3 ≡ least f2 c → f3 ≡ least f0 (a ++ (b ++ c))
three_parts a b c f0 f1 f2 f3 p q r =
    r ∙ ap (λ (o : Option Fault). least o c) q ∙ sym (least_append f1 b c) ∙ ap (λ (o : Option Fault). least o (b ++ c)) p ∙ sym (least_append f0 a (b ++ c))

pub head_told : (ns : Names) (item : FunctionItem) (n : ℕ) (gs : List GenericName) (f0 f1 f2 f3 : Option Fault) → gs ≡ function_generics (fn_view item.it.now).generics
    → f1 ≡ least f0 (repeated item.file [] (map (λ g. g.name) gs ++ map (λ p. p.0) (fields_in (item.it.now).params)))
    → f2 ≡ least f1 (field_faults (site_of ns item.file item.scope gs) (fields_in (item.it.now).params))
    → f3 ≡ least f2 (output_faults (site_of ns item.file item.scope gs) (option_map output_view (item.it.now).output))
    → f3 ≡ least f0 (faults_of_head (names_view ns) n (function_item (scope_lists ns) item))
unfolding faults_of_head
head_told ns item n gs f0 f1 f2 f3 e names_told params_told output_told =
    let ps = fields_in (item.it.now).params in
    let o = option_map output_view (item.it.now).output in
    three_parts (repeated item.file [] (map (λ (g : GenericName). g.name) gs ++ map (λ p. p.0) ps)) (field_faults (site_of ns item.file item.scope gs) ps) (output_faults (site_of ns item.file item.scope gs) o) f0 f1 f2 f3 names_told params_told output_told
    ∙ ap (λ (hs : List GenericName). least f0 (repeated item.file [] (map (λ (g : GenericName). g.name) hs ++ map (λ p. p.0) ps) ++ (field_faults (site_of ns item.file item.scope hs) ps ++ output_faults (site_of ns item.file item.scope hs) o))) e

pub function_stands : (ns : Names) (item : FunctionItem) (n : ℕ) (mid new : List Row) (f : FunctionSignature) → generics_view f.generics ≡ function_generics (fn_view item.it.now).generics
    → f.sorts.items ≡ map (λ g. g.sort) (generics_view f.generics) → Keeps mid new
    → MembersStand mid f.params.items (map (member (site_of ns item.file item.scope (generics_view f.generics))) (fields_in (item.it.now).params))
    → StandsIf new f.outcome (outcome_written (site_of ns item.file item.scope (generics_view f.generics)) (option_map output_view (item.it.now).output))
    → FunctionStands new (names_view ns) f (function_at n (function_item (scope_lists ns) item))
function_stands ns item n mid new f e sorts k params out =
    let ps = fields_in (item.it.now).params in
    record {
      generics_are = e;
      sorts_are = sorts ∙ ap (λ (hs : List GenericName). map (λ (g : GenericName). g.sort) hs) e;
      params_stand = subst (λ (hs : List GenericName). MembersStand new f.params.items (map (member (site_of ns item.file item.scope hs)) ps)) e (members_grown mid new f.params.items (map (member (site_of ns item.file item.scope (generics_view f.generics))) ps) k params);
      outcome_stands = subst (λ (hs : List GenericName). StandsIf new f.outcome (outcome_written (site_of ns item.file item.scope hs) (option_map output_view (item.it.now).output))) e out;
    }

-- DEPTHS

get_below : {A : Type 0} (xs : List A) (n : ℕ) (x : A) → slice_get xs n ≡ Some x → n < length xs
get_below [] n x e = absurd (let h : ⊥ = cc in h)
get_below (y ∷ xs) zero x e = omega arith
get_below (y ∷ xs) (suc n) x e = let b : n < length xs = get_below xs n x e in omega arith

get_is : {A : Type 0} (xs : List A) (n : ℕ) (x d : A) → slice_get xs n ≡ Some x → get_or xs n d ≡ x
get_is [] n x d e = absurd (let h : ⊥ = cc in h)
get_is (y ∷ xs) zero x d e = cc
get_is (y ∷ xs) (suc n) x d e = get_is xs n x d e

pub mapped_get : {A B : Type 0} (f : A → B) (xs : List A) (i : ℕ) (x : A) → x ≡ get_or xs i x → i < length xs → slice_get (map f xs) i ≡ Some (f x)
mapped_get f [] i x at below = absurd (omega arith)
mapped_get f (y ∷ xs) zero x at below = ap (λ z. Some (f z)) (sym at)
mapped_get f (y ∷ xs) (suc i) x at below = mapped_get f xs i x at (omega arith)

item_numbered : {I : Type 0} (all : List Declared) (f : I → Declared × PlainStruct) (items : List I) (i : ℕ) (x : I) → ((n : ℕ) → struct_numbered all n ≡ option_map (struct_at n) (slice_get (map f items) n)) → x ≡ get_or items i x → i < length items
    → struct_numbered all i ≡ Some (struct_at i (f x))
item_numbered all f items i x each at below = each i ∙ ap (option_map (struct_at i)) (mapped_get f items i x at below)

pub depth_within : {I : Type 0} (all : List Declared) (depths : List ℕ) (f : I → Declared × PlainStruct) (items : List I) (i : ℕ) (x : I) → AreDepths all depths → ((n : ℕ) → struct_numbered all n ≡ option_map (struct_at n) (slice_get (map f items) n)) → x ≡ get_or items i x → i < length items → i < length depths
depth_within all depths f items i x are each at below = get_below depths i _ (are.each i (struct_at i (f x)) (item_numbered all f items i x each at below))

pub depth_is : {I : Type 0} (all : List Declared) (depths : List ℕ) (f : I → Declared × PlainStruct) (items : List I) (i : ℕ) (x : I) → AreDepths all depths → ((n : ℕ) → struct_numbered all n ≡ option_map (struct_at n) (slice_get (map f items) n)) → x ≡ get_or items i x → i < length items → IsDepth all (struct_at i (f x)) (get_or depths i 0)
depth_is all depths f items i x are each at below = record { is = get_is depths i (followers all max_chain (struct_at i (f x))) 0 (are.each i (struct_at i (f x)) (item_numbered all f items i x each at below)) }

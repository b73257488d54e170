-- A struct as types name it.
use Rattle.std.proofs.Common.{◌≡◌, ℕ, suc, ◌<◌, List, [], ◌∷◌, length, map, get_or, Option, Some, None, option_map, refl, sym, ap, ◌∙◌, subst, arith}
use Rattle.std.specs.Prelude.{slice_get}
use Rattle.lar_tree.specs.Items.{PlainStruct as PlainItem}
use Rattle.lar_tree.specs.ItemView.{struct_view as item_view}
use Rattle.type_table.specs.declared.row.Row.{Row}
use Rattle.type_table.specs.declared.decl.StructDecl.{StructDecl}
use Rattle.type_table.specs.TypeOf.{TypeOf, end}
use Rattle.type_table.specs.Rows.{Keeps, Stands}
use Rattle.lar_typed.specs.SameType.{list_of}
use Rattle.lar_typed.specs.Trees.{PlainStruct}
use Rattle.lar_rules.specs.Declared.{Declared, Struct}
use Rattle.lar_rules.specs.Generics.{struct_generics}
use Rattle.lar_rules.specs.Printed.{joined}
use Rattle.lar_rules.specs.Signatures as rules
use Rattle.lar_rules.specs.Written.{then_type}
use Rattle.lar_rules.specs.Checked.{then_known, all_known}
use Rattle.lar_names.specs.declared.names.Names.{Names}
use Rattle.lar_names.specs.declared.items.StructItem.{StructItem}
use Rattle.lar_names.specs.Items.{struct_item}
use Rattle.lar_names.specs.NamesView.{names_view, scope_lists, scope_view}
use Rattle.lar_names.specs.Numbered.{struct_at}
use Rattle.lar_written.specs.declared.members.Member.{Member}
use Rattle.lar_written.specs.Members.{member_view}
use Rattle.lar_written.specs.Standing.{number_type, AllInside, StandsIf, list_if}
use Rattle.lar_written.proofs.Standings.{all_inside_kept}
use Rattle.lar_signatures.specs.declared.structure.StructSignature.{StructSignature}
use Rattle.lar_signatures.specs.Depths.{IsDepth}
use Rattle.lar_signatures.specs.EachStands.{EachStands}
use Rattle.lar_signatures.specs.Signatures.{StructStands, DeclStands, or_no_types}
use Rattle.lar_signatures.proofs.Each.{each_index, each_length}
use Rattle.lar_signatures.proofs.Reading.{mapped_get}

one_more : (t : Option TypeOf) (o : Option (List TypeOf)) → then_type t (option_map list_of o) ≡ option_map list_of (then_known t o)
one_more None o = refl
one_more (Some t) None = refl
one_more (Some t) (Some ts) = refl

list_known : (ts : List (Option TypeOf)) → list_if ts ≡ option_map list_of (all_known ts)
list_known [] = refl
list_known (t ∷ ts) = ap (then_type t) (list_known ts) ∙ one_more t (all_known ts)

some_list : (rows : List Row) (n : ℕ) (o : Option (List TypeOf)) → StandsIf rows (Some n) (option_map list_of o) → Stands rows n (list_of (or_no_types o))
some_list rows n None st = absurd (let e = st.is in let h : ⊥ = cc in h)
some_list rows n (Some ts) st = record { within = st.within; is = (let e = st.is in cc) }

no_list : (rows mid : List Row) (n : ℕ) (o : Option (List TypeOf)) → StandsIf mid None (option_map list_of o) → Stands rows n end → Stands rows n (list_of (or_no_types o))
no_list rows mid n None st s = s
no_list rows mid n (Some ts) st s = absurd (let e = st.is in let h : ⊥ = cc in h)

types_seen : (rows : List Row) (ms : List Member) → map (number_type rows) (map (λ m. m.of) ms) ≡ map (λ m. number_type rows m.of) ms
types_seen rows [] = refl
types_seen rows (m ∷ ms) = ap (λ (ts : List (Option TypeOf)). number_type rows m.of ∷ ts) (types_seen rows ms)

seen_all : (rows : List Row) (ms : List Member) (items ns : List (Option ℕ)) → items ≡ map (λ m. m.of) ms → ns ≡ items → list_if (map (number_type rows) ns) ≡ option_map list_of (all_known (map (λ m. number_type rows m.of) ms))
seen_all rows ms items ns e f = ap (λ (xs : List (Option ℕ)). list_if (map (number_type rows) xs)) (f ∙ e) ∙ ap list_if (types_seen rows ms) ∙ list_known (map (λ m. number_type rows m.of) ms)

-- all types are known
pub fields_known : (old rows : List Row) (n : ℕ) (ms : List Member) (items ns : List (Option ℕ)) (r : Option ℕ) → items ≡ map (λ m. m.of) ms → ns ≡ items → r ≡ Some n → StandsIf rows r (list_if (map (number_type old) ns))
    → Stands rows n (list_of (or_no_types (all_known (map (λ m. number_type old m.of) ms))))
fields_known old rows n ms items ns r e f is st =
    some_list rows n (all_known (map (λ m. number_type old m.of) ms)) (subst (λ (t : Option TypeOf). StandsIf rows (Some n) t) (seen_all old ms items ns e f) (subst (λ (x : Option ℕ). StandsIf rows x (list_if (map (number_type old) ns))) is st))

-- one of them is not
pub fields_unknown : (old mid rows : List Row) (n : ℕ) (ms : List Member) (items ns : List (Option ℕ)) (r : Option ℕ) → items ≡ map (λ m. m.of) ms → ns ≡ items → r ≡ None → StandsIf mid r (list_if (map (number_type old) ns)) → Stands rows n end
    → Stands rows n (list_of (or_no_types (all_known (map (λ m. number_type old m.of) ms))))
fields_unknown old mid rows n ms items ns r e f is st s =
    no_list rows mid n (all_known (map (λ m. number_type old m.of) ms)) (subst (λ (t : Option TypeOf). StandsIf mid None t) (seen_all old ms items ns e f) (subst (λ (x : Option ℕ). StandsIf mid x (list_if (map (number_type old) ns))) is st)) s

types_of_members : (rows : List Row) (ms : List Member) → map (λ m. number_type rows m.of) ms ≡ map (λ m. m.1) (map (member_view rows) ms)
types_of_members rows [] = refl
types_of_members rows (m ∷ ms) = ap (λ (ts : List (Option TypeOf)). number_type rows m.of ∷ ts) (types_of_members rows ms)

same_struct : (a b p q : List ℕ) (g h k l : ℕ) (t u : TypeOf) → a ≡ p → b ≡ q → g ≡ h → t ≡ u → k ≡ l → (let s : PlainStruct = record { module_path = a; name = b; generics = g; fields = t; depth = k } in s) ≡ record { module_path = p; name = q; generics = h; fields = u; depth = l }
same_struct a b p q g h k l t u e f i j m = cc

pub decl_stands : (ns : Names) (item : StructItem) (n : ℕ) (old new : List Row) (d : StructDecl) (s : StructSignature) → d.module ≡ joined (scope_view ns item.scope) → d.name ≡ (item.it.now).name.text
    → d.generics ≡ length (struct_generics (item_view item.it.now).generics) → Stands new d.fields (list_of (or_no_types (all_known (map (λ m. number_type old m.of) s.fields.items))))
    → IsDepth (names_view ns) (struct_at n (struct_item (scope_lists ns) item)) d.depth → StructStands old (names_view ns) s (struct_at n (struct_item (scope_lists ns) item))
    → DeclStands new (names_view ns) d (struct_at n (struct_item (scope_lists ns) item))
decl_stands ns item n old new d s path name generics fields depth st =
    let x : Struct = struct_at n (struct_item (scope_lists ns) item) in
    record {
      within = fields.within;
      is = same_struct _ _ _ _ _ _ _ _ _ _ path name generics
          (fields.is ∙ ap (λ (ts : List (Option TypeOf)). list_of (or_no_types (all_known ts))) (types_of_members old s.fields.items ∙ ap (λ (ms : List rules.Member). map (λ m. m.1) ms) st.fields_stand.are))
          depth.is;
    }

-- THE LOOP

pub signature_within : {I : Type 0} (P : ℕ → StructSignature → Declared × PlainItem → Type 0) (f : I → Declared × PlainItem) (ss : List StructSignature) (items : List I) (ys : List (Declared × PlainItem)) (i : ℕ) → EachStands P 0 ss ys → map f items ≡ ys → i < length items → i < length ss
signature_within P f ss items ys i h e below =
    let a : length ss ≡ length ys = each_length P 0 ss ys h in
    let b : length (map f items) ≡ length ys = ap length e in
    let c : length (map f items) ≡ length items = mapped_length f items in
    omega arith
  where
    mapped_length : {I : Type 0} (f : I → Declared × PlainItem) (items : List I) → length (map f items) ≡ length items
    mapped_length f [] = refl
    mapped_length f (x ∷ items) = ap suc (mapped_length f items)

-- the signature at an index stands for the item there
pub signature_at : (rows : List Row) (ns : Names) (ss : List StructSignature) (items : List StructItem) (ys : List (Declared × PlainItem)) (i : ℕ) (x : StructItem) (s : StructSignature)
    → EachStands (λ n y p. StructStands rows (names_view ns) y (struct_at n p)) 0 ss ys → map (struct_item (scope_lists ns)) items ≡ ys → x ≡ get_or items i x → i < length items → s ≡ get_or ss i s → i < length ss
    → StructStands rows (names_view ns) s (struct_at i (struct_item (scope_lists ns) x))
signature_at rows ns ss items ys i x s h e at below here within =
    each_index (λ n y p. StructStands rows (names_view ns) y (struct_at n p)) i ss ys s (struct_item (scope_lists ns) x) h here within
    (ap (λ (zs : List (Declared × PlainItem)). slice_get zs i) (sym e) ∙ mapped_get (struct_item (scope_lists ns)) items i x at below)

pub signature_inside : (old new : List Row) (all : List Declared) (s : StructSignature) (x : Struct) → Keeps old new → StructStands old all s x → AllInside new (map (λ m. m.of) s.fields.items)
signature_inside old new all s x k st = all_inside_kept old new (map (λ m. m.of) s.fields.items) k st.fields_stand.within

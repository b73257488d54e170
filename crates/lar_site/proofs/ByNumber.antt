-- A field by its name, and the signature of a number.
use Rattle.std.proofs.Common.{◌≡◌, ℕ, zero, suc, ◌+◌, ◌<◌, ◌≤◌, Bool, true, List, [], ◌∷◌, length, map, drop, get_or, Option, Some, None, option_map, refl, sym, ap, ◌∙◌, subst, arith}
use Rattle.std.specs.Prelude.{if◌then◌else◌, slice_get, ℤ, nat_abs}
use Rattle.std.specs.Str.{bytes_eq}
use Rattle.std.proofs.lemmas.List.{drop_more}
use Rattle.type_table.specs.declared.row.Row.{Row}
use Rattle.type_table.specs.declared.row.Row.TheVariants as row
use Rattle.type_table.specs.TypeOf.{TypeOf}
use Rattle.type_table.specs.Rows.{type_at, types, type_of}
use Rattle.lar_source.specs.declared.file.Span.{Span}
use Rattle.lar_tree.specs.declared.name.Name.{Name}
use Rattle.lar_tree.specs.declared.expr.Selector.{Selector}
use Rattle.lar_tree.specs.declared.expr.Selector.TheVariants as selector
use Rattle.lar_written.specs.Standing.{AllInside}
use Rattle.lar_rules.specs.Declared.{Declared, Struct, Function}
use Rattle.lar_rules.specs.Signatures.{struct_numbered}
use Rattle.lar_rules.specs.Judged.{under}
use Rattle.lar_rules.specs.Exprs as rules
use Rattle.lar_names.specs.Numbered.{function_numbered}
use Rattle.lar_written.specs.declared.members.Member.{Member}
use Rattle.lar_written.specs.Members.{member_view}
use Rattle.lar_judge.specs.declared.site.Part.{Part}
use Rattle.lar_judge.specs.Known.{type_if}
use Rattle.lar_signatures.specs.declared.signatures.Signatures.{Signatures}
use Rattle.lar_signatures.specs.declared.structure.StructSignature.{StructSignature}
use Rattle.lar_signatures.specs.declared.function.FunctionSignature.{FunctionSignature}
use Rattle.lar_signatures.specs.EachStands.{IfStands}
use Rattle.lar_signatures.specs.Signatures.{StructStands, FunctionStands, SignaturesStand}
use Rattle.lar_signatures.proofs.ByNumber.{struct_of_number, function_of_number}
use Rattle.lar_site.proofs.Members.{type_is}

field_here : (rows : List Row) (ms : List Member) (name : List ℕ) (i : ℕ) (x : Member) → x ≡ get_or ms i x → i < length ms
    → rules.member_from i name (map (member_view rows) (drop i ms)) ≡ (if bytes_eq x.name.now.text name then Some (i, type_if rows x.of) else rules.member_from (suc i) name (map (member_view rows) (drop (i + 1) ms)))
field_here rows ms name i x at below =
    ap (λ (ys : List Member). rules.member_from i name (map (member_view rows) ys)) (drop_more ms i x below ∙ ap (λ (y : Member). y ∷ drop (i + 1) ms) (sym at))
    ∙ ap (λ (t : Option TypeOf). if bytes_eq x.name.now.text name then Some (i, t) else rules.member_from (suc i) name (map (member_view rows) (drop (i + 1) ms))) (sym (type_is rows x.of))

pub field_found : (rows : List Row) (ms : List Member) (name : List ℕ) (i : ℕ) (x : Member) (r : Option rules.Part) → x ≡ get_or ms i x → i < length ms → rules.member_from i name (map (member_view rows) (drop i ms)) ≡ r
    → bytes_eq x.name.now.text name ≡ true → Some (i, type_if rows x.of) ≡ r
field_found rows ms name i x r at below so_far same =
    ap (λ (b : Bool). if b then Some (i, type_if rows x.of) else rules.member_from (suc i) name (map (member_view rows) (drop (i + 1) ms))) (sym same) ∙ sym (field_here rows ms name i x at below) ∙ so_far

-- WHAT STANDS BY NUMBER

if_none : {A B : Type 0} (P : A → B → Type 0) (a : Option A) (b : Option B) → IfStands P a b → a ≡ None → b ≡ None
if_none P None None h e = refl
if_none P None (Some y) h e = absurd h
if_none P (Some x) b h e = absurd (let g : ⊥ = cc in g)

if_some : {A B : Type 0} (P : A → B → Type 0) (a : Option A) (b : Option B) (x : A) → IfStands P a b → a ≡ Some x → (y : B) × (b ≡ Some y) × P x y
if_some P None b x h e = absurd (let g : ⊥ = cc in g)
if_some P (Some z) None x h e = absurd h
if_some {A = A} P (Some z) (Some y) x h e = let same : z ≡ x = cc in (y, refl, subst (λ (w : A). P w y) same h)

pub struct_missing : (rows : List Row) (all : List Declared) (s : Signatures) (n : ℕ) → SignaturesStand rows all s → slice_get s.structs.items n ≡ None → struct_numbered all n ≡ None
struct_missing rows all s n st e = if_none (StructStands rows all) (slice_get s.structs.items n) (struct_numbered all n) (struct_of_number rows all s n st) e

pub struct_there : (rows : List Row) (all : List Declared) (s : Signatures) (n : ℕ) (y : StructSignature) → SignaturesStand rows all s → slice_get s.structs.items n ≡ Some y → (x : Struct) × (struct_numbered all n ≡ Some x) × StructStands rows all y x
struct_there rows all s n y st e = if_some (StructStands rows all) (slice_get s.structs.items n) (struct_numbered all n) y (struct_of_number rows all s n st) e

-- the member at an index, of what stands for some
some_at : {A B : Type 0} (P : A → B → Type 0) (xs : List A) (n : ℕ) (x : A) (b : Option B) (y : B) → IfStands P (slice_get xs n) b → b ≡ Some y → x ≡ get_or xs n x → P x y
some_at P [] n x None y h e at = absurd (let g : ⊥ = cc in g)
some_at P [] n x (Some z) y h e at = absurd h
some_at P (a ∷ xs) zero x None y h e at = absurd h
some_at {A = A} {B = B} P (a ∷ xs) zero x (Some z) y h e at = let same : z ≡ y = cc in subst (λ (w : B). P x w) same (subst (λ (w : A). P w z) (sym at) h)
some_at P (a ∷ xs) (suc n) x b y h e at = some_at P xs n x b y h e at

some_within : {A B : Type 0} (P : A → B → Type 0) (xs : List A) (n : ℕ) (b : Option B) (y : B) → IfStands P (slice_get xs n) b → b ≡ Some y → n < length xs
some_within P [] n None y h e = absurd (let g : ⊥ = cc in g)
some_within P [] n (Some z) y h e = absurd h
some_within P (a ∷ xs) zero b y h e = omega arith
some_within P (a ∷ xs) (suc n) b y h e = let l : n < length xs = some_within P xs n b y h e in omega arith

pub struct_within : (rows : List Row) (all : List Declared) (s : Signatures) (n : ℕ) (x : Struct) → SignaturesStand rows all s → struct_numbered all n ≡ Some x → n < length s.structs.items
struct_within rows all s n x st e = some_within (StructStands rows all) s.structs.items n (struct_numbered all n) x (struct_of_number rows all s n st) e

pub struct_at_index : (rows : List Row) (all : List Declared) (s : Signatures) (n : ℕ) (y : StructSignature) (x : Struct) → SignaturesStand rows all s → struct_numbered all n ≡ Some x → y ≡ get_or s.structs.items n y → StructStands rows all y x
struct_at_index rows all s n y x st e at = some_at (StructStands rows all) s.structs.items n y (struct_numbered all n) x (struct_of_number rows all s n st) e at

pub function_within : (rows : List Row) (all : List Declared) (s : Signatures) (n : ℕ) (x : Function) → SignaturesStand rows all s → function_numbered all n ≡ Some x → n < length s.functions.items
function_within rows all s n x st e = some_within (FunctionStands rows all) s.functions.items n (function_numbered all n) x (function_of_number rows all s n st) e

pub function_at_index : (rows : List Row) (all : List Declared) (s : Signatures) (n : ℕ) (y : FunctionSignature) (x : Function) → SignaturesStand rows all s → function_numbered all n ≡ Some x → y ≡ get_or s.functions.items n y → FunctionStands rows all y x
function_at_index rows all s n y x st e at = some_at (FunctionStands rows all) s.functions.items n y (function_numbered all n) x (function_of_number rows all s n st) e at

there : {A : Type 0} (xs : List A) (n : ℕ) (x : A) → n < length xs → x ≡ get_or xs n x → slice_get xs n ≡ Some x
there [] n x below at = absurd (omega arith)
there (a ∷ xs) zero x below at = ap Some (sym at)
there (a ∷ xs) (suc n) x below at = there xs n x (omega arith) at

pub function_there : (rows : List Row) (all : List Declared) (s : Signatures) (n : ℕ) (y : FunctionSignature) → SignaturesStand rows all s → n < length s.functions.items → y ≡ get_or s.functions.items n y → (x : Function) × (function_numbered all n ≡ Some x) × FunctionStands rows all y x
function_there rows all s n y st below at = if_some (FunctionStands rows all) (slice_get s.functions.items n) (function_numbered all n) y (function_of_number rows all s n st) (there s.functions.items n y below at)

pub struct_at_place : (rows : List Row) (all : List Declared) (s : Signatures) (n : ℕ) (y : StructSignature) → SignaturesStand rows all s → n < length s.structs.items → y ≡ get_or s.structs.items n y → (x : Struct) × (struct_numbered all n ≡ Some x) × StructStands rows all y x
struct_at_place rows all s n y st below at = struct_there rows all s n y st (there s.structs.items n y below at)

beyond : {A : Type 0} (xs : List A) (n : ℕ) → length xs ≤ n → slice_get xs n ≡ None
beyond [] n h = refl
beyond (a ∷ xs) zero h = absurd (omega arith)
beyond (a ∷ xs) (suc n) h = beyond xs n (omega arith)

struct_beyond : (rows : List Row) (all : List Declared) (s : Signatures) (n : ℕ) → SignaturesStand rows all s → length s.structs.items ≤ n → struct_numbered all n ≡ None
struct_beyond rows all s n st past = struct_missing rows all s n st (beyond s.structs.items n past)

-- WHAT STANDS BEHIND A DOT

pub no_struct : (rows : List Row) (all : List Declared) (s : Signatures) (n : ℕ) (gs : TypeOf) (name : List ℕ) → SignaturesStand rows all s → length s.structs.items ≤ n → None ≡ rules.field_part all gs name (struct_numbered all n)
no_struct rows all s n gs name st past = ap (rules.field_part all gs name) (sym (struct_beyond rows all s n st past))

pub no_field : (rows : List Row) (all : List Declared) (s : Signatures) (n : ℕ) (y : StructSignature) (ms : List Member) (gs : TypeOf) (name : List ℕ) → SignaturesStand rows all s → n < length s.structs.items → y ≡ get_or s.structs.items n y → ms ≡ y.fields.items
    → None ≡ rules.member_named name (map (member_view rows) ms) → None ≡ rules.field_part all gs name (struct_numbered all n)
no_field rows all s n y ms gs name st below at same none =
    let x = struct_at_place rows all s n y st below at in
    ap (λ (o : Option rules.Part). option_map (λ m. (m.0, under (Some gs) m.1)) o)
    (none ∙ ap (λ (zs : List Member). rules.member_named name (map (member_view rows) zs)) same ∙ ap (rules.member_named name) x.2.fields_stand.are)
    ∙ ap (rules.field_part all gs name) (sym x.1)

pub field_is : (old new : List Row) (all : List Declared) (s : Signatures) (n : ℕ) (y : StructSignature) (ms : List Member) (gs : TypeOf) (name : List ℕ) (part : Part) (of : Option ℕ) → SignaturesStand old all s → n < length s.structs.items → y ≡ get_or s.structs.items n y → ms ≡ y.fields.items
    → Some (part.place, type_if old part.of) ≡ rules.member_named name (map (member_view old) ms) → type_if new of ≡ under (Some gs) (type_if old part.of) → Some (part.place, type_if new of) ≡ rules.field_part all gs name (struct_numbered all n)
field_is old new all s n y ms gs name part of st below at same found is =
    let x = struct_at_place old all s n y st below at in
    ap (λ (t : Option TypeOf). Some (part.place, t)) is
    ∙ ap (λ (o : Option rules.Part). option_map (λ m. (m.0, under (Some gs) m.1)) o)
    (found ∙ ap (λ (zs : List Member). rules.member_named name (map (member_view old) zs)) same ∙ ap (rules.member_named name) x.2.fields_stand.are)
    ∙ ap (rules.field_part all gs name) (sym x.1)

pub fields_inside : (rows : List Row) (all : List Declared) (s : Signatures) (n : ℕ) (y : StructSignature) (ms : List Member) → SignaturesStand rows all s → n < length s.structs.items → y ≡ get_or s.structs.items n y → ms ≡ y.fields.items → AllInside rows (map (λ m. m.of) ms)
fields_inside rows all s n y ms st below at same =
    let x = struct_at_place rows all s n y st below at in subst (λ (zs : List Member). AllInside rows (map (λ m. m.of) zs)) (sym same) x.2.fields_stand.within

pub struct_selected : (all : List Declared) (rows : List Row) (of n g : ℕ) (sel : Selector) (name : Name) → sel ≡ selector.Name name → type_at rows of ≡ type_of (types rows) (row.Struct n g)
    → rules.field_part all (type_at rows g) name.text (struct_numbered all n) ≡ rules.part_selected all (type_at rows of) sel
unfolding type_at
struct_selected all rows of n g sel name p q = sym (ap (rules.part_selected all (type_at rows of)) p ∙ ap (λ (t : TypeOf). rules.part_selected all t (selector.Name name)) q)

pub tuple_selected : (all : List Declared) (rows : List Row) (of parts k : ℕ) (sel : Selector) (v : ℤ) (at : Span) → sel ≡ selector.Number v at → type_at rows of ≡ type_of (types rows) (row.Tuple parts) → k ≡ nat_abs v
    → rules.tuple_part (type_at rows parts) k ≡ rules.part_selected all (type_at rows of) sel
unfolding type_at
tuple_selected all rows of parts k sel v at p q e = ap (rules.tuple_part (type_at rows parts)) e ∙ sym (ap (rules.part_selected all (type_at rows of)) p ∙ ap (λ (t : TypeOf). rules.part_selected all t (selector.Number v at)) q)

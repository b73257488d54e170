-- What is kept of the declarations, with one more.
use Rattle.std.proofs.Common.{◌≡◌, ℕ, zero, suc, ◌<◌, List, [], ◌∷◌, ◌++◌, length, map, Option, Some, None, Bool, true, false, cond, refl, sym, ap, ◌∙◌, subst, arith, append-nil, length-append}
use Rattle.std.specs.Prelude.{slice_get, option_map, is_some}
use Rattle.std.specs.declared.string.String.{String}
use Rattle.std.specs.BTreeMap.{BTreeMap}
use Rattle.std.proofs.lemmas.List.{map-append}
use Rattle.std.specs.Option.{option_flatten}
use Rattle.lar_rules.specs.Fault.{Fault, kept, least}
use Rattle.lar_rules.specs.Declared.{Declared, Places, past}
use Rattle.lar_tree.specs.ItemView.{struct_view, fn_view}
use Rattle.lar_rules.specs.Twice.{twice}
use Rattle.lar_rules.specs.Faults.{none_yet, past_limit, limit_fault}
use Rattle.lar_names.specs.declared.declaration.What.{What}
use Rattle.lar_names.specs.declared.declaration.What.TheVariants as what
use Rattle.lar_names.specs.declared.declaration.Declaration.{Declaration}
use Rattle.lar_names.specs.declared.items.StructItem.{StructItem}
use Rattle.lar_names.specs.declared.items.ConstItem.{ConstItem}
use Rattle.lar_names.specs.declared.items.FunctionItem.{FunctionItem}
use Rattle.lar_names.specs.declared.meaning.Meaning.{Meaning}
use Rattle.lar_names.specs.Declarations.{declared_view, what_view, what_name}
use Rattle.lar_names.specs.Entries.{is_taken, meaning, first_meaning, repeat}
use Rattle.lar_names.specs.Indexed.{AreEntries, IsIndex, lengths, counted}
use Rattle.lar_names.specs.Items.{struct_in, const_in, function_in, structs_in, consts_in, functions_in, struct_item, const_item, function_item}
use Rattle.lar_names.specs.Meanings.{meaning_as, meaning_of}
use Rattle.lar_names.specs.Numbered.{picked, with_first, structs, consts, functions, struct_of, const_of, function_of}
use Rattle.lar_names.specs.Scopes.{AreScopes, list_at}
use Rattle.lar_names.specs.Tables.{look, IsPut}
use Rattle.lar_names.proofs.EntryFacts.{entries_push, flat_entry, some_entry, limit_is, limit_at}

pub least_one : (best : Option Fault) (f : Fault) → least best (f ∷ []) ≡ kept best f
unfolding least
least_one best f = refl

pub least_nil : (best : Option Fault) → least best [] ≡ best
unfolding least
least_nil best = refl

pub told_taken : (best new : Option Fault) (f : Fault) (taken : Bool) → taken ≡ true → new ≡ kept best f → new ≡ least best (cond taken (f ∷ []) [])
told_taken best new f true t e = e ∙ sym (least_one best f)
told_taken best new f false t e = cc

pub told_free : (best : Option Fault) (f : Fault) (taken : Bool) → taken ≡ false → best ≡ least best (cond taken (f ∷ []) [])
told_free best f true t = cc
told_free best f false t = sym (least_nil best)

first_append : {A : Type 0} (o : Option A) (xs ys : List A) → with_first o (xs ++ ys) ≡ with_first o xs ++ ys
first_append None xs ys = refl
first_append (Some x) xs ys = refl

pub picked_push : {A B : Type 0} (f : B → Option A) (xs : List B) (x : B) → picked f (xs ++ x ∷ []) ≡ picked f xs ++ with_first (f x) []
picked_push f [] x = refl
picked_push f (y ∷ ys) x = ap (with_first (f y)) (picked_push f ys x) ∙ first_append (f y) (picked f ys) (with_first (f x) [])

counted_push : (p : Places) (ds : List Declared) (d : Declared) → counted p (ds ++ d ∷ []) ≡ past (counted p ds) d.what
counted_push p [] d = refl
counted_push p (x ∷ xs) d = counted_push (past p x.what) xs d

places_same : (a b c k l m : ℕ) → a ≡ k → b ≡ l → c ≡ m → (let p : Places = record { structs = a; consts = b; functions = c } in p) ≡ record { structs = k; consts = l; functions = m }
places_same a b c k l m e f g = cc

one_more : {A : Type 0} (xs : List A) (x : A) → length (xs ++ x ∷ []) ≡ suc (length xs)
one_more xs x = let e = length-append xs (x ∷ []) in omega (arith, e)

none_more : {A : Type 0} (xs : List A) → length (xs ++ []) ≡ length xs
none_more xs = ap length (append-nil xs)

lengths_push : (ss : List StructItem) (cs : List ConstItem) (fs : List FunctionItem) (d : Declaration) (w : What) → lengths (ss ++ with_first (struct_in d w) []) (cs ++ with_first (const_in d w) []) (fs ++ with_first (function_in d w) []) ≡ past (lengths ss cs fs) (what_view w)
lengths_push ss cs fs d (what.Module m) = places_same _ _ _ _ _ _ (none_more ss) (none_more cs) (none_more fs)
lengths_push ss cs fs d (what.Struct s) = places_same _ _ _ _ _ _ (one_more ss _) (none_more cs) (none_more fs)
lengths_push ss cs fs d (what.Const c) = places_same _ _ _ _ _ _ (none_more ss) (one_more cs _) (none_more fs)
lengths_push ss cs fs d (what.Function f) = places_same _ _ _ _ _ _ (none_more ss) (none_more cs) (one_more fs _)

pub index_none : {Y : Type 0} (lists : List (List (List ℕ))) (ss : List StructItem) (cs : List ConstItem) (fs : List FunctionItem) (tables : List (BTreeMap (String Y) (Option Meaning))) → AreScopes lists → ss ≡ [] → cs ≡ [] → fs ≡ [] → length tables ≡ length lists
    → ((s : ℕ) (q : List ℕ) → look tables s q ≡ None) → IsIndex lists [] ss cs fs tables
index_none lists ss cs fs tables are s c f count none = record {
  scopes = are;
  items = record { structs = s; consts = c; functions = f };
  entries = record { counted = count; each = λ k q h. none k q };
  counts = places_same _ _ _ _ _ _ (ap length s) (ap length c) (ap length f);
}

pub index_push : {Y : Type 0} (lists : List (List (List ℕ))) (ds : List Declaration) (d : Declaration) (ss sss : List StructItem) (cs ccs : List ConstItem) (fs ffs : List FunctionItem) (old new : List (BTreeMap (String Y) (Option Meaning))) (value : Option Meaning)
    → IsIndex lists ds ss cs fs old → d.scope < length lists
    → sss ≡ ss ++ with_first (struct_in d d.what) [] → ccs ≡ cs ++ with_first (const_in d d.what) [] → ffs ≡ fs ++ with_first (function_in d d.what) []
    → length new ≡ length old → IsPut old new d.scope (what_name d.what).text value
    → value ≡ first_meaning (option_flatten (look old d.scope (what_name d.what).text)) d.hidden (meaning_as (lengths ss cs fs) (what_view d.what))
    → IsIndex lists (ds ++ d ∷ []) sss ccs ffs new
index_push lists ds d ss sss cs ccs fs ffs old new value index bound s c f count put is =
    let dsv = map (declared_view lists) ds in
    let dv = declared_view lists d in
    let name = (what_name d.what).text in
    let appended : map (declared_view lists) (ds ++ d ∷ []) ≡ dsv ++ dv ∷ [] = map-append (declared_view lists) ds (d ∷ []) in
    let known : option_flatten (look old d.scope name) ≡ meaning dsv (list_at lists d.scope) name = ap option_flatten (index.entries.each d.scope name bound) ∙ flat_entry dsv (list_at lists d.scope) name in
    let is2 : value ≡ first_meaning (meaning dsv dv.modules dv.name.text) dv.hidden (meaning_of (counted none_yet dsv, dv)) =
    is ∙ (ap (λ o. first_meaning o d.hidden (meaning_as (lengths ss cs fs) (what_view d.what))) known ∙ ap (λ p. first_meaning (meaning dsv (list_at lists d.scope) name) d.hidden (meaning_as p (what_view d.what))) index.counts) in
    record {
      scopes = index.scopes;
      items = record {
        structs = s ∙ (ap (λ xs. xs ++ with_first (struct_in d d.what) []) index.items.structs ∙ sym (picked_push (λ x. struct_in x x.what) ds d));
        consts = c ∙ (ap (λ xs. xs ++ with_first (const_in d d.what) []) index.items.consts ∙ sym (picked_push (λ x. const_in x x.what) ds d));
        functions = f ∙ (ap (λ xs. xs ++ with_first (function_in d d.what) []) index.items.functions ∙ sym (picked_push (λ x. function_in x x.what) ds d));
      };
      entries = subst (λ es. AreEntries lists new es) (sym appended) (entries_push lists dsv dv old new d.scope value index.scopes index.entries bound refl put is2 count);
      counts =
          places_same _ _ _ _ _ _ (ap length s) (ap length c) (ap length f)
          ∙ (lengths_push ss cs fs d d.what ∙ (ap (λ p. past p (what_view d.what)) index.counts ∙ (sym (counted_push none_yet dsv dv) ∙ ap (counted none_yet) (sym appended))));
    }

pub told_push : {Y : Type 0} (lists : List (List (List ℕ))) (ds : List Declaration) (d : Declaration) (ss : List StructItem) (cs : List ConstItem) (fs : List FunctionItem) (old : List (BTreeMap (String Y) (Option Meaning))) (best new : Option Fault) (taken : Bool)
    → IsIndex lists ds ss cs fs old → d.scope < length lists → taken ≡ is_some (look old d.scope (what_name d.what).text)
    → new ≡ least best (cond taken (twice d.file (what_name d.what) ∷ []) []) → new ≡ least best (repeat (map (declared_view lists) ds) (declared_view lists d))
told_push lists ds d ss cs fs old best new taken index bound t e =
    let name = (what_name d.what).text in
    let same : taken ≡ is_taken (map (declared_view lists) ds) (list_at lists d.scope) name = t ∙ (ap is_some (index.entries.each d.scope name bound) ∙ some_entry (map (declared_view lists) ds) (list_at lists d.scope) name) in
    e ∙ ap (λ b. least best (cond b (twice d.file (what_name d.what) ∷ []) [])) same

-- the items of each kind, as those of the declarations

with_view : {A B : Type 0} (g : A → B) (o : Option A) (xs : List A) → map g (with_first o xs) ≡ with_first (option_map g o) (map g xs)
with_view g None xs = refl
with_view g (Some x) xs = refl

struct_view_case : (lists : List (List (List ℕ))) (d : Declaration) (w : What) → d.what ≡ w → option_map (struct_item lists) (struct_in d w) ≡ struct_of (declared_view lists d) (what_view w)
struct_view_case lists d (what.Module m) e = refl
struct_view_case lists d (what.Struct s) e = ap (λ w. Some (declared_view lists (record { file = d.file; scope = d.scope; hidden = d.hidden; what = w }), struct_view s.now)) (sym e)
struct_view_case lists d (what.Const c) e = refl
struct_view_case lists d (what.Function f) e = refl

const_view_case : (lists : List (List (List ℕ))) (d : Declaration) (w : What) → d.what ≡ w → option_map (const_item lists) (const_in d w) ≡ const_of (declared_view lists d) (what_view w)
const_view_case lists d (what.Module m) e = refl
const_view_case lists d (what.Struct s) e = refl
const_view_case lists d (what.Const c) e = ap (λ w. Some (declared_view lists (record { file = d.file; scope = d.scope; hidden = d.hidden; what = w }), c.now)) (sym e)
const_view_case lists d (what.Function f) e = refl

function_view_case : (lists : List (List (List ℕ))) (d : Declaration) (w : What) → d.what ≡ w → option_map (function_item lists) (function_in d w) ≡ function_of (declared_view lists d) (what_view w)
function_view_case lists d (what.Module m) e = refl
function_view_case lists d (what.Struct s) e = refl
function_view_case lists d (what.Const c) e = refl
function_view_case lists d (what.Function f) e = ap (λ w. Some (declared_view lists (record { file = d.file; scope = d.scope; hidden = d.hidden; what = w }), fn_view f.now)) (sym e)

pub structs_view : (lists : List (List (List ℕ))) (ds : List Declaration) → map (struct_item lists) (structs_in ds) ≡ structs (map (declared_view lists) ds)
structs_view lists [] = refl
structs_view lists (d ∷ ds) =
    with_view (struct_item lists) (struct_in d d.what) (structs_in ds)
    ∙ (ap (λ xs. with_first (option_map (struct_item lists) (struct_in d d.what)) xs) (structs_view lists ds) ∙ ap (λ o. with_first o (structs (map (declared_view lists) ds))) (struct_view_case lists d d.what refl))

pub consts_view : (lists : List (List (List ℕ))) (ds : List Declaration) → map (const_item lists) (consts_in ds) ≡ consts (map (declared_view lists) ds)
consts_view lists [] = refl
consts_view lists (d ∷ ds) =
    with_view (const_item lists) (const_in d d.what) (consts_in ds)
    ∙ (ap (λ xs. with_first (option_map (const_item lists) (const_in d d.what)) xs) (consts_view lists ds) ∙ ap (λ o. with_first o (consts (map (declared_view lists) ds))) (const_view_case lists d d.what refl))

pub functions_view : (lists : List (List (List ℕ))) (ds : List Declaration) → map (function_item lists) (functions_in ds) ≡ functions (map (declared_view lists) ds)
functions_view lists [] = refl
functions_view lists (d ∷ ds) =
    with_view (function_item lists) (function_in d d.what) (functions_in ds)
    ∙ (ap (λ xs. with_first (option_map (function_item lists) (function_in d d.what)) xs) (functions_view lists ds) ∙ ap (λ o. with_first o (functions (map (declared_view lists) ds))) (function_view_case lists d d.what refl))

-- the first function past the limit

get_map : {A B : Type 0} (g : A → B) (xs : List A) (n : ℕ) → slice_get (map g xs) n ≡ option_map g (slice_get xs n)
get_map g [] n = refl
get_map g (x ∷ xs) zero = refl
get_map g (x ∷ xs) (suc n) = get_map g xs n

pub limit_fits : {Y : Type 0} (lists : List (List (List ℕ))) (ds : List Declaration) (ss : List StructItem) (cs : List ConstItem) (fs : List FunctionItem) (tables : List (BTreeMap (String Y) (Option Meaning))) (n : ℕ) → IsIndex lists ds ss cs fs tables
    → past_limit (map (declared_view lists) ds) n ≡ limit_at (option_map (function_item lists) (slice_get fs n))
limit_fits lists ds ss cs fs tables n index =
    limit_is (map (declared_view lists) ds) n
    ∙ (ap (λ xs. limit_at (slice_get xs n)) (sym (functions_view lists ds) ∙ ap (map (function_item lists)) (sym index.items.functions)) ∙ ap limit_at (get_map (function_item lists) fs n))

pub past_told : {Y : Type 0} (lists : List (List (List ℕ))) (ds : List Declaration) (ss : List StructItem) (cs : List ConstItem) (fs : List FunctionItem) (tables : List (BTreeMap (String Y) (Option Meaning))) (n : ℕ) (best new : Option Fault) (i : FunctionItem) → slice_get fs n ≡ Some i
    → new ≡ kept best (limit_fault (function_item lists i).0) → IsIndex lists ds ss cs fs tables → new ≡ least best (past_limit (map (declared_view lists) ds) n)
past_told lists ds ss cs fs tables n best new i there e index =
    e ∙ (sym (least_one best (limit_fault (function_item lists i).0)) ∙ ap (least best) (sym (limit_fits lists ds ss cs fs tables n index ∙ ap (λ o. limit_at (option_map (function_item lists) o)) there)))

pub none_past : {Y : Type 0} (lists : List (List (List ℕ))) (ds : List Declaration) (ss : List StructItem) (cs : List ConstItem) (fs : List FunctionItem) (tables : List (BTreeMap (String Y) (Option Meaning))) (n : ℕ) (best : Option Fault) → slice_get fs n ≡ None
    → IsIndex lists ds ss cs fs tables → best ≡ least best (past_limit (map (declared_view lists) ds) n)
none_past lists ds ss cs fs tables n best there index =
    sym (least_nil best) ∙ ap (least best) (sym (limit_fits lists ds ss cs fs tables n index ∙ ap (λ o. limit_at (option_map (function_item lists) o)) there))

-- What the walk has read so far.
use Rattle.std.proofs.Common.{◌≡◌, ℕ, zero, suc, ◌+◌, ◌<◌, ◌||◌, List, [], ◌∷◌, ◌++◌, length, map, Bool, true, false, refl, sym, ap, ◌∙◌, subst, arith, append-nil, append_assoc, length-append}
use Rattle.std.specs.Str.{bytes_eq}
use Rattle.std.proofs.lemmas.List.{map-append}
use Rattle.lar_tree.specs.Items.{PlainItem, PlainItems, no_items, items}
use Rattle.lar_rules.specs.Declared.{Declared, Source, has_name, item_name, item_declared, items_declared, declared_from}
use Rattle.lar_names.specs.declared.declaration.Declaration.{Declaration}
use Rattle.lar_names.specs.declared.earlier.Earlier.{Earlier}
use Rattle.lar_names.specs.Declarations.{declared_view, AllWithin, Reads}
use Rattle.lar_names.specs.EarlierNames.{is_earlier}
use Rattle.lar_names.specs.Scopes.{list_at, Grows}

at_front : (ls more : List (List (List ℕ))) (n : ℕ) → n < length ls → list_at (ls ++ more) n ≡ list_at ls n
at_front [] more n h = absurd (omega arith)
at_front (l ∷ ls) more zero h = refl
at_front (l ∷ ls) more (suc n) h = at_front ls more n (omega arith)

-- a scope keeps its list while others are added
pub list_kept : (old new : List (List (List ℕ))) (n : ℕ) → Grows old new → n < length old → list_at new n ≡ list_at old n
list_kept old new n grown h = ap (λ ls. list_at ls n) grown.1 ∙ at_front old grown.0 n h

pub bound_kept : (old new : List (List (List ℕ))) (n : ℕ) → Grows old new → n < length old → n < length new
bound_kept old new n grown h = let e = ap length grown.1 in let f = length-append old grown.0 in omega (arith, e, f, h)

pub grows_self : (ls : List (List (List ℕ))) → Grows ls ls
grows_self ls = ([], sym (append-nil ls))

pub grows_more : (a b c : List (List (List ℕ))) → Grows a b → Grows b c → Grows a c
grows_more a b c f g = (f.0 ++ g.0, g.1 ∙ (ap (λ ls. ls ++ g.0) f.1 ∙ append_assoc a f.0 g.0))

within_kept : (n k : ℕ) (ds : List Declaration) → n < k + 1 → AllWithin n ds → AllWithin k ds
within_kept n k [] h w = tt
within_kept n k (d ∷ ds) h w = ((let b = w.0 in omega (arith, b)), within_kept n k ds h w.1)

view_kept : (old new : List (List (List ℕ))) (ds : List Declaration) → Grows old new → AllWithin (length old) ds → map (declared_view new) ds ≡ map (declared_view old) ds
view_kept old new [] g w = refl
view_kept old new (d ∷ ds) g w =
    let same = list_kept old new d.scope g w.0 in
    ap (λ m. record { file = d.file; modules = m; name = (declared_view old d).name; hidden = d.hidden; what = (declared_view old d).what } ∷ map (declared_view new) ds) same
    ∙ ap (λ xs. declared_view old d ∷ xs) (view_kept old new ds g w.1)

all_append : (n : ℕ) (xs ys : List Declaration) → AllWithin n xs → AllWithin n ys → AllWithin n (xs ++ ys)
all_append n [] ys a b = b
all_append n (x ∷ xs) ys a b = (a.0, all_append n xs ys a.1 b)

pub reads_none : (old : List Declaration) (ls : List (List (List ℕ))) → Reads old old ls []
reads_none old ls = record { added = []; is = sym (append-nil old); within = tt; view = refl }

pub reads_one : (old new : List Declaration) (ls : List (List (List ℕ))) (d : Declaration) → new ≡ old ++ d ∷ [] → d.scope < length ls → Reads old new ls (declared_view ls d ∷ [])
reads_one old new ls d e h = record { added = d ∷ []; is = e; within = (h, tt); view = refl }

pub reads_more : (a b c : List Declaration) (ls new : List (List (List ℕ))) (xs ys : List Declared) → Reads a b ls xs → Grows ls new → Reads b c new ys → Reads a c new (xs ++ ys)
reads_more a b c ls new xs ys f g h = record {
  added = f.added ++ h.added;
  is = h.is ∙ (ap (λ ds. ds ++ h.added) f.is ∙ append_assoc a f.added h.added);
  within = all_append (length new) f.added h.added (within_kept (length ls) (length new) f.added (let e = ap length g.1 in let k = length-append ls g.0 in omega (arith, e, k)) f.within) h.within;
  view = map-append (declared_view new) f.added h.added ∙ (ap (λ ds. ds ++ map (declared_view new) h.added) (view_kept ls new f.added g f.within ∙ f.view) ∙ ap (λ ds. xs ++ ds) h.view);
}

-- the items of a body so far: their names, and what they declare
pub record SoFar (file : ℕ) (modules : List (List ℕ)) (hidden : Bool) (all rest : PlainItems) (earlier : Earlier) (old new : List Declaration) (ls : List (List (List ℕ))) : Type 0 where
  pub names : List (List ℕ)
  pub known : (q : List ℕ) → has_name q names ≡ is_earlier earlier q
  pub ds : List Declared
  pub reads : Reads old new ls ds
  pub total : ds ++ items_declared file modules hidden names rest ≡ items_declared file modules hidden [] all

pub so_far_none : (file : ℕ) (modules : List (List ℕ)) (hidden : Bool) (all : PlainItems) (earlier : Earlier) (old : List Declaration) (ls : List (List (List ℕ))) → ((q : List ℕ) → is_earlier earlier q ≡ false) → SoFar file modules hidden all all earlier old old ls
so_far_none file modules hidden all earlier old ls none = record { names = []; known = λ q. sym (none q); ds = []; reads = reads_none old ls; total = refl }

has_last : (q n : List ℕ) (names : List (List ℕ)) → has_name q (names ++ n ∷ []) ≡ (bytes_eq q n || has_name q names)
has_last q n [] = refl
has_last q n (m ∷ ms) = ap (λ b. bytes_eq q m || b) (has_last q n ms) ∙ swap (bytes_eq q m) (bytes_eq q n) (has_name q ms)
  where
    swap : (a b c : Bool) → (a || (b || c)) ≡ (b || (a || c))
    swap true true c = refl
    swap true false c = refl
    swap false b c = refl

pub so_far_more : (file : ℕ) (modules : List (List ℕ)) (hidden : Bool) (all rest : PlainItems) (i : PlainItem) (before after : Earlier) (old new next : List Declaration) (ls more : List (List (List ℕ)))
    → (so : SoFar file modules hidden all (items i rest) before old new ls) → Grows ls more → Reads new next more (item_declared file modules hidden so.names i)
    → ((q : List ℕ) → is_earlier after q ≡ (bytes_eq q (item_name i).text || is_earlier before q)) → SoFar file modules hidden all rest after old next more
so_far_more file modules hidden all rest i before after old new next ls more so grown read add = record {
  names = so.names ++ (item_name i).text ∷ [];
  known = λ q. has_last q (item_name i).text so.names ∙ (ap (λ b. bytes_eq q (item_name i).text || b) (so.known q) ∙ sym (add q));
  ds = so.ds ++ item_declared file modules hidden so.names i;
  reads = reads_more old new next ls more so.ds (item_declared file modules hidden so.names i) so.reads grown read;
  total = append_assoc so.ds (item_declared file modules hidden so.names i) (items_declared file modules hidden (so.names ++ (item_name i).text ∷ []) rest) ∙ so.total;
}

pub so_far_end : (file : ℕ) (modules : List (List ℕ)) (hidden : Bool) (all rest : PlainItems) (earlier : Earlier) (old new : List Declaration) (ls : List (List (List ℕ))) → SoFar file modules hidden all rest earlier old new ls → rest ≡ no_items → Reads old new ls (items_declared file modules hidden [] all)
so_far_end file modules hidden all rest earlier old new ls so empty =
    subst (λ ds. Reads old new ls ds) (sym (append-nil so.ds) ∙ (ap (λ r. so.ds ++ items_declared file modules hidden so.names r) (sym empty) ∙ so.total)) so.reads

-- the files so far, and what they declare
pub record FilesSoFar (all : List Source) (file : ℕ) (rest : List Source) (new : List Declaration) (ls : List (List (List ℕ))) : Type 0 where
  pub ds : List Declared
  pub reads : Reads [] new ls ds
  pub total : ds ++ declared_from file rest ≡ declared_from 0 all

pub files_none : (all : List Source) (new : List Declaration) (ls : List (List (List ℕ))) → new ≡ [] → FilesSoFar all 0 all new ls
files_none all new ls e = record { ds = []; reads = subst (λ n. Reads [] n ls []) (sym e) (reads_none [] ls); total = refl }

pub files_more : (all rest : List Source) (file : ℕ) (s : Source) (new next : List Declaration) (ls more : List (List (List ℕ))) → (so : FilesSoFar all file (s ∷ rest) new ls) → Grows ls more → Reads new next more (items_declared file (s.module_name ∷ []) false [] s.items) → FilesSoFar all (file + 1) rest next more
files_more all rest file s new next ls more so grown read = record {
  ds = so.ds ++ items_declared file (s.module_name ∷ []) false [] s.items;
  reads = reads_more [] new next ls more so.ds (items_declared file (s.module_name ∷ []) false [] s.items) so.reads grown read;
  total = append_assoc so.ds (items_declared file (s.module_name ∷ []) false [] s.items) (declared_from (file + 1) rest) ∙ so.total;
}

pub files_end : (all rest : List Source) (file : ℕ) (new : List Declaration) (ls : List (List (List ℕ))) → FilesSoFar all file rest new ls → rest ≡ [] → Reads [] new ls (declared_from 0 all)
files_end all rest file new ls so empty =
    subst (λ ds. Reads [] new ls ds) (sym (append-nil so.ds) ∙ (ap (λ r. so.ds ++ declared_from file r) (sym empty) ∙ so.total)) so.reads

-- What a path means, by the names of its modules and its last name.
use Rattle.std.proofs.Common.{◌≡◌, ℕ, zero, suc, ◌+◌, ◌-◌, ◌<◌, ◌&&◌, List, [], ◌∷◌, ◌++◌, ◌≤◌, length, map, take, drop, get_or, Option, Some, None, Bool, true, false, not, refl, sym, ap, ◌∙◌, arith, length-append, add-zero}
use Rattle.std.specs.Prelude.{if◌then◌else◌, option_map, option_and_then, slice_get}
use Rattle.std.specs.Str.{bytes_eq}
use Rattle.std.proofs.Math.Seq.{take-append_seam}
use Rattle.std.proofs.lemmas.List.{drop_more, drop_all, take-append-drop}
use Rattle.lar_tree.specs.declared.name.Path.{Path}
use Rattle.lar_tree.specs.declared.name.Segment.{Segment}
use Rattle.lar_rules.specs.Declared.{Declared, Places, What, a_module, a_struct, a_const, a_function, Struct, Function, as_struct, as_const, as_function, past, same_modules, meant_from, meant, path_meant, modules_of, last_of, texts_of}
use Rattle.lar_rules.specs.Faults.{none_yet}
use Rattle.lar_rules.specs.Signatures.{this_or_later, struct_from, struct_numbered}
use Rattle.lar_names.specs.declared.declaration.Declaration.{Declaration}
use Rattle.lar_names.specs.Declarations.{declared_view}
use Rattle.lar_names.specs.Entries.{meaning}
use Rattle.lar_names.specs.Indexed.{AreWithin}
use Rattle.lar_names.specs.Kinds.{struct_number, const_number, function_number}
use Rattle.lar_names.specs.Meanings.{meaning_as, meaning_of}
use Rattle.lar_names.specs.Numbered.{structs, struct_of, struct_at, with_first}
use Rattle.lar_names.specs.Scopes.{number_of}
use Rattle.lar_names.proofs.Numbers.{number_missing}
use Rattle.lar_names.proofs.Sameness.{modules_apart}

-- paths

seg_texts : (xs : List Segment) → map (λ n. n.text) (map (λ s. s.name) xs) ≡ map (λ s. (s.name).text) xs
seg_texts [] = refl
seg_texts (x ∷ xs) = ap (λ ns. (x.name).text ∷ ns) (seg_texts xs)

front_of : (xs : List (List ℕ)) (l : List ℕ) → take (length (xs ++ l ∷ []) - 1) (xs ++ l ∷ []) ≡ xs
front_of xs l =
    let e : length (xs ++ l ∷ []) - 1 ≡ length xs = (let f = length-append xs (l ∷ []) in omega (arith, f)) in
    ap (λ n. take n (xs ++ l ∷ [])) e ∙ take-append_seam xs (l ∷ [])

modules_long : (here : List (List ℕ)) (f : List ℕ) (xs : List (List ℕ)) (l : List ℕ) → modules_of here (f ∷ (xs ++ l ∷ [])) ≡ f ∷ xs
modules_long here f [] l = front_of (f ∷ []) l
modules_long here f (x ∷ xs) l = front_of (f ∷ x ∷ xs) l

last_long : (n : List ℕ) (xs : List (List ℕ)) (l : List ℕ) → last_of n (xs ++ l ∷ []) ≡ l
last_long n [] l = refl
last_long n (x ∷ xs) l = last_long x xs l

map_last : (xs : List Segment) (l : Segment) → map (λ s. (s.name).text) (xs ++ l ∷ []) ≡ map (λ s. (s.name).text) xs ++ (l.name).text ∷ []
map_last [] l = refl
map_last (x ∷ xs) l = ap (λ ns. (x.name).text ∷ ns) (map_last xs l)

pub long_path : (ds : List Declared) (here : List (List ℕ)) (p : Path) (between : List Segment) (last : Segment) → p.more ≡ between ++ last ∷ []
    → path_meant ds here p ≡ meant ds ((p.first).text ∷ map (λ s. (s.name).text) between) (last.name).text
long_path ds here p between last e =
    let texts : texts_of p ≡ (p.first).text ∷ (map (λ s. (s.name).text) between ++ (last.name).text ∷ []) =
    ap (λ ns. (p.first).text ∷ ns) (seg_texts p.more ∙ (ap (map (λ s. (s.name).text)) e ∙ map_last between last)) in
    ap (λ ts. meant ds (modules_of here ts) (last_of [] ts)) texts
    ∙ (ap (λ m. meant ds m (last_of (p.first).text (map (λ s. (s.name).text) between ++ (last.name).text ∷ []))) (modules_long here (p.first).text (map (λ s. (s.name).text) between) (last.name).text)
    ∙ ap (meant ds ((p.first).text ∷ map (λ s. (s.name).text) between)) (last_long (p.first).text (map (λ s. (s.name).text) between) (last.name).text))

pub short_path : (ds : List Declared) (here : List (List ℕ)) (p : Path) → p.more ≡ [] → path_meant ds here p ≡ meant ds here (p.first).text
short_path ds here p e =
    let texts : texts_of p ≡ (p.first).text ∷ [] = ap (λ ns. (p.first).text ∷ ns) (seg_texts p.more ∙ ap (map (λ s. (s.name).text)) e) in
    ap (λ ts. meant ds (modules_of here ts) (last_of [] ts)) texts

-- where no scope has the modules, nothing is meant

absent_case : {A : Type 0} (hidden s t : Bool) (a : A) (rest : Option A) → s ≡ false → rest ≡ None → (if not hidden && (s && t) then Some a else rest) ≡ None
absent_case hidden true t a rest h e = cc
absent_case true false t a rest h e = e
absent_case false false t a rest h e = e

absent_from : (p : Places) (lists : List (List (List ℕ))) (ds : List Declaration) (m : List (List ℕ)) (n : List ℕ) → AreWithin (length lists) ds → number_of m lists ≡ None → meant_from p m n (map (declared_view lists) ds) ≡ None
absent_from p lists [] m n are h = refl
absent_from p lists (d ∷ ds) m n are h =
    let dv = declared_view lists d in
    absent_case d.hidden (same_modules dv.modules m) (bytes_eq dv.name.text n) (p, dv) (meant_from (past p dv.what) m n (map (declared_view lists) ds))
    (modules_apart dv.modules m (number_missing lists m d.scope h (are.each 0 d refl)))
    (absent_from (past p dv.what) lists ds m n (record { each = λ i x e. are.each (suc i) x e }) h)

pub absent : (lists : List (List (List ℕ))) (ds : List Declaration) (m : List (List ℕ)) (n : List ℕ) → AreWithin (length lists) ds → number_of m lists ≡ None → meaning (map (declared_view lists) ds) m n ≡ None
absent lists ds m n are h = ap (option_map meaning_of) (absent_from none_yet lists ds m n are h)

-- meanings of a kind

struct_case : (p : Places) (d : Declared) (w : What) → option_map (λ (x : Struct). x.number) (as_struct (p, d) w) ≡ struct_number (meaning_as p w)
struct_case p d a_module = refl
struct_case p d (a_struct s) = refl
struct_case p d (a_const c) = refl
struct_case p d (a_function f) = refl

pub struct_is : (o : Option (Places × Declared)) → option_and_then struct_number (option_map meaning_of o) ≡ option_map (λ (x : Struct). x.number) (option_and_then (λ m. as_struct m ((m.1).what)) o)
struct_is None = refl
struct_is (Some m) = sym (struct_case m.0 m.1 (m.1).what)

const_case : (p : Places) (d : Declared) (w : What) → as_const (p, d) w ≡ const_number (meaning_as p w)
const_case p d a_module = refl
const_case p d (a_struct s) = refl
const_case p d (a_const c) = refl
const_case p d (a_function f) = refl

pub const_is : (o : Option (Places × Declared)) → option_and_then const_number (option_map meaning_of o) ≡ option_and_then (λ m. as_const m ((m.1).what)) o
const_is None = refl
const_is (Some m) = sym (const_case m.0 m.1 (m.1).what)

function_case : (p : Places) (d : Declared) (w : What) → option_map (λ (x : Function). x.number) (as_function (p, d) w) ≡ function_number (meaning_as p w)
function_case p d a_module = refl
function_case p d (a_struct s) = refl
function_case p d (a_const c) = refl
function_case p d (a_function f) = refl

pub function_is : (o : Option (Places × Declared)) → option_and_then function_number (option_map meaning_of o) ≡ option_map (λ (x : Function). x.number) (option_and_then (λ m. as_function m ((m.1).what)) o)
function_is None = refl
function_is (Some m) = sym (function_case m.0 m.1 (m.1).what)

-- structs by number

later_case : (d : Declared) (w : What) (n k : ℕ) (ds : List Declared) → ((n k : ℕ) → struct_from ds n k ≡ option_map (struct_at (k + n)) (slice_get (structs ds) n))
    → this_or_later d w n k (struct_from ds) ≡ option_map (struct_at (k + n)) (slice_get (with_first (struct_of d w) (structs ds)) n)
later_case d (a_struct s) zero k ds h = ap (λ i. Some (struct_at i (d, s))) (sym (add-zero k))
later_case d (a_struct s) (suc n) k ds h =
    let e : suc k + n ≡ k + suc n = omega arith in
    h n (suc k) ∙ ap (λ i. option_map (struct_at i) (slice_get (structs ds) n)) e
later_case d a_module n k ds h = h n k
later_case d (a_const c) n k ds h = h n k
later_case d (a_function f) n k ds h = h n k

struct_from_is : (ds : List Declared) (n k : ℕ) → struct_from ds n k ≡ option_map (struct_at (k + n)) (slice_get (structs ds) n)
struct_from_is [] n k = refl
struct_from_is (d ∷ ds) n k = later_case d d.what n k ds (λ n k. struct_from_is ds n k)

pub struct_numbered_is : (ds : List Declared) (n : ℕ) → struct_numbered ds n ≡ option_map (struct_at n) (slice_get (structs ds) n)
struct_numbered_is ds n = let e : 0 + n ≡ n = omega arith in struct_from_is ds n 0 ∙ ap (λ i. option_map (struct_at i) (slice_get (structs ds) n)) e

-- a list is all of it but the last, and the last
pub front_and_last : {A : Type 0} (xs : List A) (l : A) → 1 ≤ length xs → l ≡ get_or xs (length xs - 1) l → xs ≡ take (length xs - 1) xs ++ l ∷ []
front_and_last xs l h e =
    let n = length xs - 1 in
    let within : n < length xs = omega (arith, h) in
    let past : length xs ≤ n + 1 = omega (arith, h) in
    let rest : drop n xs ≡ l ∷ [] = drop_more xs n l within ∙ (ap (λ x. x ∷ drop (n + 1) xs) (sym e) ∙ ap (λ ys. l ∷ ys) (drop_all (n + 1) xs past)) in
    sym (ap (λ ys. take n xs ++ ys) (sym rest) ∙ take-append-drop n xs)

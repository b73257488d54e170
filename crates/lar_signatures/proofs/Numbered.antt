-- The function with a number, and the one that a path means.
use Rattle.std.proofs.Common.{◌≡◌, ℕ, zero, suc, ◌+◌, ◌≤◌, Bool, true, false, List, [], ◌∷◌, Option, Some, None, option_map, refl, sym, ap, ◌∙◌, arith}
use Rattle.std.specs.Prelude.{if◌then◌else◌, option_and_then, slice_get}
use Rattle.lar_tree.specs.declared.name.Path.{Path}
use Rattle.lar_rules.specs.Declared.{What, a_module, a_struct, a_const, a_function, Declared, Places, past, is_named, meant_from, meant, Function, as_function, path_meant, function_meant, modules_of, last_of, texts_of}
use Rattle.lar_names.specs.Numbered.{functions, function_of, function_at, function_numbered, with_first}

-- the function is found behind these places
abbrev Found : List Declared → Places → Function → Type 0
Found ds p x = (p.functions ≤ x.number) × ((n : ℕ) → x.number ≡ p.functions + n → option_map (function_at x.number) (slice_get (functions ds) n) ≡ Some x)

abbrev FoundHere : Declared → List Declared → Places → What → Function → Type 0
FoundHere d ds p w x = (p.functions ≤ x.number) × ((n : ℕ) → x.number ≡ p.functions + n → option_map (function_at x.number) (slice_get (with_first (function_of d w) (functions ds)) n) ≡ Some x)

later : (d : Declared) (ds : List Declared) (p : Places) (w : What) (x : Function) → Found ds (past p w) x → FoundHere d ds p w x
later d ds p a_module x h = h
later d ds p (a_const c) x h = h
later d ds p (a_struct s) x h = h
later d ds p (a_function f) x h = (let l : suc p.functions ≤ x.number = h.0 in omega arith, go)
  where
    go : (n : ℕ) → x.number ≡ p.functions + n → option_map (function_at x.number) (slice_get (with_first (function_of d (a_function f)) (functions ds)) n) ≡ Some x
    go zero e = absurd (let l : suc p.functions ≤ x.number = h.0 in omega arith)
    go (suc n) e = h.1 n (omega arith)

here : (d : Declared) (ds : List Declared) (p : Places) (w : What) (x : Function) → as_function (p, d) w ≡ Some x → FoundHere d ds p w x
here d ds p a_module x e = absurd (let h : ⊥ = cc in h)
here d ds p (a_const c) x e = absurd (let h : ⊥ = cc in h)
here d ds p (a_struct s) x e = absurd (let h : ⊥ = cc in h)
here d ds p (a_function f) x e =
    let is : record { number = p.functions; from = d; it = f } ≡ x = cc in
    let number : p.functions ≡ x.number = ap (λ (y : Function). y.number) is in
    (omega arith, go number)
  where
    go : p.functions ≡ x.number → (n : ℕ) → x.number ≡ p.functions + n → option_map (function_at x.number) (slice_get (with_first (function_of d (a_function f)) (functions ds)) n) ≡ Some x
    go same zero k = ap (λ (m : ℕ). Some (function_at m (d, f))) (sym same) ∙ e
    go same (suc n) k = absurd (omega arith)

found : (p : Places) (mods : List (List ℕ)) (name : List ℕ) (ds : List Declared) (m : Places × Declared) (x : Function) → meant_from p mods name ds ≡ Some m → as_function m (m.1).what ≡ Some x → Found ds p x
found p mods name [] m x e f = absurd (let h : ⊥ = cc in h)
found p mods name (d ∷ ds) m x e f = go (λ g. found (past p d.what) mods name ds m x g f) (is_named mods name d) e
  where
    go : (meant_from (past p d.what) mods name ds ≡ Some m → Found ds (past p d.what) x) → (b : Bool) → (if b then Some (p, d) else meant_from (past p d.what) mods name ds) ≡ Some m → FoundHere d ds p d.what x
    go more true g = let same : (p, d) ≡ m = cc in here d ds p d.what x (ap (λ (y : Places × Declared). as_function y (y.1).what) same ∙ f)
    go more false g = later d ds p d.what x (more g)

found_all : (o : Option (Places × Declared)) (ds : List Declared) (mods : List (List ℕ)) (name : List ℕ) (x : Function) → meant ds mods name ≡ o → option_and_then (λ m. as_function m ((m.1).what)) o ≡ Some x → function_numbered ds x.number ≡ Some x
found_all None ds mods name x e f = absurd (let h : ⊥ = cc in h)
found_all (Some m) ds mods name x e f = (found (record { structs = 0; consts = 0; functions = 0 }) mods name ds m x e f).1 x.number (omega arith)

-- the function that a path means is the one of its number
pub function_found : (ds : List Declared) (here : List (List ℕ)) (p : Path) (x : Function) → function_meant ds here p ≡ Some x → function_numbered ds x.number ≡ Some x
function_found ds here p x f = found_all (path_meant ds here p) ds (modules_of here (texts_of p)) (last_of [] (texts_of p)) x refl f

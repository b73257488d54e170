-- Where main is told lawful, the typed program has it.
use Rattle.std.proofs.Common.{◌≡◌, ℕ, ◌<◌, refl, sym, ap, ◌∙◌, subst as transport, true≢false, Bool, true, false, ◌&&◌, not, if◌then◌else◌, List, [], ◌∷◌, length, map, get_or, codes, Option, Some, None, option_and_then, bytes_eq}
use Rattle.std.proofs.lemmas.Slice.Eq.{bytes_eq-Decides}
use Rattle.std.proofs.lemmas.Option.{slice_get_within, get_or_from_slice_get}
use Rattle.type_table.specs.TypeOf.{TypeOf, end, tuple}
use Rattle.lar_typed.specs.Trees.{PlainTree, PlainFunction as TypedFunction}
use Rattle.lar_typed.specs.IsTyped.{IsMain}
use Rattle.lar_typed.proofs.SameTypes.{and_true, same_means}
use Rattle.lar_tree.specs.Stmts.{IfThere}
use Rattle.lar_rules.specs.Declared.{What, a_module, a_struct, a_const, a_function, Declared, Places, past, same_modules, is_named, meant_from, meant, Function, as_function}
use Rattle.lar_rules.specs.Generics.{GenericName, function_generics}
use Rattle.lar_rules.specs.Printed.{joined}
use Rattle.lar_rules.specs.Signatures.{list_in, outcome}
use Rattle.lar_rules.specs.Faults.{none_yet, has_none, is_unit_there, is_lawful_main, main_meant}
use Rattle.lar_rules.specs.Checked.{typed_function_of}
use Rattle.lar_sound.specs.Items.{EachItem}
use Rattle.lar_sound.proofs.ItemsMeant.{main_meant_holds}
use Rattle.lar_sound.proofs.TreeItems.{StructThere, FunctionThere}
use Rattle.lar_sound.proofs.SourceItems.{IsGoodStruct, IsGoodFunction}
use Rattle.lar_sound.proofs.TypedParts.{function_made}

-- THE NAMES OF WHAT IS MEANT

bytes_mean : (xs ys : List ℕ) → bytes_eq xs ys ≡ true → xs ≡ ys
bytes_mean xs ys h = (bytes_eq-Decides xs ys).0 h

modules_mean : (ms ns : List (List ℕ)) → same_modules ms ns ≡ true → ms ≡ ns
modules_mean [] [] h = refl
modules_mean [] (n ∷ ns) h = absurd (true≢false (sym h))
modules_mean (m ∷ ms) [] h = absurd (true≢false (sym h))
modules_mean (m ∷ ms) (n ∷ ns) h =
    let p = and_true (bytes_eq m n) (same_modules ms ns) h in
    ap (λ (x : List ℕ). x ∷ ms) (bytes_mean m n p.0) ∙ ap (λ (xs : List (List ℕ)). n ∷ xs) (modules_mean ms ns p.1)

abbrev Called : List (List ℕ) → List ℕ → Declared → Type 0
Called modules name d = (d.modules ≡ modules) × (d.name.text ≡ name)

called : (modules : List (List ℕ)) (name : List ℕ) (d : Declared) → is_named modules name d ≡ true
    → Called modules name d
called modules name d h =
    let p = and_true (not d.hidden) (same_modules d.modules modules && bytes_eq d.name.text name) h in
    let q = and_true (same_modules d.modules modules) (bytes_eq d.name.text name) p.1 in
    (modules_mean d.modules modules q.0, bytes_mean d.name.text name q.1)

one_called : (modules : List (List ℕ)) (name : List ℕ) (p : Places) (d : Declared) (b : Bool)
    (o : Option (Places × Declared)) → is_named modules name d ≡ b
    → IfThere (λ (m : Places × Declared). Called modules name m.1) o
    → IfThere (λ (m : Places × Declared). Called modules name m.1) (if b then Some (p, d) else o)
one_called modules name p d true o e h = called modules name d e
one_called modules name p d false o e h = h

meant_called : (p : Places) (modules : List (List ℕ)) (name : List ℕ) (ds : List Declared)
    → IfThere (λ (m : Places × Declared). Called modules name m.1) (meant_from p modules name ds)
meant_called p modules name [] = tt
meant_called p modules name (d ∷ ds) =
    one_called modules name p d (is_named modules name d) (meant_from (past p d.what) modules name ds) refl
    (meant_called (past p d.what) modules name ds)

function_called : (modules : List (List ℕ)) (name : List ℕ) (m : Places × Declared) (w : What) → Called modules name m.1
    → IfThere (λ (x : Function). Called modules name x.from) (as_function m w)
function_called modules name m a_module h = tt
function_called modules name m (a_struct s) h = tt
function_called modules name m (a_const c) h = tt
function_called modules name m (a_function f) h = h

if_called : (modules : List (List ℕ)) (name : List ℕ) (o : Option (Places × Declared))
    → IfThere (λ (m : Places × Declared). Called modules name m.1) o
    → IfThere (λ (x : Function). Called modules name x.from) (option_and_then (λ m. as_function m ((m.1).what)) o)
if_called modules name None h = tt
if_called modules name (Some m) h = function_called modules name m ((m.1).what) h

main_called : (all : List Declared)
    → IfThere (λ (x : Function). Called (codes "main" ∷ []) (codes "main") x.from) (main_meant all)
main_called all = if_called (codes "main" ∷ []) (codes "main") (meant all (codes "main" ∷ []) (codes "main"))
    (meant_called _ (codes "main" ∷ []) (codes "main") all)

-- MAIN

none_is : {A : Type 0} (xs : List A) → has_none xs ≡ true → xs ≡ []
none_is [] h = refl
none_is (x ∷ xs) h = absurd (true≢false (sym h))

unit_is : (o : Option TypeOf) (t : TypeOf) → o ≡ Some t → is_unit_there o ≡ true → t ≡ tuple end
unit_is o t e h = same_means t (tuple end) (ap is_unit_there (sym e) ∙ h)

-- the place of main in a typed program
pub record HasMain (t : PlainTree) : Type 0 where
  pub main : ℕ
  pub there : main < length t.functions
  pub is : (d : TypedFunction) → IsMain (get_or t.functions main d)

main_by : (t : PlainTree) (all : List Declared) (o : Option Function) → is_lawful_main all o ≡ true
    → IfThere (FunctionThere t all) o → IfThere IsGoodFunction o
    → IfThere (λ (x : Function). Called (codes "main" ∷ []) (codes "main") x.from) o → HasMain t
main_by t all None h f g c = absurd (true≢false (sym h))
main_by t all (Some x) h f g c =
    let m = function_made all x f.it f.typed in
    let p = and_true (has_none (function_generics x.it.generics))
    (has_none (list_in x.it.params) && is_unit_there (outcome all x)) h in
    let q = and_true (has_none (list_in x.it.params)) (is_unit_there (outcome all x)) p.1 in
    let main : IsMain (typed_function_of all x m.locals m.result m.body) = record {
      in_main = ap joined c.0;
      is_main = ap (λ n. n.text) (sym g.same_name) ∙ c.1;
      no_generics =
          ap (λ (gs : List GenericName). map (λ g. g.sort) gs) (none_is (function_generics x.it.generics) p.0);
      no_params = ap (λ xs. length xs) (none_is (list_in x.it.params) q.0);
      unit = unit_is (outcome all x) m.result m.result_known q.1;
    } in
    record {
      main = x.number;
      there = slice_get_within t.functions x.number f.it f.there;
      is = λ d. transport (λ (y : TypedFunction). IsMain y)
          (m.is ∙ sym (get_or_from_slice_get t.functions x.number f.it d f.there)) main;
    }

pub main_sound : (t : PlainTree) (all : List Declared)
    → EachItem (StructThere t all) (FunctionThere t all) (λ (n : ℕ). n < length t.consts) none_yet all
    → EachItem IsGoodStruct IsGoodFunction (λ (n : ℕ). Unit {0}) none_yet all
    → is_lawful_main all (main_meant all) ≡ true → HasMain t
main_sound t all items good h =
    main_by t all (main_meant all) h (main_meant_holds (StructThere t all) (FunctionThere t all) _ all items)
    (main_meant_holds IsGoodStruct IsGoodFunction _ all good) (main_called all)

-- Items by their instances.
use Rattle.std.proofs.Common.{◌≡◌, ℕ, zero, suc, ◌+◌, ◌<◌, ◌≤◌, List, [], ◌∷◌, ◌++◌, length, map, take, get_or, refl, sym, ap, ◌∙◌, subst as transport, arith, Option, Some, option_map, min}
use Rattle.std.specs.Prelude.{slice_get}
use Rattle.std.specs.List.{AllByRecursion}
use Rattle.std.proofs.lemmas.List.{length-map, take_more, map_push}
use Rattle.std.proofs.lemmas.Option.{slice_get-map, slice_get_read, get_or_from_slice_get}
use Rattle.type_table.specs.Rows.{type_at}
use Rattle.lar_typed.specs.declared.tree.TypedFunction.{TypedFunction}
use Rattle.lar_typed.specs.Size.{stmts_size}
use Rattle.lar_typed.specs.StmtView.{stmts_view}
use Rattle.lar_typed.specs.Trees.{FunctionOf, PlainFunction, function_map}
use Rattle.lar_typed.specs.TreeView.{Contents, IsTypedTree, function_view, plain}
use Rattle.lar_typed.specs.IsTyped.{IsFunction}
use Rattle.mono_items.specs.declared.items.Instance.{Instance}
use Rattle.mono_items.specs.declared.items.MonoItem.{MonoItem}
use Rattle.mono_graph.specs.Graphs.{SaysOf, SaysIf, IsItem}
use Rattle.mono_graph.proofs.Sized.{stmts_size_map}
use Rattle.mono_collect.specs.declared.bodies.Body.{Body}
use Rattle.mono_collect.specs.Bodies.{PlainBody, body_view, body_of}

pub all_at : {A : Type 0} (P : A → Type 0) (xs : List A) (i : ℕ) (d : A) → AllByRecursion P xs → i < length xs → P (get_or xs i d)
all_at P [] i d h l = absurd (omega arith)
all_at P (x ∷ xs) zero d h l = h.0
all_at P (x ∷ xs) (suc i) d h l = all_at P xs i d h.1 (omega arith)

pub all_push : {A : Type 0} (P : A → Type 0) (xs : List A) (x : A) → AllByRecursion P xs → P x → AllByRecursion P (xs ++ x ∷ [])
all_push P [] x h p = (p, tt)
all_push P (y ∷ xs) x h p = (h.0, all_push P xs x h.1 p)

-- a function of the program with its types
pub plain_at : (tree : Contents) (k : ℕ) (f : TypedFunction) → k < length tree.functions → f ≡ get_or tree.functions k f → slice_get (plain tree).functions k ≡ Some (function_map (type_at tree.rows) (function_view f))
plain_at tree k f room is =
    slice_get-map (function_map (type_at tree.rows)) (map function_view tree.functions) k
    ∙ ap (λ (o : Option (FunctionOf ℕ)). option_map (function_map (type_at tree.rows)) o) (slice_get-map function_view tree.functions k ∙ ap (λ (o : Option TypedFunction). option_map function_view o) (slice_get_read tree.functions (length tree.functions) k f refl room is))

pub body_at : (bodies : List Body) (fs : List TypedFunction) (k : ℕ) (b : Body) (f : TypedFunction) → map body_view bodies ≡ map body_of fs → k < length fs → b ≡ get_or bodies k b → f ≡ get_or fs k f → body_view b ≡ body_of f
body_at bodies fs k b f are room is at =
    let len : length bodies ≡ length fs = sym (length-map bodies body_view) ∙ ap length are ∙ length-map fs body_of in
    let l : k < length bodies = omega arith in
    let left : slice_get (map body_view bodies) k ≡ Some (body_view b) = slice_get-map body_view bodies k ∙ ap (λ (o : Option Body). option_map body_view o) (slice_get_read bodies (length bodies) k b refl l is) in
    let right : slice_get (map body_of fs) k ≡ Some (body_of f) = slice_get-map body_of fs k ∙ ap (λ (o : Option TypedFunction). option_map body_of o) (slice_get_read fs (length fs) k f refl room at) in
    let same : Some (body_view b) ≡ Some (body_of f) = sym left ∙ ap (λ (bs : List PlainBody). slice_get bs k) are ∙ right in
    cc

pub typed_at : (tree : Contents) (k : ℕ) (f : TypedFunction) → IsTypedTree tree → k < length tree.functions → f ≡ get_or tree.functions k f → IsFunction (plain tree) (function_map (type_at tree.rows) (function_view f))
typed_at tree k f typed room is =
    let x : PlainFunction = function_map (type_at tree.rows) (function_view f) in
    let got : get_or (plain tree).functions k x ≡ x = get_or_from_slice_get (plain tree).functions k x x (plain_at tree k f room is) in
    let all : length (plain tree).functions ≡ length tree.functions = length-map (map function_view tree.functions) (function_map (type_at tree.rows)) ∙ length-map tree.functions function_view in
    transport (λ (g : PlainFunction). IsFunction (plain tree) g) got ((typed.typed).functions k x (omega arith))

small_body : (tree : Contents) (k : ℕ) (f : TypedFunction) → IsTypedTree tree → k < length tree.functions → f ≡ get_or tree.functions k f → stmts_size (stmts_view f.body) ≤ 16777216
small_body tree k f typed room is = let s : stmts_size (function_map (type_at tree.rows) (function_view f)).body ≤ 16777216 = (typed_at tree k f typed room is).small in let e : stmts_size (function_map (type_at tree.rows) (function_view f)).body ≡ stmts_size (stmts_view f.body) = stmts_size_map (type_at tree.rows) (stmts_view f.body) in omega arith

-- the instance at number i, its function and its body
module _ (tree : Contents) (bodies : List Body) (us : List Instance) (are : map body_view bodies ≡ map body_of tree.functions) (inside : AllByRecursion (λ x. x.function < length tree.functions) us) (i : ℕ) (d : Instance) (room : i < length us) (fs : List TypedFunction) (same : fs ≡ tree.functions) (f : TypedFunction) (at : f ≡ get_or fs (get_or us i d).function f) where
  there : (get_or us i d).function < length tree.functions
  there = all_at (λ (x : Instance). x.function < length tree.functions) us i d inside room

  is : f ≡ get_or tree.functions (get_or us i d).function f
  is = at ∙ ap (λ (gs : List TypedFunction). get_or gs (get_or us i d).function f) same

  pub item_body : (b : Body) → b ≡ get_or bodies (get_or us i d).function b → body_view b ≡ body_of f
  item_body b eq = body_at bodies tree.functions (get_or us i d).function b f are there eq is

  pub item_small : (b : Body) → IsTypedTree tree → b ≡ get_or bodies (get_or us i d).function b → b.size < 4294967295
  item_small b typed eq =
      let e : b.size ≡ min (stmts_size (stmts_view f.body)) 4294967295 = ap (λ (x : PlainBody). x.size) (item_body b eq) in
      let s : stmts_size (stmts_view f.body) ≤ 16777216 = small_body tree (get_or us i d).function f typed there is in
      omega arith

  pub item_says : (x : MonoItem) → x.instance ≡ get_or us i d → SaysOf (function_view f) x → IsItem (plain tree) x
  item_says x here says =
      let got : slice_get (plain tree).functions x.instance.function ≡ Some (function_map (type_at tree.rows) (function_view f)) = ap (λ (y : Instance). slice_get (plain tree).functions y.function) here ∙ plain_at tree (get_or us i d).function f there is in
      let one : SaysOf (function_map (type_at tree.rows) (function_view f)) x = record { place = says.place; generic = says.generic; inlined = says.inlined; root = says.root; size = says.size ∙ ap (λ (n : ℕ). 1 + n) (sym (stmts_size_map (type_at tree.rows) (stmts_view f.body))) } in
      transport (λ (o : Option PlainFunction). SaysIf o x) (sym got) one

  pub items_more : (items now : List MonoItem) (x : MonoItem) → map (λ (y : MonoItem). y.instance) items ≡ take i us → AllByRecursion (IsItem (plain tree)) items → now ≡ items ++ x ∷ [] → x.instance ≡ get_or us i d → SaysOf (function_view f) x → (map (λ (y : MonoItem). y.instance) now ≡ take (i + 1) us) × AllByRecursion (IsItem (plain tree)) now
  items_more items now x before old push here says = (
    ap (map (λ (y : MonoItem). y.instance)) push ∙ map_push (λ (y : MonoItem). y.instance) items x ∙ ap (λ (ys : List Instance). ys ++ x.instance ∷ []) before ∙ ap (λ (y : Instance). take i us ++ y ∷ []) here ∙ sym (take_more us i d room),
    transport (λ (ys : List MonoItem). AllByRecursion (IsItem (plain tree)) ys) (sym push) (all_push (IsItem (plain tree)) items x old (item_says x here says)),
  )

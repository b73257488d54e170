-- A function without a fault is a lawful function of the typed program.
use Rattle.std.proofs.Common.{◌≡◌, ℕ, suc, ◌+◌, ◌<◌, ◌≤◌, refl, sym, ap, ◌∙◌, subst as transport, arith, Bool, true, ◌||◌, List, [], ◌∷◌, ◌++◌, length, map, slice_get, Option, Some, None}
use Rattle.std.proofs.lemmas.List.{length-map, length-append, length_push}
use Rattle.type_table.specs.TypeOf.{TypeOf, end, tuple}
use Rattle.type_table.specs.Lawful.{one}
use Rattle.type_table.specs.declared.sort.Sort.{Sort}
use Rattle.type_table.specs.declared.sort.Sort.TheVariants.{Ty as of_type}
use Rattle.lar_typed.specs.SameType.{same_type}
use Rattle.lar_typed.specs.Stmts.{PlainStmts}
use Rattle.lar_typed.specs.Trees.{PlainTree, PlainFunction as TypedFunction}
use Rattle.lar_typed.specs.Lawful.{struct_sorts}
use Rattle.lar_typed.specs.LawfulBody.{stmts_lawful, returns}
use Rattle.lar_typed.specs.Size.{stmts_size}
use Rattle.lar_typed.specs.IsTyped.{signature_of, frame_of, IsFunction}
use Rattle.lar_tree.specs.declared.item.Generic.{Generic}
use Rattle.lar_tree.specs.declared.item.Angled.{Angled}
use Rattle.lar_tree.specs.Limits.{max_args}
use Rattle.lar_tree.specs.Items.{PlainOutput}
use Rattle.lar_tree.specs.PlainLists.{values}
use Rattle.lar_tree.specs.Sizes.{block_size}
use Rattle.lar_tree.specs.Lawful.{LimitedAngled, LimitedOutput}
use Rattle.lar_tree.specs.Stmts.{IfThere}
use Rattle.lar_rules.specs.Declared.{Declared, Function}
use Rattle.lar_rules.specs.Generics.{function_generics}
use Rattle.lar_rules.specs.Written.{Site}
use Rattle.lar_rules.specs.Signatures.{Member, function_site, list_in, params, outcome_written, outcome, function_sorts}
use Rattle.lar_rules.specs.Bodies.{block_returns}
use Rattle.lar_rules.specs.Functions.{numbered_locals, entry_state, body_of, is_unit, body_done, function_faults}
use Rattle.lar_rules.specs.Faults.{none_yet}
use Rattle.lar_rules.specs.Checked.{typed_function_of, typed_function}
use Rattle.lar_sound.specs.Known.{IsFaultless}
use Rattle.lar_sound.specs.Items.{EachItem}
use Rattle.lar_sound.specs.Frames.{AreItemsIn, AreSortsOf, AreNumbered, IsBodyFrame}
use Rattle.lar_sound.proofs.Known.{told_true}
use Rattle.lar_sound.proofs.FramesFit.{site_sorts, known_length}
use Rattle.lar_sound.proofs.WrittenLawful.{Fits, written_fits}
use Rattle.lar_sound.proofs.NamesJoined.{module_path}
use Rattle.lar_sound.proofs.ProgramTold.{function_parts}
use Rattle.lar_sound.proofs.StmtsAfter.{Types, block_after, block_types}
use Rattle.lar_sound.proofs.StmtsLawful.{body_lawful}
use Rattle.lar_sound.proofs.StmtsReturn.{block_same}
use Rattle.lar_sound.proofs.StmtsSmall.{body_small}
use Rattle.lar_sound.proofs.TreeItems.{StructThere, FunctionThere}
use Rattle.lar_sound.proofs.SourceItems.{IsGoodFunction}
use Rattle.lar_sound.proofs.TypedParts.{function_made}
use Rattle.lar_sound.proofs.ItemsIn.{list_fits, member_types, limited_list, members_length, items_in}

few_named : (o : Option (Angled Generic)) → IfThere LimitedAngled o → length (function_generics o) ≤ 16
few_named None h = omega arith
few_named (Some a) h =
    let k : length (values a.list) ≤ 16 = h in let e : length (function_generics (Some a)) ≡ length (values a.list) =
    length-map (values a.list) _ in omega (arith, k, e)

few_sorts : (x : Function) → IfThere LimitedAngled x.it.generics → length (function_sorts x) ≤ 16
few_sorts x h =
    let k = few_named x.it.generics h in let e : length (function_sorts x) ≡ length (function_generics x.it.generics) =
    length-map (function_generics x.it.generics) _ in omega (arith, k, e)

-- PARAMETERS

slice_behind : (xs : Types) (o : Option TypeOf) (ys : Types) → slice_get (xs ++ o ∷ ys) (length xs) ≡ Some o
slice_behind [] o ys = refl
slice_behind (x ∷ xs) o ys = slice_behind xs o ys

abbrev types : List Member → Types
types ms = map (λ m. m.1) ms

join_one : (xs : Types) (o : Option TypeOf) (ys : Types) → (xs ++ o ∷ []) ++ ys ≡ xs ++ o ∷ ys
join_one [] o ys = refl
join_one (x ∷ xs) o ys = ap (λ (zs : Types). x ∷ zs) (join_one xs o ys)

length_one : (xs : Types) (o : Option TypeOf) (k : ℕ) → length xs ≡ k → length (xs ++ o ∷ []) ≡ suc k
length_one xs o k e = let p : length (xs ++ o ∷ []) ≡ length xs + 1 = length_push xs o in omega (arith, p, e)

params_from : (before : Types) (k : ℕ) (ms : List Member) → length before ≡ k
    → AreNumbered (before ++ types ms) (numbered_locals k ms)
params_from before k [] e = tt
params_from before k (m ∷ ms) e = (
  ap (slice_get (before ++ types (m ∷ ms))) (sym e) ∙ slice_behind before m.1 (types ms),
  transport (λ (ts : Types). AreNumbered ts (numbered_locals (suc k) ms)) (join_one before m.1 (types ms))
      (params_from (before ++ m.1 ∷ []) (suc k) ms (length_one before m.1 k e)),
)

params_at : (all : List Declared) (x : Function) → AreNumbered (entry_state all x).types (entry_state all x).locals
params_at all x = params_from [] 0 (params all x) refl

-- THE RESULT

outcome_fits : (ss : List (List Sort)) (gens : List Sort) (s : Site) → AreSortsOf ss gens s → (o : Option PlainOutput)
    → IfThere LimitedOutput o → IfThere (Fits ss gens (one of_type)) (outcome_written s o)
outcome_fits ss gens s a None l = refl
outcome_fits ss gens s a (Some o) l = written_fits ss gens s a o.1 l.1

there : {A : Type 0} (P : A → Type 0) (o : Option A) (x : A) → o ≡ Some x → IfThere P o → P x
there P o x e h = transport (λ y. IfThere P y) e h

pub function_sound : (t : PlainTree) (all : List Declared)
    → EachItem (StructThere t all) (FunctionThere t all) (λ (n : ℕ). n < length t.consts) none_yet all
    → (x : Function) → IsGoodFunction x → IsFaultless (function_faults all x) → (y : TypedFunction)
    → typed_function all x ≡ Some y → IsFunction t y
function_sound t all items x g h y e =
    let m = function_made all x y e in
    let parts = function_parts all x h in
    let s = function_site all x in
    let b = body_of all x in
    let entry = entry_state all x in
    let last = (body_done all x).after.types in
    let fs = list_in x.it.params in
    let level = (g.within).0.0 in
    let limited = (g.within).0.1 in
    let size : block_size x.it.body ≤ 16777216 = (g.within).1 in
    let few = limited_list max_args x.it.params limited.1 in
    let inside : AreItemsIn t.structs (map signature_of t.functions) (length t.consts) all = items_in t all items in
    let sorts =
    site_sorts t.structs (map signature_of t.functions) (length t.consts) s (function_sorts x) inside refl in
    let grows = (block_after b entry x.it.body).grows in
    let n : length m.locals ≡ length last = known_length last m.locals m.locals_known in
    let k : length (map (λ m. m.1) (params all x)) ≡ length fs = members_length s fs in
    let j : length (map (λ m. m.1) (params all x) ++ grows.0) ≡ length (map (λ m. m.1) (params all x)) + length
    grows.0 = length-append (map (λ m. m.1) (params all x)) grows.0 in
    let i : length (map (λ m. m.1) (params all x) ++ grows.0) ≡ length last = ap (λ (ts : Types). length ts) grows.1 in
    let z = typed_function_of all x m.locals m.result m.body in
    let frame : IsBodyFrame (frame_of t z) b last =
    record { items = inside; generics = refl; outcome = m.result_known; known = m.locals_known } in
    let types_fit =
    block_types (struct_sorts t.structs) (function_sorts x) b sorts level entry
    (member_types (struct_sorts t.structs) (function_sorts x) s sorts fs few.1) x.it.body limited.3 in
    let body_ok : stmts_lawful (frame_of t z) m.body ≡ true =
    there (λ (p : PlainStmts). stmts_lawful (frame_of t z) p ≡ true) (body_done all x).typed m.body m.body_known
    (body_lawful (frame_of t z) b entry level x.it.body frame (params_at all x) limited.3) in
    let back : returns m.body ≡ block_returns x.it.body =
    there (λ (p : PlainStmts). returns p ≡ block_returns x.it.body) (body_done all x).typed m.body m.body_known
    (block_same b entry x.it.body) in
    let small : stmts_size m.body ≤ block_size x.it.body =
    there (λ (p : PlainStmts). stmts_size p ≤ block_size x.it.body) (body_done all x).typed m.body m.body_known
    (body_small b entry x.it.body) in
    let ends : (is_unit (outcome all x) || block_returns x.it.body) ≡ true =
    told_true (is_unit (outcome all x) || block_returns x.it.body) _ parts.ending in
    transport (λ (w : TypedFunction). IsFunction t w) m.is (record {
      path = module_path x.from.modules g.modules;
      named = g.named;
      few_generics = few_sorts x limited.0;
      few_params = few.0;
      params_are_locals = omega (arith, n, k, j, i);
      lawful_locals = list_fits (struct_sorts t.structs) (function_sorts x) last m.locals types_fit m.locals_known;
      lawful_outcome =
          there (Fits (struct_sorts t.structs) (function_sorts x) (one of_type)) (outcome all x) m.result m.result_known
          (outcome_fits (struct_sorts t.structs) (function_sorts x) s sorts x.it.output limited.2);
      lawful_body = body_ok;
      ends = ap (λ (r : Bool). same_type m.result (tuple end) || r) back
          ∙ ap (λ (o : Option TypeOf). is_unit o || block_returns x.it.body) (sym m.result_known) ∙ ends;
      small = omega (arith, small, size);
    })

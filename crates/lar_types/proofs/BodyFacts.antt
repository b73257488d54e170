-- The functions with their types, and the faults of bodies, one function further.
use Rattle.std.proofs.Common.{◌≡◌, ℕ, zero, suc, ◌+◌, ◌<◌, ◌≤◌, List, [], ◌∷◌, ◌++◌, length, map, take, drop, get_or, Option, Some, None, option_map, refl, sym, ap, ◌∙◌, subst, arith}
use Rattle.std.proofs.lemmas.List.{drop_more, map_more, map-append, take_all, length-map, length-take}
use Rattle.type_table.specs.declared.row.Row.{Row}
use Rattle.type_table.specs.Rows.{type_at, Keeps}
use Rattle.lar_typed.specs.declared.tree.TypedFunction.{TypedFunction}
use Rattle.lar_typed.specs.Trees.{FunctionOf, PlainFunction, function_map}
use Rattle.lar_typed.specs.TreeView.{function_view}
use Rattle.lar_typed.specs.Within.{FunctionsWithin}
use Rattle.lar_typed.specs.Standing as typed
use Rattle.lar_tree.specs.Items.{PlainFn}
use Rattle.lar_rules.specs.Fault.{Fault, least}
use Rattle.lar_rules.specs.Declared.{What, a_module, a_struct, a_const, a_function, Declared, Places, past, Function}
use Rattle.lar_rules.specs.Faults.{none_yet}
use Rattle.lar_rules.specs.Checked.{typed_function}
use Rattle.lar_rules.proofs.Least.{least_append}
use Rattle.lar_sound.specs.InOrder.{function_before, functions_from, known_of}
use Rattle.lar_names.specs.declared.items.FunctionItem.{FunctionItem}
use Rattle.lar_names.specs.Items.{function_item}
use Rattle.lar_names.specs.Numbered.{with_first, function_of, functions, function_at}
use Rattle.fault_order.specs.Order.{body_part, parts_from}
use Rattle.lar_signatures.specs.declared.function.FunctionSignature.{FunctionSignature}
use Rattle.lar_signatures.specs.Signatures.{FunctionStands}
use Rattle.lar_signatures.specs.EachStands.{EachStands}
use Rattle.lar_assembled.specs.Functions.{FunctionStandsIf}
use Rattle.lar_assembled.specs.Programs.{FunctionsStand}
use Rattle.lar_types.specs.Bodies.{as_list, faults_of_body, faults_of_all, typed_of}

pub keeps_more : (old mid new : List Row) → Keeps old mid → Keeps mid new → Keeps old new
keeps_more old mid new p q =
    let a : length old ≤ length mid = p.longer in
    let b : length mid ≤ length new = q.longer in
    record { longer = omega arith; same = λ n h. q.same n (omega arith) ∙ p.same n h }

-- SIGNATURES

abbrev Signed : List Row → List Declared → ℕ → FunctionSignature → Declared × PlainFn → Type 0
Signed rows all n f p = FunctionStands rows all f (function_at n p)

-- the number of a function plays no part
any_number : (rows : List Row) (all : List Declared) (f : FunctionSignature) (p : Declared × PlainFn) (m n : ℕ) → FunctionStands rows all f (function_at m p) → FunctionStands rows all f (function_at n p)
any_number rows all f p m n s = record { generics_are = s.generics_are; sorts_are = s.sorts_are; params_stand = s.params_stand; outcome_stands = s.outcome_stands }

each_count : (rows : List Row) (all : List Declared) (k : ℕ) (fs : List FunctionSignature) (ps : List (Declared × PlainFn)) → EachStands (Signed rows all) k fs ps → length fs ≡ length ps
each_count rows all k [] [] h = refl
each_count rows all k (f ∷ fs) (p ∷ ps) h = ap suc (each_count rows all (suc k) fs ps h.1)
each_count rows all k [] (p ∷ ps) h = absurd h
each_count rows all k (f ∷ fs) [] h = absurd h

-- there are as many as functions
pub sig_below : (rows : List Row) (all : List Declared) (lists : List (List (List ℕ))) (items : List FunctionItem) (fs : List FunctionSignature) (i : ℕ) → EachStands (Signed rows all) 0 fs (functions all)
    → map (function_item lists) items ≡ functions all → i < length items → i < length fs
sig_below rows all lists items fs i h e below =
    let a : length fs ≡ length (functions all) = each_count rows all 0 fs (functions all) h in
    let b : length (map (function_item lists) items) ≡ length (functions all) = ap length e in
    let c : length (map (function_item lists) items) ≡ length items = length-map items (function_item lists) in
    omega (arith, a, b, c)

each_get : (rows : List Row) (all : List Declared) (lists : List (List (List ℕ))) (k i n : ℕ) (fs : List FunctionSignature) (items : List FunctionItem) (f : FunctionSignature) (x : FunctionItem)
    → EachStands (Signed rows all) k fs (map (function_item lists) items) → f ≡ get_or fs i f → i < length fs → x ≡ get_or items i x → i < length items
    → FunctionStands rows all f (function_at n (function_item lists x))
each_get rows all lists k i n [] items f x h a p b q = absurd (omega arith)
each_get rows all lists k i n (g ∷ fs) [] f x h a p b q = absurd h
each_get rows all lists k zero n (g ∷ fs) (y ∷ items) f x h a p b q =
    subst (λ (s : FunctionSignature). FunctionStands rows all s (function_at n (function_item lists x))) (sym a)
    (subst (λ (z : FunctionItem). FunctionStands rows all g (function_at n (function_item lists z))) (sym b) (any_number rows all g (function_item lists y) k n h.0))
each_get rows all lists k (suc i) n (g ∷ fs) (y ∷ items) f x h a p b q = each_get rows all lists (suc k) i n fs items f x h.1 a (omega arith) b (omega arith)

-- the signature of a function, at each number
pub sig_stands : (rows : List Row) (all : List Declared) (lists : List (List (List ℕ))) (i : ℕ) (fs : List FunctionSignature) (items : List FunctionItem) (f : FunctionSignature) (x : FunctionItem)
    → EachStands (Signed rows all) 0 fs (functions all) → map (function_item lists) items ≡ functions all → f ≡ get_or fs i f → i < length fs → x ≡ get_or items i x → i < length items
    → (n : ℕ) → FunctionStands rows all f (function_at n (function_item lists x))
sig_stands rows all lists i fs items f x h e a p b q n =
    each_get rows all lists 0 i n fs items f x (subst (λ (ps : List (Declared × PlainFn)). EachStands (Signed rows all) 0 fs ps) (sym e) h) a p b q

-- FUNCTIONS WITH THEIR TYPES

abbrev Grown : List Row → List Row → Type 0
Grown old new = (f : FunctionOf ℕ) (p : PlainFunction) → typed.FunctionStands old f p → typed.FunctionStands new f p

functions_kept : (old new : List Row) → Grown old new → (fs : List (FunctionOf ℕ)) → FunctionsWithin (length old) fs
    → FunctionsWithin (length new) fs × (map (function_map (type_at new)) fs ≡ map (function_map (type_at old)) fs)
functions_kept old new g [] h = (tt, refl)
functions_kept old new g (f ∷ fs) h =
    let one = g f (function_map (type_at old) f) (record { within = h.0; is = refl }) in
    let more = functions_kept old new g fs h.1 in
    ((one.within, more.0), ap (λ (p : PlainFunction). p ∷ map (function_map (type_at new)) fs) one.is ∙ ap (λ (ps : List PlainFunction). function_map (type_at old) f ∷ ps) more.1)

known_more : (os : List (Option PlainFunction)) (o : Option PlainFunction) → known_of (os ++ o ∷ []) ≡ known_of os ++ as_list o
known_more [] None = refl
known_more [] (Some p) = refl
known_more (None ∷ os) o = known_more os o
known_more (Some p ∷ os) o = ap (λ (ps : List PlainFunction). p ∷ ps) (known_more os o)

typed_more : (all : List Declared) (k n : ℕ) (ps : List (Declared × PlainFn)) (p : Declared × PlainFn) → n ≡ k + length ps → typed_of all k (ps ++ p ∷ []) ≡ typed_of all k ps ++ typed_function all (function_at n p) ∷ []
typed_more all k n [] p e = let same : k ≡ n = omega arith in ap (λ (m : ℕ). typed_function all (function_at m p) ∷ []) same
typed_more all k n (q ∷ ps) p e = ap (λ os. typed_function all (function_at k q) ∷ os) (typed_more all (suc k) n ps p (omega arith))

within_more : (n : ℕ) (fs gs : List (FunctionOf ℕ)) → FunctionsWithin n fs → FunctionsWithin n gs → FunctionsWithin n (fs ++ gs)
within_more n [] gs h k = k
within_more n (f ∷ fs) gs h k = (h.0, within_more n fs gs h.1 k)

one_stands : (rows : List Row) (made : Option TypedFunction) (o : Option PlainFunction) → FunctionStandsIf rows (option_map function_view made) o
    → FunctionsWithin (length rows) (map function_view (as_list made)) × (map (function_map (type_at rows)) (map function_view (as_list made)) ≡ as_list o)
one_stands rows None None h = (tt, refl)
one_stands rows (Some f) (Some p) h = ((h.within, tt), ap (λ (q : PlainFunction). q ∷ []) h.is)
one_stands rows None (Some p) h = absurd h
one_stands rows (Some f) None h = absurd h

stand_more : (old new : List Row) (out : List TypedFunction) (made : Option TypedFunction) (os : List (Option PlainFunction)) (o : Option PlainFunction) → Grown old new → FunctionsStand old out os → FunctionStandsIf new (option_map function_view made) o
    → FunctionsStand new (out ++ as_list made) (os ++ o ∷ [])
stand_more old new out made os o g st one =
    let k = functions_kept old new g (map function_view out) st.within in
    let n = one_stands new made o one in
    let e : map function_view (out ++ as_list made) ≡ map function_view out ++ map function_view (as_list made) = map-append function_view out (as_list made) in
    record {
      within = subst (λ (fs : List (FunctionOf ℕ)). FunctionsWithin (length new) fs) (sym e) (within_more (length new) (map function_view out) (map function_view (as_list made)) k.0 n.0);
      are = ap (map (function_map (type_at new))) e ∙ map-append (function_map (type_at new)) (map function_view out) (map function_view (as_list made))
          ∙ ap (λ (ps : List PlainFunction). ps ++ map (function_map (type_at new)) (map function_view (as_list made))) (k.1 ∙ st.are)
          ∙ ap (λ (ps : List PlainFunction). known_of os ++ ps) n.1 ∙ sym (known_more os o);
    }

pub stand_begun : (rows : List Row) (all : List Declared) (lists : List (List (List ℕ))) (items : List FunctionItem) (out : List TypedFunction) → out ≡ [] → FunctionsStand rows out (typed_of all 0 (map (function_item lists) (take 0 items)))
stand_begun rows all lists items out e = rw e (record { within = tt; are = refl })

-- one function further
pub stand_further : (old new : List Row) (all : List Declared) (lists : List (List (List ℕ))) (items : List FunctionItem) (i : ℕ) (x : FunctionItem) (out after : List TypedFunction) (made : Option TypedFunction)
    → Grown old new → x ≡ get_or items i x → i < length items → FunctionsStand old out (typed_of all 0 (map (function_item lists) (take i items))) → after ≡ out ++ as_list made
    → FunctionStandsIf new (option_map function_view made) (typed_function all (function_at i (function_item lists x)))
    → FunctionsStand new after (typed_of all 0 (map (function_item lists) (take (i + 1) items)))
stand_further old new all lists items i x out after made g at below st push one =
    let count : i ≡ 0 + length (map (function_item lists) (take i items)) = (let a = length-map (take i items) (function_item lists) in let b = length-take i items in omega (arith, a, b)) in
    let more : map (function_item lists) (take (i + 1) items) ≡ map (function_item lists) (take i items) ++ function_item lists x ∷ [] =
    map_more (function_item lists) items i x below ∙ ap (λ (y : FunctionItem). map (function_item lists) (take i items) ++ function_item lists y ∷ []) (sym at) in
    let e = ap (typed_of all 0) more ∙ typed_more all 0 i (map (function_item lists) (take i items)) (function_item lists x) count in
    rw (push, e) (stand_more old new out made (typed_of all 0 (map (function_item lists) (take i items))) (typed_function all (function_at i (function_item lists x))) g st one)

typed_case : (all : List Declared) (p : Places) (d : Declared) (w : What) (ps : List (Declared × PlainFn)) (xs : List Function)
    → ((k : ℕ) → k ≡ (past p w).functions → typed_of all k ps ≡ map (typed_function all) xs) → typed_of all p.functions (with_first (function_of d w) ps) ≡ map (typed_function all) (function_before p d w xs)
typed_case all p d a_module ps xs h = h p.functions refl
typed_case all p d (a_const c) ps xs h = h p.functions refl
typed_case all p d (a_struct s) ps xs h = h p.functions refl
typed_case all p d (a_function f) ps xs h = ap (λ os. typed_function all (function_at p.functions (d, f)) ∷ os) (h (suc p.functions) refl)

typed_in_order : (all : List Declared) (p : Places) (ds : List Declared) (k : ℕ) → k ≡ p.functions → typed_of all k (functions ds) ≡ map (typed_function all) (functions_from p ds)
typed_in_order all p [] k e = refl
typed_in_order all p (d ∷ ds) k e =
    ap (λ (n : ℕ). typed_of all n (functions (d ∷ ds))) e ∙ typed_case all p d d.what (functions ds) (functions_from (past p d.what) ds) (λ n f. typed_in_order all (past p d.what) ds n f)

pub stand_all : (rows : List Row) (all : List Declared) (lists : List (List (List ℕ))) (items : List FunctionItem) (i : ℕ) (out : List TypedFunction) → length items ≤ i → map (function_item lists) items ≡ functions all
    → FunctionsStand rows out (typed_of all 0 (map (function_item lists) (take i items))) → FunctionsStand rows out (map (typed_function all) (functions_from none_yet all))
stand_all rows all lists items i out past_end e st =
    subst (λ (os : List (Option PlainFunction)). FunctionsStand rows out os) (ap (λ (xs : List FunctionItem). typed_of all 0 (map (function_item lists) xs)) (take_all i items past_end) ∙ ap (typed_of all 0) e ∙ typed_in_order all none_yet all 0 refl) st

-- THE FAULTS OF BODIES

drop_past : {A : Type 0} (xs : List A) (n : ℕ) → length xs ≤ n → drop n xs ≡ []
drop_past [] zero h = refl
drop_past [] (suc n) h = refl
drop_past (x ∷ xs) zero h = absurd (omega arith)
drop_past (x ∷ xs) (suc n) h = drop_past xs n (omega arith)

pub told_further : (all : List Declared) (lists : List (List (List ℕ))) (items : List FunctionItem) (i : ℕ) (x : FunctionItem) (before after start : Option Fault) → x ≡ get_or items i x → i < length items
    → least before (faults_of_all (faults_of_body all) i (map (function_item lists) (drop i items))) ≡ start → after ≡ least before (faults_of_body all i (function_item lists x))
    → least after (faults_of_all (faults_of_body all) (i + 1) (map (function_item lists) (drop (i + 1) items))) ≡ start
told_further all lists items i x before after start at below so_far told =
    let next : suc i ≡ i + 1 = omega arith in
    let rest = faults_of_all (faults_of_body all) (suc i) (map (function_item lists) (drop (i + 1) items)) in
    let split : drop i items ≡ x ∷ drop (i + 1) items = drop_more items i x below ∙ ap (λ (y : FunctionItem). y ∷ drop (i + 1) items) (sym at) in
    ap (λ (k : ℕ). least after (faults_of_all (faults_of_body all) k (map (function_item lists) (drop (i + 1) items)))) (sym next)
    ∙ ap (λ (o : Option Fault). least o rest) told ∙ sym (least_append before (faults_of_body all i (function_item lists x)) rest)
    ∙ ap (λ (ys : List FunctionItem). least before (faults_of_all (faults_of_body all) i (map (function_item lists) ys))) (sym split) ∙ so_far

body_case : (all : List Declared) (p : Places) (d : Declared) (ds : List Declared) (w : What) → ((q : Places) → parts_from body_part all q ds ≡ faults_of_all (faults_of_body all) q.functions (functions ds))
    → body_part all p d w ++ parts_from body_part all (past p w) ds ≡ faults_of_all (faults_of_body all) p.functions (with_first (function_of d w) (functions ds))
body_case all p d ds a_module h = h p
body_case all p d ds (a_const c) h = h (past p (a_const c))
body_case all p d ds (a_struct s) h = h (past p (a_struct s))
body_case all p d ds (a_function f) h = ap (λ (fs : List Fault). faults_of_body all p.functions (d, f) ++ fs) (h (past p (a_function f)))

-- those of bodies among all items
body_parts : (all : List Declared) (p : Places) (ds : List Declared) → parts_from body_part all p ds ≡ faults_of_all (faults_of_body all) p.functions (functions ds)
body_parts all p [] = refl
body_parts all p (d ∷ ds) = body_case all p d ds d.what (λ q. body_parts all q ds)

pub told_all : (all : List Declared) (lists : List (List (List ℕ))) (items : List FunctionItem) (i : ℕ) (best start : Option Fault) → length items ≤ i → map (function_item lists) items ≡ functions all
    → least best (faults_of_all (faults_of_body all) i (map (function_item lists) (drop i items))) ≡ least start (faults_of_all (faults_of_body all) 0 (map (function_item lists) items))
    → best ≡ least start (parts_from body_part all none_yet all)
unfolding least
told_all all lists items i best start past_end e so_far =
    ap (λ (xs : List FunctionItem). least best (faults_of_all (faults_of_body all) i (map (function_item lists) xs))) (sym (drop_past items i past_end)) ∙ so_far
    ∙ ap (λ (ps : List (Declared × PlainFn)). least start (faults_of_all (faults_of_body all) 0 ps)) e ∙ ap (least start) (sym (body_parts all none_yet all))

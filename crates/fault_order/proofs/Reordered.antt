-- The faults of declarations may be noted before those of bodies.
use Rattle.std.proofs.Common.{◌≡◌, ℕ, zero, suc, refl, sym, ap, ◌∙◌, subst as transport, true≢false, cond, Bool, true, false, eqb, ltb, eqb-true, List, [], ◌∷◌, ◌++◌, append_assoc, append-nil, map, Option, None, Ordering, Less, Equal, Greater, nat_cmp}
use Rattle.std.specs.Ordering.{ordering_then}
use Rattle.lar_source.specs.declared.code.Code.{Code}
use Rattle.lar_source.specs.declared.code.Code.TheVariants.{UnexpectedByte, SyntaxError, DefinedTwice, UnknownName, WrongType, WrongCount, NoSuchPlace, NestedTooDeep, NoLawfulMain, PastLimit, MayEndWithoutValue, ArgumentTooLarge, TooManyInstances, AssertionFalse, AssertionTraps, TooManySlots, TooMuchCode, ImageTooLarge}
use Rattle.lar_source.specs.Code.{row}
use Rattle.lar_tree.specs.Lawful.{Every}
use Rattle.lar_tree.specs.Stmts.{flat_block}
use Rattle.lar_tree.specs.Items.{flat_head}
use Rattle.lar_rules.specs.Fault.{Fault, fault_cmp, least}
use Rattle.lar_rules.specs.Declared.{Source, What, a_module, a_struct, a_const, a_function, Declared, Places, past, declared, Function}
use Rattle.lar_rules.specs.Twice.{repeated, repeated_items}
use Rattle.lar_rules.specs.Generics.{function_generics}
use Rattle.lar_rules.specs.Signatures.{function_site, list_in}
use Rattle.lar_rules.specs.Structs.{field_faults, struct_faults}
use Rattle.lar_rules.specs.Functions.{output_faults, function_faults}
use Rattle.lar_rules.specs.Faults.{item_faults, faults_from, none_yet, max_functions, one_less, past_limit, faults}
use Rattle.lar_rules.proofs.Least.{least_append}
use Rattle.lar_sound.proofs.EachOf.{every_join, every_map}
use Rattle.fault_order.specs.Places.{is_limit, StandsIn, item_tokens, AreSourcesOrdered}
use Rattle.fault_order.specs.Order.{head_faults, body_faults, struct_part, head_part, body_part, declaration_part, Part, parts_from, Different, AllDifferent}
use Rattle.fault_order.proofs.Swapped.{swapped}
use Rattle.fault_order.proofs.PlacesIn.{into_self, into_left, into_right, AllIn, join}
use Rattle.fault_order.proofs.TokensApart.{IsFar, AreFar, all_far}
use Rattle.fault_order.proofs.ItemsIn.{struct_faults_in, head_faults_in, body_faults_in}

-- DIFFERENT FAULTS

then_equal : (a b : Ordering) → ordering_then a b ≡ Equal → (a ≡ Equal) × (b ≡ Equal)
then_equal Equal b e = (refl, e)
then_equal Less b e = absurd (let no : ⊥ = cc in no)
then_equal Greater b e = absurd (let no : ⊥ = cc in no)

equal_by : (a b : Bool) → cond a Less (cond b Equal Greater) ≡ Equal → b ≡ true
equal_by true b e = absurd (let no : ⊥ = cc in no)
equal_by false true e = refl
equal_by false false e = absurd (let no : ⊥ = cc in no)

nat_equal : (x y : ℕ) → nat_cmp x y ≡ Equal → x ≡ y
nat_equal x y e = eqb-true x y (equal_by (ltb x y) (eqb x y) e)

-- what two faults have in common that are told for one another
record AreTied (f g : Fault) : Type 0 where
  file : f.file ≡ g.file
  line : f.line ≡ g.line
  col : f.col ≡ g.col
  number : (row f.code).number ≡ (row g.code).number

tied : (f g : Fault) → fault_cmp f g ≡ Equal → AreTied f g
tied f g e =
    let a = then_equal (nat_cmp f.file g.file) _ e in
    let b = then_equal (nat_cmp f.line g.line) _ a.1 in
    let c = then_equal (nat_cmp f.col g.col) (nat_cmp (row f.code).number (row g.code).number) b.1 in
    record {
      file = nat_equal f.file g.file a.0;
      line = nat_equal f.line g.line b.0;
      col =
          nat_equal f.col g.col c.0;
      number = nat_equal (row f.code).number (row g.code).number c.1;
    }

-- a fault of a declaration that is far
record FarFault (d : Declared) (g : Fault) : Type 0 where
  other : Declared
  far : IsFar d other
  stands : StandsIn other.file (item_tokens other.what) g

different : (d : Declared) (f g : Fault) → StandsIn d.file (item_tokens d.what) f → FarFault d g → Different f g
different d f g s h e =
    let t = tied f g e in
    let r = h.stands in
    h.far (sym (ap (λ (x : Fault). x.file) s.is) ∙ t.file ∙ ap (λ (x : Fault). x.file) r.is) s.at r.at s.there r.there
    (sym (ap (λ (x : Fault). x.line) s.is) ∙ t.line ∙ ap (λ (x : Fault). x.line) r.is)
    (sym (ap (λ (x : Fault). x.col) s.is) ∙ t.col ∙ ap (λ (x : Fault). x.col) r.is)

all_different : (d : Declared) (xs ys : List Fault) → AllIn d.file (item_tokens d.what) xs → Every (FarFault d) ys
    → AllDifferent xs ys
all_different d [] ys h k = tt
all_different d (x ∷ xs) ys h k =
    (every_map (FarFault d) (Different x) ys (λ g r. different d x g h.0 r) k, all_different d xs ys h.1 k)

-- PARTS OF ITEMS

-- the faults of the part stand at the tokens of each item
abbrev IsPart : Part → Type 0
IsPart part = (all : List Declared) (p : Places) (d : Declared)
    → AllIn d.file (item_tokens d.what) (part all p d d.what)

struct_part_in : (all : List Declared) (p : Places) (d : Declared) (w : What)
    → AllIn d.file (item_tokens w) (struct_part all p d w)
struct_part_in all p d a_module = tt
struct_part_in all p d (a_struct s) = struct_faults_in all (record { number = p.structs; from = d; it = s })
struct_part_in all p d (a_const c) = tt
struct_part_in all p d (a_function f) = tt

head_part_in : (all : List Declared) (p : Places) (d : Declared) (w : What)
    → AllIn d.file (item_tokens w) (head_part all p d w)
head_part_in all p d a_module = tt
head_part_in all p d (a_struct s) = tt
head_part_in all p d (a_const c) = tt
head_part_in all p d (a_function f) =
    let x : Function = record { number = p.functions; from = d; it = f } in
    head_faults_in all x (flat_head f ++ flat_block f.body)
    (into_left (flat_head f) (flat_block f.body) _ (into_self (flat_head f ++ flat_block f.body)))

body_part_in : (all : List Declared) (p : Places) (d : Declared) (w : What)
    → AllIn d.file (item_tokens w) (body_part all p d w)
body_part_in all p d a_module = tt
body_part_in all p d (a_struct s) = tt
body_part_in all p d (a_const c) = tt
body_part_in all p d (a_function f) =
    let x : Function = record { number = p.functions; from = d; it = f } in
    body_faults_in all x (flat_head f ++ flat_block f.body)
    (into_right (flat_head f) (flat_block f.body) _ (into_self (flat_head f ++ flat_block f.body)))

-- two parts, one after the other
abbrev both : Part → Part → Part
both x y all p d w = x all p d w ++ y all p d w

both_in : (x y : Part) → IsPart x → IsPart y → IsPart (both x y)
both_in x y h k all p d = join d.file (item_tokens d.what) (x all p d d.what) (y all p d d.what) (h all p d) (k all p d)

far_parts : (part : Part) → IsPart part → (all : List Declared) (d : Declared) (p : Places) (ds : List Declared)
    → Every (IsFar d) ds → Every (FarFault d) (parts_from part all p ds)
far_parts part h all d p [] f = tt
far_parts part h all d p (e ∷ es) f =
    every_join (FarFault d) (part all p e e.what) (parts_from part all (past p e.what) es)
    (every_map (StandsIn e.file (item_tokens e.what)) (FarFault d) (part all p e e.what)
    (λ g s. record { other = e; far = f.0; stands = s }) (h all p e))
    (far_parts part h all d (past p e.what) es f.1)

-- X and Y of the first item, and then those of the others
turned : (best : Option Fault) (x y xs ys : List Fault) → AllDifferent y xs
    → least best ((x ++ y) ++ (xs ++ ys)) ≡ least best ((x ++ xs) ++ (y ++ ys))
turned best x y xs ys h =
    ap (least best) (append_assoc x y (xs ++ ys)) ∙ least_append best x (y ++ (xs ++ ys))
    ∙ ap (least (least best x)) (sym (append_assoc y xs ys)) ∙ least_append (least best x) (y ++ xs) ys
    ∙ ap (λ (b : Option Fault). least b ys) (swapped (least best x) y xs h)
    ∙ sym (least_append (least best x) (xs ++ y) ys) ∙ ap (least (least best x)) (append_assoc xs y ys)
    ∙ sym (least_append best x (xs ++ (y ++ ys))) ∙ ap (least best) (sym (append_assoc x xs (y ++ ys)))

-- the first part of all items, and then the second
parts_apart : (x y : Part) → IsPart x → IsPart y
    → (all : List Declared) (best : Option Fault) (p : Places) (ds : List Declared) → AreFar ds
    → least best (parts_from (both x y) all p ds) ≡ least best (parts_from x all p ds ++ parts_from y all p ds)
parts_apart x y h k all best p [] f = refl
parts_apart x y h k all best p (d ∷ ds) f =
    let a = x all p d d.what in
    let b = y all p d d.what in
    let q = past p d.what in
    least_append best (a ++ b) (parts_from (both x y) all q ds)
    ∙ parts_apart x y h k all (least best (a ++ b)) q ds f.1
    ∙ sym (least_append best (a ++ b) (parts_from x all q ds ++ parts_from y all q ds))
    ∙ turned best a b (parts_from x all q ds) (parts_from y all q ds)
    (all_different d b (parts_from x all q ds) (k all p d) (far_parts x h all d q ds f.0))

-- AN ITEM'S FAULTS

abbrev whole : Part
whole = both struct_part (both head_part body_part)

item_split : (all : List Declared) (p : Places) (d : Declared) (w : What) → item_faults all p d w ≡ whole all p d w
item_split all p d a_module = refl
item_split all p d (a_struct s) = sym (append-nil (struct_faults all (record { number = p.structs; from = d; it = s })))
item_split all p d (a_const c) = refl
item_split all p d (a_function f) = function_split all (record { number = p.functions; from = d; it = f })
  where
    function_split : (all : List Declared) (x : Function)
        → function_faults all x ≡ head_faults all x ++ body_faults all x
    function_split all x =
        let names =
        repeated x.from.file []
        (map (λ g. g.name) (function_generics x.it.generics) ++ map (λ p. p.0) (list_in x.it.params)) in
        let types = field_faults (function_site all x) (list_in x.it.params) in
        let result = output_faults (function_site all x) x.it.output in
        sym (append_assoc names (types ++ result) (body_faults all x)
        ∙ ap (λ (fs : List Fault). names ++ fs) (append_assoc types result (body_faults all x)))

items_split : (all : List Declared) (p : Places) (ds : List Declared) → faults_from all p ds ≡ parts_from whole all p ds
items_split all p [] = refl
items_split all p (d ∷ ds) =
    ap (λ (fs : List Fault). fs ++ faults_from all (past p d.what) ds) (item_split all p d d.what)
    ∙ ap (λ (fs : List Fault). whole all p d d.what ++ fs) (items_split all (past p d.what) ds)

struct_in : IsPart struct_part
struct_in all p d = struct_part_in all p d d.what

head_in : IsPart head_part
head_in all p d = head_part_in all p d d.what

body_in : IsPart body_part
body_in all p d = body_part_in all p d d.what

pub items_reordered : (all : List Declared) (best : Option Fault) (p : Places) (ds : List Declared) → AreFar ds
    → least best (faults_from all p ds) ≡ least best
    (parts_from struct_part all p ds ++ (parts_from head_part all p ds ++ parts_from body_part all p ds))
items_reordered all best p ds f =
    let s = parts_from struct_part all p ds in
    let hs = parts_from head_part all p ds in
    let bs = parts_from body_part all p ds in
    ap (least best) (items_split all p ds)
    ∙ parts_apart struct_part (both head_part body_part) struct_in (both_in head_part body_part head_in body_in) all
    best p ds f
    ∙ least_append best s (parts_from (both head_part body_part) all p ds)
    ∙ parts_apart head_part body_part head_in body_in all (least best s) p ds f
    ∙ sym (least_append best s (hs ++ bs))

-- the declarations in reading order, and then the bodies
declared_split : (all : List Declared) (p : Places) (ds : List Declared)
    → parts_from whole all p ds ≡ parts_from (both declaration_part body_part) all p ds
declared_split all p [] = refl
declared_split all p (d ∷ ds) =
    ap (λ (fs : List Fault). fs ++ parts_from whole all (past p d.what) ds)
    (sym (append_assoc (struct_part all p d d.what) (head_part all p d d.what) (body_part all p d d.what)))
    ∙ ap (λ (fs : List Fault). both declaration_part body_part all p d d.what ++ fs)
    (declared_split all (past p d.what) ds)

pub declarations_first : (all : List Declared) (best : Option Fault) (p : Places) (ds : List Declared) → AreFar ds
    → least best (faults_from all p ds) ≡ least best
    (parts_from declaration_part all p ds ++ parts_from body_part all p ds)
declarations_first all best p ds f =
    ap (least best) (items_split all p ds ∙ declared_split all p ds)
    ∙ parts_apart declaration_part body_part (both_in struct_part head_part struct_in head_in) body_in all best p ds
    f

-- TOO MANY FUNCTIONS

not_ten : (c : Code) → is_limit c ≡ false → (row c).number ≡ 10 → ⊥
not_ten UnexpectedByte h e = true≢false (sym (ap (eqb 10) e))
not_ten SyntaxError h e = true≢false (sym (ap (eqb 10) e))
not_ten DefinedTwice h e = true≢false (sym (ap (eqb 10) e))
not_ten UnknownName h e = true≢false (sym (ap (eqb 10) e))
not_ten WrongType h e = true≢false (sym (ap (eqb 10) e))
not_ten WrongCount h e = true≢false (sym (ap (eqb 10) e))
not_ten NoSuchPlace h e = true≢false (sym (ap (eqb 10) e))
not_ten NestedTooDeep h e = true≢false (sym (ap (eqb 10) e))
not_ten NoLawfulMain h e = true≢false (sym (ap (eqb 10) e))
not_ten PastLimit h e = true≢false h
not_ten MayEndWithoutValue h e = true≢false (sym (ap (eqb 10) e))
not_ten ArgumentTooLarge h e = true≢false (sym (ap (eqb 10) e))
not_ten TooManyInstances h e = true≢false (sym (ap (eqb 10) e))
not_ten AssertionFalse h e = true≢false (sym (ap (eqb 10) e))
not_ten AssertionTraps h e = true≢false (sym (ap (eqb 10) e))
not_ten TooManySlots h e = true≢false (sym (ap (eqb 10) e))
not_ten TooMuchCode h e = true≢false (sym (ap (eqb 10) e))
not_ten ImageTooLarge h e = true≢false (sym (ap (eqb 10) e))

abbrev IsLimit : Fault → Type 0
IsLimit f = (row f.code).number ≡ 10

limit_by : (d : Declared) (w : What) (n : ℕ) (later : ℕ → List Fault) → ((m : ℕ) → Every IsLimit (later m))
    → Every IsLimit (one_less d w n later)
limit_by d a_module n later h = h n
limit_by d (a_struct s) n later h = h n
limit_by d (a_const c) n later h = h n
limit_by d (a_function f) zero later h = (refl, tt)
limit_by d (a_function f) (suc n) later h = h n

limits : (ds : List Declared) (n : ℕ) → Every IsLimit (past_limit ds n)
limits [] n = tt
limits (d ∷ ds) n = limit_by d d.what n (past_limit ds) (limits ds)

abbrev IsOther : Fault → Type 0
IsOther f = (row f.code).number ≡ 10 → ⊥

part_other : (part : Part) → IsPart part → (all : List Declared) (p : Places) (ds : List Declared)
    → Every IsOther (parts_from part all p ds)
part_other part h all p [] = tt
part_other part h all p (d ∷ ds) =
    every_join IsOther (part all p d d.what) (parts_from part all (past p d.what) ds)
    (every_map (StandsIn d.file (item_tokens d.what)) IsOther (part all p d d.what)
    (λ f s e. not_ten s.code s.other (sym (ap (λ (x : Fault). (row x.code).number) s.is) ∙ e)) (h all p d))
    (part_other part h all (past p d.what) ds)

limit_different : (xs ys : List Fault) → Every IsOther xs → Every IsLimit ys → AllDifferent xs ys
limit_different [] ys h k = tt
limit_different (x ∷ xs) ys h k =
    (every_map IsLimit (Different x) ys (λ g l e. h.0 ((tied x g e).number ∙ l)) k, limit_different xs ys h.1 k)

pub limit_first : (all : List Declared) (best : Option Fault)
    → least best (faults_from all none_yet all ++ past_limit all max_functions) ≡ least best
    (past_limit all max_functions ++ faults_from all none_yet all)
limit_first all best =
    swapped best (faults_from all none_yet all) (past_limit all max_functions)
    (limit_different (faults_from all none_yet all) (past_limit all max_functions)
    (transport (λ (fs : List Fault). Every IsOther fs) (sym (items_split all none_yet all))
    (part_other whole
    (both_in struct_part (both head_part body_part) struct_in (both_in head_part body_part head_in body_in))
    all none_yet all))
    (limits all max_functions))

-- ALL FAULTS

-- what is found of items may be any list with the same least
any_items : (sources : List Source) (parts : List Fault)
    → ((best : Option Fault)
    → least best (faults_from (declared sources) none_yet (declared sources)) ≡ least best parts)
    → least None (faults sources) ≡ least None
    ((repeated_items [] (declared sources) ++ past_limit (declared sources) max_functions) ++ parts)
unfolding faults
any_items sources parts h =
    let all = declared sources in
    let names = repeated_items [] all in
    let many = past_limit all max_functions in
    let items = faults_from all none_yet all in
    least_append None names (items ++ many) ∙ limit_first all (least None names)
    ∙ least_append (least None names) many items
    ∙ h (least (least None names) many)
    ∙ sym (least_append (least None names) many parts) ∙ sym (least_append None names (many ++ parts))
    ∙ ap (least None) (sym (append_assoc names many parts))

pub by_kind : (sources : List Source) → AreSourcesOrdered sources
    → least None (faults sources) ≡ least None
    ((repeated_items [] (declared sources) ++ past_limit (declared sources) max_functions) ++
    (parts_from struct_part (declared sources) none_yet (declared sources) ++
    (parts_from head_part (declared sources) none_yet (declared sources) ++ parts_from body_part
    (declared sources) none_yet (declared sources))))
by_kind sources h =
    any_items sources _
    (λ best. items_reordered (declared sources) best none_yet (declared sources) (all_far sources h))

pub by_place : (sources : List Source) → AreSourcesOrdered sources
    → least None (faults sources) ≡ least None
    ((repeated_items [] (declared sources) ++ past_limit (declared sources) max_functions) ++
    (parts_from declaration_part (declared sources) none_yet (declared sources) ++ parts_from body_part
    (declared sources) none_yet (declared sources)))
by_place sources h =
    any_items sources _
    (λ best. declarations_first (declared sources) best none_yet (declared sources) (all_far sources h))

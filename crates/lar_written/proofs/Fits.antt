-- Generics as many as declared or not, and what is told before and after their own faults.
use Rattle.std.proofs.Common.{◌≡◌, ℕ, zero, suc, Bool, true, false, List, [], ◌∷◌, ◌++◌, length, map, Option, Some, None, option_map, refl, sym, ap, ◌∙◌, arith}
use Rattle.std.specs.Prelude.{◌==◌, if◌then◌else◌}
use Rattle.std.proofs.lemmas.Bool.Decides.{Decides-eqb}
use Rattle.lar_tree.specs.declared.name.Path.{Path}
use Rattle.type_table.specs.declared.row.Row.{Row}
use Rattle.type_table.specs.declared.row.Row.TheVariants.{Param}
use Rattle.type_table.specs.declared.sort.Sort.{Sort}
use Rattle.type_table.specs.TypeOf.{TypeOf, param, struct}
use Rattle.type_table.specs.Rows.{types, type_of, Stands}
use Rattle.lar_rules.specs.Declared.{Struct}
use Rattle.lar_rules.specs.Fault.{Fault, fault, kept, least}
use Rattle.lar_rules.specs.Written as rules
use Rattle.lar_rules.specs.Written.{Site, TypeName, a_generic, a_struct_type, no_type, Fitted, fitted, named, unknown, miscounted, missorted, sorted_list, struct_sorts, all_given, then_type}
use Rattle.lar_rules.proofs.Least.{least_append}
use Rattle.std.proofs.lemmas.List.{length-map}
use Rattle.lar_source.specs.declared.code.Code.TheVariants.{WrongType}
use Rattle.type_table.specs.Lawful.{same_sort}
use Rattle.lar_rules.specs.Printed.{sort_text}
use Rattle.lar_written.specs.declared.given.Given.{Given}
use Rattle.lar_written.specs.declared.named.Begun.{Begun}
use Rattle.lar_written.specs.declared.site.TypeName.TheVariants as code
use Rattle.lar_written.specs.Sites.{meaning}
use Rattle.lar_written.specs.Given.{bare, marks, given_view, early_fit, late_fit, early, late, fitted_of, name_of, IsBegun}
use Rattle.lar_written.specs.Standing.{number_type, StandsIf}

not_true : (b : Bool) → (b ≡ true → ⊥) → b ≡ false
not_true true h = absurd (h refl)
not_true false h = refl

equal : (m n : ℕ) → m ≡ n → (m == n) ≡ true
equal m n e = (Decides-eqb m n).1 e

different : (m n : ℕ) → (m ≡ n → ⊥) → (m == n) ≡ false
different m n h = not_true (m == n) (λ e. h ((Decides-eqb m n).0 e))

pub least_none : (best : Option Fault) → best ≡ least best []
unfolding least
least_none best = refl

pub least_one : (best : Option Fault) (f : Fault) → kept best f ≡ least best (f ∷ [])
unfolding least
least_one best f = refl

pub fit_same : (s : Site) (p : Path) (m n : ℕ) (best : Option Fault) → m ≡ n → best ≡ least best (early_fit s p m n)
unfolding early_fit least
fit_same s p m n best e = ap (λ (b : Bool). least best (if b then [] else miscounted s p m n ∷ [])) (sym (equal m n e))

pub fit_other : (s : Site) (p : Path) (m n : ℕ) (best after : Option Fault) → (m ≡ n → ⊥) → after ≡ kept best (miscounted s p m n) → after ≡ least best (early_fit s p m n)
unfolding early_fit least
fit_other s p m n best after h e = e ∙ ap (λ (b : Bool). least best (if b then [] else miscounted s p m n ∷ [])) (sym (different m n h))

pub fitted_same : (ws : List Sort) (ds : List rules.Given) → length ws ≡ length ds → fitted_of ws ds ≡ sorted_list ws ds
unfolding fitted_of
fitted_same ws ds e = ap (λ (b : Bool). if b then sorted_list ws ds else None) (equal (length ws) (length ds) e)

pub fitted_other : (ws : List Sort) (ds : List rules.Given) → (length ws ≡ length ds → ⊥) → fitted_of ws ds ≡ None
unfolding fitted_of
fitted_other ws ds h = ap (λ (b : Bool). if b then sorted_list ws ds else None) (different (length ws) (length ds) h)

pub late_same : (s : Site) (ws : List Sort) (ds : List rules.Given) → length ws ≡ length ds → late_fit s ws ds ≡ missorted s ws ds
unfolding late_fit
late_same s ws ds e = ap (λ (b : Bool). if b then missorted s ws ds else []) (equal (length ws) (length ds) e)

pub late_other : (s : Site) (ws : List Sort) (ds : List rules.Given) → (length ws ≡ length ds → ⊥) → late_fit s ws ds ≡ []
unfolding late_fit
late_other s ws ds h = ap (λ (b : Bool). if b then missorted s ws ds else []) (different (length ws) (length ds) h)

-- A NAME AND ITS GENERICS

pub unknown_is : (rows : List Row) (t : TypeName) (ds : List rules.Given) → meaning t ≡ code.Unknown → StandsIf rows None (name_of t ds)
unfolding name_of
unknown_is rows no_type ds e = record { within = tt; is = refl }
unknown_is rows (a_generic k) ds e = absurd (let h : ⊥ = cc in h)
unknown_is rows (a_struct_type x) ds e = absurd (let h : ⊥ = cc in h)

pub unknown_late : (s : Site) (t : TypeName) (ds : List rules.Given) → meaning t ≡ code.Unknown → late s t ds ≡ []
unfolding late
unknown_late s no_type ds e = refl
unknown_late s (a_generic k) ds e = refl
unknown_late s (a_struct_type x) ds e = absurd (let h : ⊥ = cc in h)

pub generic_late : (s : Site) (t : TypeName) (k : ℕ) (ds : List rules.Given) → meaning t ≡ code.Generic k → late s t ds ≡ []
unfolding late
generic_late s no_type k ds e = refl
generic_late s (a_generic j) k ds e = refl
generic_late s (a_struct_type x) k ds e = absurd (let h : ⊥ = cc in h)

pub generic_is : (rows : List Row) (t : TypeName) (k n : ℕ) → meaning t ≡ code.Generic k → Stands rows n (param k) → StandsIf rows (Some n) (name_of t [])
unfolding name_of
generic_is rows (a_generic j) k n e st = let same : j ≡ k = cc in record { within = st.within; is = ap Some (st.is ∙ ap param (sym same)) }
generic_is rows no_type k n e st = absurd (let h : ⊥ = cc in h)
generic_is rows (a_struct_type x) k n e st = absurd (let h : ⊥ = cc in h)

pub generic_miscounted : (rows : List Row) (t : TypeName) (k : ℕ) (ds : List rules.Given) → meaning t ≡ code.Generic k → (ds ≡ [] → ⊥) → StandsIf rows None (name_of t ds)
unfolding name_of
generic_miscounted rows (a_generic j) k [] e some = absurd (some refl)
generic_miscounted rows (a_generic j) k (d ∷ ds) e some = record { within = tt; is = refl }
generic_miscounted rows no_type k ds e some = absurd (let h : ⊥ = cc in h)
generic_miscounted rows (a_struct_type x) k ds e some = absurd (let h : ⊥ = cc in h)

pub struct_late : (s : Site) (t : TypeName) (k : ℕ) (sorts : List Sort) (ds : List rules.Given) → meaning t ≡ code.Struct k → ((x : Struct) → t ≡ a_struct_type x → sorts ≡ struct_sorts x) → late_fit s sorts ds ≡ late s t ds
unfolding late
struct_late s (a_struct_type x) k sorts ds e is = ap (λ (ws : List Sort). late_fit s ws ds) (is x refl)
struct_late s no_type k sorts ds e is = absurd (let h : ⊥ = cc in h)
struct_late s (a_generic j) k sorts ds e is = absurd (let h : ⊥ = cc in h)

pub struct_is : (mid new : List Row) (t : TypeName) (k : ℕ) (sorts : List Sort) (ds : List rules.Given) (f n : Option ℕ) → meaning t ≡ code.Struct k → ((x : Struct) → t ≡ a_struct_type x → sorts ≡ struct_sorts x)
    → StandsIf mid f (fitted_of sorts ds) → StandsIf new n (option_map (struct k) (number_type mid f)) → StandsIf new n (name_of t ds)
unfolding name_of
struct_is mid new (a_struct_type x) k sorts ds f n e is fits st =
    let same : x.number ≡ k = cc in
    record { within = st.within; is = st.is ∙ ap (λ (j : ℕ). option_map (struct j) (number_type mid f)) (sym same) ∙ ap (option_map (struct x.number)) (fits.is ∙ ap (λ (ws : List Sort). fitted_of ws ds) (is x refl)) }
struct_is mid new no_type k sorts ds f n e is fits st = absurd (let h : ⊥ = cc in h)
struct_is mid new (a_generic j) k sorts ds f n e is fits st = absurd (let h : ⊥ = cc in h)

-- THE DEFINITION, IN THESE PARTS

pub fitted_type : (s : Site) (p : Path) (ws : List Sort) (ds : List rules.Given) → (fitted s p ws ds).of ≡ fitted_of ws ds
unfolding fitted_of
fitted_type s p ws ds =
    elim (length ws == length ds) as (λ (b : Bool). Fitted.of (if b then record { counted = true; of = sorted_list ws ds; faults = all_given ds ++ missorted s ws ds } else record { counted = false; of = None; faults = miscounted s p (length ws) (length ds) ∷ all_given ds }) ≡ (if b then sorted_list ws ds else None)) [ true ↦ refl | false ↦ refl ]

pub fitted_counted : (s : Site) (p : Path) (ws : List Sort) (ds : List rules.Given) → (fitted s p ws ds).counted ≡ (length ws == length ds)
fitted_counted s p ws ds =
    elim (length ws == length ds) as (λ (b : Bool). Fitted.counted (if b then record { counted = true; of = sorted_list ws ds; faults = all_given ds ++ missorted s ws ds } else record { counted = false; of = None; faults = miscounted s p (length ws) (length ds) ∷ all_given ds }) ≡ b) [ true ↦ refl | false ↦ refl ]

pub fitted_told : (s : Site) (p : Path) (ws : List Sort) (ds : List rules.Given) (best : Option Fault) → least best (fitted s p ws ds).faults ≡ least (least (least best (early_fit s p (length ws) (length ds))) (all_given ds)) (late_fit s ws ds)
unfolding early_fit late_fit least
fitted_told s p ws ds best =
    elim (length ws == length ds) as (λ (b : Bool). least best (Fitted.faults (if b then record { counted = true; of = sorted_list ws ds; faults = all_given ds ++ missorted s ws ds } else record { counted = false; of = None; faults = miscounted s p (length ws) (length ds) ∷ all_given ds })) ≡ least (least (least best (if b then [] else miscounted s p (length ws) (length ds) ∷ [])) (all_given ds)) (if b then missorted s ws ds else [])) [ true ↦ least_append best (all_given ds) (missorted s ws ds) | false ↦ refl ]

pub named_type_is : (s : Site) (p : Path) (t : TypeName) (ds : List rules.Given) → (named s p t ds).of ≡ name_of t ds
unfolding name_of
named_type_is s p no_type ds = refl
named_type_is s p (a_generic k) [] = refl
named_type_is s p (a_generic k) (d ∷ ds) = refl
named_type_is s p (a_struct_type x) ds = ap (option_map (struct x.number)) (fitted_type s p (struct_sorts x) ds)

pub named_told : (s : Site) (p : Path) (t : TypeName) (ds : List rules.Given) (best : Option Fault) → least best (named s p t ds).faults ≡ least (least (least best (early s p t (length ds))) (all_given ds)) (late s t ds)
unfolding early late early_fit least
named_told s p no_type ds best = refl
named_told s p (a_generic k) [] best = refl
named_told s p (a_generic k) (d ∷ ds) best =
    ap (λ (b : Bool). least (least best (if b then [] else miscounted s p 0 (length (d ∷ ds)) ∷ [])) (all_given (d ∷ ds))) (sym (different 0 (length (d ∷ ds)) (λ e. let h : ⊥ = cc in h)))
named_told s p (a_struct_type x) ds best = fitted_told s p (struct_sorts x) ds best

-- THE GENERICS' OWN FAULTS, AND WHAT THE CODE KNOWS OF THEM

-- a generic by its place and sort alone
abbrev pub strip : rules.Given → rules.Given
strip d = record { at = d.at; sort = d.sort; of = None; faults = [] }

strip_missorted : (s : Site) (ws : List Sort) (ds : List rules.Given) → missorted s ws (map strip ds) ≡ missorted s ws ds
strip_missorted s [] ds = refl
strip_missorted s (w ∷ ws) [] = refl
strip_missorted s (w ∷ ws) (d ∷ ds) =
    ap (λ (fs : List Fault). if same_sort w d.sort then fs else fault s.file d.at WrongType (sort_text w ∷ sort_text d.sort ∷ []) ∷ fs) (strip_missorted s ws ds)

bare_sorted : (ws : List Sort) (ds : List rules.Given) → sorted_list ws (map bare ds) ≡ sorted_list ws ds
bare_sorted [] [] = refl
bare_sorted [] (d ∷ ds) = refl
bare_sorted (w ∷ ws) [] = refl
bare_sorted (w ∷ ws) (d ∷ ds) = ap (then_type (if same_sort w d.sort then d.of else None)) (bare_sorted ws ds)

pub bare_fitted : (ws : List Sort) (ds : List rules.Given) → fitted_of ws (map bare ds) ≡ fitted_of ws ds
unfolding fitted_of
bare_fitted ws ds =
    ap (λ (n : ℕ). if length ws == n then sorted_list ws (map bare ds) else None) (length-map ds bare)
    ∙ ap (λ (t : Option TypeOf). if length ws == length ds then t else None) (bare_sorted ws ds)

strip_late_fit : (s : Site) (ws : List Sort) (ds : List rules.Given) → late_fit s ws (map strip ds) ≡ late_fit s ws ds
unfolding late_fit
strip_late_fit s ws ds =
    ap (λ (n : ℕ). if length ws == n then missorted s ws (map strip ds) else []) (length-map ds strip)
    ∙ ap (λ (fs : List Fault). if length ws == length ds then fs else []) (strip_missorted s ws ds)

pub bare_name : (t : TypeName) (ds : List rules.Given) → name_of t (map bare ds) ≡ name_of t ds
unfolding name_of
bare_name no_type ds = refl
bare_name (a_generic k) [] = refl
bare_name (a_generic k) (d ∷ ds) = refl
bare_name (a_struct_type x) ds = ap (option_map (struct x.number)) (bare_fitted (struct_sorts x) ds)

strip_late : (s : Site) (t : TypeName) (ds : List rules.Given) → late s t (map strip ds) ≡ late s t ds
unfolding late
strip_late s no_type ds = refl
strip_late s (a_generic k) ds = refl
strip_late s (a_struct_type x) ds = strip_late_fit s (struct_sorts x) ds

map_twice : {A B C : Type 0} (g : B → C) (f : A → B) (xs : List A) → map g (map f xs) ≡ map (λ x. g (f x)) xs
map_twice g f [] = refl
map_twice g f (x ∷ xs) = ap (λ (ys : List _). g (f x) ∷ ys) (map_twice g f xs)

-- where the code's generics stand for the definition's, what is told after them is the same
pub marks_late : (rows : List Row) (s : Site) (t : TypeName) (gs : List Given) (ds : List rules.Given) → map (given_view rows) gs ≡ map bare ds → late s t (map marks gs) ≡ late s t ds
marks_late rows s t gs ds are =
    ap (late s t) (sym (map_twice strip (given_view rows) gs) ∙ ap (map strip) are ∙ map_twice strip bare ds) ∙ strip_late s t ds

pub marks_late_fit : (rows : List Row) (s : Site) (ws : List Sort) (gs : List Given) (ds : List rules.Given) → map (given_view rows) gs ≡ map bare ds → late_fit s ws (map marks gs) ≡ late_fit s ws ds
marks_late_fit rows s ws gs ds are =
    ap (late_fit s ws) (sym (map_twice strip (given_view rows) gs) ∙ ap (map strip) are ∙ map_twice strip bare ds) ∙ strip_late_fit s ws ds

-- the three parts of what is told
pub fit_all : (s : Site) (p : Path) (ws : List Sort) (ds : List rules.Given) (f0 f1 f2 f3 : Option Fault) → f1 ≡ least f0 (early_fit s p (length ws) (length ds)) → f2 ≡ least f1 (all_given ds) → f3 ≡ least f2 (late_fit s ws ds) → f3 ≡ least f0 (fitted s p ws ds).faults
fit_all s p ws ds f0 f1 f2 f3 a b c =
    c ∙ ap (λ (f : Option Fault). least f (late_fit s ws ds)) (b ∙ ap (λ (f : Option Fault). least f (all_given ds)) a) ∙ sym (fitted_told s p ws ds f0)

pub none_given : (gs : List Given) → true ≡ (length gs == 0) → gs ≡ []
none_given [] h = refl
none_given (g ∷ gs) h = absurd (let e : length (g ∷ gs) ≡ 0 = (Decides-eqb (length (g ∷ gs)) 0).0 (sym h) in omega arith)

pub some_given : (rows : List Row) (gs : List Given) → false ≡ (length gs == 0) → map (given_view rows) gs ≡ [] → ⊥
some_given rows [] h e = let h : ⊥ = cc in h
some_given rows (g ∷ gs) h e = let h : ⊥ = cc in h

-- WHAT IS TOLD FIRST

pub early_unknown : (s : Site) (p : Path) (t : TypeName) (n : ℕ) (best : Option Fault) → meaning t ≡ code.Unknown → kept best (unknown s p) ≡ least best (early s p t n)
unfolding early least
early_unknown s p no_type n best e = refl
early_unknown s p (a_generic k) n best e = absurd (let h : ⊥ = cc in h)
early_unknown s p (a_struct_type x) n best e = absurd (let h : ⊥ = cc in h)

pub early_generic : (s : Site) (p : Path) (t : TypeName) (k n : ℕ) → meaning t ≡ code.Generic k → early_fit s p 0 n ≡ early s p t n
unfolding early
early_generic s p (a_generic j) k n e = refl
early_generic s p no_type k n e = absurd (let h : ⊥ = cc in h)
early_generic s p (a_struct_type x) k n e = absurd (let h : ⊥ = cc in h)

pub early_struct : (s : Site) (p : Path) (t : TypeName) (k wanted n : ℕ) → meaning t ≡ code.Struct k → ((x : Struct) → t ≡ a_struct_type x → wanted ≡ length (struct_sorts x)) → early_fit s p wanted n ≡ early s p t n
unfolding early
early_struct s p (a_struct_type x) k wanted n e count = ap (λ (m : ℕ). early_fit s p m n) (count x refl)
early_struct s p no_type k wanted n e count = absurd (let h : ⊥ = cc in h)
early_struct s p (a_generic j) k wanted n e count = absurd (let h : ⊥ = cc in h)

-- What is written, by the arms of the code.
use Rattle.std.proofs.Common.{◌≡◌, ℕ, suc, Bool, List, [], ◌∷◌, ◌++◌, length, map, Option, Some, None, option_map, Result, Ok, Err, OnOk, refl, sym, ap, ◌∙◌, subst}
use Rattle.std.specs.Prelude.{◌==◌}
use Rattle.std.proofs.lemmas.List.{length-map}
use Rattle.type_table.specs.declared.sort.Sort.{Sort}
use Rattle.lar_source.specs.declared.file.Span.{Span}
use Rattle.lar_tree.specs.declared.name.Path.{Path}
use Rattle.lar_tree.specs.declared.commas.Member.{Member}
use Rattle.lar_tree.specs.declared.ty.SignedNumber.{SignedNumber}
use Rattle.lar_tree.specs.declared.ty.Ty.{Ty}
use Rattle.lar_tree.specs.declared.ty.Ty.TheVariants.{Int, Bool as BoolTy, Unit as UnitTy, Named}
use Rattle.lar_tree.specs.declared.ty.TupleTy.{TupleTy}
use Rattle.lar_tree.specs.declared.ty.GenericArgs.{GenericArgs}
use Rattle.lar_tree.specs.declared.ty.GenericArg.{GenericArg}
use Rattle.lar_tree.specs.declared.ty.GenericArg.TheVariants as arg
use Rattle.lar_tree.specs.PlainLists.{values, further_args, args_of}
use Rattle.lar_tree.specs.Types.{PlainTy, PlainArg, MoreTypes, last_type, next_type, named_type, generic_type}
use Rattle.lar_tree.specs.TypeView.{type_view, tuple_view, args_view, arg_view, more_types_view, more_args_view}
use Rattle.type_table.specs.declared.row.Row.{Row}
use Rattle.type_table.specs.TypeOf.{TypeOf, tuple}
use Rattle.type_table.specs.Rows.{Keeps}
use Rattle.lar_rules.specs.Fault.{Fault, kept, least}
use Rattle.lar_rules.specs.Written as rules
use Rattle.lar_rules.specs.Written.{Site, TypeName, type_named, written, written_others, then_type, fitted, named, one_given, given, given_others, all_given, number_given, miscounted}
use Rattle.lar_rules.proofs.Least.{least_append}
use Rattle.lar_written.specs.declared.given.Given.{Given}
use Rattle.lar_written.specs.Given.{marks, given_view, bare, GivenStand, early_fit, late_fit, early, late, fitted_of, name_of}
use Rattle.lar_written.specs.Standing.{number_type, StandsIf, AllStand, list_if, tuple_if, others_of}
use Rattle.lar_written.proofs.Fits.{least_none, least_one, named_type_is, named_told, bare_name, marks_late, bare_fitted, fitted_type, fitted_counted, fit_all, marks_late_fit}
use Rattle.lar_written.proofs.Loops.{given_are}
use Rattle.lar_written.proofs.Standings.{keeps_twice, stands_kept}
use Rattle.lar_written.proofs.Views.{int_view, bool_view, unit_view, named_view, generic_view, number_view, args_are, tuple_is}

pub ok_always : {T E P : Type 0} (r : Result T E) → P → OnOk r P
ok_always (Ok x) p = p
ok_always (Err e) p = tt

pub int_told : (s : Site) (ty : Ty) (at : Span) (best : Option Fault) → ty ≡ Int at → best ≡ least best (written s (type_view ty)).faults
int_told s ty at best e = least_none best ∙ ap (λ t. least best (written s t).faults) (sym (ap type_view e ∙ int_view at))

pub bool_told : (s : Site) (ty : Ty) (at : Span) (best : Option Fault) → ty ≡ BoolTy at → best ≡ least best (written s (type_view ty)).faults
bool_told s ty at best e = least_none best ∙ ap (λ t. least best (written s t).faults) (sym (ap type_view e ∙ bool_view at))

pub unit_told : (s : Site) (ty : Ty) (from to : Span) (best : Option Fault) → ty ≡ UnitTy from to → best ≡ least best (written s (type_view ty)).faults
unit_told s ty from to best e = least_none best ∙ ap (λ t. least best (written s t).faults) (sym (ap type_view e ∙ unit_view from to))

pub number_told : (s : Site) (a : GenericArg) (n : SignedNumber) (best : Option Fault) → a ≡ arg.Number n → best ≡ least best (one_given s (arg_view a)).faults
number_told s a n best e = least_none best ∙ ap (λ x. least best (one_given s x).faults) (sym (ap arg_view e ∙ number_view n))

-- TUPLES

others_list : (s : Site) (ts : MoreTypes) → (written_others s ts).of ≡ list_if (others_of s ts)
others_list s last_type = refl
others_list s (next_type comma t others) = ap (then_type (written s t).of) (others_list s others)

pub tuple_is_written : (r1 r2 r3 new : List Row) (s : Site) (t : TupleTy) (ms : List (Member Ty)) (head next n : Option ℕ) (items others : List (Option ℕ)) → Keeps r1 r2 → Keeps r2 r3
    → StandsIf r1 head (written s (type_view t.first)).of → StandsIf r2 next (written s (type_view t.second)).of → ms ≡ t.more → AllStand r3 items (others_of s (more_types_view ms)) → others ≡ items
    → StandsIf new n (tuple_if (number_type r3 head) (number_type r3 next) (map (number_type r3) others)) → StandsIf new n (written s (tuple_view t)).of
tuple_is_written r1 r2 r3 new s t ms head next n items others k l a b more c same st =
    let x = stands_kept r1 r3 head _ (keeps_twice r1 r2 r3 k l) a in
    let y = stands_kept r2 r3 next _ l b in
    record {
      within = st.within;
      is = st.is ∙ ap (λ (u : Option TypeOf). tuple_if u (number_type r3 next) (map (number_type r3) others)) x.is ∙ ap (λ (u : Option TypeOf). tuple_if (written s (type_view t.first)).of u (map (number_type r3) others)) y.is
          ∙ ap (tuple_if (written s (type_view t.first)).of (written s (type_view t.second)).of) (ap (map (number_type r3)) same ∙ c.are ∙ ap (λ (xs : List (Member Ty)). others_of s (more_types_view xs)) more)
          ∙ ap (λ (u : Option TypeOf). option_map tuple (then_type (written s (type_view t.first)).of (then_type (written s (type_view t.second)).of u))) (sym (others_list s (more_types_view t.more)))
          ∙ sym (ap (λ v. (written s v).of) (tuple_is t));
    }

pub tuple_told : (s : Site) (t : TupleTy) (ms : List (Member Ty)) (f0 f1 f2 f3 : Option Fault) → ms ≡ t.more → f1 ≡ least f0 (written s (type_view t.first)).faults → f2 ≡ least f1 (written s (type_view t.second)).faults
    → f3 ≡ least f2 (written_others s (more_types_view ms)).faults → f3 ≡ least f0 (written s (tuple_view t)).faults
tuple_told s t ms f0 f1 f2 f3 more a b c =
    let x = (written s (type_view t.first)).faults in
    let y = (written s (type_view t.second)).faults in
    let z = (written_others s (more_types_view t.more)).faults in
    c ∙ ap (λ (xs : List (Member Ty)). least f2 (written_others s (more_types_view xs)).faults) more ∙ ap (λ (f : Option Fault). least f z) b ∙ sym (least_append f1 y z)
    ∙ ap (λ (f : Option Fault). least f (y ++ z)) a ∙ sym (least_append f0 x (y ++ z)) ∙ sym (ap (λ v. least f0 (written s v).faults) (tuple_is t))

-- NAMES

pub alone_view : (ty : Ty) (p : Path) (o : Option GenericArgs) → ty ≡ Named p o → o ≡ None → type_view ty ≡ named_type p
alone_view ty p o e n = ap type_view (e ∙ ap (Named p) n) ∙ named_view p

args_view_is : (ty : Ty) (p : Path) (o : Option GenericArgs) (a : GenericArgs) → ty ≡ Named p o → o ≡ Some a → type_view ty ≡ generic_type p (args_view a)
args_view_is ty p o a e n = ap type_view (e ∙ ap (Named p) n) ∙ generic_view p a

pub alone_is : (rows : List Row) (s : Site) (ty : Ty) (p : Path) (o : Option GenericArgs) (n : Option ℕ) → ty ≡ Named p o → o ≡ None → StandsIf rows n (name_of (type_named s p) []) → StandsIf rows n (written s (type_view ty)).of
alone_is rows s ty p o n e none st = record { within = st.within; is = st.is ∙ sym (named_type_is s p (type_named s p) []) ∙ sym (ap (λ t. (written s t).of) (alone_view ty p o e none)) }

pub alone_told : (s : Site) (ty : Ty) (p : Path) (o : Option GenericArgs) (f0 f1 f2 : Option Fault) → ty ≡ Named p o → o ≡ None → f1 ≡ least f0 (early s p (type_named s p) 0) → f2 ≡ least f1 (late s (type_named s p) []) → f2 ≡ least f0 (written s (type_view ty)).faults
unfolding least
alone_told s ty p o f0 f1 f2 e none a b =
    b ∙ ap (λ (f : Option Fault). least f (late s (type_named s p) [])) a ∙ sym (named_told s p (type_named s p) [] f0) ∙ sym (ap (λ t. least f0 (written s t).faults) (alone_view ty p o e none))

pub args_is : (mid new : List Row) (s : Site) (ty : Ty) (p : Path) (o : Option GenericArgs) (a : GenericArgs) (items gs : List Given) (n : Option ℕ) → ty ≡ Named p o → o ≡ Some a
    → GivenStand mid items (given s (args_view a)) → gs ≡ items → StandsIf new n (name_of (type_named s p) (map (given_view mid) gs)) → StandsIf new n (written s (type_view ty)).of
args_is mid new s ty p o a items gs n e some g same st =
    let t = type_named s p in
    let ds = given s (args_view a) in
    record {
      within = st.within;
      is = st.is ∙ ap (λ (xs : List Given). name_of t (map (given_view mid) xs)) same ∙ ap (name_of t) g.are ∙ bare_name t ds ∙ sym (named_type_is s p t ds) ∙ sym (ap (λ x. (written s x).of) (args_view_is ty p o a e some));
    }

given_count : (s : Site) (a : GenericArgs) → length (given s (args_view a)) ≡ length (values a.list)
given_count s a =
    ap (λ v. length (given s v)) (args_are a)
    ∙ ap (λ (ds : List rules.Given). suc (length ds)) (given_are s a.list.more)
    ∙ ap suc (length-map a.list.more (λ m. one_given s (arg_view m.value)) ∙ sym (length-map a.list.more (λ m. m.value)))

pub args_told : (mid : List Row) (s : Site) (ty : Ty) (p : Path) (o : Option GenericArgs) (a : GenericArgs) (items gs : List Given) (n : ℕ) (f0 f1 f2 f3 : Option Fault) → ty ≡ Named p o → o ≡ Some a
    → n ≡ length (values a.list) → GivenStand mid items (given s (args_view a)) → gs ≡ items
    → f1 ≡ least f0 (early s p (type_named s p) n) → f2 ≡ least f1 (all_given (given s (args_view a))) → f3 ≡ least f2 (late s (type_named s p) (map marks gs)) → f3 ≡ least f0 (written s (type_view ty)).faults
args_told mid s ty p o a items gs n f0 f1 f2 f3 e some count g same x y z =
    let t = type_named s p in
    let ds = given s (args_view a) in
    z ∙ ap (λ (xs : List Given). least f2 (late s t (map marks xs))) same ∙ ap (least f2) (marks_late mid s t items ds g.are)
    ∙ ap (λ (f : Option Fault). least f (late s t ds)) (y ∙ ap (λ (f : Option Fault). least f (all_given ds)) (x ∙ ap (λ (k : ℕ). least f0 (early s p t k)) (count ∙ sym (given_count s a))))
    ∙ sym (named_told s p t ds f0) ∙ sym (ap (λ v. least f0 (written s v).faults) (args_view_is ty p o a e some))

pub given_all : (rows : List Row) (s : Site) (a : GenericArgs) (ms : List (Member GenericArg)) (gs : List Given) → ms ≡ a.list.more → GivenStand rows gs (one_given s (arg_view a.list.first) ∷ given_others s (more_args_view ms)) → GivenStand rows gs (given s (args_view a))
given_all rows s a ms gs e st = record { within = st.within; are = st.are ∙ ap (λ (xs : List (Member GenericArg)). map bare (one_given s (arg_view a.list.first) ∷ given_others s (more_args_view xs))) e ∙ sym (ap (λ v. map bare (given s v)) (args_are a)) }

pub given_told_all : (s : Site) (a : GenericArgs) (ms : List (Member GenericArg)) (f0 f : Option Fault) → ms ≡ a.list.more → f ≡ least f0 (all_given (one_given s (arg_view a.list.first) ∷ given_others s (more_args_view ms))) → f ≡ least f0 (all_given (given s (args_view a)))
given_told_all s a ms f0 f e told = told ∙ ap (λ (xs : List (Member GenericArg)). least f0 (all_given (one_given s (arg_view a.list.first) ∷ given_others s (more_args_view xs)))) e ∙ sym (ap (λ v. least f0 (all_given (given s v))) (args_are a))

-- A CONST GENERIC'S NAME

pub const_told : (s : Site) (k : ℕ) (ty : Ty) (t : PlainTy) (best : Option Fault) → type_view ty ≡ t → (number_given s t k).faults ≡ [] → best ≡ least best (number_given s (type_view ty) k).faults
const_told s k ty t best is none = least_none best ∙ ap (least best) (sym none) ∙ ap (λ x. least best (number_given s x k).faults) (sym is)

pub tuple_is_const : (s : Site) (k : ℕ) (t : TupleTy) → (number_given s (tuple_view t) k).faults ≡ []
tuple_is_const s k t = ap (λ x. (number_given s x k).faults) (tuple_is t)

further_are : (ms : List (Member GenericArg)) → further_args (more_args_view ms) ≡ map (λ m. arg_view m.value) ms
further_are [] = refl
further_are (m ∷ ms) = ap (λ (xs : List PlainArg). arg_view m.value ∷ xs) (further_are ms)

args_count : (a : GenericArgs) → length (args_of (args_view a)) ≡ length (values a.list)
args_count a =
    ap (λ v. length (args_of v)) (args_are a) ∙ ap (λ (xs : List PlainArg). suc (length xs)) (further_are a.list.more)
    ∙ ap suc (length-map a.list.more (λ m. arg_view m.value) ∙ sym (length-map a.list.more (λ m. m.value)))

pub const_miscounted : (s : Site) (k : ℕ) (ty : Ty) (p : Path) (o : Option GenericArgs) (a b : GenericArgs) (n : ℕ) (f0 f : Option Fault) → ty ≡ Named p o → o ≡ Some a → b ≡ a → n ≡ length (values b.list)
    → f ≡ kept f0 (miscounted s p 0 n) → f ≡ least f0 (number_given s (type_view ty) k).faults
const_miscounted s k ty p o a b n f0 f e some same count noted =
    noted ∙ least_one f0 (miscounted s p 0 n)
    ∙ ap (λ (m : ℕ). least f0 (miscounted s p 0 m ∷ [])) (count ∙ ap (λ (x : GenericArgs). length (values x.list)) same ∙ sym (args_count a))
    ∙ ap (λ x. least f0 (number_given s x k).faults) (sym (args_view_is ty p o a e some))

-- GENERICS AGAINST DECLARED ONES

pub fitted_args_is : (mid new : List Row) (s : Site) (p : Path) (ws : List Sort) (a : GenericArgs) (items gs : List Given) (n : Option ℕ) → GivenStand mid items (given s (args_view a)) → gs ≡ items
    → StandsIf new n (fitted_of ws (map (given_view mid) gs)) → StandsIf new n (fitted s p ws (given s (args_view a))).of
fitted_args_is mid new s p ws a items gs n g same st =
    let ds = given s (args_view a) in
    record { within = st.within; is = st.is ∙ ap (λ (xs : List Given). fitted_of ws (map (given_view mid) xs)) same ∙ ap (fitted_of ws) g.are ∙ bare_fitted ws ds ∙ sym (fitted_type s p ws ds) }

pub fitted_args_told : (mid : List Row) (s : Site) (p : Path) (ws : List Sort) (a : GenericArgs) (items gs : List Given) (n : ℕ) (f0 f1 f2 f3 : Option Fault) → n ≡ length (values a.list) → GivenStand mid items (given s (args_view a)) → gs ≡ items
    → f1 ≡ least f0 (early_fit s p (length ws) n) → f2 ≡ least f1 (all_given (given s (args_view a))) → f3 ≡ least f2 (late_fit s ws (map marks gs)) → f3 ≡ least f0 (fitted s p ws (given s (args_view a))).faults
fitted_args_told mid s p ws a items gs n f0 f1 f2 f3 count g same x y z =
    let ds = given s (args_view a) in
    fit_all s p ws ds f0 f1 f2 f3 (x ∙ ap (λ (k : ℕ). least f0 (early_fit s p (length ws) k)) (count ∙ sym (given_count s a))) y
    (z ∙ ap (λ (xs : List Given). least f2 (late_fit s ws (map marks xs))) same ∙ ap (least f2) (marks_late_fit mid s ws items ds g.are))

pub fitted_args_counted : (mid : List Row) (s : Site) (p : Path) (ws : List Sort) (a : GenericArgs) (items gs : List Given) (b : Bool) → GivenStand mid items (given s (args_view a)) → gs ≡ items → b ≡ (length ws == length gs) → b ≡ (fitted s p ws (given s (args_view a))).counted
fitted_args_counted mid s p ws a items gs b g same is =
    let ds = given s (args_view a) in
    is ∙ ap (λ (k : ℕ). length ws == k) (ap length same ∙ sym (length-map items (given_view mid)) ∙ ap length g.are ∙ length-map ds bare) ∙ sym (fitted_counted s p ws ds)

-- One member further in the loops over further types and over generics.
use Rattle.std.proofs.Common.{◌≡◌, ℕ, zero, suc, ◌+◌, ◌<◌, ◌≤◌, List, [], ◌∷◌, ◌++◌, length, map, take, drop, get_or, Option, Some, None, refl, sym, ap, ◌∙◌, arith}
use Rattle.std.proofs.lemmas.List.{drop_more, map_more, map-append, take_all}
use Rattle.lar_tree.specs.declared.commas.Member.{Member}
use Rattle.lar_tree.specs.declared.ty.Ty.{Ty}
use Rattle.lar_tree.specs.declared.ty.GenericArg.{GenericArg}
use Rattle.lar_tree.specs.TypeView.{type_view, arg_view, more_types_view, more_args_view}
use Rattle.type_table.specs.declared.row.Row.{Row}
use Rattle.type_table.specs.TypeOf.{TypeOf}
use Rattle.type_table.specs.Rows.{Keeps}
use Rattle.lar_rules.specs.Fault.{Fault, least}
use Rattle.lar_rules.specs.Written as rules
use Rattle.lar_rules.specs.Written.{Site, written, written_others, one_given, given_others, all_given}
use Rattle.lar_rules.proofs.Least.{least_append}
use Rattle.lar_written.specs.declared.given.Given.{Given}
use Rattle.lar_written.specs.Given.{given_view, bare, GivenStand, OneStands}
use Rattle.lar_written.specs.Standing.{number_type, Inside, AllInside, StandsIf, AllStand, others_of}
use Rattle.lar_written.proofs.Standings.{type_kept, inside_kept, all_inside_kept, all_stand_kept}

pub inside_more : (rows : List Row) (ns : List (Option ℕ)) (n : Option ℕ) → AllInside rows ns → Inside rows n → AllInside rows (ns ++ n ∷ [])
inside_more rows [] n h x = (x, tt)
inside_more rows (m ∷ ns) n h x = (h.0, inside_more rows ns n h.1 x)

others_are : (s : Site) (ms : List (Member Ty)) → others_of s (more_types_view ms) ≡ map (λ m. (written s (type_view m.value)).of) ms
others_are s [] = refl
others_are s (m ∷ ms) = ap (λ (ts : List (Option TypeOf)). (written s (type_view m.value)).of ∷ ts) (others_are s ms)

pub others_first : (rows : List Row) (s : Site) → AllStand rows [] (others_of s (more_types_view []))
others_first rows s = record { within = tt; are = refl }

pub others_further : (mid new : List Row) (s : Site) (ms : List (Member Ty)) (i : ℕ) (x : Member Ty) (out after : List (Option ℕ)) (n : Option ℕ) → Keeps mid new → x ≡ get_or ms i x → i < length ms
    → AllStand mid out (others_of s (more_types_view (take i ms))) → after ≡ out ++ n ∷ [] → StandsIf new n (written s (type_view x.value)).of
    → AllStand new after (others_of s (more_types_view (take (i + 1) ms)))
others_further mid new s ms i x out after n k at below so_far push st =
    let old = all_stand_kept mid new out _ k so_far in
    rw push (record {
      within = inside_more new out n old.within st.within;
      are = map-append (number_type new) out (n ∷ []) ∙ ap (λ (ts : List (Option TypeOf)). ts ++ number_type new n ∷ []) (old.are ∙ others_are s (take i ms))
          ∙ ap (λ (t : Option TypeOf). map (λ m. (written s (type_view m.value)).of) (take i ms) ++ t ∷ []) (st.is ∙ ap (λ (y : Member Ty). (written s (type_view y.value)).of) at)
          ∙ sym (others_are s (take (i + 1) ms) ∙ map_more (λ m. (written s (type_view m.value)).of) ms i x below);
    })

pub others_told : (s : Site) (ms : List (Member Ty)) (i : ℕ) (x : Member Ty) (before after start : Option Fault) → x ≡ get_or ms i x → i < length ms
    → least before (written_others s (more_types_view (drop i ms))).faults ≡ start → after ≡ least before (written s (type_view x.value)).faults
    → least after (written_others s (more_types_view (drop (i + 1) ms))).faults ≡ start
others_told s ms i x before after start at below so_far told =
    let rest = (written_others s (more_types_view (drop (i + 1) ms))).faults in
    let split : drop i ms ≡ x ∷ drop (i + 1) ms = drop_more ms i x below ∙ ap (λ (y : Member Ty). y ∷ drop (i + 1) ms) (sym at) in
    ap (λ (o : Option Fault). least o rest) told ∙ sym (least_append before (written s (type_view x.value)).faults rest)
    ∙ ap (λ (ys : List (Member Ty)). least before (written_others s (more_types_view ys)).faults) (sym split) ∙ so_far

drop_past : {A : Type 0} (xs : List A) (n : ℕ) → length xs ≤ n → drop n xs ≡ []
drop_past [] zero h = refl
drop_past [] (suc n) h = refl
drop_past (x ∷ xs) zero h = absurd (omega arith)
drop_past (x ∷ xs) (suc n) h = drop_past xs n (omega arith)

pub others_end : (rows : List Row) (s : Site) (ms : List (Member Ty)) (i : ℕ) (out : List (Option ℕ)) → length ms ≤ i → AllStand rows out (others_of s (more_types_view (take i ms))) → AllStand rows out (others_of s (more_types_view ms))
others_end rows s ms i out past st = record { within = st.within; are = st.are ∙ ap (λ (ys : List (Member Ty)). others_of s (more_types_view ys)) (take_all i ms past) }

pub others_all_told : (s : Site) (ms : List (Member Ty)) (i : ℕ) (best start : Option Fault) → length ms ≤ i → least best (written_others s (more_types_view (drop i ms))).faults ≡ start → best ≡ start
unfolding least
others_all_told s ms i best start past so_far = ap (λ (ys : List (Member Ty)). least best (written_others s (more_types_view ys)).faults) (sym (drop_past ms i past)) ∙ so_far

-- GENERICS

given_kept : (mid new : List Row) (gs : List Given) → Keeps mid new → AllInside mid (map (λ g. g.of) gs) → map (given_view new) gs ≡ map (given_view mid) gs
given_kept mid new [] k h = refl
given_kept mid new (g ∷ gs) k h =
    ap (λ (t : Option TypeOf). record { at = g.at; sort = g.sort; of = t; faults = [] } ∷ map (given_view new) gs) (type_kept mid new g.of k h.0)
    ∙ ap (λ (ds : List rules.Given). given_view mid g ∷ ds) (given_kept mid new gs k h.1)

pub given_stand_kept : (mid new : List Row) (gs : List Given) (ds : List rules.Given) → Keeps mid new → GivenStand mid gs ds → GivenStand new gs ds
given_stand_kept mid new gs ds k st = record { within = all_inside_kept mid new (map (λ g. g.of) gs) k st.within; are = given_kept mid new gs k st.within ∙ st.are }

given_more : (new : List Row) (gs : List Given) (ds : List rules.Given) (g : Given) (d : rules.Given) → GivenStand new gs ds → OneStands new g d → GivenStand new (gs ++ g ∷ []) (ds ++ d ∷ [])
given_more new gs ds g d st one = record {
  within = rw (map-append (λ g. g.of) gs (g ∷ [])) (inside_more new (map (λ g. g.of) gs) g.of st.within one.within);
  are = map-append (given_view new) gs (g ∷ []) ∙ ap (λ (xs : List rules.Given). xs ++ given_view new g ∷ []) st.are ∙ ap (λ (y : rules.Given). map bare ds ++ y ∷ []) one.is ∙ sym (map-append bare ds (d ∷ []));
}

pub given_are : (s : Site) (ms : List (Member GenericArg)) → given_others s (more_args_view ms) ≡ map (λ m. one_given s (arg_view m.value)) ms
given_are s [] = refl
given_are s (m ∷ ms) = ap (λ (ds : List rules.Given). one_given s (arg_view m.value) ∷ ds) (given_are s ms)

pub given_first : (rows : List Row) (gs : List Given) (g : Given) (d : rules.Given) → OneStands rows g d → gs ≡ g ∷ [] → GivenStand rows gs (d ∷ [])
given_first rows gs g d one is = rw is (record { within = (one.within, tt); are = ap (λ (y : rules.Given). y ∷ []) one.is })

pub given_further : (mid new : List Row) (s : Site) (d : rules.Given) (ms : List (Member GenericArg)) (i : ℕ) (x : Member GenericArg) (out after : List Given) (g : Given) → Keeps mid new → x ≡ get_or ms i x → i < length ms
    → GivenStand mid out (d ∷ given_others s (more_args_view (take i ms))) → after ≡ out ++ g ∷ [] → OneStands new g (one_given s (arg_view x.value))
    → GivenStand new after (d ∷ given_others s (more_args_view (take (i + 1) ms)))
given_further mid new s d ms i x out after g k at below so_far push one =
    let old = given_stand_kept mid new out _ k so_far in
    let e : given_others s (more_args_view (take (i + 1) ms)) ≡ given_others s (more_args_view (take i ms)) ++ one_given s (arg_view x.value) ∷ [] =
    given_are s (take (i + 1) ms) ∙ map_more (λ m. one_given s (arg_view m.value)) ms i x below
    ∙ ap (λ (ds : List rules.Given). ds ++ one_given s (arg_view (get_or ms i x).value) ∷ []) (sym (given_are s (take i ms)))
    ∙ ap (λ (y : Member GenericArg). given_others s (more_args_view (take i ms)) ++ one_given s (arg_view y.value) ∷ []) (sym at) in
    rw (push, e) (given_more new out (d ∷ given_others s (more_args_view (take i ms))) g (one_given s (arg_view x.value)) old one)

pub given_told : (s : Site) (ms : List (Member GenericArg)) (i : ℕ) (x : Member GenericArg) (before after start : Option Fault) → x ≡ get_or ms i x → i < length ms
    → least before (all_given (given_others s (more_args_view (drop i ms)))) ≡ start → after ≡ least before (one_given s (arg_view x.value)).faults
    → least after (all_given (given_others s (more_args_view (drop (i + 1) ms)))) ≡ start
given_told s ms i x before after start at below so_far told =
    let rest = all_given (given_others s (more_args_view (drop (i + 1) ms))) in
    let split : drop i ms ≡ x ∷ drop (i + 1) ms = drop_more ms i x below ∙ ap (λ (y : Member GenericArg). y ∷ drop (i + 1) ms) (sym at) in
    ap (λ (o : Option Fault). least o rest) told ∙ sym (least_append before (one_given s (arg_view x.value)).faults rest)
    ∙ ap (λ (ys : List (Member GenericArg)). least before (all_given (given_others s (more_args_view ys)))) (sym split) ∙ so_far

pub given_begun : (s : Site) (first : GenericArg) (ms : List (Member GenericArg)) (before after : Option Fault) → after ≡ least before (one_given s (arg_view first)).faults
    → least after (all_given (given_others s (more_args_view ms))) ≡ least before (all_given (one_given s (arg_view first) ∷ given_others s (more_args_view ms)))
given_begun s first ms before after told =
    ap (λ (o : Option Fault). least o (all_given (given_others s (more_args_view ms)))) told ∙ sym (least_append before (one_given s (arg_view first)).faults (all_given (given_others s (more_args_view ms))))

pub given_end : (rows : List Row) (s : Site) (d : rules.Given) (ms : List (Member GenericArg)) (i : ℕ) (out : List Given) → length ms ≤ i → GivenStand rows out (d ∷ given_others s (more_args_view (take i ms))) → GivenStand rows out (d ∷ given_others s (more_args_view ms))
given_end rows s d ms i out past st = record { within = st.within; are = st.are ∙ ap (λ (ys : List (Member GenericArg)). bare d ∷ map bare (given_others s (more_args_view ys))) (take_all i ms past) }

pub given_all_told : (s : Site) (ms : List (Member GenericArg)) (i : ℕ) (best start : Option Fault) → length ms ≤ i → least best (all_given (given_others s (more_args_view (drop i ms)))) ≡ start → best ≡ start
unfolding least
given_all_told s ms i best start past so_far = ap (λ (ys : List (Member GenericArg)). least best (all_given (given_others s (more_args_view ys)))) (sym (drop_past ms i past)) ∙ so_far

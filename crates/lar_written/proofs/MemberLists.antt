-- One field further in the loop over fields.
use Rattle.std.proofs.Common.{◌≡◌, ℕ, zero, suc, ◌+◌, ◌<◌, ◌≤◌, List, [], ◌∷◌, ◌++◌, length, map, take, drop, get_or, Option, Some, None, refl, sym, ap, ◌∙◌, arith}
use Rattle.std.proofs.lemmas.List.{drop_more, map_more, map-append, take_all}
use Rattle.lar_tree.specs.declared.commas.Member.{Member as Behind}
use Rattle.lar_tree.specs.declared.commas.Commas.{Commas}
use Rattle.lar_tree.specs.declared.item.Field.{Field}
use Rattle.lar_tree.specs.Commas.{commas_map, member_map}
use Rattle.lar_tree.specs.PlainLists.{values}
use Rattle.lar_tree.specs.Items.{PlainField}
use Rattle.lar_tree.specs.ItemView.{field_view}
use Rattle.type_table.specs.declared.row.Row.{Row}
use Rattle.type_table.specs.TypeOf.{TypeOf}
use Rattle.type_table.specs.Rows.{Keeps}
use Rattle.lar_rules.specs.Fault.{Fault, least}
use Rattle.lar_rules.specs.Signatures as rules
use Rattle.lar_rules.specs.Signatures.{member}
use Rattle.lar_rules.specs.Structs.{field_faults}
use Rattle.lar_rules.specs.Written.{Site, written}
use Rattle.lar_rules.proofs.Least.{least_append}
use Rattle.lar_written.specs.declared.members.Member.{Member}
use Rattle.lar_written.specs.Members.{member_view, MemberStands, MembersStand}
use Rattle.lar_written.specs.Standing.{number_type, Inside, AllInside}
use Rattle.lar_written.proofs.Standings.{type_kept, all_inside_kept}
use Rattle.lar_written.proofs.Loops.{inside_more}

-- the plain fields behind the first
abbrev pub behind : List (Behind Field) → List PlainField
behind ms = map (λ m. field_view m.value) ms

behind_values : (ms : List (Behind Field)) → map (λ m. m.value) (map (member_map field_view) ms) ≡ behind ms
behind_values [] = refl
behind_values (m ∷ ms) = ap (λ (fs : List PlainField). field_view m.value ∷ fs) (behind_values ms)

pub values_are : (c : Commas Field) → values (commas_map field_view c) ≡ field_view c.first ∷ behind c.more
values_are c = ap (λ (fs : List PlainField). field_view c.first ∷ fs) (behind_values c.more)

members_kept : (mid new : List Row) (ms : List Member) → Keeps mid new → AllInside mid (map (λ m. m.of) ms) → map (member_view new) ms ≡ map (member_view mid) ms
members_kept mid new [] k h = refl
members_kept mid new (m ∷ ms) k h =
    ap (λ (t : Option TypeOf). (m.name.now, t) ∷ map (member_view new) ms) (type_kept mid new m.of k h.0)
    ∙ ap (λ (ds : List rules.Member). member_view mid m ∷ ds) (members_kept mid new ms k h.1)

members_stand_kept : (mid new : List Row) (ms : List Member) (ds : List rules.Member) → Keeps mid new → MembersStand mid ms ds → MembersStand new ms ds
members_stand_kept mid new ms ds k st = record { within = all_inside_kept mid new (map (λ m. m.of) ms) k st.within; are = members_kept mid new ms k st.within ∙ st.are }

members_more : (new : List Row) (ms : List Member) (ds : List rules.Member) (m : Member) (d : rules.Member) → MembersStand new ms ds → MemberStands new m d → MembersStand new (ms ++ m ∷ []) (ds ++ d ∷ [])
members_more new ms ds m d st one = record {
  within = rw (map-append (λ x. x.of) ms (m ∷ [])) (inside_more new (map (λ x. x.of) ms) m.of st.within one.within);
  are = map-append (member_view new) ms (m ∷ []) ∙ ap (λ (xs : List rules.Member). xs ++ member_view new m ∷ []) st.are ∙ ap (λ (y : rules.Member). ds ++ y ∷ []) one.is;
}

pub member_first : (rows : List Row) (ms : List Member) (m : Member) (d : rules.Member) → MemberStands rows m d → ms ≡ m ∷ [] → MembersStand rows ms (d ∷ [])
member_first rows ms m d one is = rw is (record { within = (one.within, tt); are = ap (λ (y : rules.Member). y ∷ []) one.is })

pub member_further : (mid new : List Row) (s : Site) (first : PlainField) (fs : List (Behind Field)) (i : ℕ) (x : Behind Field) (out after : List Member) (m : Member) → Keeps mid new → x ≡ get_or fs i x → i < length fs
    → MembersStand mid out (map (member s) (first ∷ behind (take i fs))) → after ≡ out ++ m ∷ [] → MemberStands new m (member s (field_view x.value))
    → MembersStand new after (map (member s) (first ∷ behind (take (i + 1) fs)))
member_further mid new s first fs i x out after m k at below so_far push one =
    let old = members_stand_kept mid new out (map (member s) (first ∷ behind (take i fs))) k so_far in
    let next : behind (take (i + 1) fs) ≡ behind (take i fs) ++ field_view x.value ∷ [] =
    map_more (λ y. field_view y.value) fs i x below ∙ ap (λ (y : Behind Field). behind (take i fs) ++ field_view y.value ∷ []) (sym at) in
    let e : map (member s) (first ∷ behind (take (i + 1) fs)) ≡ map (member s) (first ∷ behind (take i fs)) ++ member s (field_view x.value) ∷ [] =
    ap (λ (ys : List PlainField). map (member s) (first ∷ ys)) next ∙ map-append (member s) (first ∷ behind (take i fs)) (field_view x.value ∷ []) in
    rw (push, e) (members_more new out (map (member s) (first ∷ behind (take i fs))) m (member s (field_view x.value)) old one)

pub member_begun : (s : Site) (f : Field) (fs : List (Behind Field)) (before after : Option Fault) → after ≡ least before (written s (field_view f).2).faults
    → least after (field_faults s (behind fs)) ≡ least before (field_faults s (field_view f ∷ behind fs))
member_begun s f fs before after told = ap (λ (o : Option Fault). least o (field_faults s (behind fs))) told ∙ sym (least_append before (written s (field_view f).2).faults (field_faults s (behind fs)))

pub member_told : (s : Site) (fs : List (Behind Field)) (i : ℕ) (x : Behind Field) (before after start : Option Fault) → x ≡ get_or fs i x → i < length fs
    → least before (field_faults s (behind (drop i fs))) ≡ start → after ≡ least before (written s (field_view x.value).2).faults → least after (field_faults s (behind (drop (i + 1) fs))) ≡ start
member_told s fs i x before after start at below so_far told =
    let rest = field_faults s (behind (drop (i + 1) fs)) in
    let split : drop i fs ≡ x ∷ drop (i + 1) fs = drop_more fs i x below ∙ ap (λ (y : Behind Field). y ∷ drop (i + 1) fs) (sym at) in
    ap (λ (o : Option Fault). least o rest) told ∙ sym (least_append before (written s (field_view x.value).2).faults rest)
    ∙ ap (λ (ys : List (Behind Field)). least before (field_faults s (behind ys))) (sym split) ∙ so_far

drop_past : {A : Type 0} (xs : List A) (n : ℕ) → length xs ≤ n → drop n xs ≡ []
drop_past [] zero h = refl
drop_past [] (suc n) h = refl
drop_past (x ∷ xs) zero h = absurd (omega arith)
drop_past (x ∷ xs) (suc n) h = drop_past xs n (omega arith)

pub members_end : (rows : List Row) (s : Site) (c : Commas Field) (fs : List (Behind Field)) (i : ℕ) (out : List Member) → fs ≡ c.more → length fs ≤ i → MembersStand rows out (map (member s) (field_view c.first ∷ behind (take i fs)))
    → MembersStand rows out (map (member s) (values (commas_map field_view c)))
members_end rows s c fs i out e past st = record {
  within = st.within;
  are = st.are ∙ ap (λ (ys : List (Behind Field)). map (member s) (field_view c.first ∷ behind ys)) (take_all i fs past ∙ e) ∙ sym (ap (map (member s)) (values_are c));
}

pub members_told : (s : Site) (c : Commas Field) (fs : List (Behind Field)) (i : ℕ) (f0 f : Option Fault) → fs ≡ c.more → length fs ≤ i → least f (field_faults s (behind (drop i fs))) ≡ least f0 (field_faults s (field_view c.first ∷ behind fs))
    → f ≡ least f0 (field_faults s (values (commas_map field_view c)))
unfolding least
members_told s c fs i f0 f e past so_far =
    ap (λ (ys : List (Behind Field)). least f (field_faults s (behind ys))) (sym (drop_past fs i past)) ∙ so_far
    ∙ ap (λ (ys : List (Behind Field)). least f0 (field_faults s (field_view c.first ∷ behind ys))) e ∙ sym (ap (λ (ys : List PlainField). least f0 (field_faults s ys)) (values_are c))

-- the names of the fields
behind_names : (ms : List (Behind Field)) → map (λ (f : Field). f.name) (map (λ m. m.value) ms) ≡ map (λ (f : PlainField). f.0) (behind ms)
behind_names [] = refl
behind_names (m ∷ ms) = ap (λ ns. (m.value).name ∷ ns) (behind_names ms)

pub names_in : (c : Commas Field) → map (λ (f : Field). f.name) (values c) ≡ map (λ (f : PlainField). f.0) (values (commas_map field_view c))
names_in c = ap (λ ns. (c.first).name ∷ ns) (behind_names c.more) ∙ sym (ap (map (λ (f : PlainField). f.0)) (values_are c))

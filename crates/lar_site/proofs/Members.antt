-- Members of a declaration, with the generics of a use in place of its own.
use Rattle.std.proofs.Common.{◌≡◌, ℕ, zero, suc, ◌+◌, ◌<◌, ◌≤◌, List, [], ◌∷◌, ◌++◌, length, map, take, get_or, Option, Some, None, refl, sym, ap, ◌∙◌, subst, arith}
use Rattle.std.proofs.lemmas.List.{map_more, map-append, take_all}
use Rattle.type_table.specs.declared.row.Row.{Row}
use Rattle.type_table.specs.TypeOf.{TypeOf}
use Rattle.type_table.specs.Rows.{Keeps}
use Rattle.lar_rules.specs.Signatures as rules
use Rattle.lar_rules.specs.Judged.{under}
use Rattle.lar_written.specs.declared.members.Member.{Member}
use Rattle.lar_written.specs.Members.{member_view, MembersStand}
use Rattle.lar_written.specs.Standing.{number_type, Inside, AllInside, StandsIf}
use Rattle.lar_judge.specs.Known.{type_if, IfWithin}
use Rattle.lar_judge.specs.Wanted.{types_if, AllIfWithin, wanted_types}
use Rattle.lar_judge.proofs.Kept.{type_kept, type_within_kept}
use Rattle.lar_site.specs.Under.{members_under}

pub type_is : (rows : List Row) (n : Option ℕ) → type_if rows n ≡ number_type rows n
type_is rows None = refl
type_is rows (Some n) = refl

pub if_inside : (rows : List Row) (n : Option ℕ) → Inside rows n → IfWithin rows n
if_inside rows None h = tt
if_inside rows (Some n) h = h

pub standing_type : (rows : List Row) (n : Option ℕ) (t : Option TypeOf) → StandsIf rows n t → type_if rows n ≡ t
standing_type rows n t st = type_is rows n ∙ st.is

pub standing_within : (rows : List Row) (n : Option ℕ) (t : Option TypeOf) → StandsIf rows n t → IfWithin rows n
standing_within rows n t st = if_inside rows n st.within

pub member_inside : (rows : List Row) (ms : List Member) (i : ℕ) (x : Member) → AllInside rows (map (λ m. m.of) ms) → x ≡ get_or ms i x → i < length ms → IfWithin rows x.of
member_inside rows [] i x h at below = absurd (omega arith)
member_inside rows (m ∷ ms) zero x h at below = subst (λ (y : Member). IfWithin rows y.of) (sym at) (if_inside rows m.of h.0)
member_inside rows (m ∷ ms) (suc i) x h at below = member_inside rows ms i x h.1 at (omega arith)

pub all_within_kept : (old new : List Row) (ns : List (Option ℕ)) → Keeps old new → AllIfWithin old ns → AllIfWithin new ns
all_within_kept old new [] k h = tt
all_within_kept old new (n ∷ ns) k h = (type_within_kept old new n k h.0, all_within_kept old new ns k h.1)

pub all_types_kept : (old new : List Row) (ns : List (Option ℕ)) → Keeps old new → AllIfWithin old ns → types_if new ns ≡ types_if old ns
all_types_kept old new [] k h = refl
all_types_kept old new (n ∷ ns) k h =
    ap (λ (t : Option TypeOf). t ∷ types_if new ns) (type_kept old new n k h.0) ∙ ap (λ (ts : List (Option TypeOf)). type_if old n ∷ ts) (all_types_kept old new ns k h.1)

within_more : (rows : List Row) (ns : List (Option ℕ)) (n : Option ℕ) → AllIfWithin rows ns → IfWithin rows n → AllIfWithin rows (ns ++ n ∷ [])
within_more rows [] n h one = (one, tt)
within_more rows (m ∷ ns) n h one = (h.0, within_more rows ns n h.1 one)

pub under_within : (mid new : List Row) (out after : List (Option ℕ)) (r : Option ℕ) → Keeps mid new → AllIfWithin mid out → after ≡ out ++ r ∷ [] → IfWithin new r → AllIfWithin new after
under_within mid new out after r k h push one = rw push (within_more new out r (all_within_kept mid new out k h) one)

-- one member further
pub under_further : (old mid new : List Row) (gs : Option ℕ) (ms : List Member) (i : ℕ) (x : Member) (out after : List (Option ℕ)) (r : Option ℕ) → Keeps old mid → Keeps mid new → IfWithin old gs → AllInside old (map (λ m. m.of) ms)
    → x ≡ get_or ms i x → i < length ms → AllIfWithin mid out → types_if mid out ≡ members_under old (type_if old gs) (take i ms) → after ≡ out ++ r ∷ []
    → type_if new r ≡ under (type_if mid gs) (type_if mid x.of) → types_if new after ≡ members_under old (type_if old gs) (take (i + 1) ms)
under_further old mid new gs ms i x out after r k l g h at below inside so_far push is =
    let one : Member → Option TypeOf = λ m. under (type_if old gs) (type_if old m.of) in
    let here : type_if new r ≡ one x =
    is ∙ ap (λ (t : Option TypeOf). under t (type_if mid x.of)) (type_kept old mid gs k g) ∙ ap (under (type_if old gs)) (type_kept old mid x.of k (member_inside old ms i x h at below)) in
    ap (types_if new) push ∙ map-append (type_if new) out (r ∷ [])
    ∙ ap (λ (ts : List (Option TypeOf)). ts ++ type_if new r ∷ []) (all_types_kept mid new out l inside ∙ so_far)
    ∙ ap (λ (t : Option TypeOf). members_under old (type_if old gs) (take i ms) ++ t ∷ []) (here ∙ ap one at)
    ∙ sym (map_more one ms i x below)

pub under_end : (old new : List Row) (gs : Option TypeOf) (ms : List Member) (i : ℕ) (out : List (Option ℕ)) → length ms ≤ i → types_if new out ≡ members_under old gs (take i ms) → types_if new out ≡ members_under old gs ms
under_end old new gs ms i out past e = e ∙ ap (members_under old gs) (take_all i ms past)

wanted_seen : (rows : List Row) (gs : Option TypeOf) (ms : List Member) → members_under rows gs ms ≡ wanted_types gs (map (member_view rows) ms)
wanted_seen rows gs [] = refl
wanted_seen rows gs (m ∷ ms) =
    ap (λ (t : Option TypeOf). under gs t ∷ members_under rows gs ms) (type_is rows m.of) ∙ ap (λ (ts : List (Option TypeOf)). under gs (number_type rows m.of) ∷ ts) (wanted_seen rows gs ms)

-- the types that are wanted of what is given for the members
pub wanted_of_members : (rows : List Row) (gs : Option TypeOf) (ms : List Member) (ds : List rules.Member) → MembersStand rows ms ds → members_under rows gs ms ≡ wanted_types gs ds
wanted_of_members rows gs ms ds st = wanted_seen rows gs ms ∙ ap (wanted_types gs) st.are

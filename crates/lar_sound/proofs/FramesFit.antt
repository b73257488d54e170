-- What a frame that fits gives: sorts of structs, fields and parameters by their places.
use Rattle.std.proofs.Common.{◌≡◌, ℕ, zero, suc, ◌+◌, refl, sym, ap, ◌∙◌, arith, Bool, true, false, if◌then◌else◌, List, [], ◌∷◌, length, map, slice_get, Option, Some, None, option_map, bytes_eq}
use Rattle.std.proofs.lemmas.Option.{slice_get-map}
use Rattle.type_table.specs.TypeOf.{TypeOf, more}
use Rattle.type_table.specs.Substitution.{subst, argument}
use Rattle.type_table.specs.declared.sort.Sort.{Sort}
use Rattle.type_table.specs.declared.sort.Sort.TheVariants.{Ty as of_type}
use Rattle.lar_typed.specs.SameType.{list_of}
use Rattle.lar_typed.specs.Trees.{PlainStruct}
use Rattle.lar_typed.specs.Lawful.{Signature, Frame, type_generics, struct_sorts}
use Rattle.lar_tree.specs.declared.name.Name.{Name}
use Rattle.lar_tree.specs.declared.item.Angled.{Angled}
use Rattle.lar_tree.specs.PlainLists.{values}
use Rattle.lar_tree.specs.Stmts.{IfThere}
use Rattle.lar_rules.specs.Declared.{Declared, Struct, struct_meant}
use Rattle.lar_rules.specs.Generics.{GenericName, struct_generics}
use Rattle.lar_rules.specs.Written.{Site, struct_sorts as declared_sorts}
use Rattle.lar_rules.specs.Signatures.{Member}
use Rattle.lar_rules.specs.Judged.{Env}
use Rattle.lar_rules.specs.Exprs.{member_from, member_named}
use Rattle.lar_rules.specs.Checked.{then_known, all_known}
use Rattle.lar_sound.specs.Frames.{IsStructIn, IsFunctionIn, AreItemsIn, IsFrameOf, AreSortsOf}
use Rattle.lar_sound.proofs.Known.{some_same, none_some}
use Rattle.lar_sound.proofs.ItemsMeant.{struct_meant_holds}

-- SORTS

abbrev named_types : List Name → List GenericName
named_types ns = map (λ n. record { name = n; sort = of_type }) ns

all_types : (ns : List Name) → map (λ g. g.sort) (named_types ns) ≡ type_generics (length (named_types ns))
all_types [] = refl
all_types (n ∷ ns) = ap (λ (ss : List Sort). of_type ∷ ss) (all_types ns)

pub struct_sorts_are : (o : Option (Angled Name))
    → map (λ g. g.sort) (struct_generics o) ≡ type_generics (length (struct_generics o))
struct_sorts_are None = refl
struct_sorts_are (Some a) = all_types (values a.list)

pub sorts_there : (structs : List PlainStruct) (all : List Declared) (x : Struct) → IsStructIn structs all x
    → slice_get (struct_sorts structs) x.number ≡ Some (declared_sorts x)
sorts_there structs all x s =
    slice_get-map (λ s. type_generics s.generics) structs x.number
    ∙ ap (option_map (λ s. type_generics s.generics)) s.there
    ∙ ap (λ (n : ℕ). Some (type_generics n)) s.generics
    ∙ ap (λ (ss : List Sort). Some ss) (sym (struct_sorts_are x.it.generics))

if_sorts : (structs : List PlainStruct) (all : List Declared) (o : Option Struct) → IfThere (IsStructIn structs all) o
    → IfThere (λ (x : Struct). slice_get (struct_sorts structs) x.number ≡ Some (declared_sorts x)) o
if_sorts structs all None h = tt
if_sorts structs all (Some x) h = sorts_there structs all x h

pub site_sorts : (structs : List PlainStruct) (functions : List Signature) (consts : ℕ) (s : Site) (gens : List Sort)
    → AreItemsIn structs functions consts s.all → map (λ g. g.sort) s.generics ≡ gens
    → AreSortsOf (struct_sorts structs) gens s
site_sorts structs functions consts s gens h e = record {
  structs_there =
      λ here p. if_sorts structs s.all (struct_meant s.all here p)
      (struct_meant_holds (IsStructIn structs s.all) (IsFunctionIn functions s.all) _ s.all here p h);
  same_generics = e;
}

pub sorts_of : (fr : Frame) (env : Env) → IsFrameOf fr env → AreSortsOf (struct_sorts fr.structs) fr.generics env.site
sorts_of fr env f = site_sorts fr.structs fr.functions fr.consts env.site fr.generics f.items f.generics

-- KNOWN LISTS

pub record KnownParts (o : Option TypeOf) (r : Option (List TypeOf)) (ts : List TypeOf) : Type 0 where
  pub first : TypeOf
  pub others : List TypeOf
  pub first_is : o ≡ Some first
  pub others_are : r ≡ Some others
  pub are : first ∷ others ≡ ts

pub known_parts : (o : Option TypeOf) (r : Option (List TypeOf)) (ts : List TypeOf) → then_known o r ≡ Some ts
    → KnownParts o r ts
known_parts None r ts e = absurd (none_some ts e)
known_parts (Some t) None ts e = absurd (none_some ts e)
known_parts (Some t) (Some us) ts e =
    record { first = t; others = us; first_is = refl; others_are = refl; are = some_same (t ∷ us) ts e }

pub known_at : (os : List (Option TypeOf)) (ts : List TypeOf) (i : ℕ) (o : Option TypeOf) → all_known os ≡ Some ts
    → slice_get os i ≡ Some o → slice_get ts i ≡ o
known_at [] ts i o e h = absurd (none_some o h)
known_at (x ∷ xs) ts zero o e h =
    let p = known_parts x (all_known xs) ts e in
    ap (λ (us : List TypeOf). slice_get us 0) (sym p.are) ∙ sym p.first_is ∙ some_same x o h
known_at (x ∷ xs) ts (suc i) o e h =
    let p = known_parts x (all_known xs) ts e in
    ap (λ (us : List TypeOf). slice_get us (suc i)) (sym p.are) ∙ known_at xs p.others i o p.others_are h

pub known_length : (os : List (Option TypeOf)) (ts : List TypeOf) → all_known os ≡ Some ts → length ts ≡ length os
known_length [] ts e = ap (λ (us : List TypeOf). length us) (sym (some_same [] ts e))
known_length (x ∷ xs) ts e =
    let p = known_parts x (all_known xs) ts e in
    ap (λ (us : List TypeOf). length us) (sym p.are) ∙ ap suc (known_length xs p.others p.others_are)

-- LISTS AS TYPES

pub argument_list : (ts : List TypeOf) (k : ℕ) → argument (list_of ts) k ≡ slice_get ts k
argument_list [] k = refl
argument_list (t ∷ ts) zero = refl
argument_list (t ∷ ts) (suc k) = argument_list ts k

pub subst_list : (gs : TypeOf) (ts : List TypeOf) → subst gs (list_of ts) ≡ list_of (map (subst gs) ts)
subst_list gs [] = refl
subst_list gs (t ∷ ts) = ap (more (subst gs t)) (subst_list gs ts)

pub argument_subst : (gs : TypeOf) (ts : List TypeOf) (k : ℕ)
    → argument (subst gs (list_of ts)) k ≡ option_map (subst gs) (slice_get ts k)
argument_subst gs ts k = ap (λ (t : TypeOf). argument t k) (subst_list gs ts) ∙ argument_list (map (subst gs) ts) k
    ∙ slice_get-map (subst gs) ts k

-- MEMBERS BY NAME

abbrev types : List Member → List (Option TypeOf)
types ms = map (λ m. m.1) ms

abbrev pub Counted : List Member → ℕ → ℕ × Option TypeOf → Type 0
Counted ms k m = (i : ℕ) × (m.0 ≡ k + i) × (slice_get (map (λ m. m.1) ms) i ≡ Some m.1)

one_counted : (b : Bool) (m : Member) (ms : List Member) (k : ℕ) (o : Option (ℕ × Option TypeOf))
    → IfThere (Counted ms (suc k)) o → IfThere (Counted (m ∷ ms) k) (if b then Some (k, m.1) else o)
one_counted true m ms k o h = (0, omega arith, refl)
one_counted false m ms k None h = tt
one_counted false m ms k (Some p) h = (suc h.0, h.1 ∙ omega arith, h.2)

member_counted : (k : ℕ) (name : List ℕ) (ms : List Member) → IfThere (Counted ms k) (member_from k name ms)
member_counted k name [] = tt
member_counted k name (m ∷ ms) =
    one_counted (bytes_eq (m.0).text name) m ms k (member_from (suc k) name ms) (member_counted (suc k) name ms)

abbrev pub MemberAt : List Member → ℕ × Option TypeOf → Type 0
MemberAt ms m = slice_get (map (λ m. m.1) ms) m.0 ≡ Some m.1

from_start : (ms : List Member) (o : Option (ℕ × Option TypeOf)) → IfThere (Counted ms 0) o → IfThere (MemberAt ms) o
from_start ms None h = tt
from_start ms (Some m) h =
    let e : m.0 ≡ h.0 = h.1 ∙ omega arith in
    ap (slice_get (types ms)) e ∙ h.2

pub member_at : (name : List ℕ) (ms : List Member) → IfThere (MemberAt ms) (member_named name ms)
member_at name ms = from_start ms (member_named name ms) (member_counted 0 name ms)

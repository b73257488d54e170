-- Tokens of a part are tokens of the whole; names that are written stand at their tokens.
use Rattle.std.proofs.Common.{◌≡◌, ℕ, refl, inl, inr, Bool, true, false, if◌then◌else◌, List, [], ◌∷◌, ◌++◌, map, Option, Some, None}
use Rattle.lar_source.specs.declared.file.Span.{Span}
use Rattle.lar_source.specs.declared.code.Code.{Code}
use Rattle.lar_tree.specs.declared.token.Token.{Token}
use Rattle.lar_tree.specs.declared.commas.Commas.{Commas}
use Rattle.lar_tree.specs.declared.commas.Member.{Member}
use Rattle.lar_tree.specs.declared.name.Name.{Name}
use Rattle.lar_tree.specs.Commas.{flat_members, flat_commas}
use Rattle.lar_tree.specs.Spelling.{flat_option}
use Rattle.lar_tree.specs.PlainLists.{values}
use Rattle.lar_tree.specs.Lawful.{Every}
use Rattle.lar_rules.specs.Fault.{Fault, fault}
use Rattle.lar_rules.specs.Signatures.{list_in}
use Rattle.lar_rules.specs.Twice.{twice, is_among, repeated}
use Rattle.lar_sound.proofs.EachOf.{every_join}
use Rattle.fault_order.specs.Places.{HasPlace, is_limit, StandsIn}

-- the first tokens are among the second
pub record Into (xs ts : List Token) : Type 0 where
  pub into : (at : Span) → HasPlace xs at → HasPlace ts at

left : (xs ys : List Token) (at : Span) → HasPlace xs at → HasPlace (xs ++ ys) at
left [] ys at h = absurd h
left (x ∷ xs) ys at h = elim h [ inl e ↦ inl e | inr k ↦ inr (left xs ys at k) ]

right : (xs ys : List Token) (at : Span) → HasPlace ys at → HasPlace (xs ++ ys) at
right [] ys at h = h
right (x ∷ xs) ys at h = inr (right xs ys at h)

pub into_self : (xs : List Token) → Into xs xs
into_self xs = record { into = λ at h. h }

pub into_left : (xs ys ts : List Token) → Into (xs ++ ys) ts → Into xs ts
into_left xs ys ts i = record { into = λ at h. i.into at (left xs ys at h) }

pub into_right : (xs ys ts : List Token) → Into (xs ++ ys) ts → Into ys ts
into_right xs ys ts i = record { into = λ at h. i.into at (right xs ys at h) }

pub into_tail : (x : Token) (xs ts : List Token) → Into (x ∷ xs) ts → Into xs ts
into_tail x xs ts i = record { into = λ at h. i.into at (inr h) }

pub into_head : (x : Token) (xs ts : List Token) → Into (x ∷ xs) ts → HasPlace ts x.span
into_head x xs ts i = i.into x.span (inl refl)

-- FAULTS

abbrev pub AllIn : ℕ → List Token → List Fault → Type 0
AllIn file ts fs = Every (StandsIn file ts) fs

pub stands : (file : ℕ) (ts : List Token) (at : Span) (code : Code) (args : List (List ℕ)) → HasPlace ts at
    → is_limit code ≡ false → StandsIn file ts (fault file at code args)
stands file ts at code args h o = record { at = at; code = code; args = args; is = refl; there = h; other = o }

pub join : (file : ℕ) (ts : List Token) (xs ys : List Fault) → AllIn file ts xs → AllIn file ts ys
    → AllIn file ts (xs ++ ys)
join file ts xs ys h k = every_join (StandsIn file ts) xs ys h k

pub unless : (file : ℕ) (ts : List Token) (b : Bool) (f : Fault) → StandsIn file ts f
    → AllIn file ts (if b then [] else f ∷ [])
unless file ts true f h = tt
unless file ts false f h = (h, tt)

pub when : (file : ℕ) (ts : List Token) (b : Bool) (f : Fault) → StandsIn file ts f
    → AllIn file ts (if b then f ∷ [] else [])
when file ts true f h = (h, tt)
when file ts false f h = tt

-- LISTS

pub every_of_map : {A B : Type 0} (P : B → Type 0) (f : A → B) (xs : List A) → Every (λ (x : A). P (f x)) xs
    → Every P (map f xs)
every_of_map P f [] h = tt
every_of_map P f (x ∷ xs) h = (h.0, every_of_map P f xs h.1)

members_in : {A : Type 0} (flat : A → List Token) (P : A → Type 0) (ts : List Token)
    → ((x : A) → Into (flat x) ts → P x) → (ms : List (Member A)) → Into (flat_members flat ms) ts
    → Every P (map (λ m. m.value) ms)
members_in flat P ts f [] i = tt
members_in flat P ts f (m ∷ ms) i =
    let j = into_tail _ (flat m.value ++ flat_members flat ms) ts i in (
      f m.value (into_left (flat m.value) (flat_members flat ms) ts j),
      members_in flat P ts f ms (into_right (flat m.value) (flat_members flat ms) ts j),
    )

pub values_in : {A : Type 0} (flat : A → List Token) (P : A → Type 0) (ts : List Token)
    → ((x : A) → Into (flat x) ts → P x) → (c : Commas A) → Into (flat_commas flat c) ts → Every P (values c)
values_in flat P ts f c i = (
  f c.first (into_left (flat c.first) (flat_members flat c.more) ts i),
  members_in flat P ts f c.more (into_right (flat c.first) (flat_members flat c.more) ts i),
)

pub list_values_in : {A : Type 0} (flat : A → List Token) (P : A → Type 0) (ts : List Token)
    → ((x : A) → Into (flat x) ts → P x) → (o : Option (Commas A)) → Into (flat_option (flat_commas flat) o) ts
    → Every P (list_in o)
list_values_in flat P ts f None i = tt
list_values_in flat P ts f (Some c) i = values_in flat P ts f c i

-- names that are written twice
pub repeated_in : (file : ℕ) (ts : List Token) (earlier ns : List Name) → Every (λ (n : Name). HasPlace ts n.span) ns
    → AllIn file ts (repeated file earlier ns)
repeated_in file ts earlier [] h = tt
repeated_in file ts earlier (n ∷ ns) h =
    join file ts (if is_among earlier n.text then twice file n ∷ [] else []) (repeated file (earlier ++ n ∷ []) ns)
    (when file ts (is_among earlier n.text) (twice file n) (stands file ts n.span _ (n.text ∷ []) h.0 refl))
    (repeated_in file ts (earlier ++ n ∷ []) ns h.1)

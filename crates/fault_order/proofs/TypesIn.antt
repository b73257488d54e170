-- The faults of a written type stand at its tokens.
use Rattle.std.proofs.Common.{ℕ, refl, inl, Bool, true, false, if◌then◌else◌, List, [], ◌∷◌, ◌++◌, Option, Some, None}
use Rattle.lar_source.specs.declared.file.Span.{Span}
use Rattle.type_table.specs.declared.sort.Sort.{Sort}
use Rattle.type_table.specs.Lawful.{same_sort}
use Rattle.lar_tree.specs.declared.token.Token.{Token}
use Rattle.lar_tree.specs.declared.name.Path.{Path}
use Rattle.lar_tree.specs.declared.ty.SignedNumber.{SignedNumber}
use Rattle.lar_tree.specs.Spelling.{flat_path, flat_segments, flat_minus, name_token, number_token}
use Rattle.lar_tree.specs.Firsts.{type_start}
use Rattle.lar_tree.specs.Lawful.{Every}
use Rattle.lar_tree.specs.Types.{PlainTy, int_type, bool_type, unit_type, tuple_type, named_type, generic_type, MoreTypes, last_type, next_type, PlainArgs, angle_args, PlainArg, type_arg, number_arg, MoreArgs, last_arg, next_arg, flat_type, flat_types, flat_args, flat_arg, flat_more_args}
use Rattle.lar_rules.specs.Fault.{Fault}
use Rattle.lar_rules.specs.Written.{Site, Written, Given, all_given, missorted, Fitted, fitted, TypeName, a_generic, a_struct_type, no_type, type_named, struct_sorts, named, signed_start, const_generic, number_given, type_given, written, written_others, given, given_others, one_given}
use Rattle.lar_sound.proofs.FittedBy.{fitted_holds}
use Rattle.fault_order.specs.Places.{HasPlace, StandsIn}
use Rattle.fault_order.proofs.PlacesIn.{Into, into_left, into_right, into_tail, into_head, AllIn, stands, join}

pub record GivenIn (file : ℕ) (ts : List Token) (g : Given) : Type 0 where
  pub at : HasPlace ts g.at
  pub faults : AllIn file ts g.faults

pub all_given_in : (file : ℕ) (ts : List Token) (gs : List Given) → Every (GivenIn file ts) gs
    → AllIn file ts (all_given gs)
all_given_in file ts [] h = tt
all_given_in file ts (g ∷ gs) h = join file ts g.faults (all_given gs) (h.0).faults (all_given_in file ts gs h.1)

sorted_in : (file : ℕ) (ts : List Token) (b : Bool) (f : Fault) (fs : List Fault) → StandsIn file ts f
    → AllIn file ts fs → AllIn file ts (if b then fs else f ∷ fs)
sorted_in file ts true f fs h k = k
sorted_in file ts false f fs h k = (h, k)

missorted_in : (s : Site) (ts : List Token) (ws : List Sort) (gs : List Given) → Every (GivenIn s.file ts) gs
    → AllIn s.file ts (missorted s ws gs)
missorted_in s ts [] gs h = tt
missorted_in s ts (w ∷ ws) [] h = tt
missorted_in s ts (w ∷ ws) (g ∷ gs) h =
    sorted_in s.file ts (same_sort w g.sort) _ (missorted s ws gs) (stands s.file ts g.at _ _ (h.0).at refl)
    (missorted_in s ts ws gs h.1)

pub fitted_in : (s : Site) (ts : List Token) (p : Path) (ws : List Sort) (gs : List Given) → HasPlace ts p.first.span
    → Every (GivenIn s.file ts) gs → AllIn s.file ts (fitted s p ws gs).faults
fitted_in s ts p ws gs at h =
    fitted_holds (λ (f : Fitted). AllIn s.file ts f.faults) s p ws gs
    (λ e. join s.file ts (all_given gs) (missorted s ws gs) (all_given_in s.file ts gs h)
    (missorted_in s ts ws gs h))
    (stands s.file ts p.first.span _ _ at refl, all_given_in s.file ts gs h)

named_in : (s : Site) (ts : List Token) (p : Path) (n : TypeName) (gs : List Given) → HasPlace ts p.first.span
    → Every (GivenIn s.file ts) gs → AllIn s.file ts (named s p n gs).faults
named_in s ts p no_type gs at h = (stands s.file ts p.first.span _ _ at refl, all_given_in s.file ts gs h)
named_in s ts p (a_generic k) [] at h = tt
named_in s ts p (a_generic k) (g ∷ gs) at h =
    (stands s.file ts p.first.span _ _ at refl, all_given_in s.file ts (g ∷ gs) h)
named_in s ts p (a_struct_type x) gs at h = fitted_in s ts p (struct_sorts x) gs at h

pub path_start : (p : Path) (ts : List Token) → Into (flat_path p) ts → HasPlace ts p.first.span
path_start p ts i = into_head (name_token p.first) (flat_segments p.more) ts i

type_begins : (t : PlainTy) → HasPlace (flat_type t) (type_start t)
type_begins (int_type at) = inl refl
type_begins (bool_type at) = inl refl
type_begins (unit_type from to) = inl refl
type_begins (tuple_type from first comma second others to) = inl refl
type_begins (named_type p) = inl refl
type_begins (generic_type p args) = inl refl

number_given_in : (s : Site) (ts : List Token) (t : PlainTy) (k : ℕ) → HasPlace ts (type_start t)
    → GivenIn s.file ts (number_given s t k)
number_given_in s ts (generic_type p args) k h =
    record { at = h; faults = (stands s.file ts p.first.span _ _ h refl, tt) }
number_given_in s ts (int_type at) k h = record { at = h; faults = tt }
number_given_in s ts (bool_type at) k h = record { at = h; faults = tt }
number_given_in s ts (unit_type from to) k h = record { at = h; faults = tt }
number_given_in s ts (tuple_type from first comma second others to) k h = record { at = h; faults = tt }
number_given_in s ts (named_type p) k h = record { at = h; faults = tt }

type_given_in : (s : Site) (ts : List Token) (t : PlainTy) (o : Option ℕ) (w : Written) → HasPlace ts (type_start t)
    → AllIn s.file ts w.faults → GivenIn s.file ts (type_given s t o w)
type_given_in s ts t None w h k = record { at = h; faults = k }
type_given_in s ts t (Some n) w h k = number_given_in s ts t n h

signed_in : (n : SignedNumber) (o : Option Span)
    → HasPlace (flat_minus o ++ number_token n.value n.span ∷ []) (signed_start n o)
signed_in n None = inl refl
signed_in n (Some at) = inl refl

mutual
  pub written_in : (s : Site) (ts : List Token) (t : PlainTy) → Into (flat_type t) ts
      → AllIn s.file ts (written s t).faults
  written_in s ts (int_type at) i = tt
  written_in s ts (bool_type at) i = tt
  written_in s ts (unit_type from to) i = tt
  written_in s ts (tuple_type from first comma second others to) i =
      let a = into_tail _ _ ts i in
      let b = into_tail _ _ ts (into_right (flat_type first) _ ts a) in
      let c = into_right (flat_type second) _ ts b in
      join s.file ts (written s first).faults ((written s second).faults ++ (written_others s others).faults)
      (written_in s ts first (into_left (flat_type first) _ ts a))
      (join s.file ts (written s second).faults (written_others s others).faults
      (written_in s ts second (into_left (flat_type second) _ ts b))
      (others_in s ts others (into_left (flat_types others) _ ts c)))
  written_in s ts (named_type p) i = named_in s ts p (type_named s p) [] (path_start p ts i) tt
  written_in s ts (generic_type p args) i =
      named_in s ts p (type_named s p) (given s args) (path_start p ts (into_left (flat_path p) (flat_args args) ts i))
      (given_in s ts args (into_right (flat_path p) (flat_args args) ts i))

  others_in : (s : Site) (ts : List Token) (xs : MoreTypes) → Into (flat_types xs) ts
      → AllIn s.file ts (written_others s xs).faults
  others_in s ts last_type i = tt
  others_in s ts (next_type comma t others) i =
      let a = into_tail _ _ ts i in
      join s.file ts (written s t).faults (written_others s others).faults
      (written_in s ts t (into_left (flat_type t) (flat_types others) ts a))
      (others_in s ts others (into_right (flat_type t) (flat_types others) ts a))

  pub given_in : (s : Site) (ts : List Token) (args : PlainArgs) → Into (flat_args args) ts
      → Every (GivenIn s.file ts) (given s args)
  given_in s ts (angle_args from first others to) i =
      let a = into_tail _ _ ts i in (
        one_in s ts first (into_left (flat_arg first) _ ts a),
        more_in s ts others (into_left (flat_more_args others) _ ts (into_right (flat_arg first) _ ts a)),
      )

  one_in : (s : Site) (ts : List Token) (x : PlainArg) → Into (flat_arg x) ts → GivenIn s.file ts (one_given s x)
  one_in s ts (type_arg t) i =
      type_given_in s ts t (const_generic s t) (written s t) (i.into (type_start t) (type_begins t))
      (written_in s ts t i)
  one_in s ts (number_arg n) i = record { at = i.into (signed_start n n.minus) (signed_in n n.minus); faults = tt }

  more_in : (s : Site) (ts : List Token) (xs : MoreArgs) → Into (flat_more_args xs) ts
      → Every (GivenIn s.file ts) (given_others s xs)
  more_in s ts last_arg i = tt
  more_in s ts (next_arg comma x others) i =
      let a = into_tail _ _ ts i in (
        one_in s ts x (into_left (flat_arg x) (flat_more_args others) ts a),
        more_in s ts others (into_right (flat_arg x) (flat_more_args others) ts a),
      )

-- A written type without a fault is known.
use Rattle.std.proofs.Common.{◌≡◌, ℕ, arith, Bool, true, false, if◌then◌else◌, List, [], ◌∷◌, ◌++◌, length, Option, Some, None}
use Rattle.type_table.specs.TypeOf.{TypeOf, tuple, struct}
use Rattle.type_table.specs.declared.sort.Sort.{Sort}
use Rattle.type_table.specs.Lawful.{same_sort}
use Rattle.lar_tree.specs.declared.name.Path.{Path}
use Rattle.lar_tree.specs.Lawful.{Every}
use Rattle.lar_tree.specs.Types.{PlainTy, int_type, bool_type, unit_type, tuple_type, named_type, generic_type, MoreTypes, last_type, next_type, PlainArgs, angle_args, PlainArg, type_arg, number_arg, MoreArgs, last_arg, next_arg}
use Rattle.lar_rules.specs.Fault.{Fault}
use Rattle.lar_rules.specs.Written.{Site, Written, Given, all_given, missorted, then_type, sorted_list, Fitted, fitted, TypeName, a_generic, a_struct_type, no_type, type_named, struct_sorts, named, const_generic, number_given, type_given, written, written_others, given, given_others, one_given}
use Rattle.lar_sound.specs.Known.{IsKnown, IsFaultless, IsTold}
use Rattle.lar_sound.proofs.FittedBy.{fitted_holds}
use Rattle.lar_sound.proofs.Known.{faultless_parts, known_map}

abbrev pub GivenTold : Given → Type 0
GivenTold g = IsTold g.of g.faults

pub then_type_known : (a b : Option TypeOf) → IsKnown a → IsKnown b → IsKnown (then_type a b)
then_type_known None b h k = absurd h
then_type_known (Some t) None h k = absurd k
then_type_known (Some t) (Some u) h k = tt

sorted_step : (b : Bool) (f : Fault) (fs : List Fault) (o p : Option TypeOf) → IsKnown o → (IsFaultless fs → IsKnown p)
    → IsFaultless (if b then fs else f ∷ fs) → IsKnown (then_type (if b then o else None) p)
sorted_step true f fs o p k more h = then_type_known o p k (more h)
sorted_step false f fs o p k more h = absurd h

sorted_told : (s : Site) (ws : List Sort) (gs : List Given) → length ws ≡ length gs → Every GivenTold gs
    → IsFaultless (all_given gs) → IsFaultless (missorted s ws gs) → IsKnown (sorted_list ws gs)
sorted_told s [] [] e t h m = tt
sorted_told s [] (g ∷ gs) e t h m = absurd (omega (arith, e))
sorted_told s (w ∷ ws) [] e t h m = absurd (omega (arith, e))
sorted_told s (w ∷ ws) (g ∷ gs) e t h m =
    let p = faultless_parts g.faults (all_given gs) h in
    sorted_step (same_sort w g.sort) _ (missorted s ws gs) g.of (sorted_list ws gs) (t.0 p.0)
    (λ k. sorted_told s ws gs (omega (arith, e)) t.1 p.1 k) m

pub fitted_told : (s : Site) (p : Path) (ws : List Sort) (gs : List Given) → Every GivenTold gs
    → IsTold (fitted s p ws gs).of (fitted s p ws gs).faults
fitted_told s p ws gs t =
    fitted_holds (λ (f : Fitted). IsTold f.of f.faults) s p ws gs
    (λ e h. let q = faultless_parts (all_given gs) (missorted s ws gs) h in sorted_told s ws gs e t q.0 q.1)
    (λ h. absurd h)

named_told : (s : Site) (p : Path) (n : TypeName) (gs : List Given) → Every GivenTold gs
    → IsTold (named s p n gs).of (named s p n gs).faults
named_told s p no_type gs t h = absurd h
named_told s p (a_generic k) [] t h = tt
named_told s p (a_generic k) (g ∷ gs) t h = absurd h
named_told s p (a_struct_type x) gs t h =
    known_map (struct x.number) (fitted s p (struct_sorts x) gs).of (fitted_told s p (struct_sorts x) gs t h)

number_told : (s : Site) (t : PlainTy) (k : ℕ) → GivenTold (number_given s t k)
number_told s (int_type at) k h = tt
number_told s (bool_type at) k h = tt
number_told s (unit_type from to) k h = tt
number_told s (tuple_type from first comma second others to) k h = tt
number_told s (named_type p) k h = tt
number_told s (generic_type p args) k h = absurd h

type_given_told : (s : Site) (t : PlainTy) (o : Option ℕ) (w : Written) → IsTold w.of w.faults
    → GivenTold (type_given s t o w)
type_given_told s t (Some k) w h = number_told s t k
type_given_told s t None w h = h

mutual
  pub written_told : (s : Site) (t : PlainTy) → IsTold (written s t).of (written s t).faults
  written_told s (int_type at) h = tt
  written_told s (bool_type at) h = tt
  written_told s (unit_type from to) h = tt
  written_told s (tuple_type from first comma second others to) h =
      let p = faultless_parts (written s first).faults ((written s second).faults ++ (written_others s others).faults)
      h in
      let q = faultless_parts (written s second).faults (written_others s others).faults p.1 in
      known_map tuple _
      (then_type_known (written s first).of (then_type (written s second).of (written_others s others).of)
      (written_told s first p.0)
      (then_type_known (written s second).of (written_others s others).of (written_told s second q.0)
      (others_told s others q.1)))
  written_told s (named_type p) h = named_told s p (type_named s p) [] tt h
  written_told s (generic_type p args) h = named_told s p (type_named s p) (given s args) (given_told s args) h

  others_told : (s : Site) (ts : MoreTypes) → IsTold (written_others s ts).of (written_others s ts).faults
  others_told s last_type h = tt
  others_told s (next_type comma t others) h =
      let p = faultless_parts (written s t).faults (written_others s others).faults h in
      then_type_known (written s t).of (written_others s others).of (written_told s t p.0) (others_told s others p.1)

  pub given_told : (s : Site) (args : PlainArgs) → Every GivenTold (given s args)
  given_told s (angle_args from first others to) = (one_told s first, more_told s others)

  more_told : (s : Site) (args : MoreArgs) → Every GivenTold (given_others s args)
  more_told s last_arg = tt
  more_told s (next_arg comma a others) = (one_told s a, more_told s others)

  one_told : (s : Site) (a : PlainArg) → GivenTold (one_given s a)
  one_told s (type_arg t) = type_given_told s t (const_generic s t) (written s t) (written_told s t)
  one_told s (number_arg n) = λ h. tt

-- One call is read.
use Rattle.std.proofs.Common.{◌≡◌, ◌≢◌, ℕ, zero, suc, ◌+◌, ◌<◌, ◌≤◌, List, [], ◌∷◌, ◌++◌, length, refl, sym, ap, ◌∙◌, subst as transport, arith, Bool, true, false, ◌||◌, Option, Some, Ok, Err, option_map}
use Rattle.std.specs.Prelude.{slice_get, nat_eq, nat_lt}
use Rattle.std.specs.List.{AllByRecursion}
use Rattle.std.proofs.lemmas.Bool.Decides.{nat_tests}
use Rattle.std.proofs.lemmas.List.{length_push, map_push, length-map}
use Rattle.std.proofs.lemmas.Map.Views.{exact_unsigned_eq}
use Rattle.std.proofs.lemmas.Option.{slice_get-map}
use Rattle.std.specs.Cmp.{nat_eq_equiv}
use Rattle.reach.specs.Reach.{has}
use Rattle.lar_source.specs.declared.code.Code.TheVariants.{ArgumentTooLarge, TooManyInstances}
use Rattle.lar_bytes.specs.declared.memory.OrMemory.{OrMemory}
use Rattle.lar_bytes.specs.declared.memory.OrMemory.TheVariants.{Refused}
use Rattle.type_table.specs.declared.row.Row.{Row}
use Rattle.type_table.specs.TypeOf.{TypeOf}
use Rattle.type_table.specs.Rows.{type_at, IsTable, Keeps, Stands}
use Rattle.type_table.specs.Substitution.{subst}
use Rattle.type_table.proofs.Views.{equal_numbers}
use Rattle.lar_typed.specs.SameType.{same_type}
use Rattle.lar_typed.specs.Calls.{CallOf}
use Rattle.lar_typed.specs.TreeView.{Contents}
use Rattle.lar_typed.specs.declared.tree.TypedFunction.{TypedFunction}
use Rattle.lar_typed.proofs.SameTypes.{and_true, both_true, same_means, same_self}
use Rattle.mono_items.specs.declared.items.Instance.{Instance}
use Rattle.mono_bodies.specs.declared.calls.PatternCall.{PatternCall}
use Rattle.mono_graph.specs.declared.refused.RefusedCall.{RefusedCall}
use Rattle.mono_graph.specs.Instances.{PlainInstance, same_instance, instance_view, target, has_large}
use Rattle.mono_graph.specs.Reading.{read_call}
use Rattle.mono_collect.specs.Arguments.{call_by}
use Rattle.mono_collect.specs.Places.{IsNew}
use Rattle.mono_collect.specs.States.{views, AreInside, CallRead, CallEnds}

-- ---- while the table grows
pub views_kept : (old new : List Row) (us : List Instance) → Keeps old new → AllByRecursion (λ x. x.arguments < length old) us → views new us ≡ views old us
views_kept old new [] k h = refl
views_kept old new (u ∷ us) k h =
    let first : instance_view new u ≡ instance_view old u = ap (λ (t : TypeOf). let x : PlainInstance = record { function = u.function; arguments = t } in x) (k.same u.arguments h.0) in
    let rest : views new us ≡ views old us = views_kept old new us k h.1 in
    cc

arguments_kept : (n m : ℕ) (us : List Instance) → n ≤ m → AllByRecursion (λ x. x.arguments < n) us → AllByRecursion (λ x. x.arguments < m) us
arguments_kept n m [] l h = tt
arguments_kept n m (u ∷ us) l h = ((let a : u.arguments < n = h.0 in omega arith), arguments_kept n m us l h.1)

pub inside_kept : (old new : Contents) (us : List Instance) → Keeps old.rows new.rows → new.functions ≡ old.functions → AreInside old us → AreInside new us
inside_kept old new us k e h = record {
  functions = transport (λ (fs : List TypedFunction). AllByRecursion (λ (x : Instance). x.function < length fs) us) (sym e) h.functions;
  arguments = arguments_kept (length old.rows) (length new.rows) us k.longer h.arguments;
}

all_push : (P : Instance → Type 0) (us : List Instance) (x : Instance) → AllByRecursion P us → P x → AllByRecursion P (us ++ x ∷ [])
all_push P [] x h p = (p, tt)
all_push P (u ∷ us) x h p = (h.0, all_push P us x h.1 p)

-- ---- whether an instance is there
same_itself : (x : PlainInstance) → same_instance x x ≡ true
same_itself x = both_true (nat_eq x.function x.function) (same_type x.arguments x.arguments) (nat_eq_equiv.refl x.function) (same_self x.arguments)

pub known_has : (rows : List Row) (us : List Instance) (x : Instance) (p : ℕ) → slice_get us p ≡ Some x → has same_instance (instance_view rows x) (views rows us) ≡ true
known_has rows [] x p h = cc
known_has rows (u ∷ us) x zero h =
    let same : u ≡ x = cc in
    let t : same_instance (instance_view rows x) (instance_view rows u) ≡ true = transport (λ (y : Instance). same_instance (instance_view rows x) (instance_view rows y) ≡ true) (sym same) (same_itself (instance_view rows x)) in
    ap (λ (b : Bool). b || has same_instance (instance_view rows x) (views rows us)) t
known_has rows (u ∷ us) x (suc p) h = by (same_instance (instance_view rows x) (instance_view rows u)) (known_has rows us x p h)
  where
    by : (b : Bool) → has same_instance (instance_view rows x) (views rows us) ≡ true → (b || has same_instance (instance_view rows x) (views rows us)) ≡ true
    by true r = refl
    by false r = r

one_view : (rows : List Row) (x u : Instance) → IsTable rows → x.arguments < length rows → u.arguments < length rows → same_instance (instance_view rows x) (instance_view rows u) ≡ true → u ≡ x
one_view rows x u table p q h =
    let both : (nat_eq x.function u.function ≡ true) × (same_type (type_at rows x.arguments) (type_at rows u.arguments) ≡ true) = and_true (nat_eq x.function u.function) (same_type (type_at rows x.arguments) (type_at rows u.arguments)) h in
    let f : x.function ≡ u.function = exact_unsigned_eq x.function u.function both.0 in
    let a : x.arguments ≡ u.arguments = equal_numbers rows x.arguments u.arguments table p q (same_means (type_at rows x.arguments) (type_at rows u.arguments) both.1) in
    made u.function u.arguments x.function x.arguments (sym f) (sym a)
  where
    made : (a b c d : ℕ) → a ≡ c → b ≡ d → (let x : Instance = record { function = a; arguments = b } in x) ≡ record { function = c; arguments = d }
    made a b c d e f = ap (λ (n : ℕ). let x : Instance = record { function = n; arguments = b } in x) e ∙ ap (λ (n : ℕ). let x : Instance = record { function = c; arguments = n } in x) f

pub new_has : (rows : List Row) (us : List Instance) (x : Instance) → IsTable rows → x.arguments < length rows → AllByRecursion (λ u. u.arguments < length rows) us → IsNew us x → has same_instance (instance_view rows x) (views rows us) ≡ false
new_has rows [] x table l h new = refl
new_has rows (u ∷ us) x table l h new = by (same_instance (instance_view rows x) (instance_view rows u)) refl (new_has rows us x table l h.1 (record { none = λ p e. new.none (suc p) e }))
  where
    by : (b : Bool) → same_instance (instance_view rows x) (instance_view rows u) ≡ b → has same_instance (instance_view rows x) (views rows us) ≡ false → (b || has same_instance (instance_view rows x) (views rows us)) ≡ false
    by true is r = absurd (new.none 0 (ap (λ (y : Instance). Some y) (one_view rows x u table l h.0 is)))
    by false is r = r

-- ---- what reading a call comes to
read_large : (limit : ℕ) (us : List PlainInstance) (c : CallOf TypeOf) → has_large c.generics ≡ true → read_call limit us c ≡ Err (record { code = ArgumentTooLarge; at = c.at })
read_large limit us c h = rw h refl

read_known : (limit : ℕ) (us : List PlainInstance) (c : CallOf TypeOf) → has_large c.generics ≡ false → has same_instance (target c) us ≡ true → read_call limit us c ≡ Ok us
read_known limit us c h k = rw h (rw k refl)

read_new : (limit : ℕ) (us : List PlainInstance) (c : CallOf TypeOf) → has_large c.generics ≡ false → has same_instance (target c) us ≡ false → nat_lt (length us) limit ≡ true → read_call limit us c ≡ Ok (us ++ target c ∷ [])
read_new limit us c h k l = rw h (rw k (rw l refl))

read_many : (limit : ℕ) (us : List PlainInstance) (c : CallOf TypeOf) → has_large c.generics ≡ false → has same_instance (target c) us ≡ false → nat_lt (length us) limit ≡ false → read_call limit us c ≡ Err (record { code = TooManyInstances; at = c.at })
read_many limit us c h k l = rw h (rw k (rw l refl))

-- the call of a pattern, whose list of arguments has this number
module _ (old new : Contents) (limit : ℕ) (us : List Instance) (arguments list : ℕ) (call : PatternCall) (keeps : Keeps old.rows new.rows) (same : new.functions ≡ old.functions) (inside : AreInside old us) (stands : Stands new.rows list (subst (type_at old.rows arguments) (type_at old.rows call.generics))) (small : has_large (subst (type_at old.rows arguments) (type_at old.rows call.generics)) ≡ false) where
  abbrev x : Instance
  x = record { function = call.callee; arguments = list }

  abbrev c : CallOf TypeOf
  c = call_by old.rows arguments call

  names : instance_view new.rows x ≡ target c
  names = ap (λ (t : TypeOf). let y : PlainInstance = record { function = call.callee; arguments = t } in y) stands.is

  kept : views new.rows us ≡ views old.rows us
  kept = views_kept old.rows new.rows us keeps inside.arguments

  -- it is there
  pub call_known : (p : ℕ) → length us ≤ limit → slice_get us p ≡ Some x → CallRead old new limit us us c p
  call_known p few at = record {
    few = few;
    inside = inside_kept old new us keeps same inside;
    read = read_known limit (views old.rows us) c small (ap (λ (y : PlainInstance). has same_instance y (views old.rows us)) (sym names) ∙ ap (λ (vs : List PlainInstance). has same_instance (instance_view new.rows x) vs) (sym kept) ∙ known_has new.rows us x p at) ∙ ap (λ (vs : List PlainInstance). Ok vs) (sym kept);
    at = slice_get-map (instance_view new.rows) us p ∙ ap (λ (o : Option Instance). option_map (instance_view new.rows) o) at ∙ ap (λ (y : PlainInstance). Some y) names;
  }

  module _ (table : IsTable new.rows) (none : IsNew us x) where
    not_there : has same_instance (target c) (views old.rows us) ≡ false
    not_there = ap (λ (y : PlainInstance). has same_instance y (views old.rows us)) (sym names) ∙ ap (λ (vs : List PlainInstance). has same_instance (instance_view new.rows x) vs) (sym kept) ∙ new_has new.rows us x table stands.within (inside_kept old new us keeps same inside).arguments none

    count : length (views old.rows us) ≡ length us
    count = length-map us (instance_view old.rows)

    -- it is new, and there is room
    pub call_new : (ws : List Instance) (p : ℕ) → call.callee < length old.functions → length us ≤ limit → p ≢ limit → p ≡ length us → ws ≡ us ++ x ∷ [] → CallRead old new limit us ws c p
    call_new ws p there few room at is =
        let len : length (us ++ x ∷ []) ≡ length us + 1 = length_push us x in
        let less : length us < limit = omega arith in
        let more : length (views old.rows us) < limit = omega (arith, count) in
        let old_inside : AreInside new us = inside_kept old new us keeps same inside in
        transport (λ (ys : List Instance). CallRead old new limit us ys c p) (sym is) (record {
          few = omega arith;
          inside = record {
            functions = all_push (λ (y : Instance). y.function < length new.functions) us x old_inside.functions (transport (λ (fs : List TypedFunction). call.callee < length fs) (sym same) there);
            arguments = all_push (λ (y : Instance). y.arguments < length new.rows) us x old_inside.arguments stands.within;
          };
          read = read_new limit (views old.rows us) c small not_there (grind (arith, nat_tests)) ∙ ap (λ (vs : List PlainInstance). Ok (vs ++ target c ∷ [])) (sym kept) ∙ ap (λ (y : PlainInstance). Ok (views new.rows us ++ y ∷ [])) (sym names) ∙ ap (λ (vs : List PlainInstance). Ok vs) (sym (map_push (instance_view new.rows) us x));
          at = slice_get-map (instance_view new.rows) (us ++ x ∷ []) p ∙ ap (λ (o : Option Instance). option_map (instance_view new.rows) o) (ap (λ (i : ℕ). slice_get (us ++ x ∷ []) i) at ∙ got_last us x) ∙ ap (λ (y : PlainInstance). Some y) names;
        })
      where
        got_last : (vs : List Instance) (y : Instance) → slice_get (vs ++ y ∷ []) (length vs) ≡ Some y
        got_last [] y = refl
        got_last (v ∷ vs) y = got_last vs y

    -- it is new, and there is no room
    pub call_many : (p : ℕ) (r : OrMemory RefusedCall) → p ≡ limit → p ≡ length us → r ≡ Refused (record { code = TooManyInstances; at = call.at }) → CallEnds old new limit us us c (Err r)
    call_many p r full at is =
        let full : (length (views old.rows us) < limit) → ⊥ = λ l. omega (arith, count) in
        transport (λ (z : OrMemory RefusedCall). CallEnds old new limit us us c (Err z)) (sym is) (read_many limit (views old.rows us) c small not_there (grind (arith, nat_tests, count)))

-- What names mean once a declaration is added.
use Rattle.std.proofs.Common.{◌≡◌, ◌≢◌, ℕ, zero, suc, ◌<◌, ◌&&◌, ◌||◌, List, [], ◌∷◌, ◌++◌, length, Option, Some, None, Bool, true, false, not, cond, refl, sym, ap, ◌∙◌, subst, arith, append-nil, append_assoc, inl, inr}
use Rattle.std.specs.Prelude.{if◌then◌else◌, option_map, is_some, slice_get}
use Rattle.std.specs.Str.{bytes_eq}
use Rattle.std.specs.declared.string.String.{String}
use Rattle.std.specs.BTreeMap.{BTreeMap}
use Rattle.std.proofs.lemmas.Bool.Decides.{eqb_tells}
use Rattle.std.specs.Option.{option_flatten}
use Rattle.lar_rules.specs.Fault.{Fault}
use Rattle.lar_rules.specs.Declared.{Declared, Places, What, a_module, a_struct, a_const, a_function, past, same_modules, is_named, meant_from, meant}
use Rattle.lar_rules.specs.Faults.{none_yet, past_limit, one_less, limit_fault}
use Rattle.lar_rules.specs.Twice.{has_item, repeated_items, twice}
use Rattle.lar_names.specs.declared.meaning.Meaning.{Meaning}
use Rattle.lar_names.specs.Entries.{is_taken, meaning, entry, first_meaning, repeat}
use Rattle.lar_names.specs.Indexed.{AreEntries, counted}
use Rattle.lar_names.specs.Meanings.{meaning_of}
use Rattle.lar_names.specs.Numbered.{functions, function_of, with_first}
use Rattle.lar_names.specs.Scopes.{AreScopes, list_at}
use Rattle.lar_names.specs.Tables.{look, IsPut}
use Rattle.lar_names.proofs.Numbers.{or_else}
use Rattle.lar_names.proofs.Sameness.{same_name, name_self, modules_self, modules_apart}

-- whether it has this name in these modules
abbrev has : List (List ℕ) → List ℕ → Declared → Bool
has m n d = same_modules d.modules m && bytes_eq d.name.text n

meant_case : {A : Type 0} (b : Bool) (a : A) (rest less last : Option A) → rest ≡ or_else less last → (if b then Some a else rest) ≡ or_else (if b then Some a else less) last
meant_case true a rest less last e = refl
meant_case false a rest less last e = e

meant_push_from : (p : Places) (m : List (List ℕ)) (n : List ℕ) (ds : List Declared) (d : Declared) → meant_from p m n (ds ++ d ∷ []) ≡ or_else (meant_from p m n ds) (if is_named m n d then Some (counted p ds, d) else None)
meant_push_from p m n [] d = refl
meant_push_from p m n (x ∷ xs) d = meant_case (is_named m n x) (p, x) (meant_from (past p x.what) m n (xs ++ d ∷ [])) (meant_from (past p x.what) m n xs) _ (meant_push_from (past p x.what) m n xs d)

pub meant_push : (m : List (List ℕ)) (n : List ℕ) (ds : List Declared) (d : Declared) → meant (ds ++ d ∷ []) m n ≡ or_else (meant ds m n) (if is_named m n d then Some (counted none_yet ds, d) else None)
meant_push m n ds d = meant_push_from none_yet m n ds d

or_more : (a b c e : Bool) → b ≡ (c || e) → (a || b) ≡ ((a || c) || e)
or_more true b c e h = refl
or_more false b c e h = h

pub taken_push : (ds : List Declared) (d : Declared) (m : List (List ℕ)) (n : List ℕ) → is_taken (ds ++ d ∷ []) m n ≡ (is_taken ds m n || has m n d)
taken_push [] d m n = or_false (has m n d)
  where
    or_false : (b : Bool) → (b || false) ≡ b
    or_false true = refl
    or_false false = refl
taken_push (x ∷ xs) d m n = or_more (has m n x) (is_taken (xs ++ d ∷ []) m n) (is_taken xs m n) (has m n d) (taken_push xs d m n)

none_case : {A : Type 0} (hidden b c : Bool) (a : A) (rest : Option A) → (b || c) ≡ false → (c ≡ false → rest ≡ None) → (if not hidden && b then Some a else rest) ≡ None
none_case hidden true c a rest h f = cc
none_case true false c a rest h f = f h
none_case false false c a rest h f = f h

not_taken_from : (p : Places) (ds : List Declared) (m : List (List ℕ)) (n : List ℕ) → is_taken ds m n ≡ false → meant_from p m n ds ≡ None
not_taken_from p [] m n h = refl
not_taken_from p (d ∷ ds) m n h = none_case d.hidden (has m n d) (is_taken ds m n) (p, d) (meant_from (past p d.what) m n ds) h (not_taken_from (past p d.what) ds m n)

flat_case : (b : Bool) (o : Option Meaning) → (b ≡ false → o ≡ None) → option_flatten (cond b (Some o) None) ≡ o
flat_case true o h = refl
flat_case false o h = sym (h refl)

-- an entry has what the name means
pub flat_entry : (ds : List Declared) (m : List (List ℕ)) (n : List ℕ) → option_flatten (entry ds m n) ≡ meaning ds m n
flat_entry ds m n = flat_case (is_taken ds m n) (meaning ds m n) (λ h. ap (option_map meaning_of) (not_taken_from none_yet ds m n h))

some_case : {A : Type 0} (b : Bool) (a : A) → is_some (cond b (Some a) None) ≡ b
some_case true a = refl
some_case false a = refl

pub some_entry : (ds : List Declared) (m : List (List ℕ)) (n : List ℕ) → is_some (entry ds m n) ≡ is_taken ds m n
some_entry ds m n = some_case (is_taken ds m n) (meaning ds m n)

first_case : (o : Option (Places × Declared)) (hidden t : Bool) (p : Places) (d : Declared) → t ≡ true
    → option_map meaning_of (or_else o (if not hidden && t then Some (p, d) else None)) ≡ first_meaning (option_map meaning_of o) hidden (meaning_of (p, d))
first_case (Some x) hidden t p d h = refl
first_case None true t p d h = refl
first_case None false true p d h = refl
first_case None false false p d h = cc

or_true : (a b : Bool) → b ≡ true → (a || b) ≡ true
or_true true b h = refl
or_true false b h = h

and_true : (a b : Bool) → a ≡ true → b ≡ true → (a && b) ≡ true
and_true true b h k = k
and_true false b h k = cc

-- the entry of the new declaration's name
pub entry_same : (ds : List Declared) (d : Declared) → entry (ds ++ d ∷ []) d.modules d.name.text ≡ Some (first_meaning (meaning ds d.modules d.name.text) d.hidden (meaning_of (counted none_yet ds, d)))
entry_same ds d =
    let self : has d.modules d.name.text d ≡ true = and_true (same_modules d.modules d.modules) (bytes_eq d.name.text d.name.text) (modules_self d.modules) (name_self d.name.text) in
    ap (λ b. cond b (Some (meaning (ds ++ d ∷ []) d.modules d.name.text)) None) (taken_push ds d d.modules d.name.text ∙ or_true (is_taken ds d.modules d.name.text) (has d.modules d.name.text d) self)
    ∙ ap Some (ap (option_map meaning_of) (meant_push d.modules d.name.text ds d) ∙ first_case (meant ds d.modules d.name.text) d.hidden (has d.modules d.name.text d) (counted none_yet ds) d self)

or_same : (a b : Bool) → b ≡ false → (a || b) ≡ a
or_same true b h = refl
or_same false b h = h

other_case : {A : Type 0} (o : Option A) (hidden t : Bool) (a : A) → t ≡ false → or_else o (if not hidden && t then Some a else None) ≡ o
other_case (Some x) hidden t a h = refl
other_case None true t a h = refl
other_case None false true a h = cc
other_case None false false a h = refl

-- any other entry
pub entry_other : (ds : List Declared) (d : Declared) (m : List (List ℕ)) (n : List ℕ) → has m n d ≡ false → entry (ds ++ d ∷ []) m n ≡ entry ds m n
entry_other ds d m n h =
    ap (λ b. cond b (Some (meaning (ds ++ d ∷ []) m n)) None) (taken_push ds d m n ∙ or_same (is_taken ds m n) (has m n d) h)
    ∙ ap (λ o. cond (is_taken ds m n) (Some (option_map meaning_of o)) None) (meant_push m n ds d ∙ other_case (meant ds m n) d.hidden (has m n d) (counted none_yet ds, d) h)

and_left : (a b : Bool) → a ≡ false → (a && b) ≡ false
and_left true b h = cc
and_left false b h = refl

and_right : (a b : Bool) → b ≡ false → (a && b) ≡ false
and_right true b h = h
and_right false b h = refl

-- the tables with the new declaration's entry
module _ {Y : Type 0} (lists : List (List (List ℕ))) (ds : List Declared) (d : Declared) (old new : List (BTreeMap (String Y) (Option Meaning))) (scope : ℕ) (value : Option Meaning) (are : AreScopes lists)
    (entries : AreEntries lists old ds) (bound : scope < length lists) (stands : d.modules ≡ list_at lists scope) (put : IsPut old new scope d.name.text value)
    (is : value ≡ first_meaning (meaning ds d.modules d.name.text) d.hidden (meaning_of (counted none_yet ds, d))) where
  here : (q : List ℕ) (b : Bool) → bytes_eq d.name.text q ≡ b → cond b (Some value) (look old scope q) ≡ entry (ds ++ d ∷ []) (list_at lists scope) q
  here q true t =
      let same : d.name.text ≡ q = same_name d.name.text q t in
      ap Some is ∙ (sym (entry_same ds d) ∙ (ap (λ m. entry (ds ++ d ∷ []) m d.name.text) stands ∙ ap (entry (ds ++ d ∷ []) (list_at lists scope)) same))
  here q false t = entries.each scope q bound ∙ sym (entry_other ds d (list_at lists scope) q (and_right (same_modules d.modules (list_at lists scope)) (bytes_eq d.name.text q) t))

  elsewhere : (s : ℕ) (q : List ℕ) → s < length lists → s ≢ scope → look new s q ≡ entry (ds ++ d ∷ []) (list_at lists s) q
  elsewhere s q h other =
      let apart : same_modules d.modules (list_at lists s) ≡ false = modules_apart d.modules (list_at lists s) (λ e. other (are.apart s scope h bound (sym e ∙ stands))) in
      put.others s q other ∙ (entries.each s q h ∙ sym (entry_other ds d (list_at lists s) q (and_left (same_modules d.modules (list_at lists s)) (bytes_eq d.name.text q) apart)))

  pub entries_push : length new ≡ length old → AreEntries lists new (ds ++ d ∷ [])
  entries_push count = record {
    counted = (let a : length new ≡ length old = count in let b = entries.counted in omega (arith, a, b));
    each = λ s q h. elim (eqb_tells s scope) [
      | inl same ↦ subst (λ k. look new k q ≡ entry (ds ++ d ∷ []) (list_at lists k) q) (sym same.1) (put.here q ∙ here q (bytes_eq d.name.text q) refl)
      | inr other ↦ elsewhere s q h other.1
    ];
  }

-- names that are defined twice

taken_item : (d : Declared) (es : List Declared) → has_item d es ≡ is_taken es d.modules d.name.text
taken_item d [] = refl
taken_item d (e ∷ es) = ap (λ b. has d.modules d.name.text e || b) (taken_item d es)

repeated_from : (earlier ds : List Declared) (d : Declared) → repeated_items earlier (ds ++ d ∷ []) ≡ repeated_items earlier ds ++ repeat (earlier ++ ds) d
repeated_from earlier [] d =
    append-nil (if has_item d earlier then twice d.file d.name ∷ [] else [])
    ∙ (ap (λ b. cond b (twice d.file d.name ∷ []) []) (taken_item d earlier) ∙ ap (λ es. repeat es d) (sym (append-nil earlier)))
repeated_from earlier (x ∷ xs) d =
    ap (λ fs. (if has_item x earlier then twice x.file x.name ∷ [] else []) ++ fs) (repeated_from (earlier ++ x ∷ []) xs d ∙ ap (λ es. repeated_items (earlier ++ x ∷ []) xs ++ repeat es d) (append_assoc earlier (x ∷ []) xs))
    ∙ sym (append_assoc (if has_item x earlier then twice x.file x.name ∷ [] else []) (repeated_items (earlier ++ x ∷ []) xs) (repeat (earlier ++ x ∷ xs) d))

pub repeated_push : (ds : List Declared) (d : Declared) → repeated_items [] (ds ++ d ∷ []) ≡ repeated_items [] ds ++ repeat ds d
repeated_push ds d = repeated_from [] ds d

-- functions past the limit

abbrev pub limit_at : {A : Type 0} → Option (Declared × A) → List Fault
limit_at None = []
limit_at (Some p) = limit_fault p.0 ∷ []

less : (d : Declared) (w : What) (n : ℕ) (ds : List Declared) → ((k : ℕ) → past_limit ds k ≡ limit_at (slice_get (functions ds) k)) → one_less d w n (past_limit ds) ≡ limit_at (slice_get (with_first (function_of d w) (functions ds)) n)
less d a_module n ds h = h n
less d (a_struct s) n ds h = h n
less d (a_const c) n ds h = h n
less d (a_function f) zero ds h = refl
less d (a_function f) (suc n) ds h = h n

pub limit_is : (ds : List Declared) (n : ℕ) → past_limit ds n ≡ limit_at (slice_get (functions ds) n)
limit_is [] n = refl
limit_is (d ∷ ds) n = less d d.what n ds (limit_is ds)

-- Scopes that grow by one.
use Rattle.std.proofs.Common.{◌≡◌, ◌≢◌, ℕ, zero, suc, ◌+◌, ◌<◌, List, [], ◌∷◌, ◌++◌, length, Option, Some, None, Bool, true, false, cond, refl, sym, ap, ◌∙◌, subst, arith, length-append, append-nil, append_assoc, inl, inr, ◌⊎◌}
use Rattle.std.specs.Prelude.{if◌then◌else◌}
use Rattle.std.specs.Str.{bytes_eq}
use Rattle.std.specs.declared.string.String.{String}
use Rattle.std.specs.BTreeMap.{BTreeMap}
use Rattle.std.proofs.lemmas.Bool.Decides.{eqb_tells}
use Rattle.lar_rules.specs.Declared.{same_modules}
use Rattle.lar_names.specs.declared.scopes.Place.{Place}
use Rattle.lar_names.specs.Scopes.{list_at, number_from, number_of, within, AreScopes}
use Rattle.lar_names.specs.ScopeLists.{list_of, lists_from, lists, AreInner}
use Rattle.lar_names.specs.Tables.{look, IsPut}
use Rattle.lar_names.proofs.Sameness.{modules_self, modules_apart, name_self, same_name, same_within}
use Rattle.lar_names.proofs.Numbers.{or_else, or_none, number_push, number_found, number_missing, number_is, at_old, at_new}

-- one of the lists, or the new one
last_or : (n i : ℕ) → i < n + 1 → (i < n) ⊎ (i ≡ n)
last_or n i h = elim (eqb_tells i n) [
  | inl same ↦ inr same.1
  | inr other ↦ let apart = other.1 in inl (omega (arith, apart))
]

pub longer : (ls : List (List (List ℕ))) (l : List (List ℕ)) → length (ls ++ l ∷ []) ≡ length ls + 1
longer ls l = length-append ls (l ∷ [])

apart_push : (ls : List (List (List ℕ))) (m : List (List ℕ)) → AreScopes ls → number_of m ls ≡ None → (i j : ℕ) → (i < length ls) ⊎ (i ≡ length ls) → (j < length ls) ⊎ (j ≡ length ls) → list_at (ls ++ m ∷ []) i ≡ list_at (ls ++ m ∷ []) j → i ≡ j
apart_push ls m are new i j (inl a) (inl b) h = are.apart i j a b (sym (at_old ls m i a) ∙ (h ∙ at_old ls m j b))
apart_push ls m are new i j (inl a) (inr b) h = absurd (number_missing ls m i new a (sym (at_old ls m i a) ∙ (h ∙ (ap (list_at (ls ++ m ∷ [])) b ∙ at_new ls m))))
apart_push ls m are new i j (inr a) (inl b) h = absurd (number_missing ls m j new b (sym (at_old ls m j b) ∙ (sym h ∙ (ap (list_at (ls ++ m ∷ [])) a ∙ at_new ls m))))
apart_push ls m are new i j (inr a) (inr b) h = a ∙ sym b

no_first : (a b : Option ℕ) → or_else a b ≡ None → a ≡ None
no_first None b h = refl
no_first (Some x) b h = cc

-- the module in m has no number, where it is no module of those in it
not_here : (m n : List (List ℕ)) (ls : List (List (List ℕ))) → number_of n ls ≡ None → m ≢ n → number_of n (ls ++ m ∷ []) ≡ None
not_here m n ls gone other = number_push n m ls ∙ (ap (λ b. or_else (number_of n ls) (if b then Some (length ls) else None)) (modules_apart m n other) ∙ (or_none (number_of n ls) ∙ gone))

closed_push : (ls : List (List (List ℕ))) (parent : ℕ) (name : List ℕ) → AreScopes ls → parent < length ls → (modules : List (List ℕ)) (q : List ℕ)
    → number_of modules (ls ++ within (list_at ls parent) name ∷ []) ≡ None → number_of (within modules q) (ls ++ within (list_at ls parent) name ∷ []) ≡ None
closed_push ls parent name are bound modules q h =
    let m = within (list_at ls parent) name in
    let gone : number_of modules ls ≡ None = no_first (number_of modules ls) _ (sym (number_push modules m ls) ∙ h) in
    not_here m (within modules q) ls (are.closed modules q gone) (λ e. number_missing ls modules parent gone bound (same_within (list_at ls parent) modules name q e).0)

pub scopes_push : (ls : List (List (List ℕ))) (parent : ℕ) (name : List ℕ) → AreScopes ls → parent < length ls → number_of (within (list_at ls parent) name) ls ≡ None → AreScopes (ls ++ within (list_at ls parent) name ∷ [])
scopes_push ls parent name are bound new =
    let m = within (list_at ls parent) name in
    record {
      root = (are.root.0 ++ m ∷ [], ap (λ xs. xs ++ m ∷ []) are.root.1);
      apart = λ i j a b h. apart_push ls m are new i j (last_or (length ls) i (let e = longer ls m in omega (arith, e, a))) (last_or (length ls) j (let e = longer ls m in omega (arith, e, b))) h;
      closed = λ modules q h. closed_push ls parent name are bound modules q h;
    }

pub scopes_one : AreScopes ([] ∷ [])
unfolding number_of
scopes_one = record {
  root = ([], refl);
  apart = λ i j a b h. (let p : i < 1 = a in let q : j < 1 = b in omega arith);
  closed = λ modules q h. one_closed modules q;
}
  where
    one_closed : (modules : List (List ℕ)) (q : List ℕ) → number_from 0 (within modules q) ([] ∷ []) ≡ None
    one_closed [] q = refl
    one_closed (m ∷ ms) q = refl

lists_push_from : (ls : List (List (List ℕ))) (ps : List Place) (p : Place) → lists_from ls (ps ++ p ∷ []) ≡ lists_from ls ps ++ list_of (lists_from ls ps) p ∷ []
lists_push_from ls [] p = refl
lists_push_from ls (x ∷ ps) p = lists_push_from (ls ++ list_of ls x ∷ []) ps p

pub lists_push : (ps : List Place) (p : Place) → lists (ps ++ p ∷ []) ≡ lists ps ++ list_of (lists ps) p ∷ []
unfolding lists
lists_push ps p = lists_push_from ([] ∷ []) ps p

lists_counted_from : (ls : List (List (List ℕ))) (ps : List Place) → length (lists_from ls ps) ≡ length ls + length ps
lists_counted_from ls [] = omega arith
lists_counted_from ls (p ∷ ps) = let e = longer ls (list_of ls p) in lists_counted_from (ls ++ list_of ls p ∷ []) ps ∙ (let f : length (ls ++ list_of ls p ∷ []) ≡ length ls + 1 = e in omega (arith, f))

pub lists_counted : (ps : List Place) → length (lists ps) ≡ length ps + 1
unfolding lists
lists_counted ps = let e = lists_counted_from ([] ∷ []) ps in omega (arith, e)

pub lists_none : (ps : List Place) → ps ≡ [] → lists ps ≡ [] ∷ []
unfolding lists
lists_none ps e = rw e refl

-- the tables after a module is put into the scope `parent`
module _ {Y : Type 0} (ls : List (List (List ℕ))) (parent : ℕ) (name : List ℕ) (old new : List (BTreeMap (String Y) ℕ)) (inner : AreInner ls old) (bound : parent < length ls)
    (gone : number_of (within (list_at ls parent) name) ls ≡ None) (put : IsPut old new parent name (length ls)) where
  abbrev m : List (List ℕ)
  m = within (list_at ls parent) name

  here : (q : List ℕ) (b : Bool) → bytes_eq name q ≡ b → cond b (Some (length ls)) (number_of (within (list_at ls parent) q) ls) ≡ number_of (within (list_at ls parent) q) (ls ++ m ∷ [])
  here q true is =
      let same : name ≡ q = same_name name q is in
      let has : number_of m (ls ++ m ∷ []) ≡ Some (length ls) = number_push m m ls ∙ (ap (λ o. or_else o (if same_modules m m then Some (length ls) else None)) gone ∙ ap (λ b. if b then Some (length ls) else None) (modules_self m)) in
      sym (subst (λ z. number_of (within (list_at ls parent) z) (ls ++ m ∷ []) ≡ Some (length ls)) same has)
  here q false is =
      sym (number_push (within (list_at ls parent) q) m ls
      ∙ (ap (λ b. or_else (number_of (within (list_at ls parent) q) ls) (if b then Some (length ls) else None)) (modules_apart m (within (list_at ls parent) q) (λ e. other (same_within (list_at ls parent) (list_at ls parent) name q e).1))
      ∙ or_none (number_of (within (list_at ls parent) q) ls)))
    where
      other : name ≡ q → ⊥
      other e = let t : bytes_eq name q ≡ true = subst (λ z. bytes_eq name z ≡ true) e (name_self name) in cc

  elsewhere : (s : ℕ) (q : List ℕ) → s < length ls → s ≢ parent → look new s q ≡ number_of (within (list_at ls s) q) (ls ++ m ∷ [])
  elsewhere s q b other =
      put.others s q other ∙ (inner.each s q b ∙ sym (number_push (within (list_at ls s) q) m ls
      ∙ (ap (λ b. or_else (number_of (within (list_at ls s) q) ls) (if b then Some (length ls) else None)) (modules_apart m (within (list_at ls s) q) (λ e. other (sym (inner.scopes.apart parent s bound b (same_within (list_at ls parent) (list_at ls s) name q e).0))))
      ∙ or_none (number_of (within (list_at ls s) q) ls))))

  among : (s : ℕ) (q : List ℕ) → s < length ls → look new s q ≡ number_of (within (list_at ls s) q) (ls ++ m ∷ [])
  among s q b = elim (eqb_tells s parent) [
    | inl same ↦ subst (λ z. look new z q ≡ number_of (within (list_at ls z) q) (ls ++ m ∷ [])) (sym same.1) (put.here q ∙ (ap (cond (bytes_eq name q) (Some (length ls))) (inner.each parent q bound) ∙ here q (bytes_eq name q) refl))
    | inr other ↦ elsewhere s q b other.1
  ]

  own_longer : (q : List ℕ) → m ≢ within m q
  own_longer q e = let a : length m ≡ length (within m q) = ap length e in let b : length (within m q) ≡ length m + 1 = length-append m (q ∷ []) in absurd (omega (arith, a, b))

  each : (s : ℕ) (q : List ℕ) → (s < length ls) ⊎ (s ≡ length ls) → look new s q ≡ number_of (within (list_at (ls ++ m ∷ []) s) q) (ls ++ m ∷ [])
  each s q (inl b) = among s q b ∙ ap (λ l. number_of (within l q) (ls ++ m ∷ [])) (sym (at_old ls m s b))
  each s q (inr b) =
      let other : s ≢ parent = (λ e. absurd (omega (arith, e, b, bound))) in
      let none : look new s q ≡ None = put.others s q other ∙ inner.beyond s q (omega (arith, b)) in
      let none2 : number_of (within m q) (ls ++ m ∷ []) ≡ None = not_here m (within m q) ls (inner.scopes.closed m q gone) (own_longer q) in
      none ∙ (sym none2 ∙ ap (λ l. number_of (within l q) (ls ++ m ∷ [])) (sym (ap (list_at (ls ++ m ∷ [])) b ∙ at_new ls m)))

  pub inner_push : length ls < length new → AreInner (ls ++ m ∷ []) new
  inner_push more = record {
    scopes = scopes_push ls parent name inner.scopes bound gone;
    counted = (let e = longer ls m in omega (arith, e, more));
    each = λ s q b. each s q (last_or (length ls) s (let e = longer ls m in omega (arith, e, b)));
    beyond = λ s q b. put.others s q (λ e. absurd (let f = longer ls m in omega (arith, e, f, b, bound))) ∙ inner.beyond s q (let f = longer ls m in omega (arith, f, b));
  }

pub inner_one : {Y : Type 0} (tables : List (BTreeMap (String Y) ℕ)) → length tables ≡ 1 → ((s : ℕ) (q : List ℕ) → look tables s q ≡ None) → AreInner ([] ∷ []) tables
unfolding number_of
inner_one tables count none = record {
  scopes = scopes_one;
  counted = (let h : length tables ≡ 1 = count in omega (arith, h));
  each = λ s q b. none s q ∙ sym (one_none s q b);
  beyond = λ s q b. none s q;
}
  where
    one_none : (s : ℕ) (q : List ℕ) → s < 1 → number_from 0 (within (list_at ([] ∷ []) s) q) ([] ∷ []) ≡ None
    one_none zero q b = refl
    one_none (suc s) q b = absurd (omega arith)

pub new_number : (ls : List (List (List ℕ))) (m : List (List ℕ)) (n : ℕ) → n ≡ length ls → (n < length (ls ++ m ∷ [])) × (list_at (ls ++ m ∷ []) n ≡ m)
new_number ls m n e = (let f = longer ls m in omega (arith, e, f), ap (list_at (ls ++ m ∷ [])) e ∙ at_new ls m)

pub root_is : (ls : List (List (List ℕ))) → AreScopes ls → (0 < length ls) × (list_at ls 0 ≡ [])
root_is ls are = (subst (λ (xs : List (List (List ℕ))). 0 < length xs) (sym are.root.1) (omega arith), ap (λ xs. list_at xs 0) are.root.1)

none_within : (ls : List (List (List ℕ))) (m rest : List (List ℕ)) → AreScopes ls → number_of m ls ≡ None → number_of (m ++ rest) ls ≡ None
none_within ls m [] are h = subst (λ z. number_of z ls ≡ None) (sym (append-nil m)) h
none_within ls m (q ∷ rest) are h = subst (λ z. number_of z ls ≡ None) (append_assoc m (q ∷ []) rest) (none_within ls (within m q) rest are (are.closed m q h))

-- a step down: the modules that are left, behind those of the scope, are all of them
pub step_down : (ls : List (List (List ℕ))) (scope inner : ℕ) (name : List ℕ) (rest total : List (List ℕ)) → list_at ls scope ++ name ∷ rest ≡ total → number_of (within (list_at ls scope) name) ls ≡ Some inner
    → (inner < length ls) × (list_at ls inner ++ rest ≡ total)
step_down ls scope inner name rest total h found =
    let f = number_found ls (within (list_at ls scope) name) inner found in
    (f.0, ap (λ m. m ++ rest) f.1 ∙ (append_assoc (list_at ls scope) (name ∷ []) rest ∙ h))

pub step_none : (ls : List (List (List ℕ))) (scope : ℕ) (name : List ℕ) (rest total : List (List ℕ)) → AreScopes ls → list_at ls scope ++ name ∷ rest ≡ total → number_of (within (list_at ls scope) name) ls ≡ None → number_of total ls ≡ None
step_none ls scope name rest total are h none =
    subst (λ z. number_of z ls ≡ None) (append_assoc (list_at ls scope) (name ∷ []) rest ∙ h) (none_within ls (within (list_at ls scope) name) rest are none)

pub step_end : (ls : List (List (List ℕ))) (scope : ℕ) (rest total : List (List ℕ)) → AreScopes ls → scope < length ls → list_at ls scope ++ rest ≡ total → rest ≡ [] → number_of total ls ≡ Some scope
step_end ls scope rest total are bound h empty =
    let all : list_at ls scope ≡ total = sym (append-nil (list_at ls scope)) ∙ (ap (λ r. list_at ls scope ++ r) (sym empty) ∙ h) in
    subst (λ z. number_of z ls ≡ Some scope) all (number_is ls scope are bound)

-- the same from the empty scope
pub from_root : (ls : List (List (List ℕ))) (name : List ℕ) (rest : List (List ℕ)) → AreScopes ls → list_at ls 0 ++ name ∷ rest ≡ name ∷ rest
from_root ls name rest are = ap (λ m. m ++ name ∷ rest) (root_is ls are).1

pub lists_of_push : (ps qs : List Place) (parent : ℕ) (text name : List ℕ) → qs ≡ ps ++ record { parent = parent; name = text } ∷ [] → text ≡ name → lists qs ≡ lists ps ++ within (list_at (lists ps) parent) name ∷ []
lists_of_push ps qs parent text name is same =
    ap lists is ∙ (lists_push ps (record { parent = parent; name = text }) ∙ ap (λ n. lists ps ++ within (list_at (lists ps) parent) n ∷ []) same)

-- an empty table more changes nothing
pub inner_open : {Y : Type 0} (ls : List (List (List ℕ))) (old new : List (BTreeMap (String Y) ℕ)) → AreInner ls old → length new ≡ suc (length old) → ((s : ℕ) (q : List ℕ) → look new s q ≡ look old s q) → AreInner ls new
inner_open ls old new inner count same = record {
  scopes = inner.scopes;
  counted = (let a = inner.counted in let b : length new ≡ suc (length old) = count in omega (arith, a, b));
  each = λ s q b. same s q ∙ inner.each s q b;
  beyond = λ s q b. same s q ∙ inner.beyond s q b;
}

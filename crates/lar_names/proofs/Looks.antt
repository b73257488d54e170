-- What tables hold after a change.
use Rattle.std.proofs.Common.{◌≡◌, ℕ, ◌≢◌, zero, suc, ◌<◌, ◌≤◌, List, [], ◌∷◌, ◌++◌, length, Some, None, cond, refl, sym, ap, ◌∙◌, arith, inl, inr, get_or, slice_set}
use Rattle.std.specs.Prelude.{slice_get, Result, Ok, Err}
use Rattle.std.specs.Str.{bytes_eq}
use Rattle.std.specs.String.{string_cmp, string_bytes}
use Rattle.std.specs.Ordering.{nat_cmp}
use Rattle.std.specs.Cmp.Lexicographic.{slice_cmp}
use Rattle.std.specs.declared.string.String.{String}
use Rattle.std.specs.BTreeMap.{BTreeMap, get_by_text, UpdatesBy, is_at}
use Rattle.std.specs.Map.{lookup}
use Rattle.std.specs.Result.{OnErr}
use Rattle.std.proofs.lemmas.Bool.Decides.{eqb_tells}
use Rattle.std.proofs.lemmas.Option.{slice_get_past}
use Rattle.std.proofs.lemmas.Map.Text.{btree_map_updates_text}
use Rattle.lar_names.specs.Tables.{look, IsPut}

pub look_none : {V Y : Type 0} (maps : List (BTreeMap (String Y) V)) (s : ℕ) (q : List ℕ) → slice_get maps s ≡ None → look maps s q ≡ None
unfolding look
look_none maps s q e = rw e refl

pub look_some : {V Y : Type 0} (maps : List (BTreeMap (String Y) V)) (s : ℕ) (q : List ℕ) (m : BTreeMap (String Y) V) → slice_get maps s ≡ Some m → look maps s q ≡ get_by_text m q
unfolding look
look_some maps s q m e = rw e refl

pub look_nil : {V Y : Type 0} (maps : List (BTreeMap (String Y) V)) (s : ℕ) (q : List ℕ) → maps ≡ [] → look maps s q ≡ None
unfolding look
look_nil maps s q e = rw e refl

pub look_open : {V Y : Type 0} (maps : List (BTreeMap (String Y) V)) (n : BTreeMap (String Y) V) (s : ℕ) (q : List ℕ) → n.entries ≡ [] → look (maps ++ n ∷ []) s q ≡ look maps s q
unfolding look
look_open [] n zero q e = rw e refl
look_open [] n (suc s) q e = refl
look_open (m ∷ ms) n zero q e = refl
look_open (m ∷ ms) n (suc s) q e = look_open ms n s q e

set_here : {V Y : Type 0} (maps : List (BTreeMap (String Y) V)) (scope : ℕ) (q : List ℕ) (n : BTreeMap (String Y) V) → scope < length maps → look (slice_set maps scope n) scope q ≡ get_by_text n q
unfolding look
set_here [] scope q n h = absurd (omega arith)
set_here (m ∷ ms) zero q n h = refl
set_here (m ∷ ms) (suc k) q n h = set_here ms k q n (omega arith)

set_other : {V Y : Type 0} (maps : List (BTreeMap (String Y) V)) (scope s : ℕ) (q : List ℕ) (n : BTreeMap (String Y) V) → s ≢ scope → look (slice_set maps scope n) s q ≡ look maps s q
unfolding look
set_other [] scope s q n h = refl
set_other (m ∷ ms) zero zero q n h = absurd (h refl)
set_other (m ∷ ms) zero (suc s) q n h = refl
set_other (m ∷ ms) (suc k) zero q n h = refl
set_other (m ∷ ms) (suc k) (suc s) q n h = set_other ms k s q n (λ e. h (ap suc e))

pub look_at : {V Y : Type 0} (maps : List (BTreeMap (String Y) V)) (s : ℕ) (q : List ℕ) (m : BTreeMap (String Y) V) → s < length maps → m ≡ get_or maps s m → look maps s q ≡ get_by_text m q
unfolding look
look_at [] s q m h e = absurd (omega arith)
look_at (x ∷ xs) zero q m h e = ap (λ y. get_by_text y q) (sym e)
look_at (x ∷ xs) (suc s) q m h e = look_at xs s q m (omega arith) e

pub look_past : {V Y : Type 0} (maps : List (BTreeMap (String Y) V)) (s : ℕ) (q : List ℕ) → length maps ≤ s → look maps s q ≡ None
unfolding look
look_past maps s q h = rw (slice_get_past maps s h) refl

pub put : {V Y : Type 0} (maps : List (BTreeMap (String Y) V)) (scope : ℕ) (name : List ℕ) (v : V) (m n : BTreeMap (String Y) V) → scope < length maps → m ≡ get_or maps scope m
    → UpdatesBy string_cmp (λ k. slice_cmp nat_cmp name (string_bytes k)) m n (Some v)
    → IsPut maps (slice_set maps scope n) scope name v
put maps scope name v m n h e up = record {
  here = λ q. set_here maps scope q n h ∙ (btree_map_updates_text name m n (Some v) up q ∙ ap (cond (bytes_eq name q) (Some v)) (sym (look_at maps scope q m h e)));
  others = λ s q h. set_other maps scope s q n h;
}

same_look : {V Y : Type 0} (m n : BTreeMap (String Y) V) (q : List ℕ) → n.entries ≡ m.entries → get_by_text n q ≡ get_by_text m q
same_look m n q e = ap (λ es. lookup (is_at (λ k. slice_cmp nat_cmp q (string_bytes k))) es) e

pub kept : {V Y : Type 0} (maps : List (BTreeMap (String Y) V)) (scope : ℕ) (m n : BTreeMap (String Y) V) → scope < length maps → m ≡ get_or maps scope m
    → n.entries ≡ m.entries → (s : ℕ) (q : List ℕ) → look (slice_set maps scope n) s q ≡ look maps s q
kept maps scope m n h e same s q = elim (eqb_tells s scope) [
  | inl here ↦ ap (λ k. look (slice_set maps scope n) k q) here.1 ∙ (set_here maps scope q n h ∙ (same_look m n q same ∙ (sym (look_at maps scope q m h e) ∙ ap (λ k. look maps k q) (sym here.1))))
  | inr other ↦ set_other maps scope s q n other.1
]

pub on_err : {T E P : Type 0} (r : Result T E) → P → OnErr r P
on_err (Ok x) p = tt
on_err (Err e) p = p

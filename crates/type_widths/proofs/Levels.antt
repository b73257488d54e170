-- Levels of types, and which forms are there.
use Rattle.std.proofs.Common.{◌≡◌, ◌≢◌, ℕ, zero, suc, ◌+◌, ◌-◌, ◌^◌, ◌<◌, ◌≤◌, max, min, List, length, get_or, refl, sym, ap, ◌∙◌, subst as transport, arith, inl, inr, ◌⊎◌, Some, None, Option}
use Rattle.std.proofs.lemmas.Bool.{cases_lt}
use Rattle.std.proofs.lemmas.List.{get_or-set_same, get_or-set_other, length-set}
use Rattle.std.proofs.Math.ListN.{set}
use Rattle.std.specs.Prelude.{Vec, slice_get}
use Rattle.std.specs.Global.{Global}
use Rattle.type_table.specs.declared.row.Row.{Row}
use Rattle.type_table.specs.declared.row.Row.TheVariants.{More, Tuple, Struct}
use Rattle.type_table.specs.declared.decl.StructDecl.{StructDecl}
use Rattle.type_table.specs.TypeOf.{TypeOf, int, bool, param, number, end, more, tuple, struct}
use Rattle.type_table.specs.Rows.{type_at, type_of, types}
use Rattle.type_table.specs.Depth.{Under, fields_of, depth_of, AreFalling}
use Rattle.type_widths.specs.Form.{IsForm, AreForms}
use Rattle.type_widths.specs.Level.{level_of, AreLevels, IsBefore, AreDone}

pub under_level : (depth : ℕ → ℕ) (d : ℕ) (t : TypeOf) → Under depth d t → level_of depth t ≤ d
under_level depth d int u = omega arith
under_level depth d bool u = omega arith
under_level depth d (param k) u = omega arith
under_level depth d (number v) u = omega arith
under_level depth d end u = omega arith
under_level depth d (more t ts) u = let x : level_of depth t ≤ d = under_level depth d t u.0 in let y : level_of depth ts ≤ d = under_level depth d ts u.1 in omega arith
under_level depth d (tuple ts) u = under_level depth d ts u
under_level depth d (struct n ts) u = let x : depth n < d = u.0 in let y : level_of depth ts ≤ d = under_level depth d ts u.1 in omega arith

pub under_wider : (depth : ℕ → ℕ) (d e : ℕ) (t : TypeOf) → d ≤ e → Under depth d t → Under depth e t
under_wider depth d e int l u = tt
under_wider depth d e bool l u = tt
under_wider depth d e (param k) l u = tt
under_wider depth d e (number v) l u = tt
under_wider depth d e end l u = tt
under_wider depth d e (more t ts) l u = (under_wider depth d e t l u.0, under_wider depth d e ts l u.1)
under_wider depth d e (tuple ts) l u = under_wider depth d e ts l u
under_wider depth d e (struct n ts) l u = ((let x : depth n < d = u.0 in omega arith), under_wider depth d e ts l u.1)

early : (depth : ℕ → ℕ) (level i r : ℕ) (t : TypeOf) → level_of depth t ≤ level → r < i → IsBefore depth level i r t
early depth level i r t l h = elim (cases_lt (level_of depth t) level) as (λ _. IsBefore depth level i r t) [ inl b ↦ inl b | inr g ↦ inr (omega arith, h) ]

-- the form of an earlier row whose level is not above this one
pub done_at : (rows : List Row) (structs : List StructDecl) (level i a : ℕ) (forms : List (Vec ℕ Global)) (x : Vec ℕ Global) → AreDone rows structs level i forms → a < length rows → a < i → level_of (depth_of structs) (type_at rows a) ≤ level → x ≡ get_or forms a x → IsForm (fields_of rows structs) (depth_of structs) (type_at rows a) x.items
done_at rows structs level i a forms x h room b l e =
    transport (λ (y : Vec ℕ Global). IsForm (fields_of rows structs) (depth_of structs) (type_at rows a) y.items) (sym e) (h.each a x room (early (depth_of structs) level i a (type_at rows a) l b))

-- the form of a row of a lower level
pub done_below : (rows : List Row) (structs : List StructDecl) (level i a : ℕ) (forms : List (Vec ℕ Global)) (x : Vec ℕ Global) → AreDone rows structs level i forms → a < length rows → level_of (depth_of structs) (type_at rows a) < level → x ≡ get_or forms a x → IsForm (fields_of rows structs) (depth_of structs) (type_at rows a) x.items
done_below rows structs level i a forms x h room l e =
    transport (λ (y : Vec ℕ Global). IsForm (fields_of rows structs) (depth_of structs) (type_at rows a) y.items) (sym e) (h.each a x room (inl l))

pub done_none : (rows : List Row) (structs : List StructDecl) (forms : List (Vec ℕ Global)) → length forms ≡ length rows → AreDone rows structs 0 0 forms
done_none rows structs forms e = record {
  count = e;
  each = λ r x room b. elim b as (λ _. IsForm (fields_of rows structs) (depth_of structs) (type_at rows r) (get_or forms r x).items) [ inl l ↦ absurd (omega arith) | inr p ↦ absurd (let q : r < 0 = p.1 in omega arith) ];
}

pub done_level : (rows : List Row) (structs : List StructDecl) (level i : ℕ) (forms : List (Vec ℕ Global)) → i ≡ length rows → AreDone rows structs level i forms → AreDone rows structs (level + 1) 0 forms
done_level rows structs level i forms e h = record {
  count = h.count;
  each = λ r x room b. elim b as (λ _. IsForm (fields_of rows structs) (depth_of structs) (type_at rows r) (get_or forms r x).items) [ inl l ↦ h.each r x room (early (depth_of structs) level i r (type_at rows r) (omega arith) (omega arith)) | inr p ↦ absurd (let q : r < 0 = p.1 in omega arith) ];
}

pub done_skip : (rows : List Row) (structs : List StructDecl) (level i : ℕ) (forms : List (Vec ℕ Global)) → level_of (depth_of structs) (type_at rows i) ≢ level → AreDone rows structs level i forms → AreDone rows structs level (i + 1) forms
done_skip rows structs level i forms other h = record {
  count = h.count;
  each = λ r x room b. elim b as (λ _. IsForm (fields_of rows structs) (depth_of structs) (type_at rows r) (get_or forms r x).items) [ inl l ↦ h.each r x room (inl l) | inr p ↦ h.each r x room (inr (p.0, before r p)) ];
}
  where
    before : (r : ℕ) → (level_of (depth_of structs) (type_at rows r) ≡ level) × (r < i + 1) → r < i
    before r p = elim (cases_lt r i) as (λ _. r < i) [ inl l ↦ l | inr g ↦ absurd (other (ap (λ (n : ℕ). level_of (depth_of structs) (type_at rows n)) (let q : r < i + 1 = p.1 in let e : i ≡ r = omega arith in e) ∙ p.0)) ]

low_level : (depth : ℕ → ℕ) → ((n : ℕ) → depth n < 64) → (t : TypeOf) → level_of depth t ≤ 64
low_level depth low int = omega arith
low_level depth low bool = omega arith
low_level depth low (param k) = omega arith
low_level depth low (number v) = omega arith
low_level depth low end = omega arith
low_level depth low (more t ts) = let x : level_of depth t ≤ 64 = low_level depth low t in let y : level_of depth ts ≤ 64 = low_level depth low ts in omega arith
low_level depth low (tuple ts) = low_level depth low ts
low_level depth low (struct n ts) = let x : depth n < 64 = low n in let y : level_of depth ts ≤ 64 = low_level depth low ts in omega arith

pub done_all : (rows : List Row) (structs : List StructDecl) (levels : List ℕ) (most last : ℕ) (forms : List (Vec ℕ Global)) → length levels ≡ length rows → AreLevels rows structs levels → AreFalling rows structs → ((r : ℕ) → r < length levels → get_or levels r 0 ≤ most) → min most 64 < last → AreDone rows structs last 0 forms → AreForms rows structs forms
done_all rows structs levels most last forms e l f m above h = record {
  count = h.count;
  each = λ r x room.
      let there : r < length levels = omega arith in
      let is : get_or levels r 0 ≡ level_of (depth_of structs) (type_at rows r) = l.each r 0 there in
      let low : get_or levels r 0 ≤ most = m r there in
      let cut : level_of (depth_of structs) (type_at rows r) ≤ 64 = low_level (depth_of structs) f.shallow (type_at rows r) in
      h.each r x room (inl (omega arith));
}

pub more_level : (rows : List Row) (structs : List StructDecl) (levels : List ℕ) (r a b m : ℕ) → type_at rows r ≡ type_of (types rows) (More a b) → (a < r) × (b < r) → r ≡ length levels → AreLevels rows structs levels → m ≡ max (get_or levels a 0) (get_or levels b 0) → m ≡ level_of (depth_of structs) (type_at rows r)
unfolding type_at
more_level rows structs levels r a b m is early here l e =
    let la : a < r = early.0 in
    let lb : b < r = early.1 in
    let x : get_or levels a 0 ≡ level_of (depth_of structs) (type_at rows a) = l.each a 0 (omega arith) in
    let y : get_or levels b 0 ≡ level_of (depth_of structs) (type_at rows b) = l.each b 0 (omega arith) in
    let z : level_of (depth_of structs) (type_at rows r) ≡ max (level_of (depth_of structs) (type_at rows a)) (level_of (depth_of structs) (type_at rows b)) = ap (level_of (depth_of structs)) is in
    omega arith

pub parts_level : (rows : List Row) (structs : List StructDecl) (levels : List ℕ) (r a : ℕ) → type_at rows r ≡ type_of (types rows) (Tuple a) → a < r → r ≡ length levels → AreLevels rows structs levels → get_or levels a 0 ≡ level_of (depth_of structs) (type_at rows r)
unfolding type_at
parts_level rows structs levels r a is la here l =
    let x : get_or levels a 0 ≡ level_of (depth_of structs) (type_at rows a) = l.each a 0 (omega arith) in
    let z : level_of (depth_of structs) (type_at rows r) ≡ level_of (depth_of structs) (type_at rows a) = ap (level_of (depth_of structs)) is in
    omega arith

pub struct_level : (rows : List Row) (structs : List StructDecl) (levels : List ℕ) (r n a k s m : ℕ) → type_at rows r ≡ type_of (types rows) (Struct n a) → a < r → r ≡ length levels → AreLevels rows structs levels → AreFalling rows structs → k ≡ depth_of structs n → s ≡ min (k + 1) (2 ^ 64 - 1) → m ≡ max s (get_or levels a 0) → m ≡ level_of (depth_of structs) (type_at rows r)
unfolding type_at
struct_level rows structs levels r n a k s m is la here l f d e g =
    let x : get_or levels a 0 ≡ level_of (depth_of structs) (type_at rows a) = l.each a 0 (omega arith) in
    let z : level_of (depth_of structs) (type_at rows r) ≡ max (suc (depth_of structs n)) (level_of (depth_of structs) (type_at rows a)) = ap (level_of (depth_of structs)) is in
    let low : depth_of structs n < 64 = f.shallow n in
    omega arith

pub most_more : (levels : List ℕ) (i old new : ℕ) → ((r : ℕ) → r < i → get_or levels r 0 ≤ old) → new ≡ max old (get_or levels i 0) → (r : ℕ) → r < i + 1 → get_or levels r 0 ≤ new
most_more levels i old new h e r b = elim (cases_lt r i) as (λ _. get_or levels r 0 ≤ new) [ inl l ↦ (let x : get_or levels r 0 ≤ old = h r l in omega arith) | inr g ↦ (let same : r ≡ i = omega arith in let x : get_or levels r 0 ≡ get_or levels i 0 = ap (λ (k : ℕ). get_or levels k 0) same in omega arith) ]

pub done_set : (rows : List Row) (structs : List StructDecl) (level i : ℕ) (old new : List (Vec ℕ Global)) (x : Vec ℕ Global) → i < length rows → AreDone rows structs level i old → IsForm (fields_of rows structs) (depth_of structs) (type_at rows i) x.items → new ≡ set old i x → AreDone rows structs level (i + 1) new
done_set rows structs level i old new x room h one is = rw is (record {
  count = length-set old i x ∙ h.count;
  each = λ r d here b. at_row r d here b (cases_lt r i) (cases_lt i r);
})
  where
    same : (r : ℕ) (d : Vec ℕ Global) → r ≡ i → IsForm (fields_of rows structs) (depth_of structs) (type_at rows r) (get_or (set old i x) r d).items
    same r d e =
        let c : length old ≡ length rows = h.count in
        let g : get_or (set old i x) i d ≡ x = get_or-set_same old i x d (omega arith) in
        transport (λ (k : ℕ). IsForm (fields_of rows structs) (depth_of structs) (type_at rows k) (get_or (set old i x) k d).items) (sym e) (transport (λ (y : Vec ℕ Global). IsForm (fields_of rows structs) (depth_of structs) (type_at rows i) y.items) (sym g) one)

    other : (r : ℕ) (d : Vec ℕ Global) → r ≢ i → r < length rows → IsBefore (depth_of structs) level i r (type_at rows r) → IsForm (fields_of rows structs) (depth_of structs) (type_at rows r) (get_or (set old i x) r d).items
    other r d e here b = transport (λ (y : Vec ℕ Global). IsForm (fields_of rows structs) (depth_of structs) (type_at rows r) y.items) (sym (get_or-set_other old i r x d e)) (h.each r d here b)

    narrow : (r : ℕ) → r ≢ i → IsBefore (depth_of structs) level (i + 1) r (type_at rows r) → IsBefore (depth_of structs) level i r (type_at rows r)
    narrow r e b = elim b as (λ _. IsBefore (depth_of structs) level i r (type_at rows r)) [ inl l ↦ inl l | inr p ↦ inr (p.0, (let q : r < i + 1 = p.1 in omega arith)) ]

    at_row : (r : ℕ) (d : Vec ℕ Global) → r < length rows → IsBefore (depth_of structs) level (i + 1) r (type_at rows r) → (r < i) ⊎ (i ≤ r) → (i < r) ⊎ (r ≤ i) → IsForm (fields_of rows structs) (depth_of structs) (type_at rows r) (get_or (set old i x) r d).items
    at_row r d here b (inl l) q = let e : r ≢ i = λ s. absurd (omega arith) in other r d e here (narrow r e b)
    at_row r d here b (inr g) (inl l) = let e : r ≢ i = λ s. absurd (omega arith) in other r d e here (narrow r e b)
    at_row r d here b (inr g) (inr l) = same r d (omega arith)

-- What lists of entries know: after puts, after something was learned, and with one entry more.
use Rattle.std.proofs.Common.{◌≡◌, ◌≢◌, ℕ, zero, suc, ◌-◌, ◌<◌, ◌≤◌, ◌^◌, ◌==◌, Bool, true, false, if◌then◌else◌, List, [], ◌∷◌, ◌++◌, length, get_or, inl, inr, refl, sym, ap, ◌∙◌, length-append, arith}
use Rattle.std.proofs.Math.ListN.{set, length-set}
use Rattle.std.proofs.Math.Path.{fun_ext}
use Rattle.std.proofs.lemmas.Bool.{cases_lt, ne_eqb}
use Rattle.std.proofs.lemmas.Bool.Decides.{eqb_tells, leb_tells}
use Rattle.std.proofs.lemmas.List.{get_or-set_same, get_or-set_other, get_or_append_left, get_or-append_right}
use lib.Dec.{leb}
use Rattle.opt_slots.specs.Slots.{only}
use Rattle.opt_known.specs.declared.entry.Entry.{Entry}
use Rattle.opt_known.specs.Facts.{PlainFact, nothing, is_word, is_load, nothing_known, unless_named, forget, with_fact}
use Rattle.opt_known.specs.Table.{fact_view, outside, entry_at, counts, facts_in, InTime}

-- how a list that is short ends
pub get_or-behind : (xs : List Entry) (k : ℕ) (d : Entry) → length xs ≤ k → get_or xs k d ≡ d
get_or-behind [] k d h = refl
get_or-behind (x ∷ xs) zero d h = absurd (omega arith)
get_or-behind (x ∷ xs) (suc k) d h = get_or-behind xs k d (omega arith)

-- what a list does not end before does not depend on what stands behind its end
pub get_or-there : (xs : List Entry) (k : ℕ) (d e : Entry) → k < length xs → get_or xs k d ≡ get_or xs k e
get_or-there [] k d e h = absurd (omega arith)
get_or-there (x ∷ xs) zero d e h = refl
get_or-there (x ∷ xs) (suc k) d e h = get_or-there xs k d e (omega arith)

learned_in_time : (c : ℕ) (xs : List Entry) → InTime c xs → (k : ℕ) → (entry_at xs k).learned ≤ c
unfolding outside
learned_in_time c xs time k =
    elim (cases_lt k (length xs)) [
      | inl lt ↦ (time k lt).0
      | inr le ↦ omega (arith, ap (λ (x : Entry). x.learned) (get_or-behind xs k outside le))
    ]

-- facts that name a slot depend on the times of puts alone
counts-same : (xs ys : List Entry) (l : ℕ) (f : PlainFact) → ((t : ℕ) → (entry_at ys t).written ≡ (entry_at xs t).written) → counts ys l f ≡ counts xs l f
counts-same xs ys l nothing same = refl
counts-same xs ys l (is_word v) same = refl
counts-same xs ys l (is_load t) same = ap (λ w. if leb w l then is_load t else nothing) (same t)

written_kept : (xs : List Entry) (s : ℕ) (e : Entry) → s < length xs → e.written ≡ (entry_at xs s).written → (t : ℕ) → (entry_at (set xs s e) t).written ≡ (entry_at xs t).written
written_kept xs s e h same t =
    elim (eqb_tells t s) [
      | inl is ↦ ap (λ k. (entry_at (set xs s e) k).written) is.1 ∙ ap (λ (x : Entry). x.written) (get_or-set_same xs s e outside h) ∙ same ∙ ap (λ k. (entry_at xs k).written) (sym is.1)
      | inr other ↦ ap (λ (x : Entry). x.written) (get_or-set_other xs s t e outside other.1)
    ]

fact_at : List Entry → Entry → PlainFact
fact_at ys x = counts ys x.learned (fact_view x.fact)

learned_at : (xs : List Entry) (s : ℕ) (e : Entry) (f : PlainFact) → s < length xs → e.written ≡ (entry_at xs s).written → counts xs e.learned (fact_view e.fact) ≡ f
    → (k : ℕ) → fact_at (set xs s e) (entry_at (set xs s e) k) ≡ (if k == s then f else fact_at xs (entry_at xs k))
unfolding fact_at
learned_at xs s e f h same is_f k =
    let kept = written_kept xs s e h same in
    elim (eqb_tells k s) [
      | inl is ↦ ap (λ j. fact_at (set xs s e) (entry_at (set xs s e) j)) is.1
          ∙ ap (fact_at (set xs s e)) (get_or-set_same xs s e outside h)
          ∙ counts-same xs (set xs s e) e.learned (fact_view e.fact) kept
          ∙ is_f
          ∙ sym (ap (λ b. if b then f else fact_at xs (entry_at xs k)) is.0)
      | inr other ↦ ap (fact_at (set xs s e)) (get_or-set_other xs s k e outside other.1)
          ∙ counts-same xs (set xs s e) (entry_at xs k).learned (fact_view (entry_at xs k).fact) kept
          ∙ sym (ap (λ b. if b then f else fact_at xs (entry_at xs k)) other.0)
    ]

-- something was learned of a slot
pub facts_in-learned : (xs : List Entry) (s : ℕ) (e : Entry) (f : PlainFact) → s < length xs → e.written ≡ (entry_at xs s).written → counts xs e.learned (fact_view e.fact) ≡ f
    → facts_in (set xs s e) ≡ with_fact s f (facts_in xs)
unfolding facts_in with_fact fact_at
facts_in-learned xs s e f h same is_f = fun_ext (λ k. learned_at xs s e f h same is_f k)

-- what was learned now of another slot counts
pub counts-now : (c : ℕ) (xs : List Entry) (t : ℕ) → InTime c xs → t < length xs → counts xs c (is_load t) ≡ is_load t
counts-now c xs t time h =
    elim (leb_tells (entry_at xs t).written c) [
      | inl is ↦ ap (λ b. if b then is_load t else nothing) is.0
      | inr other ↦ let low = (time t h).1 in absurd (omega (arith, other.1, low))
    ]

named_elsewhere : (gone : Bool) (b : Bool) (t : ℕ) → gone ≡ false → (if b then is_load t else nothing) ≡ (if b then (if gone then nothing else is_load t) else nothing)
named_elsewhere gone true t unnamed = sym (ap (λ g. if g then nothing else is_load t) unnamed)
named_elsewhere gone false t unnamed = refl

unless_named-if : (gone : ℕ → Bool) (b : Bool) (t : ℕ) → unless_named gone (if b then is_load t else nothing) ≡ (if b then (if gone t then nothing else is_load t) else nothing)
unless_named-if gone true t = refl
unless_named-if gone false t = refl

all_nothing : (b : Bool) → (if b then nothing else nothing) ≡ nothing
all_nothing true = refl
all_nothing false = refl

load_put : (c : ℕ) (xs : List Entry) (s : ℕ) (e : Entry) (l t : ℕ) → s < length xs → c < e.written → l ≤ c
    → counts (set xs s e) l (is_load t) ≡ (if leb (entry_at xs t).written l then (if t == s then nothing else is_load t) else nothing)
load_put c xs s e l t h late low =
    elim (eqb_tells t s) [
      | inl is ↦ elim (leb_tells (entry_at (set xs s e) t).written l) [
        | inl early ↦
            let at : (entry_at (set xs s e) t).written ≡ e.written = ap (λ k. (entry_at (set xs s e) k).written) is.1 ∙ ap (λ (x : Entry). x.written) (get_or-set_same xs s e outside h) in
            absurd (omega (arith, at, early.1))
        | inr past ↦ ap (λ b. if b then is_load t else nothing) past.0
            ∙ sym (ap (λ b. if leb (entry_at xs t).written l then (if b then nothing else is_load t) else nothing) is.0 ∙ all_nothing (leb (entry_at xs t).written l))
      ]
      | inr other ↦ ap (λ w. if leb w l then is_load t else nothing) (ap (λ (x : Entry). x.written) (get_or-set_other xs s t e outside other.1))
          ∙ named_elsewhere (t == s) (leb (entry_at xs t).written l) t other.0
    ]

counts-put : (c : ℕ) (xs : List Entry) (s : ℕ) (e : Entry) (l : ℕ) (f : PlainFact) → s < length xs → c < e.written → l ≤ c → counts (set xs s e) l f ≡ unless_named (only s) (counts xs l f)
unfolding only
counts-put c xs s e l nothing h late low = refl
counts-put c xs s e l (is_word v) h late low = refl
counts-put c xs s e l (is_load t) h late low = load_put c xs s e l t h late low ∙ sym (unless_named-if (only s) (leb (entry_at xs t).written l) t)

put_at : (c : ℕ) (xs : List Entry) (s : ℕ) (e : Entry) → InTime c xs → s < length xs → c < e.written → fact_view e.fact ≡ nothing
    → (k : ℕ) → fact_at (set xs s e) (entry_at (set xs s e) k) ≡ (if only s k then nothing else unless_named (only s) (fact_at xs (entry_at xs k)))
unfolding fact_at only
put_at c xs s e time h late none k =
    let r = unless_named (only s) (fact_at xs (entry_at xs k)) in
    elim (eqb_tells k s) [
      | inl is ↦ ap (λ j. fact_at (set xs s e) (entry_at (set xs s e) j)) is.1
          ∙ ap (fact_at (set xs s e)) (get_or-set_same xs s e outside h)
          ∙ ap (counts (set xs s e) e.learned) none
          ∙ sym (ap (λ b. if b then nothing else r) is.0)
      | inr other ↦ ap (fact_at (set xs s e)) (get_or-set_other xs s k e outside other.1)
          ∙ counts-put c xs s e (entry_at xs k).learned (fact_view (entry_at xs k).fact) h late (learned_in_time c xs time k)
          ∙ sym (ap (λ b. if b then nothing else r) other.0)
    ]

-- words were put into a slot at a later time
pub facts_in-put : (c : ℕ) (xs : List Entry) (s : ℕ) (e : Entry) → InTime c xs → s < length xs → c < e.written → fact_view e.fact ≡ nothing → facts_in (set xs s e) ≡ forget (only s) (facts_in xs)
unfolding facts_in forget fact_at
facts_in-put c xs s e time h late none = fun_ext (λ k. put_at c xs s e time h late none k)

-- a fact that counts names a slot that has an entry
counts-out : (c : ℕ) (xs : List Entry) (a : ℕ → Bool) (l : ℕ) (f : PlainFact) → c < 2 ^ 64 → l ≤ c → ((k : ℕ) → k < length xs → a k ≡ false) → unless_named a (counts xs l f) ≡ counts xs l f
unfolding outside
counts-out c xs a l nothing top low out = refl
counts-out c xs a l (is_word v) top low out = refl
counts-out c xs a l (is_load t) top low out =
    elim (cases_lt t (length xs)) [
      | inl lt ↦ unless_named-if a (leb (entry_at xs t).written l) t ∙ sym (named_elsewhere (a t) (leb (entry_at xs t).written l) t (out t lt))
      | inr le ↦ elim (leb_tells (entry_at xs t).written l) [
        | inl early ↦ absurd (omega (arith, early.1, ap (λ (x : Entry). x.written) (get_or-behind xs t outside le)))
        | inr past ↦ ap (λ b. unless_named a (if b then is_load t else nothing)) past.0 ∙ sym (ap (λ b. if b then is_load t else nothing) past.0)
      ]
    ]

out_at : (c : ℕ) (xs : List Entry) (a : ℕ → Bool) → InTime c xs → c < 2 ^ 64 → ((k : ℕ) → k < length xs → a k ≡ false)
    → (k : ℕ) → (if a k then nothing else unless_named a (fact_at xs (entry_at xs k))) ≡ fact_at xs (entry_at xs k)
unfolding fact_at outside
out_at c xs a time top out k =
    let same = counts-out c xs a (entry_at xs k).learned (fact_view (entry_at xs k).fact) top (learned_in_time c xs time k) out in
    elim (cases_lt k (length xs)) [
      | inl lt ↦ ap (λ b. if b then nothing else unless_named a (fact_at xs (entry_at xs k))) (out k lt) ∙ same
      | inr le ↦
          let none : fact_at xs (entry_at xs k) ≡ nothing = ap (fact_at xs) (get_or-behind xs k outside le) in
          ap (λ f. if a k then nothing else unless_named a f) none ∙ all_nothing (a k) ∙ sym none
    ]

-- nothing is known of slots without an entry
pub forget-out : (c : ℕ) (xs : List Entry) (a : ℕ → Bool) → InTime c xs → c < 2 ^ 64 → ((k : ℕ) → k < length xs → a k ≡ false) → forget a (facts_in xs) ≡ facts_in xs
unfolding facts_in forget fact_at
forget-out c xs a time top out = fun_ext (λ k. out_at c xs a time top out k)

written_behind : (c : ℕ) (xs : List Entry) (e : Entry) (t : ℕ) → c < 2 ^ 64 → c < e.written → length xs ≤ t → c < (entry_at (xs ++ e ∷ []) t).written
unfolding outside
written_behind c xs e t top late le =
    let at : entry_at (xs ++ e ∷ []) t ≡ get_or (e ∷ []) (t - length xs) outside = get_or-append_right xs (e ∷ []) (length xs) t outside refl le in
    elim (eqb_tells t (length xs)) [
      | inl is ↦
          let zeroth : t - length xs ≡ 0 = omega (arith, is.1) in
          let whole : entry_at (xs ++ e ∷ []) t ≡ e = at ∙ ap (λ k. get_or (e ∷ []) k outside) zeroth in
          omega (arith, ap (λ (x : Entry). x.written) whole)
      | inr other ↦
          let positive : 1 ≤ t - length xs = omega (arith, other.1) in
          let whole : entry_at (xs ++ e ∷ []) t ≡ outside = at ∙ get_or-behind (e ∷ []) (t - length xs) outside positive in
          omega (arith, ap (λ (x : Entry). x.written) whole)
    ]

pushed_behind : (c : ℕ) (xs : List Entry) (e : Entry) (l t : ℕ) → c < 2 ^ 64 → l ≤ c → c < e.written → length xs ≤ t → counts (xs ++ e ∷ []) l (is_load t) ≡ counts xs l (is_load t)
unfolding outside
pushed_behind c xs e l t top low late le =
    elim (leb_tells (entry_at (xs ++ e ∷ []) t).written l) [
      | inl early ↦ absurd (omega (arith, early.1, written_behind c xs e t top late le))
      | inr past ↦ ap (λ b. if b then is_load t else nothing) past.0 ∙ sym (elim (leb_tells (entry_at xs t).written l) [
        | inl early ↦ absurd (omega (arith, early.1, ap (λ (x : Entry). x.written) (get_or-behind xs t outside le)))
        | inr past ↦ ap (λ b. if b then is_load t else nothing) past.0
      ])
    ]

-- an entry more, with nothing known, into whose slot words were put later than anything was learned
entry_at-pushed : (c : ℕ) (xs : List Entry) (e : Entry) (l : ℕ) (f : PlainFact) → c < 2 ^ 64 → l ≤ c → c < e.written → counts (xs ++ e ∷ []) l f ≡ counts xs l f
unfolding outside
entry_at-pushed c xs e l nothing top low late = refl
entry_at-pushed c xs e l (is_word v) top low late = refl
entry_at-pushed c xs e l (is_load t) top low late =
    elim (cases_lt t (length xs)) [
      | inl lt ↦ ap (λ (x : Entry). if leb x.written l then is_load t else nothing) (get_or_append_left xs (e ∷ []) outside t lt)
      | inr le ↦ pushed_behind c xs e l t top low late le
    ]

nothing_behind : (xs : List Entry) (e : Entry) → fact_view e.fact ≡ nothing → (k : ℕ) → fact_at (xs ++ e ∷ []) (get_or (e ∷ []) k outside) ≡ nothing
unfolding fact_at outside
nothing_behind xs e none zero = ap (counts (xs ++ e ∷ []) e.learned) none
nothing_behind xs e none (suc k) = refl

pushed_at : (c : ℕ) (xs : List Entry) (e : Entry) → InTime c xs → c < 2 ^ 64 → c < e.written → fact_view e.fact ≡ nothing
    → (k : ℕ) → fact_at (xs ++ e ∷ []) (entry_at (xs ++ e ∷ []) k) ≡ fact_at xs (entry_at xs k)
unfolding fact_at outside
pushed_at c xs e time top late none k =
    elim (cases_lt k (length xs)) [
      | inl lt ↦ ap (fact_at (xs ++ e ∷ [])) (get_or_append_left xs (e ∷ []) outside k lt)
          ∙ entry_at-pushed c xs e (entry_at xs k).learned (fact_view (entry_at xs k).fact) top (learned_in_time c xs time k) late
      | inr le ↦
          let was : fact_at xs (entry_at xs k) ≡ nothing = ap (fact_at xs) (get_or-behind xs k outside le) in
          let at : entry_at (xs ++ e ∷ []) k ≡ get_or (e ∷ []) (k - length xs) outside = get_or-append_right xs (e ∷ []) (length xs) k outside refl le in
          ap (fact_at (xs ++ e ∷ [])) at ∙ nothing_behind xs e none (k - length xs) ∙ sym was
    ]

pub facts_in-pushed : (c : ℕ) (xs : List Entry) (e : Entry) → InTime c xs → c < 2 ^ 64 → c < e.written → fact_view e.fact ≡ nothing → facts_in (xs ++ e ∷ []) ≡ facts_in xs
unfolding facts_in fact_at
facts_in-pushed c xs e time top late none = fun_ext (λ k. pushed_at c xs e time top late none k)

pub facts_in-none : facts_in [] ≡ nothing_known
unfolding facts_in nothing_known outside
facts_in-none = fun_ext (λ k. refl)

pub InTime-put : (c d : ℕ) (xs : List Entry) (s : ℕ) (e : Entry) → InTime c xs → c ≤ d → e.learned ≤ d → e.written ≤ d → InTime d (set xs s e)
InTime-put c d xs s e time later l w k h =
    elim (eqb_tells k s) [
      | inl is ↦
          let there : s < length xs = omega (arith, h, is.1, length-set xs s e) in
          let at : entry_at (set xs s e) k ≡ e = ap (entry_at (set xs s e)) is.1 ∙ get_or-set_same xs s e outside there in
          (omega (arith, ap (λ (x : Entry). x.learned) at), omega (arith, ap (λ (x : Entry). x.written) at))
      | inr other ↦
          let at : entry_at (set xs s e) k ≡ entry_at xs k = get_or-set_other xs s k e outside other.1 in
          let lt : k < length xs = omega (arith, h, length-set xs s e) in
          let was = time k lt in
          (omega (arith, was.0, ap (λ (x : Entry). x.learned) at), omega (arith, was.1, ap (λ (x : Entry). x.written) at))
    ]

pub InTime-later : (c d : ℕ) (xs : List Entry) → InTime c xs → c ≤ d → InTime d xs
InTime-later c d xs time later k h = let was = time k h in (omega (arith, was.0), omega (arith, was.1))

pub InTime-pushed : (c d : ℕ) (xs : List Entry) (e : Entry) → InTime c xs → c ≤ d → e.learned ≤ d → e.written ≤ d → InTime d (xs ++ e ∷ [])
InTime-pushed c d xs e time later l w k h =
    elim (cases_lt k (length xs)) [
      | inl lt ↦
          let at : entry_at (xs ++ e ∷ []) k ≡ entry_at xs k = get_or_append_left xs (e ∷ []) outside k lt in
          let was = time k lt in
          (omega (arith, was.0, ap (λ (x : Entry). x.learned) at), omega (arith, was.1, ap (λ (x : Entry). x.written) at))
      | inr le ↦
          let zeroth : k - length xs ≡ 0 = omega (arith, h, length-append xs (e ∷ [])) in
          let at : entry_at (xs ++ e ∷ []) k ≡ e = get_or-append_right xs (e ∷ []) (length xs) k outside refl le ∙ ap (λ j. get_or (e ∷ []) j outside) zeroth in
          (omega (arith, ap (λ (x : Entry). x.learned) at), omega (arith, ap (λ (x : Entry). x.written) at))
    ]

pub no_place : (s k : ℕ) → k ≢ s → only s k ≡ false
unfolding only
no_place s k h = ne_eqb k s h

-- what the entry of a slot tells of it
pub facts_in-at : (xs : List Entry) (k : ℕ) (e : Entry) → k < length xs → e ≡ get_or xs k e → facts_in xs k ≡ counts xs e.learned (fact_view e.fact)
unfolding facts_in
facts_in-at xs k e h is = ap (λ (x : Entry). counts xs x.learned (fact_view x.fact)) (get_or-there xs k outside e h ∙ sym is)

pub written_as : (xs : List Entry) (k : ℕ) (e : Entry) → k < length xs → e ≡ get_or xs k e → e.written ≡ (entry_at xs k).written
written_as xs k e h is = ap (λ (x : Entry). x.written) (is ∙ get_or-there xs k e outside h)

-- a slot without an entry was put into later than anything was learned
pub counts-behind : (c : ℕ) (xs : List Entry) (l t : ℕ) → c < 2 ^ 64 → l ≤ c → length xs ≤ t → counts xs l (is_load t) ≡ nothing
unfolding outside
counts-behind c xs l t top low le =
    elim (leb_tells (entry_at xs t).written l) [
      | inl early ↦ absurd (omega (arith, early.1, ap (λ (x : Entry). x.written) (get_or-behind xs t outside le)))
      | inr past ↦ ap (λ b. if b then is_load t else nothing) past.0
    ]

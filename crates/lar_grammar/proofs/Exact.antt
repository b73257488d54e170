-- The machine's fault is the first fault of the grammar.
use Rattle.std.proofs.Common.{◌≡◌, ℕ, ◌+◌, ◌≤◌, ◌⊎◌, inl, inr, List, [], ◌∷◌, ◌++◌, length, Option, Some, None, true, false, refl, sym, ap, ◌∙◌, subst, append_assoc, append-nil, arith, length-append}
use Rattle.std.proofs.Math.Seq.{take-append_seam, take-append-add}
use Rattle.lar_tree.specs.declared.token.Token.{Token}
use Rattle.lar_tree.specs.Items.{PlainItems, GroupedItems, flat_items}
use Rattle.lar_tree.specs.Marks.{Marked, un, unmarked, marked_program}
use Rattle.lar_tree.specs.Programs.{Spells, Begins, IsFirstFault}
use Rattle.lar_tree.specs.Marks.{tokens_of}
use Rattle.lar_tree.proofs.MarkedTokens.{tokens-append, tokens-unmarked, tokens-items}
use Rattle.lar_tree.proofs.MarkedTokens as marked_tokens
use Rattle.lar_grammar.specs.Symbols.{program}
use Rattle.lar_grammar.specs.Machine.{fault}
use Rattle.lar_grammar.proofs.Taking.{alone}
use Rattle.lar_grammar.proofs.Going.{stops}
use Rattle.lar_grammar.proofs.GoesItems.{program_goes}
use Rattle.lar_grammar.proofs.Faults.{suffix, Late, late, early, viable, whole}

tokens-program : (p : PlainItems) → tokens_of (marked_program p) ≡ flat_items p
tokens-program p = tokens-items 64 p

-- ---- marks

-- no mark where nothing stops before w
clean : (a w : List Token) (ms : List Marked) → tokens_of ms ≡ a ++ w → Late (length w) (stops ms None [] (λ r. None)) → (others : List Marked) × (ms ≡ unmarked a ++ others)
clean [] w ms b l = (ms, refl)
clean (x ∷ a) w [] b l = cc
clean (x ∷ a) w ((t, true) ∷ ms) b l = absurd (omega (arith, l, ap length b, length-append a w, ap length (append-nil (tokens_of ms))))
clean (x ∷ a) w ((t, false) ∷ ms) b l =
    let same : t ≡ x = cc in
    let behind : tokens_of ms ≡ a ++ w = cc in
    let c = clean a w ms behind l in
    (c.0, ap (λ z. un z ∷ ms) same ∙ ap (λ z. un x ∷ z) c.1)

stops_short : (ms : List Marked) (r : List Token) → stops ms None [] (λ r. None) ≡ Some r → length r ≤ length (tokens_of ms)
stops_short [] r e = cc
stops_short ((t, true) ∷ ms) r e = let same : t ∷ (tokens_of ms ++ []) ≡ r = cc in omega (arith, ap length same, ap length (append-nil (tokens_of ms)))
stops_short ((t, false) ∷ ms) r e = omega (arith, stops_short ms r e)

past : (a : List Token) (ms : List Marked) (r : List Token) → stops (unmarked a ++ ms) None [] (λ r. None) ≡ Some r → length r ≤ length (tokens_of ms)
past [] ms r e = stops_short ms r e
past (x ∷ a) ms r e = past a ms r e

unmarked_goes : (ts : List Token) → stops (unmarked ts) None [] (λ r. None) ≡ None
unmarked_goes [] = refl
unmarked_goes (t ∷ ts) = unmarked_goes ts

no_more : (ts : List Token) (ms : List Marked) → length (ts ++ tokens_of ms) ≡ length ts → ms ≡ []
no_more ts [] z = refl
no_more ts (m ∷ ms) z = absurd (omega (arith, z, length-append ts (tokens_of (m ∷ ms))))

-- ---- the tokens before a fault begin a program

pub begins : (a rest : List Token) → fault (a ++ rest) None (program ∷ []) ≡ Some rest → Begins a
begins a rest f =
    let v = viable a None (program ∷ []) rest f in
    let p = alone program (a ++ v.0) v.1 in
    let l = late a None (program ∷ []) rest v.0 f in
    let at : fault (a ++ v.0) None (program ∷ []) ≡ stops (marked_program p.0) None [] (λ r. None) = ap (λ x. fault x None (program ∷ [])) (sym p.2) ∙ program_goes p.0 p.1 in
    let c = clean a v.0 (marked_program p.0) (tokens-program p.0 ∙ p.2) (subst (Late (length v.0)) at l) in
    (p.0, c.0, p.1, c.1)

-- and with the one that is at fault they do not
pub begins_not : (a rest : List Token) (t : Token) → fault (a ++ t ∷ rest) None (program ∷ []) ≡ Some (t ∷ rest) → Begins (a ++ t ∷ []) → ⊥
begins_not a rest t f b =
    let w = tokens_of b.1 in
    let spelled : flat_items b.0 ≡ a ++ t ∷ w = sym (tokens-program b.0) ∙ ap tokens_of b.3 ∙ tokens-append (unmarked (a ++ t ∷ [])) b.1 ∙ ap (λ x. x ++ w) (tokens-unmarked (a ++ t ∷ [])) ∙ append_assoc a (t ∷ []) w in
    let here : fault (a ++ t ∷ w) None (program ∷ []) ≡ Some (t ∷ w) = early a t rest w None (program ∷ []) f in
    let there : stops (marked_program b.0) None [] (λ r. None) ≡ Some (t ∷ w) = sym (program_goes b.0 b.2) ∙ ap (λ x. fault x None (program ∷ [])) spelled ∙ here in
    let e : stops (unmarked (a ++ t ∷ []) ++ b.1) None [] (λ r. None) ≡ Some (t ∷ w) = ap (λ x. stops x None [] (λ r. None)) (sym b.3) ∙ there in
    absurd (omega (arith, past (a ++ t ∷ []) b.1 (t ∷ w) e))

-- tokens with a fault are no program
pub spells_not : (ts rest : List Token) → fault ts None (program ∷ []) ≡ Some rest → (p : PlainItems) → Spells p ts → ⊥
spells_not ts rest f p s =
    let z : Some rest ≡ None = sym f ∙ ap (λ x. fault x None (program ∷ [])) (sym (marked_tokens.spelled p ts s)) ∙ program_goes p s.0 ∙ ap (λ x. stops x None [] (λ r. None)) s.1 ∙ unmarked_goes ts in
    cc

first_fault_at : (a rest : List Token) → fault (a ++ rest) None (program ∷ []) ≡ Some rest → IsFirstFault (a ++ rest) (length a)
first_fault_at a [] f =
    (omega (arith, length-append a []), subst Begins (sym (take-append_seam a [])) (begins a [] f), (λ low b. omega (arith, length-append a [])), λ z p s. spells_not (a ++ []) [] f p s)
first_fault_at a (t ∷ rest) f = (
  omega (arith, length-append a (t ∷ rest)),
  subst Begins (sym (take-append_seam a (t ∷ rest))) (begins a (t ∷ rest) f),
  (λ low b. begins_not a rest t f (subst Begins (take-append-add a (t ∷ rest) 1) b)),
  λ z p s. spells_not (a ++ t ∷ rest) (t ∷ rest) f p s,
)

pub first_fault : (ts rest : List Token) (n : ℕ) → fault ts None (program ∷ []) ≡ Some rest → n + length rest ≡ length ts → IsFirstFault ts n
first_fault ts rest n f l =
    let a = suffix ts None (program ∷ []) rest f in
    let k : length a.0 ≡ n = omega (arith, l, ap length a.1, length-append a.0 rest) in
    subst (λ (x : List Token). IsFirstFault x n) (sym a.1) (subst (IsFirstFault (a.0 ++ rest)) k (first_fault_at a.0 rest (ap (λ x. fault x None (program ∷ [])) (sym a.1) ∙ f)))

-- ---- tokens with no fault are a program

pub spelled : (ts : List Token) (p : PlainItems) → GroupedItems p → flat_items p ≡ ts → fault ts None (program ∷ []) ≡ None → Spells p ts
spelled ts p grouped same f =
    let none : stops (marked_program p) None [] (λ r. None) ≡ None = sym (program_goes p grouped) ∙ ap (λ x. fault x None (program ∷ [])) same ∙ f in
    let tokens : tokens_of (marked_program p) ≡ ts = tokens-program p ∙ same in
    let c = clean ts [] (marked_program p) (tokens ∙ sym (append-nil ts)) (subst (Late 0) (sym none) tt) in
    let counted : ts ++ tokens_of c.0 ≡ ts = ap (λ x. x ++ tokens_of c.0) (sym (tokens-unmarked ts)) ∙ sym (tokens-append (unmarked ts) c.0) ∙ sym (ap tokens_of c.1) ∙ tokens in
    (grouped, c.1 ∙ ap (λ x. unmarked ts ++ x) (no_more ts c.0 (ap length counted)) ∙ append-nil (unmarked ts))

-- Tokens are a program, or they have a first fault.
pub decided : (ts : List Token) → ((p : PlainItems) × Spells p ts) ⊎ ((n : ℕ) × IsFirstFault ts n)
decided ts = go (fault ts None (program ∷ [])) refl
  where
    go : (o : Option (List Token)) → fault ts None (program ∷ []) ≡ o → ((p : PlainItems) × Spells p ts) ⊎ ((n : ℕ) × IsFirstFault ts n)
    go None f = let p = alone program ts (whole ts None (program ∷ []) f) in inl (p.0, spelled ts p.0 p.1 p.2 f)
    go (Some rest) f =
        let a = suffix ts None (program ∷ []) rest f in
        inr (length a.0, first_fault ts rest (length a.0) f (omega (arith, ap length a.1, length-append a.0 rest)))

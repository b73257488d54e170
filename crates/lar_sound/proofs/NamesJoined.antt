-- Paths are one only where their names are.
use Rattle.std.proofs.Common.{◌≡◌, ℕ, refl, sym, ap, ◌∙◌, true≢false, true, List, [], ◌∷◌, ◌++◌, append_assoc}
use Rattle.lar_typed.specs.Paths.{is_letter, is_letter_or_digit, all_letters_or_digits, is_name, are_names, joined as joined_after, IsModulePath, item_path}
use Rattle.lar_typed.proofs.SameTypes.{and_true}
use Rattle.lar_rules.specs.Printed.{joined}
use Rattle.lar_sound.specs.Sources.{IsModules}

-- no byte is a colon
abbrev pub NoColon : List ℕ → Type 0
NoColon [] = Unit {0}
NoColon (c ∷ cs) = (c ≡ 58 → ⊥) × NoColon cs

no_letter : (c : ℕ) → is_letter c ≡ true → c ≡ 58 → ⊥
no_letter c h e = true≢false (sym h ∙ ap is_letter e)

no_digit : (c : ℕ) → is_letter_or_digit c ≡ true → c ≡ 58 → ⊥
no_digit c h e = true≢false (sym h ∙ ap is_letter_or_digit e)

no_colons : (cs : List ℕ) → all_letters_or_digits cs ≡ true → NoColon cs
no_colons [] h = tt
no_colons (c ∷ cs) h =
    let p = and_true (is_letter_or_digit c) (all_letters_or_digits cs) h in (no_digit c p.0, no_colons cs p.1)

pub name_no_colon : (n : List ℕ) → is_name n ≡ true → NoColon n
name_no_colon [] h = tt
name_no_colon (c ∷ cs) h =
    let p = and_true (is_letter c) _ h in
    (no_letter c p.0, no_colons cs (and_true (all_letters_or_digits cs) _ p.1).0)

abbrev head_or : List ℕ → ℕ
head_or [] = 0
head_or (c ∷ cs) = c

abbrev tail : List ℕ → List ℕ
tail [] = []
tail (c ∷ cs) = cs

-- what is joined with a colon is cut at the first one
cut : (a b r s : List ℕ) → NoColon a → NoColon b → a ++ 58 ∷ r ≡ b ++ 58 ∷ s → (a ≡ b) × (r ≡ s)
cut [] [] r s h k e = (refl, ap tail e)
cut [] (c ∷ cs) r s h k e = absurd (k.0 (sym (ap head_or e)))
cut (c ∷ cs) [] r s h k e = absurd (h.0 (ap head_or e))
cut (c ∷ cs) (d ∷ ds) r s h k e =
    let w = cut cs ds r s h.1 k.1 (ap tail e) in
    (ap (λ (x : ℕ). x ∷ cs) (ap head_or e) ∙ ap (λ (xs : List ℕ). d ∷ xs) w.0, w.1)

nil_cons : (c : ℕ) (cs : List ℕ) → [] ≡ c ∷ cs → ⊥
nil_cons c cs e = cc

no_cut : (a b s : List ℕ) → NoColon a → a ≡ b ++ 58 ∷ s → ⊥
no_cut [] [] s h e = nil_cons 58 s e
no_cut [] (c ∷ cs) s h e = nil_cons c (cs ++ 58 ∷ s) e
no_cut (c ∷ cs) [] s h e = h.0 (ap head_or e)
no_cut (c ∷ cs) (d ∷ ds) s h e = no_cut cs ds s h.1 (ap tail e)

abbrev pub AllNoColon : List (List ℕ) → Type 0
AllNoColon [] = Unit {0}
AllNoColon (n ∷ ns) = NoColon n × AllNoColon ns

pub names_no_colon : (ns : List (List ℕ)) → are_names ns ≡ true → AllNoColon ns
names_no_colon [] h = tt
names_no_colon (n ∷ ns) h =
    let p = and_true (is_name n) (are_names ns) h in (name_no_colon n p.0, names_no_colon ns p.1)

-- the path of an item in the modules m and ms
abbrev whole : List ℕ → List (List ℕ) → List ℕ → List ℕ
whole m [] n = m ++ 58 ∷ 58 ∷ n
whole m (k ∷ ks) n = m ++ 58 ∷ 58 ∷ whole k ks n

whole_is : (m : List ℕ) (ms : List (List ℕ)) (n : List ℕ) → item_path (joined (m ∷ ms)) n ≡ whole m ms n
whole_is m [] n = refl
whole_is m (k ∷ ks) n = append_assoc m (58 ∷ 58 ∷ joined (k ∷ ks)) (58 ∷ 58 ∷ n)
    ∙ ap (λ (xs : List ℕ). m ++ 58 ∷ 58 ∷ xs) (whole_is k ks n)

begins : (n k : List ℕ) (ks : List (List ℕ)) (b : List ℕ) → NoColon n → n ≡ whole k ks b → ⊥
begins n k [] b h e = no_cut n k (58 ∷ b) h e
begins n k (l ∷ ls) b h e = no_cut n k (58 ∷ whole l ls b) h e

whole_same : (m n : List ℕ) (ms : List (List ℕ)) (a b : List ℕ) (ns : List (List ℕ)) → NoColon m → AllNoColon ms
    → NoColon n → NoColon a → AllNoColon ns → NoColon b → whole m ms n ≡ whole a ns b → ((m ∷ ms) ≡ (a ∷ ns)) × (n ≡ b)
whole_same m n [] a b [] hm hs hn ha hb hc e =
    let w = cut m a (58 ∷ n) (58 ∷ b) hm ha e in
    (ap (λ (x : List ℕ). x ∷ []) w.0, ap tail w.1)
whole_same m n [] a b (k ∷ ks) hm hs hn ha hb hc e =
    let w = cut m a (58 ∷ n) (58 ∷ whole k ks b) hm ha e in
    absurd (begins n k ks b hn (ap tail w.1))
whole_same m n (k ∷ ks) a b [] hm hs hn ha hb hc e =
    let w = cut m a (58 ∷ whole k ks n) (58 ∷ b) hm ha e in
    absurd (begins b k ks n hc (sym (ap tail w.1)))
whole_same m n (k ∷ ks) a b (l ∷ ls) hm hs hn ha hb hc e =
    let w = cut m a (58 ∷ whole k ks n) (58 ∷ whole l ls b) hm ha e in
    let r = whole_same k n ks l b ls hs.0 hs.1 hn hb.0 hb.1 hc (ap tail w.1) in
    (ap (λ (x : List ℕ). x ∷ k ∷ ks) w.0 ∙ ap (λ (xs : List (List ℕ)). a ∷ xs) r.0, r.1)

joined_same : (m : List ℕ) (ms : List (List ℕ)) → joined (m ∷ ms) ≡ joined_after m ms
joined_same m [] = refl
joined_same m (k ∷ ks) = ap (λ (xs : List ℕ). m ++ 58 ∷ 58 ∷ xs) (joined_same k ks)

pub module_path : (ms : List (List ℕ)) → IsModules ms → IsModulePath (joined ms)
module_path ms h =
    record {
      first = h.first;
      others = h.others;
      names = h.names;
      few = h.few;
      is =
          ap joined (sym h.are) ∙ joined_same h.first h.others;
    }

pub paths_same : (ms ns : List (List ℕ)) (a b : List ℕ) → IsModules ms → IsModules ns → is_name a ≡ true
    → is_name b ≡ true → item_path (joined ms) a ≡ item_path (joined ns) b → (ms ≡ ns) × (a ≡ b)
paths_same ms ns a b h k x y e =
    let p = names_no_colon (h.first ∷ h.others) h.names in
    let q = names_no_colon (k.first ∷ k.others) k.names in
    let left : item_path (joined ms) a ≡ whole h.first h.others a =
    ap (λ (z : List (List ℕ)). item_path (joined z) a) (sym h.are) ∙ whole_is h.first h.others a in
    let right : item_path (joined ns) b ≡ whole k.first k.others b =
    ap (λ (z : List (List ℕ)). item_path (joined z) b) (sym k.are) ∙ whole_is k.first k.others b in
    let w = whole_same h.first a h.others k.first b k.others p.0 p.1 (name_no_colon a x) q.0 q.1 (name_no_colon b y)
    (sym left ∙ e ∙ right) in
    (sym h.are ∙ w.0 ∙ k.are, w.1)

-- The first byte tells which kind is the longest that begins at the front.
use Rattle.std.proofs.Common.{◌≡◌, ℕ, ◌+◌, ◌≤◌, ◌<◌, ◌&&◌, ◌||◌, nat_eq, nat_lt, Bool, true, false, cond, not, List, [], ◌∷◌, length, take, fold, find, Option, Some, None, codes, refl, sym, ap, ◌∙◌, subst, arith}
use Rattle.std.proofs.lemmas.Bool.{eqb-true}
use Rattle.std.specs.List.{prefix_len, starts_with, list_all}
use Rattle.std.specs.Option.{option_map_or}
use Rattle.lar_tree.specs.declared.sign.Sign.{Sign}
use Rattle.lar_tree.specs.declared.sign.Sign.TheVariants as the_sign
use Rattle.lar_tree.specs.Sign.{sign_spelling}
use Rattle.lar_lexer.specs.declared.front.Front.{Front}
use Rattle.lar_lexer.specs.declared.front.Front.TheVariants as fronts
use Rattle.lar_lexer.specs.declared.front.Fault.TheVariants as faults
use Rattle.lar_lexer.specs.Front.{begins_word, is_in_word, is_in_line, blank_len, comment_len, word_len, number_len, word_front, number_front, sign_front, longer_first, sign_at, sign_or_fault, longer, front}
use Rattle.lar_lexer.specs.ByFirst.{by_first}
use Rattle.lar_lexer.specs.Thin.{is_blank, is_digit}

-- ---- no sign begins with a byte of another kind

abbrev is_taken : ℕ → Bool
is_taken b = is_blank b || is_digit b || begins_word b

abbrev is_apart : List ℕ → Bool
is_apart [] = false
is_apart (k ∷ ks) = not (is_taken k)

both : (a b : Bool) → (a && b) ≡ true → (a ≡ true) × (b ≡ true)
both true true e = (refl, refl)
both true false e = absurd (cc)
both false b e = absurd (cc)

not_equal : (k b : ℕ) (t : Bool) → nat_eq k b ≡ t → is_taken b ≡ true → not (is_taken k) ≡ true → t ≡ false
not_equal k b false e taken apart = refl
not_equal k b true e taken apart =
    let same : k ≡ b = eqb-true k b e in
    absurd (clash (is_taken k) (subst (λ c. is_taken c ≡ true) (sym same) taken) apart)
  where
    clash : (t : Bool) → t ≡ true → not t ≡ true → ⊥
    clash true e f = cc
    clash false e f = cc

not_begun : (b : ℕ) (bs word : List ℕ) → is_taken b ≡ true → is_apart word ≡ true → starts_with nat_eq (b ∷ bs) word ≡ false
not_begun b bs [] taken apart = absurd (cc)
not_begun b bs (k ∷ ks) taken apart = ap (λ t. t && starts_with nat_eq bs ks) (not_equal k b (nat_eq k b) refl taken apart)

no_sign_of : (b : ℕ) (bs : List ℕ) (ss : List Sign) → is_taken b ≡ true → list_all (λ s. is_apart (sign_spelling s)) ss ≡ true → find (λ s. starts_with nat_eq (b ∷ bs) (sign_spelling s)) ss ≡ None
no_sign_of b bs [] taken apart = refl
no_sign_of b bs (s ∷ ss) taken apart =
    let each = both (is_apart (sign_spelling s)) (list_all (λ s. is_apart (sign_spelling s)) ss) apart in
    ap (λ t. cond t (Some s) (find (λ s. starts_with nat_eq (b ∷ bs) (sign_spelling s)) ss)) (not_begun b bs (sign_spelling s) taken each.0)
    ∙ no_sign_of b bs ss taken each.1

no_sign : (b : ℕ) (bs : List ℕ) → is_taken b ≡ true → sign_at (b ∷ bs) ≡ None
no_sign b bs taken = no_sign_of b bs longer_first taken refl

-- ---- of several kinds the longest

abbrev picked : Front → ℕ → ℕ → ℕ → ℕ → Front → Front → Option Sign → Front
picked nothing blank comment word number of_word of_number sign =
    (fold longer (0, nothing) ((blank, fronts.Gap blank) ∷ (comment, fronts.Gap comment) ∷ (word, of_word) ∷ (number, of_number) ∷ option_map_or (λ s. (length (sign_spelling s), sign_front s) ∷ []) sign [])).1

picked_same : (nothing : Front) (b b' c c' w w' n n' : ℕ) (of_word of_number : Front) (s s' : Option Sign) → b ≡ b' → c ≡ c' → w ≡ w' → n ≡ n' → s ≡ s' → picked nothing b c w n of_word of_number s ≡ picked nothing b' c' w' n' of_word of_number s'
picked_same nothing b b' c c' w w' n n' of_word of_number s s' eb ec ew en es =
    ap (λ x. picked nothing x c w n of_word of_number s) eb
    ∙ ap (λ x. picked nothing b' x w n of_word of_number s) ec
    ∙ ap (λ x. picked nothing b' c' x n of_word of_number s) ew
    ∙ ap (λ x. picked nothing b' c' w' x of_word of_number s) en
    ∙ ap (λ x. picked nothing b' c' w' n' of_word of_number x) es

below : (n : ℕ) → 0 < n → nat_lt 0 n ≡ true
below n h = grind (arith, h)

above : (m n : ℕ) → m ≤ n → nat_lt n m ≡ false
above m n h = grind (arith, h)

abbrev pair : Bool → ℕ × Front → ℕ × Front → ℕ × Front
pair t p q = cond t q p

pick_comment : (nothing of_word of_number : Front) (n : ℕ) → 1 < n → picked nothing 0 n 0 0 of_word of_number (Some the_sign.Slash) ≡ fronts.Gap n
pick_comment nothing of_word of_number n h =
    let g : ℕ × Front = (n, fronts.Gap n) in
    let s : ℕ × Front = (1, sign_front the_sign.Slash) in
    ap (λ t. (longer (longer (longer (pair t (0, nothing) g) (0, of_word)) (0, of_number)) s).1) (below n (omega arith))
    ∙ ap (λ t. (longer (longer (pair t g (0, of_word)) (0, of_number)) s).1) (above 0 n (omega arith))
    ∙ ap (λ t. (longer (pair t g (0, of_number)) s).1) (above 0 n (omega arith))
    ∙ ap (λ t. (pair t g s).1) (above 1 n (omega arith))

pick_word : (nothing of_word of_number : Front) (n : ℕ) → 0 < n → picked nothing 0 0 n 0 of_word of_number None ≡ of_word
pick_word nothing of_word of_number n h =
    let g : ℕ × Front = (n, of_word) in
    ap (λ t. (longer (pair t (0, nothing) g) (0, of_number)).1) (below n h)
    ∙ ap (λ t. (pair t g (0, of_number)).1) (above 0 n (omega arith))

pick_number : (nothing of_word of_number : Front) (n : ℕ) → 0 < n → picked nothing 0 0 0 n of_word of_number None ≡ of_number
pick_number nothing of_word of_number n h = ap (λ t. (pair t (0, nothing) (n, of_number)).1) (below n h)

has_length : (s : Sign) → nat_lt 0 (length (sign_spelling s)) ≡ true
has_length the_sign.OpenParen = refl
has_length the_sign.CloseParen = refl
has_length the_sign.OpenBrace = refl
has_length the_sign.CloseBrace = refl
has_length the_sign.OpenBracket = refl
has_length the_sign.CloseBracket = refl
has_length the_sign.Comma = refl
has_length the_sign.Semicolon = refl
has_length the_sign.Colon = refl
has_length the_sign.PathSep = refl
has_length the_sign.Dot = refl
has_length the_sign.Assign = refl
has_length the_sign.Equal = refl
has_length the_sign.NotEqual = refl
has_length the_sign.Less = refl
has_length the_sign.AtMost = refl
has_length the_sign.Greater = refl
has_length the_sign.AtLeast = refl
has_length the_sign.Plus = refl
has_length the_sign.Minus = refl
has_length the_sign.Star = refl
has_length the_sign.Slash = refl
has_length the_sign.Percent = refl
has_length the_sign.Not = refl
has_length the_sign.And = refl
has_length the_sign.Or = refl
has_length the_sign.Hash = refl
has_length the_sign.Arrow = refl

pick_sign : (nothing of_word of_number : Front) (s : Option Sign) → picked nothing 0 0 0 0 of_word of_number s ≡ option_map_or sign_front s nothing
pick_sign nothing of_word of_number None = refl
pick_sign nothing of_word of_number (Some s) = ap (λ t. (pair t (0, nothing) (length (sign_spelling s), sign_front s)).1) (has_length s)

-- ---- by the first byte

no_word : (b : ℕ) (bs : List ℕ) → begins_word b ≡ false → word_len (b ∷ bs) ≡ 0
no_word b bs e = ap (λ t. cond t (prefix_len is_in_word (b ∷ bs)) 0) e

no_number : (b : ℕ) (bs : List ℕ) → is_digit b ≡ false → number_len (b ∷ bs) ≡ 0
no_number b bs e = ap (λ t. cond t (1 + prefix_len is_digit bs) 0) e

no_blank : (b : ℕ) (bs : List ℕ) → is_blank b ≡ false → blank_len (b ∷ bs) ≡ 0
no_blank b bs e = ap (λ t. cond t 1 0) e

no_comment : (b : ℕ) (bs : List ℕ) → starts_with nat_eq (b ∷ bs) (codes "//") ≡ false → comment_len (b ∷ bs) ≡ 0
no_comment b bs e = ap (λ t. cond t (prefix_len is_in_line (b ∷ bs)) 0) e

abbrev unexpected : ℕ → Front
unexpected b = fronts.Fault (faults.Unexpected b)

abbrev of_word_at : ℕ → List ℕ → Front
of_word_at b bs = word_front (take (word_len (b ∷ bs)) (b ∷ bs))

abbrev of_number_at : ℕ → List ℕ → Front
of_number_at b bs = number_front (take (number_len (b ∷ bs)) (b ∷ bs))

taken_blank : (b : ℕ) → is_blank b ≡ true → is_taken b ≡ true
taken_blank b e = ap (λ t. t || is_digit b || begins_word b) e

blank_word : (b : ℕ) (t : Bool) → begins_word b ≡ t → is_blank b ≡ true → t ≡ false
blank_word b t e h = grind (arith, e, h)

blank_digit : (b : ℕ) (t : Bool) → is_digit b ≡ t → is_blank b ≡ true → t ≡ false
blank_digit b t e h = grind (arith, e, h)

digit_word : (b : ℕ) (t : Bool) → begins_word b ≡ t → is_digit b ≡ true → t ≡ false
digit_word b t e h = grind (arith, e, h)

digit_taken : (b : ℕ) (t : Bool) → is_taken b ≡ t → is_digit b ≡ true → t ≡ true
digit_taken b t e h = grind (arith, e, h)

word_taken : (b : ℕ) (t : Bool) → is_taken b ≡ t → begins_word b ≡ true → t ≡ true
word_taken b t e h = grind (arith, e, h)

begins_in : (b : ℕ) (t : Bool) → is_in_word b ≡ t → begins_word b ≡ true → t ≡ true
begins_in b t e h = grind (arith, e, h)

at_blank : (b : ℕ) (bs : List ℕ) → is_blank b ≡ true → front (b ∷ bs) ≡ fronts.Gap 1
at_blank b bs h =
    let taken = taken_blank b h in
    ap (λ t. picked (unexpected b) (cond t 1 0) (comment_len (b ∷ bs)) (word_len (b ∷ bs)) (number_len (b ∷ bs)) (of_word_at b bs) (of_number_at b bs) (sign_at (b ∷ bs))) h
    ∙ picked_same (unexpected b) 1 1 _ 0 _ 0 _ 0 (of_word_at b bs) (of_number_at b bs) _ None refl (no_comment b bs (not_begun b bs (codes "//") taken refl)) (no_word b bs (blank_word b (begins_word b) refl h))
    (no_number b bs (blank_digit b (is_digit b) refl h)) (no_sign b bs taken)

comment_long : (bs : List ℕ) → starts_with nat_eq (47 ∷ bs) (codes "//") ≡ true → 1 < prefix_len is_in_line (47 ∷ bs)
comment_long [] h = absurd (cc)
comment_long (c ∷ cs) h =
    let same : 47 ≡ c = eqb-true 47 c (both (nat_eq 47 c) true h).0 in
    let long : 1 < prefix_len is_in_line (47 ∷ 47 ∷ cs) = omega arith in
    subst (λ x. 1 < prefix_len is_in_line (47 ∷ x ∷ cs)) same long

slash_comment : (bs : List ℕ) → starts_with nat_eq (47 ∷ bs) (codes "//") ≡ true → front (47 ∷ bs) ≡ fronts.Gap (prefix_len is_in_line (47 ∷ bs))
slash_comment bs h =
    ap (λ t. picked (unexpected 47) 0 (cond t (prefix_len is_in_line (47 ∷ bs)) 0) 0 0 (of_word_at 47 bs) (of_number_at 47 bs) (Some the_sign.Slash)) h
    ∙ pick_comment (unexpected 47) (of_word_at 47 bs) (of_number_at 47 bs) (prefix_len is_in_line (47 ∷ bs)) (comment_long bs h)

at_comment : (b : ℕ) (bs : List ℕ) → starts_with nat_eq (b ∷ bs) (codes "//") ≡ true → front (b ∷ bs) ≡ fronts.Gap (prefix_len is_in_line (b ∷ bs))
at_comment b bs h =
    let same : 47 ≡ b = eqb-true 47 b (both (nat_eq 47 b) (starts_with nat_eq bs (codes "/")) h).0 in
    subst (λ x. starts_with nat_eq (x ∷ bs) (codes "//") ≡ true → front (x ∷ bs) ≡ fronts.Gap (prefix_len is_in_line (x ∷ bs))) same (slash_comment bs) h

at_number : (b : ℕ) (bs : List ℕ) → is_blank b ≡ false → starts_with nat_eq (b ∷ bs) (codes "//") ≡ false → is_digit b ≡ true → front (b ∷ bs) ≡ number_front (take (prefix_len is_digit (b ∷ bs)) (b ∷ bs))
at_number b bs blank comment h =
    let some : 0 < number_len (b ∷ bs) = subst (λ n. 0 < n) (sym (ap (λ t. cond t (1 + prefix_len is_digit bs) 0) h)) (omega arith) in
    picked_same (unexpected b) _ 0 _ 0 _ 0 (number_len (b ∷ bs)) (number_len (b ∷ bs)) (of_word_at b bs) (of_number_at b bs) _ None (no_blank b bs blank) (no_comment b bs comment) (no_word b bs (digit_word b (begins_word b) refl h)) refl
    (no_sign b bs (digit_taken b (is_taken b) refl h))
    ∙ pick_number (unexpected b) (of_word_at b bs) (of_number_at b bs) (number_len (b ∷ bs)) some

at_word : (b : ℕ) (bs : List ℕ) → is_blank b ≡ false → starts_with nat_eq (b ∷ bs) (codes "//") ≡ false → is_digit b ≡ false → begins_word b ≡ true → front (b ∷ bs) ≡ word_front (take (prefix_len is_in_word (b ∷ bs)) (b ∷ bs))
at_word b bs blank comment digit h =
    let whole : word_len (b ∷ bs) ≡ prefix_len is_in_word (b ∷ bs) = ap (λ t. cond t (prefix_len is_in_word (b ∷ bs)) 0) h in
    let one_more : prefix_len is_in_word (b ∷ bs) ≡ 1 + prefix_len is_in_word bs = ap (λ t. cond t (1 + prefix_len is_in_word bs) 0) (begins_in b (is_in_word b) refl h) in
    let some : 0 < word_len (b ∷ bs) = subst (λ n. 0 < n) (sym (whole ∙ one_more)) (omega arith) in
    picked_same (unexpected b) _ 0 _ 0 (word_len (b ∷ bs)) (word_len (b ∷ bs)) _ 0 (of_word_at b bs) (of_number_at b bs) _ None (no_blank b bs blank) (no_comment b bs comment) refl (no_number b bs digit)
    (no_sign b bs (word_taken b (is_taken b) refl h))
    ∙ pick_word (unexpected b) (of_word_at b bs) (of_number_at b bs) (word_len (b ∷ bs)) some
    ∙ ap (λ n. word_front (take n (b ∷ bs))) whole

at_sign : (b : ℕ) (bs : List ℕ) → is_blank b ≡ false → starts_with nat_eq (b ∷ bs) (codes "//") ≡ false → is_digit b ≡ false → begins_word b ≡ false → front (b ∷ bs) ≡ sign_or_fault (b ∷ bs)
at_sign b bs blank comment digit word =
    picked_same (unexpected b) _ 0 _ 0 _ 0 _ 0 (of_word_at b bs) (of_number_at b bs) (sign_at (b ∷ bs)) (sign_at (b ∷ bs)) (no_blank b bs blank) (no_comment b bs comment) (no_word b bs word) (no_number b bs digit) refl
    ∙ pick_sign (unexpected b) (of_word_at b bs) (of_number_at b bs) (sign_at (b ∷ bs))

by_tests : (b : ℕ) (bs : List ℕ) (t u v w : Bool) → is_blank b ≡ t → starts_with nat_eq (b ∷ bs) (codes "//") ≡ u → is_digit b ≡ v → begins_word b ≡ w
    → front (b ∷ bs) ≡ cond t (fronts.Gap 1) (cond u (fronts.Gap (prefix_len is_in_line (b ∷ bs))) (cond v (number_front (take (prefix_len is_digit (b ∷ bs)) (b ∷ bs))) (cond w (word_front (take (prefix_len is_in_word (b ∷ bs)) (b ∷ bs))) (sign_or_fault (b ∷ bs)))))
by_tests b bs true u v w blank comment digit word = at_blank b bs blank
by_tests b bs false true v w blank comment digit word = at_comment b bs comment
by_tests b bs false false true w blank comment digit word = at_number b bs blank comment digit
by_tests b bs false false false true blank comment digit word = at_word b bs blank comment digit word
by_tests b bs false false false false blank comment digit word = at_sign b bs blank comment digit word

pub longest_first : (text : List ℕ) → front text ≡ by_first text
longest_first [] = refl
longest_first (b ∷ bs) = by_tests b bs (is_blank b) (starts_with nat_eq (b ∷ bs) (codes "//")) (is_digit b) (begins_word b) refl refl refl refl

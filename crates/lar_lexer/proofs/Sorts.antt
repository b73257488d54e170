-- What the longest piece of each kind at the front of a text is.
use Rattle.std.proofs.Common.{◌≡◌, ℕ, zero, suc, ◌+◌, ◌≤◌, ◌<◌, ◌&&◌, nat_eq, nat_le, Bool, true, false, cond, List, [], ◌∷◌, length, take, find, Option, Some, None, codes, refl, sym, ap, ◌∙◌, subst, arith}
use Rattle.std.specs.List.{prefix_len, starts_with, list_all, slice_get}
use Rattle.std.specs.Str.{bytes_eq}
use Rattle.std.specs.Option.{option_map_or}
use Rattle.std.proofs.lemmas.List.{length-take, length-take-le}
use Rattle.std.proofs.lemmas.List.Sums.{prefix_len-le-length}
use Rattle.std.proofs.lemmas.Slice.Eq.{bytes_eq-Decides}
use Rattle.lar_tree.specs.declared.sign.Sign.{Sign}
use Rattle.lar_tree.specs.declared.sign.Sign.TheVariants as the_sign
use Rattle.lar_tree.specs.declared.keyword.Keyword.{Keyword}
use Rattle.lar_tree.specs.declared.keyword.Keyword.TheVariants as the_word
use Rattle.lar_tree.specs.Keyword.{keyword_spelling, keywords, keyword_of}
use Rattle.lar_tree.specs.Sign.{sign_spelling}
use Rattle.lar_lexer.specs.Front.{begins_word, is_in_word, is_in_line, blank_len, comment_len, word_len, number_len, longer_first, sign_at}
use Rattle.lar_lexer.specs.Piece.{IsWord, IsNumeral, IsSign, IsBlank, IsComment, IsNoKeyword}
use Rattle.lar_lexer.specs.Thin.{is_blank, is_digit}

both : (a b : Bool) → (a && b) ≡ true → (a ≡ true) × (b ≡ true)
both true true e = (refl, refl)
both true false e = absurd (cc)
both false b e = absurd (cc)

-- ---- runs of bytes that pass a test

passes_step : (p : ℕ → Bool) (b : ℕ) (bs : List ℕ) (t : Bool) → p b ≡ t → list_all p (take (prefix_len p bs) bs) ≡ true → list_all p (take (cond t (1 + prefix_len p bs) 0) (b ∷ bs)) ≡ true
passes_step p b bs true is more =
    let on : 1 + prefix_len p bs ≡ suc (prefix_len p bs) = omega arith in
    subst (λ n. list_all p (take n (b ∷ bs)) ≡ true) (sym on) (rw (is, more) refl)
passes_step p b bs false is more = refl

pub run_passes : (p : ℕ → Bool) (bs : List ℕ) → list_all p (take (prefix_len p bs) bs) ≡ true
run_passes p [] = refl
run_passes p (b ∷ bs) = passes_step p b bs (p b) refl (run_passes p bs)

longest_step : (p : ℕ → Bool) (b : ℕ) (bs : List ℕ) (m : ℕ) (t : Bool) → (t && list_all p (take m bs)) ≡ true → (list_all p (take m bs) ≡ true → m ≤ prefix_len p bs) → suc m ≤ cond t (1 + prefix_len p bs) 0
longest_step p b bs m true e more = let k : m ≤ prefix_len p bs = more e in omega arith
longest_step p b bs m false e more = absurd (cc)

pub run_longest : (p : ℕ → Bool) (bs : List ℕ) (m : ℕ) → m ≤ length bs → list_all p (take m bs) ≡ true → m ≤ prefix_len p bs
run_longest p bs zero h e = omega arith
run_longest p [] (suc m) h e = absurd (omega arith)
run_longest p (b ∷ bs) (suc m) h e = longest_step p b bs m (p b) e (run_longest p bs m (omega arith))

-- ---- blanks

pub blank_most : (text : List ℕ) (m : ℕ) → m ≤ length text → IsBlank (take m text) → m ≤ blank_len text
blank_most text zero h is = omega arith
blank_most [] (suc m) h is = absurd (omega arith)
blank_most (c ∷ cs) (suc m) h (b, e, is) =
    let same : c ≡ b = cc in
    let none : length (take m cs) ≡ 0 = ap (λ (l : List ℕ). length l) (tail_is e) in
    let len : length (take m cs) ≡ m = length-take-le m cs (omega arith) in
    let one : blank_len (c ∷ cs) ≡ 1 = ap (λ t. cond t 1 0) (subst (λ x. is_blank x ≡ true) (sym same) is) in
    omega arith
  where
    tail_is : {c b : ℕ} {l : List ℕ} → c ∷ l ≡ b ∷ [] → l ≡ []
    tail_is e = cc

blank_by : (b : ℕ) (bs : List ℕ) (t : Bool) → is_blank b ≡ t → 1 ≤ cond t 1 0 → IsBlank (take (cond t 1 0) (b ∷ bs)) × (cond t 1 0 ≤ length (b ∷ bs))
blank_by b bs true is h = ((b, refl, is), omega arith)
blank_by b bs false is h = absurd (omega arith)

pub blank_is : (text : List ℕ) → 1 ≤ blank_len text → IsBlank (take (blank_len text) text) × (blank_len text ≤ length text)
blank_is [] h = absurd (omega arith)
blank_is (b ∷ bs) h = blank_by b bs (is_blank b) refl h

-- ---- comments

pub begins_is : (text word : List ℕ) → starts_with nat_eq text word ≡ true → word ≡ take (length word) text
begins_is text word = (bytes_eq-Decides word (take (length word) text)).0

pub is_begun : (text word : List ℕ) → word ≡ take (length word) text → starts_with nat_eq text word ≡ true
is_begun text word = (bytes_eq-Decides word (take (length word) text)).1

slashes_taken : (text : List ℕ) (m : ℕ) → starts_with nat_eq (take m text) (codes "//") ≡ true → starts_with nat_eq text (codes "//") ≡ true
slashes_taken text zero e = absurd (cc)
slashes_taken [] (suc m) e = absurd (cc)
slashes_taken (b ∷ bs) (suc zero) e = absurd (false_true (both (nat_eq 47 b) false e).1)
  where
    false_true : false ≡ true → ⊥
    false_true e = cc
slashes_taken (b ∷ []) (suc (suc m)) e = e
slashes_taken (b ∷ c ∷ cs) (suc (suc m)) e = e

pub comment_most : (text : List ℕ) (m : ℕ) → m ≤ length text → IsComment (take m text) → m ≤ comment_len text
comment_most text m h (begins, inside) =
    let len : comment_len text ≡ prefix_len is_in_line text = ap (λ t. cond t (prefix_len is_in_line text) 0) (slashes_taken text m begins) in
    let most : m ≤ prefix_len is_in_line text = run_longest is_in_line text m h inside in
    omega arith

slashes : (cs : List ℕ) → starts_with nat_eq (take (prefix_len is_in_line (47 ∷ 47 ∷ cs)) (47 ∷ 47 ∷ cs)) (codes "//") ≡ true
slashes cs =
    let on : 1 + (1 + prefix_len is_in_line cs) ≡ suc (suc (prefix_len is_in_line cs)) = omega arith in
    subst (λ n. starts_with nat_eq (take n (47 ∷ 47 ∷ cs)) (codes "//") ≡ true) (sym on) refl

slashes_front : (text : List ℕ) → codes "//" ≡ take 2 text → starts_with nat_eq (take (prefix_len is_in_line text) text) (codes "//") ≡ true
slashes_front [] e = absurd (cc)
slashes_front (b ∷ []) e = absurd (cc)
slashes_front (b ∷ c ∷ cs) e =
    let first : 47 ≡ b = cc in
    let second : 47 ≡ c = cc in
    subst (λ x. starts_with nat_eq (take (prefix_len is_in_line (x ∷ c ∷ cs)) (x ∷ c ∷ cs)) (codes "//") ≡ true) first
    (subst (λ y. starts_with nat_eq (take (prefix_len is_in_line (47 ∷ y ∷ cs)) (47 ∷ y ∷ cs)) (codes "//") ≡ true) second (slashes cs))

comment_by : (text : List ℕ) (t : Bool) → starts_with nat_eq text (codes "//") ≡ t → 1 ≤ cond t (prefix_len is_in_line text) 0
    → IsComment (take (cond t (prefix_len is_in_line text) 0) text) × (cond t (prefix_len is_in_line text) 0 ≤ length text)
comment_by text true is h = ((slashes_front text (begins_is text (codes "//") is), run_passes is_in_line text), prefix_len-le-length is_in_line text)
comment_by text false is h = absurd (omega arith)

pub comment_is : (text : List ℕ) → 1 ≤ comment_len text → IsComment (take (comment_len text) text) × (comment_len text ≤ length text)
comment_is text h = comment_by text (starts_with nat_eq text (codes "//")) refl h

-- ---- words

begins_in : (b : ℕ) (t : Bool) → is_in_word b ≡ t → begins_word b ≡ true → t ≡ true
begins_in b t e h = grind (arith, e, h)

pub word_most : (text : List ℕ) (m : ℕ) → m ≤ length text → IsWord (take m text) → m ≤ word_len text
word_most text zero h is = omega arith
word_most [] (suc m) h is = absurd (omega arith)
word_most (b ∷ bs) (suc m) h (first, others) =
    let most : m ≤ prefix_len is_in_word bs = run_longest is_in_word bs m (omega arith) others in
    let len : word_len (b ∷ bs) ≡ 1 + prefix_len is_in_word bs = ap (λ t. cond t (prefix_len is_in_word (b ∷ bs)) 0) first ∙ ap (λ t. cond t (1 + prefix_len is_in_word bs) 0) (begins_in b (is_in_word b) refl first) in
    omega arith

word_of : (n b : ℕ) (bs : List ℕ) → 1 ≤ n → begins_word b ≡ true → list_all is_in_word (take n (b ∷ bs)) ≡ true → IsWord (take n (b ∷ bs))
word_of zero b bs h first all = absurd (omega arith)
word_of (suc n) b bs h first all = (first, (both (is_in_word b) (list_all is_in_word (take n bs)) all).1)

word_by : (b : ℕ) (bs : List ℕ) (t : Bool) → begins_word b ≡ t → 1 ≤ cond t (prefix_len is_in_word (b ∷ bs)) 0
    → IsWord (take (cond t (prefix_len is_in_word (b ∷ bs)) 0) (b ∷ bs)) × (cond t (prefix_len is_in_word (b ∷ bs)) 0 ≤ length (b ∷ bs))
word_by b bs true is h = (word_of (prefix_len is_in_word (b ∷ bs)) b bs h is (run_passes is_in_word (b ∷ bs)), prefix_len-le-length is_in_word (b ∷ bs))
word_by b bs false is h = absurd (omega arith)

pub word_is : (text : List ℕ) → 1 ≤ word_len text → IsWord (take (word_len text) text) × (word_len text ≤ length text)
word_is [] h = absurd (omega arith)
word_is (b ∷ bs) h = word_by b bs (begins_word b) refl h

-- ---- numerals

pub numeral_most : (text : List ℕ) (m : ℕ) → m ≤ length text → IsNumeral (take m text) → m ≤ number_len text
numeral_most text m h is = run_longest is_digit text m h is.1

pub numeral_is : (text : List ℕ) → 1 ≤ number_len text → IsNumeral (take (number_len text) text) × (number_len text ≤ length text)
numeral_is text h =
    let within : prefix_len is_digit text ≤ length text = prefix_len-le-length is_digit text in
    let len : length (take (prefix_len is_digit text) text) ≡ prefix_len is_digit text = length-take-le (prefix_len is_digit text) text within in
    let some : 0 < length (take (prefix_len is_digit text) text) = omega arith in
    ((some, run_passes is_digit text), within)

-- ---- the first that passes a test

passes_by : {A : Type 0} (p : A → Bool) (y : A) (ys : List A) (x : A) (t : Bool) → p y ≡ t → cond t (Some y) (find p ys) ≡ Some x → (find p ys ≡ Some x → p x ≡ true) → p x ≡ true
passes_by p y ys x true is e more = let same : y ≡ x = cc in subst (λ z. p z ≡ true) same is
passes_by p y ys x false is e more = more e

pub find_passes : {A : Type 0} (p : A → Bool) (xs : List A) (x : A) → find p xs ≡ Some x → p x ≡ true
find_passes p [] x e = absurd (cc)
find_passes p (y ∷ ys) x e = passes_by p y ys x (p y) refl e (find_passes p ys x)

-- ---- keywords

each_spelled : (k : Keyword) → keyword_of (keyword_spelling k) ≡ Some k
each_spelled the_word.Mod = refl
each_spelled the_word.Struct = refl
each_spelled the_word.Const = refl
each_spelled the_word.Fn = refl
each_spelled the_word.Let = refl
each_spelled the_word.If = refl
each_spelled the_word.Else = refl
each_spelled the_word.While = refl
each_spelled the_word.Return = refl
each_spelled the_word.Print = refl
each_spelled the_word.StaticAssert = refl
each_spelled the_word.New = refl
each_spelled the_word.True = refl
each_spelled the_word.False = refl
each_spelled the_word.I64 = refl
each_spelled the_word.Bool = refl

pub keyword_is : (word : List ℕ) (k : Keyword) → keyword_of word ≡ Some k → word ≡ keyword_spelling k
keyword_is word k e = (bytes_eq-Decides word (keyword_spelling k)).0 (find_passes (λ j. bytes_eq word (keyword_spelling j)) keywords k e)

pub no_keyword_is : (word : List ℕ) → keyword_of word ≡ None → IsNoKeyword word
no_keyword_is word e k same = clash (keyword_of (keyword_spelling k)) k (subst (λ w. keyword_of w ≡ None) same e) (each_spelled k)
  where
    clash : (o : Option Keyword) (k : Keyword) → o ≡ None → o ≡ Some k → ⊥
    clash o k e f = cc

-- ---- signs

-- no sign has more bytes than one before it
abbrev falling : List Sign → Bool
falling [] = true
falling (s ∷ ss) = list_all (λ t. nat_le (length (sign_spelling t)) (length (sign_spelling s))) ss && falling ss

all_at : (q : Sign → Bool) (ss : List Sign) (i : ℕ) (s : Sign) → list_all q ss ≡ true → slice_get ss i ≡ Some s → q s ≡ true
all_at q [] i s all at = absurd (cc)
all_at q (t ∷ ss) zero s all at = let same : t ≡ s = cc in subst (λ u. q u ≡ true) same (both (q t) (list_all q ss) all).0
all_at q (t ∷ ss) (suc i) s all at = all_at q ss i s (both (q t) (list_all q ss) all).1 at

at_most : (a b : ℕ) → nat_le a b ≡ true → a ≤ b
at_most a b h = grind (arith, h)

abbrev Best : (Sign → Bool) → List Sign → Sign → Type 0
Best p ss s = (t : Sign) × (find p ss ≡ Some t) × (length (sign_spelling s) ≤ length (sign_spelling t))

best_by : (p : Sign → Bool) (u : Sign) (us : List Sign) (i : ℕ) (s : Sign) (t : Bool) → p u ≡ t → slice_get (u ∷ us) i ≡ Some s → p s ≡ true → falling (u ∷ us) ≡ true
    → ((j : ℕ) → slice_get us j ≡ Some s → Best p us s) → Best p (u ∷ us) s
best_by p u us zero s true is at passes falls more =
    let same : u ≡ s = cc in
    (u, ap (λ b. cond b (Some u) (find p us)) is, subst (λ x. length (sign_spelling x) ≤ length (sign_spelling u)) same (omega arith))
best_by p u us (suc i) s true is at passes falls more =
    let least = all_at (λ t. nat_le (length (sign_spelling t)) (length (sign_spelling u))) us i s (both _ (falling us) falls).0 at in
    (u, ap (λ b. cond b (Some u) (find p us)) is, at_most (length (sign_spelling s)) (length (sign_spelling u)) least)
best_by p u us zero s false is at passes falls more =
    let same : u ≡ s = cc in
    let not_so : p s ≡ false = subst (λ x. p x ≡ false) same is in
    absurd (cc)
best_by p u us (suc i) s false is at passes falls more =
    let rest = more i at in
    (rest.0, ap (λ b. cond b (Some u) (find p us)) is ∙ rest.1, rest.2)

best : (p : Sign → Bool) (ss : List Sign) (i : ℕ) (s : Sign) → slice_get ss i ≡ Some s → p s ≡ true → falling ss ≡ true → Best p ss s
best p [] i s at passes falls = absurd (cc)
best p (u ∷ us) i s at passes falls = best_by p u us i s (p u) refl at passes falls (λ j h. best p us j s h passes (both _ (falling us) falls).1)

-- where each sign stands among the longer ones first
each_stands : (s : Sign) → (i : ℕ) × (slice_get longer_first i ≡ Some s)
each_stands the_sign.PathSep = (0, refl)
each_stands the_sign.Equal = (1, refl)
each_stands the_sign.NotEqual = (2, refl)
each_stands the_sign.AtMost = (3, refl)
each_stands the_sign.AtLeast = (4, refl)
each_stands the_sign.And = (5, refl)
each_stands the_sign.Or = (6, refl)
each_stands the_sign.Arrow = (7, refl)
each_stands the_sign.OpenParen = (8, refl)
each_stands the_sign.CloseParen = (9, refl)
each_stands the_sign.OpenBrace = (10, refl)
each_stands the_sign.CloseBrace = (11, refl)
each_stands the_sign.OpenBracket = (12, refl)
each_stands the_sign.CloseBracket = (13, refl)
each_stands the_sign.Comma = (14, refl)
each_stands the_sign.Semicolon = (15, refl)
each_stands the_sign.Colon = (16, refl)
each_stands the_sign.Dot = (17, refl)
each_stands the_sign.Assign = (18, refl)
each_stands the_sign.Less = (19, refl)
each_stands the_sign.Greater = (20, refl)
each_stands the_sign.Plus = (21, refl)
each_stands the_sign.Minus = (22, refl)
each_stands the_sign.Star = (23, refl)
each_stands the_sign.Slash = (24, refl)
each_stands the_sign.Percent = (25, refl)
each_stands the_sign.Not = (26, refl)
each_stands the_sign.Hash = (27, refl)

abbrev pub sign_len : List ℕ → ℕ
sign_len text = option_map_or (λ s. length (sign_spelling s)) (sign_at text) 0

pub sign_most : (text : List ℕ) (m : ℕ) → m ≤ length text → IsSign (take m text) → m ≤ sign_len text
sign_most text m h (s, e) =
    let len : length (sign_spelling s) ≡ m = sym (ap (λ (l : List ℕ). length l) e) ∙ length-take-le m text h in
    let begun : starts_with nat_eq text (sign_spelling s) ≡ true = is_begun text (sign_spelling s) (sym e ∙ ap (λ n. take n text) (sym len)) in
    let stands = each_stands s in
    let found = best (λ t. starts_with nat_eq text (sign_spelling t)) longer_first stands.0 s stands.1 begun refl in
    let told : sign_len text ≡ length (sign_spelling found.0) = ap (λ o. option_map_or (λ t. length (sign_spelling t)) o 0) found.1 in
    let more : length (sign_spelling s) ≤ length (sign_spelling found.0) = found.2 in
    omega arith

pub sign_is : (text : List ℕ) (s : Sign) → sign_at text ≡ Some s → (take (length (sign_spelling s)) text ≡ sign_spelling s) × (length (sign_spelling s) ≤ length text)
sign_is text s e =
    let begun : sign_spelling s ≡ take (length (sign_spelling s)) text = begins_is text (sign_spelling s) (find_passes (λ t. starts_with nat_eq text (sign_spelling t)) longer_first s e) in
    let len : length (sign_spelling s) ≡ length (take (length (sign_spelling s)) text) = ap (λ (l : List ℕ). length l) begun in
    let least = length-take (length (sign_spelling s)) text in
    (sym begun, omega (arith, len, least))

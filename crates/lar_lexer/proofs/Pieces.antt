-- The front of a text is its longest piece.
use Rattle.std.proofs.Common.{◌≡◌, ℕ, zero, suc, ◌≤◌, ◌<◌, ◌^◌, nat_lt, Bool, true, false, cond, List, [], ◌∷◌, length, take, fold, Option, Some, None, pos, refl, sym, ap, ◌∙◌, subst, arith}
use Rattle.std.specs.List.{slice_get}
use Rattle.std.specs.Option.{option_map_or}
use Rattle.std.proofs.lemmas.List.{length-take-le}
use Rattle.lar_tree.specs.declared.sign.Sign.{Sign}
use Rattle.lar_tree.specs.declared.keyword.Keyword.{Keyword}
use Rattle.lar_tree.specs.declared.token.Kind.TheVariants as kinds
use Rattle.lar_tree.specs.Keyword.{keyword_of}
use Rattle.lar_tree.specs.Sign.{sign_spelling}
use Rattle.lar_lexer.specs.declared.front.Front.{Front}
use Rattle.lar_lexer.specs.declared.front.Front.TheVariants as fronts
use Rattle.lar_lexer.specs.declared.front.Fault.TheVariants as faults
use Rattle.lar_lexer.specs.Front.{blank_len, comment_len, word_len, number_len, name, word_front, number_front, sign_front, sign_at, starts, longer, front}
use Rattle.lar_lexer.specs.Piece.{IsWord, IsNumeral, IsSign, IsBlank, IsComment, IsGap, IsPiece, IsNoKeyword, IsToken, IsLongest}
use Rattle.lar_lexer.specs.Piece as piece
use Rattle.lar_lexer.specs.Thin.{value_of}
use Rattle.lar_lexer.proofs.Sorts.{blank_most, blank_is, comment_most, comment_is, word_most, word_is, numeral_most, numeral_is, keyword_is, no_keyword_is, sign_most, sign_is}

-- ---- the longest of several

abbrev Each : (ℕ × Front → Type 0) → List (ℕ × Front) → Type 0
Each Q [] = Unit {0}
Each Q (q ∷ qs) = Q q × Each Q qs

abbrev pair : Bool → ℕ × Front → ℕ × Front → ℕ × Front
pair t p q = cond t q p

one_kept : (Q : ℕ × Front → Type 0) (p q : ℕ × Front) (t : Bool) → Q p → Q q → Q (pair t p q)
one_kept Q p q true x y = y
one_kept Q p q false x y = x

kept : (Q : ℕ × Front → Type 0) (p : ℕ × Front) (qs : List (ℕ × Front)) → Q p → Each Q qs → Q (fold longer p qs)
kept Q p [] x all = x
kept Q p (q ∷ qs) x (first, others) = kept Q (longer p q) qs (one_kept Q p q (nat_lt p.0 q.0) x first) others

one_grows : (p q : ℕ × Front) (t : Bool) → nat_lt p.0 q.0 ≡ t → (p.0 ≤ (pair t p q).0) × (q.0 ≤ (pair t p q).0)
one_grows p q true e = (grind (arith, e), omega arith)
one_grows p q false e = (omega arith, grind (arith, e))

grows : (p : ℕ × Front) (qs : List (ℕ × Front)) → p.0 ≤ (fold longer p qs).0
grows p [] = omega arith
grows p (q ∷ qs) =
    let first : p.0 ≤ (longer p q).0 = (one_grows p q (nat_lt p.0 q.0) refl).0 in
    let others : (longer p q).0 ≤ (fold longer (longer p q) qs).0 = grows (longer p q) qs in
    omega arith

grows_at : (p : ℕ × Front) (qs : List (ℕ × Front)) (i : ℕ) (q : ℕ × Front) → slice_get qs i ≡ Some q → q.0 ≤ (fold longer p qs).0
grows_at p [] i q e = absurd (cc)
grows_at p (r ∷ qs) zero q e =
    let same : r.0 ≡ q.0 = ap (λ (o : Option (ℕ × Front)). option_map_or (λ (x : ℕ × Front). x.0) o 0) e in
    let first : r.0 ≤ (longer p r).0 = (one_grows p r (nat_lt p.0 r.0) refl).1 in
    let others : (longer p r).0 ≤ (fold longer (longer p r) qs).0 = grows (longer p r) qs in
    omega arith
grows_at p (r ∷ qs) (suc i) q e = grows_at (longer p r) qs i q e

one_stays : (p q : ℕ × Front) (t : Bool) → nat_lt p.0 q.0 ≡ t → (pair t p q).0 ≤ p.0 → pair t p q ≡ p
one_stays p q true e h = absurd (grind (arith, e, h))
one_stays p q false e h = refl

stays : (p : ℕ × Front) (qs : List (ℕ × Front)) → (fold longer p qs).0 ≤ p.0 → fold longer p qs ≡ p
stays p [] h = refl
stays p (q ∷ qs) h =
    let first : p.0 ≤ (longer p q).0 = (one_grows p q (nat_lt p.0 q.0) refl).0 in
    let others : (longer p q).0 ≤ (fold longer (longer p q) qs).0 = grows (longer p q) qs in
    let same : longer p q ≡ p = one_stays p q (nat_lt p.0 q.0) refl (omega arith) in
    stays (longer p q) qs (omega arith) ∙ same

-- ---- what each kind is

-- The first bytes, so many, are what a front says of them.
abbrev Is : List ℕ → ℕ → Front → Type 0
Is text n (fronts.Gap m) = (m ≡ n) × IsGap (take n text)
Is text n (fronts.Token kind m) = (m ≡ n) × IsToken (take n text) kind
Is text n (fronts.Fault (faults.Unexpected b)) = ⊥
Is text n (fronts.Fault faults.NameTooLong) = IsWord (take n text) × IsNoKeyword (take n text) × (64 < n)
Is text n (fronts.Fault faults.NumberTooLarge) = IsNumeral (take n text) × (2 ^ 63 ≤ value_of (take n text))

abbrev Fits : List ℕ → ℕ × Front → Type 0
Fits text q = 1 ≤ q.0 → (q.0 ≤ length text) × Is text q.0 q.1

blank_fits : (text : List ℕ) → Fits text (blank_len text, fronts.Gap (blank_len text))
blank_fits text h = let is = blank_is text h in (is.1, (refl, piece.blank is.0))

comment_fits : (text : List ℕ) → Fits text (comment_len text, fronts.Gap (comment_len text))
comment_fits text h = let is = comment_is text h in (is.1, (refl, piece.comment is.0))

name_by : (text : List ℕ) (n : ℕ) (t : Bool) → length (take n text) ≡ n → IsWord (take n text) → IsNoKeyword (take n text) → nat_lt 64 (length (take n text)) ≡ t
    → Is text n (cond t (fronts.Fault faults.NameTooLong) (fronts.Token (kinds.Name (take n text)) (length (take n text))))
name_by text n true len is none long = (is, none, grind (arith, long, len))
name_by text n false len is none long = (len, (refl, record { word = is; no_keyword = none; short = grind (arith, long, len) }))

word_by : (text : List ℕ) (n : ℕ) (o : Option Keyword) → length (take n text) ≡ n → IsWord (take n text) → keyword_of (take n text) ≡ o
    → Is text n (option_map_or (λ k. fronts.Token (kinds.Word k) (length (take n text))) o (name (take n text)))
word_by text n (Some k) len is e = (len, keyword_is (take n text) k e)
word_by text n None len is e = name_by text n (nat_lt 64 (length (take n text))) len is (no_keyword_is (take n text) e) refl

word_fits : (text : List ℕ) → Fits text (word_len text, word_front (take (word_len text) text))
word_fits text h =
    let is = word_is text h in
    (is.1, word_by text (word_len text) (keyword_of (take (word_len text) text)) (length-take-le (word_len text) text is.1) is.0 refl)

number_by : (text : List ℕ) (n : ℕ) (t : Bool) → length (take n text) ≡ n → IsNumeral (take n text) → nat_lt (value_of (take n text)) (2 ^ 63) ≡ t
    → Is text n (cond t (fronts.Token (kinds.Number (pos (value_of (take n text)))) (length (take n text))) (fronts.Fault faults.NumberTooLarge))
number_by text n true len is e = (len, record { some = is.0; digits = is.1; fits = grind (arith, e); value = refl })
number_by text n false len is e = (is, grind (arith, e))

number_fits : (text : List ℕ) → Fits text (number_len text, number_front (take (number_len text) text))
number_fits text h =
    let is = numeral_is text h in
    (is.1, number_by text (number_len text) (nat_lt (value_of (take (number_len text) text)) (2 ^ 63)) (length-take-le (number_len text) text is.1) is.0 refl)

sign_fits : (text : List ℕ) (o : Option Sign) → sign_at text ≡ o → Each (Fits text) (option_map_or (λ s. (length (sign_spelling s), sign_front s) ∷ []) o [])
sign_fits text None e = tt
sign_fits text (Some s) e = let is = sign_is text s e in (λ h. (is.1, (refl, is.0)), tt)

-- ---- the longest piece

abbrev unexpected : ℕ → ℕ × Front
unexpected b = (0, fronts.Fault (faults.Unexpected b))

sign_by : (text : List ℕ) (m : ℕ) (p : ℕ × Front) (o : Option Sign) → sign_at text ≡ o → m ≤ option_map_or (λ s. length (sign_spelling s)) o 0 → m ≤ (fold longer p (starts text)).0
sign_by text m p None e h = omega arith
sign_by text m p (Some s) e h =
    let k : length (sign_spelling s) ≤ (fold longer p (starts text)).0 = grows_at p (starts text) 4 (length (sign_spelling s), sign_front s) (ap (λ o. slice_get (option_map_or (λ t. (length (sign_spelling t), sign_front t) ∷ []) o []) 0) e) in
    omega arith

pieces_most : (text : List ℕ) (m : ℕ) (p : ℕ × Front) → m ≤ length text → IsPiece (take m text) → m ≤ (fold longer p (starts text)).0
pieces_most text m p h (piece.word is) =
    let k : m ≤ word_len text = word_most text m h is in
    let g : word_len text ≤ (fold longer p (starts text)).0 = grows_at p (starts text) 2 (word_len text, word_front (take (word_len text) text)) refl in
    omega arith
pieces_most text m p h (piece.numeral is) =
    let k : m ≤ number_len text = numeral_most text m h is in
    let g : number_len text ≤ (fold longer p (starts text)).0 = grows_at p (starts text) 3 (number_len text, number_front (take (number_len text) text)) refl in
    omega arith
pieces_most text m p h (piece.sign is) = sign_by text m p (sign_at text) refl (sign_most text m h is)
pieces_most text m p h (piece.between (piece.blank is)) =
    let k : m ≤ blank_len text = blank_most text m h is in
    let g : blank_len text ≤ (fold longer p (starts text)).0 = grows_at p (starts text) 0 (blank_len text, fronts.Gap (blank_len text)) refl in
    omega arith
pieces_most text m p h (piece.between (piece.comment is)) =
    let k : m ≤ comment_len text = comment_most text m h is in
    let g : comment_len text ≤ (fold longer p (starts text)).0 = grows_at p (starts text) 1 (comment_len text, fronts.Gap (comment_len text)) refl in
    omega arith

-- What a front says of a text.
abbrev pub FrontIs : List ℕ → Front → Type 0
FrontIs text (fronts.Gap n) = IsLongest text n × IsGap (take n text)
FrontIs text (fronts.Token kind n) = IsLongest text n × IsToken (take n text) kind
FrontIs text (fronts.Fault (faults.Unexpected b)) = ((bs : List ℕ) × (text ≡ b ∷ bs)) × ((m : ℕ) → 1 ≤ m → m ≤ length text → IsPiece (take m text) → ⊥)
FrontIs text (fronts.Fault faults.NameTooLong) = (n : ℕ) × IsLongest text n × IsWord (take n text) × IsNoKeyword (take n text) × (64 < n)
FrontIs text (fronts.Fault faults.NumberTooLarge) = (n : ℕ) × IsLongest text n × IsNumeral (take n text) × (2 ^ 63 ≤ value_of (take n text))

of_front : (text : List ℕ) (n : ℕ) (f : Front) → IsLongest text n → Is text n f → FrontIs text f
of_front text n (fronts.Gap m) long (e, is) = subst (λ k. IsLongest text k × IsGap (take k text)) (sym e) (long, is)
of_front text n (fronts.Token kind m) long (e, is) = subst (λ k. IsLongest text k × IsToken (take k text) kind) (sym e) (long, is)
of_front text n (fronts.Fault (faults.Unexpected b)) long is = absurd is
of_front text n (fronts.Fault faults.NameTooLong) long (is, none, many) = (n, long, is, none, many)
of_front text n (fronts.Fault faults.NumberTooLarge) long (is, large) = (n, long, is, large)

of_found : (b : ℕ) (bs : List ℕ) (q : ℕ × Front) → ((m : ℕ) → m ≤ length (b ∷ bs) → IsPiece (take m (b ∷ bs)) → m ≤ q.0) → Fits (b ∷ bs) q → (q.0 ≤ 0 → q ≡ unexpected b) → FrontIs (b ∷ bs) q.1
of_found b bs (zero, f) most fits none =
    let none_is : FrontIs (b ∷ bs) (fronts.Fault (faults.Unexpected b)) = ((bs, refl), λ m low high is. let k : m ≤ 0 = most m high is in absurd (omega arith)) in
    subst (FrontIs (b ∷ bs)) (sym (ap (λ (p : ℕ × Front). p.1) (none (omega arith)))) none_is
of_found b bs (suc n, f) most fits none =
    let is = fits (omega arith) in
    let long : IsLongest (b ∷ bs) (suc n) = record { some = omega arith; within = is.0; longest = λ m more high p. let k : m ≤ suc n = most m high p in absurd (omega arith) } in
    of_front (b ∷ bs) (suc n) f long is.1

pub front_is : (b : ℕ) (bs : List ℕ) → FrontIs (b ∷ bs) (front (b ∷ bs))
front_is b bs =
    let nothing : Fits (b ∷ bs) (unexpected b) = λ h. absurd (omega arith) in
    let all : Each (Fits (b ∷ bs)) (starts (b ∷ bs)) = (blank_fits (b ∷ bs), (comment_fits (b ∷ bs), (word_fits (b ∷ bs), (number_fits (b ∷ bs), sign_fits (b ∷ bs) (sign_at (b ∷ bs)) refl)))) in
    of_found b bs (fold longer (unexpected b) (starts (b ∷ bs))) (λ m h is. pieces_most (b ∷ bs) m (unexpected b) h is) (kept (Fits (b ∷ bs)) (unexpected b) (starts (b ∷ bs)) nothing all) (λ h. stays (unexpected b) (starts (b ∷ bs)) h)

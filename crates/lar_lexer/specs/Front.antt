-- What stands at the front of a text: of a blank, a comment, a word, a number and a sign that begin there the longest.
use Rattle.std.specs.Prelude.{ℕ, ◌^◌, ◌==◌, nat_eq, nat_lt, Bool, not, ◌||◌, if◌then◌else◌, List, [], ◌∷◌, ◌++◌, length, take, fold, filter, find, slice_index, Option, pos, codes}
use Rattle.std.specs.List.{prefix_len, starts_with}
use Rattle.std.specs.Option.{option_map_or}
use Rattle.std.specs.Char.{is_ascii_alphabetic, is_ascii_alphanumeric}
use Rattle.lar_tree.specs.declared.token.Kind.TheVariants as kinds
use Rattle.lar_tree.specs.declared.sign.Sign.{Sign}
use Rattle.lar_tree.specs.Keyword.{keyword_of}
use Rattle.lar_tree.specs.Sign.{sign_spelling, signs}
use Rattle.lar_lexer.specs.declared.front.Fault.TheVariants as faults
use Rattle.lar_lexer.specs.declared.front.Front.{Front}
use Rattle.lar_lexer.specs.declared.front.Front.TheVariants as fronts
use Rattle.lar_lexer.specs.Thin.{is_blank, is_digit, value_of}

-- a letter or _
abbrev pub begins_word : ℕ → Bool
begins_word b = is_ascii_alphabetic b || b == 95

-- a letter, a digit or _
abbrev pub is_in_word : ℕ → Bool
is_in_word b = is_ascii_alphanumeric b || b == 95

-- any byte but LF
abbrev pub is_in_line : ℕ → Bool
is_in_line b = not (b == 10)

-- how many bytes the longest of each kind has at the front, and 0 where none begins there
abbrev pub blank_len : List ℕ → ℕ
blank_len [] = 0
blank_len (b ∷ bs) = if is_blank b then 1 else 0

abbrev pub comment_len : List ℕ → ℕ
comment_len text = if starts_with nat_eq text (codes "//") then prefix_len is_in_line text else 0

abbrev pub word_len : List ℕ → ℕ
word_len [] = 0
word_len (b ∷ bs) = if begins_word b then prefix_len is_in_word (b ∷ bs) else 0

abbrev pub number_len : List ℕ → ℕ
number_len text = prefix_len is_digit text

-- the signs, those of two bytes first, so that the first of them with which a text begins is the longest
abbrev pub longer_first : List Sign
longer_first = filter (λ s. length (sign_spelling s) == 2) signs ++ filter (λ s. length (sign_spelling s) == 1) signs

abbrev pub sign_at : List ℕ → Option Sign
sign_at text = find (λ s. starts_with nat_eq text (sign_spelling s)) longer_first

-- A word that is no keyword is a name, of at most 64 bytes.
abbrev pub name : List ℕ → Front
name word = if nat_lt 64 (length word) then fronts.Fault faults.NameTooLong else fronts.Token (kinds.Name word) (length word)

abbrev pub word_front : List ℕ → Front
word_front word = option_map_or (λ k. fronts.Token (kinds.Word k) (length word)) (keyword_of word) (name word)

-- at most 9223372036854775807
abbrev pub number_front : List ℕ → Front
number_front digits =
    if nat_lt (value_of digits) (2 ^ 63) then fronts.Token (kinds.Number (pos (value_of digits))) (length digits)
    else fronts.Fault faults.NumberTooLarge

abbrev pub sign_front : Sign → Front
sign_front s = fronts.Token (kinds.Sign s) (length (sign_spelling s))

-- the longest sign, or a byte at which nothing begins
abbrev pub sign_or_fault : List ℕ → Front
sign_or_fault text = option_map_or sign_front (sign_at text) (fronts.Fault (faults.Unexpected (slice_index text 0)))

-- what begins at the front, each with how many bytes it has
abbrev pub starts : List ℕ → List (ℕ × Front)
starts text =
    (blank_len text, fronts.Gap (blank_len text))
    ∷ (comment_len text, fronts.Gap (comment_len text))
    ∷ (word_len text, word_front (take (word_len text) text))
    ∷ (number_len text, number_front (take (number_len text) text))
    ∷ option_map_or (λ s. (length (sign_spelling s), sign_front s) ∷ []) (sign_at text) []

abbrev pub longer : ℕ × Front → ℕ × Front → ℕ × Front
longer p q = if nat_lt p.0 q.0 then q else p

-- the longest, or a byte at which nothing begins
abbrev pub front : List ℕ → Front
front text = (fold longer (0, fronts.Fault (faults.Unexpected (slice_index text 0))) (starts text)).1

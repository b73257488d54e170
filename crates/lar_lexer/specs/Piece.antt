-- What a text is made of, said of bytes alone: words, numerals, signs, blanks and comments. Which of them are tokens, and of which kind.
use Rattle.std.specs.Prelude.{ℕ, ◌≡◌, ◌≤◌, ◌<◌, nat_eq, List, [], ◌∷◌, length, take, codes, IsTrue}
use Rattle.std.specs.List.{list_all, starts_with}
use Rattle.lar_tree.specs.declared.keyword.Keyword.{Keyword}
use Rattle.lar_tree.specs.declared.sign.Sign.{Sign}
use Rattle.lar_tree.specs.declared.token.Kind.{Kind}
use Rattle.lar_tree.specs.declared.token.Kind.TheVariants as kinds
use Rattle.lar_tree.specs.Keyword.{keyword_spelling}
use Rattle.lar_tree.specs.Sign.{sign_spelling}
use Rattle.lar_lexer.specs.Front.{begins_word, is_in_word, is_in_line}
use Rattle.lar_lexer.specs.Thin.{is_blank, is_digit, Writes}

-- a letter or _, and then letters, digits and _
abbrev pub IsWord : List ℕ → Type 0
IsWord [] = ⊥
IsWord (b ∷ bs) = IsTrue (begins_word b) × IsTrue (list_all is_in_word bs)

-- one digit or more
abbrev pub IsNumeral : List ℕ → Type 0
IsNumeral bytes = (0 < length bytes) × IsTrue (list_all is_digit bytes)

abbrev pub IsSign : List ℕ → Type 0
IsSign bytes = (s : Sign) × (bytes ≡ sign_spelling s)

-- a space, a tab, a CR or an LF
abbrev pub IsBlank : List ℕ → Type 0
IsBlank bytes = (b : ℕ) × (bytes ≡ b ∷ []) × IsTrue (is_blank b)

-- // and any bytes but LF
abbrev pub IsComment : List ℕ → Type 0
IsComment bytes = IsTrue (starts_with nat_eq bytes (codes "//")) × IsTrue (list_all is_in_line bytes)

-- what stands between tokens
pub data IsGap (bytes : List ℕ) : Type 0 where
  blank : IsBlank bytes → IsGap bytes
  comment : IsComment bytes → IsGap bytes

-- any of these
pub data IsPiece (bytes : List ℕ) : Type 0 where
  word : IsWord bytes → IsPiece bytes
  numeral : IsNumeral bytes → IsPiece bytes
  sign : IsSign bytes → IsPiece bytes
  between : IsGap bytes → IsPiece bytes

abbrev pub IsNoKeyword : List ℕ → Type 0
IsNoKeyword bytes = (k : Keyword) → bytes ≡ keyword_spelling k → ⊥

-- A name is a word of at most 64 bytes that is no keyword.
pub record IsName (bytes : List ℕ) : Type 0 where
  pub word : IsWord bytes
  pub no_keyword : IsNoKeyword bytes
  pub short : length bytes ≤ 64

-- The bytes spell a token of this kind.
abbrev pub IsToken : List ℕ → Kind → Type 0
IsToken bytes (kinds.Name name) = (bytes ≡ name) × IsName bytes
IsToken bytes (kinds.Number n) = Writes bytes n
IsToken bytes (kinds.Word k) = bytes ≡ keyword_spelling k
IsToken bytes (kinds.Sign s) = bytes ≡ sign_spelling s

-- The first bytes of a text, so many, are a piece, and no more of its first bytes are one.
pub record IsLongest (text : List ℕ) (n : ℕ) : Type 0 where
  pub some : 1 ≤ n
  pub within : n ≤ length text
  pub longest : (m : ℕ) → n < m → m ≤ length text → IsPiece (take m text) → ⊥

-- How each keyword is spelled.
use Rattle.std.specs.Prelude.{ℕ, List, [], ◌∷◌, Option, codes, find}
use Rattle.std.specs.Str.{bytes_eq}
use Rattle.lar_tree.specs.declared.keyword.Keyword.{Keyword}
use Rattle.lar_tree.specs.declared.keyword.Keyword.TheVariants.{Mod, Struct, Const, Fn, Let, If, Else, While, Return, Print, StaticAssert, New, True, False, I64, Bool}

abbrev pub keyword_spelling : Keyword → List ℕ
keyword_spelling Mod = codes "mod"
keyword_spelling Struct = codes "struct"
keyword_spelling Const = codes "const"
keyword_spelling Fn = codes "fn"
keyword_spelling Let = codes "let"
keyword_spelling If = codes "if"
keyword_spelling Else = codes "else"
keyword_spelling While = codes "while"
keyword_spelling Return = codes "return"
keyword_spelling Print = codes "print"
keyword_spelling StaticAssert = codes "static_assert"
keyword_spelling New = codes "new"
keyword_spelling True = codes "true"
keyword_spelling False = codes "false"
keyword_spelling I64 = codes "i64"
keyword_spelling Bool = codes "bool"

abbrev pub keywords : List Keyword
keywords = Mod ∷ Struct ∷ Const ∷ Fn ∷ Let ∷ If ∷ Else ∷ While ∷ Return ∷ Print ∷ StaticAssert ∷ New ∷ True ∷ False ∷ I64 ∷ Bool ∷ []

-- the keyword that a word spells
abbrev pub keyword_of : List ℕ → Option Keyword
keyword_of word = find (λ k. bytes_eq word (keyword_spelling k)) keywords

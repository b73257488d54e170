-- How each sign is spelled.
use Rattle.std.specs.Prelude.{ℕ, List, [], ◌∷◌, codes}
use Rattle.lar_tree.specs.declared.sign.Sign.{Sign}
use Rattle.lar_tree.specs.declared.sign.Sign.TheVariants.{OpenParen, CloseParen, OpenBrace, CloseBrace, OpenBracket, CloseBracket, Comma, Semicolon, Colon, PathSep, Dot, Assign, Equal, NotEqual, Less, AtMost, Greater, AtLeast, Plus, Minus, Star, Slash, Percent, Not, And, Or, Hash, Arrow}

abbrev pub sign_spelling : Sign → List ℕ
sign_spelling OpenParen = codes "("
sign_spelling CloseParen = codes ")"
sign_spelling OpenBrace = codes "{"
sign_spelling CloseBrace = codes "}"
sign_spelling OpenBracket = codes "["
sign_spelling CloseBracket = codes "]"
sign_spelling Comma = codes ","
sign_spelling Semicolon = codes ";"
sign_spelling Colon = codes ":"
sign_spelling PathSep = codes "::"
sign_spelling Dot = codes "."
sign_spelling Assign = codes "="
sign_spelling Equal = codes "=="
sign_spelling NotEqual = codes "!="
sign_spelling Less = codes "<"
sign_spelling AtMost = codes "<="
sign_spelling Greater = codes ">"
sign_spelling AtLeast = codes ">="
sign_spelling Plus = codes "+"
sign_spelling Minus = codes "-"
sign_spelling Star = codes "*"
sign_spelling Slash = codes "/"
sign_spelling Percent = codes "%"
sign_spelling Not = codes "!"
sign_spelling And = codes "&&"
sign_spelling Or = codes "||"
sign_spelling Hash = codes "#"
sign_spelling Arrow = codes "->"

abbrev pub signs : List Sign
signs = OpenParen ∷ CloseParen ∷ OpenBrace ∷ CloseBrace ∷ OpenBracket ∷ CloseBracket ∷ Comma ∷ Semicolon ∷ Colon ∷ PathSep ∷ Dot ∷ Assign ∷ Equal ∷ NotEqual ∷ Less ∷ AtMost ∷ Greater ∷ AtLeast ∷ Plus ∷ Minus ∷ Star ∷ Slash ∷ Percent ∷ Not ∷ And ∷ Or ∷ Hash ∷ Arrow ∷ []

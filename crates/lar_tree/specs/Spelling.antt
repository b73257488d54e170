-- What is spelled the same wherever it stands: single tokens, paths, and numbers with a sign.
use Rattle.std.specs.Prelude.{ℤ, List, [], ◌∷◌, ◌++◌, map, Option, Some, None}
use Rattle.lar_source.specs.declared.file.Span.{Span}
use Rattle.lar_tree.specs.declared.keyword.Keyword.{Keyword}
use Rattle.lar_tree.specs.declared.sign.Sign.{Sign}
use Rattle.lar_tree.specs.declared.sign.Sign.TheVariants as sign
use Rattle.lar_tree.specs.declared.token.Kind.{Kind}
use Rattle.lar_tree.specs.declared.token.Kind.TheVariants as kind
use Rattle.lar_tree.specs.declared.token.Token.{Token}
use Rattle.lar_tree.specs.declared.name.Name.{Name}
use Rattle.lar_tree.specs.declared.name.Path.{Path}
use Rattle.lar_tree.specs.declared.name.Segment.{Segment}
use Rattle.lar_tree.specs.declared.ty.SignedNumber.{SignedNumber}

abbrev pub sign_token : Sign → Span → Token
sign_token s at = record { kind = kind.Sign s; span = at }

abbrev pub word_token : Keyword → Span → Token
word_token w at = record { kind = kind.Word w; span = at }

abbrev pub number_token : ℤ → Span → Token
number_token n at = record { kind = kind.Number n; span = at }

abbrev pub name_token : Name → Token
name_token n = record { kind = kind.Name n.text; span = n.span }

abbrev pub kinds : List Token → List Kind
kinds = map (λ t. t.kind)

abbrev pub flat_segments : List Segment → List Token
flat_segments [] = []
flat_segments (s ∷ ss) = sign_token sign.PathSep s.sep ∷ name_token s.name ∷ flat_segments ss

abbrev pub flat_path : Path → List Token
flat_path p = name_token p.first ∷ flat_segments p.more

abbrev pub flat_minus : Option Span → List Token
flat_minus None = []
flat_minus (Some at) = sign_token sign.Minus at ∷ []

abbrev pub flat_signed : SignedNumber → List Token
flat_signed n = flat_minus n.minus ++ number_token n.value n.span ∷ []

-- the tokens of what may be left out
abbrev pub flat_option : {A : Type 0} → (A → List Token) → Option A → List Token
flat_option flat None = []
flat_option flat (Some x) = flat x

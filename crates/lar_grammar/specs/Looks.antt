-- What is seen of the next token.
use Rattle.std.specs.Prelude.{ℕ, List, [], ◌∷◌, Bool, true, false, Option, Some, None}
use Rattle.std.specs.Str.{bytes_eq}
use Rattle.lar_tree.specs.declared.keyword.Keyword.{Keyword}
use Rattle.lar_tree.specs.declared.sign.Sign.{Sign}
use Rattle.lar_tree.specs.declared.sign.Sign.TheVariants as sign
use Rattle.lar_tree.specs.declared.token.Kind.{Kind}
use Rattle.lar_tree.specs.declared.token.Kind.TheVariants as kind
use Rattle.lar_tree.specs.declared.token.Token.{Token}
use Rattle.lar_tree.specs.declared.expr.Unary.{Unary}
use Rattle.lar_tree.specs.declared.expr.Unary.TheVariants as unary
use Rattle.lar_tree.specs.declared.expr.Binary.{Binary}
use Rattle.lar_tree.specs.declared.expr.Binary.TheVariants as binary
use Rattle.lar_tree.specs.declared.item.AttributeWord.{AttributeWord}
use Rattle.lar_tree.specs.declared.item.AttributeWord.TheVariants as attribute
use Rattle.lar_tree.specs.Items.{attribute_name}
use denote.Enum.Bare.{sameb}
use Rattle.lar_tree.specs.contracts.sign.Sign.{the_type}
use Rattle.lar_tree.specs.contracts.keyword.Keyword.{the_type as keyword_type}

-- the next token's kind, or none at the end
abbrev pub Look : Type 0
Look = Option Kind

abbrev pub look : List Token → Look
look [] = None
look (t ∷ ts) = Some t.kind

-- `==` on signs, and on keywords
unfoldable pub same_sign : Sign → Sign → Bool
same_sign = sameb the_type

unfoldable pub same_word : Keyword → Keyword → Bool
same_word = sameb keyword_type

abbrev pub is_sign : Sign → Look → Bool
is_sign s (Some (kind.Sign t)) = same_sign t s
is_sign s _ = false

abbrev pub is_word : Keyword → Look → Bool
is_word w (Some (kind.Word v)) = same_word v w
is_word w _ = false

abbrev pub is_name : Look → Bool
is_name (Some (kind.Name n)) = true
is_name _ = false

abbrev pub is_number : Look → Bool
is_number (Some (kind.Number n)) = true
is_number _ = false

-- the word that a name spells between an attribute's brackets
abbrev pub chosen_word : Bool → Bool → Option AttributeWord
chosen_word true b = Some attribute.Inline
chosen_word false true = Some attribute.Export
chosen_word false false = None

abbrev pub word_of : List ℕ → Option AttributeWord
word_of name = chosen_word (bytes_eq name (attribute_name attribute.Inline)) (bytes_eq name (attribute_name attribute.Export))

abbrev pub attribute_at : Look → Option AttributeWord
attribute_at (Some (kind.Name n)) = word_of n
attribute_at _ = None

-- a sign before its operand
abbrev pub prefix : Look → Option Unary
prefix (Some (kind.Sign sign.Minus)) = Some unary.Minus
prefix (Some (kind.Sign sign.Not)) = Some unary.Not
prefix _ = None

-- a sign between its operands
abbrev pub operator : Look → Option Binary
operator (Some (kind.Sign sign.Or)) = Some binary.Or
operator (Some (kind.Sign sign.And)) = Some binary.And
operator (Some (kind.Sign sign.Equal)) = Some binary.Equal
operator (Some (kind.Sign sign.NotEqual)) = Some binary.NotEqual
operator (Some (kind.Sign sign.Less)) = Some binary.Less
operator (Some (kind.Sign sign.AtMost)) = Some binary.AtMost
operator (Some (kind.Sign sign.Greater)) = Some binary.Greater
operator (Some (kind.Sign sign.AtLeast)) = Some binary.AtLeast
operator (Some (kind.Sign sign.Plus)) = Some binary.Plus
operator (Some (kind.Sign sign.Minus)) = Some binary.Minus
operator (Some (kind.Sign sign.Star)) = Some binary.Star
operator (Some (kind.Sign sign.Slash)) = Some binary.Slash
operator (Some (kind.Sign sign.Percent)) = Some binary.Percent
operator _ = None

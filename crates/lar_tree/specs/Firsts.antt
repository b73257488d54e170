-- The first token of an expression and of a type, and where it stands.
use Rattle.lar_source.specs.declared.file.Span.{Span}
use Rattle.lar_tree.specs.declared.keyword.Keyword.TheVariants as keyword
use Rattle.lar_tree.specs.declared.sign.Sign.TheVariants as sign
use Rattle.lar_tree.specs.declared.token.Token.{Token}
use Rattle.lar_tree.specs.Spelling.{sign_token, word_token, number_token, name_token}
use Rattle.lar_tree.specs.Types.{PlainTy, int_type, bool_type, unit_type, tuple_type, named_type, generic_type}
use Rattle.lar_tree.specs.Exprs.{PlainExpr, number, truth, untruth, paren, new_struct, path, call, field, unary_of, binary_of, unary_sign}

abbrev pub expr_first : PlainExpr → Token
expr_first (number n at) = number_token n at
expr_first (truth at) = word_token keyword.True at
expr_first (untruth at) = word_token keyword.False at
expr_first (paren from ps to) = sign_token sign.OpenParen from
expr_first (new_struct at p generics from is to) = word_token keyword.New at
expr_first (path p) = name_token p.first
expr_first (call p generics from ps to) = name_token p.first
expr_first (field inner dot s) = expr_first inner
expr_first (unary_of op at inner) = sign_token (unary_sign op) at
expr_first (binary_of left op at right) = expr_first left

abbrev pub type_first : PlainTy → Token
type_first (int_type at) = word_token keyword.I64 at
type_first (bool_type at) = word_token keyword.Bool at
type_first (unit_type from to) = sign_token sign.OpenParen from
type_first (tuple_type from first comma second others to) = sign_token sign.OpenParen from
type_first (named_type p) = name_token p.first
type_first (generic_type p args) = name_token p.first

-- where an expression begins
abbrev pub expr_start : PlainExpr → Span
expr_start e = (expr_first e).span

-- where a type begins
abbrev pub type_start : PlainTy → Span
type_start t = (type_first t).span

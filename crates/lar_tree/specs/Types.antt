-- Types as plain data, and the tokens that they spell.
--
--     Type = "i64" | "bool" | "(" [ Type "," Type { "," Type } ] ")" | Path [ "<" Args ">" ]
--     Args = Arg { "," Arg }
--     Arg  = Type | [ "-" ] INT
use Rattle.std.specs.Prelude.{List, [], ◌∷◌, ◌++◌}
use Rattle.lar_source.specs.declared.file.Span.{Span}
use Rattle.lar_tree.specs.declared.keyword.Keyword.TheVariants as keyword
use Rattle.lar_tree.specs.declared.sign.Sign.TheVariants as sign
use Rattle.lar_tree.specs.declared.token.Token.{Token}
use Rattle.lar_tree.specs.declared.name.Path.{Path}
use Rattle.lar_tree.specs.declared.ty.SignedNumber.{SignedNumber}
use Rattle.lar_tree.specs.Spelling.{sign_token, word_token, flat_path, flat_signed}

mutual
  pub data PlainTy : Type 0 where
    int_type : Span → PlainTy
    bool_type : Span → PlainTy
    unit_type : Span → Span → PlainTy
    -- the bracket, a type, a comma, a type, further ones, the bracket
    tuple_type : Span → PlainTy → Span → PlainTy → MoreTypes → Span → PlainTy
    named_type : Path → PlainTy
    generic_type : Path → PlainArgs → PlainTy

  pub data MoreTypes : Type 0 where
    last_type : MoreTypes
    next_type : Span → PlainTy → MoreTypes → MoreTypes

  pub data PlainArgs : Type 0 where
    angle_args : Span → PlainArg → MoreArgs → Span → PlainArgs

  pub data PlainArg : Type 0 where
    type_arg : PlainTy → PlainArg
    number_arg : SignedNumber → PlainArg

  pub data MoreArgs : Type 0 where
    last_arg : MoreArgs
    next_arg : Span → PlainArg → MoreArgs → MoreArgs

abbrev mutual
  pub flat_type : PlainTy → List Token
  flat_type (int_type at) = word_token keyword.I64 at ∷ []
  flat_type (bool_type at) = word_token keyword.Bool at ∷ []
  flat_type (unit_type from to) = sign_token sign.OpenParen from ∷ sign_token sign.CloseParen to ∷ []
  flat_type (tuple_type from first comma second others to) = sign_token sign.OpenParen from ∷ (flat_type first ++ sign_token sign.Comma comma ∷ (flat_type second ++ (flat_types others ++ sign_token sign.CloseParen to ∷ [])))
  flat_type (named_type path) = flat_path path
  flat_type (generic_type path args) = flat_path path ++ flat_args args

  pub flat_types : MoreTypes → List Token
  flat_types last_type = []
  flat_types (next_type comma t others) = sign_token sign.Comma comma ∷ (flat_type t ++ flat_types others)

  pub flat_args : PlainArgs → List Token
  flat_args (angle_args from first others to) = sign_token sign.Less from ∷ (flat_arg first ++ (flat_more_args others ++ sign_token sign.Greater to ∷ []))

  pub flat_arg : PlainArg → List Token
  flat_arg (type_arg t) = flat_type t
  flat_arg (number_arg n) = flat_signed n

  pub flat_more_args : MoreArgs → List Token
  flat_more_args last_arg = []
  flat_more_args (next_arg comma a others) = sign_token sign.Comma comma ∷ (flat_arg a ++ flat_more_args others)

-- What may come next, as symbols, and what a symbol does with a token.
use Rattle.std.specs.Prelude.{ℕ, List, ◌++◌, Bool, true, false}
use Rattle.lar_tree.specs.declared.keyword.Keyword.{Keyword}
use Rattle.lar_tree.specs.declared.sign.Sign.{Sign}

-- what stands between commas
pub data Listed : Type 0 where
  expr_member : Listed
  init_member : Listed
  field_member : Listed
  arg_member : Listed
  generic_member : Listed
  name_member : Listed
  type_member : Listed

pub data Symbol : Type 0 where
  one_sign : Sign → Symbol
  one_word : Keyword → Symbol
  one_name : Symbol
  one_number : Symbol
  -- a number, with a sign before it or none
  signed_number : Symbol
  -- `inline` or `export`
  attribute_word : Symbol
  -- a member; one behind a comma, where so many may still come; further ones, each behind its comma, at most so many;
  -- and a list or none before the sign that closes it, of one and at most so many more
  member : Listed → Symbol
  further : Listed → ℕ → Symbol
  more : Listed → ℕ → Symbol
  listed : Listed → ℕ → Sign → Symbol
  -- a list in angle brackets, or none
  angle : Listed → Symbol
  -- a type; what stands behind its `(`; what stands behind a path's name; a type that stands in no other and in no expression
  one_type : Symbol
  tuple_rest : Symbol
  segments : Symbol
  outer_type : Symbol
  -- an expression of at most this height, which is at least 1; one of height 1; signs from the one height to the other, with their
  -- right operands; fields; what stands behind a dot
  level : ℕ → Symbol
  operand : Symbol
  tails : ℕ → ℕ → Symbol
  post : Symbol
  selector : Symbol
  -- what stands behind a name that begins an operand, and behind a `::` there; the same behind `new`
  path_rest : Symbol
  sep_rest : Symbol
  new_rest : Symbol
  new_sep_rest : Symbol
  -- an expression that stands in no other; the end of an outermost expression or type
  outer_expr : Symbol
  leave : Symbol
  -- what stands behind `return`, and behind an expression that begins a statement
  return_rest : Symbol
  setting_rest : Symbol
  -- where so many levels may still be opened: a block, statements, `else` or nothing, and what stands behind `else`
  one_block : ℕ → Symbol
  statements : ℕ → Symbol
  else_part : ℕ → Symbol
  branch : ℕ → Symbol
  -- the same for a module's body, the items in it, and what stands behind an attribute
  body : ℕ → Symbol
  module_items : ℕ → Symbol
  attributed : ℕ → Symbol
  -- `->` and a type, or nothing
  output : Symbol
  -- items up to the end
  program : Symbol

-- what may still come, the next first
abbrev pub Stack : Type 0
Stack = List Symbol

-- The symbol is left out, the token may not stand there, or it is taken and these symbols come; or it is the first token of an
-- outermost expression or type besides.
pub data Move : Type 0 where
  skip : Move
  fail : Move
  take : Stack → Move
  enter : Stack → Move

abbrev pub then_ : Move → Stack → Move
then_ skip behind = skip
then_ fail behind = fail
then_ (take ss) behind = take (ss ++ behind)
then_ (enter ss) behind = enter (ss ++ behind)

abbrev pub entering : Move → Move
entering skip = skip
entering fail = fail
entering (take ss) = enter ss
entering (enter ss) = enter ss

abbrev pub when : Bool → Move → Move → Move
when true a b = a
when false a b = b

-- What each symbol does with the next token: the grammar, one token ahead.
use Rattle.std.specs.Prelude.{ℕ, zero, suc, ◌-◌, ◌&&◌, nat_le, Bool, [], ◌∷◌, Option, Some, None, is_some}
use Rattle.lar_tree.specs.declared.keyword.Keyword.TheVariants as keyword
use Rattle.lar_tree.specs.declared.sign.Sign.TheVariants as sign
use Rattle.lar_tree.specs.declared.token.Kind.TheVariants as kind
use Rattle.lar_tree.specs.declared.expr.Binary.{Binary}
use Rattle.lar_tree.specs.declared.expr.Binary.TheVariants as binary
use Rattle.lar_tree.specs.Exprs.{height_of}
use Rattle.lar_grammar.specs.Looks.{Look, is_sign, is_word, is_name, is_number, attribute_at, operator}
use Rattle.lar_grammar.specs.Symbols.{Listed, expr_member, init_member, field_member, arg_member, generic_member, name_member, type_member, Symbol, one_sign, one_word, one_name, one_number, signed_number, attribute_word, member, further, more, listed, angle, one_type, tuple_rest, segments, outer_type, level, operand, tails, post, selector, path_rest, sep_rest, new_rest, new_sep_rest, outer_expr, leave, return_rest, setting_rest, one_block, statements, else_part, branch, body, module_items, attributed, output, program, Stack, Move, skip, fail, take, then_, entering, when}

-- the symbols of `<`, at most sixteen members and `>`, from behind the `<` on
abbrev pub angle_rest : Listed → Stack
angle_rest w = member w ∷ more w 15 ∷ one_sign sign.Greater ∷ []

-- a list in round brackets or in braces, from behind the first of them on
abbrev pub in_parens : Listed → ℕ → Stack
in_parens w n = listed w n sign.CloseParen ∷ one_sign sign.CloseParen ∷ []

abbrev pub in_braces : Listed → ℕ → Stack
in_braces w n = listed w n sign.CloseBrace ∷ one_sign sign.CloseBrace ∷ []

abbrev pub signed : Look → Move
signed (Some (kind.Sign sign.Minus)) = take (one_number ∷ [])
signed (Some (kind.Number n)) = take []
signed _ = fail

-- ---- types

abbrev pub type_at : Look → Move
type_at (Some (kind.Word keyword.I64)) = take []
type_at (Some (kind.Word keyword.Bool)) = take []
type_at (Some (kind.Sign sign.OpenParen)) = take (tuple_rest ∷ [])
type_at (Some (kind.Name n)) = take (segments ∷ angle arg_member ∷ [])
type_at _ = fail

abbrev pub arg_at : Look → Move
arg_at (Some (kind.Sign sign.Minus)) = take (one_number ∷ [])
arg_at (Some (kind.Number n)) = take []
arg_at l = type_at l

abbrev pub generic_at : Look → Move
generic_at (Some (kind.Name n)) = take []
generic_at (Some (kind.Word keyword.Const)) = take (one_name ∷ one_sign sign.Colon ∷ one_word keyword.I64 ∷ [])
generic_at _ = fail

-- ---- expressions

abbrev pub operand_at : Look → Move
operand_at (Some (kind.Number n)) = take (post ∷ [])
operand_at (Some (kind.Word keyword.True)) = take (post ∷ [])
operand_at (Some (kind.Word keyword.False)) = take (post ∷ [])
operand_at (Some (kind.Word keyword.New)) = take (one_name ∷ new_rest ∷ post ∷ [])
operand_at (Some (kind.Name n)) = take (path_rest ∷ post ∷ [])
operand_at (Some (kind.Sign sign.OpenParen)) = take (listed expr_member 7 sign.CloseParen ∷ one_sign sign.CloseParen ∷ post ∷ [])
operand_at (Some (kind.Sign sign.Minus)) = take (operand ∷ [])
operand_at (Some (kind.Sign sign.Not)) = take (operand ∷ [])
operand_at _ = fail

abbrev pub climb : ℕ → Look → Move
climb h l = then_ (operand_at l) (tails 2 h ∷ [])

-- the lowest sign that may follow the right operand of this one: a comparison does not chain
abbrev pub next_low : Binary → ℕ
next_low binary.Equal = 5
next_low binary.NotEqual = 5
next_low binary.Less = 5
next_low binary.AtMost = 5
next_low binary.Greater = 5
next_low binary.AtLeast = 5
next_low op = height_of op

abbrev pub in_reach : ℕ → ℕ → Binary → Bool
in_reach low h op = nat_le low (height_of op) && nat_le (height_of op) h

abbrev pub operated : ℕ → ℕ → Option Binary → Move
operated low h None = skip
operated low h (Some op) = when (in_reach low h op) (take (level (height_of op - 1) ∷ tails (next_low op) h ∷ [])) skip

abbrev pub selector_at : Look → Move
selector_at (Some (kind.Name n)) = take []
selector_at (Some (kind.Number n)) = take []
selector_at _ = fail

abbrev pub path_on : Look → Move
path_on (Some (kind.Sign sign.PathSep)) = take (sep_rest ∷ [])
path_on (Some (kind.Sign sign.OpenParen)) = take (in_parens expr_member 15)
path_on _ = skip

abbrev pub sep_on : Look → Move
sep_on (Some (kind.Name n)) = take (path_rest ∷ [])
sep_on (Some (kind.Sign sign.Less)) = take (member arg_member ∷ more arg_member 15 ∷ one_sign sign.Greater ∷ one_sign sign.OpenParen ∷ in_parens expr_member 15)
sep_on _ = fail

abbrev pub new_on : Look → Move
new_on (Some (kind.Sign sign.PathSep)) = take (new_sep_rest ∷ [])
new_on (Some (kind.Sign sign.OpenBrace)) = take (in_braces init_member 63)
new_on _ = fail

abbrev pub new_sep_on : Look → Move
new_sep_on (Some (kind.Name n)) = take (new_rest ∷ [])
new_sep_on (Some (kind.Sign sign.Less)) = take (member arg_member ∷ more arg_member 15 ∷ one_sign sign.Greater ∷ one_sign sign.OpenBrace ∷ in_braces init_member 63)
new_sep_on _ = fail

-- ---- members of lists

abbrev pub begin : Listed → Look → Move
begin expr_member l = climb 6 l
begin init_member l = when (is_name l) (take (one_sign sign.Colon ∷ level 6 ∷ [])) fail
begin field_member l = when (is_name l) (take (one_sign sign.Colon ∷ outer_type ∷ [])) fail
begin arg_member l = arg_at l
begin generic_member l = generic_at l
begin name_member l = when (is_name l) (take []) fail
begin type_member l = type_at l

abbrev pub further_at : Listed → ℕ → Look → Move
further_at w zero l = fail
further_at w (suc n) l = begin w l

-- ---- statements

abbrev pub whole_at : Look → Move
whole_at l = entering (climb 6 l)

abbrev pub setting_on : Look → Move
setting_on (Some (kind.Sign sign.Assign)) = take (outer_expr ∷ one_sign sign.Semicolon ∷ [])
setting_on (Some (kind.Sign sign.Semicolon)) = take []
setting_on _ = fail

abbrev pub let_rest : Stack
let_rest = one_name ∷ one_sign sign.Colon ∷ outer_type ∷ one_sign sign.Assign ∷ outer_expr ∷ one_sign sign.Semicolon ∷ []

abbrev pub asked_rest : Stack
asked_rest = one_sign sign.OpenParen ∷ outer_expr ∷ one_sign sign.CloseParen ∷ one_sign sign.Semicolon ∷ []

abbrev pub while_rest : ℕ → Stack
while_rest n = outer_expr ∷ one_block n ∷ []

abbrev pub if_rest : ℕ → Stack
if_rest n = outer_expr ∷ one_block n ∷ else_part n ∷ []

abbrev pub statement_at : ℕ → Look → Move
statement_at n (Some (kind.Word keyword.Let)) = take let_rest
statement_at n (Some (kind.Word keyword.If)) = take (if_rest n)
statement_at n (Some (kind.Word keyword.While)) = take (while_rest n)
statement_at n (Some (kind.Word keyword.Return)) = take (return_rest ∷ [])
statement_at n (Some (kind.Word keyword.Print)) = take asked_rest
statement_at n (Some (kind.Word keyword.StaticAssert)) = take asked_rest
statement_at n l = then_ (whole_at l) (leave ∷ setting_rest ∷ [])

abbrev pub block_at : ℕ → Look → Move
block_at zero l = fail
block_at (suc n) l = when (is_sign sign.OpenBrace l) (take (statements n ∷ one_sign sign.CloseBrace ∷ [])) fail

-- an `if` behind `else` is a level itself
abbrev pub branch_at : ℕ → Look → Move
branch_at zero l = fail
branch_at (suc n) (Some (kind.Word keyword.If)) = take (if_rest n)
branch_at (suc n) (Some (kind.Sign sign.OpenBrace)) = take (statements n ∷ one_sign sign.CloseBrace ∷ [])
branch_at (suc n) l = fail

-- ---- items

abbrev pub struct_rest : Stack
struct_rest = one_name ∷ angle name_member ∷ one_sign sign.OpenBrace ∷ in_braces field_member 63

abbrev pub const_rest : Stack
const_rest = one_name ∷ one_sign sign.Colon ∷ one_word keyword.I64 ∷ one_sign sign.Assign ∷ signed_number ∷ one_sign sign.Semicolon ∷ []

abbrev pub fn_rest : ℕ → Stack
fn_rest n = one_name ∷ angle generic_member ∷ one_sign sign.OpenParen ∷ listed field_member 15 sign.CloseParen ∷ one_sign sign.CloseParen ∷ output ∷ one_block n ∷ []

abbrev pub attribute_rest : ℕ → Stack
attribute_rest n = one_sign sign.OpenBracket ∷ attribute_word ∷ one_sign sign.CloseBracket ∷ attributed n ∷ []

abbrev pub attributed_at : ℕ → Look → Move
attributed_at n (Some (kind.Sign sign.Hash)) = take (attribute_rest n)
attributed_at n (Some (kind.Word keyword.Fn)) = take (fn_rest n)
attributed_at n _ = fail

abbrev pub item_at : ℕ → Look → Move
item_at n (Some (kind.Word keyword.Mod)) = take (one_name ∷ body n ∷ [])
item_at n (Some (kind.Word keyword.Struct)) = take struct_rest
item_at n (Some (kind.Word keyword.Const)) = take const_rest
item_at n l = attributed_at n l

abbrev pub body_at : ℕ → Look → Move
body_at zero l = fail
body_at (suc n) l = when (is_sign sign.OpenBrace l) (take (module_items n ∷ one_sign sign.CloseBrace ∷ [])) fail

abbrev pub program_at : Look → Move
program_at None = skip
program_at l = then_ (item_at 64 l) (program ∷ [])

-- ---- all symbols

abbrev pub expand : Symbol → Look → Move
expand (one_sign s) l = when (is_sign s l) (take []) fail
expand (one_word w) l = when (is_word w l) (take []) fail
expand one_name l = when (is_name l) (take []) fail
expand one_number l = when (is_number l) (take []) fail
expand signed_number l = signed l
expand attribute_word l = when (is_some (attribute_at l)) (take []) fail
expand (member w) l = begin w l
expand (further w n) l = further_at w n l
expand (more w n) l = when (is_sign sign.Comma l) (take (further w n ∷ more w (n - 1) ∷ [])) skip
expand (listed w n s) l = when (is_sign s l) skip (then_ (begin w l) (more w n ∷ []))
expand (angle w) l = when (is_sign sign.Less l) (take (angle_rest w)) skip
expand one_type l = type_at l
expand tuple_rest l = when (is_sign sign.CloseParen l) (take []) (then_ (type_at l) (one_sign sign.Comma ∷ one_type ∷ more type_member 6 ∷ one_sign sign.CloseParen ∷ []))
expand segments l = when (is_sign sign.PathSep l) (take (one_name ∷ segments ∷ [])) skip
expand outer_type l = then_ (entering (type_at l)) (leave ∷ [])
expand (level h) l = climb h l
expand operand l = operand_at l
expand (tails low h) l = operated low h (operator l)
expand post l = when (is_sign sign.Dot l) (take (selector ∷ post ∷ [])) skip
expand selector l = selector_at l
expand path_rest l = path_on l
expand sep_rest l = sep_on l
expand new_rest l = new_on l
expand new_sep_rest l = new_sep_on l
expand outer_expr l = then_ (whole_at l) (leave ∷ [])
expand leave l = skip
expand return_rest l = when (is_sign sign.Semicolon l) (take []) (then_ (whole_at l) (leave ∷ one_sign sign.Semicolon ∷ []))
expand setting_rest l = setting_on l
expand (one_block n) l = block_at n l
expand (statements n) l = when (is_sign sign.CloseBrace l) skip (then_ (statement_at n l) (statements n ∷ []))
expand (else_part n) l = when (is_word keyword.Else l) (take (branch n ∷ [])) skip
expand (branch n) l = branch_at n l
expand (body n) l = body_at n l
expand (module_items n) l = when (is_sign sign.CloseBrace l) skip (then_ (item_at n l) (module_items n ∷ []))
expand (attributed n) l = attributed_at n l
expand output l = when (is_sign sign.Arrow l) (take (outer_type ∷ [])) skip
expand program l = program_at l

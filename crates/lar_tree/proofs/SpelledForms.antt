-- What each alternative of the grammar spells, computed: the text has a space after each token.
use Rattle.std.proofs.Common.{◌≡◌, ℕ, ◌+◌, ℤ, pos, negsuc, List, [], ◌∷◌, ◌++◌, Some, None, codes, refl}
use Rattle.lar_source.specs.declared.file.Span.{Span}
use Rattle.lar_tree.specs.declared.token.Kind.{Kind}
use Rattle.lar_tree.specs.declared.token.Kind.TheVariants as kind
use Rattle.lar_tree.specs.declared.token.Token.{Token}
use Rattle.lar_tree.specs.declared.name.Name.{Name}
use Rattle.lar_tree.specs.declared.name.Path.{Path}
use Rattle.lar_tree.specs.declared.expr.Selector.TheVariants as selector
use Rattle.lar_tree.specs.declared.expr.Unary.TheVariants as unary
use Rattle.lar_tree.specs.declared.expr.Binary.TheVariants as binary
use Rattle.lar_tree.specs.declared.item.AttributeWord.TheVariants as attribute
use Rattle.lar_tree.specs.declared.item.Generic.TheVariants as generic
use Rattle.lar_tree.specs.Keyword.{keyword_spelling}
use Rattle.lar_tree.specs.Sign.{sign_spelling}
use Rattle.lar_tree.specs.Types.{PlainTy, int_type, bool_type, unit_type, tuple_type, named_type, generic_type, last_type, next_type, PlainArgs, angle_args, type_arg, number_arg, last_arg, next_arg, flat_type}
use Rattle.lar_tree.specs.Exprs.{PlainExpr, number, truth, untruth, paren, new_struct, path, call, field, unary_of, binary_of, no_parts, parts, last_part, next_part, no_inits, inits, last_init, next_init, flat_expr}
use Rattle.lar_tree.specs.Stmts.{PlainAsked, let_stmt, if_stmt, while_stmt, return_stmt, print_stmt, assert_stmt, expr_stmt, PlainBlock, block, no_stmts, stmts, fork, no_else, else_block, else_if, flat_stmt}
use Rattle.lar_tree.specs.Items.{PlainField, PlainFn, module_item, struct_item, const_item, fn_item, no_items, items, flat_item}

-- single digits
abbrev digit : ℤ → List ℕ
digit (pos n) = (48 + n) ∷ []
digit (negsuc n) = codes "?"

abbrev spelling : Kind → List ℕ
spelling (kind.Name n) = n
spelling (kind.Number n) = digit n
spelling (kind.Word w) = keyword_spelling w
spelling (kind.Sign s) = sign_spelling s

abbrev shown : List Token → List ℕ
shown [] = []
shown (t ∷ ts) = spelling t.kind ++ 32 ∷ shown ts

abbrev at : Span
at = record { file = 0; line = 1; col = 1 }

abbrev named : List ℕ → Name
named text = record { text = text; span = at }

abbrev alone : List ℕ → Path
alone text = record { first = named text; more = [] }

-- m::text
abbrev within_m : List ℕ → Path
within_m text = record { first = named (codes "m"); more = record { sep = at; name = named text } ∷ [] }

abbrev local : List ℕ → PlainExpr
local text = path (alone text)

-- <i64, -3>
abbrev two_args : PlainArgs
two_args = angle_args at (type_arg (int_type at)) (next_arg at (number_arg record { minus = Some at; value = pos 3; span = at }) last_arg) at

-- ---- types

int : shown (flat_type (int_type at)) ≡ codes "i64 "
int = refl

boolean : shown (flat_type (bool_type at)) ≡ codes "bool "
boolean = refl

nothing : shown (flat_type (unit_type at at)) ≡ codes "( ) "
nothing = refl

tuple : shown (flat_type (tuple_type at (int_type at) at (bool_type at) (next_type at (named_type (within_m (codes "T"))) last_type) at)) ≡ codes "( i64 , bool , m :: T ) "
tuple = refl

generics : shown (flat_type (generic_type (alone (codes "S")) two_args)) ≡ codes "S < i64 , - 3 > "
generics = refl

-- ---- expressions

seven : shown (flat_expr (number (pos 7) at)) ≡ codes "7 "
seven = refl

yes : shown (flat_expr (truth at)) ≡ codes "true "
yes = refl

no : shown (flat_expr (untruth at)) ≡ codes "false "
no = refl

long_path : shown (flat_expr (path (within_m (codes "a")))) ≡ codes "m :: a "
long_path = refl

empty : shown (flat_expr (paren at no_parts at)) ≡ codes "( ) "
empty = refl

pair : shown (flat_expr (paren at (parts (local (codes "a")) (next_part at (number (pos 1) at) last_part)) at)) ≡ codes "( a , 1 ) "
pair = refl

fields : shown (flat_expr (field (field (local (codes "a")) at (selector.Name (named (codes "b")))) at (selector.Number (pos 0) at))) ≡ codes "a . b . 0 "
fields = refl

signs : shown (flat_expr (binary_of (unary_of unary.Minus at (local (codes "a"))) binary.AtMost at (unary_of unary.Not at (local (codes "b"))))) ≡ codes "- a <= ! b "
signs = refl

plain_call : shown (flat_expr (call (alone (codes "g")) None at no_parts at)) ≡ codes "g ( ) "
plain_call = refl

full_call : shown (flat_expr (call (within_m (codes "g")) (Some (at, two_args)) at (parts (local (codes "a")) (next_part at (local (codes "b")) last_part)) at)) ≡ codes "m :: g :: < i64 , - 3 > ( a , b ) "
full_call = refl

plain_new : shown (flat_expr (new_struct at (alone (codes "S")) None at no_inits at)) ≡ codes "new S { } "
plain_new = refl

full_new : shown (flat_expr (new_struct at (alone (codes "S")) (Some (at, two_args)) at (inits (named (codes "x")) at (number (pos 1) at) (next_init at (named (codes "y")) at (truth at) last_init)) at)) ≡ codes "new S :: < i64 , - 3 > { x : 1 , y : true } "
full_new = refl

-- ---- statements

abbrev hollow : PlainBlock
hollow = block at no_stmts at

abbrev in_brackets : PlainExpr → PlainAsked
in_brackets e = record { keyword = at; from = at; value = e; to = at; semicolon = at }

let_one : shown (flat_stmt (let_stmt record { keyword = at; name = named (codes "x"); colon = at; ty = int_type at; assign = at; value = number (pos 1) at; semicolon = at })) ≡ codes "let x : i64 = 1 ; "
let_one = refl

while_true : shown (flat_stmt (while_stmt at (truth at) (block at (stmts (return_stmt at None at) no_stmts) at))) ≡ codes "while true { return ; } "
while_true = refl

return_two : shown (flat_stmt (return_stmt at (Some (number (pos 2) at)) at)) ≡ codes "return 2 ; "
return_two = refl

print_three : shown (flat_stmt (print_stmt (in_brackets (number (pos 3) at)))) ≡ codes "print ( 3 ) ; "
print_three = refl

assert_false : shown (flat_stmt (assert_stmt (in_brackets (untruth at)))) ≡ codes "static_assert ( false ) ; "
assert_false = refl

one_expr : shown (flat_stmt (expr_stmt (local (codes "a")) None at)) ≡ codes "a ; "
one_expr = refl

set_four : shown (flat_stmt (expr_stmt (local (codes "a")) (Some (at, number (pos 4) at)) at)) ≡ codes "a = 4 ; "
set_four = refl

short_if : shown (flat_stmt (if_stmt (fork at (local (codes "a")) hollow no_else))) ≡ codes "if a { } "
short_if = refl

long_if : shown (flat_stmt (if_stmt (fork at (local (codes "a")) hollow (else_if at (fork at (local (codes "b")) hollow (else_block at hollow)))))) ≡ codes "if a { } else if b { } else { } "
long_if = refl

-- ---- items

abbrev bare : List ℕ → PlainFn
bare text = record { attributes = []; keyword = at; name = named text; generics = None; from = at; params = None; to = at; output = None; body = hollow }

constant : shown (flat_item (const_item record { name = named (codes "K"); value = record { minus = Some at; value = pos 5; span = at }; keyword = at; colon = at; int = at; assign = at; semicolon = at })) ≡ codes "const K : i64 = - 5 ; "
constant = refl

modules : shown (flat_item (module_item at (named (codes "a")) at (items (module_item at (named (codes "b")) at no_items at) (items (fn_item (bare (codes "f"))) no_items)) at)) ≡ codes "mod a { mod b { } fn f ( ) { } } "
modules = refl

abbrev typed : List ℕ → PlainTy → PlainField
typed text ty = (named text, at, ty)

bare_struct : shown (flat_item (struct_item record { keyword = at; name = named (codes "S"); generics = None; from = at; fields = None; to = at })) ≡ codes "struct S { } "
bare_struct = refl

full_struct : shown (flat_item (struct_item record {
  keyword = at;
  name = named (codes "S");
  generics = Some record { list = record { first = named (codes "T"); more = record { comma = at; value = named (codes "U") } ∷ [] }; «open» = at; close = at };
  from = at;
  fields = Some record { first = typed (codes "x") (int_type at); more = record { comma = at; value = typed (codes "y") (bool_type at) } ∷ [] };
  to = at;
})) ≡ codes "struct S < T , U > { x : i64 , y : bool } "
full_struct = refl

full_function : shown (flat_item (fn_item record {
  attributes = record { hash = at; «open» = at; word = attribute.Inline; span = at; close = at } ∷ record { hash = at; «open» = at; word = attribute.Export; span = at; close = at } ∷ [];
  keyword = at;
  name = named (codes "f");
  generics = Some record { list = record { first = generic.Ty (named (codes "T")); more = record { comma = at; value = generic.Const record { name = named (codes "N"); keyword = at; colon = at; int = at } } ∷ [] }; «open» = at; close = at };
  from = at;
  params = Some record { first = typed (codes "p") (int_type at); more = [] };
  to = at;
  output = Some (at, unit_type at at);
  body = hollow;
})) ≡ codes "# [ inline ] # [ export ] fn f < T , const N : i64 > ( p : i64 ) -> ( ) { } "
full_function = refl

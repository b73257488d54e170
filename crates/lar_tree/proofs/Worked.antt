-- Small trees, computed: what they spell, how they group, and which token passes a count.
use Rattle.std.proofs.Common.{◌≡◌, ℕ, ◌+◌, ◌≤◌, pos, List, [], ◌∷◌, ◌++◌, map, None, Bool, true, false, codes, refl, arith}
use Rattle.std.proofs.Math.ListN.{replicate}
use Rattle.lar_source.specs.declared.file.Span.{Span}
use Rattle.lar_tree.specs.declared.keyword.Keyword.TheVariants as keyword
use Rattle.lar_tree.specs.declared.sign.Sign.TheVariants as sign
use Rattle.lar_tree.specs.declared.token.Token.{Token}
use Rattle.lar_tree.specs.declared.name.Name.{Name}
use Rattle.lar_tree.specs.declared.commas.Commas.{Commas}
use Rattle.lar_tree.specs.declared.expr.Unary.TheVariants as unary
use Rattle.lar_tree.specs.declared.expr.Binary.TheVariants as binary
use Rattle.lar_tree.specs.Spelling.{sign_token, word_token, number_token, name_token}
use Rattle.lar_tree.specs.Types.{int_type}
use Rattle.lar_tree.specs.Exprs.{PlainExpr, number, path, unary_of, binary_of, Grouped}
use Rattle.lar_tree.specs.Stmts.{PlainStmts, print_stmt, block, no_stmts, stmts}
use Rattle.lar_tree.specs.Items.{PlainField, PlainFn, fn_item, no_items, items}
use Rattle.lar_tree.specs.Marks.{Marked, cut, marked_field, marked_commas, marked_block}
use Rattle.lar_tree.specs.Programs.{Spells}

-- the nth column of the first line
abbrev at : ℕ → Span
at n = record { file = 0; line = 1; col = n }

abbrev named : List ℕ → ℕ → Name
named text n = record { text = text; span = at n }

-- fn main() { print(7); }
abbrev print_seven : PlainStmts
print_seven = stmts (print_stmt record { keyword = at 13; from = at 18; value = number (pos 7) (at 19); to = at 20; semicolon = at 21 }) no_stmts

abbrev main_fn : PlainFn
main_fn = record { attributes = []; keyword = at 1; name = named (codes "main") 4; generics = None; from = at 8; params = None; to = at 9; output = None; body = block (at 11) print_seven (at 23) }

abbrev main_tokens : List Token
main_tokens = word_token keyword.Fn (at 1) ∷ name_token (named (codes "main") 4) ∷ sign_token sign.OpenParen (at 8) ∷ sign_token sign.CloseParen (at 9)
    ∷ sign_token sign.OpenBrace (at 11) ∷ word_token keyword.Print (at 13) ∷ sign_token sign.OpenParen (at 18) ∷ number_token (pos 7) (at 19)
    ∷ sign_token sign.CloseParen (at 20) ∷ sign_token sign.Semicolon (at 21) ∷ sign_token sign.CloseBrace (at 23) ∷ []

main-spelled : Spells (items (fn_item main_fn) no_items) main_tokens
main-spelled = (((tt, tt), tt), refl)

abbrev one_name : List ℕ → ℕ → PlainExpr
one_name text n = path record { first = named text n; more = [] }

-- a < b < c
chained : Grouped (binary_of (binary_of (one_name (codes "a") 1) binary.Less (at 3) (one_name (codes "b") 5)) binary.Less (at 7) (one_name (codes "c") 9)) → ⊥
chained g = let h : 4 ≤ 3 = g.0 in omega arith

-- a - b - c groups to the left
left_first : Grouped (binary_of (binary_of (one_name (codes "a") 1) binary.Minus (at 3) (one_name (codes "b") 5)) binary.Minus (at 7) (one_name (codes "c") 9))
left_first = (omega arith, omega arith, (omega arith, omega arith, tt, tt), tt)

right_first : Grouped (binary_of (one_name (codes "a") 1) binary.Minus (at 3) (binary_of (one_name (codes "b") 5) binary.Minus (at 7) (one_name (codes "c") 9))) → ⊥
right_first g = let h : 3 + 1 ≤ 3 = g.1 in omega arith

-- -a * b is (-a) * b
minus_first : Grouped (binary_of (unary_of unary.Minus (at 1) (one_name (codes "a") 2)) binary.Star (at 4) (one_name (codes "b") 6))
minus_first = (omega arith, omega arith, (omega arith, tt), tt)

star_first : Grouped (unary_of unary.Minus (at 1) (binary_of (one_name (codes "a") 2) binary.Star (at 4) (one_name (codes "b") 6))) → ⊥
star_first g = let h : 2 ≤ 1 = g.0 in omega arith

abbrev marks_of : List Marked → List Bool
marks_of = map (λ m. m.1)

abbrev param : PlainField
param = (named (codes "a") 1, at 2, int_type (at 3))

-- a list of n + 1 parameters
abbrev params : ℕ → Commas PlainField
params n = record { first = param; more = replicate n (record { comma = at 4; value = param }) }

-- each parameter has three tokens, and each but the first a comma before it
sixteen_params : marks_of (marked_commas marked_field 15 (params 15)) ≡ replicate 63 false
sixteen_params = refl

seventeen_params : marks_of (marked_commas marked_field 15 (params 16)) ≡ replicate 64 false ++ true ∷ false ∷ false ∷ []
seventeen_params = refl

-- the brace of a block is marked where no level is left
last_level : marks_of (marked_block 1 (block (at 1) no_stmts (at 2))) ≡ false ∷ false ∷ []
last_level = refl

no_level : marks_of (marked_block 0 (block (at 1) no_stmts (at 2))) ≡ true ∷ false ∷ []
no_level = refl

-- three signs before a name, with room for two tokens
past_room : marks_of (cut 2 ((sign_token sign.Minus (at 1), false) ∷ (sign_token sign.Minus (at 2), false) ∷ (sign_token sign.Minus (at 3), false) ∷ (name_token (named (codes "a") 4), false) ∷ [])) ≡ false ∷ false ∷ true ∷ true ∷ []
past_room = refl

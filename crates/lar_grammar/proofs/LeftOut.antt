-- A symbol that may be left out stands for no tokens as well, and the others are not left out.
use Rattle.std.proofs.Common.{◌≡◌, ℕ, zero, suc, [], ◌∷◌, Some, None, Bool, true, false, refl, sym, append-nil, arith}
use Rattle.std.specs.Prelude.{is_some}
use Rattle.lar_tree.specs.declared.keyword.Keyword.TheVariants as keyword
use Rattle.lar_tree.specs.declared.sign.Sign.TheVariants as sign
use Rattle.lar_tree.specs.declared.token.Kind.TheVariants as kind
use Rattle.lar_tree.specs.Spelling.{flat_path}
use Rattle.lar_tree.specs.Exprs.{path, flat_expr}
use Rattle.lar_tree.specs.Stmts.{no_stmts, no_else}
use Rattle.lar_tree.specs.Items.{no_items}
use Rattle.lar_grammar.specs.Looks.{Look, is_sign, is_word, is_name, is_number, attribute_at}
use Rattle.lar_grammar.specs.Symbols.{Listed, expr_member, init_member, field_member, arg_member, generic_member, name_member, type_member, Symbol, one_sign, one_word, one_name, one_number, signed_number, attribute_word, member, further, more, listed, angle, one_type, tuple_rest, segments, outer_type, level, operand, tails, post, selector, path_rest, sep_rest, new_rest, new_sep_rest, outer_expr, leave, return_rest, setting_rest, one_block, statements, else_part, branch, body, module_items, attributed, output, program, Stack, Move, skip, fail, take, enter, then_, entering, when}
use Rattle.lar_grammar.specs.Moves.{signed, type_at, arg_at, generic_at, operand_at, climb, selector_at, sep_on, new_on, new_sep_on, begin, further_at, whole_at, setting_on, block_at, branch_at, attributed_at, body_at, expand}
use Rattle.lar_grammar.proofs.Meaning.{none_of, no_angle, Is}

-- ---- what is not left out

take_stays : (b : Bool) (ss : Stack) → when b (take ss) fail ≡ skip → ⊥
take_stays true ss e = cc
take_stays false ss e = cc

take_or_stays : (b : Bool) (ss : Stack) (m : Move) → (m ≡ skip → ⊥) → when b (take ss) m ≡ skip → ⊥
take_or_stays true ss m k e = cc
take_or_stays false ss m k e = k e

then_stays : (m : Move) (behind : Stack) → (m ≡ skip → ⊥) → then_ m behind ≡ skip → ⊥
then_stays skip behind k e = k refl
then_stays fail behind k e = cc
then_stays (take ss) behind k e = cc
then_stays (enter ss) behind k e = cc

entering_stays : (m : Move) → (m ≡ skip → ⊥) → entering m ≡ skip → ⊥
entering_stays skip k e = k refl
entering_stays fail k e = cc
entering_stays (take ss) k e = cc
entering_stays (enter ss) k e = cc

signed_stays : (l : Look) → signed l ≡ skip → ⊥
signed_stays (Some (kind.Sign sign.Minus)) e = cc
signed_stays (Some (kind.Number n)) e = cc
signed_stays _ e = cc

type_stays : (l : Look) → type_at l ≡ skip → ⊥
type_stays (Some (kind.Word keyword.I64)) e = cc
type_stays (Some (kind.Word keyword.Bool)) e = cc
type_stays (Some (kind.Sign sign.OpenParen)) e = cc
type_stays (Some (kind.Name n)) e = cc
type_stays _ e = cc

arg_stays : (l : Look) → arg_at l ≡ skip → ⊥
arg_stays (Some (kind.Sign sign.Minus)) e = cc
arg_stays (Some (kind.Number n)) e = cc
arg_stays l e = type_stays l e

generic_stays : (l : Look) → generic_at l ≡ skip → ⊥
generic_stays (Some (kind.Name n)) e = cc
generic_stays (Some (kind.Word keyword.Const)) e = cc
generic_stays _ e = cc

operand_stays : (l : Look) → operand_at l ≡ skip → ⊥
operand_stays (Some (kind.Number n)) e = cc
operand_stays (Some (kind.Word keyword.True)) e = cc
operand_stays (Some (kind.Word keyword.False)) e = cc
operand_stays (Some (kind.Word keyword.New)) e = cc
operand_stays (Some (kind.Name n)) e = cc
operand_stays (Some (kind.Sign sign.OpenParen)) e = cc
operand_stays (Some (kind.Sign sign.Minus)) e = cc
operand_stays (Some (kind.Sign sign.Not)) e = cc
operand_stays _ e = cc

climb_stays : (h : ℕ) (l : Look) → climb h l ≡ skip → ⊥
climb_stays h l e = then_stays (operand_at l) (tails 2 h ∷ []) (operand_stays l) e

whole_stays : (l : Look) → whole_at l ≡ skip → ⊥
whole_stays l e = entering_stays (climb 6 l) (climb_stays 6 l) e

begin_stays : (w : Listed) (l : Look) → begin w l ≡ skip → ⊥
begin_stays expr_member l e = climb_stays 6 l e
begin_stays init_member l e = take_stays (is_name l) (one_sign sign.Colon ∷ level 6 ∷ []) e
begin_stays field_member l e = take_stays (is_name l) (one_sign sign.Colon ∷ outer_type ∷ []) e
begin_stays arg_member l e = arg_stays l e
begin_stays generic_member l e = generic_stays l e
begin_stays name_member l e = take_stays (is_name l) [] e
begin_stays type_member l e = type_stays l e

further_stays : (w : Listed) (n : ℕ) (l : Look) → further_at w n l ≡ skip → ⊥
further_stays w zero l e = cc
further_stays w (suc n) l e = begin_stays w l e

tuple_stays : (l : Look) (behind : Stack) → when (is_sign sign.CloseParen l) (take []) (then_ (type_at l) behind) ≡ skip → ⊥
tuple_stays l behind e = take_or_stays (is_sign sign.CloseParen l) [] (then_ (type_at l) behind) (then_stays (type_at l) behind (type_stays l)) e

outer_type_stays : (l : Look) → then_ (entering (type_at l)) (leave ∷ []) ≡ skip → ⊥
outer_type_stays l e = then_stays (entering (type_at l)) (leave ∷ []) (entering_stays (type_at l) (type_stays l)) e

selector_stays : (l : Look) → selector_at l ≡ skip → ⊥
selector_stays (Some (kind.Name n)) e = cc
selector_stays (Some (kind.Number n)) e = cc
selector_stays _ e = cc

sep_stays : (l : Look) → sep_on l ≡ skip → ⊥
sep_stays (Some (kind.Name n)) e = cc
sep_stays (Some (kind.Sign sign.Less)) e = cc
sep_stays _ e = cc

new_stays : (l : Look) → new_on l ≡ skip → ⊥
new_stays (Some (kind.Sign sign.PathSep)) e = cc
new_stays (Some (kind.Sign sign.OpenBrace)) e = cc
new_stays _ e = cc

new_sep_stays : (l : Look) → new_sep_on l ≡ skip → ⊥
new_sep_stays (Some (kind.Name n)) e = cc
new_sep_stays (Some (kind.Sign sign.Less)) e = cc
new_sep_stays _ e = cc

outer_stays : (l : Look) (behind : Stack) → then_ (whole_at l) behind ≡ skip → ⊥
outer_stays l behind e = then_stays (whole_at l) behind (whole_stays l) e

return_stays : (l : Look) (behind : Stack) → when (is_sign sign.Semicolon l) (take []) (then_ (whole_at l) behind) ≡ skip → ⊥
return_stays l behind e = take_or_stays (is_sign sign.Semicolon l) [] (then_ (whole_at l) behind) (outer_stays l behind) e

setting_stays : (l : Look) → setting_on l ≡ skip → ⊥
setting_stays (Some (kind.Sign sign.Assign)) e = cc
setting_stays (Some (kind.Sign sign.Semicolon)) e = cc
setting_stays _ e = cc

block_stays : (n : ℕ) (l : Look) → block_at n l ≡ skip → ⊥
block_stays zero l e = cc
block_stays (suc n) l e = take_stays (is_sign sign.OpenBrace l) (statements n ∷ one_sign sign.CloseBrace ∷ []) e

branch_stays : (n : ℕ) (l : Look) → branch_at n l ≡ skip → ⊥
branch_stays zero l e = cc
branch_stays (suc n) (Some (kind.Word keyword.If)) e = cc
branch_stays (suc n) (Some (kind.Sign sign.OpenBrace)) e = cc
branch_stays (suc n) l e = cc

body_stays : (n : ℕ) (l : Look) → body_at n l ≡ skip → ⊥
body_stays zero l e = cc
body_stays (suc n) l e = take_stays (is_sign sign.OpenBrace l) (module_items n ∷ one_sign sign.CloseBrace ∷ []) e

attributed_stays : (n : ℕ) (l : Look) → attributed_at n l ≡ skip → ⊥
attributed_stays n (Some (kind.Sign sign.Hash)) e = cc
attributed_stays n (Some (kind.Word keyword.Fn)) e = cc
attributed_stays n _ e = cc

-- ---- what is left out

-- the tree before it alone
pub no_tails : (low h : ℕ) → Is (tails low h) []
no_tails low h l g fits high = (l, g, high, sym (append-nil (flat_expr l)))

pub no_post : Is post []
no_post l g high = (l, g, high, sym (append-nil (flat_expr l)))

pub no_path_rest : Is path_rest []
no_path_rest p = (path p, tt, omega arith, sym (append-nil (flat_path p)))

pub left_out : (s : Symbol) (l : Look) → expand s l ≡ skip → Is s []
left_out (one_sign s) l e = absurd (take_stays (is_sign s l) [] e)
left_out (one_word w) l e = absurd (take_stays (is_word w l) [] e)
left_out one_name l e = absurd (take_stays (is_name l) [] e)
left_out one_number l e = absurd (take_stays (is_number l) [] e)
left_out signed_number l e = absurd (signed_stays l e)
left_out attribute_word l e = absurd (take_stays (is_some (attribute_at l)) [] e)
left_out (member w) l e = absurd (begin_stays w l e)
left_out (further w n) l e = absurd (further_stays w n l e)
left_out (more w n) l e = ([], refl)
left_out (listed w n s) l e = none_of refl
left_out (angle w) l e = no_angle refl
left_out one_type l e = absurd (type_stays l e)
left_out tuple_rest l e = absurd (tuple_stays l _ e)
left_out segments l e = ([], refl)
left_out outer_type l e = absurd (outer_type_stays l e)
left_out (level h) l e = absurd (climb_stays h l e)
left_out operand l e = absurd (operand_stays l e)
left_out (tails low h) l e = no_tails low h
left_out post l e = no_post
left_out selector l e = absurd (selector_stays l e)
left_out path_rest l e = no_path_rest
left_out sep_rest l e = absurd (sep_stays l e)
left_out new_rest l e = absurd (new_stays l e)
left_out new_sep_rest l e = absurd (new_sep_stays l e)
left_out outer_expr l e = absurd (outer_stays l _ e)
left_out leave l e = refl
left_out return_rest l e = absurd (return_stays l _ e)
left_out setting_rest l e = absurd (setting_stays l e)
left_out (one_block n) l e = absurd (block_stays n l e)
left_out (statements n) l e = (no_stmts, tt, refl)
left_out (else_part n) l e = (no_else, tt, refl)
left_out (branch n) l e = absurd (branch_stays n l e)
left_out (body n) l e = absurd (body_stays n l e)
left_out (module_items n) l e = (no_items, tt, refl)
left_out (attributed n) l e = absurd (attributed_stays n l e)
left_out output l e = (None, refl)
left_out program l e = (no_items, tt, refl)

-- The symbols that begin as others do, and what they leave to come.
use Rattle.std.proofs.Common.{◌≡◌, ℕ, zero, suc, ◌-◌, ◌≤◌, List, [], ◌∷◌, ◌++◌, Option, Some, None, Bool, true, false, refl, ap, ◌∙◌, ◌⊎◌, append_assoc, arith}
use Rattle.lar_source.specs.declared.file.Span.{Span}
use Rattle.lar_tree.specs.declared.keyword.Keyword.TheVariants as keyword
use Rattle.lar_tree.specs.declared.sign.Sign.{Sign}
use Rattle.lar_tree.specs.declared.sign.Sign.TheVariants as sign
use Rattle.lar_tree.specs.declared.token.Kind.TheVariants as kind
use Rattle.lar_tree.specs.declared.token.Token.{Token}
use Rattle.lar_tree.specs.declared.expr.Binary.{Binary}
use Rattle.lar_tree.specs.Exprs.{height_of}
use Rattle.lar_grammar.specs.Looks.{Look, look, is_sign, is_name, operator}
use Rattle.lar_grammar.specs.Symbols.{Listed, expr_member, init_member, field_member, arg_member, generic_member, name_member, type_member, one_sign, one_name, signed_number, member, further, more, listed, one_type, tuple_rest, outer_type, level, operand, tails, outer_expr, leave, return_rest, setting_rest, statements, module_items, attributed, program, Stack, Move, skip, fail, take, enter, then_, when}
use Rattle.lar_grammar.specs.Moves.{signed, type_at, arg_at, generic_at, operand_at, climb, operated, in_reach, next_low, begin, whole_at, statement_at, attributed_at, item_at, expand}
use Rattle.lar_grammar.specs.Machine.{Room, spend, fault}
use Rattle.lar_grammar.proofs.Steps.{next, passes_take, passes_skip, stops_fail, stops_blocked, Steady, steady_never_skips, then_steady, then_never_skips, entering_never_skips, when_true, when_false, split, split_enter, same_moves}

-- ---- what is never left out

pub type_steady : (l : Look) → Steady (type_at l)
type_steady (Some (kind.Word keyword.I64)) = tt
type_steady (Some (kind.Word keyword.Bool)) = tt
type_steady (Some (kind.Sign sign.OpenParen)) = tt
type_steady (Some (kind.Name n)) = tt
type_steady _ = tt

pub arg_steady : (l : Look) → Steady (arg_at l)
arg_steady (Some (kind.Sign sign.Minus)) = tt
arg_steady (Some (kind.Number n)) = tt
arg_steady l = type_steady l

pub generic_steady : (l : Look) → Steady (generic_at l)
generic_steady (Some (kind.Name n)) = tt
generic_steady (Some (kind.Word keyword.Const)) = tt
generic_steady _ = tt

pub operand_steady : (l : Look) → Steady (operand_at l)
operand_steady (Some (kind.Number n)) = tt
operand_steady (Some (kind.Word keyword.True)) = tt
operand_steady (Some (kind.Word keyword.False)) = tt
operand_steady (Some (kind.Word keyword.New)) = tt
operand_steady (Some (kind.Name n)) = tt
operand_steady (Some (kind.Sign sign.OpenParen)) = tt
operand_steady (Some (kind.Sign sign.Minus)) = tt
operand_steady (Some (kind.Sign sign.Not)) = tt
operand_steady _ = tt

pub climb_steady : (h : ℕ) (l : Look) → Steady (climb h l)
climb_steady h l = then_steady (operand_at l) (tails 2 h ∷ []) (operand_steady l)

when_steady : (b : Bool) (bs : Stack) → Steady (when b (take bs) fail)
when_steady true bs = tt
when_steady false bs = tt

pub begin_steady : (w : Listed) (l : Look) → Steady (begin w l)
begin_steady expr_member l = climb_steady 6 l
begin_steady init_member l = when_steady (is_name l) _
begin_steady field_member l = when_steady (is_name l) _
begin_steady arg_member l = arg_steady l
begin_steady generic_member l = generic_steady l
begin_steady name_member l = when_steady (is_name l) _
begin_steady type_member l = type_steady l

pub signed_steady : (l : Look) → Steady (signed l)
signed_steady (Some (kind.Sign sign.Minus)) = tt
signed_steady (Some (kind.Number n)) = tt
signed_steady _ = tt

pub whole_never_skips : (l : Look) → whole_at l ≡ skip → ⊥
whole_never_skips l = entering_never_skips (climb 6 l) (steady_never_skips (climb 6 l) (climb_steady 6 l))

pub statement_never_skips : (n : ℕ) (l : Look) → statement_at n l ≡ skip → ⊥
statement_never_skips n (Some (kind.Word keyword.Let)) e = cc
statement_never_skips n (Some (kind.Word keyword.If)) e = cc
statement_never_skips n (Some (kind.Word keyword.While)) e = cc
statement_never_skips n (Some (kind.Word keyword.Return)) e = cc
statement_never_skips n (Some (kind.Word keyword.Print)) e = cc
statement_never_skips n (Some (kind.Word keyword.StaticAssert)) e = cc
statement_never_skips n l e = then_never_skips (whole_at l) (leave ∷ setting_rest ∷ []) (whole_never_skips l) e

pub attributed_steady : (n : ℕ) (l : Look) → Steady (attributed_at n l)
attributed_steady n (Some (kind.Sign sign.Hash)) = tt
attributed_steady n (Some (kind.Word keyword.Fn)) = tt
attributed_steady n _ = tt

pub item_steady : (n : ℕ) (l : Look) → Steady (item_at n l)
item_steady n (Some (kind.Word keyword.Mod)) = tt
item_steady n (Some (kind.Word keyword.Struct)) = tt
item_steady n (Some (kind.Word keyword.Const)) = tt
item_steady n l = attributed_steady n l

pub item_never_skips : (n : ℕ) (l : Look) → item_at n l ≡ skip → ⊥
item_never_skips n l = steady_never_skips (item_at n l) (item_steady n l)

pub operand_never_skips : (l : Look) → operand_at l ≡ skip → ⊥
operand_never_skips l = steady_never_skips (operand_at l) (operand_steady l)

pub type_never_skips : (l : Look) → type_at l ≡ skip → ⊥
type_never_skips l = steady_never_skips (type_at l) (type_steady l)

pub climb_never_skips : (h : ℕ) (l : Look) → climb h l ≡ skip → ⊥
climb_never_skips h l = steady_never_skips (climb h l) (climb_steady h l)

pub begin_never_skips : (w : Listed) (l : Look) → begin w l ≡ skip → ⊥
begin_never_skips w l = steady_never_skips (begin w l) (begin_steady w l)

-- ---- expressions and types

pub levelled : (ts : List Token) (room : Room) (h : ℕ) (ss : Stack) → fault ts room (level h ∷ ss) ≡ fault ts room (operand ∷ tails 2 h ∷ ss)
levelled ts room h ss = split ts room (level h) operand (tails 2 h ∷ []) ss refl (operand_never_skips (look ts))

pub opened_expr : (ts : List Token) (room : Room) (ss : Stack) → fault ts room (outer_expr ∷ ss) ≡ fault ts (Some 512) (level 6 ∷ leave ∷ ss)
opened_expr ts room ss = split_enter ts room outer_expr (level 6) (leave ∷ []) ss refl (climb_never_skips 6 (look ts))

pub opened_type : (ts : List Token) (room : Room) (ss : Stack) → fault ts room (outer_type ∷ ss) ≡ fault ts (Some 512) (one_type ∷ leave ∷ ss)
opened_type ts room ss = split_enter ts room outer_type one_type (leave ∷ []) ss refl (type_never_skips (look ts))

pub left_room : (ts : List Token) (room : Room) (ss : Stack) → fault ts room (leave ∷ ss) ≡ fault ts None ss
left_room ts room ss = passes_skip ts room leave ss refl

pub tuple_opens : (ts : List Token) (room : Room) (ss : Stack) → is_sign sign.CloseParen (look ts) ≡ false → fault ts room (tuple_rest ∷ ss) ≡ fault ts room (one_type ∷ one_sign sign.Comma ∷ one_type ∷ more type_member 6 ∷ one_sign sign.CloseParen ∷ ss)
tuple_opens ts room ss other = split ts room tuple_rest one_type (one_sign sign.Comma ∷ one_type ∷ more type_member 6 ∷ one_sign sign.CloseParen ∷ []) ss (when_false _ _ _ other) (type_never_skips (look ts))

-- ---- signs between operands

operated_takes : (low h : ℕ) (o : Option Binary) (op : Binary) → o ≡ Some op → in_reach low h op ≡ true → operated low h o ≡ take (level (height_of op - 1) ∷ tails (next_low op) h ∷ [])
operated_takes low h o op e reach = ap (operated low h) e ∙ when_true _ _ _ reach

pub tails_take : (ts rest : List Token) (room room' : Room) (low h : ℕ) (op : Binary) (ss : Stack) (at : Span) → operator (look ts) ≡ Some op → in_reach low h op ≡ true → next ts ≡ Some (at, rest) → spend room ≡ Some room' → fault ts room (tails low h ∷ ss) ≡ fault rest room' (level (height_of op - 1) ∷ tails (next_low op) h ∷ ss)
tails_take ts rest room room' low h op ss at e reach n p = passes_take ts rest room room' (tails low h) (level (height_of op - 1) ∷ tails (next_low op) h ∷ []) ss at (operated_takes low h (operator (look ts)) op e reach) n p

-- the same where no token may come
pub tails_blocked : (ts : List Token) (room : Room) (low h : ℕ) (op : Binary) (ss : Stack) → operator (look ts) ≡ Some op → in_reach low h op ≡ true → (look ts ≡ None) ⊎ (spend room ≡ None) → fault ts room (tails low h ∷ ss) ≡ Some ts
tails_blocked ts room low h op ss e reach b = stops_blocked ts room (tails low h) (level (height_of op - 1) ∷ tails (next_low op) h ∷ []) ss (operated_takes low h (operator (look ts)) op e reach) b

pub tails_end : (ts : List Token) (room : Room) (low h : ℕ) (ss : Stack) → operator (look ts) ≡ None → fault ts room (tails low h ∷ ss) ≡ fault ts room ss
tails_end ts room low h ss e = passes_skip ts room (tails low h) ss (ap (operated low h) e)

pub tails_out : (ts : List Token) (room : Room) (low h : ℕ) (op : Binary) (ss : Stack) → operator (look ts) ≡ Some op → in_reach low h op ≡ false → fault ts room (tails low h ∷ ss) ≡ fault ts room ss
tails_out ts room low h op ss e out = passes_skip ts room (tails low h) ss (ap (operated low h) e ∙ when_false _ _ _ out)

-- ---- members of lists

pub member_expr : (ts : List Token) (room : Room) (ss : Stack) → fault ts room (member expr_member ∷ ss) ≡ fault ts room (level 6 ∷ ss)
member_expr ts room ss = same_moves ts room (member expr_member) (level 6) ss refl (climb_never_skips 6 (look ts))

pub member_type : (ts : List Token) (room : Room) (ss : Stack) → fault ts room (member type_member ∷ ss) ≡ fault ts room (one_type ∷ ss)
member_type ts room ss = same_moves ts room (member type_member) one_type ss refl (type_never_skips (look ts))

pub member_name : (ts : List Token) (room : Room) (ss : Stack) → fault ts room (member name_member ∷ ss) ≡ fault ts room (one_name ∷ ss)
member_name ts room ss = same_moves ts room (member name_member) one_name ss refl (begin_never_skips name_member (look ts))

named : (b : Bool) (bs : Stack) → when b (take bs) fail ≡ then_ (when b (take []) fail) bs
named true bs = refl
named false bs = refl

pub member_init : (ts : List Token) (room : Room) (ss : Stack) → fault ts room (member init_member ∷ ss) ≡ fault ts room (one_name ∷ one_sign sign.Colon ∷ level 6 ∷ ss)
member_init ts room ss = split ts room (member init_member) one_name (one_sign sign.Colon ∷ level 6 ∷ []) ss (named (is_name (look ts)) _) (begin_never_skips name_member (look ts))

pub member_field : (ts : List Token) (room : Room) (ss : Stack) → fault ts room (member field_member ∷ ss) ≡ fault ts room (one_name ∷ one_sign sign.Colon ∷ outer_type ∷ ss)
member_field ts room ss = split ts room (member field_member) one_name (one_sign sign.Colon ∷ outer_type ∷ []) ss (named (is_name (look ts)) _) (begin_never_skips name_member (look ts))

-- an argument is a number, or else a type
abbrev pub begins_number : Look → Bool
begins_number (Some (kind.Sign sign.Minus)) = true
begins_number (Some (kind.Number n)) = true
begins_number _ = false

arg_is_number : (l : Look) → begins_number l ≡ true → arg_at l ≡ signed l
arg_is_number (Some (kind.Sign sign.Minus)) e = refl
arg_is_number (Some (kind.Number n)) e = refl
arg_is_number _ e = cc

arg_is_type : (l : Look) → begins_number l ≡ false → arg_at l ≡ type_at l
arg_is_type (Some (kind.Sign sign.Minus)) e = cc
arg_is_type (Some (kind.Number n)) e = cc
arg_is_type _ e = refl

pub member_number : (ts : List Token) (room : Room) (ss : Stack) → begins_number (look ts) ≡ true → fault ts room (member arg_member ∷ ss) ≡ fault ts room (signed_number ∷ ss)
member_number ts room ss e = same_moves ts room (member arg_member) signed_number ss (arg_is_number (look ts) e) (steady_never_skips (signed (look ts)) (signed_steady (look ts)))

pub member_arg_type : (ts : List Token) (room : Room) (ss : Stack) → begins_number (look ts) ≡ false → fault ts room (member arg_member ∷ ss) ≡ fault ts room (one_type ∷ ss)
member_arg_type ts room ss e = same_moves ts room (member arg_member) one_type ss (arg_is_type (look ts) e) (type_never_skips (look ts))

-- ---- lists

pub further_opens : (ts : List Token) (room : Room) (w : Listed) (n : ℕ) (ss : Stack) → 1 ≤ n → fault ts room (further w n ∷ ss) ≡ fault ts room (member w ∷ ss)
further_opens ts room w zero ss some = absurd (omega arith)
further_opens ts room w (suc n) ss some = same_moves ts room (further w (suc n)) (member w) ss refl (begin_never_skips w (look ts))

pub further_full : (ts : List Token) (room : Room) (w : Listed) (n : ℕ) (ss : Stack) → n ≤ 0 → fault ts room (further w n ∷ ss) ≡ Some ts
further_full ts room w zero ss none = stops_fail ts room (further w zero) ss refl
further_full ts room w (suc n) ss none = absurd (omega arith)

pub more_ends : (ts : List Token) (room : Room) (w : Listed) (n : ℕ) (ss : Stack) → is_sign sign.Comma (look ts) ≡ false → fault ts room (more w n ∷ ss) ≡ fault ts room ss
more_ends ts room w n ss other = passes_skip ts room (more w n) ss (when_false _ _ _ other)

pub more_goes : (ts rest : List Token) (room room' : Room) (w : Listed) (n : ℕ) (ss : Stack) (at : Span) → is_sign sign.Comma (look ts) ≡ true → next ts ≡ Some (at, rest) → spend room ≡ Some room' → fault ts room (more w n ∷ ss) ≡ fault rest room' (further w n ∷ more w (n - 1) ∷ ss)
more_goes ts rest room room' w n ss at here n' p = passes_take ts rest room room' (more w n) (further w n ∷ more w (n - 1) ∷ []) ss at (when_true _ _ _ here) n' p

pub listed_ends : (ts : List Token) (room : Room) (w : Listed) (n : ℕ) (s : Sign) (ss : Stack) → is_sign s (look ts) ≡ true → fault ts room (listed w n s ∷ ss) ≡ fault ts room ss
listed_ends ts room w n s ss here = passes_skip ts room (listed w n s) ss (when_true _ _ _ here)

pub listed_opens : (ts : List Token) (room : Room) (w : Listed) (n : ℕ) (s : Sign) (ss : Stack) → is_sign s (look ts) ≡ false → fault ts room (listed w n s ∷ ss) ≡ fault ts room (member w ∷ more w n ∷ ss)
listed_opens ts room w n s ss other = split ts room (listed w n s) (member w) (more w n ∷ []) ss (when_false _ _ _ other) (begin_never_skips w (look ts))

-- ---- statements

pub return_opens : (ts : List Token) (room : Room) (ss : Stack) → is_sign sign.Semicolon (look ts) ≡ false → fault ts room (return_rest ∷ ss) ≡ fault ts (Some 512) (level 6 ∷ leave ∷ one_sign sign.Semicolon ∷ ss)
return_opens ts room ss other = split_enter ts room return_rest (level 6) (leave ∷ one_sign sign.Semicolon ∷ []) ss (when_false _ _ _ other) (climb_never_skips 6 (look ts))

pub statements_end : (ts : List Token) (room : Room) (n : ℕ) (ss : Stack) → is_sign sign.CloseBrace (look ts) ≡ true → fault ts room (statements n ∷ ss) ≡ fault ts room ss
statements_end ts room n ss here = passes_skip ts room (statements n) ss (when_true _ _ _ here)

-- what a statement's first word is taken for
pub statements_move : (l : Look) (n : ℕ) (bs : Stack) → is_sign sign.CloseBrace l ≡ false → statement_at n l ≡ take bs → expand (statements n) l ≡ take (bs ++ statements n ∷ [])
statements_move l n bs other e = when_false _ _ _ other ∙ ap (λ m. then_ m (statements n ∷ [])) e

pub statements_take : (ts rest : List Token) (room room' : Room) (n : ℕ) (bs ss : Stack) (at : Span) → is_sign sign.CloseBrace (look ts) ≡ false → statement_at n (look ts) ≡ take bs → next ts ≡ Some (at, rest) → spend room ≡ Some room' → fault ts room (statements n ∷ ss) ≡ fault rest room' (bs ++ statements n ∷ ss)
statements_take ts rest room room' n bs ss at other e n' p =
    passes_take ts rest room room' (statements n) (bs ++ statements n ∷ []) ss at (statements_move (look ts) n bs other e) n' p
    ∙ ap (fault rest room') (append_assoc bs (statements n ∷ []) ss)

-- a statement that begins with none of the words is an expression
abbrev pub begins_word : Look → Bool
begins_word (Some (kind.Word keyword.Let)) = true
begins_word (Some (kind.Word keyword.If)) = true
begins_word (Some (kind.Word keyword.While)) = true
begins_word (Some (kind.Word keyword.Return)) = true
begins_word (Some (kind.Word keyword.Print)) = true
begins_word (Some (kind.Word keyword.StaticAssert)) = true
begins_word _ = false

statement_is_expr : (n : ℕ) (l : Look) → begins_word l ≡ false → statement_at n l ≡ then_ (whole_at l) (leave ∷ setting_rest ∷ [])
statement_is_expr n (Some (kind.Word keyword.Let)) e = cc
statement_is_expr n (Some (kind.Word keyword.If)) e = cc
statement_is_expr n (Some (kind.Word keyword.While)) e = cc
statement_is_expr n (Some (kind.Word keyword.Return)) e = cc
statement_is_expr n (Some (kind.Word keyword.Print)) e = cc
statement_is_expr n (Some (kind.Word keyword.StaticAssert)) e = cc
statement_is_expr n l e = refl

then_twice : (m : Move) (a b : Stack) → then_ (then_ m a) b ≡ then_ m (a ++ b)
then_twice skip a b = refl
then_twice fail a b = refl
then_twice (take bs) a b = ap take (append_assoc bs a b)
then_twice (enter bs) a b = ap enter (append_assoc bs a b)

pub statements_expr : (ts : List Token) (room : Room) (n : ℕ) (ss : Stack) → is_sign sign.CloseBrace (look ts) ≡ false → begins_word (look ts) ≡ false → fault ts room (statements n ∷ ss) ≡ fault ts (Some 512) (level 6 ∷ leave ∷ setting_rest ∷ statements n ∷ ss)
statements_expr ts room n ss open_ other =
    split_enter ts room (statements n) (level 6) (leave ∷ setting_rest ∷ statements n ∷ []) ss
    (when_false _ _ _ open_ ∙ ap (λ m. then_ m (statements n ∷ [])) (statement_is_expr n (look ts) other) ∙ then_twice (whole_at (look ts)) (leave ∷ setting_rest ∷ []) (statements n ∷ []))
    (climb_never_skips 6 (look ts))

-- ---- items

-- an item that begins with none of these words is a function
abbrev pub begins_item : Look → Bool
begins_item (Some (kind.Word keyword.Mod)) = true
begins_item (Some (kind.Word keyword.Struct)) = true
begins_item (Some (kind.Word keyword.Const)) = true
begins_item _ = false

pub item_is_fn : (n : ℕ) (l : Look) → begins_item l ≡ false → item_at n l ≡ attributed_at n l
item_is_fn n (Some (kind.Word keyword.Mod)) e = cc
item_is_fn n (Some (kind.Word keyword.Struct)) e = cc
item_is_fn n (Some (kind.Word keyword.Const)) e = cc
item_is_fn n l e = refl

attributed_never_skips : (n : ℕ) (l : Look) → attributed_at n l ≡ skip → ⊥
attributed_never_skips n l = steady_never_skips (attributed_at n l) (attributed_steady n l)

pub module_items_end : (ts : List Token) (room : Room) (n : ℕ) (ss : Stack) → is_sign sign.CloseBrace (look ts) ≡ true → fault ts room (module_items n ∷ ss) ≡ fault ts room ss
module_items_end ts room n ss here = passes_skip ts room (module_items n) ss (when_true _ _ _ here)

pub module_items_move : (l : Look) (n : ℕ) (bs : Stack) → is_sign sign.CloseBrace l ≡ false → item_at n l ≡ take bs → expand (module_items n) l ≡ take (bs ++ module_items n ∷ [])
module_items_move l n bs other e = when_false _ _ _ other ∙ ap (λ m. then_ m (module_items n ∷ [])) e

pub module_items_take : (ts rest : List Token) (room room' : Room) (n : ℕ) (bs ss : Stack) (at : Span) → is_sign sign.CloseBrace (look ts) ≡ false → item_at n (look ts) ≡ take bs → next ts ≡ Some (at, rest) → spend room ≡ Some room' → fault ts room (module_items n ∷ ss) ≡ fault rest room' (bs ++ module_items n ∷ ss)
module_items_take ts rest room room' n bs ss at other e n' p =
    passes_take ts rest room room' (module_items n) (bs ++ module_items n ∷ []) ss at (module_items_move (look ts) n bs other e) n' p
    ∙ ap (fault rest room') (append_assoc bs (module_items n ∷ []) ss)

pub module_items_fn : (ts : List Token) (room : Room) (n : ℕ) (ss : Stack) → is_sign sign.CloseBrace (look ts) ≡ false → begins_item (look ts) ≡ false → fault ts room (module_items n ∷ ss) ≡ fault ts room (attributed n ∷ module_items n ∷ ss)
module_items_fn ts room n ss open_ other =
    split ts room (module_items n) (attributed n) (module_items n ∷ []) ss
    (when_false _ _ _ open_ ∙ ap (λ m. then_ m (module_items n ∷ [])) (item_is_fn n (look ts) other)) (attributed_never_skips n (look ts))

-- the end of the tokens
pub program_ends : (ts : List Token) (room : Room) → look ts ≡ None → fault ts room (program ∷ []) ≡ None
program_ends [] room e = refl
program_ends (t ∷ ts) room e = cc

-- what a program's next item begins with
pub program_move : (l : Look) (bs : Stack) → item_at 64 l ≡ take bs → expand program l ≡ take (bs ++ program ∷ [])
program_move None bs e = cc
program_move (Some k) bs e = ap (λ m. then_ m (program ∷ [])) e

pub program_take : (ts rest : List Token) (room room' : Room) (bs ss : Stack) (at : Span) → item_at 64 (look ts) ≡ take bs → next ts ≡ Some (at, rest) → spend room ≡ Some room' → fault ts room (program ∷ ss) ≡ fault rest room' (bs ++ program ∷ ss)
program_take ts rest room room' bs ss at e n p =
    passes_take ts rest room room' program (bs ++ program ∷ []) ss at (program_move (look ts) bs e) n p
    ∙ ap (fault rest room') (append_assoc bs (program ∷ []) ss)

pub program_fn : (t : Token) (ts : List Token) (room : Room) (ss : Stack) → begins_item (Some t.kind) ≡ false → fault (t ∷ ts) room (program ∷ ss) ≡ fault (t ∷ ts) room (attributed 64 ∷ program ∷ ss)
program_fn t ts room ss other =
    split (t ∷ ts) room program (attributed 64) (program ∷ []) ss (ap (λ m. then_ m (program ∷ [])) (item_is_fn 64 (Some t.kind) other)) (attributed_never_skips 64 (Some t.kind))

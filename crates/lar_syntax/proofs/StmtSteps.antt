-- From one part of a statement to the next, at a parser.
use Rattle.std.proofs.Common.{◌≡◌, ℕ, zero, suc, ◌-◌, ◌≤◌, List, [], ◌∷◌, ◌++◌, Some, Bool, true, false, refl, sym, ap, ◌∙◌, subst, append_assoc, append-nil, arith, Result, Ok, Err}
use Rattle.lar_tree.specs.declared.keyword.Keyword.{Keyword}
use Rattle.lar_tree.specs.declared.keyword.Keyword.TheVariants as keyword
use Rattle.lar_tree.specs.declared.sign.Sign.TheVariants as sign
use Rattle.lar_tree.specs.declared.stmt.Stmt.{Stmt}
use Rattle.lar_tree.specs.declared.token.Kind.TheVariants as kind
use Rattle.lar_tree.specs.declared.token.Token.{Token}
use Rattle.lar_tree.specs.Stmts.{GroupedStmts}
use Rattle.lar_tree.specs.StmtView.{stmts_view}
use Rattle.lar_grammar.specs.Looks.{Look, look, same_sign, same_word, is_sign, is_word}
use Rattle.lar_grammar.specs.Symbols.{one_sign, one_word, outer_expr, return_rest, setting_rest, one_block, statements, else_part, branch, Stack, skip, fail, take, then_, when}
use Rattle.lar_grammar.specs.Moves.{setting_on, if_rest, statement_at, block_at, branch_at, expand}
use Rattle.lar_grammar.specs.Machine.{Room, fault}
use Rattle.lar_grammar.proofs.Steps.{passes_skip, stops_fail, when_true, when_false, split, same_moves}
use Rattle.lar_grammar.proofs.GoingTokens.{same_word-self}
use Rattle.lar_grammar.proofs.Taking.{sign-found, word-found}
use Rattle.lar_grammar.proofs.Openings.{opened_expr, return_opens, begins_word, statements_expr}
use Rattle.lar_syntax.specs.Reads.{Reads}
use Rattle.lar_syntax.specs.ReadsExprs.{ReadsTo}
use Rattle.lar_syntax.specs.ReadsStmts.{stmt_tokens, stmts_tokens, IsStmt}
use Rattle.lar_syntax.specs.declared.parser.cursor.Stop.{Stop}
use Rattle.lar_syntax.specs.declared.parser.cursor.Stop.TheVariants as stop
use Rattle.lar_syntax.specs.declared.parser.cursor.Parser.{Parser}
use Rattle.lar_syntax.proofs.Flow.{ends_with}

-- a part that stands before what still comes
pub passing_to : {T : Type 0} (spell : T → List Token) (from mid to : Stack) (p : Parser) (r : Result T Stop) (new : Parser) → ((ss : Stack) → fault p.rest.now p.room (from ++ ss) ≡ fault p.rest.now p.room (mid ++ (to ++ ss))) → Reads spell mid p r new → ReadsTo spell from to p r new
passing_to spell from mid to p (Ok x) new go h = (h.0, λ ss. go ss ∙ h.1 (to ++ ss))
passing_to spell from mid to p (Err stop.Memory) new go h = tt
passing_to spell from mid to p (Err stop.Syntax) new go h = λ ss. go ss ∙ h (to ++ ss)

-- ---- single tokens

one_never_skips : (b : Bool) → when b (take []) fail ≡ skip → ⊥
one_never_skips true e = cc
one_never_skips false e = cc

-- a token, and what comes behind it
taken_then : (b : Bool) (bs : Stack) → when b (take bs) fail ≡ then_ (when b (take []) fail) bs
taken_then true bs = refl
taken_then false bs = refl

seen_then : (b : Bool) (bs : Stack) → b ≡ true → take bs ≡ then_ (when b (take []) fail) bs
seen_then true bs e = refl
seen_then false bs e = cc

lower : (n : ℕ) → n ≡ suc n - 1
lower n = omega arith

-- ---- statements

word_moves : (w : Keyword) (n : ℕ) (body : Stack) (l : Look) → l ≡ Some (kind.Word w) → statement_at n (Some (kind.Word w)) ≡ take body → expand (statements n) l ≡ then_ (expand (one_word w) l) (body ++ statements n ∷ [])
word_moves w n body l e m =
    subst (λ (x : Look). expand (statements n) x ≡ then_ (expand (one_word w) x) (body ++ statements n ∷ [])) (sym e)
    (ap (λ x. then_ x (statements n ∷ [])) m ∙ seen_then (same_word w w) (body ++ statements n ∷ []) (same_word-self w))

-- a statement that begins with a word of its own
pub word_opens : (ts : List Token) (room : Room) (n : ℕ) (w : Keyword) (body ss : Stack) → look ts ≡ Some (kind.Word w) → statement_at n (Some (kind.Word w)) ≡ take body → fault ts room (statements n ∷ ss) ≡ fault ts room (one_word w ∷ (body ++ statements n ∷ ss))
word_opens ts room n w body ss e m =
    split ts room (statements n) (one_word w) (body ++ statements n ∷ []) ss (word_moves w n body (look ts) e m) (one_never_skips (is_word w (look ts)))
    ∙ ap (λ x. fault ts room (one_word w ∷ x)) (append_assoc body (statements n ∷ []) ss)

-- one that begins with none
pub expr_opens : (ts : List Token) (room : Room) (n : ℕ) (ss : Stack) → is_sign sign.CloseBrace (look ts) ≡ false → begins_word (look ts) ≡ false → fault ts room (statements n ∷ ss) ≡ fault ts room (outer_expr ∷ setting_rest ∷ statements n ∷ ss)
expr_opens ts room n ss more other = statements_expr ts room n ss more other ∙ sym (opened_expr ts room (setting_rest ∷ statements n ∷ ss))

pub returns_value : (ts : List Token) (room : Room) (ss : Stack) → is_sign sign.Semicolon (look ts) ≡ false → fault ts room (return_rest ∷ ss) ≡ fault ts room (outer_expr ∷ one_sign sign.Semicolon ∷ ss)
returns_value ts room ss e = return_opens ts room ss e ∙ sym (opened_expr ts room (one_sign sign.Semicolon ∷ ss))

pub returns_nothing : (ts : List Token) (room : Room) (ss : Stack) → is_sign sign.Semicolon (look ts) ≡ true → fault ts room (return_rest ∷ ss) ≡ fault ts room (one_sign sign.Semicolon ∷ ss)
returns_nothing ts room ss e = same_moves ts room return_rest (one_sign sign.Semicolon) ss (when_true _ _ _ e ∙ sym (when_true _ (take []) fail e)) (one_never_skips (is_sign sign.Semicolon (look ts)))

set_moves : (l : Look) → is_sign sign.Assign l ≡ true → setting_on l ≡ then_ (when (is_sign sign.Assign l) (take []) fail) (outer_expr ∷ one_sign sign.Semicolon ∷ [])
set_moves l e = ap setting_on (sign-found sign.Assign l e) ∙ seen_then (is_sign sign.Assign l) _ e

pub sets_value : (ts : List Token) (room : Room) (ss : Stack) → is_sign sign.Assign (look ts) ≡ true → fault ts room (setting_rest ∷ ss) ≡ fault ts room (one_sign sign.Assign ∷ outer_expr ∷ one_sign sign.Semicolon ∷ ss)
sets_value ts room ss e = split ts room setting_rest (one_sign sign.Assign) (outer_expr ∷ one_sign sign.Semicolon ∷ []) ss (set_moves (look ts) e) (one_never_skips (is_sign sign.Assign (look ts)))

unset_moves : (l : Look) → is_sign sign.Assign l ≡ false → setting_on l ≡ when (is_sign sign.Semicolon l) (take []) fail
unfolding same_sign
unset_moves (Some (kind.Sign sign.Assign)) e = cc
unset_moves (Some (kind.Sign sign.Semicolon)) e = refl
unset_moves _ e = refl

pub sets_nothing : (ts : List Token) (room : Room) (ss : Stack) → is_sign sign.Assign (look ts) ≡ false → fault ts room (setting_rest ∷ ss) ≡ fault ts room (one_sign sign.Semicolon ∷ ss)
sets_nothing ts room ss e = same_moves ts room setting_rest (one_sign sign.Semicolon) ss (unset_moves (look ts) e) (one_never_skips (is_sign sign.Semicolon (look ts)))

-- ---- blocks

pub block_full : (ts : List Token) (room : Room) (n : ℕ) (ss : Stack) → n ≤ 0 → fault ts room (one_block n ∷ ss) ≡ Some ts
block_full ts room zero ss none = stops_fail ts room (one_block zero) ss refl
block_full ts room (suc n) ss none = absurd (omega arith)

pub block_opens : (ts : List Token) (room : Room) (n : ℕ) (ss : Stack) → 1 ≤ n → fault ts room (one_block n ∷ ss) ≡ fault ts room (one_sign sign.OpenBrace ∷ statements (n - 1) ∷ one_sign sign.CloseBrace ∷ ss)
block_opens ts room zero ss some = absurd (omega arith)
block_opens ts room (suc n) ss some =
    split ts room (one_block (suc n)) (one_sign sign.OpenBrace) (statements n ∷ one_sign sign.CloseBrace ∷ []) ss (taken_then (is_sign sign.OpenBrace (look ts)) _) (one_never_skips (is_sign sign.OpenBrace (look ts)))
    ∙ ap (λ k. fault ts room (one_sign sign.OpenBrace ∷ statements k ∷ one_sign sign.CloseBrace ∷ ss)) (lower n)

-- ---- what stands behind a block

pub else_none : (ts : List Token) (room : Room) (n : ℕ) (ss : Stack) → is_word keyword.Else (look ts) ≡ false → fault ts room (else_part n ∷ ss) ≡ fault ts room ss
else_none ts room n ss e = passes_skip ts room (else_part n) ss (when_false _ _ _ e)

pub else_opens : (ts : List Token) (room : Room) (n : ℕ) (ss : Stack) → is_word keyword.Else (look ts) ≡ true → fault ts room (else_part n ∷ ss) ≡ fault ts room (one_word keyword.Else ∷ branch n ∷ ss)
else_opens ts room n ss e = split ts room (else_part n) (one_word keyword.Else) (branch n ∷ []) ss (when_true _ _ _ e ∙ seen_then (is_word keyword.Else (look ts)) _ e) (one_never_skips (is_word keyword.Else (look ts)))

pub branch_full : (ts : List Token) (room : Room) (n : ℕ) (ss : Stack) → n ≤ 0 → fault ts room (branch n ∷ ss) ≡ Some ts
branch_full ts room zero ss none = stops_fail ts room (branch zero) ss refl
branch_full ts room (suc n) ss none = absurd (omega arith)

if_moves : (n : ℕ) (l : Look) → is_word keyword.If l ≡ true → branch_at (suc n) l ≡ then_ (when (is_word keyword.If l) (take []) fail) (if_rest n)
if_moves n l e = ap (branch_at (suc n)) (word-found keyword.If l e) ∙ seen_then (is_word keyword.If l) _ e

pub branch_if : (ts : List Token) (room : Room) (n : ℕ) (ss : Stack) → 1 ≤ n → is_word keyword.If (look ts) ≡ true → fault ts room (branch n ∷ ss) ≡ fault ts room (one_word keyword.If ∷ (if_rest (n - 1) ++ ss))
branch_if ts room zero ss some e = absurd (omega arith)
branch_if ts room (suc n) ss some e =
    split ts room (branch (suc n)) (one_word keyword.If) (if_rest n) ss (if_moves n (look ts) e) (one_never_skips (is_word keyword.If (look ts)))
    ∙ ap (λ k. fault ts room (one_word keyword.If ∷ (if_rest k ++ ss))) (lower n)

block_moves : (n : ℕ) (l : Look) → is_word keyword.If l ≡ false → branch_at n l ≡ block_at n l
unfolding same_sign same_word
block_moves zero l e = refl
block_moves (suc n) (Some (kind.Word keyword.If)) e = cc
block_moves (suc n) (Some (kind.Sign sign.OpenBrace)) e = refl
block_moves (suc n) _ e = refl

block_never_skips : (n : ℕ) (l : Look) → block_at n l ≡ skip → ⊥
block_never_skips zero l e = cc
block_never_skips (suc n) l e = when_never_skips (is_sign sign.OpenBrace l) _ e
  where
    when_never_skips : (b : Bool) (bs : Stack) → when b (take bs) fail ≡ skip → ⊥
    when_never_skips true bs e = cc
    when_never_skips false bs e = cc

pub branch_block : (ts : List Token) (room : Room) (n : ℕ) (ss : Stack) → is_word keyword.If (look ts) ≡ false → fault ts room (branch n ∷ ss) ≡ fault ts room (one_block n ∷ ss)
branch_block ts room n ss e = same_moves ts room (branch n) (one_block n) ss (block_moves n (look ts) e) (block_never_skips n (look ts))

-- ---- one statement more

stmts_flat : (xs : List Stmt) (s : Stmt) → stmts_tokens (xs ++ s ∷ []) ≡ stmts_tokens xs ++ stmt_tokens s
stmts_flat [] s = append-nil (stmt_tokens s)
stmts_flat (x ∷ xs) s = ap (λ t. stmt_tokens x ++ t) (stmts_flat xs s) ∙ sym (append_assoc (stmt_tokens x) (stmts_tokens xs) (stmt_tokens s))

pub stmts_grow : (a b c f : List Token) (xs ys : List Stmt) (s : Stmt) → a ≡ (f ++ stmts_tokens xs) ++ b → b ≡ stmt_tokens s ++ c → ys ≡ xs ++ s ∷ [] → a ≡ (f ++ stmts_tokens ys) ++ c
stmts_grow a b c f xs ys s p q z =
    ends_with a b c (f ++ stmts_tokens xs) (stmt_tokens s) p q
    ∙ ap (λ t. t ++ c) (append_assoc f (stmts_tokens xs) (stmt_tokens s) ∙ ap (λ t. f ++ t) (sym (stmts_flat xs s)))
    ∙ ap (λ t. (f ++ stmts_tokens t) ++ c) (sym z)

all_grouped : (xs : List Stmt) (s : Stmt) → GroupedStmts (stmts_view xs) → IsStmt s → GroupedStmts (stmts_view (xs ++ s ∷ []))
all_grouped [] s g h = (h, tt)
all_grouped (x ∷ xs) s g h = (g.0, all_grouped xs s g.1 h)

pub stmts_grouped : (xs ys : List Stmt) (s : Stmt) → GroupedStmts (stmts_view xs) → IsStmt s → ys ≡ xs ++ s ∷ [] → GroupedStmts (stmts_view ys)
stmts_grouped xs ys s g h z = subst (λ (x : List Stmt). GroupedStmts (stmts_view x)) (sym z) (all_grouped xs s g h)

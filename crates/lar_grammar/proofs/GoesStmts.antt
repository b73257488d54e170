-- The machine goes through the statements of each tree.
use Rattle.std.proofs.Common.{◌≡◌, ℕ, zero, suc, ◌-◌, List, [], ◌∷◌, ◌++◌, Option, Some, None, false, refl, sym, ap, ◌∙◌, subst, arith}
use Rattle.lar_source.specs.declared.file.Span.{Span}
use Rattle.lar_tree.specs.declared.keyword.Keyword.{Keyword}
use Rattle.lar_tree.specs.declared.keyword.Keyword.TheVariants as keyword
use Rattle.lar_tree.specs.declared.sign.Sign.TheVariants as sign
use Rattle.lar_tree.specs.declared.token.Kind.TheVariants as kind
use Rattle.lar_tree.specs.declared.token.Token.{Token}
use Rattle.lar_tree.specs.Spelling.{sign_token}
use Rattle.lar_tree.specs.Exprs.{PlainExpr, Grouped}
use Rattle.lar_tree.specs.Stmts.{PlainLet, PlainAsked, PlainSetting, PlainStmt, let_stmt, if_stmt, while_stmt, return_stmt, print_stmt, assert_stmt, expr_stmt, PlainBlock, block, PlainStmts, no_stmts, stmts, PlainIf, fork, PlainElse, no_else, else_block, else_if, IfThere, GroupedStmt, GroupedBlock, GroupedStmts, GroupedIf, GroupedElse}
use Rattle.lar_tree.specs.Marks.{Marked, un, over, marked_option, marked_expr, outermost, marked_let, marked_asked, marked_setting, marked_stmt, marked_block, marked_stmts, marked_if, marked_else}
use Rattle.lar_tree.specs.Marks.{tokens_of}
use Rattle.lar_tree.proofs.MarkedTokens.{tokens-cut}
use Rattle.lar_grammar.specs.Looks.{Look, look, same_word, is_word}
use Rattle.lar_grammar.specs.Symbols.{Symbol, one_sign, outer_expr, leave, return_rest, setting_rest, one_block, statements, else_part, branch, Stack, Move, skip, fail, take, enter, then_, entering, when}
use Rattle.lar_grammar.specs.Moves.{expand, operand_at, climb, whole_at, statement_at, block_at, if_rest, asked_rest}
use Rattle.lar_grammar.proofs.Going.{outside, Goes, Any, seq, over_more, when_also, part, stays, left_out, left_before, opens, tokens_on}
use Rattle.lar_grammar.proofs.GoingTokens.{at_sign, at_word, not_word, sign_then, name_then}
use Rattle.lar_grammar.proofs.GoesSteps.{step, step_to, part_then, refused, then-append}
use Rattle.lar_grammar.proofs.GoesLists.{then_not_skip, climb_not_skip}
use Rattle.lar_grammar.proofs.GoesTypes.{QuietType, quiet_type-at, goes-outer-type}
use Rattle.lar_grammar.proofs.GoesSigns.{Quiet, quiet-at}
use Rattle.lar_grammar.proofs.GoesExprs.{BeginsExpr, begins-expr, begins-no_sign, goes-outer-expr}

-- ---- what follows, and what stands first

quiet_semicolon : Quiet 6 (Some (kind.Sign sign.Semicolon))
quiet_semicolon = quiet-at 6 sign.Semicolon (λ e. cc) (λ e. cc) (λ e. cc) tt

quiet_close : Quiet 6 (Some (kind.Sign sign.CloseParen))
quiet_close = quiet-at 6 sign.CloseParen (λ e. cc) (λ e. cc) (λ e. cc) tt

quiet_assign : Quiet 6 (Some (kind.Sign sign.Assign))
quiet_assign = quiet-at 6 sign.Assign (λ e. cc) (λ e. cc) (λ e. cc) tt

quiet_brace : Quiet 6 (Some (kind.Sign sign.OpenBrace))
quiet_brace = quiet-at 6 sign.OpenBrace (λ e. cc) (λ e. cc) (λ e. cc) tt

type_assign : QuietType (Some (kind.Sign sign.Assign))
type_assign = quiet_type-at sign.Assign (λ e. cc) (λ e. cc)

-- no `else`, which an `if` would take
abbrev pub NotElse : Look → Type 0
NotElse l = is_word keyword.Else l ≡ false

begins_on : (e : PlainExpr) (ms : List Marked) (rest : List Token) → BeginsExpr (look (tokens_of (outermost e ++ ms) ++ rest))
begins_on e ms rest =
    let after = tokens_of ms ++ rest in
    subst (λ ts. BeginsExpr (look ts)) (ap (λ ts. ts ++ after) (sym (tokens-cut 512 (marked_expr e))) ∙ sym (tokens_on (outermost e) ms rest)) (begins-expr e after)

begins_not_else : (l : Look) → BeginsExpr l → NotElse l
begins_not_else l b = not_word keyword.Else l (λ e. b (ap operand_at e))

as_expr : (n : ℕ) (l : Look) → BeginsExpr l → statement_at n l ≡ then_ (whole_at l) (leave ∷ setting_rest ∷ [])
as_expr n (Some (kind.Word keyword.Let)) s = absurd (s refl)
as_expr n (Some (kind.Word keyword.If)) s = absurd (s refl)
as_expr n (Some (kind.Word keyword.While)) s = absurd (s refl)
as_expr n (Some (kind.Word keyword.Return)) s = absurd (s refl)
as_expr n (Some (kind.Word keyword.Print)) s = absurd (s refl)
as_expr n (Some (kind.Word keyword.StaticAssert)) s = absurd (s refl)
as_expr n _ s = refl

entering_not_skip : (m : Move) → (m ≡ skip → ⊥) → entering m ≡ skip → ⊥
entering_not_skip skip not e = not refl
entering_not_skip fail not e = cc
entering_not_skip (take ss) not e = cc
entering_not_skip (enter ss) not e = cc

outer_not_skip : (l : Look) → expand outer_expr l ≡ skip → ⊥
outer_not_skip l e = then_not_skip (whole_at l) (leave ∷ []) (entering_not_skip (climb 6 l) (climb_not_skip 6 l)) e

-- an expression that begins a statement, and one behind `return`
statement_begins : (n : ℕ) (l : Look) → BeginsExpr l → expand (statements n) l ≡ then_ (expand outer_expr l) (setting_rest ∷ statements n ∷ [])
statement_begins n l s =
    ap (λ b. when b skip (then_ (statement_at n l) (statements n ∷ []))) (begins-no_sign sign.CloseBrace l refl s)
    ∙ ap (λ m. then_ m (statements n ∷ [])) (as_expr n l s)
    ∙ then-append (whole_at l) (leave ∷ setting_rest ∷ []) (statements n ∷ [])
    ∙ sym (then-append (whole_at l) (leave ∷ []) (setting_rest ∷ statements n ∷ []))

return_begins : (l : Look) → BeginsExpr l → expand return_rest l ≡ then_ (expand outer_expr l) (one_sign sign.Semicolon ∷ [])
return_begins l s =
    ap (λ b. when b (take []) (then_ (whole_at l) (leave ∷ one_sign sign.Semicolon ∷ []))) (begins-no_sign sign.Semicolon l refl s)
    ∙ sym (then-append (whole_at l) (leave ∷ []) (one_sign sign.Semicolon ∷ []))

-- ---- statements with no block

-- what takes a statement and leaves room for further ones
abbrev pub GoesStmt : ℕ → List Marked → Type 0
GoesStmt n ms = Goes outside NotElse ms (statements n ∷ []) (statements n ∷ [])

goes_let : (n : ℕ) (l : PlainLet) → Grouped l.value → GoesStmt n (marked_let l)
goes_let n l g = step refl (name_then l.name (sign_then sign.Colon l.colon (part_then (goes-outer-type l.ty) (λ rest q. type_assign)
    (sign_then sign.Assign l.assign (part_then (goes-outer-expr l.value g) (λ rest q. quiet_semicolon) (sign_then sign.Semicolon l.semicolon (stays _)))))))

goes_asked : (n : ℕ) (word : Keyword) (a : PlainAsked) → Grouped a.value → expand (statements n) (Some (kind.Word word)) ≡ take (asked_rest ++ statements n ∷ []) → GoesStmt n (marked_asked word a)
goes_asked n word a g e = step_to e (sign_then sign.OpenParen a.from (part_then (goes-outer-expr a.value g) (λ rest q. quiet_close)
    (sign_then sign.CloseParen a.to (sign_then sign.Semicolon a.semicolon (stays _)))))

goes_return : (n : ℕ) (at : Span) (value : Option PlainExpr) (end : Span) → IfThere Grouped value → GoesStmt n (marked_stmt n (return_stmt at value end))
goes_return n at None end g = step_to refl (step (at_sign sign.Semicolon _ _) (stays _))
goes_return n at (Some e) end g = step_to refl (opens return_rest outer_expr (one_sign sign.Semicolon ∷ []) (statements n ∷ [])
    (λ rest q. return_begins _ (begins_on e (un (sign_token sign.Semicolon end) ∷ []) rest)) outer_not_skip
    (part_then (goes-outer-expr e g) (λ rest q. quiet_semicolon) (sign_then sign.Semicolon end (stays _))))

goes_setting : (n : ℕ) (setting : Option PlainSetting) (end : Span) → IfThere (λ (s : PlainSetting). Grouped s.1) setting → Goes outside NotElse (marked_option marked_setting setting ++ un (sign_token sign.Semicolon end) ∷ []) (setting_rest ∷ statements n ∷ []) (statements n ∷ [])
goes_setting n None end g = step refl (stays _)
goes_setting n (Some s) end g = step refl (part_then (goes-outer-expr s.1 g) (λ rest q. quiet_semicolon) (sign_then sign.Semicolon end (stays _)))

quiet_setting : (setting : Option PlainSetting) (end : Span) (rest : List Token) → Quiet 6 (look (tokens_of (marked_option marked_setting setting ++ un (sign_token sign.Semicolon end) ∷ []) ++ rest))
quiet_setting None end rest = quiet_semicolon
quiet_setting (Some s) end rest = quiet_assign

goes_expr : (n : ℕ) (e : PlainExpr) (setting : Option PlainSetting) (end : Span) → Grouped e → IfThere (λ (s : PlainSetting). Grouped s.1) setting → GoesStmt n (marked_stmt n (expr_stmt e setting end))
goes_expr n e setting end g h = opens (statements n) outer_expr (setting_rest ∷ statements n ∷ []) []
    (λ rest q. statement_begins n _ (begins_on e (marked_option marked_setting setting ++ un (sign_token sign.Semicolon end) ∷ []) rest)) outer_not_skip
    (part_then (goes-outer-expr e g) (λ rest q. quiet_setting setting end rest) (goes_setting n setting end h))

-- ---- blocks, and statements with a block

-- A block, from a symbol that begins as a block does.
abbrev pub GoesBlock : ℕ → PlainBlock → Type 0
GoesBlock n b = (s : Symbol) → expand s (Some (kind.Sign sign.OpenBrace)) ≡ block_at n (Some (kind.Sign sign.OpenBrace)) → Goes outside Any (marked_block n b) (s ∷ []) []

-- An `if`, from a symbol that begins as one and more.
abbrev pub GoesIf : ℕ → PlainIf → Type 0
GoesIf n f = (s : Symbol) (more : Stack) → expand s (Some (kind.Word keyword.If)) ≡ take (if_rest n ++ more) → Goes outside NotElse (marked_if n f) (s ∷ []) more

abbrev pub GoesElse : ℕ → PlainElse → Type 0
GoesElse n e = Goes outside NotElse (marked_else n e) (else_part n ∷ []) []

goes_braced : (k : ℕ) (ss : PlainStmts) (to : Span) → GoesStmt k (marked_stmts k ss) → Goes outside Any (marked_stmts k ss ++ un (sign_token sign.CloseBrace to) ∷ []) (statements k ∷ one_sign sign.CloseBrace ∷ []) []
goes_braced k ss to g = part {from = statements k ∷ []} (one_sign sign.CloseBrace ∷ []) g
    (left_before (statements k) (λ r. refl) (λ rest q. at_sign sign.CloseBrace skip _) (sign_then sign.CloseBrace to (stays _))) (λ rest q. refl)

pub less_one : (k : ℕ) → k ≡ suc k - 1
less_one k = omega arith

goes_block : (n : ℕ) (from : Span) (ss : PlainStmts) (to : Span) → ((k : ℕ) → GoesStmt k (marked_stmts k ss)) → GoesBlock n (block from ss to)
goes_block zero from ss to g s e = refused e
goes_block (suc k) from ss to g s e = subst (λ j. Goes outside Any (un (sign_token sign.OpenBrace from) ∷ (marked_stmts j ss ++ un (sign_token sign.CloseBrace to) ∷ [])) (s ∷ []) []) (less_one k)
    (step_to (e ∙ at_sign sign.OpenBrace _ fail) (goes_braced k ss to (g k)))

pub block_first : (n : ℕ) (b : PlainBlock) (rest : List Token) → look (tokens_of (marked_block n b) ++ rest) ≡ Some (kind.Sign sign.OpenBrace)
block_first zero (block from ss to) rest = refl
block_first (suc k) (block from ss to) rest = refl

quiet_block : (n : ℕ) (b : PlainBlock) (rest : List Token) → Quiet 6 (look (tokens_of (marked_block n b) ++ rest))
quiet_block n b rest = subst (Quiet 6) (sym (block_first n b rest)) quiet_brace

goes_while : (n : ℕ) (at : Span) (test : PlainExpr) (body : PlainBlock) → Grouped test → GoesBlock n body → GoesStmt n (marked_stmt n (while_stmt at test body))
goes_while n at test body g h = step_to refl (part_then (goes-outer-expr test g) (λ rest q. quiet_block n body rest)
    (over_more (when_also (λ l q. tt) (h (one_block n) refl)) (statements n ∷ [])))

goes_fork : (n : ℕ) (at : Span) (test : PlainExpr) (body : PlainBlock) (other : PlainElse) → Grouped test → GoesBlock n body → GoesElse n other → GoesIf n (fork at test body other)
goes_fork n at test body other g h k s more e = step_to e (part_then (goes-outer-expr test g) (λ rest q. subst (λ ts. Quiet 6 (look ts)) (sym (tokens_on (marked_block n body) (marked_else n other) rest)) (quiet_block n body (tokens_of (marked_else n other) ++ rest)))
    (part_then (h (one_block n) refl) (λ rest q. tt) (over_more k more)))

goes_no_else : (n : ℕ) → GoesElse n no_else
goes_no_else n = left_out (else_part n) (λ r. refl) (λ l q. ap (λ b. when b (take (branch n ∷ [])) skip) q)

branch_brace : (n : ℕ) → expand (branch n) (Some (kind.Sign sign.OpenBrace)) ≡ block_at n (Some (kind.Sign sign.OpenBrace))
branch_brace zero = refl
branch_brace (suc k) = sym (at_sign sign.OpenBrace _ fail)

goes_else_block : (n : ℕ) (at : Span) (body : PlainBlock) → GoesBlock n body → GoesElse n (else_block at body)
goes_else_block n at body h = step_to (at_word keyword.Else _ skip) (when_also (λ l q. tt) (h (branch n) (branch_brace n)))

goes_branch : (n : ℕ) (f : PlainIf) → ((k : ℕ) → GoesIf k f) → Goes outside NotElse (over n (marked_if (n - 1) f)) (branch n ∷ []) []
goes_branch zero (fork at test body other) g = refused refl
goes_branch (suc k) f g = subst (λ j. Goes outside NotElse (marked_if j f) (branch (suc k) ∷ []) []) (less_one k) (g k (branch (suc k)) [] refl)

goes_else_if : (n : ℕ) (at : Span) (f : PlainIf) → ((k : ℕ) → GoesIf k f) → GoesElse n (else_if at f)
goes_else_if n at f g = step_to (at_word keyword.Else _ skip) (goes_branch n f g)

-- ---- no statement begins with `else`

if_not_else : (n : ℕ) (f : PlainIf) (rest : List Token) → NotElse (look (tokens_of (marked_if n f) ++ rest))
unfolding same_word
if_not_else n (fork at test body other) rest = refl

stmt_not_else : (n : ℕ) (s : PlainStmt) (rest : List Token) → NotElse (look (tokens_of (marked_stmt n s) ++ rest))
unfolding same_word
stmt_not_else n (let_stmt l) rest = refl
stmt_not_else n (if_stmt f) rest = if_not_else n f rest
stmt_not_else n (while_stmt at test body) rest = refl
stmt_not_else n (return_stmt at value end) rest = refl
stmt_not_else n (print_stmt a) rest = refl
stmt_not_else n (assert_stmt a) rest = refl
stmt_not_else n (expr_stmt e setting end) rest = begins_not_else _ (begins_on e (marked_option marked_setting setting ++ un (sign_token sign.Semicolon end) ∷ []) rest)

stmts_not_else : (n : ℕ) (ss : PlainStmts) (rest : List Token) → NotElse (look rest) → NotElse (look (tokens_of (marked_stmts n ss) ++ rest))
stmts_not_else n no_stmts rest q = q
stmts_not_else n (stmts s ss) rest q = subst (λ ts. NotElse (look ts)) (sym (tokens_on (marked_stmt n s) (marked_stmts n ss) rest)) (stmt_not_else n s (tokens_of (marked_stmts n ss) ++ rest))

-- ---- all statements

mutual
  pub goes-stmt : (n : ℕ) (s : PlainStmt) → GroupedStmt s → GoesStmt n (marked_stmt n s)
  goes-stmt n (let_stmt l) g = goes_let n l g
  goes-stmt n (if_stmt f) g = goes-if n f g (statements n) (statements n ∷ []) refl
  goes-stmt n (while_stmt at test body) g = goes_while n at test body g.0 (goes-block n body g.1)
  goes-stmt n (return_stmt at value end) g = goes_return n at value end g
  goes-stmt n (print_stmt a) g = goes_asked n keyword.Print a g refl
  goes-stmt n (assert_stmt a) g = goes_asked n keyword.StaticAssert a g refl
  goes-stmt n (expr_stmt e setting end) g = goes_expr n e setting end g.0 g.1

  pub goes-block : (n : ℕ) (b : PlainBlock) → GroupedBlock b → GoesBlock n b
  goes-block n (block from ss to) g = goes_block n from ss to (λ k. goes-stmts k ss g)

  pub goes-stmts : (n : ℕ) (ss : PlainStmts) → GroupedStmts ss → GoesStmt n (marked_stmts n ss)
  goes-stmts n no_stmts g = stays _
  goes-stmts n (stmts s ss) g = seq (goes-stmt n s g.0) (goes-stmts n ss g.1) (λ rest q. stmts_not_else n ss rest q)

  pub goes-if : (n : ℕ) (f : PlainIf) → GroupedIf f → GoesIf n f
  goes-if n (fork at test body other) g = goes_fork n at test body other g.0 (goes-block n body g.1) (goes-else n other g.2)

  pub goes-else : (n : ℕ) (e : PlainElse) → GroupedElse e → GoesElse n e
  goes-else n no_else g = goes_no_else n
  goes-else n (else_block at body) g = goes_else_block n at body (goes-block n body g)
  goes-else n (else_if at f) g = goes_else_if n at f (λ k. goes-if k f g)

-- A token that begins or goes on with a statement, and what completes the stack behind it, are one.
use Rattle.std.proofs.Common.{◌≡◌, ℕ, zero, suc, List, [], ◌∷◌, ◌++◌, Some, None, sym, ap, ◌∙◌}
use Rattle.lar_source.specs.declared.file.Span.{Span}
use Rattle.lar_tree.specs.declared.keyword.Keyword.{Keyword}
use Rattle.lar_tree.specs.declared.keyword.Keyword.TheVariants as keyword
use Rattle.lar_tree.specs.declared.sign.Sign.TheVariants as sign
use Rattle.lar_tree.specs.declared.token.Token.{Token}
use Rattle.lar_tree.specs.declared.token.Kind.{Kind}
use Rattle.lar_tree.specs.declared.token.Kind.TheVariants as kind
use Rattle.lar_tree.specs.Spelling.{sign_token, word_token, name_token}
use Rattle.lar_tree.specs.Exprs.{Grouped}
use Rattle.lar_tree.specs.Stmts.{PlainAsked, PlainStmt, let_stmt, if_stmt, while_stmt, return_stmt, print_stmt, assert_stmt, expr_stmt, block, stmts, PlainIf, fork, else_block, else_if, flat_asked, flat_stmt, flat_if, GroupedStmt, GroupedIf}
use Rattle.lar_grammar.specs.Looks.{is_sign, is_word}
use Rattle.lar_grammar.specs.Symbols.{one_sign, outer_type, outer_expr, leave, return_rest, setting_rest, one_block, statements, else_part, branch, Stack, skip, take, then_, when}
use Rattle.lar_grammar.specs.Moves.{whole_at, setting_on, let_rest, asked_rest, while_rest, if_rest, statement_at, block_at, branch_at}
use Rattle.lar_grammar.proofs.Meaning.{Is, Completes}
use Rattle.lar_grammar.proofs.Taking.{body_of, take-body, when-take, when-else, unless-skip, Either, taken, other, when-either, alone, from_body, then-halves, sign-on, name-on, take-sign, take-word}
use Rattle.lar_grammar.proofs.Parts.{behind, both}
use Rattle.lar_grammar.proofs.TakesExprs.{takes-whole}

-- a statement with these tokens
abbrev pub StmtOf : List Token → Type 0
StmtOf f = (s : PlainStmt) × GroupedStmt s × (flat_stmt s ≡ f)

-- ---- ends of statements

setting_by : (k : Kind) (at : Span) (ss : Stack) (f : List Token) → body_of (setting_on (Some k)) ≡ Some ss → Completes ss f → Is setting_rest (record { kind = k; span = at } ∷ f)
setting_by (kind.Sign sign.Assign) at ss f e c0 =
    let c = from_body (outer_expr ∷ one_sign sign.Semicolon ∷ []) ss f (take-body _ ss e) c0 in
    let x = c.3 in
    let z = alone (one_sign sign.Semicolon) c.1 c.4 in
    (Some (at, x.0), x.1, z.0, ap (λ y. sign_token sign.Assign at ∷ y) (both _ _ c.0 c.1 f x.3 z.1 c.2))
setting_by (kind.Sign sign.Semicolon) at ss f e c0 =
    (None, tt, at, ap (λ y. sign_token sign.Semicolon at ∷ y) (sym (from_body [] ss f (take-body _ ss e) c0)))
setting_by k at ss f e c0 = cc

pub takes-setting_rest : (t : Token) (ss : Stack) (f : List Token) → body_of (setting_on (Some t.kind)) ≡ Some ss → Completes ss f → Is setting_rest (t ∷ f)
takes-setting_rest t ss f e c = setting_by t.kind t.span ss f e c

return_by : (t : Token) (ss : Stack) (f : List Token) → Either (is_sign sign.Semicolon (Some t.kind)) [] ss (then_ (whole_at (Some t.kind)) (leave ∷ one_sign sign.Semicolon ∷ [])) → Completes ss f → Is return_rest (t ∷ f)
return_by t ss f (taken b s) c =
    (None, tt, t.span, ap (λ x. x ∷ []) (sym (take-sign sign.Semicolon t b)) ∙ ap (λ x. t ∷ x) (sym (from_body [] ss f s c)))
return_by t ss f (other b e) c =
    let d = then-halves (whole_at (Some t.kind)) (leave ∷ one_sign sign.Semicolon ∷ []) ss f e c in
    let x = takes-whole t d.0 d.1 d.3 d.5 in
    let z = alone (one_sign sign.Semicolon) d.6.1 d.6.4 in
    (Some x.0, x.1, z.0, both _ _ (t ∷ d.1) d.2 (t ∷ f) x.3 (z.1 ∙ ap (λ y. y ++ d.6.1) (sym d.6.3) ∙ sym d.6.2) (ap (λ y. t ∷ y) d.4))

pub takes-return_rest : (t : Token) (ss : Stack) (f : List Token) → body_of (when (is_sign sign.Semicolon (Some t.kind)) (take []) (then_ (whole_at (Some t.kind)) (leave ∷ one_sign sign.Semicolon ∷ []))) ≡ Some ss → Completes ss f → Is return_rest (t ∷ f)
takes-return_rest t ss f e c = return_by t ss f (when-either (is_sign sign.Semicolon (Some t.kind)) [] ss (then_ (whole_at (Some t.kind)) (leave ∷ one_sign sign.Semicolon ∷ [])) e) c

-- ---- blocks

pub takes-one_block : (n : ℕ) (t : Token) (ss : Stack) (f : List Token) → body_of (block_at n (Some t.kind)) ≡ Some ss → Completes ss f → Is (one_block n) (t ∷ f)
takes-one_block zero t ss f e c = cc
takes-one_block (suc n) t ss f e c0 =
    let w = when-else (is_sign sign.OpenBrace (Some t.kind)) (statements n ∷ one_sign sign.CloseBrace ∷ []) ss e in
    let c = from_body (statements n ∷ one_sign sign.CloseBrace ∷ []) ss f w.1 c0 in
    let x = c.3 in
    let z = alone (one_sign sign.CloseBrace) c.1 c.4 in
    (block t.span x.0 z.0, x.1, behind (sign_token sign.OpenBrace t.span) _ f (t ∷ f) (both _ _ c.0 c.1 f x.2 z.1 c.2) (ap (λ y. y ∷ f) (take-sign sign.OpenBrace t w.0)))

-- ---- `if` and `else`

-- what stands behind `if`
abbrev IfOf : Span → List Token → Type 0
IfOf at f = (i : PlainIf) × GroupedIf i × (flat_if i ≡ word_token keyword.If at ∷ f)

if_of : (n : ℕ) (at : Span) (f : List Token) → Completes (if_rest n) f → IfOf at f
if_of n at f c =
    let x = c.3 in
    let b = c.4.3 in
    let o = alone (else_part n) c.4.1 c.4.4 in
    (fork at x.0 b.0 o.0, (x.1, b.1, o.1), ap (λ y. word_token keyword.If at ∷ y) (both _ _ c.0 c.1 f x.3 (both _ _ c.4.0 c.4.1 c.1 b.2 o.2 c.4.2) c.2))

branch_by : (n : ℕ) (k : Kind) (from : Span) (ss : Stack) (f : List Token) → body_of (branch_at n (Some k)) ≡ Some ss → Completes ss f → Is (branch n) (record { kind = k; span = from } ∷ f)
branch_by zero k from ss f e c = cc
branch_by (suc n) (kind.Word keyword.If) from ss f e c =
    let i = if_of n from f (from_body (if_rest n) ss f (take-body _ ss e) c) in
    λ at. (else_if at i.0, i.1, ap (λ y. word_token keyword.Else at ∷ y) i.2)
branch_by (suc n) (kind.Sign sign.OpenBrace) from ss f e c0 =
    let c = from_body (statements n ∷ one_sign sign.CloseBrace ∷ []) ss f (take-body _ ss e) c0 in
    let x = c.3 in
    let z = alone (one_sign sign.CloseBrace) c.1 c.4 in
    λ at. (else_block at (block from x.0 z.0), x.1, ap (λ y. word_token keyword.Else at ∷ sign_token sign.OpenBrace from ∷ y) (both _ _ c.0 c.1 f x.2 z.1 c.2))
branch_by (suc n) k from ss f e c = cc

pub takes-branch : (n : ℕ) (t : Token) (ss : Stack) (f : List Token) → body_of (branch_at n (Some t.kind)) ≡ Some ss → Completes ss f → Is (branch n) (t ∷ f)
takes-branch n t ss f e c = branch_by n t.kind t.span ss f e c

pub takes-else_part : (n : ℕ) (t : Token) (ss : Stack) (f : List Token) → body_of (when (is_word keyword.Else (Some t.kind)) (take (branch n ∷ [])) skip) ≡ Some ss → Completes ss f → Is (else_part n) (t ∷ f)
takes-else_part n t ss f e c =
    let w = when-take (is_word keyword.Else (Some t.kind)) (branch n ∷ []) ss e in
    let x = alone (branch n) f (from_body (branch n ∷ []) ss f w.1 c) t.span in
    (x.0, x.1, x.2 ∙ ap (λ y. y ∷ f) (sym (take-word keyword.Else t w.0)))

-- ---- statements

let_of : (at : Span) (f : List Token) → Completes let_rest f → StmtOf (word_token keyword.Let at ∷ f)
let_of at f c =
    let valued : Stack = outer_expr ∷ one_sign sign.Semicolon ∷ [] in
    let typed : Stack = outer_type ∷ one_sign sign.Assign ∷ valued in
    let n = name-on (one_sign sign.Colon ∷ typed) f c in
    let colon = sign-on sign.Colon typed n.1 n.3 in
    let c1 = colon.3 in
    let ty = c1.3 in
    let assign = sign-on sign.Assign valued c1.1 c1.4 in
    let c2 = assign.3 in
    let x = c2.3 in
    let z = alone (one_sign sign.Semicolon) c2.1 c2.4 in (
      let_stmt (record { keyword = at; name = n.0; colon = colon.0; ty = ty.0; assign = assign.0; value = x.0; semicolon = z.0 }),
      x.1,
      ap (λ y. word_token keyword.Let at ∷ y)
          (behind (name_token n.0) _ n.1 f
          (behind (sign_token sign.Colon colon.0) _ colon.1 n.1
          (both _ _ c1.0 c1.1 colon.1 ty.1 (behind (sign_token sign.Assign assign.0) _ assign.1 c1.1 (both _ _ c2.0 c2.1 assign.1 x.3 z.1 c2.2) assign.2) c1.2)
          colon.2)
          n.2),
    )

-- the expression in brackets, for whichever word stands before it
asked_of : (at : Span) (f : List Token) → Completes asked_rest f → (a : PlainAsked) × Grouped a.value × ((w : Keyword) → flat_asked w a ≡ word_token w at ∷ f)
asked_of at f c =
    let from = sign-on sign.OpenParen (outer_expr ∷ one_sign sign.CloseParen ∷ one_sign sign.Semicolon ∷ []) f c in
    let c1 = from.3 in
    let x = c1.3 in
    let to = sign-on sign.CloseParen (one_sign sign.Semicolon ∷ []) c1.1 c1.4 in
    let z = alone (one_sign sign.Semicolon) to.1 to.3 in (
      record { keyword = at; from = from.0; value = x.0; to = to.0; semicolon = z.0 },
      x.1,
      λ w. ap (λ y. word_token w at ∷ y)
          (behind (sign_token sign.OpenParen from.0) _ from.1 f
          (both _ _ c1.0 c1.1 from.1 x.3 (behind (sign_token sign.CloseParen to.0) _ to.1 c1.1 z.1 to.2) c1.2)
          from.2),
    )

while_of : (n : ℕ) (at : Span) (f : List Token) → Completes (while_rest n) f → StmtOf (word_token keyword.While at ∷ f)
while_of n at f c =
    let x = c.3 in
    let b = alone (one_block n) c.1 c.4 in
    (while_stmt at x.0 b.0, (x.1, b.1), ap (λ y. word_token keyword.While at ∷ y) (both _ _ c.0 c.1 f x.3 b.2 c.2))

plain_of : (t : Token) (ss : Stack) (f : List Token) → body_of (then_ (whole_at (Some t.kind)) (leave ∷ setting_rest ∷ [])) ≡ Some ss → Completes ss f → StmtOf (t ∷ f)
plain_of t ss f e c =
    let d = then-halves (whole_at (Some t.kind)) (leave ∷ setting_rest ∷ []) ss f e c in
    let x = takes-whole t d.0 d.1 d.3 d.5 in
    let o = alone setting_rest d.6.1 d.6.4 in
    (expr_stmt x.0 o.0 o.2, (x.1, o.1), both _ _ (t ∷ d.1) d.2 (t ∷ f) x.3 (o.3 ∙ ap (λ y. y ++ d.6.1) (sym d.6.3) ∙ sym d.6.2) (ap (λ y. t ∷ y) d.4))

statement_by : (n : ℕ) (k : Kind) (at : Span) (ss : Stack) (f : List Token) → body_of (statement_at n (Some k)) ≡ Some ss → Completes ss f → StmtOf (record { kind = k; span = at } ∷ f)
statement_by n (kind.Word keyword.Let) at ss f e c = let_of at f (from_body let_rest ss f (take-body _ ss e) c)
statement_by n (kind.Word keyword.If) at ss f e c =
    let i = if_of n at f (from_body (if_rest n) ss f (take-body _ ss e) c) in
    (if_stmt i.0, i.1, i.2)
statement_by n (kind.Word keyword.While) at ss f e c = while_of n at f (from_body (while_rest n) ss f (take-body _ ss e) c)
statement_by n (kind.Word keyword.Return) at ss f e c =
    let r = alone return_rest f (from_body (return_rest ∷ []) ss f (take-body _ ss e) c) in
    (return_stmt at r.0 r.2, r.1, ap (λ y. word_token keyword.Return at ∷ y) r.3)
statement_by n (kind.Word keyword.Print) at ss f e c =
    let a = asked_of at f (from_body asked_rest ss f (take-body _ ss e) c) in
    (print_stmt a.0, a.1, a.2 keyword.Print)
statement_by n (kind.Word keyword.StaticAssert) at ss f e c =
    let a = asked_of at f (from_body asked_rest ss f (take-body _ ss e) c) in
    (assert_stmt a.0, a.1, a.2 keyword.StaticAssert)
statement_by n k at ss f e c = plain_of (record { kind = k; span = at }) ss f e c

pub takes-statement : (n : ℕ) (t : Token) (ss : Stack) (f : List Token) → body_of (statement_at n (Some t.kind)) ≡ Some ss → Completes ss f → StmtOf (t ∷ f)
takes-statement n t ss f e c = statement_by n t.kind t.span ss f e c

pub takes-statements : (n : ℕ) (t : Token) (ss : Stack) (f : List Token) → body_of (when (is_sign sign.CloseBrace (Some t.kind)) skip (then_ (statement_at n (Some t.kind)) (statements n ∷ []))) ≡ Some ss → Completes ss f → Is (statements n) (t ∷ f)
takes-statements n t ss f e c =
    let w = unless-skip (is_sign sign.CloseBrace (Some t.kind)) (then_ (statement_at n (Some t.kind)) (statements n ∷ [])) ss e in
    let d = then-halves (statement_at n (Some t.kind)) (statements n ∷ []) ss f w.1 c in
    let x = takes-statement n t d.0 d.1 d.3 d.5 in
    let r = alone (statements n) d.2 d.6 in
    (stmts x.0 r.0, (x.1, r.1), both _ _ (t ∷ d.1) d.2 (t ∷ f) x.2 r.2 (ap (λ y. t ∷ y) d.4))

-- A statement and what follows it are fixed by their tokens.
use Rattle.std.proofs.Common.{◌≡◌, List, ◌∷◌, ◌++◌, Option, Some, None, true, false, refl, sym, ap, ◌∙◌, subst, append_assoc}
use Rattle.lar_source.specs.declared.file.Span.{Span}
use Rattle.lar_tree.specs.declared.keyword.Keyword.{Keyword}
use Rattle.lar_tree.specs.declared.keyword.Keyword.TheVariants as keyword
use Rattle.lar_tree.specs.declared.sign.Sign.TheVariants as sign
use Rattle.lar_tree.specs.declared.token.Token.{Token}
use Rattle.lar_tree.specs.Spelling.{sign_token, word_token, flat_option}
use Rattle.lar_tree.specs.Exprs.{PlainExpr, flat_expr, Grouped}
use Rattle.lar_tree.specs.Stmts.{PlainLet, PlainAsked, PlainSetting, PlainStmt, let_stmt, if_stmt, while_stmt, return_stmt, print_stmt, assert_stmt, expr_stmt, PlainBlock, block, PlainStmts, no_stmts, stmts, PlainIf, fork, PlainElse, no_else, else_block, else_if, flat_let, flat_asked, flat_setting, flat_stmt, flat_block, flat_stmts, flat_if, flat_else, IfThere, GroupedStmt, GroupedBlock, GroupedStmts, GroupedIf, GroupedElse}
use Rattle.lar_grammar.proofs.OneType.{Same, tails, heads, spans, same_kinds, Never, same_name, same_type}
use Rattle.lar_grammar.proofs.OneExpr.{Starts, starts, starts_not, begins_word, grows}
use Rattle.lar_grammar.proofs.OneOperand.{same_expr}

-- an expression begins with none of these words
starts_no_word : (e : PlainExpr) (w : Keyword) (at : Span) (r rest : List Token) → flat_expr e ++ r ≡ word_token w at ∷ rest → begins_word w ≡ false → ⊥
starts_no_word e w at r rest h n = let k : begins_word w ≡ true = subst Starts h (starts e r) in cc

no_word : (e : PlainExpr) (o : Option PlainSetting) (end : Span) (w : Keyword) (at : Span) (r rest : List Token) → flat_stmt (expr_stmt e o end) ++ r ≡ word_token w at ∷ rest → begins_word w ≡ false → ⊥
no_word e o end w at r rest h n = starts_no_word e w at _ rest (sym (append_assoc (flat_expr e) _ r) ∙ h) n

-- the next token is no `else`
abbrev NoElse : List Token → Type 0
NoElse r = (at : Span) (rest : List Token) → r ≡ word_token keyword.Else at ∷ rest → ⊥

stmt_no_else : (s : PlainStmt) (r : List Token) → NoElse (flat_stmt s ++ r)
stmt_no_else (let_stmt l) r at rest e = cc (same_kinds e)
stmt_no_else (if_stmt (fork x test body other)) r at rest e = cc (same_kinds e)
stmt_no_else (while_stmt x test body) r at rest e = cc (same_kinds e)
stmt_no_else (return_stmt x value end) r at rest e = cc (same_kinds e)
stmt_no_else (print_stmt a) r at rest e = cc (same_kinds e)
stmt_no_else (assert_stmt a) r at rest e = cc (same_kinds e)
stmt_no_else (expr_stmt x setting end) r at rest e = no_word x setting end keyword.Else at r rest e refl

stmts_no_else : (ss : PlainStmts) (to : Span) (r : List Token) → NoElse (flat_stmts ss ++ sign_token sign.CloseBrace to ∷ r)
stmts_no_else no_stmts to r at rest e = cc (same_kinds e)
stmts_no_else (stmts s ss) to r at rest e = stmt_no_else s _ at rest (sym (append_assoc (flat_stmt s) (flat_stmts ss) _) ∙ e)

stmt_not_close : (s : PlainStmt) (at : Span) (r rest : List Token) → flat_stmt s ++ r ≡ sign_token sign.CloseBrace at ∷ rest → ⊥
stmt_not_close (let_stmt l) at r rest e = cc (same_kinds e)
stmt_not_close (if_stmt (fork x test body other)) at r rest e = cc (same_kinds e)
stmt_not_close (while_stmt x test body) at r rest e = cc (same_kinds e)
stmt_not_close (return_stmt x value end) at r rest e = cc (same_kinds e)
stmt_not_close (print_stmt a) at r rest e = cc (same_kinds e)
stmt_not_close (assert_stmt a) at r rest e = cc (same_kinds e)
stmt_not_close (expr_stmt x setting end) at r rest e = starts_not x sign.CloseBrace at _ rest (sym (append_assoc (flat_expr x) _ r) ∙ e) refl

same_let : (l m : PlainLet) (r s : List Token) → flat_let l ++ r ≡ flat_let m ++ s → Grouped l.value → Grouped m.value → Same l m r s
same_let l m r s e g k =
    let h = simp append_assoc at e in
    let p = same_type l.ty m.ty _ _ (tails (tails (tails h))) refl refl in
    let q = same_expr l.value m.value _ _ (tails p.1) g k refl refl in
    let n = same_name l.name m.name (heads (tails h)) in
    (λ i. record { keyword = spans h i; name = n i; colon = spans (tails (tails h)) i; ty = p.0 i; assign = spans p.1 i; value = q.0 i; semicolon = spans q.1 i }, tails q.1)

same_asked : (w : Keyword) (a b : PlainAsked) (r s : List Token) → flat_asked w a ++ r ≡ flat_asked w b ++ s → Grouped a.value → Grouped b.value → Same a b r s
same_asked w a b r s e g k =
    let h = simp append_assoc at e in
    let q = same_expr a.value b.value _ _ (tails (tails h)) g k refl refl in
    (λ i. record { keyword = spans h i; from = spans (tails h) i; value = q.0 i; to = spans q.1 i; semicolon = spans (tails q.1) i }, tails (tails q.1))

after_block : (b : PlainBlock) (r : List Token) → Never grows (flat_block b ++ r)
after_block (block from ss to) r = refl

after_set : (o : Option PlainSetting) (end : Span) (r : List Token) → Never grows (flat_option flat_setting o ++ sign_token sign.Semicolon end ∷ r)
after_set None end r = refl
after_set (Some x) end r = refl

-- what may be left out before a semicolon
same_value : (o q : Option PlainExpr) (end end' : Span) (r s : List Token) → flat_option flat_expr o ++ sign_token sign.Semicolon end ∷ r ≡ flat_option flat_expr q ++ sign_token sign.Semicolon end' ∷ s → IfThere Grouped o → IfThere Grouped q → (o ≡ q) × (end ≡ end') × (r ≡ s)
same_value None None end end' r s e g k = (refl, spans e, tails e)
same_value None (Some y) end end' r s e g k = absurd (starts_not y sign.Semicolon end _ r (sym e) refl)
same_value (Some x) None end end' r s e g k = absurd (starts_not x sign.Semicolon end' _ s e refl)
same_value (Some x) (Some y) end end' r s e g k = let p = same_expr x y _ _ e g k refl refl in (ap Some p.0, spans p.1, tails p.1)

same_set : (o q : Option PlainSetting) (end end' : Span) (r s : List Token) → flat_option flat_setting o ++ sign_token sign.Semicolon end ∷ r ≡ flat_option flat_setting q ++ sign_token sign.Semicolon end' ∷ s → IfThere (λ (x : PlainSetting). Grouped x.1) o → IfThere (λ (x : PlainSetting). Grouped x.1) q → (o ≡ q) × (end ≡ end') × (r ≡ s)
same_set None None end end' r s e g k = (refl, spans e, tails e)
same_set (Some x) (Some y) end end' r s e g k =
    let p = same_expr x.1 y.1 _ _ (tails e) g k refl refl in
    let w : x ≡ y = λ i. (spans e i, p.0 i) in
    (ap Some w, spans p.1, tails p.1)
same_set _ _ end end' r s e g k = absurd (cc (same_kinds e))

mutual
  same_stmt : (x y : PlainStmt) (r s : List Token) → flat_stmt x ++ r ≡ flat_stmt y ++ s → GroupedStmt x → GroupedStmt y → NoElse r → NoElse s → Same x y r s
  same_stmt (let_stmt l) (let_stmt m) r s e g k a b = let p = same_let l m r s e g k in (ap let_stmt p.0, p.1)
  same_stmt (if_stmt f) (if_stmt f') r s e g k a b = let p = same_if f f' r s e g k a b in (ap if_stmt p.0, p.1)
  same_stmt (while_stmt at test body) (while_stmt at' test' body') r s e g k a b =
      let h = simp append_assoc at e in
      let p = same_expr test test' _ _ (tails h) g.0 k.0 (after_block body r) (after_block body' s) in
      let q = same_block body body' r s p.1 g.1 k.1 in
      (cc (spans h, p.0, q.0), q.1)
  same_stmt (return_stmt at value end) (return_stmt at' value' end') r s e g k a b =
      let h = simp append_assoc at e in
      let p = same_value value value' end end' r s (tails h) g k in
      (cc (spans h, p.0, p.1), p.2)
  same_stmt (print_stmt x) (print_stmt y) r s e g k a b = let p = same_asked keyword.Print x y r s e g k in (ap print_stmt p.0, p.1)
  same_stmt (assert_stmt x) (assert_stmt y) r s e g k a b = let p = same_asked keyword.StaticAssert x y r s e g k in (ap assert_stmt p.0, p.1)
  same_stmt (expr_stmt x o end) (expr_stmt y q end') r s e g k a b =
      let h = simp append_assoc at e in
      let p = same_expr x y _ _ h g.0 k.0 (after_set o end r) (after_set q end' s) in
      let w = same_set o q end end' r s p.1 g.1 k.1 in
      (cc (p.0, w.0, w.1), w.2)
  same_stmt (expr_stmt x o end) (let_stmt m) r s e g k a b = absurd (no_word x o end keyword.Let m.keyword r _ e refl)
  same_stmt (expr_stmt x o end) (if_stmt (fork at test body other)) r s e g k a b = absurd (no_word x o end keyword.If at r _ e refl)
  same_stmt (expr_stmt x o end) (while_stmt at test body) r s e g k a b = absurd (no_word x o end keyword.While at r _ e refl)
  same_stmt (expr_stmt x o end) (return_stmt at value to) r s e g k a b = absurd (no_word x o end keyword.Return at r _ e refl)
  same_stmt (expr_stmt x o end) (print_stmt y) r s e g k a b = absurd (no_word x o end keyword.Print y.keyword r _ e refl)
  same_stmt (expr_stmt x o end) (assert_stmt y) r s e g k a b = absurd (no_word x o end keyword.StaticAssert y.keyword r _ e refl)
  same_stmt (let_stmt m) (expr_stmt x o end) r s e g k a b = absurd (no_word x o end keyword.Let m.keyword s _ (sym e) refl)
  same_stmt (if_stmt (fork at test body other)) (expr_stmt x o end) r s e g k a b = absurd (no_word x o end keyword.If at s _ (sym e) refl)
  same_stmt (while_stmt at test body) (expr_stmt x o end) r s e g k a b = absurd (no_word x o end keyword.While at s _ (sym e) refl)
  same_stmt (return_stmt at value to) (expr_stmt x o end) r s e g k a b = absurd (no_word x o end keyword.Return at s _ (sym e) refl)
  same_stmt (print_stmt y) (expr_stmt x o end) r s e g k a b = absurd (no_word x o end keyword.Print y.keyword s _ (sym e) refl)
  same_stmt (assert_stmt y) (expr_stmt x o end) r s e g k a b = absurd (no_word x o end keyword.StaticAssert y.keyword s _ (sym e) refl)
  same_stmt (if_stmt (fork at test body other)) _ r s e g k a b = absurd (cc (same_kinds e))
  same_stmt _ (if_stmt (fork at test body other)) r s e g k a b = absurd (cc (same_kinds e))
  same_stmt _ _ r s e g k a b = absurd (cc (same_kinds e))

  pub same_block : (x y : PlainBlock) (r s : List Token) → flat_block x ++ r ≡ flat_block y ++ s → GroupedBlock x → GroupedBlock y → Same x y r s
  same_block (block from ss to) (block from' us to') r s e g k =
      let h = simp append_assoc at e in
      let p = same_stmts ss us to to' r s (tails h) g k in
      (cc (spans h, p.0, p.1), p.2)

  same_stmts : (ss us : PlainStmts) (to to' : Span) (r s : List Token) → flat_stmts ss ++ sign_token sign.CloseBrace to ∷ r ≡ flat_stmts us ++ sign_token sign.CloseBrace to' ∷ s → GroupedStmts ss → GroupedStmts us → (ss ≡ us) × (to ≡ to') × (r ≡ s)
  same_stmts no_stmts no_stmts to to' r s e g k = (refl, spans e, tails e)
  same_stmts no_stmts (stmts y us) to to' r s e g k = absurd (stmt_not_close y to _ r (sym (e ∙ append_assoc (flat_stmt y) (flat_stmts us) _)))
  same_stmts (stmts x ss) no_stmts to to' r s e g k = absurd (stmt_not_close x to' _ s (sym (append_assoc (flat_stmt x) (flat_stmts ss) _) ∙ e))
  same_stmts (stmts x ss) (stmts y us) to to' r s e g k =
      let h = sym (append_assoc (flat_stmt x) (flat_stmts ss) _) ∙ e ∙ append_assoc (flat_stmt y) (flat_stmts us) _ in
      let p = same_stmt x y _ _ h g.0 k.0 (stmts_no_else ss to r) (stmts_no_else us to' s) in
      let q = same_stmts ss us to to' r s p.1 g.1 k.1 in
      (cc (p.0, q.0), q.1, q.2)

  same_if : (x y : PlainIf) (r s : List Token) → flat_if x ++ r ≡ flat_if y ++ s → GroupedIf x → GroupedIf y → NoElse r → NoElse s → Same x y r s
  same_if (fork at test body other) (fork at' test' body' other') r s e g k a b =
      let h = simp append_assoc at e in
      let p = same_expr test test' _ _ (tails h) g.0 k.0 (after_block body _) (after_block body' _) in
      let q = same_block body body' _ _ p.1 g.1 k.1 in
      let w = same_else other other' r s q.1 g.2 k.2 a b in
      (cc (spans h, p.0, q.0, w.0), w.1)

  same_else : (x y : PlainElse) (r s : List Token) → flat_else x ++ r ≡ flat_else y ++ s → GroupedElse x → GroupedElse y → NoElse r → NoElse s → Same x y r s
  same_else no_else no_else r s e g k a b = (refl, e)
  same_else no_else (else_block at body) r s e g k a b = absurd (a at _ e)
  same_else no_else (else_if at f) r s e g k a b = absurd (a at _ e)
  same_else (else_block at body) no_else r s e g k a b = absurd (b at _ (sym e))
  same_else (else_if at f) no_else r s e g k a b = absurd (b at _ (sym e))
  same_else (else_block at body) (else_block at' body') r s e g k a b = let p = same_block body body' r s (tails e) g k in (cc (spans e, p.0), p.1)
  same_else (else_if at f) (else_if at' f') r s e g k a b = let p = same_if f f' r s (tails e) g k a b in (cc (spans e, p.0), p.1)
  same_else (else_block at (block from ss to)) (else_if at' (fork x test body other)) r s e g k a b = absurd (cc (same_kinds (tails e)))
  same_else (else_if at' (fork x test body other)) (else_block at (block from ss to)) r s e g k a b = absurd (cc (same_kinds (tails e)))

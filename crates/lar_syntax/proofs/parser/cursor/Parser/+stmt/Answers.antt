use Rattle.std.proofs.Common.{◌≡◌, refl, [], ◌∷◌, ◌++◌, ◌-◌, ◌∙◌, sym, ap, Some, false, arith, rules}
use Rattle.std.specs.Option.{option_copied}
use Rattle.std.proofs.lemmas.Result.{err_from_is_err_and}
use Rattle.lar_tree.specs.declared.keyword.Keyword.TheVariants as keyword
use Rattle.lar_tree.specs.declared.sign.Sign.TheVariants as sign
use Rattle.lar_tree.specs.declared.token.Kind.TheVariants as kind
use Rattle.lar_tree.specs.Spelling.{sign_token, word_token}
use Rattle.lar_tree.specs.Stmts.{flat_if, flat_else}
use Rattle.lar_grammar.specs.Looks.{look}
use Rattle.lar_grammar.specs.Symbols.{one_sign, one_word, outer_expr, setting_rest, return_rest, one_block, statements, else_part, branch}
use Rattle.lar_grammar.specs.Moves.{let_rest, asked_rest, while_rest, if_rest}
use Rattle.lar_grammar.proofs.Openings.{begins_word, statements_end}
use Rattle.lar_syntax.specs.ReadsStmts.{stmt_tokens}
use Rattle.lar_syntax.proofs.Flow.{onward, ends_with}
use Rattle.lar_syntax.proofs.StmtSteps.{passing_to, word_opens, expr_opens, block_full, block_opens, else_opens, branch_full, branch_if, branch_block, stmts_grow, stmts_grouped}
use Rattle.lar_syntax.proofs.parser.cursor.Parser.+stmt.Goals as goal

-- ---- a block

pub block-returns-then-levels-eq0-clause-reads : goal.block-returns-then-levels-eq0-clause-reads
block-returns-then-levels-eq0-clause-reads t c =
    let p = c.args.self.now in λ ss. block_full p.rest.now p.room c.args.levels ss (omega arith)

pub block-returns-in_err-from-clause-reads : goal.block-returns-in_err-from-clause-reads
block-returns-in_err-from-clause-reads t c =
    let p = c.args.self.now in
    let n = c.args.levels in
    let x = err_from_is_err_and c.from_residual.result c.from_residual.ensures.1 in
    rw (x.1, x.2) (onward (one_block n ∷ []) (one_sign sign.OpenBrace ∷ []) (statements (n - 1) ∷ one_sign sign.CloseBrace ∷ []) _ p p _
    (λ ss. block_opens p.rest.now p.room n ss (omega arith)) c.in_err-from.ensures.reads)

pub block-statements-preserved : goal.block-statements-preserved
block-statements-preserved t c =
    let i = c.statements.invariant in
    let s = c.in_ok-stmt.ensures in
    let z = c.in_ok-push.ensures.ok in
    record {
      takes = stmts_grow c.args.self.now.rest.now c.statements.self.rest.now c.statement.new.self.rest.now (sign_token sign.OpenBrace c.in_ok-from.from ∷ []) c.statements.stmts c.push.new.self c.in_ok-stmt.stmt i.takes s.reads.0 z;
      passes = λ ss. i.passes ss ∙ s.reads.1 (one_sign sign.CloseBrace ∷ ss);
      grouped = stmts_grouped c.statements.stmts c.push.new.self c.in_ok-stmt.stmt i.grouped s.grouped z;
      shorter = omega arith;
    }

pub block-returns-in_err-to-clause-reads : goal.block-returns-in_err-to-clause-reads
block-returns-in_err-to-clause-reads t c =
    let n = c.args.levels in
    let q = c.statements.self in
    let x = err_from_is_err_and c.from_residual-in_err-to.result c.from_residual-in_err-to.ensures.1 in
    rw (x.1, x.2) (onward (one_block n ∷ []) (one_sign sign.CloseBrace ∷ []) [] _ c.args.self.now q _
    (λ ss. c.statements.invariant.passes ss ∙ statements_end q.rest.now q.room (n - 1) (one_sign sign.CloseBrace ∷ ss) (sym c.sees.ensures ∙ c.statements-test.false)) c.in_err-to.ensures.reads)

-- ---- `if` and `else`

pub fork-returns-clause-reads : goal.fork-returns-clause-reads
fork-returns-clause-reads t c =
    let n = c.args.levels in
    let k = c.in_ok-keyword.ensures.reads in
    let e = c.in_ok-test.ensures.reads in
    let b = c.in_ok-then.ensures.reads in
    let o = c.in_ok-other.ensures.reads in (
      k.0 ∙ ap (λ x. word_token keyword.If c.in_ok-keyword.keyword ∷ x) (ends_with _ _ _ _ _ e.0 (ends_with _ _ _ _ _ b.0 o.0))
          ∙ ap (λ f. flat_if f ++ c.otherwise.new.self.rest.now) (sym c.in_ok-fork.ensures),
      λ ss. k.1 (if_rest n ++ ss) ∙ e.1 (one_block n ∷ else_part n ∷ ss) ∙ b.1 (else_part n ∷ ss) ∙ o.1 ss,
    )

pub otherwise-returns-in_err-keyword-clause-reads : goal.otherwise-returns-in_err-keyword-clause-reads
otherwise-returns-in_err-keyword-clause-reads t c =
    let p = c.args.self.now in
    let n = c.args.levels in
    let x = err_from_is_err_and c.from_residual.result c.from_residual.ensures.1 in
    rw (x.1, x.2) (onward (else_part n ∷ []) (one_word keyword.Else ∷ []) (branch n ∷ []) _ p p _
    (λ ss. else_opens p.rest.now p.room n ss (sym c.sees_word.ensures ∙ c.if-not-sees_word.false)) c.in_err-keyword.ensures.reads)

pub otherwise-returns-in_err-body-clause-reads : goal.otherwise-returns-in_err-body-clause-reads
otherwise-returns-in_err-body-clause-reads t c =
    let p = c.args.self.now in
    let q = c.expect_word.new.self in
    let n = c.args.levels in
    let x = err_from_is_err_and c.from_residual-in_err-body.result c.from_residual-in_err-body.ensures.1 in
    rw (x.1, x.2) (onward (else_part n ∷ []) (one_block n ∷ []) [] _ p q _
    (λ ss. else_opens p.rest.now p.room n ss (sym c.sees_word.ensures ∙ c.if-not-sees_word.false) ∙ c.in_ok-keyword.ensures.reads.1 (branch n ∷ ss)
    ∙ branch_block q.rest.now q.room n ss (sym c.sees_word-2.ensures ∙ c.if-not-sees_word-2.true)) c.in_err-body.ensures.reads)

pub otherwise-returns-then-not-sees_word-2-clause-reads : goal.otherwise-returns-then-not-sees_word-2-clause-reads
otherwise-returns-then-not-sees_word-2-clause-reads t c =
    let p = c.args.self.now in
    let q = c.expect_word.new.self in
    let n = c.args.levels in
    let k = c.in_ok-keyword.ensures.reads in
    let b = c.in_ok-body.ensures.reads in (
      k.0 ∙ ap (λ x. word_token keyword.Else c.in_ok-keyword.keyword ∷ x) b.0 ∙ ap (λ e. flat_else e ++ c.block.new.self.rest.now) (sym c.last.ensures),
      λ ss. else_opens p.rest.now p.room n ss (sym c.sees_word.ensures ∙ c.if-not-sees_word.false) ∙ k.1 (branch n ∷ ss)
          ∙ branch_block q.rest.now q.room n ss (sym c.sees_word-2.ensures ∙ c.if-not-sees_word-2.true) ∙ b.1 ss,
    )

pub otherwise-returns-then-levels-eq0-clause-reads : goal.otherwise-returns-then-levels-eq0-clause-reads
otherwise-returns-then-levels-eq0-clause-reads t c =
    let p = c.args.self.now in
    let q = c.expect_word.new.self in
    let n = c.args.levels in
    λ ss. else_opens p.rest.now p.room n ss (sym c.sees_word.ensures ∙ c.if-not-sees_word.false) ∙ c.in_ok-keyword.ensures.reads.1 (branch n ∷ ss)
    ∙ branch_full q.rest.now q.room n ss (omega arith)

pub otherwise-returns-in_err-fork-clause-reads : goal.otherwise-returns-in_err-fork-clause-reads
otherwise-returns-in_err-fork-clause-reads t c =
    let p = c.args.self.now in
    let q = c.expect_word.new.self in
    let n = c.args.levels in
    let x = err_from_is_err_and c.from_residual-in_err-fork.result c.from_residual-in_err-fork.ensures.1 in
    rw (x.1, x.2) (onward (else_part n ∷ []) (one_word keyword.If ∷ if_rest (n - 1)) [] _ p q _
    (λ ss. else_opens p.rest.now p.room n ss (sym c.sees_word.ensures ∙ c.if-not-sees_word.false) ∙ c.in_ok-keyword.ensures.reads.1 (branch n ∷ ss)
    ∙ branch_if q.rest.now q.room n ss (omega arith) (sym c.sees_word-2.ensures ∙ c.if-not-sees_word-2.false)) c.in_err-fork.ensures.reads)

pub otherwise-returns-clause-reads : goal.otherwise-returns-clause-reads
otherwise-returns-clause-reads t c =
    let p = c.args.self.now in
    let q = c.expect_word.new.self in
    let n = c.args.levels in
    let k = c.in_ok-keyword.ensures.reads in
    let f = c.in_ok-fork.ensures.reads in (
      k.0 ∙ ap (λ x. word_token keyword.Else c.in_ok-keyword.keyword ∷ x) f.0 ∙ ap (λ e. flat_else e ++ c.fork.new.self.rest.now) (sym c.next.ensures),
      λ ss. else_opens p.rest.now p.room n ss (sym c.sees_word.ensures ∙ c.if-not-sees_word.false) ∙ k.1 (branch n ∷ ss)
          ∙ branch_if q.rest.now q.room n ss (omega arith) (sym c.sees_word-2.ensures ∙ c.if-not-sees_word-2.false) ∙ f.1 ss,
    )

-- ---- a statement

pub statement-returns-in-Some-Word-Let-clause-reads : goal.statement-returns-in-Some-Word-Let-clause-reads
statement-returns-in-Some-Word-Let-clause-reads t c =
    let p = c.args.self.now in
    let n = c.args.levels in
    let a = c.in-Some-Word-Let in
    let seen = sym c.peek.ensures ∙ ap option_copied a.is ∙ ap Some a.field-0-is ∙ ap (λ w. Some (kind.Word w)) a.field-0-0-is in
    passing_to stmt_tokens (statements n ∷ []) (one_word keyword.Let ∷ let_rest) (statements n ∷ []) p c.let_stmt.result _ (λ ss. word_opens p.rest.now p.room n keyword.Let let_rest ss seen refl) c.let_stmt.ensures.reads

pub statement-returns-in-Some-Word-If-clause-reads : goal.statement-returns-in-Some-Word-If-clause-reads
statement-returns-in-Some-Word-If-clause-reads t c =
    let p = c.args.self.now in
    let n = c.args.levels in
    let a = c.in-Some-Word-If in
    let seen = sym c.peek.ensures ∙ ap option_copied a.is ∙ ap Some a.field-0-is ∙ ap (λ w. Some (kind.Word w)) a.field-0-0-is in
    passing_to stmt_tokens (statements n ∷ []) (one_word keyword.If ∷ (if_rest n)) (statements n ∷ []) p c.if_stmt.result _ (λ ss. word_opens p.rest.now p.room n keyword.If (if_rest n) ss seen refl) c.if_stmt.ensures.reads

pub statement-returns-in-Some-Word-While-clause-reads : goal.statement-returns-in-Some-Word-While-clause-reads
statement-returns-in-Some-Word-While-clause-reads t c =
    let p = c.args.self.now in
    let n = c.args.levels in
    let a = c.in-Some-Word-While in
    let seen = sym c.peek.ensures ∙ ap option_copied a.is ∙ ap Some a.field-0-is ∙ ap (λ w. Some (kind.Word w)) a.field-0-0-is in
    passing_to stmt_tokens (statements n ∷ []) (one_word keyword.While ∷ (while_rest n)) (statements n ∷ []) p c.while_stmt.result _ (λ ss. word_opens p.rest.now p.room n keyword.While (while_rest n) ss seen refl) c.while_stmt.ensures.reads

pub statement-returns-in-Some-Word-Return-clause-reads : goal.statement-returns-in-Some-Word-Return-clause-reads
statement-returns-in-Some-Word-Return-clause-reads t c =
    let p = c.args.self.now in
    let n = c.args.levels in
    let a = c.in-Some-Word-Return in
    let seen = sym c.peek.ensures ∙ ap option_copied a.is ∙ ap Some a.field-0-is ∙ ap (λ w. Some (kind.Word w)) a.field-0-0-is in
    passing_to stmt_tokens (statements n ∷ []) (one_word keyword.Return ∷ (return_rest ∷ [])) (statements n ∷ []) p c.return_stmt.result _ (λ ss. word_opens p.rest.now p.room n keyword.Return (return_rest ∷ []) ss seen refl) c.return_stmt.ensures.reads

pub statement-returns-in-Some-Word-Print-clause-reads : goal.statement-returns-in-Some-Word-Print-clause-reads
statement-returns-in-Some-Word-Print-clause-reads t c =
    let p = c.args.self.now in
    let n = c.args.levels in
    let a = c.in-Some-Word-Print in
    let seen = sym c.peek.ensures ∙ ap option_copied a.is ∙ ap Some a.field-0-is ∙ ap (λ w. Some (kind.Word w)) a.field-0-0-is in
    passing_to stmt_tokens (statements n ∷ []) (one_word keyword.Print ∷ asked_rest) (statements n ∷ []) p c.print_stmt.result _ (λ ss. word_opens p.rest.now p.room n keyword.Print asked_rest ss seen refl) c.print_stmt.ensures.reads

pub statement-returns-in-Some-Word-StaticAssert-clause-reads : goal.statement-returns-in-Some-Word-StaticAssert-clause-reads
statement-returns-in-Some-Word-StaticAssert-clause-reads t c =
    let p = c.args.self.now in
    let n = c.args.levels in
    let a = c.in-Some-Word-StaticAssert in
    let seen = sym c.peek.ensures ∙ ap option_copied a.is ∙ ap Some a.field-0-is ∙ ap (λ w. Some (kind.Word w)) a.field-0-0-is in
    passing_to stmt_tokens (statements n ∷ []) (one_word keyword.StaticAssert ∷ asked_rest) (statements n ∷ []) p c.assert_stmt.result _ (λ ss. word_opens p.rest.now p.room n keyword.StaticAssert asked_rest ss seen refl) c.assert_stmt.ensures.reads

pub statement-returns-in_default-clause-reads : goal.statement-returns-in_default-clause-reads
statement-returns-in_default-clause-reads t c =
    let p = c.args.self.now in
    let n = c.args.levels in
    let other : begins_word (look p.rest.now) ≡ false = search rules in
    passing_to stmt_tokens (statements n ∷ []) (outer_expr ∷ setting_rest ∷ []) (statements n ∷ []) p c.expr_stmt.result _ (λ ss. expr_opens p.rest.now p.room n ss c.requires other) c.expr_stmt.ensures.reads

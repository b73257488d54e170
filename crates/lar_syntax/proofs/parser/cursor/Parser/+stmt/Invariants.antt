use Rattle.std.proofs.Common.{◌≡◌, ◌∷◌, ◌++◌, [], ◌<◌, ◌-◌, ◌+◌, ◌*◌, length}
use Rattle.lar_tree.specs.declared.sign.Sign.TheVariants as sign
use Rattle.lar_tree.specs.Spelling.{sign_token}
use Rattle.lar_tree.specs.Stmts.{GroupedStmts}
use Rattle.lar_tree.specs.StmtView.{stmts_view}
use Rattle.lar_grammar.specs.Symbols.{Stack, one_sign, one_block, statements}
use Rattle.lar_grammar.specs.Machine.{fault}
use Rattle.lar_syntax.specs.ReadsStmts.{stmts_tokens}
use Rattle.lar_syntax.proofs.parser.cursor.Parser.+stmt.Given as goal

abbrev pub decreases-block : goal.decreases-block
decreases-block l = 4 * length l.self.now.rest.now

abbrev pub decreases-otherwise : goal.decreases-otherwise
decreases-otherwise l = 4 * length l.self.now.rest.now

abbrev pub decreases-while_stmt : goal.decreases-while_stmt
decreases-while_stmt l = 4 * length l.self.now.rest.now

abbrev pub decreases-fork : goal.decreases-fork
decreases-fork l = 4 * length l.self.now.rest.now + 1

abbrev pub decreases-if_stmt : goal.decreases-if_stmt
decreases-if_stmt l = 4 * length l.self.now.rest.now + 2

abbrev pub decreases-statement : goal.decreases-statement
decreases-statement l = 4 * length l.self.now.rest.now + 3

abbrev pub invariant-block-statements : goal.invariant-block-statements
invariant-block-statements l = record {
  takes : l.fn.self.rest.now ≡ ((sign_token sign.OpenBrace l.from ∷ []) ++ stmts_tokens l.stmts) ++ l.self.rest.now;
  passes : (ss : Stack) → fault l.fn.self.rest.now l.fn.self.room (one_block l.levels ∷ ss) ≡ fault l.self.rest.now l.self.room (statements (l.levels - 1) ∷ one_sign sign.CloseBrace ∷ ss);
  grouped : GroupedStmts (stmts_view l.stmts);
  shorter : length l.self.rest.now < length l.fn.self.rest.now;
}

abbrev pub decreases-block-statements : goal.decreases-block-statements
decreases-block-statements l = length l.self.rest.now

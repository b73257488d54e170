use Rattle.std.proofs.Common.{◌≡◌, ◌∷◌, ◌++◌, ◌≤◌, length}
use Rattle.lar_grammar.specs.Machine.{fault}
use Rattle.lar_grammar.specs.Symbols.{Stack, post}
use Rattle.lar_syntax.specs.Reads.{expr_tokens}
use Rattle.lar_syntax.specs.ReadsExprs.{IsOf}
use Rattle.lar_syntax.proofs.parser.cursor.Parser.dotted.Given as goal

abbrev pub invariant-fields : goal.invariant-fields
invariant-fields l = record {
  takes : expr_tokens l.fn.inner ++ l.fn.self.rest.now ≡ expr_tokens l.whole ++ l.self.rest.now;
  passes : (ss : Stack) → fault l.fn.self.rest.now l.fn.self.room (post ∷ ss) ≡ fault l.self.rest.now l.self.room (post ∷ ss);
  grouped : IsOf 0 l.whole;
  shorter : length l.self.rest.now ≤ length l.fn.self.rest.now;
}

abbrev pub decreases-fields : goal.decreases-fields
decreases-fields l = length l.self.rest.now

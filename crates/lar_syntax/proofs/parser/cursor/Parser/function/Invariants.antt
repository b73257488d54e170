use Rattle.std.proofs.Common.{◌≡◌, ◌∷◌, ◌++◌, ◌≤◌, length}
use Rattle.lar_tree.specs.Items.{flat_attributes}
use Rattle.lar_grammar.specs.Symbols.{Stack, attributed}
use Rattle.lar_grammar.specs.Machine.{fault}
use Rattle.lar_syntax.proofs.parser.cursor.Parser.function.Given as goal

abbrev pub invariant-attributes : goal.invariant-attributes
invariant-attributes l = record {
  takes : l.fn.self.rest.now ≡ flat_attributes l.attributes ++ l.self.rest.now;
  passes : (ss : Stack) → fault l.fn.self.rest.now l.fn.self.room (attributed l.levels ∷ ss) ≡ fault l.self.rest.now l.self.room (attributed l.levels ∷ ss);
  shorter : length l.self.rest.now ≤ length l.fn.self.rest.now;
}

abbrev pub decreases-attributes : goal.decreases-attributes
decreases-attributes l = length l.self.rest.now

use Rattle.std.proofs.Common.{◌≡◌, ◌∷◌, ◌++◌, ◌<◌, length}
use Rattle.lar_tree.specs.Spelling.{name_token, flat_segments}
use Rattle.lar_grammar.specs.Symbols.{Stack, one_name, segments}
use Rattle.lar_grammar.specs.Machine.{fault}
use Rattle.lar_syntax.proofs.parser.cursor.Parser.path.Given as goal

abbrev pub invariant-segments : goal.invariant-segments
invariant-segments l = record {
  takes : l.fn.self.rest.now ≡ (name_token l.first ∷ flat_segments l.more) ++ l.self.rest.now;
  passes : (ss : Stack) → fault l.fn.self.rest.now l.fn.self.room (one_name ∷ segments ∷ ss) ≡ fault l.self.rest.now l.self.room (segments ∷ ss);
  shorter : length l.self.rest.now < length l.fn.self.rest.now;
}

abbrev pub decreases-segments : goal.decreases-segments
decreases-segments l = length l.self.rest.now

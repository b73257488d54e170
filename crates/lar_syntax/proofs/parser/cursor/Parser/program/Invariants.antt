use Rattle.std.proofs.Common.{◌≡◌, ◌∷◌, ◌++◌, length}
use Rattle.lar_tree.specs.Items.{GroupedItems}
use Rattle.lar_tree.specs.ItemView.{items_view}
use Rattle.lar_grammar.specs.Symbols.{Stack, program}
use Rattle.lar_grammar.specs.Machine.{fault}
use Rattle.lar_syntax.specs.ReadsItems.{items_tokens}
use Rattle.lar_syntax.proofs.parser.cursor.Parser.program.Given as goal

abbrev pub invariant-items : goal.invariant-items
invariant-items l = record {
  takes : l.fn.self.rest.now ≡ items_tokens l.found ++ l.self.rest.now;
  passes : (ss : Stack) → fault l.fn.self.rest.now l.fn.self.room (program ∷ ss) ≡ fault l.self.rest.now l.self.room (program ∷ ss);
  grouped : GroupedItems (items_view l.found);
}

abbrev pub decreases-items : goal.decreases-items
decreases-items l = length l.self.rest.now

use Rattle.std.proofs.Common.{◌≡◌, ◌∷◌, ◌++◌, ◌≤◌, ◌+◌, ◌*◌, length}
use Rattle.lar_tree.specs.Items.{GroupedItems}
use Rattle.lar_tree.specs.ItemView.{items_view}
use Rattle.lar_grammar.specs.Symbols.{Stack, module_items}
use Rattle.lar_grammar.specs.Machine.{fault}
use Rattle.lar_syntax.specs.ReadsItems.{items_tokens}
use Rattle.lar_syntax.proofs.parser.cursor.Parser.+items.Given as goal

abbrev pub decreases-module : goal.decreases-module
decreases-module l = 4 * length l.self.now.rest.now

abbrev pub decreases-item : goal.decreases-item
decreases-item l = 4 * length l.self.now.rest.now + 1

abbrev pub decreases-items : goal.decreases-items
decreases-items l = 4 * length l.self.now.rest.now + 2

abbrev pub invariant-items-items : goal.invariant-items-items
invariant-items-items l = record {
  takes : l.fn.self.rest.now ≡ items_tokens l.found ++ l.self.rest.now;
  passes : (ss : Stack) → fault l.fn.self.rest.now l.fn.self.room (module_items l.levels ∷ ss) ≡ fault l.self.rest.now l.self.room (module_items l.levels ∷ ss);
  grouped : GroupedItems (items_view l.found);
  shorter : length l.self.rest.now ≤ length l.fn.self.rest.now;
}

abbrev pub decreases-items-items : goal.decreases-items-items
decreases-items-items l = length l.self.rest.now

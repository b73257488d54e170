use Rattle.std.proofs.Common.{◌≡◌, ◌∷◌, ◌++◌, ◌≤◌, length}
use Rattle.lar_tree.specs.Commas.{flat_commas}
use Rattle.lar_tree.specs.Items.{flat_name}
use Rattle.lar_grammar.specs.Symbols.{Stack, member, more, name_member}
use Rattle.lar_grammar.specs.Machine.{fault}
use Rattle.lar_syntax.proofs.parser.cursor.Parser.names.Given as goal

abbrev pub invariant-commas : goal.invariant-commas
invariant-commas l = record {
  takes : l.fn.self.rest.now ≡ flat_commas flat_name l.list ++ l.self.rest.now;
  passes : (ss : Stack) → fault l.fn.self.rest.now l.fn.self.room (member name_member ∷ more name_member 15 ∷ ss) ≡ fault l.self.rest.now l.self.room (more name_member l.left ∷ ss);
  shorter : length l.self.rest.now ≤ length l.fn.self.rest.now;
}

abbrev pub decreases-commas : goal.decreases-commas
decreases-commas l = length l.self.rest.now

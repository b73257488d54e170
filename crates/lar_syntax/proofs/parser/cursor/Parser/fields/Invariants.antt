use Rattle.std.proofs.Common.{◌≡◌, ◌∷◌, ◌++◌, ◌≤◌, length}
use Rattle.lar_tree.specs.Commas.{flat_commas}
use Rattle.lar_syntax.specs.ReadsItems.{field_tokens}
use Rattle.lar_grammar.specs.Symbols.{Stack, member, more, field_member}
use Rattle.lar_grammar.specs.Machine.{fault}
use Rattle.lar_syntax.proofs.parser.cursor.Parser.fields.Given as goal

abbrev pub invariant-commas : goal.invariant-commas
invariant-commas l = record {
  takes : l.fn.self.rest.now ≡ flat_commas field_tokens l.list ++ l.self.rest.now;
  passes : (ss : Stack) → fault l.fn.self.rest.now l.fn.self.room (member field_member ∷ more field_member l.fn.most ∷ ss) ≡ fault l.self.rest.now l.self.room (more field_member l.left ∷ ss);
  shorter : length l.self.rest.now ≤ length l.fn.self.rest.now;
}

abbrev pub decreases-commas : goal.decreases-commas
decreases-commas l = length l.self.rest.now

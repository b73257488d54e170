use Rattle.std.proofs.Common.{◌∙◌, ap, sym, subst}
use Rattle.type_table.specs.Rows.{Keeps}
use Rattle.lar_typed.specs.TreeView.{contents, plain}
use Rattle.lar_typed.proofs.ContentsKept.{typed_kept, plain_kept}
use Rattle.lar_typed.proofs.tree.TypedTree.substitute.Goals as goal

pub invariant_of-self : goal.invariant_of-self
invariant_of-self c = typed_kept c.self.inside.types c.substitute.new.self c.self.inside.structs c.self.inside.consts c.self.inside.functions c.substitute.ensures.kept c.self.invariant

pub returns-clause-program : goal.returns-clause-program
returns-clause-program c = plain_kept c.self.inside.types c.substitute.new.self c.self.inside.structs c.self.inside.consts c.self.inside.functions c.substitute.ensures.kept c.self.invariant ∙ ap plain c.self.view_is

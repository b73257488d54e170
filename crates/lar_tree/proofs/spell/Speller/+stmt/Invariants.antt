use Rattle.std.proofs.Common.{◌≡◌, ◌++◌, drop}
use Rattle.lar_tree.specs.StmtView.{stmts_view}
use Rattle.lar_tree.specs.Stmts.{flat_stmts}
use Rattle.lar_tree.specs.Spelling.{kinds}
use Rattle.lar_tree.proofs.spell.Speller.+stmt.Given as goal

abbrev pub invariant-stmts-loop-stmt : goal.invariant-stmts-loop-stmt
invariant-stmts-loop-stmt l = l.self.kinds.items ++ kinds (flat_stmts (stmts_view (drop l.stmt-index l.stmts))) ≡ l.initial.self.kinds.items ++ kinds (flat_stmts (stmts_view l.stmts))

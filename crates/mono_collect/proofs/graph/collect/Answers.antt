use Rattle.std.proofs.Common.{◌∙◌, sym, subst as transport}
use Rattle.lar_typed.specs.TreeView.{IsTypedTree}
use Rattle.lar_typed.proofs.ContentsKept.{typed_kept}
use Rattle.mono_collect.proofs.Walked.{graph_is}
use Rattle.mono_collect.proofs.graph.collect.Goals as goal

pub walk-requires-clause-typed : goal.walk-requires-clause-typed
walk-requires-clause-typed c = transport IsTypedTree (sym c.in_ok-found.ensures.rest) (typed_kept c.args.tree.now.rows c.found_roots.new.tree.rows c.args.tree.now.structs c.args.tree.now.consts c.args.tree.now.functions c.in_ok-found.ensures.kept c.functions.ensures.facts)

pub returns-clause-is : goal.returns-clause-is
returns-clause-is c = graph_is c.walk.new.tree c.walk.new.found (record { items = c.in_ok-items.items; callees = c.in_ok-callees.callees }) c.in_ok-callees.ensures.ends (c.in_ok-items.ensures.instances ∙ c.as_slice-3.ensures) c.in_ok-items.ensures.items

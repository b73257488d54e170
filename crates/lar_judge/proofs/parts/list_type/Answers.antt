use Rattle.std.proofs.Common.{◌-◌, arith}
use Rattle.lar_typed.specs.ExprView.{expr_view}
use Rattle.lar_judge.proofs.ListTypes.{within_at, list_more}
use Rattle.lar_judge.proofs.Rows.{keeps_twice, label_below}
use Rattle.lar_judge.proofs.parts.list_type.Goals as goal

pub intern-requires-in-loop-left : goal.intern-requires-in-loop-left
intern-requires-in-loop-left c = (
  label_below c.args.types.now c.loop-left.types (expr_view c.index-parts-left.result) c.label.result c.loop-left.invariant.kept (within_at c.args.types.now c.args.parts.now (c.loop-left.left - 1) c.index-parts-left.result c.requires (omega arith) c.index-parts-left.is) c.label.ensures,
  c.loop-left.invariant.list.within,
)

pub loop-left-preserved : goal.loop-left-preserved
loop-left-preserved c = record {
  within = omega arith;
  kept = keeps_twice _ _ _ c.loop-left.invariant.kept c.intern-in-loop-left.ensures.kept;
  list = list_more c.args.types.now c.loop-left.types c.intern-in-loop-left.new.self c.args.parts.now (c.loop-left.left - 1) c.loop-left.left c.in_ok-list-2.list c.label.result c.loop-left.list c.index-parts-left.result
      c.requires (omega arith) (omega arith) c.index-parts-left.is c.label.ensures c.loop-left.invariant.kept c.loop-left.invariant.list c.in_ok-list-2.ensures.number;
}

use Rattle.std.proofs.Common.{◌≡◌, take}
use Rattle.type_table.specs.Rows.{Keeps}
use Rattle.lar_tree.specs.StmtView.{stmts_view}
use Rattle.lar_rules.specs.Fault.{least}
use Rattle.lar_rules.specs.Bodies.{stmts_done}
use Rattle.lar_stmts.specs.States.{body_in, state_in, StateIs, IsLonger}
use Rattle.lar_stmts.specs.Stmts.{StmtsIs}
use Rattle.lar_bodies.proofs.walk.+walking.Given as goal

abbrev pub invariant-stmts_walked-loop-stmt : goal.invariant-stmts_walked-loop-stmt
invariant-stmts_walked-loop-stmt g l = record {
  kept : Keeps l.fn.types l.types;
  typed : StmtsIs l.types l.done (stmts_done (body_in l.fn.types (g.S.Site.site l.context.site.now) l.context.outcome) (state_in l.fn.types l.fn.state) (stmts_view (take l.stmt-index l.stmts))).typed;
  after : StateIs l.types l.state (stmts_done (body_in l.fn.types (g.S.Site.site l.context.site.now) l.context.outcome) (state_in l.fn.types l.fn.state) (stmts_view (take l.stmt-index l.stmts))).after;
  scope : IsLonger l.fn.state.locals.locals.items l.state.locals.locals.items;
  told : l.first ≡ least l.fn.first (stmts_done (body_in l.fn.types (g.S.Site.site l.context.site.now) l.context.outcome) (state_in l.fn.types l.fn.state) (stmts_view (take l.stmt-index l.stmts))).faults;
}

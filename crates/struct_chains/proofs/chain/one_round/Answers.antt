use Rattle.std.proofs.Common.{◌∙◌, ap, get_or, arith}
use Rattle.std.specs.Global.{Vec}
use Rattle.std.proofs.Common.{ℕ}
use Rattle.struct_chains.specs.Chains.{longest}
use Rattle.struct_chains.proofs.Rounds.{map_push, map_end, round_all}
use Rattle.struct_chains.proofs.chain.one_round.Goals as goal

pub loop-next-preserved : goal.loop-next-preserved
loop-next-preserved c =
    map_push (λ next. longest (λ node. get_or c.args.so_far.now node 0) next.items) c.args.graph.now c.loop-next.next-index c.next-item.result c.loop-next.out.items c.push.new.self.items c.most.result c.loop-next.invariant c.in_ok-push.ensures.items (c.most.ensures.most ∙ ap (longest (λ node. get_or c.args.so_far.now node 0)) c.deref.ensures.value) c.next-item.is c.loop-next-test.true

pub returns : goal.returns
returns c =
    map_end (λ next. longest (λ node. get_or c.args.so_far.now node 0) next.items) c.args.graph.now c.loop-next.next-index c.loop-next.out.items c.loop-next.invariant c.loop-next-test.false
    ∙ round_all c.args.graph.now c.args.so_far.now

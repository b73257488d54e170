use Rattle.std.proofs.Common.{◌≡◌, ◌∙◌, ◌+◌, ap, sym, arith, refl}
use Rattle.std.proofs.lemmas.Slice.Eq.{bytes_eq-Decides}
use Rattle.struct_chains.specs.Chains.{lists, round}
use Rattle.struct_chains.proofs.Rounds.{entry_below, round_next, round_last}
use Rattle.struct_chains.proofs.chain.followers.Goals as goal

pub one_round-requires : goal.one_round-requires
one_round-requires c =
    entry_below (lists c.args.graph.now) c.deref.result.now c.loop-rounds.rounds c.args.limit (c.deref.ensures.value ∙ c.loop-rounds.invariant.so_far) (omega arith)

pub returns-then-eq : goal.returns-then-eq
returns-then-eq c =
    round_last (lists c.args.graph.now) c.loop-rounds.so_far.items c.in_ok-next.next.items c.loop-rounds.rounds c.args.limit c.loop-rounds.invariant.so_far (c.in_ok-next.ensures ∙ ap (round (lists c.args.graph.now)) c.deref.ensures.value) (sym c.as_slice.ensures.value ∙ (bytes_eq-Decides c.as_slice.result.now c.as_slice-in-loop-rounds.result.now).0 (sym c.if-eq.ensures) ∙ c.as_slice-in-loop-rounds.ensures.value) (omega arith)

pub loop-rounds-preserved : goal.loop-rounds-preserved
loop-rounds-preserved c = record {
  so_far = round_next (lists c.args.graph.now) c.loop-rounds.so_far.items c.in_ok-next.next.items c.loop-rounds.rounds (c.loop-rounds.rounds + 1) c.loop-rounds.invariant.so_far (c.in_ok-next.ensures ∙ ap (round (lists c.args.graph.now)) c.deref.ensures.value) refl;
  below = omega arith;
}

use Rattle.std.proofs.Common.{ap, ◌∙◌, arith, take, drop}
use Rattle.lar_lexer.proofs.Turns.{turn_gap, turn_token}
use Rattle.lar_lexer.proofs.lexer.read.Goals as goal
use Rattle.lar_lexer.proofs.lexer.read.Goals.{in-Gap, in-Token+in_ok-push-in-Token}

pub fronts-preserved : goal.fronts-preserved
fronts-preserved c =
    let i = c.fronts.invariant in
    let x = c.in_ok-len.ensures in
    let s = c.split_at.ensures in
    record {
      same = elim c.match-branch-3.branch [
        | in-Gap w ↦ turn_gap _ w.in-Gap.len _ _ _ _ _ _ _ _ _ i.same (ap (λ v. v.items) w.found-is) w.in-Gap.is x.value x.within (s.front ∙ ap (λ n. take n c.fronts.rest.now) w.len-is) (s.back ∙ ap (λ n. drop n c.fronts.rest.now) w.len-is) c.walk-at.ensures.value
        | in-Token+in_ok-push-in-Token w ↦ turn_token _ w.in-Token.len w.in-Token.kind _ _ _ _ _ _ _ _ _ i.same (ap (λ v. v.items) w.found-is ∙ w.in_ok-push-in-Token.ensures.items) w.in-Token.is x.value x.within (s.front ∙ ap (λ n. take n c.fronts.rest.now) w.len-is) (s.back ∙ ap (λ n. drop n c.fronts.rest.now) w.len-is) c.walk-at.ensures.value
      ];
      line = omega arith;
      col = omega arith;
    }

use Rattle.std.proofs.Common.{◌≡◌, ◌≤◌, ◌+◌, cond, length, sym, ap, ◌∙◌, subst, arith}
use Rattle.lar_lexer.specs.Lexed.{lexed_from}
use Rattle.lar_lexer.proofs.Counting.{Left, counts_on, none_left, if_counted}
use Rattle.lar_lexer.proofs.lexer.count.Goals as goal
use Rattle.lar_lexer.proofs.lexer.count.Goals.{then-is_token, else-is_token}

pub fronts-preserved : goal.fronts-preserved
fronts-preserved c =
    let n = c.fronts.n in
    let len = c.skim-len.result.0 in
    let is_token = c.skim-len.result.1 in
    let n_is : c.if-is_token.n ≡ cond is_token (n + 1) n = elim c.if-is_token.branch [
      | then-is_token w ↦ w.n-is ∙ sym (ap (λ t. cond t (n + 1) n) w.if-is_token.true)
      | else-is_token w ↦ w.n-is ∙ sym (ap (λ t. cond t (n + 1) n) w.if-is_token.false)
    ] in
    let least : c.if-is_token.n ≤ n + 1 = elim c.if-is_token.branch [ then-is_token w ↦ omega arith | else-is_token w ↦ omega arith ] in
    record {
      counted = λ file at tokens e. subst (λ m. Left file c.split_at.result.1.now m (length tokens)) (sym n_is)
          (subst (λ bs. Left file bs (cond is_token (n + 1) n) (length tokens)) (sym c.split_at.ensures.back)
          (counts_on file c.fronts.rest.now n (length tokens) len is_token c.skim-len.ensures.value (omega arith) c.skim-len.ensures.within (c.fronts.invariant.counted file at tokens e)));
      few = omega (arith, c.split_at.ensures.back_len);
    }

pub returns-then-len-eq0 : goal.returns-then-len-eq0
returns-then-len-eq0 c =
    λ file at. if_counted (lexed_from file 0 at c.args.text.now) c.fronts.n
    (λ tokens e. none_left file c.fronts.rest.now c.fronts.n (length tokens) c.skim-len.result.0 c.skim-len.result.1 c.skim-len.ensures.value c.if-len-eq0.true c.fronts-test.true (c.fronts.invariant.counted file at tokens e))

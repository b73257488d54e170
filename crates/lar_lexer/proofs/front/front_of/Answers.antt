use Rattle.std.proofs.Common.{◌≡◌, sym, subst, IfOk}
use Rattle.lar_lexer.proofs.Longest.{longest_first}
use Rattle.lar_lexer.proofs.front.front_of.Goals as goal

pub returns-clause-value : goal.returns-clause-value
returns-clause-value c = subst (λ x. IfOk c.front_by_first.result (λ f. f ≡ x)) (sym (longest_first c.args.text.now)) c.front_by_first.ensures.value

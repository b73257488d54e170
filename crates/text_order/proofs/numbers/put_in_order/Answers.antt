use Rattle.text_order.proofs.Same.{sorted_is}
use Rattle.text_order.proofs.numbers.put_in_order.Goals as goal

pub returns : goal.returns
returns c = sorted_is c.args.numbers.now.items c.sort_unstable.new.self.items c.sort_unstable.ensures.permutation c.sort_unstable.ensures.sorted

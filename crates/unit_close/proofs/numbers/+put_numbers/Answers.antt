use Rattle.std.proofs.Common.{rules, ◌≡◌, ◌∷◌, ◌++◌, []}
use Rattle.std.proofs.lemmas.Result.{on_ok_weaker}
use Rattle.unit_close.proofs.Numbered.{more_numbers}
use Rattle.unit_close.proofs.numbers.+put_numbers.Goals as goal

pub returns-in_ok-push-in-More : goal.returns-in_ok-push-in-More
returns-in_ok-push-in-More t c =
    let put : c.push.new.self.items ≡ c.args.out.now.items ++ c.number_at.result ∷ [] = search rules in
    on_ok_weaker c.put_numbers.result (λ h. more_numbers c.args.types.now c.args.list c.in-More.first c.in-More.others c.number_at.result c.args.out.now.items c.push.new.self.items c.put_numbers.new.out.items c.in-More.ensures.stands c.number_at.ensures put h) c.put_numbers.ensures

use Rattle.std.proofs.Common.{◌≡◌, ℕ, ◌++◌, ◌∙◌, List, length, take, drop, sym, ap, subst, arith}
use Rattle.std.specs.Prelude.{Vec}
use Rattle.std.specs.Global.{Global}
use Rattle.std.proofs.lemmas.List.{take_all, drop_all, append-nil}
use Rattle.cgu_partition.specs.Buckets.{AreHomes, AreNumbers}
use Rattle.cgu_partition.proofs.Numbered.{homes_are}
use Rattle.cgu_partition.proofs.buckets.homes_in_order.Goals as goal

written_back : (n : ℕ) (now items : List (Vec ℕ Global)) → n ≡ length items → length now ≡ length items → take n (now ++ drop (length now) items) ≡ now
written_back n now items e l = ap (λ (xs : List (Vec ℕ Global)). take n (now ++ xs)) (drop_all (length now) items (omega arith)) ∙ ap (take n) (append-nil now) ∙ take_all n now (omega arith)

pub returns : goal.returns
returns c =
    let len : length c.distribute.new.homes ≡ length c.in_ok-homes.homes.items = c.distribute.auto.homes ∙ ap length c.as_mut_slice.ensures.value in
    let numbers : AreNumbers c.args.firsts c.args.units.now c.as_slice.result.now = subst (AreNumbers c.args.firsts c.args.units.now) (sym c.as_slice.ensures.value) c.in_ok-numbers.ensures in
    subst (AreHomes c.args.order.now c.args.owners.now c.args.units.now) (sym (written_back c.in_ok-homes.homes.len c.distribute.new.homes c.in_ok-homes.homes.items c.in_ok-homes.homes.ok.0 len))
    (homes_are c.args.order.now c.args.owners.now c.args.units.now c.args.firsts c.as_slice.result.now c.requires.owners c.requires.shared numbers c.distribute.new.homes (len ∙ c.in_ok-homes.ensures.count) c.in_ok-distribute.ensures)

use Rattle.std.proofs.Common.{◌≡◌, ◌<◌, ℕ, List, length, map, ap, ◌∙◌, subst, sym}
use Rattle.std.specs.Prelude.{All}
use Rattle.text_order.specs.Sorted.{sorted}
use Rattle.text_order.specs.TextOrder.{text_at}
use Rattle.cgu_merge.specs.Merging.{name_of, plus}
use Rattle.cgu_merge.proofs.Written.{sorted_inside}
use Rattle.cgu_merge.proofs.units.with_name.Goals as goal

pub joined_names-requires : goal.joined_names-requires
joined_names-requires c = subst (λ (ps : List ℕ). All (λ p. p < length c.args.names.now) ps) (sym (c.as_slice.ensures.value ∙ c.put_in_order.ensures)) (sorted_inside (length c.args.names.now) c.args.firsts.items c.requires)

pub returns : goal.returns
unfolding name_of
returns c =
    let order : c.as_slice.result.now ≡ sorted c.args.firsts.items = c.as_slice.ensures.value ∙ c.put_in_order.ensures in
    let name : c.in_ok-name.name ≡ plus (map (text_at c.args.names.now) (sorted c.args.firsts.items)) = c.in_ok-name.ensures ∙ ap (λ (ps : List ℕ). plus (map (text_at c.args.names.now) ps)) order in
    ap (λ (n : List ℕ). record { name = n; size = c.args.size; firsts = c.put_in_order.new.numbers.items }) name ∙ ap (λ (ps : List ℕ). record { name = plus (map (text_at c.args.names.now) (sorted c.args.firsts.items)); size = c.args.size; firsts = ps }) c.put_in_order.ensures

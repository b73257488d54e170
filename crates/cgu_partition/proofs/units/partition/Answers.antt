use Rattle.std.proofs.Common.{rules, ◌≡◌, ◌<◌, ℕ, List, length, map, ap, ◌∙◌, subst, sym}
use Rattle.std.specs.Prelude.{All}
use Rattle.std.specs.List.{AllByRecursion}
use Rattle.std.proofs.lemmas.Result.{IfOk-weaker}
use Rattle.text_order.specs.TextOrder.{AreApart, text_order}
use Rattle.cgu_merge.specs.Ranked.{AreNames, finished, named_view}
use Rattle.cgu_merge.specs.Merging.{merged_units}
use Rattle.mono_items.specs.declared.items.MonoItem.{MonoItem}
use Rattle.mono_items.specs.Homes.{first_names, home_size}
use Rattle.mono_items.specs.Units.{homeless, symbols_of, AreUnits}
use Rattle.cgu_partition.specs.Owners.{AreOwners}
use Rattle.cgu_partition.proofs.Named.{names_are, names_apart}
use Rattle.cgu_partition.proofs.Partitioned.{places_are, firsts_inside, units_are, placed_same}
use Rattle.std.proofs.lemmas.List.{length-map}
use Rattle.cgu_partition.proofs.Shared.{shared_are}
use Rattle.cgu_partition.proofs.units.partition.Goals as goal

pub home_sizes-requires-clause-apart : goal.home_sizes-requires-clause-apart
home_sizes-requires-clause-apart c = subst AreApart (sym (c.as_slice-3.ensures.value ∙ c.in_ok-names.ensures)) (names_apart c.as_slice-items.result.now)

pub merge-requires-clause-names : goal.merge-requires-clause-names
merge-requires-clause-names c = subst AreNames (sym (c.as_slice-5.ensures.value ∙ c.in_ok-names.ensures)) (names_are c.as_slice-items.result.now (subst (λ (xs : List MonoItem). All (λ x. AllByRecursion (λ b. 43 < b) x.place) xs) (sym c.as_slice-items.ensures.value) c.requires.graph.places))

pub plans_of-requires-clause-places : goal.plans_of-requires-clause-places
plans_of-requires-clause-places c =
    let names : c.in_ok-names.names.items ≡ first_names c.args.graph.now.items.items = c.in_ok-names.ensures ∙ ap first_names c.as_slice-items.ensures.value in
    let order : c.as_slice-7.result.now ≡ text_order (symbols_of c.args.typed.now c.args.graph.now.items.items) = c.as_slice-7.ensures.value ∙ c.in_ok-order.ensures ∙ ap text_order (c.as_slice.ensures.value ∙ c.in_ok-symbols.ensures ∙ ap (λ (xs : List MonoItem). symbols_of c.args.typed.now xs) c.as_slice-items.ensures.value) in
    let free : c.as_slice-9.result.now ≡ homeless c.args.graph.now.items.items = c.as_slice-9.ensures.value ∙ c.in_ok-homeless.ensures ∙ ap homeless c.as_slice-items.ensures.value in
    let owns : AreOwners (first_names c.args.graph.now.items.items) c.args.graph.now.items.items c.in_ok-owners.owners.items = subst (λ (xs : List MonoItem). AreOwners (first_names c.args.graph.now.items.items) xs c.in_ok-owners.owners.items) c.as_slice-items.ensures.value (subst (λ (ns : List (List ℕ)). AreOwners ns c.as_slice-items.result.now c.in_ok-owners.owners.items) (c.as_slice-2.ensures.value ∙ names) c.in_ok-owners.ensures) in
    let count : c.len.result ≡ length c.in_ok-names.names.items = search rules in
    let len : c.len.result ≡ length (first_names c.args.graph.now.items.items) = count ∙ ap length names in
    rw (free, order, c.as_slice-8.ensures.value, c.as_slice-10.ensures.value, len) (places_are c.args.typed.now c.args.graph.now c.requires.graph c.in_ok-owners.owners.items owns)

pub plans_of-requires-clause-firsts : goal.plans_of-requires-clause-firsts
plans_of-requires-clause-firsts c =
    let names : c.in_ok-names.names.items ≡ first_names c.args.graph.now.items.items = c.in_ok-names.ensures ∙ ap first_names c.as_slice-items.ensures.value in
    let count : c.len.result ≡ length c.in_ok-names.names.items = search rules in
    let len : c.len.result ≡ length (first_names c.args.graph.now.items.items) = count ∙ ap length names in
    let sizes : c.in_ok-sizes.sizes.items ≡ map (home_size c.args.graph.now.items.items) (first_names c.args.graph.now.items.items) = c.in_ok-sizes.ensures.sizes ∙ ap (λ (xs : List MonoItem). map (home_size xs) c.as_slice-3.result.now) c.as_slice-items.ensures.value ∙ ap (λ (ns : List (List ℕ)). map (home_size c.args.graph.now.items.items) ns) (c.as_slice-3.ensures.value ∙ names) in
    let merged : map named_view c.in_ok-units.units.items ≡ map (finished (first_names c.args.graph.now.items.items)) (merged_units (first_names c.args.graph.now.items.items) c.in_ok-sizes.sizes.items c.from.result) = c.in_ok-units.ensures ∙ ap (λ (ns : List (List ℕ)). map (finished ns) (merged_units ns c.as_slice-6.result.now c.from.result)) (c.as_slice-5.ensures.value ∙ names) ∙ ap (λ (ss : List ℕ). map (finished (first_names c.args.graph.now.items.items)) (merged_units (first_names c.args.graph.now.items.items) ss c.from.result)) c.as_slice-6.ensures.value in
    rw (c.as_slice-11.ensures.value, len) (firsts_inside c.args.typed.now c.args.graph.now c.requires.graph c.from.result c.in_ok-sizes.sizes.items sizes c.in_ok-units.units.items merged)

pub plans_of-requires-clause-shared : goal.plans_of-requires-clause-shared
plans_of-requires-clause-shared c =
    let names : c.in_ok-names.names.items ≡ first_names c.args.graph.now.items.items = c.in_ok-names.ensures ∙ ap first_names c.as_slice-items.ensures.value in
    let count : c.len.result ≡ length c.in_ok-names.names.items = search rules in
    let len : c.len.result ≡ length (first_names c.args.graph.now.items.items) = count ∙ ap length names in
    let sizes : c.in_ok-sizes.sizes.items ≡ map (home_size c.args.graph.now.items.items) (first_names c.args.graph.now.items.items) = c.in_ok-sizes.ensures.sizes ∙ ap (λ (xs : List MonoItem). map (home_size xs) c.as_slice-3.result.now) c.as_slice-items.ensures.value ∙ ap (λ (ns : List (List ℕ)). map (home_size c.args.graph.now.items.items) ns) (c.as_slice-3.ensures.value ∙ names) in
    let merged : map named_view c.in_ok-units.units.items ≡ map (finished (first_names c.args.graph.now.items.items)) (merged_units (first_names c.args.graph.now.items.items) c.in_ok-sizes.sizes.items c.from.result) = c.in_ok-units.ensures ∙ ap (λ (ns : List (List ℕ)). map (finished ns) (merged_units ns c.as_slice-6.result.now c.from.result)) (c.as_slice-5.ensures.value ∙ names) ∙ ap (λ (ss : List ℕ). map (finished (first_names c.args.graph.now.items.items)) (merged_units (first_names c.args.graph.now.items.items) ss c.from.result)) c.as_slice-6.ensures.value in
    rw (c.as_slice-11.ensures.value) (shared_are (first_names c.args.graph.now.items.items) c.in_ok-sizes.sizes.items c.from.result c.in_ok-units.units.items c.len.result (ap length sizes ∙ length-map (first_names c.args.graph.now.items.items) (home_size c.args.graph.now.items.items)) len merged)

pub returns : goal.returns
returns c =
    let names : c.in_ok-names.names.items ≡ first_names c.args.graph.now.items.items = c.in_ok-names.ensures ∙ ap first_names c.as_slice-items.ensures.value in
    let order : c.as_slice-7.result.now ≡ text_order (symbols_of c.args.typed.now c.args.graph.now.items.items) = c.as_slice-7.ensures.value ∙ c.in_ok-order.ensures ∙ ap text_order (c.as_slice.ensures.value ∙ c.in_ok-symbols.ensures ∙ ap (λ (xs : List MonoItem). symbols_of c.args.typed.now xs) c.as_slice-items.ensures.value) in
    let free : c.as_slice-9.result.now ≡ homeless c.args.graph.now.items.items = c.as_slice-9.ensures.value ∙ c.in_ok-homeless.ensures ∙ ap homeless c.as_slice-items.ensures.value in
    let owns : AreOwners (first_names c.args.graph.now.items.items) c.args.graph.now.items.items c.in_ok-owners.owners.items = subst (λ (xs : List MonoItem). AreOwners (first_names c.args.graph.now.items.items) xs c.in_ok-owners.owners.items) c.as_slice-items.ensures.value (subst (λ (ns : List (List ℕ)). AreOwners ns c.as_slice-items.result.now c.in_ok-owners.owners.items) (c.as_slice-2.ensures.value ∙ names) c.in_ok-owners.ensures) in
    let sizes : c.in_ok-sizes.sizes.items ≡ map (home_size c.args.graph.now.items.items) (first_names c.args.graph.now.items.items) = c.in_ok-sizes.ensures.sizes ∙ ap (λ (xs : List MonoItem). map (home_size xs) c.as_slice-3.result.now) c.as_slice-items.ensures.value ∙ ap (λ (ns : List (List ℕ)). map (home_size c.args.graph.now.items.items) ns) (c.as_slice-3.ensures.value ∙ names) in
    let merged : map named_view c.in_ok-units.units.items ≡ map (finished (first_names c.args.graph.now.items.items)) (merged_units (first_names c.args.graph.now.items.items) c.in_ok-sizes.sizes.items c.from.result) = c.in_ok-units.ensures ∙ ap (λ (ns : List (List ℕ)). map (finished ns) (merged_units ns c.as_slice-6.result.now c.from.result)) (c.as_slice-5.ensures.value ∙ names) ∙ ap (λ (ss : List ℕ). map (finished (first_names c.args.graph.now.items.items)) (merged_units (first_names c.args.graph.now.items.items) ss c.from.result)) c.as_slice-6.ensures.value in
    IfOk-weaker c.plans_of.result _ _ (λ plans h. subst (λ (n : ℕ). AreUnits c.args.typed.now c.args.graph.now n plans.items) c.from.ensures (units_are c.args.typed.now c.args.graph.now c.requires.graph c.from.result c.in_ok-sizes.sizes.items sizes c.in_ok-units.units.items merged c.in_ok-owners.owners.items owns plans.items (placed_same _ _ _ _ _ _ _ _ _ _ plans.items order c.as_slice-8.ensures.value free c.as_slice-10.ensures.value c.as_slice-11.ensures.value h))) c.plans_of.ensures

use Rattle.std.proofs.Common.{get_or, length, refl, sym, subst, ℕ, List, ◌≤◌}
use Rattle.std.specs.List.{AllByRecursion}
use Rattle.unit_close.specs.Measures.{IsRow}
use Rattle.unit_close.proofs.Offsets.{few_widths}
use Rattle.unit_close.proofs.Itemised.{measure_of, widths_made, known_facts, row_moved, rows_moved, item_made}
use Rattle.unit_close.proofs.items.Closing.know_item.Goals as goal

pub list_widths-requires-clause-measure : goal.list_widths-requires-clause-measure
list_widths-requires-clause-measure c = measure_of _ c.args.self.now.tree.now c.functions.ensures.facts c.types.ensures.rows c.structs.ensures.structs (c.requires.closing).forms

pub list_widths-requires-clause-list : goal.list_widths-requires-clause-list
list_widths-requires-clause-list c = row_moved c.args.self.now.tree.now c.types.result.now _ c.types.ensures.rows (known_facts c.args.self.now c.args.place c.len.result c.index-self-place.result c.functions.result.now c.index-functions-instance.result c.functions.ensures.facts c.requires.closing c.requires.place c.functions.ensures.functions c.index-functions-instance.is c.len.ensures c.in_ok-short_enough.ensures).row

pub locals_width-params-requires-clause-measure : goal.locals_width-params-requires-clause-measure
locals_width-params-requires-clause-measure c = measure_of _ c.args.self.now.tree.now c.functions.ensures.facts c.types.ensures.rows c.structs.ensures.structs (c.requires.closing).forms

pub locals_width-params-requires-clause-few : goal.locals_width-params-requires-clause-few
locals_width-params-requires-clause-few c = few_widths _ _ _ _ _ _ (known_facts c.args.self.now c.args.place c.len.result c.index-self-place.result c.functions.result.now c.index-functions-instance.result c.functions.ensures.facts c.requires.closing c.requires.place c.functions.ensures.functions c.index-functions-instance.is c.len.ensures c.in_ok-short_enough.ensures).few refl (widths_made c.args.self.now.tree.now c.types.result.now c.structs.result.now (get_or c.args.self.now.items.now c.args.place c.index-self-place.result).instance.arguments c.in_ok-widths.widths.items c.as_slice-widths.result.now c.types.ensures.rows c.structs.ensures.structs c.as_slice-widths.ensures.value c.in_ok-widths.ensures)

pub locals_width-params-requires-clause-rows : goal.locals_width-params-requires-clause-rows
locals_width-params-requires-clause-rows c = subst (λ (ls : List ℕ). AllByRecursion (IsRow c.types.result.now) ls) (sym c.as_slice.ensures) (rows_moved c.args.self.now.tree.now c.types.result.now _ c.types.ensures.rows (known_facts c.args.self.now c.args.place c.len.result c.index-self-place.result c.functions.result.now c.index-functions-instance.result c.functions.ensures.facts c.requires.closing c.requires.place c.functions.ensures.functions c.index-functions-instance.is c.len.ensures c.in_ok-short_enough.ensures).locals)

pub locals_width-params-requires-clause-count : goal.locals_width-params-requires-clause-count
locals_width-params-requires-clause-count c = subst (λ (ls : List ℕ). c.index-functions-instance.result.params ≤ length ls) (sym c.as_slice.ensures) (known_facts c.args.self.now c.args.place c.len.result c.index-self-place.result c.functions.result.now c.index-functions-instance.result c.functions.ensures.facts c.requires.closing c.requires.place c.functions.ensures.functions c.index-functions-instance.is c.len.ensures c.in_ok-short_enough.ensures).params

pub width-result-requires-clause-measure : goal.width-result-requires-clause-measure
width-result-requires-clause-measure c = measure_of _ c.args.self.now.tree.now c.functions.ensures.facts c.types.ensures.rows c.structs.ensures.structs (c.requires.closing).forms

pub width-result-requires-clause-few : goal.width-result-requires-clause-few
width-result-requires-clause-few c = few_widths _ _ _ _ _ _ (known_facts c.args.self.now c.args.place c.len.result c.index-self-place.result c.functions.result.now c.index-functions-instance.result c.functions.ensures.facts c.requires.closing c.requires.place c.functions.ensures.functions c.index-functions-instance.is c.len.ensures c.in_ok-short_enough.ensures).few refl (widths_made c.args.self.now.tree.now c.types.result.now c.structs.result.now (get_or c.args.self.now.items.now c.args.place c.index-self-place.result).instance.arguments c.in_ok-widths.widths.items c.as_slice-widths.result.now c.types.ensures.rows c.structs.ensures.structs c.as_slice-widths.ensures.value c.in_ok-widths.ensures)

pub width-result-requires-clause-row : goal.width-result-requires-clause-row
width-result-requires-clause-row c = row_moved c.args.self.now.tree.now c.types.result.now _ c.types.ensures.rows (known_facts c.args.self.now c.args.place c.len.result c.index-self-place.result c.functions.result.now c.index-functions-instance.result c.functions.ensures.facts c.requires.closing c.requires.place c.functions.ensures.functions c.index-functions-instance.is c.len.ensures c.in_ok-short_enough.ensures).outcome

pub returns-clause-is : goal.returns-clause-is
returns-clause-is c = item_made c.args.self.now c.args.place _ c.index-functions-instance.result c.types.result.now c.structs.result.now c.as_slice-widths.result.now c.as_slice.result.now c.in_ok-symbol.symbol c.locals_width-params.result c.width-result.result (known_facts c.args.self.now c.args.place c.len.result c.index-self-place.result c.functions.result.now c.index-functions-instance.result c.functions.ensures.facts c.requires.closing c.requires.place c.functions.ensures.functions c.index-functions-instance.is c.len.ensures c.in_ok-short_enough.ensures) c.types.ensures.rows c.structs.ensures.structs (widths_made c.args.self.now.tree.now c.types.result.now c.structs.result.now (get_or c.args.self.now.items.now c.args.place c.index-self-place.result).instance.arguments c.in_ok-widths.widths.items c.as_slice-widths.result.now c.types.ensures.rows c.structs.ensures.structs c.as_slice-widths.ensures.value c.in_ok-widths.ensures) c.as_slice.ensures c.in_ok-symbol.ensures c.locals_width-params.ensures c.width-result.ensures

use Rattle.std.proofs.Common.{List, get_or, refl, sym, subst}
use Rattle.std.proofs.lemmas.Result.{IfOk-weaker}
use Rattle.type_table.specs.declared.row.Row.{Row}
use Rattle.lar_typed.specs.TreeView.{function_view}
use Rattle.unit_close.specs.Measures.{IsRow}
use Rattle.unit_close.specs.Sight.{Sight}
use Rattle.unit_close.specs.Functions.{FnReady}
use Rattle.unit_close.proofs.Offsets.{few_widths}
use Rattle.unit_close.proofs.Itemised.{measure_of, item_facts, sight_same, widths_made, numbers_made, function_made}
use Rattle.unit_close.proofs.items.Closing.close_item.Goals as goal

pub list_widths-requires-clause-measure : goal.list_widths-requires-clause-measure
list_widths-requires-clause-measure c = (measure_of _ c.args.self.now.tree.now c.functions.ensures.facts c.types.ensures.rows c.structs.ensures.structs (c.requires.closing).forms)

pub list_widths-requires-clause-list : goal.list_widths-requires-clause-list
list_widths-requires-clause-list c = subst (λ (rows : List Row). IsRow rows (get_or c.args.self.now.items.now c.args.place c.index-self-place.result).instance.arguments) (sym c.types.ensures.rows) (item_facts c.args.self.now c.args.place c.len.result c.index-self-place.result c.functions.result.now c.index-functions-instance.result c.args.calls.now c.functions.ensures.facts c.requires.closing c.requires.place c.functions.ensures.functions c.index-functions-instance.is c.requires.calls c.len.ensures c.in_ok-short_enough.ensures).row

pub close_function-requires-clause-around : goal.close_function-requires-clause-around
close_function-requires-clause-around c = record { measure = (measure_of _ c.args.self.now.tree.now c.functions.ensures.facts c.types.ensures.rows c.structs.ensures.structs (c.requires.closing).forms); few = few_widths _ _ _ _ _ _ (item_facts c.args.self.now c.args.place c.len.result c.index-self-place.result c.functions.result.now c.index-functions-instance.result c.args.calls.now c.functions.ensures.facts c.requires.closing c.requires.place c.functions.ensures.functions c.index-functions-instance.is c.requires.calls c.len.ensures c.in_ok-short_enough.ensures).few refl (widths_made c.args.self.now.tree.now c.types.result.now c.structs.result.now (get_or c.args.self.now.items.now c.args.place c.index-self-place.result).instance.arguments c.in_ok-widths.widths.items c.as_slice.result.now c.types.ensures.rows c.structs.ensures.structs c.as_slice.ensures.value c.in_ok-widths.ensures) }

pub close_function-requires-clause-ready : goal.close_function-requires-clause-ready
close_function-requires-clause-ready c = subst (λ (x : Sight). FnReady x (function_view c.index-functions-instance.result)) (sym (sight_same c.args.self.now.tree.now c.index-functions-instance.result.locals _ c.args.calls.now _ c.types.result.now c.structs.result.now c.consts.result.now c.as_slice.result.now c.as_slice-3.result.now c.args.calls.now c.as_slice-2.result.now c.types.ensures.rows c.structs.ensures.structs c.consts.ensures.consts (widths_made c.args.self.now.tree.now c.types.result.now c.structs.result.now (get_or c.args.self.now.items.now c.args.place c.index-self-place.result).instance.arguments c.in_ok-widths.widths.items c.as_slice.result.now c.types.ensures.rows c.structs.ensures.structs c.as_slice.ensures.value c.in_ok-widths.ensures) (numbers_made c.args.self.now.tree.now c.types.result.now (get_or c.args.self.now.items.now c.args.place c.index-self-place.result).instance.arguments c.in_ok-numbers.numbers.items c.as_slice-2.result.now c.types.ensures.rows c.as_slice-2.ensures.value c.in_ok-numbers.ensures) c.as_slice-3.ensures refl)) ((item_facts c.args.self.now c.args.place c.len.result c.index-self-place.result c.functions.result.now c.index-functions-instance.result c.args.calls.now c.functions.ensures.facts c.requires.closing c.requires.place c.functions.ensures.functions c.index-functions-instance.is c.requires.calls c.len.ensures c.in_ok-short_enough.ensures).closes).ready

pub returns-clause-is : goal.returns-clause-is
returns-clause-is c = IfOk-weaker c.close_function.result _ _ (λ f h. function_made _ _ c.args.self.now c.args.place _ c.index-functions-instance.result c.args.calls.now _ c.args.external _ refl (item_facts c.args.self.now c.args.place c.len.result c.index-self-place.result c.functions.result.now c.index-functions-instance.result c.args.calls.now c.functions.ensures.facts c.requires.closing c.requires.place c.functions.ensures.functions c.index-functions-instance.is c.requires.calls c.len.ensures c.in_ok-short_enough.ensures) (sight_same c.args.self.now.tree.now c.index-functions-instance.result.locals _ c.args.calls.now _ c.types.result.now c.structs.result.now c.consts.result.now c.as_slice.result.now c.as_slice-3.result.now c.args.calls.now c.as_slice-2.result.now c.types.ensures.rows c.structs.ensures.structs c.consts.ensures.consts (widths_made c.args.self.now.tree.now c.types.result.now c.structs.result.now (get_or c.args.self.now.items.now c.args.place c.index-self-place.result).instance.arguments c.in_ok-widths.widths.items c.as_slice.result.now c.types.ensures.rows c.structs.ensures.structs c.as_slice.ensures.value c.in_ok-widths.ensures) (numbers_made c.args.self.now.tree.now c.types.result.now (get_or c.args.self.now.items.now c.args.place c.index-self-place.result).instance.arguments c.in_ok-numbers.numbers.items c.as_slice-2.result.now c.types.ensures.rows c.as_slice-2.ensures.value c.in_ok-numbers.ensures) c.as_slice-3.ensures refl) c.in_ok-symbol.ensures h) c.close_function.ensures.is

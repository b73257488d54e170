use Rattle.std.proofs.Common.{◌≡◌, ◌<◌, ◌≤◌, length, sym, ap, ◌∙◌, rules}
use Rattle.std.specs.Prelude.{Some, None, slice_get}
use Rattle.std.proofs.lemmas.Option.{slice_get-get_or, slice_get_past}
use Rattle.lar_rules.specs.Faults.{max_functions}
use Rattle.lar_names.proofs.IndexFacts.{past_told, none_past}
use Rattle.lar_names.proofs.index.Index.past_limit.Goals as goal

pub returns-in_ok-note_count : goal.returns-in_ok-note_count
returns-in_ok-note_count c = λ lists ds index.
    let fs = c.args.self.now.functions.items in
    let bound : max_functions < length c.deref.result.now = search rules in
    let there : slice_get fs max_functions ≡ Some c.in-Some.item.now =
    ap (λ xs. slice_get xs max_functions) (sym c.deref.ensures.value) ∙ (slice_get-get_or c.deref.result.now max_functions c.in-Some.item.now bound ∙ ap Some (sym c.in-Some.ensures.lookup.1)) in
    past_told lists ds c.args.self.now.structs.items c.args.self.now.consts.items fs c.args.self.now.known.maps.items max_functions c.args.first.now c.note_count.new.self c.in-Some.item.now there c.in_ok-note_count.ensures.ok index

pub returns-in_default : goal.returns-in_default
returns-in_default c = λ lists ds index.
    let fs = c.args.self.now.functions.items in
    let past : length c.deref.result.now ≤ max_functions = search rules in
    let there : slice_get fs max_functions ≡ None = ap (λ xs. slice_get xs max_functions) (sym c.deref.ensures.value) ∙ slice_get_past c.deref.result.now max_functions past in
    none_past lists ds c.args.self.now.structs.items c.args.self.now.consts.items fs c.args.self.now.known.maps.items max_functions c.args.first.now there index

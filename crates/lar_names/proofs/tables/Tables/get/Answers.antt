use Rattle.std.proofs.Common.{◌<◌, ◌≤◌, length, sym, ◌∙◌, ap, rules}
use Rattle.lar_names.specs.Tables.{look}
use Rattle.lar_names.proofs.Looks.{look_past, look_at}
use Rattle.lar_names.proofs.tables.Tables.get.Goals as goal

pub returns-in-Some : goal.returns-in-Some
returns-in-Some g c =
    let within : c.args.scope < length c.deref.result.now = search rules in
    c.copied.ensures ∙ (c.get-in-Some.ensures.value ∙ (sym (look_at c.deref.result.now c.args.scope c.args.name.now c.in-Some.map.now within c.in-Some.ensures.lookup.1) ∙ ap (λ ms. look ms c.args.scope c.args.name.now) c.deref.ensures.value))

pub returns-in-None : goal.returns-in-None
returns-in-None g c =
    let past : length c.deref.result.now ≤ c.args.scope = search rules in
    sym (ap (λ ms. look ms c.args.scope c.args.name.now) (sym c.deref.ensures.value) ∙ look_past c.deref.result.now c.args.scope c.args.name.now past)

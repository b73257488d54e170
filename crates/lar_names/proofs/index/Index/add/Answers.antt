use Rattle.std.proofs.Common.{◌≡◌, length, ap, ◌∙◌, subst}
use Rattle.std.proofs.lemmas.Result.{on_ok_weaker}
use Rattle.std.specs.Option.{option_flatten}
use Rattle.lar_names.specs.Declarations.{what_name}
use Rattle.lar_names.specs.Entries.{first_meaning}
use Rattle.lar_names.specs.Tables.{look, IsPut}
use Rattle.lar_names.proofs.IndexFacts.{index_push}
use Rattle.lar_names.proofs.index.Index.add.Goals as goal

pub returns-clause-index : goal.returns-clause-index
returns-clause-index c =
    let d = c.args.d.now in
    let old = c.args.self.now in
    let same = c.number.ensures.known in
    let name : c.as_str.result.now ≡ (what_name d.what).text = c.as_str.ensures.text ∙ ap (λ n. n.text) c.name-name.ensures in
    let name2 : c.as_str-2.result.now ≡ (what_name d.what).text = c.as_str-2.ensures.text ∙ ap (λ n. n.text) c.name-name.ensures in
    let value = c.kept-meaning.ensures
    ∙ (ap (λ o. first_meaning (option_flatten o) d.hidden c.in_ok-number.field-0) (c.get-known.ensures ∙ ap (look old.known.maps.items d.scope) name)
    ∙ ap (first_meaning (option_flatten (look old.known.maps.items d.scope (what_name d.what).text)) d.hidden) c.in_ok-number.ensures.meaning) in
    on_ok_weaker c.put.result (λ put ds index.
    index_push c.args.scopes.now ds d old.structs.items c.number.new.self.structs.items old.consts.items c.number.new.self.consts.items old.functions.items c.number.new.self.functions.items old.known.maps.items c.put.new.self.maps.items c.kept-meaning.result
    index c.requires.scope c.in_ok-number.ensures.structs c.in_ok-number.ensures.consts c.in_ok-number.ensures.functions
    (c.put.ensures.count ∙ ap (λ t. length t.maps.items) same)
    (subst (λ n. IsPut old.known.maps.items c.put.new.self.maps.items d.scope n c.kept-meaning.result) name2 (subst (λ t. IsPut t.maps.items c.put.new.self.maps.items d.scope c.as_str-2.result.now c.kept-meaning.result) same put))
    value) c.put.ensures.ok

use Rattle.std.proofs.Common.{◌≡◌, ◌<◌, ◌++◌, ◌∷◌, [], length, ap, sym, ◌∙◌, subst, arith}
use Rattle.std.specs.Prelude.{None}
use Rattle.lar_names.specs.Scopes.{list_at, number_of, within}
use Rattle.lar_names.specs.ScopeLists.{lists, AreInner}
use Rattle.lar_names.specs.Tables.{IsPut}
use Rattle.lar_names.proofs.ScopeFacts.{lists_of_push, inner_push, inner_open}
use Rattle.lar_names.proofs.scopes.Scopes.push.Goals as goal

pub invariant_of-self-2 : goal.invariant_of-self-2
invariant_of-self-2 c =
    let ls = lists c.self.inside.places.items in
    let view = c.self.view_is in
    let bound : c.args.parent < length ls = subst (λ xs. c.args.parent < length xs) (sym view) c.requires.parent in
    let gone : number_of (within (list_at ls c.args.parent) c.args.name.now) ls ≡ None = subst (λ xs. number_of (within (list_at xs c.args.parent) c.args.name.now) xs ≡ None) (sym view) c.requires.new in
    let opened = inner_open ls c.self.inside.inner.maps.items c.open.new.self.maps.items c.self.invariant c.in_ok-open.ensures.count c.open.ensures.look in
    let number : c.len-number.result ≡ length ls = c.len-number.ensures.len ∙ ap length (sym view) in
    let put : IsPut c.open.new.self.maps.items c.put.new.self.maps.items c.args.parent c.args.name.now (length ls) = subst (λ n. IsPut c.open.new.self.maps.items c.put.new.self.maps.items c.args.parent c.args.name.now n) number c.in_ok-put.ensures.ok in
    let more : length ls < length c.put.new.self.maps.items = (let a = c.put.ensures.count in let b = c.in_ok-open.ensures.count in let d = c.self.invariant.counted in omega (arith, a, b, d)) in
    let inner = inner_push ls c.args.parent c.args.name.now c.open.new.self.maps.items c.put.new.self.maps.items opened bound gone put more in
    subst (λ xs. AreInner xs c.put.new.self.maps.items) (sym (lists_of_push c.self.inside.places.items c.push.new.self.items c.args.parent c.in_ok-copied.field-0 c.args.name.now (c.in_ok-push.ensures.items ∙ ap (λ xs. xs ++ record { parent = c.args.parent; name = c.in_ok-copied.field-0 } ∷ []) c.in_ok-reserve.ensures.items) c.in_ok-copied.ensures)) inner

pub returns-clause-ok : goal.returns-clause-ok
returns-clause-ok c =
    lists_of_push c.self.inside.places.items c.push.new.self.items c.args.parent c.in_ok-copied.field-0 c.args.name.now (c.in_ok-push.ensures.items ∙ ap (λ xs. xs ++ record { parent = c.args.parent; name = c.in_ok-copied.field-0 } ∷ []) c.in_ok-reserve.ensures.items) c.in_ok-copied.ensures
    ∙ ap (λ xs. xs ++ within (list_at xs c.args.parent) c.args.name.now ∷ []) c.self.view_is

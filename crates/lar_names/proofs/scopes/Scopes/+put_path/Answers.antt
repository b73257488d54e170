use Rattle.std.proofs.Common.{◌≡◌, ◌<◌, ◌≤◌, ◌-◌, ◌++◌, codes, suc, length, ap, sym, ◌∙◌, subst, arith}
use Rattle.lar_rules.specs.Printed.{joined}
use Rattle.lar_names.specs.Scopes.{AreScopes, list_at}
use Rattle.lar_names.proofs.ScopeFacts.{root_is, lists_counted}
use Rattle.lar_names.proofs.PathFacts.{path_beyond, path_alone, path_below, put_none, put_name, put_below, ascii_below}
use Rattle.lar_names.proofs.scopes.Scopes.+put_path.Goals as goal
use Rattle.lar_names.proofs.scopes.Scopes.+put_path.Goals.{then-scope-eq0-via-then-scope-eq0, then-scope-eq0-via-else-scope-eq0+then-scope-len, then-place-eq0-via-then-place-eq0, then-place-eq0-via-else-place-eq0+then-place-scope}

pub returns-then-scope-eq0-clause-bytes : goal.returns-then-scope-eq0-clause-bytes
returns-then-scope-eq0-clause-bytes t c =
    elim c.then-scope-eq0.branch [
      | then-scope-eq0-via-then-scope-eq0 w ↦ put_none _ _ (ap (λ k. joined (list_at c.args.self.now k)) w.if-scope-eq0.true ∙ ap joined (root_is c.args.self.now (subst AreScopes c.self.view_is c.self.invariant.scopes)).1)
      | then-scope-eq0-via-else-scope-eq0+then-scope-len w ↦ put_none _ _ (path_beyond c.args.self.now c.args.scope (let a = lists_counted c.self.inside.places.items in let b = ap length c.self.view_is in omega (arith, a, b, w.len.ensures, w.if-scope-len.true)))
    ]

pub returns-then-place-eq0-clause-bytes : goal.returns-then-place-eq0-clause-bytes
returns-then-place-eq0-clause-bytes t c =
    let ps = c.self.inside.places.items in
    let some : c.args.scope ≡ suc (c.args.scope - 1) = (let h : c.args.scope ≡ 0 → ⊥ = c.if-scope-eq0.false in omega arith) in
    let within : c.args.scope - 1 < length ps = (let a = c.len.ensures in omega (arith, a, c.if-scope-len.false, some)) in
    let other : 0 < c.index-place.result.now.parent → c.args.scope ≤ c.index-place.result.now.parent = (elim c.then-place-eq0.branch [
      | then-place-eq0-via-then-place-eq0 w ↦ λ h. (let e = w.if-place-eq0.true in absurd (omega (arith, e, h)))
      | then-place-eq0-via-else-place-eq0+then-place-scope w ↦ λ h. w.if-place-scope.true
    ]) in
    put_name _ _ _ _ _ c.in_ok-push_str.ensures.bytes c.as_str.ensures.text
    (ap (λ ls. joined (list_at ls c.args.scope)) (sym c.self.view_is) ∙ path_alone ps c.args.scope (c.args.scope - 1) c.index-place.result.now c.self.invariant.scopes some within c.index-place.ensures other)

pub returns-clause-bytes : goal.returns-clause-bytes
returns-clause-bytes t c =
    let ps = c.self.inside.places.items in
    let some : c.args.scope ≡ suc (c.args.scope - 1) = (let h : c.args.scope ≡ 0 → ⊥ = c.if-scope-eq0.false in omega arith) in
    let within : c.args.scope - 1 < length ps = (let a = c.len.ensures in omega (arith, a, c.if-scope-len.false, some)) in
    let inner : 0 < c.index-place.result.now.parent = (let h : c.index-place.result.now.parent ≡ 0 → ⊥ = c.if-place-eq0.false in omega arith) in
    put_below _ _ _ _ _ _ _ _ c.in_ok-put_path.ensures.bytes c.in_ok-push_str-2.ensures.bytes c.in_ok-push_str-3.ensures.bytes c.as_str-2.ensures.text
    (ap (λ ls. joined (list_at ls c.args.scope)) (sym c.self.view_is)
    ∙ path_below ps c.args.scope (c.args.scope - 1) c.index-place.result.now c.self.invariant.scopes some within (lists_counted ps) c.index-place.ensures inner c.if-place-scope.false
    ∙ ap (λ ls. joined (list_at ls c.index-place.result.now.parent) ++ (codes "::" ++ c.index-place.result.now.name)) c.self.view_is)

pub returns-clause-ascii : goal.returns-clause-ascii
returns-clause-ascii t c = ascii_below _ _ _ _ _ c.in_ok-put_path.ensures.ascii c.in_ok-push_str-2.ensures.bytes c.in_ok-push_str-3.ensures.bytes c.as_str-2.ensures.ascii

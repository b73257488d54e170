use Rattle.std.proofs.Common.{◌≡◌, ◌∙◌, [], ◌∷◌, ◌++◌, List, ℕ, length, cond, Some, rules, subst, ap}
use Rattle.std.specs.BTreeMap.{get_by_text}
use Rattle.std.specs.Str.{bytes_eq}
use Rattle.lar_judge.proofs.Indexed.{declared}
use Rattle.lar_judge.proofs.locals.Locals.declare.Goals as goal

pub invariant_of-self-2 : goal.invariant_of-self-2
invariant_of-self-2 c =
    let name : c.as_str-name.result.now ≡ c.args.local.name.now = c.as_str-name.ensures.text in
    let a : c.push.new.self.items ≡ c.self.inside.locals.items ++ c.args.local ∷ [] = search rules in
    let b : c.push-2.new.self.items ≡ c.self.inside.hidden.items ++ c.get-hidden.result ∷ [] = search rules in
    let place : c.len.result ≡ length c.self.inside.locals.items = search rules in
    rw (a, b) (declared c.self.inside.locals.items c.self.inside.hidden.items (get_by_text c.self.inside.innermost.known) (get_by_text c.put.new.self.known) c.args.local c.get-hidden.result c.self.invariant
    (c.get-hidden.ensures ∙ ap (get_by_text c.self.inside.innermost.known) name)
    (subst (λ (n : List ℕ). (q : List ℕ) → get_by_text c.put.new.self.known q ≡ cond (bytes_eq n q) (Some (length c.self.inside.locals.items)) (get_by_text c.self.inside.innermost.known q)) name
    (subst (λ (k : ℕ). (q : List ℕ) → get_by_text c.put.new.self.known q ≡ cond (bytes_eq c.as_str-name.result.now q) (Some k) (get_by_text c.self.inside.innermost.known q)) place (c.in_ok-put.ensures.ok))))

use Rattle.std.proofs.Common.{◌≡◌, ◌∙◌, [], ◌∷◌, ◌++◌, List, ℕ, Option, cond, rules, refl, subst, sym, ap}
use Rattle.std.specs.Option.{IsSome}
use Rattle.std.specs.BTreeMap.{get_by_text}
use Rattle.std.specs.Str.{bytes_eq}
use Rattle.lar_judge.proofs.Indexed.{left_last, there_last}
use Rattle.lar_judge.proofs.locals.Locals.leave_one.Goals as goal

pub restore-requires : goal.restore-requires
restore-requires c =
    let a : c.self.inside.locals.items ≡ c.pop.new.self.items ++ c.in-Some.local ∷ [] = search rules in
    let x = rw a at c.self.invariant in
    let there = there_last c.pop.new.self.items c.self.inside.hidden.items c.in-Some.local (get_by_text c.self.inside.innermost.known) x in
    subst (λ (o : Option ℕ). IsSome o) (sym (ap (get_by_text c.self.inside.innermost.known) c.as_str.ensures.text ∙ there)) refl

pub invariant_of-self-in-Some-pop : goal.invariant_of-self-in-Some-pop
invariant_of-self-in-Some-pop c =
    let a : c.self.inside.locals.items ≡ c.pop.new.self.items ++ c.in-Some.local ∷ [] = search rules in
    let b : c.self.inside.hidden.items ≡ c.pop-in-Some.new.self.items ++ c.in-Some-pop.hidden ∷ [] = search rules in
    left_last c.pop.new.self.items c.pop-in-Some.new.self.items c.in-Some.local c.in-Some-pop.hidden (get_by_text c.self.inside.innermost.known) (get_by_text c.restore.new.self.known) (rw (a, b) at c.self.invariant)
    (subst (λ (n : List ℕ). (q : List ℕ) → get_by_text c.restore.new.self.known q ≡ cond (bytes_eq n q) c.in-Some-pop.hidden (get_by_text c.self.inside.innermost.known q)) c.as_str.ensures.text c.restore.ensures)

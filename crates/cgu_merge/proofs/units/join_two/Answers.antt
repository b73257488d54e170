use Rattle.std.proofs.Common.{rules, ◌≡◌, ℕ, ◌∷◌, ◌∙◌, ap, List}
use Rattle.std.specs.Prelude.{Vec}
use Rattle.std.specs.Global.{Global}
use Rattle.cgu_merge.proofs.Placing.{stepped}
use Rattle.cgu_merge.proofs.units.join_two.Goals as goal

pub returns : goal.returns
returns c =
    let p : (ℕ × ℕ) × Vec ℕ Global = (c.in-Some.first, c.in-Some.parts) in
    let q : (ℕ × ℕ) × Vec ℕ Global = (c.in-Some-pop_first.second, c.in-Some-pop_first.more) in
    let es : List ((ℕ × ℕ) × Vec ℕ Global) = c.pop_first-2.new.self.entries in
    let was : c.args.units.now.entries ≡ p ∷ q ∷ es = c.in-Some.ensures.removal ∙ ap (λ (x : List ((ℕ × ℕ) × Vec ℕ Global)). p ∷ x) c.in-Some-pop_first.ensures.removal in
    stepped p q es c.args.units.now.entries c.insert.new.self.entries c.extend_from_slice.new.self c.min.result (search rules) c.requires.apart was (search rules) c.in_ok-insert.ensures.entries

use Rattle.std.proofs.Common.{ap, ◌∙◌, List, ◌∷◌, ℕ}
use Rattle.type_widths.specs.Form.{dot}
use Rattle.type_widths.proofs.Dots.{generic_dot}
use Rattle.type_widths.proofs.linear.single.Goals as goal

pub returns : goal.returns
returns c = (c.in_ok-pad-2.ensures.0, λ ws. generic_dot c.pad.new.form.items c.push.new.self.items c.pad-2.new.form.items c.args.k ws c.in_ok-pad.ensures.0 (c.in_ok-pad.ensures.1 (1 ∷ ws) ∙ ap (λ (xs : List ℕ). dot xs (1 ∷ ws)) c.new-new.ensures.items) c.in_ok-push.ensures.items (c.in_ok-pad-2.ensures.1 (1 ∷ ws)))

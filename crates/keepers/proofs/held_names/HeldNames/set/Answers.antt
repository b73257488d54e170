use Rattle.std.proofs.Common.{List, ℕ, string_bytes, ap, ◌∙◌}
use Rattle.std.specs.FinMap as map
use Rattle.outside.specs.Held.{Held}
use Rattle.outside.proofs.Lookups.{set_held}
use Rattle.keepers.proofs.held_names.HeldNames.set.Goals as goal

pub returns-clause-ok : goal.returns-clause-ok
returns-clause-ok c =
    let name = string_bytes c.in_ok-name.name in
    set_held c.self.inside.names c.insert.new.self name c.in_ok-bytes.bytes c.in_ok-insert.ensures.updates
    ∙ ap (λ (m : Held). map.insert m name c.in_ok-bytes.bytes.items) c.self.view_is
    ∙ ap (λ (n : List ℕ). map.insert c.args.self.now n c.in_ok-bytes.bytes.items) c.in_ok-name.ensures.ok
    ∙ ap (λ (b : List ℕ). map.insert c.args.self.now c.args.name.now b) c.in_ok-bytes.ensures.items

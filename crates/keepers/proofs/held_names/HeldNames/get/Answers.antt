use Rattle.std.proofs.Common.{ℕ, Some, Vec, Global, ap, sym, ◌∙◌}
use Rattle.std.specs.Option.{option_map}
use Rattle.std.specs.FinMap as map
use Rattle.outside.specs.Held.{Held}
use Rattle.outside.proofs.Lookups.{get_held}
use Rattle.keepers.proofs.held_names.HeldNames.get.Goals as goal

pub returns-in-Some : goal.returns-in-Some
returns-in-Some c =
    ap Some c.as_slice.ensures.value
    ∙ ap (option_map (λ (v : Vec ℕ Global). v.items)) c.in-Some.ensures.value
    ∙ sym (get_held c.self.inside.names.entries c.args.name.now)
    ∙ ap (λ (m : Held). map.get m c.args.name.now) c.self.view_is

pub returns-in-None : goal.returns-in-None
returns-in-None c =
    ap (option_map (λ (v : Vec ℕ Global). v.items)) c.in-None.ensures.value
    ∙ sym (get_held c.self.inside.names.entries c.args.name.now)
    ∙ ap (λ (m : Held). map.get m c.args.name.now) c.self.view_is

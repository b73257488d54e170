use Rattle.std.proofs.Common.{ap, ◌∙◌}
use Rattle.std.specs.Option.{option_flatten}
use Rattle.lar_names.specs.NamesView.{names_view}
use Rattle.lar_names.specs.Scopes.{list_at}
use Rattle.lar_names.proofs.EntryFacts.{flat_entry}
use Rattle.lar_names.proofs.names.Names.known_in.Goals as goal

pub returns : goal.returns
returns c =
    let n = c.args.self.now in
    c.flatten.ensures ∙ (ap option_flatten (c.get.ensures ∙ n.entries.each c.args.scope c.args.name.now c.requires) ∙ flat_entry (names_view n) (list_at n.scopes c.args.scope) c.args.name.now)

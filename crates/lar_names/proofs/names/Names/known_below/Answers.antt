use Rattle.std.proofs.Common.{◌∷◌, map, ap, sym, ◌∙◌}
use Rattle.lar_names.specs.Entries.{meaning}
use Rattle.lar_names.specs.NamesView.{names_view}
use Rattle.lar_names.proofs.MeantFacts.{absent}
use Rattle.lar_names.proofs.Numbers.{number_found}
use Rattle.lar_names.proofs.names.Names.known_below.Goals as goal

pub known_in-requires : goal.known_in-requires
known_in-requires c = (number_found c.args.self.now.scopes (c.args.first.now.text ∷ map (λ s. (s.name).text) c.args.between.now) c.in-Some.scope (sym c.in-Some.ensures.number)).0

pub returns-in-Some : goal.returns-in-Some
returns-in-Some c =
    let m = c.args.first.now.text ∷ map (λ s. (s.name).text) c.args.between.now in
    let found = number_found c.args.self.now.scopes m c.in-Some.scope (sym c.in-Some.ensures.number) in
    c.known_in.ensures ∙ (ap (λ l. meaning (names_view c.args.self.now) l c.as_str.result.now) found.1 ∙ ap (meaning (names_view c.args.self.now) m) c.as_str.ensures.text)

pub returns-in-None : goal.returns-in-None
returns-in-None c = sym (absent c.args.self.now.scopes c.args.self.now.declared.items (c.args.first.now.text ∷ map (λ s. (s.name).text) c.args.between.now) c.args.last.now.text c.args.self.now.scoped (sym c.in-None.ensures.number))

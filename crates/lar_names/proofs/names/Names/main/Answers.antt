use Rattle.std.proofs.Common.{◌≡◌, ◌∷◌, [], codes, ap, sym, ◌∙◌}
use Rattle.std.specs.Prelude.{None}
use Rattle.lar_names.specs.Entries.{meaning}
use Rattle.lar_names.specs.NamesView.{names_view}
use Rattle.lar_names.specs.Scopes.{number_of, within, list_at}
use Rattle.lar_names.proofs.MeantFacts.{absent}
use Rattle.lar_names.proofs.Numbers.{number_found}
use Rattle.lar_names.proofs.ScopeFacts.{root_is}
use Rattle.lar_names.proofs.names.Names.main.Goals as goal

pub known_in-requires : goal.known_in-requires
known_in-requires c = (number_found c.args.self.now.scopes (within (list_at c.args.self.now.scopes 0) (codes "main")) c.in-Some.scope (sym c.in-Some.ensures.number)).0

pub returns-in-Some : goal.returns-in-Some
returns-in-Some c =
    let found = number_found c.args.self.now.scopes (within (list_at c.args.self.now.scopes 0) (codes "main")) c.in-Some.scope (sym c.in-Some.ensures.number) in
    let root = root_is c.args.self.now.scopes c.len.ensures.scopes in
    c.known_in.ensures ∙ ap (λ l. meaning (names_view c.args.self.now) l (codes "main")) (found.1 ∙ ap (λ l. within l (codes "main")) root.1)

pub returns-in-None : goal.returns-in-None
returns-in-None c =
    let root = root_is c.args.self.now.scopes c.len.ensures.scopes in
    let gone : number_of (codes "main" ∷ []) c.args.self.now.scopes ≡ None = ap (λ l. number_of (within l (codes "main")) c.args.self.now.scopes) (sym root.1) ∙ sym c.in-None.ensures.number in
    sym (absent c.args.self.now.scopes c.args.self.now.declared.items (codes "main" ∷ []) (codes "main") c.args.self.now.scoped gone)

use Rattle.std.proofs.Common.{◌≡◌, Option, Some, sym, subst}
use Rattle.lar_rules.specs.Declared.{Struct}
use Rattle.lar_rules.specs.Fault.{least}
use Rattle.lar_names.specs.NamesView.{names_view, scope_view}
use Rattle.lar_written.specs.Sites.{site_view}
use Rattle.lar_judge.specs.Making.{MadeIs, new_head}
use Rattle.lar_site.specs.Given.{given_there}
use Rattle.lar_site.proofs.ByNumber.{struct_within}
use Rattle.lar_site.proofs.MeantFacts.{struct_there}
use Rattle.lar_site.proofs.body_site.BodySite.made_meant.Goals as goal

pub made_of-requires-clause-number : goal.made_of-requires-clause-number
made_of-requires-clause-number c =
    let w = c.args.self.now.written in
    let x = struct_there (names_view w.names.now) (scope_view w.names.now w.scope) c.args.path.now c.in-Some.number c.in-Some.ensures in
    struct_within c.args.types.now (names_view w.names.now) c.args.self.now.signatures.now c.in-Some.number x.0 c.requires x.2

pub returns-in_ok-made-in-Some-clause-is : goal.returns-in_ok-made-in-Some-clause-is
returns-in_ok-made-in-Some-clause-is c =
    let w = c.args.self.now.written in
    let x = struct_there (names_view w.names.now) (scope_view w.names.now w.scope) c.args.path.now c.in-Some.number c.in-Some.ensures in
    subst (λ (o : Option Struct). MadeIs c.made_of.new.types (site_view w) c.args.path.now (given_there (site_view w) c.args.generics.now) (Some c.in_ok-made-in-Some.made) o) (sym x.1) (c.in_ok-made-in-Some.ensures.is x.0 x.2)

pub returns-in_ok-made-in-Some-clause-told : goal.returns-in_ok-made-in-Some-clause-told
returns-in_ok-made-in-Some-clause-told c =
    let w = c.args.self.now.written in
    let x = struct_there (names_view w.names.now) (scope_view w.names.now w.scope) c.args.path.now c.in-Some.number c.in-Some.ensures in
    subst (λ (o : Option Struct). c.made_of.new.first ≡ least c.args.first.now (new_head (site_view w) c.args.path.now (given_there (site_view w) c.args.generics.now) o)) (sym x.1) (c.in_ok-made-in-Some.ensures.told x.0 x.2)

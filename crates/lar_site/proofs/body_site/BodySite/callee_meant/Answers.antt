use Rattle.std.proofs.Common.{◌≡◌, Option, Some, sym, subst}
use Rattle.lar_rules.specs.Declared.{Function}
use Rattle.lar_rules.specs.Fault.{least}
use Rattle.lar_names.specs.NamesView.{names_view, scope_view}
use Rattle.lar_written.specs.Sites.{site_view}
use Rattle.lar_judge.specs.Calls.{CalleeIs, call_head}
use Rattle.lar_site.specs.Given.{given_there}
use Rattle.lar_site.proofs.ByNumber.{function_within}
use Rattle.lar_site.proofs.MeantFacts.{function_there}
use Rattle.lar_site.proofs.body_site.BodySite.callee_meant.Goals as goal

pub called-requires-clause-number : goal.called-requires-clause-number
called-requires-clause-number c =
    let w = c.args.self.now.written in
    let f = function_there (names_view w.names.now) (scope_view w.names.now w.scope) c.args.path.now c.in-Some.number c.in-Some.ensures in
    function_within c.args.types.now (names_view w.names.now) c.args.self.now.signatures.now c.in-Some.number f.0 c.requires f.2

pub returns-in_ok-callee-in-Some-clause-is : goal.returns-in_ok-callee-in-Some-clause-is
returns-in_ok-callee-in-Some-clause-is c =
    let w = c.args.self.now.written in
    let f = function_there (names_view w.names.now) (scope_view w.names.now w.scope) c.args.path.now c.in-Some.number c.in-Some.ensures in
    subst (λ (o : Option Function). CalleeIs c.called.new.types (site_view w) c.args.path.now (given_there (site_view w) c.args.generics.now) (Some c.in_ok-callee-in-Some.callee) o) (sym f.1) (c.in_ok-callee-in-Some.ensures.is f.0 f.2)

pub returns-in_ok-callee-in-Some-clause-told : goal.returns-in_ok-callee-in-Some-clause-told
returns-in_ok-callee-in-Some-clause-told c =
    let w = c.args.self.now.written in
    let f = function_there (names_view w.names.now) (scope_view w.names.now w.scope) c.args.path.now c.in-Some.number c.in-Some.ensures in
    subst (λ (o : Option Function). c.called.new.first ≡ least c.args.first.now (call_head (site_view w) c.args.path.now (given_there (site_view w) c.args.generics.now) c.args.count o)) (sym f.1) (c.in_ok-callee-in-Some.ensures.told f.0 f.2)

use Rattle.std.proofs.Common.{map, ap, sym, ◌∙◌}
use Rattle.std.specs.Prelude.{option_map, slice_get}
use Rattle.lar_names.specs.NamesView.{names_view}
use Rattle.lar_names.specs.Numbered.{struct_at}
use Rattle.lar_names.proofs.MeantFacts.{struct_numbered_is}
use Rattle.lar_names.specs.Items.{struct_item}
use Rattle.lar_names.proofs.IndexFacts.{structs_view}
use Rattle.lar_names.proofs.names.Names.structs.Goals as goal

pub returns-clause-all : goal.returns-clause-all
returns-clause-all c = ap (map (struct_item c.args.self.now.scopes)) (c.deref.ensures.value ∙ c.args.self.now.items.structs) ∙ structs_view c.args.self.now.scopes c.args.self.now.declared.items

pub returns-clause-each : goal.returns-clause-each
returns-clause-each c = λ n.
    let all = ap (map (struct_item c.args.self.now.scopes)) (c.deref.ensures.value ∙ c.args.self.now.items.structs) ∙ structs_view c.args.self.now.scopes c.args.self.now.declared.items in
    struct_numbered_is (names_view c.args.self.now) n ∙ ap (λ xs. option_map (struct_at n) (slice_get xs n)) (sym all)

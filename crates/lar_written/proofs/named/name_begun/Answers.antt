use Rattle.std.proofs.Common.{ap, ◌∙◌, length}
use Rattle.lar_rules.specs.Written.{type_named}
use Rattle.lar_written.specs.Sites.{site_view, meaning}
use Rattle.lar_written.proofs.Numbers.{named_numbered}
use Rattle.lar_written.proofs.named.name_begun.Goals as goal

pub returns-clause-begun : goal.returns-clause-begun
returns-clause-begun c = record {
  name = c.type_named-name.ensures;
  sorts = λ x e. c.in_ok-sorts.ensures x (c.type_named-name.ensures ∙ ap meaning e) (named_numbered (site_view c.args.site.now) c.args.path.now x e);
}

pub returns-clause-told : goal.returns-clause-told
returns-clause-told c =
    c.in_ok-note_begun.ensures (type_named (site_view c.args.site.now) c.args.path.now) (record {
      name_is = c.type_named-name.ensures;
      count = λ x e. ap length (c.as_slice.ensures.value ∙ c.in_ok-sorts.ensures x (c.type_named-name.ensures ∙ ap meaning e) (named_numbered (site_view c.args.site.now) c.args.path.now x e));
    })

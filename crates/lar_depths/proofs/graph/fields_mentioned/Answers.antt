use Rattle.lar_written.specs.Sites.{site_view}
use Rattle.lar_depths.proofs.MentionFacts.{fields_begun}
use Rattle.lar_depths.proofs.graph.fields_mentioned.Goals as goal

pub loop-more-init : goal.loop-more-init
loop-more-init c = fields_begun (site_view c.args.site.now) c.args.fields.now c.as_slice-more-items.result.now c.args.out.now.items c.ty_mentioned.new.out.items c.in_ok-ty_mentioned.ensures c.as_slice-more-items.ensures

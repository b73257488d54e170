use Rattle.lar_written.specs.Sites.{site_view}
use Rattle.lar_site.proofs.CallFacts.{meaningless}
use Rattle.lar_site.proofs.calling.note_meaningless.Goals as goal

pub returns-clause-told : goal.returns-clause-told
returns-clause-told c =
    meaningless (site_view c.args.site.now) c.args.path.now _ _ c.args.first.now c.note_unknown.new.first c.generics_given.new.first c.in_ok-note_unknown.ensures (c.args_in.ensures (site_view c.args.site.now)) c.in_ok-generics_given.ensures.told

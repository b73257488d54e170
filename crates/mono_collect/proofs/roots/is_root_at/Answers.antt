use Rattle.mono_collect.proofs.Rooted.{root_at}
use Rattle.mono_collect.proofs.roots.is_root_at.Goals as goal

pub returns : goal.returns
returns c = root_at c.args.functions.now c.args.place c.index-functions-place.result c.is_root.result c.requires c.index-functions-place.is c.is_root.ensures

use Rattle.std.proofs.Common.{◌≡◌, map, drop}
use Rattle.lar_rules.specs.Fault.{least}
use Rattle.lar_rules.specs.Written.{missorted}
use Rattle.lar_written.specs.Given.{marks}
use Rattle.lar_written.specs.Sites.{site_view}
use Rattle.lar_written.proofs.fault.note_all_missorted.Given as goal

abbrev pub invariant-loop-place : goal.invariant-loop-place
invariant-loop-place l = least l.first (missorted (site_view l.site) (drop l.place l.sorts) (map marks (drop l.place l.given))) ≡ least l.fn.first (missorted (site_view l.site) l.sorts (map marks l.given))

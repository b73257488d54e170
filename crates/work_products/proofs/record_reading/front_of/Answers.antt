use Rattle.std.proofs.Common.{arith}
use Rattle.work_products.proofs.Places.{end-opening, end-counted}
use Rattle.work_products.proofs.record_reading.front_of.Goals as goal

pub digest_of-requires : goal.digest_of-requires
digest_of-requires c = omega (arith, end-opening _ _ _ c.in_ok-version.ensures, end-counted _ _ c.in_ok-text.ensures, end-counted _ _ c.in_ok-object.ensures)

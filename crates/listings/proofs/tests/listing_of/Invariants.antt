use Rattle.std.proofs.Common.{◌≡◌, length}
use Rattle.listings.specs.Listed.{parts_of}
use Rattle.listings.proofs.tests.listing_of.Given as goal

abbrev pub invariant-loop-part : goal.invariant-loop-part
invariant-loop-part l = l.part-end ≡ length (parts_of l.listed)

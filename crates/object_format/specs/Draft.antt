-- What is kept of an object while it is read.
use Rattle.std.specs.Prelude.{◌≡◌, ℕ, List}
use Rattle.std.specs.Ordering.{nat_cmp}
use Rattle.std.specs.Cmp.Lexicographic.{slice_cmp}
use Rattle.std.specs.BTreeSet.{BTreeSet, contains_by}
use Rattle.object_format.specs.Object.{Unlinked, callees_of}
use Rattle.object_format.specs.ObjectReading.{is_among}
use denote.Ref.{Bor}

-- the set has the symbols of the object's functions and externals, and no other
abbrev pub HoldsCallees : BTreeSet (Bor (List ℕ)) → Unlinked → Type 0
HoldsCallees symbols o = (s : List ℕ) → contains_by (λ k. slice_cmp nat_cmp s k.now) symbols ≡ is_among (callees_of o) s

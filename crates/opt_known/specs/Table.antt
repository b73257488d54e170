-- What a list of entries by slot knows. An entry has a fact, the time at which it was learned, and the time at which words were last
-- put into the slot. A fact that names a slot counts only where no words were put into that slot since.
use Rattle.std.specs.Prelude.{ℕ, ◌<◌, ◌≤◌, ◌^◌, List, length, slice_index_or, if◌then◌else◌}
use lib.Dec.{leb}
use Rattle.opt_known.specs.declared.entry.Fact.{Fact}
use Rattle.opt_known.specs.declared.entry.Fact.TheVariants as fact
use Rattle.opt_known.specs.declared.entry.Entry.{Entry}
use Rattle.opt_known.specs.Facts.{PlainFact, nothing, is_word, is_load}

abbrev pub fact_view : Fact → PlainFact
fact_view fact.Nothing = nothing
fact_view (fact.Word v) = is_word v
fact_view (fact.Slot t) = is_load t

-- behind the end of a list nothing is known of a slot, and no fact that names it counts
unfoldable pub outside : Entry
outside = record { fact = fact.Nothing; learned = 0; written = 2 ^ 64 }

abbrev pub entry_at : List Entry → ℕ → Entry
entry_at xs k = slice_index_or xs k outside

-- what counts of a fact that was learned at this time
abbrev pub counts : List Entry → ℕ → PlainFact → PlainFact
counts xs learned nothing = nothing
counts xs learned (is_word v) = is_word v
counts xs learned (is_load t) = if leb (entry_at xs t).written learned then is_load t else nothing

unfoldable pub facts_in : List Entry → ℕ → PlainFact
facts_in xs k = counts xs (entry_at xs k).learned (fact_view (entry_at xs k).fact)

-- no time of an entry is later than now
abbrev pub InTime : ℕ → List Entry → Type 0
InTime now xs = (k : ℕ) → k < length xs → ((entry_at xs k).learned ≤ now) × ((entry_at xs k).written ≤ now)

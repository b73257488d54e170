-- What a note on a call says, as a call.
use Rattle.std.specs.Prelude.{ℕ, List, [], ◌∷◌, ◌++◌, map, string_bytes}
use Rattle.std.specs.declared.alloc.Global.{Global}
use Rattle.std.specs.declared.string.String.{String}
use Rattle.journal.specs.Journal.{Bytes}
use Rattle.journal.specs.Noted.{found_of}
use Rattle.keepers.specs.KeeperCalls.{KeeperCall, Loaded, Saved, Removed, Named}
use Rattle.keepers.specs.Listing as listing
use Rattle.keepers.specs.declared.keeper_journal.KeeperNote.{KeeperNote}
use Rattle.keepers.specs.declared.keeper_journal.KeeperNote.TheVariants as note

-- the bytes of each string
abbrev pub bytes_of_all : List (String Global) → List (List ℕ)
bytes_of_all strings = map string_bytes strings

-- the call that a note says
abbrev pub call_of : KeeperNote → KeeperCall
call_of (note.Found name most bytes) = Loaded name.now most (Bytes bytes.now)
call_of (note.Missed name most why) = Loaded name.now most (found_of why)
call_of (note.Saved name bytes answer) = Saved name.now bytes.now answer
call_of (note.Removed name answer) = Removed name.now answer
call_of (note.Names names) = Named (listing.Names (bytes_of_all names.now))
call_of note.NamesFailed = Named listing.Failed
call_of note.NamesMemory = Named listing.Memory

-- the calls, with the noted one after them
abbrev pub noted : List KeeperCall → KeeperNote → List KeeperCall
noted calls n = calls ++ call_of n ∷ []

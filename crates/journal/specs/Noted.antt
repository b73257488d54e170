-- What a note says, as a call.
use Rattle.std.specs.Prelude.{List, [], ◌∷◌, ◌++◌}
use Rattle.journal.specs.Journal.{Call, Asked, Stored, Put, Found, Bytes, Absent, Failed, Memory}
use Rattle.journal.specs.declared.journal.Missed.{Missed}
use Rattle.journal.specs.declared.journal.Missed.TheVariants as missed
use Rattle.journal.specs.declared.journal.Note.{Note}
use Rattle.journal.specs.declared.journal.Note.TheVariants as note

abbrev pub found_of : Missed → Found
found_of missed.Absent = Absent
found_of missed.Failed = Failed
found_of missed.Memory = Memory

abbrev pub call_of : Note → Call
call_of (note.Found name most bytes) = Asked name.now most (Bytes bytes.now)
call_of (note.Missed name most why) = Asked name.now most (found_of why)
call_of (note.Stored name bytes answer) = Stored name.now bytes.now answer
call_of (note.Put piece answer) = Put piece.now answer

-- the calls, with the noted one after them
abbrev pub noted : List Call → Note → List Call
noted calls n = calls ++ call_of n ∷ []

-- How many calls of a journal have failed, and how many wanted memory.
use Rattle.std.specs.Prelude.{ℕ, Bool, true, false, List, count_by}
use Rattle.journal.specs.Journal.{Call, Asked, Stored, Put, Failed, Memory}
use Rattle.journal.specs.declared.journal.Done.TheVariants as done

abbrev pub is_fault : Call → Bool
is_fault (Asked name most Failed) = true
is_fault (Stored name bytes done.Failed) = true
is_fault (Put piece done.Failed) = true
is_fault call = false

abbrev pub is_want : Call → Bool
is_want (Asked name most Memory) = true
is_want (Stored name bytes done.Memory) = true
is_want (Put piece done.Memory) = true
is_want call = false

abbrev pub faults_in : List Call → ℕ
faults_in calls = count_by is_fault calls

abbrev pub wants_in : List Call → ℕ
wants_in calls = count_by is_want calls

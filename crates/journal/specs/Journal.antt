-- Calls on an object of the outside, with their answers, and how a journal of them is stored.
use Rattle.std.specs.Prelude.{◌≡◌, ◌==◌, ℕ, cond, List, [], refl}
use Rattle.std.specs.Coded.{Coded, code_by, coded×, coded_ℕ, coded_list}
use Rattle.journal.specs.declared.journal.Done.{Done}
use Rattle.journal.specs.declared.journal.Done.TheVariants as done

-- What was found under a name: the first bytes, as many as were asked for; nothing; a fault; or memory was wanted.
pub data Found : Type 0 where
  Bytes : List ℕ → Found
  Absent : Found
  Failed : Found
  Memory : Found

-- So many bytes of what a name holds were asked for. Bytes were to be put in its place. A piece was to be appended.
pub data Call : Type 0 where
  Asked : List ℕ → ℕ → Found → Call
  Stored : List ℕ → List ℕ → Done → Call
  Put : List ℕ → Done → Call

-- a call as numbers and bytes: its kind with its answer, the name, how many bytes were asked for, the bytes
abbrev Parts : Type 0
Parts = ℕ × (List ℕ × (ℕ × List ℕ))

abbrev parts : Call → Parts
parts (Asked name most (Bytes bytes)) = (0, (name, (most, bytes)))
parts (Asked name most Absent) = (1, (name, (most, [])))
parts (Asked name most Failed) = (2, (name, (most, [])))
parts (Asked name most Memory) = (3, (name, (most, [])))
parts (Stored name bytes done.Done) = (4, (name, (0, bytes)))
parts (Stored name bytes done.Failed) = (5, (name, (0, bytes)))
parts (Stored name bytes done.Memory) = (6, (name, (0, bytes)))
parts (Put piece done.Done) = (7, ([], (0, piece)))
parts (Put piece done.Failed) = (8, ([], (0, piece)))
parts (Put piece done.Memory) = (9, ([], (0, piece)))

abbrev call_at : ℕ → List ℕ → ℕ → List ℕ → Call
call_at kind name most bytes =
    cond (kind == 0) (Asked name most (Bytes bytes))
    (cond (kind == 1) (Asked name most Absent)
    (cond (kind == 2) (Asked name most Failed)
    (cond (kind == 3) (Asked name most Memory)
    (cond (kind == 4) (Stored name bytes done.Done)
    (cond (kind == 5) (Stored name bytes done.Failed)
    (cond (kind == 6) (Stored name bytes done.Memory)
    (cond (kind == 7) (Put bytes done.Done)
    (cond (kind == 8) (Put bytes done.Failed) (Put bytes done.Memory)))))))))

abbrev call_of : Parts → Call
call_of p = call_at p.0 p.1.0 p.1.1.0 p.1.1.1

pub call_of-parts : (call : Call) → call_of (parts call) ≡ call
call_of-parts (Asked name most (Bytes bytes)) = refl
call_of-parts (Asked name most Absent) = refl
call_of-parts (Asked name most Failed) = refl
call_of-parts (Asked name most Memory) = refl
call_of-parts (Stored name bytes done.Done) = refl
call_of-parts (Stored name bytes done.Failed) = refl
call_of-parts (Stored name bytes done.Memory) = refl
call_of-parts (Put piece done.Done) = refl
call_of-parts (Put piece done.Failed) = refl
call_of-parts (Put piece done.Memory) = refl

-- as what a ghost field may hold
abbrev pub coded_calls : Coded (List Call)
coded_calls = coded_list (code_by Parts (coded× coded_ℕ (coded× (coded_list coded_ℕ) (coded× coded_ℕ (coded_list coded_ℕ)))) parts call_of call_of-parts)

-- Small scripts of shapes that commands will have, each with what it gives: several lines on err and a last one after them, a reason
-- that the fault of a put replaces, and several writes of which the first one that fails ends all.
use Rattle.std.proofs.Common.{◌≡◌, ℕ, Bool, true, false, List, [], ◌∷◌, Ok, Err, inr, refl, codes}
use Rattle.std.specs.FinMap.{insert}
use Rattle.outside.specs.Held.{Held}
use Rattle.scripts.specs.Following.{Reasons, Follows}
use Rattle.scripts.specs.Outside.{Outside, Gave, Fell, Step}
use Rattle.scripts.specs.Performing.{perform}
use Rattle.scripts.specs.Script.{Script, End, Stop, Call, Write, Put, ToOut, ToErr, ◌>>=◌, ending}

-- why a script of this page may end early
data Why : Type 0 where
  Refused : Why
  NotWritten : Why
  NotPut : Why
  NoMemory : Why

abbrev reasons : Reasons Why
reasons = record { memory = NoMemory; put_fault = NotPut }

abbrev lines : List (List ℕ) → Script Why (Unit {0})
lines [] = End tt
lines (text ∷ texts) = Call (Put ToErr text) (λ x. lines texts)

-- a command that is refused, which puts a line for each diagnostic, and after them that of what was lost
abbrev stopped : Script Why (Unit {0})
stopped = Stop Refused

abbrev refused : Script Why (Unit {0})
refused = ending stopped (λ x. End tt) (λ e. lines (codes "first\n" ∷ codes "second\n" ∷ codes "lost\n" ∷ []) >>= λ _. Stop e)

-- its lines stand on err in their order, and it ends by its reason
all_lines : (held : Held) → perform refused held ≡ record { gives = Err Refused; out = []; err = codes "first\nsecond\nlost\n"; files = held }
unfolding perform ◌>>=◌ ending
all_lines held = refl

-- Where its second line is not put, the third is not tried, and it ends by the fault of the put.
second_fails : (old mid new : Outside) → Step (Put ToErr (codes "first\n")) old (Gave tt) mid → Step (Put ToErr (codes "second\n")) mid Fell new → Follows reasons refused old new (Err NotPut)
unfolding Follows ◌>>=◌ ending
second_fails old mid new first second =
    inr (record { came = Gave tt; mid = mid; made = first; then = inr (record { came = Fell; mid = new; made = second; then = (refl, refl) }) })

abbrev written : Bool → Script Why (Unit {0}) → Script Why (Unit {0})
written true rest = rest
written false rest = Stop NotWritten

-- two files are written, one after the other, and then a line is put
abbrev two_files : Script Why (Unit {0})
two_files = Call (Write (codes "a") (codes "1")) (λ x. written x (Call (Write (codes "b") (codes "2")) (λ y. written y (Call (Put ToOut (codes "done\n")) (λ z. End tt)))))

both_files : (held : Held) → perform two_files held ≡ record { gives = Ok tt; out = codes "done\n"; err = []; files = insert (insert held (codes "a") (codes "1")) (codes "b") (codes "2") }
unfolding perform
both_files held = refl

-- Where the first write fails, that is all it does.
first_fails : (old new : Outside) → Step (Write (codes "a") (codes "1")) old (Gave false) new → Follows reasons two_files old new (Err NotWritten)
unfolding Follows
first_fails old new write = inr (record { came = Gave false; mid = new; made = write; then = inr (refl, refl) })

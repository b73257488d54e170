-- What pays for the jobs, after an event and after what is decided on it.
use Rattle.std.proofs.Common.{◌≡◌, ℕ, ◌+◌, Bool, true, List, [], ◌∷◌, ◌++◌, length, Option, None, arith}
use Rattle.counting.specs.Count.{times, without}
use Rattle.counting.proofs.Count.{one_if-same, times-snoc, times-without}
use Rattle.lease_table.specs.Desk.{DeskState}
use Rattle.coord_core.specs.declared.event.Event.{Event}
use Rattle.coord_core.specs.State.{State}
use Rattle.coord_core.specs.Effect.{effect}
use Rattle.coord_core.specs.Decide.{decided, actions_of}
use Rattle.coord_core.specs.Run.{is_awaited}
use Rattle.coord_core.specs.Journal.{took_by, gave_by, lost_by, jobs_by}
use Rattle.coord_core.specs.Laws.{ended_by, ready_by}
use Rattle.coord_core.proofs.Acted.{acted}
use Rattle.coord_core.proofs.Told.{told}
use Rattle.coord_run.specs.Meaning.{Meaning}
use Rattle.coord_run.specs.Tied.{Paid, HasPart, HasParts}

pub paid-decided : (may : Bool) (s : State) (d : DeskState) (w : ℕ) → Paid s [] d w → Paid (decided may s) (jobs_by (actions_of may s)) d w
paid-decided may s d w h =
    let a = acted may s in
    let b = a.bytes in let j = a.count in let p = h.held in let q = h.share in let r = h.waits in
    record { held = omega arith; share = omega arith; out = λ x. let o = h.out x in let n = a.running x in omega arith; waits = omega arith }

-- an event that moved bytes and shares at the desk as it did in the state
pub paid-told : (e : Event) (s : State) (d d' : DeskState) (w w' : ℕ) → is_awaited s e ≡ true → s.spare ≡ None → Paid s [] d w
    → d'.held + length (gave_by e) + length (lost_by e) ≡ d.held + length (took_by e)
    → d'.share + d.held ≡ d.share + d'.held + length (ended_by e s.gen)
    → ((x : ℕ) → times x d'.out + times x (ended_by e s.gen) ≡ times x d.out)
    → w' + length (ended_by e s.gen) ≡ w
    → Paid (effect e s) [] d' w'
paid-told e s d d' w w' out spare h held share jobs waits =
    let t = told e s out spare in
    let b = t.bytes in let j = t.count in let p = h.held in let q = h.share in let r = h.waits in
    record { held = omega arith; share = omega arith; out = λ x. let o = h.out x in let n = t.running x in let k = jobs x in omega arith; waits = omega arith }

-- a job that is lent and comes back at once
pub lent-back : (x i : ℕ) (out : List ℕ) → times x (without i (out ++ i ∷ [])) ≡ times x out
lent-back x i out =
    let m = times-snoc x i out in
    let n = times-snoc i i out in
    let u = one_if-same i in
    let f = times-without x i (out ++ i ∷ []) (omega arith) in omega arith

-- a job that comes back
pub came-back : (x i : ℕ) (out : List ℕ) → times i out ≡ 1 → times x (without i out) + times x (i ∷ []) ≡ times x out
came-back x i out at = let f = times-without x i out (omega arith) in omega arith

module _ {P F : Type 0} where
  pub parts-decided : (m : Meaning P F) (ps : List (Option P)) (may : Bool) (s : State) → HasParts m ps s [] → HasParts m ps (decided may s) (jobs_by (actions_of may s))
  parts-decided m ps may s h x at = let q = (acted may s).queue x in h x (omega arith)

  -- an event after which the units that it makes ready have parts, and the others theirs still
  pub parts-told : (m : Meaning P F) (ps ps' : List (Option P)) (e : Event) (s : State) → is_awaited s e ≡ true → s.spare ≡ None → HasParts m ps s []
      → ((x : ℕ) → (times x (ready_by e) ≡ 0 → HasPart m ps x) → HasPart m ps' x)
      → HasParts m ps' (effect e s) []
  parts-told m ps ps' e s out spare h put x at = let q = (told e s out spare).queue x in put x (λ none. h x (omega arith))

-- The jobs have room at each decision.
use Rattle.std.proofs.Common.{◌≡◌, ◌+◌, ◌<◌, ◌≤◌, true, length, refl, arith}
use Rattle.coord_core.specs.State.{State, one_some, own_of}
use Rattle.coord_core.specs.Decide.{pass, more_to_do, settled, is_free}
use Rattle.coord_core.specs.Laws.{Bounded}
use Rattle.coord_core.proofs.Jobs.{length-jobs}
use Rattle.coord_core.proofs.Sound.{Sound, bounded_by, passed-sound, settled-sound, free-owns}

sound_by : (s : State) → Bounded s.terms.lanes s → Sound s.terms.lanes s
sound_by s h = record { lanes_is = refl; own = h.own; held = h.held }

-- where a byte is spare a job more can start
pub start_room : (s : State) → Bounded s.terms.lanes s → s.terms.lanes ≤ 64 → length (pass s).running + one_some (pass s).spare ≤ 64
start_room s h most = let b = bounded_by s.terms.lanes (pass s) (passed-sound s.terms.lanes s s.spare (own_of s.running) (more_to_do s) refl refl (sound_by s h)) in let o = b.out in let k = b.held in omega arith

pub slot_most : (s : State) → Bounded s.terms.lanes s → s.terms.lanes ≤ 64 → length (settled s).running ≤ 64
slot_most s h most = let b = bounded_by s.terms.lanes (settled s) (settled-sound s.terms.lanes s (sound_by s h)) in let o = b.out in let k = b.held in omega arith

-- where the slot is free a job more can run on it
pub slot_room : (s : State) → Bounded s.terms.lanes s → s.terms.lanes ≤ 64 → is_free (settled s) ≡ true → length (settled s).running < 64
slot_room s h most free =
    let b = settled-sound s.terms.lanes s (sound_by s h) in
    let k = b.held in
    let n = (free-owns (settled s) free).0 in
    let l = length-jobs (settled s).running in omega arith

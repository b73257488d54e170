-- Each byte that was taken pays, is spare, is being given, was given or was lost.
use Rattle.std.proofs.Common.{◌≡◌, ℕ, ◌+◌, true, List, [], ◌∷◌, None, ap, arith}
use Rattle.counting.specs.Count.{times}
use Rattle.counting.proofs.Count.{times-append}
use Rattle.coord_core.specs.declared.event.Event.{Event}
use Rattle.coord_core.specs.declared.terms.Terms.{Terms}
use Rattle.coord_core.specs.State.{State, times_some, paid_at, byte_at}
use Rattle.coord_core.specs.Effect.{effect}
use Rattle.coord_core.specs.Decide.{may_ask}
use Rattle.coord_core.specs.Run.{first, opened, step, run_from, run, LawfulFrom, Lawful, is_finished}
use Rattle.coord_core.specs.Journal.{took_by, gave_by, lost_by, took, gave, lost}
use Rattle.coord_core.proofs.Acted.{acted, decided-spare}
use Rattle.coord_core.proofs.Told.{told}
use Rattle.coord_core.proofs.Sound.{run-spare}
use Rattle.coord_core.proofs.Cover.{finished_is}

run_from-bytes : (x : ℕ) (s : State) (es : List Event) → LawfulFrom s es → s.spare ≡ None → byte_at x (run_from s es) + times x (gave es) + times x (lost es) ≡ byte_at x s + times x (took es)
run_from-bytes x s [] l none = omega arith
run_from-bytes x s (e ∷ es) l none =
    let f = (told e s l.0 none).byte x in
    let d = (acted (may_ask e) (effect e s)).byte x in
    let r = run_from-bytes x (step s e) es l.1 (decided-spare (may_ask e) (effect e s)) in
    let a = times-append x (took_by e) (took es) in
    let b = times-append x (gave_by e) (gave es) in
    let c = times-append x (lost_by e) (lost es) in omega arith

pub bag : (terms : Terms) (es : List Event) → Lawful terms es → (x : ℕ) → times x (took es) ≡ byte_at x (run terms es) + times x (gave es) + times x (lost es)
bag terms es l x =
    let d = (acted true (first terms)).byte x in
    let r = run_from-bytes x (opened terms) es l (decided-spare true (first terms)) in omega arith

pub returned : (terms : Terms) (es : List Event) → Lawful terms es → is_finished (run terms es) ≡ true → (x : ℕ) → times x (took es) ≡ times x (gave es) + times x (lost es)
returned terms es l end x =
    let s = run terms es in
    let done = finished_is s end in
    let b = bag terms es l x in
    let p : paid_at x s.running ≡ 0 = ap (paid_at x) done.running in
    let g : times x s.giving ≡ 0 = ap (times x) done.giving in
    let o : times_some x s.spare ≡ 0 = ap (times_some x) (run-spare terms es) in omega arith

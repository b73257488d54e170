-- The books of a run with one more event.
use Rattle.std.proofs.Common.{◌≡◌, ℕ, ◌<◌, ◌≤◌, ◌*◌, Bool, true, false, ◌||◌, List, [], ◌∷◌, ◌++◌, length, Option, None, option_to_list, sym, refl, ap, ◌∙◌, subst, arith}
use Rattle.coord_core.specs.declared.terms.Terms.{Terms}
use Rattle.coord_core.specs.declared.event.Event.{Event}
use Rattle.coord_core.specs.State.{State}
use Rattle.coord_core.specs.Effect.{effect}
use Rattle.coord_core.specs.Decide.{may_ask, actions_of}
use Rattle.coord_core.specs.Run.{first, opened, step, run_from, is_awaited}
use Rattle.coord_core.specs.Laws.{gen_or, gen_by, asking_by}
use Rattle.coord_core.specs.Core.{CoreState, core_state, state_in, after_event}
use Rattle.coord_core.proofs.Acted.{acted}
use Rattle.coord_core.proofs.Told.{told}
use Rattle.coord_core.proofs.Sound.{run-spare}
use Rattle.coord_core.proofs.Continued.{run-snoc, lawful-snoc, room-told}
use Rattle.coord_run.specs.declared.driven.Entry.{Entry}
use Rattle.coord_run.specs.declared.pending.Pending.{Pending}
use Rattle.coord_run.specs.Turns.{ask_first_by, ask_first_after, ask_first_from, ask_first, IsTurn, AreTurns}
use Rattle.coord_run.specs.Pending.{no_pending, pending_after, IsPending}
use Rattle.coord_run.specs.Journal.{events_of}
use Rattle.coord_run.specs.Books.{IsBooks}

pub events-snoc : (es : List Entry) (x : Entry) → events_of (es ++ x ∷ []) ≡ events_of es ++ x.event ∷ []
events-snoc [] x = refl
events-snoc (y ∷ ys) x = ap (λ (l : List Event). y.event ∷ l) (events-snoc ys x)

pub events-length : (es : List Entry) → length (events_of es) ≡ length es
events-length [] = refl
events-length (x ∷ xs) = let h = events-length xs in omega arith

-- the order of an ask and a generation after one event more
pub first-snoc : (s : State) (first : Bool) (es : List Event) (e : Event) → ask_first_from s first (es ++ e ∷ []) ≡ ask_first_after (run_from s es) e (ask_first_from s first es)
first-snoc s first [] e = refl
first-snoc s first (x ∷ xs) e = first-snoc (step s x) (ask_first_after s x first) xs e

pub turns-snoc : (s : State) (first : Bool) (es : List Event) (e : Event) → AreTurns s first es → IsTurn e (run_from s es) (ask_first_from s first es) → AreTurns s first (es ++ e ∷ [])
turns-snoc s first [] e h turn = (turn, tt)
turns-snoc s first (x ∷ xs) e h turn = (h.0, turns-snoc (step s x) (ask_first_after s x first) xs e h.1 turn)

-- what waits after an event that leaves no byte being given
pub pending-step : (e : Event) (s : State) (first : Bool) (p : Pending) → is_awaited s e ≡ true → s.spare ≡ None → (effect e s).giving ≡ [] → IsPending s first p → IsPending (step s e) (ask_first_after s e first) (pending_after e (actions_of (may_ask e) (effect e s)) p)
pending-step e s first p out spare given h =
    let a = acted (may_ask e) (effect e s) in
    let t = told e s out spare in
    let acts = actions_of (may_ask e) (effect e s) in
    record {
      give = a.giving ∙ ap (λ (l : List ℕ). l ++ option_to_list acts.give) given;
      generate = a.gen ∙ ap (λ (g : Option ℕ). gen_or acts.main g) (t.gen ∙ ap (λ (g : Option ℕ). gen_by e g) h.generate);
      ask = a.asking ∙ ap (λ (b : Bool). b || acts.ask) (t.asking ∙ ap (λ (b : Bool). asking_by e b) h.ask);
      ask_first_is = ap (λ (b : Bool). ask_first_by acts.main b first) (t.asking ∙ ap (λ (b : Bool). asking_by e b) h.ask) ∙ ap (λ (b : Bool). ask_first_by acts.main (asking_by e p.ask) b) h.ask_first_is;
    }

-- the journal has room for an awaited event
pub entry-room : (core : CoreState) (entries : List Entry) (room os ps lost : ℕ) (p : Pending) (e : Event) → IsBooks core entries room os ps lost p → is_awaited (state_in core) e ≡ true → length entries < room
entry-room core entries room os ps lost p e h out =
    let r = room-told core.terms core.journal e h.lawful out in
    let j : length core.journal ≡ length (events_of entries) = ap (λ (k : List Event). length k) h.journal in
    let k = events-length entries in let s = h.room_is in omega arith

pub fed-books : (core : CoreState) (entries : List Entry) (room os ps lost : ℕ) (p : Pending) (x : Entry) → IsBooks core entries room os ps lost p → is_awaited (state_in core) x.event ≡ true → (effect x.event (state_in core)).giving ≡ []
    → IsBooks (after_event x.event core) (entries ++ x ∷ []) room os ps lost (pending_after x.event (actions_of (may_ask x.event) (effect x.event (state_in core))) p)
fed-books core entries room os ps lost p x h out given =
    let e = x.event in
    record {
      journal = ap (λ (l : List Event). l ++ e ∷ []) h.journal ∙ sym (events-snoc entries x);
      lawful = lawful-snoc core.terms core.journal e h.lawful out;
      room_is = h.room_is;
      width = h.width;
      part_width = h.part_width;
      lost_is = h.lost_is;
      pending_is = subst (λ (f : Bool). IsPending (state_in (after_event e core)) f (pending_after e (actions_of (may_ask e) (effect e (state_in core))) p)) (sym (first-snoc (opened core.terms) false core.journal e))
          (subst (λ (s : State). IsPending s (ask_first_after (state_in core) e (ask_first core.terms core.journal)) (pending_after e (actions_of (may_ask e) (effect e (state_in core))) p)) (sym (run-snoc core.terms core.journal e)) (pending-step e (state_in core) (ask_first core.terms core.journal) p out (run-spare core.terms core.journal) given h.pending_is));
    }

pub new-books : (terms : Terms) (room os ps lost : ℕ) → 8 * terms.units ≤ room → os ≡ terms.units → ps ≡ terms.units → 3 * terms.units ≤ lost → IsBooks (core_state terms []) [] room os ps lost (no_pending (actions_of true (first terms)))
new-books terms room os ps lost large w pw lost_large =
    let a = acted true (first terms) in
    record { journal = refl; lawful = tt; room_is = large; width = w; part_width = pw; lost_is = lost_large; pending_is = record { give = a.giving; generate = a.gen; ask = a.asking; ask_first_is = refl } }

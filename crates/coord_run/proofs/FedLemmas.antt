-- An event keeps what ties the books, the desk and the pool, if it changed each of them as it should.
use Rattle.std.proofs.Common.{◌≡◌, ℕ, ◌+◌, ◌≤◌, max, true, false, List, [], ◌∷◌, ◌++◌, length, append_assoc, Option, All, sym, ap, ◌∙◌, subst}
use Rattle.std.proofs.lemmas.List.Elements.{All-push}
use Rattle.lease_table.specs.declared.reading.Reading.{Reading}
use Rattle.lease_table.specs.Desk.{DeskState}
use Rattle.token_pool.specs.Pool.{PoolState}
use Rattle.coord_core.specs.declared.terms.Terms.{Terms}
use Rattle.coord_core.specs.declared.event.Event.{Event}
use Rattle.coord_core.specs.State.{State}
use Rattle.coord_core.specs.Effect.{effect}
use Rattle.coord_core.specs.Decide.{may_ask, actions_of}
use Rattle.coord_core.specs.Run.{opened, step, run, is_awaited, Lawful}
use Rattle.coord_core.specs.Journal.{lost_by, lost, jobs_by}
use Rattle.coord_core.specs.Laws.{ended_by}
use Rattle.coord_core.proofs.Continued.{run-snoc, lawful-snoc}
use Rattle.coord_run.specs.declared.driven.Entry.{Entry}
use Rattle.coord_run.specs.declared.driven.Made.{Made as Outcome}
use Rattle.coord_run.specs.Meaning.{Meaning}
use Rattle.coord_run.specs.Journal.{events_of, reading_by, readings_of, unit_of, held_in, greatest, IsRead, jobs_ended, HasCost, Empties}
use Rattle.coord_run.specs.Outcomes.{outcomes_of, outcome_at, TellsOne}
use Rattle.coord_run.specs.Driven.{Called}
use Rattle.coord_run.specs.Turns.{IsTurn, InTurn}
use Rattle.coord_run.specs.Books.{BooksState, state_of, ask_first_of, fed}
use Rattle.coord_run.specs.Tied.{Start, Paid, HasParts, Noted, Tied}
use Rattle.coord_run.proofs.Runs.{events-snoc, turns-snoc}
use Rattle.coord_run.proofs.JournalLemmas.{gather-snoc, readings-snoc, greatest-most, readings-more, ended-snoc}
use Rattle.coord_run.proofs.PoolLemmas.{CalledBy, EmptyNow, called-snoc, empties-snoc}
use Rattle.coord_run.proofs.PaidLemmas.{paid-decided, parts-decided}

module _ {P F : Type 0} where
  -- the books with these outcomes, parts, lost bytes and tally
  abbrev pub changed : List (Outcome F) → List (Option P) → List ℕ → ℕ → BooksState P F → BooksState P F
  changed outcomes parts bytes tally b = record b { outcomes = outcomes; parts = parts; lost = bytes; tally = tally }

  -- what an event leaves, before the decisions on it
  pub record Feeds (c : Start P F) (b : BooksState P F) (e : Event) (r : Option Reading) (outcomes : List (Outcome F)) (parts : List (Option P)) (bytes : List ℕ) (tally : ℕ) (d d' : DeskState) (p p' : PoolState) (waiting : ℕ) : Type 0 where
    pub awaited : is_awaited (state_of b) e ≡ true
    pub turn : IsTurn e (state_of b) (ask_first_of b)
    pub table : d'.table ≡ d.table
    pub lost_more : bytes ≡ b.lost ++ lost_by e
    pub paid : Paid (effect e (state_of b)) [] d' waiting
    pub called : CalledBy p e p'
    pub empty : EmptyNow c.pool.free (events_of b.entries) e
    pub cost : HasCost c.meaning e
    pub has : HasParts c.meaning parts (effect e (state_of b)) []
    pub more : tally ≡ b.tally + length (ended_by e (state_of b).gen)
    pub width : length outcomes ≡ b.terms.units
    pub part_width : length parts ≡ b.terms.units
    pub most : d'.peak ≤ max d.peak (held_in (effect e (state_of b)))
    pub seen : d'.seen ≡ d.seen ++ reading_by (unit_of e) r
    pub read : IsRead d.peak (unit_of e) r
    pub tells : (x : ℕ) → TellsOne c.meaning x (outcomes_of x (events_of b.entries ++ e ∷ [])) (outcome_at outcomes x)

  noted-fed : (m : Meaning P F) (terms : Terms) (before : DeskState) (entries : List Entry) (os os' : List (Outcome F)) (peak peak' : ℕ) (seen seen' : List (Option ℕ × Reading)) (e : Event) (r : Option Reading)
      → Noted m terms before entries os peak seen → HasCost m e → peak' ≤ max peak (held_in (effect e (run terms (events_of entries)))) → seen' ≡ seen ++ reading_by (unit_of e) r → IsRead peak (unit_of e) r
      → ((x : ℕ) → TellsOne m x (outcomes_of x (events_of entries ++ e ∷ [])) (outcome_at os' x))
      → Noted m terms before (entries ++ record { event = e; reading = r } ∷ []) os' peak' seen'
  noted-fed m terms before entries os os' peak peak' seen seen' e r h cost le at read tells =
      let x : Entry = record { event = e; reading = r } in
      let es = events-snoc entries x in
      record {
        costs = subst (λ (l : List Event). All (HasCost m) l) (sym es) (All-push (HasCost m) (events_of entries) e h.costs cost);
        readings = readings-more terms entries x peak h.readings h.most read;
        most = subst (λ (l : List Event). peak' ≤ greatest terms l) (sym es) (greatest-most terms (events_of entries) e peak peak' h.most le);
        seen_is = at ∙ ap (λ (z : List (Option ℕ × Reading)). z ++ reading_by (unit_of e) r) h.seen_is ∙ append_assoc before.seen (readings_of entries) (reading_by (unit_of e) r) ∙ ap (λ (z : List (Option ℕ × Reading)). before.seen ++ z) (sym (readings-snoc entries x));
        tells = λ i. subst (λ (l : List Event). TellsOne m i (outcomes_of i l) (outcome_at os' i)) (sym es) (tells i);
      }

  module _ (c : Start P F) (b : BooksState P F) (e : Event) (r : Option Reading) (outcomes : List (Outcome F)) (parts : List (Option P)) (bytes : List ℕ) (tally : ℕ) (d d' : DeskState) (p p' : PoolState) (waiting waiting' : ℕ) where
    pub fed-ties : Tied c b [] d p waiting → Feeds c b e r outcomes parts bytes tally d d' p p' waiting' → Tied c (fed e r (changed outcomes parts bytes tally b)) (jobs_by (actions_of (may_ask e) (effect e (state_of b)))) d' p' waiting'
    fed-ties h f =
        let es = events_of b.entries in
        let s = state_of b in
        let x : Entry = record { event = e; reading = r } in
        let due = jobs_by (actions_of (may_ask e) (effect e s)) in
        let events = events-snoc b.entries x in
        let now : state_of (fed e r (changed outcomes parts bytes tally b)) ≡ step s e = ap (run b.terms) events ∙ run-snoc b.terms es e in
        record {
          table = f.table ∙ h.table;
          sized = record { units = h.sized.units; terms_are = h.sized.terms_are; some_lane = h.sized.some_lane; most_lanes = h.sized.most_lanes; most_units = h.sized.most_units; width = f.width; part_width = f.part_width };
          lawful = subst (λ (l : List Event). Lawful b.terms l) (sym events) (lawful-snoc b.terms es e h.lawful f.awaited);
          turns = subst (λ (l : List Event). InTurn b.terms l) (sym events) (turns-snoc (opened b.terms) false es e h.turns f.turn);
          noted = noted-fed c.meaning b.terms c.desk b.entries b.outcomes outcomes d.peak d'.peak d.seen d'.seen e r h.noted f.cost f.most f.seen f.read f.tells;
          paid = subst (λ (z : State). Paid z due d' waiting') (sym now) (paid-decided (may_ask e) (effect e s) d' waiting' f.paid);
          pooled = record {
            called = subst (λ (l : List Event). Called c.pool l p') (sym events) (called-snoc c.pool p p' es e h.pooled.called f.called);
            empties = subst (λ (l : List Event). Empties c.pool.free l) (sym events) (empties-snoc c.pool.free es e h.pooled.empties f.empty);
            lost_are = f.lost_more ∙ ap (λ (l : List ℕ). l ++ lost_by e) h.pooled.lost_are ∙ sym (gather-snoc lost_by es e) ∙ ap lost (sym events);
          };
          tally = f.more ∙ ap (λ (k : ℕ). k + length (ended_by e s.gen)) h.tally ∙ sym (ended-snoc b.terms es e) ∙ ap (jobs_ended b.terms) (sym events);
          parts = subst (λ (z : State). HasParts c.meaning parts z due) (sym now) (parts-decided c.meaning parts (may_ask e) (effect e s) f.has);
        }

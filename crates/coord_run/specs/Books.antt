-- What contracts see of the books of a session, and how each call changes them. No promise, but for the code and its proof alone.
use Rattle.std.specs.Prelude.{◌≡◌, ℕ, ◌+◌, ◌*◌, ◌≤◌, Bool, List, [], ◌∷◌, ◌++◌, length, slice_set, slice_index_or, All, Option, None}
use Rattle.lease_table.specs.declared.reading.Reading.{Reading}
use Rattle.coord_core.specs.declared.terms.Terms.{Terms}
use Rattle.coord_core.specs.declared.event.Event.{Event}
use Rattle.coord_core.specs.State.{State}
use Rattle.coord_core.specs.Run.{run, Lawful}
use Rattle.coord_core.specs.Core.{CoreState, state_in}
use Rattle.coord_run.specs.declared.driven.Entry.{Entry}
use Rattle.coord_run.specs.declared.driven.Made.{Made}
use Rattle.coord_run.specs.declared.driven.Made.TheVariants.{Skipped}
use Rattle.coord_run.specs.declared.pending.Pending.{Pending}
use Rattle.coord_run.specs.Journal.{events_of}
use Rattle.coord_run.specs.Turns.{ask_first}
use Rattle.coord_run.specs.Pending.{IsPending}

-- terms: those of the run. entries: the journal so far. outcomes: what came of each unit. parts: what was generated and not yet made. lost: bytes that could not be given back. tally: jobs that ended
pub record BooksState (P F : Type 0) : Type 0 where
  pub terms : Terms
  pub entries : List Entry
  pub outcomes : List (Made F)
  pub parts : List (Option P)
  pub lost : List ℕ
  pub tally : ℕ

module _ {P : Type 0} where
  abbrev pub part_at : List (Option P) → ℕ → Option P
  part_at parts x = slice_index_or parts x None

module _ {P F : Type 0} where
  abbrev pub books_state : CoreState → List Entry → List (Made F) → List (Option P) → List ℕ → ℕ → BooksState P F
  books_state core entries outcomes parts lost tally = record { terms = core.terms; entries = entries; outcomes = outcomes; parts = parts; lost = lost; tally = tally }

  -- the coordinator's state after the journal
  abbrev pub state_of : BooksState P F → State
  state_of b = run b.terms (events_of b.entries)

  -- whether an ask is out that was decided before the generation that is out
  abbrev pub ask_first_of : BooksState P F → Bool
  ask_first_of b = ask_first b.terms (events_of b.entries)

  -- one entry more
  abbrev pub fed : Event → Option Reading → BooksState P F → BooksState P F
  fed e r b = record b { entries = b.entries ++ record { event = e; reading = r } ∷ [] }

  -- this came of unit x
  abbrev pub settled : ℕ → Made F → BooksState P F → BooksState P F
  settled x outcome b = record b { outcomes = slice_set b.outcomes x outcome }

  -- this is there of unit x
  abbrev pub parted : ℕ → Option P → BooksState P F → BooksState P F
  parted x part b = record b { parts = slice_set b.parts x part }

  -- so many makes more
  abbrev pub counted : ℕ → BooksState P F → BooksState P F
  counted makes b = record b { tally = b.tally + makes }

  -- one lost byte more
  abbrev pub losing : ℕ → BooksState P F → BooksState P F
  losing byte b = record b { lost = b.lost ++ byte ∷ [] }

  -- new books, in which nothing stands
  pub record IsNew (terms : Terms) (b : BooksState P F) : Type 0 where
    pub terms_are : b.terms ≡ terms
    pub entries : b.entries ≡ []
    pub lost : b.lost ≡ []
    pub tally : b.tally ≡ 0
    pub width : length b.outcomes ≡ terms.units
    pub part_width : length b.parts ≡ terms.units
    pub skipped : All (λ o. o ≡ Skipped) b.outcomes

-- the journal is the coordinator's, with room for each entry and each lost byte that can come, and the pending actions are those that its state waits for
pub record IsBooks (core : CoreState) (entries : List Entry) (room outcomes parts lost_room : ℕ) (pending : Pending) : Type 0 where
  pub journal : core.journal ≡ events_of entries
  pub lawful : Lawful core.terms core.journal
  pub room_is : 8 * core.terms.units ≤ room
  pub width : outcomes ≡ core.terms.units
  pub part_width : parts ≡ core.terms.units
  pub lost_is : 3 * core.terms.units ≤ lost_room
  pub pending_is : IsPending (state_in core) (ask_first core.terms core.journal) pending

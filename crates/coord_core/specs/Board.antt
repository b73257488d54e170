-- How the code's fields show the state. No promise, but for the code and its proof alone.
use Rattle.std.specs.Prelude.{◌*◌, ◌≤◌, vec_capacity}
use Rattle.coord_core.specs.declared.board.Board.{Board}
use Rattle.coord_core.specs.State.{State}

-- the state that the fields hold
abbrev pub state_of : Board → State
state_of b = record {
  terms = b.terms;
  next = b.next;
  gen = b.generating;
  queue = b.queue.items;
  running = b.running.items;
  bar = b.bar;
  asks = b.asks;
  asking = b.asking;
  giving = b.giving.items;
  spare = b.spare;
}

-- the lists have memory for all that they can hold
pub record HasRoom (b : Board) : Type 0 where
  pub queue : b.terms.units ≤ vec_capacity b.queue
  pub running : 64 ≤ vec_capacity b.running
  pub giving : 3 * b.terms.units ≤ vec_capacity b.giving

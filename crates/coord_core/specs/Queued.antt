-- What the queue's ends are. No promise, but for the code and its proof alone.
use Rattle.std.specs.Prelude.{ℕ, List, [], ◌∷◌, Option, Some, None}
use Rattle.coord_core.specs.declared.queue.Queued.{Queued}

-- the unit at the head of the queue
abbrev pub head_of : List Queued → Option ℕ
head_of [] = None
head_of (e ∷ es) = Some e.unit

-- what stands behind it
abbrev pub rest_of : List Queued → List Queued
rest_of [] = []
rest_of (e ∷ es) = es

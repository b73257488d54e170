-- What a pass of a pool in memory knows, and what its view counts for.
use Rattle.std.specs.Prelude.{ℕ, ◌≤◌, [], length}
use Rattle.counting.specs.Count.{times}
use Rattle.token_pool.specs.declared.view.Hand.{Hand}
use Rattle.token_pool.specs.declared.view.View.{View}
use Rattle.token_pool.specs.declared.view.View.TheVariants.{OfPool, OfPass, Spent}

abbrev pub no_hand : Hand
no_hand = record { bytes = []; owed = [] }

-- the hand of a view; nothing, once it is spent
abbrev pub hand_of : View → Hand
hand_of (OfPool hand passes) = hand
hand_of (OfPass hand) = hand
hand_of Spent = no_hand

-- how many passes the pool's own view counts
abbrev pub passes_of : View → ℕ
passes_of (OfPool hand passes) = passes
passes_of (OfPass hand) = 0
passes_of Spent = 0

-- 1 for a pass that is out
abbrev pub pass_of : View → ℕ
pass_of (OfPool hand passes) = 0
pass_of (OfPass hand) = 1
pass_of Spent = 0

-- how often a view owes the byte x, and how many bytes it owes
abbrev pub owed_of : ℕ → View → ℕ
owed_of x v = times x (hand_of v).owed

abbrev pub owes_of : View → ℕ
owes_of v = length (hand_of v).owed

-- no byte is owed more often than the pool was made with
abbrev pub IsCovered : Hand → Type 0
IsCovered hand = (x : ℕ) → times x hand.owed ≤ times x hand.bytes

-- a view that is not spent
abbrev pub IsLive : View → Type 0
IsLive (OfPool hand passes) = Unit {0}
IsLive (OfPass hand) = Unit {0}
IsLive Spent = ⊥

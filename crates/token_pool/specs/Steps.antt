-- The steps of a pool in memory: which views each changes and how, and what it tells.
use Rattle.std.specs.Prelude.{◌≡◌, ℕ, zero, suc, ◌+◌, ◌-◌, ◌≤◌, List, [], ◌∷◌, ◌++◌, length}
use Rattle.counting.specs.Count.{times, without}
use Rattle.token_pool.specs.declared.view.Hand.{Hand}
use Rattle.token_pool.specs.declared.view.View.{View}
use Rattle.token_pool.specs.declared.view.View.TheVariants.{OfPool, OfPass, Spent}
use Rattle.token_pool.specs.View.{no_hand, hand_of, IsCovered}

-- the pool's own view at the start: made with no byte yet, and no pass out
abbrev pub opened : View
opened = OfPool no_hand 0

-- the same once it is made with these bytes
abbrev pub filled : List ℕ → View
filled bytes = OfPool (record { bytes = bytes; owed = [] }) 0

-- a change of a view's hand
abbrev pub on_hand : (Hand → Hand) → View → View
on_hand f (OfPool hand passes) = OfPool (f hand) passes
on_hand f (OfPass hand) = OfPass (f hand)
on_hand f Spent = Spent

-- one byte more that the pool is made with
abbrev pub hand_filled : ℕ → Hand → Hand
hand_filled byte hand = record hand { bytes = hand.bytes ++ byte ∷ [] }

abbrev pub hand_took : ℕ → Hand → Hand
hand_took byte hand = record hand { owed = hand.owed ++ byte ∷ [] }

abbrev pub hand_gave : ℕ → Hand → Hand
hand_gave byte hand = record hand { owed = without byte hand.owed }

-- a push that fills the pool
abbrev pub Filled : View → ℕ → View → Type 0
Filled v byte w = w ≡ on_hand (hand_filled byte) v

-- a pop
abbrev pub Took : View → ℕ → View → Type 0
Took v byte w = (w ≡ on_hand (hand_took byte) v) × IsCovered (hand_of w)

-- a push of a byte that was owed
abbrev pub Gave : View → ℕ → View → Type 0
Gave v byte w = w ≡ on_hand (hand_gave byte) v

-- what a look at the free bytes tells: those and what this pass owes are no more than the pool was made with
abbrev pub HasRoom : View → List ℕ → Type 0
HasRoom v free = length free + length (hand_of v).owed ≤ length (hand_of v).bytes

-- the same while no pass is out: each byte is free or owed by the pool itself
abbrev pub Accounts : View → List ℕ → Type 0
Accounts (OfPool hand zero) free = (x : ℕ) → times x hand.bytes ≡ times x free + times x hand.owed
Accounts (OfPool hand (suc passes)) free = Unit {0}
Accounts (OfPass hand) free = Unit {0}
Accounts Spent free = Unit {0}

-- a new pass goes out, and owes nothing
abbrev pub pool_side : View → View
pool_side (OfPool hand passes) = OfPool hand (passes + 1)
pool_side (OfPass hand) = OfPass hand
pool_side Spent = Spent

abbrev pub pass_side : View → View
pass_side v = OfPass (record (hand_of v) { owed = [] })

-- a pass comes back
abbrev pub both_sides : View → View → View
both_sides (OfPool hand passes) w = OfPool hand (passes - 1)
both_sides (OfPass hand) w = OfPass hand
both_sides Spent w = Spent

-- What is known of slots, and when it is forgotten.
use Rattle.std.specs.Prelude.{ℕ, ℤ, ◌==◌, Bool, true, false, if◌then◌else◌}
use Rattle.unit_ir.specs.Exprs.{PlainExpr, word, load}
use Rattle.opt_slots.specs.Slots.{no_slot}

-- what is known of one slot: nothing, that it holds this word, or that it holds what that other slot holds
pub data PlainFact : Type 0 where
  nothing : PlainFact
  is_word : ℤ → PlainFact
  is_load : ℕ → PlainFact

unfoldable pub nothing_known : ℕ → PlainFact
nothing_known s = nothing

-- a fact that names a slot of a set is forgotten
abbrev pub unless_named : (ℕ → Bool) → PlainFact → PlainFact
unless_named gone nothing = nothing
unless_named gone (is_word v) = is_word v
unless_named gone (is_load t) = if gone t then nothing else is_load t

-- words were put into the slots of a set: facts on them and facts that name them are forgotten
unfoldable pub forget : (ℕ → Bool) → (ℕ → PlainFact) → ℕ → PlainFact
forget gone facts s = if gone s then nothing else unless_named gone (facts s)

-- this is known of a slot from now on
unfoldable pub with_fact : ℕ → PlainFact → (ℕ → PlainFact) → ℕ → PlainFact
with_fact s fact facts k = if k == s then fact else facts k

-- a slot got the word of this expression: a constant is known, and so is the word of another slot
abbrev pub learn : ℕ → PlainExpr → (ℕ → PlainFact) → ℕ → PlainFact
learn s (word v) facts = with_fact s (is_word v) facts
learn s (load t) facts = if t == s then facts else with_fact s (is_load t) facts
learn s e facts = facts

-- what stands for a load of a slot where this is known of it
abbrev pub in_place : ℕ → PlainFact → PlainExpr
in_place s nothing = load s
in_place s (is_word v) = word v
in_place s (is_load t) = load t

-- a set, or no slot
abbrev pub if_so : Bool → (ℕ → Bool) → ℕ → Bool
if_so true a = a
if_so false a = no_slot

-- The moves at a pass whose view is known, and what they make of what a pool tells.
use Rattle.std.proofs.Common.{◌≡◌, ℕ, zero, suc, ◌+◌, ◌-◌, ◌≤◌, eqb, List, [], ◌∷◌, sym, refl, ap, ◌∙◌, subst, arith}
use Rattle.counting.specs.Count.{one_if, times, without}
use Rattle.counting.proofs.Count.{one_if-same, times-snoc, times-without, times-length}
use Rattle.atomic_table.specs.Seated.{TableId}
use Rattle.crossbeam_queue.specs.Fifo.{Pushes, Forks, Merges, Learns, Held}
use Rattle.token_pool.specs.declared.pool.Take.{Take}
use Rattle.token_pool.specs.declared.pool.Take.TheVariants.{Byte, Empty}
use Rattle.token_pool.specs.declared.pool.Given.TheVariants.{Done}
use Rattle.token_pool.specs.declared.view.Hand.{Hand}
use Rattle.token_pool.specs.declared.view.View.{View}
use Rattle.token_pool.specs.declared.view.View.TheVariants.{OfPool, OfPass, Spent}
use Rattle.token_pool.specs.Pool.{Bag, no_byte, one_byte, Moved, FreeMoved, NoneFree, TakenBy, GivenBy}
use Rattle.token_pool.specs.View.{hand_of, passes_of, IsLive}
use Rattle.token_pool.specs.Rule.{Ruled}
use Rattle.token_pool.specs.Steps.{hand_took, Filled, Took, Gave, HasRoom, Accounts, pool_side, pass_side, both_sides}
use Rattle.token_pool.specs.Memory.{MemoryState, PassState, memory_state, pass_state, told_alone, memory_told, pass_told, IsPool, IsPass}
use Rattle.token_pool.proofs.Moves.{fills, has_room, forks, merges}

pub IsPool-live : (v : View) (room : ℕ) → IsPool v room → IsLive v
IsPool-live v room known = subst IsLive (sym known.own) tt

pub IsPass-live : (v : View) (room : ℕ) → IsPass v room → IsLive v
IsPass-live v room known = subst IsLive (sym known.out) tt

pub fills_at : (n seat : ℕ) (v : View) (hand : Hand) (byte : ℕ) → v ≡ OfPool hand 0 → Pushes Ruled n seat v byte (Filled v byte) × Learns Ruled seat v (HasRoom v)
fills_at n seat v hand byte is = subst (λ (z : View). Pushes Ruled n seat z byte (Filled z byte) × Learns Ruled seat z (HasRoom z)) (sym is) (fills n seat hand byte, has_room seat (OfPool hand 0) tt)

pub forks_at : (seat : ℕ) (v : View) (hand : Hand) (out : ℕ) → v ≡ OfPool hand out → Forks Ruled seat v (pool_side v) (pass_side v)
forks_at seat v hand out is = subst (λ (z : View). Forks Ruled seat z (pool_side z) (pass_side z)) (sym is) (forks seat hand out)

pub merges_at : (seat : ℕ) (v : View) (hand : Hand) (out other : ℕ) (w : View) (back : Hand) → v ≡ OfPool hand out → w ≡ OfPass back → back.owed ≡ [] → Merges Ruled seat v other w (both_sides v w) Spent
merges_at seat v hand out other w back is w_is settled = subst (λ (z : View × View). Merges Ruled seat z.0 other z.1 (both_sides z.0 z.1) Spent) (λ i. ((sym is) i, (sym w_is) i)) (merges seat hand out other back settled)

-- a list in which no number stands is empty
pub times-none : (l : List ℕ) → ((x : ℕ) → times x l ≡ 0) → l ≡ []
times-none [] none = refl
times-none (y ∷ l) none = let h = none y in let same = one_if-same y in absurd (omega arith)

-- what is owed after a take and after a give
owed_took : (v w : View) (byte : ℕ) → IsLive v → Took v byte w → (x : ℕ) → times x (hand_of w).owed ≡ times x (hand_of v).owed + one_if (eqb x byte)
owed_took (OfPool hand out) w byte live took x = let s = times-snoc x byte hand.owed in ap (λ (z : View). times x (hand_of z).owed) took.0 ∙ s
owed_took (OfPass hand) w byte live took x = let s = times-snoc x byte hand.owed in ap (λ (z : View). times x (hand_of z).owed) took.0 ∙ s
owed_took Spent w byte live took x = absurd live

owed_gave : (v w : View) (byte : ℕ) → IsLive v → 1 ≤ times byte (hand_of v).owed → Gave v byte w → (x : ℕ) → times x (hand_of w).owed + one_if (eqb x byte) ≡ times x (hand_of v).owed
owed_gave (OfPool hand out) w byte live owed gave x = let e : times x (hand_of w).owed ≡ times x (without byte hand.owed) = ap (λ (z : View). times x (hand_of z).owed) gave in let t = times-without x byte hand.owed owed in omega arith
owed_gave (OfPass hand) w byte live owed gave x = let e : times x (hand_of w).owed ≡ times x (without byte hand.owed) = ap (λ (z : View). times x (hand_of z).owed) gave in let t = times-without x byte hand.owed owed in omega arith
owed_gave Spent w byte live owed gave x = absurd live

pub pass_took : (q : TableId) (v w : View) (byte room : ℕ) (s : PassState) (answer : Take) → answer ≡ Byte byte → IsPass v room → Took v byte w → pass_state q v ≡ s → TakenBy (pass_told s) answer (pass_told (pass_state q w))
pass_took q v w byte room s answer answered known took is = subst (λ (z : PassState × Take). TakenBy (pass_told z.0) z.1 (pass_told (pass_state q w))) (λ i. (is i, sym answered i))
    (record { owed = λ x. let o = owed_took v w byte (IsPass-live v room known) took x in omega arith; free = tt; taken = tt; faults = omega arith }, refl)

pub pass_empty : (q : TableId) (v w : View) (s : PassState) (answer : Take) → answer ≡ Empty → w ≡ v → pass_state q v ≡ s → TakenBy (pass_told s) answer (pass_told (pass_state q w))
pass_empty q v w s answer answered same is = subst (λ (z : PassState × Take). TakenBy (pass_told z.0) z.1 (pass_told (pass_state q w))) (λ i. (is i, sym answered i))
    (record { owed = λ x. let o : times x (hand_of w).owed ≡ times x (hand_of v).owed = ap (λ (z : View). times x (hand_of z).owed) same in omega arith; free = tt; taken = tt; faults = omega arith }, refl, tt)

pub pass_gave : (q : TableId) (v w : View) (byte room : ℕ) (s : PassState) → IsPass v room → 1 ≤ times byte (hand_of v).owed → Gave v byte w → pass_state q v ≡ s → GivenBy (pass_told s) byte Done (pass_told (pass_state q w))
pass_gave q v w byte room s known owed gave is = subst (λ (z : PassState). GivenBy (pass_told z) byte Done (pass_told (pass_state q w))) is
    (record { owed = λ x. let o = owed_gave v w byte (IsPass-live v room known) owed gave x in omega arith; free = tt; taken = tt; faults = omega arith }, refl)

-- what is told while no pass is out moves as the bag does
told_alone-moved : (passes passes' : ℕ) (before gains loses after : Bag) → passes' ≡ passes → Moved before gains loses after → FreeMoved (told_alone passes before) gains loses (told_alone passes' after)
told_alone-moved zero zero before gains loses after same moved = moved
told_alone-moved zero (suc n) before gains loses after same moved = absurd (omega arith)
told_alone-moved (suc n) passes' before gains loses after same moved = tt

pub memory_took : (q : TableId) (v w : View) (byte room : ℕ) (s : MemoryState) (answer : Take) → answer ≡ Byte byte → IsPool v room → Took v byte w → memory_state q v ≡ s → TakenBy (memory_told s) answer (memory_told (memory_state q w))
memory_took q (OfPool hand out) w byte room s answer answered known took is = subst (λ (z : View × MemoryState × Take). TakenBy (memory_told z.1) z.2 (memory_told (memory_state q z.0))) (λ i. (sym took.0 i, is i, sym answered i)) (
  record {
    owed = λ x. let t = times-snoc x byte hand.owed in omega arith;
    free = told_alone-moved out out (λ x. times x hand.bytes - times x hand.owed) no_byte (one_byte byte) (λ x. times x hand.bytes - times x (hand_took byte hand).owed) refl
        (λ x. let t = times-snoc x byte hand.owed in let c = covered x in omega arith);
    taken = tt;
    faults = omega arith;
  },
  refl,
)
  where
    covered : (x : ℕ) → times x (hand_took byte hand).owed ≤ times x hand.bytes
    covered x = subst (λ (z : View). times x (hand_of z).owed ≤ times x (hand_of z).bytes) took.0 (took.1 x)
memory_took q (OfPass hand) w byte room s answer answered known took is = let own = known.own in absurd (cc)
memory_took q Spent w byte room s answer answered known took is = let own = known.own in absurd (cc)

none_free : (v : View) (room : ℕ) → IsPool v room → Held 0 (Accounts v) → NoneFree (told_alone (passes_of v) (λ x. times x (hand_of v).bytes - times x (hand_of v).owed))
none_free (OfPool hand zero) room known held = λ x. let a = held.2 x in let l = held.1 in let t = times-length x held.0 in omega arith
none_free (OfPool hand (suc out)) room known held = tt
none_free (OfPass hand) room known held = let own = known.own in absurd (cc)
none_free Spent room known held = let own = known.own in absurd (cc)

pub memory_empty : (q : TableId) (v w : View) (room : ℕ) (s : MemoryState) (answer : Take) → answer ≡ Empty → IsPool v room → w ≡ v → Held 0 (Accounts v) → memory_state q v ≡ s → TakenBy (memory_told s) answer (memory_told (memory_state q w))
memory_empty q v w room s answer answered known same held is = subst (λ (z : View × MemoryState × Take). TakenBy (memory_told z.1) z.2 (memory_told (memory_state q z.0))) (λ i. (sym same i, is i, sym answered i)) (
  record {
    owed = λ x. omega arith;
    free = told_alone-moved (passes_of v) (passes_of v) (λ x. times x (hand_of v).bytes - times x (hand_of v).owed) no_byte no_byte (λ x. times x (hand_of v).bytes - times x (hand_of v).owed) refl (λ x. omega arith);
    taken = tt;
    faults = omega arith;
  },
  refl,
  none_free v room known held,
)

pub memory_gave : (q : TableId) (v w : View) (byte room : ℕ) (s : MemoryState) → IsPool v room → 1 ≤ times byte (hand_of v).owed → Gave v byte w → memory_state q v ≡ s → GivenBy (memory_told s) byte Done (memory_told (memory_state q w))
memory_gave q (OfPool hand out) w byte room s known owed gave is = subst (λ (z : View × MemoryState). GivenBy (memory_told z.1) byte Done (memory_told (memory_state q z.0))) (λ i. (sym gave i, is i)) (
  record {
    owed = λ x. let t = times-without x byte hand.owed owed in omega arith;
    free = told_alone-moved out out (λ x. times x hand.bytes - times x hand.owed) (one_byte byte) no_byte (λ x. times x hand.bytes - times x (without byte hand.owed)) refl
        (λ x. let t = times-without x byte hand.owed owed in let c = known.covered x in omega arith);
    taken = tt;
    faults = omega arith;
  },
  refl,
)
memory_gave q (OfPass hand) w byte room s known owed gave is = let own = known.own in absurd (cc)
memory_gave q Spent w byte room s known owed gave is = let own = known.own in absurd (cc)

pub IsPool-gave : (v w : View) (byte room : ℕ) → IsPool v room → 1 ≤ times byte (hand_of v).owed → Gave v byte w → IsPool w room
IsPool-gave (OfPool hand out) w byte room known owed gave = subst (λ (z : View). IsPool z room) (sym gave)
    (record { own = refl; covered = λ x. let t = times-without x byte hand.owed owed in let c = known.covered x in omega arith; fits = known.fits })
IsPool-gave (OfPass hand) w byte room known owed gave = let own = known.own in absurd (cc)
IsPool-gave Spent w byte room known owed gave = let own = known.own in absurd (cc)

-- A pass that takes byte after byte, and what it has taken when there is none.
use Rattle.std.proofs.Common.{◌≡◌, ℕ, zero, suc, ◌+◌, ◌-◌, List, [], ◌∷◌, ◌++◌, sym, refl, ap, ◌∙◌, subst, arith}
use Rattle.std.specs.List.Sorted.{IsPermutation}
use Rattle.counting.specs.Count.{times}
use Rattle.counting.proofs.Count.{times-snoc, times-length, times-IsPermutation}
use Rattle.atomic_table.specs.Seated.{TableId}
use Rattle.crossbeam_queue.specs.Fifo.{Held}
use Rattle.token_pool.specs.declared.view.Hand.{Hand}
use Rattle.token_pool.specs.declared.view.View.{View}
use Rattle.token_pool.specs.declared.view.View.TheVariants.{OfPool, OfPass, Spent}
use Rattle.token_pool.specs.View.{hand_of, passes_of, IsLive}
use Rattle.token_pool.specs.Steps.{on_hand, hand_took, Took, Accounts}
use Rattle.token_pool.specs.Memory.{MemoryState, memory_state, told_alone, memory_told, IsPool, IsRest, AreFree}

-- the pass with the view v has taken these bytes since, and has the view w now
abbrev pub Drained : View → View → List ℕ → Type 0
Drained (OfPool hand out) w taken = (now : Hand) × (w ≡ OfPool now out) × (now.bytes ≡ hand.bytes) × ((x : ℕ) → times x now.owed ≡ times x hand.owed + times x taken)
Drained (OfPass hand) w taken = IsLive w
Drained Spent w taken = ⊥

pub Drained-none : (v : View) → IsLive v → Drained v v []
Drained-none (OfPool hand out) live = (hand, refl, refl, λ x. omega arith)
Drained-none (OfPass hand) live = tt
Drained-none Spent live = absurd live

pub Drained-live : (v w : View) (taken : List ℕ) → Drained v w taken → IsLive w
Drained-live (OfPool hand out) w taken d = subst IsLive (sym d.1) tt
Drained-live (OfPass hand) w taken d = d
Drained-live Spent w taken d = absurd d

Took-live : (v w : View) (byte : ℕ) → IsLive v → Took v byte w → IsLive w
Took-live (OfPool hand out) w byte live took = subst IsLive (sym took.0) tt
Took-live (OfPass hand) w byte live took = subst IsLive (sym took.0) tt
Took-live Spent w byte live took = absurd live

Drained-more : (v w w' : View) (taken : List ℕ) (byte : ℕ) → Drained v w taken → Took w byte w' → Drained v w' (taken ++ byte ∷ [])
Drained-more (OfPool hand out) w w' taken byte d took =
    let now : Hand = d.0 in
    let is : w' ≡ OfPool (hand_took byte now) out = took.0 ∙ ap (on_hand (hand_took byte)) d.1 in
    (hand_took byte now, is, d.2, λ x. let a = times-snoc x byte now.owed in let b = times-snoc x byte taken in let o = d.3 x in omega arith)
Drained-more (OfPass hand) w w' taken byte d took = Took-live w w' byte d took
Drained-more Spent w w' taken byte d took = absurd d

pub Drained-push : (v w w' : View) (taken taken' : List ℕ) (byte : ℕ) → Drained v w taken → Took w byte w' → taken' ≡ taken ++ byte ∷ [] → Drained v w' taken'
Drained-push v w w' taken taken' byte d took is = subst (Drained v w') (sym is) (Drained-more v w w' taken byte d took)

pub Drained-rest : (v w : View) (taken : List ℕ) → Drained v w taken → Held 0 (Accounts w) → IsRest v taken
Drained-rest (OfPool hand zero) w taken d held = λ x.
    let now : Hand = d.0 in
    let told : Held 0 (Accounts (OfPool now zero)) = subst (λ (z : View). Held 0 (Accounts z)) d.1 held in
    let a = told.2 x in
    let l = told.1 in
    let t = times-length x told.0 in
    let o = d.3 x in
    let b : times x now.bytes ≡ times x hand.bytes = ap (times x) d.2 in
    omega arith
Drained-rest (OfPool hand (suc out)) w taken d held = tt
Drained-rest (OfPass hand) w taken d held = tt
Drained-rest Spent w taken d held = tt

-- in order, they are the same bytes
IsRest-sorted : (v : View) (room : ℕ) (rest sorted : List ℕ) → IsPool v room → IsRest v rest → IsPermutation rest sorted → passes_of v ≡ 0 → (x : ℕ) → times x sorted + times x (hand_of v).owed ≡ times x (hand_of v).bytes
IsRest-sorted (OfPool hand zero) room rest sorted known is same none x = let s = times-IsPermutation x rest sorted same in let r = is x in omega arith
IsRest-sorted (OfPool hand (suc out)) room rest sorted known is same none x = absurd (omega arith)
IsRest-sorted (OfPass hand) room rest sorted known is same none x = let own = known.own in absurd (cc)
IsRest-sorted Spent room rest sorted known is same none x = let own = known.own in absurd (cc)

pub left_all : (q : TableId) (v : View) (room : ℕ) (rest sorted left : List ℕ) (s : MemoryState) → IsPool v room → IsRest v rest → IsPermutation rest sorted → left ≡ sorted → memory_state q v ≡ s
    → s.passes ≡ 0 → (x : ℕ) → times x left + times x s.owed ≡ times x s.bytes
left_all q v room rest sorted left s known is same left_is seen = subst (λ (z : List ℕ × MemoryState). z.1.passes ≡ 0 → (x : ℕ) → times x z.0 + times x z.1.owed ≡ times x z.1.bytes) (λ i. (sym left_is i, seen i)) (IsRest-sorted v room rest sorted known is same)

free_of : (v : View) (room : ℕ) (rest sorted : List ℕ) → IsPool v room → IsRest v rest → IsPermutation rest sorted → AreFree (told_alone (passes_of v) (λ x. times x (hand_of v).bytes - times x (hand_of v).owed)) sorted
free_of (OfPool hand zero) room rest sorted known is same = λ x. let r = IsRest-sorted (OfPool hand zero) room rest sorted known is same refl x in omega arith
free_of (OfPool hand (suc out)) room rest sorted known is same = tt
free_of (OfPass hand) room rest sorted known is same = let own = known.own in absurd (cc)
free_of Spent room rest sorted known is same = let own = known.own in absurd (cc)

pub left_free : (q : TableId) (v : View) (room : ℕ) (rest sorted left : List ℕ) (s : MemoryState) → IsPool v room → IsRest v rest → IsPermutation rest sorted → left ≡ sorted → memory_state q v ≡ s → AreFree (memory_told s).free left
left_free q v room rest sorted left s known is same left_is seen = subst (λ (z : List ℕ × MemoryState). AreFree (memory_told z.1).free z.0) (λ i. (sym left_is i, seen i)) (free_of v room rest sorted known is same)

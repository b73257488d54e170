-- What contracts see of a keeper in memory.
use Rattle.std.specs.Prelude.{◌≡◌, ◌↔◌, refl, ℕ, Bool, List, take, Option, Some, None, Contains, IsTrue}
use Rattle.std.specs.FinMap.{insert}
use Rattle.std.specs.Coded.{Coded, code_by, coded×, coded_list, coded_option, coded_ℕ}
use Rattle.outside.specs.CallsState.{CallsState, after_call}
use Rattle.outside.specs.Held.{Held, coded_held}
use Rattle.keepers.specs.KeeperCalls.{KeeperCall, coded_calls}
use Rattle.keepers.specs.KeeperState.{KeeperState}

-- held: what the names hold. calls: which calls are to fail, and how many there were. leaving: how many bytes a failed save leaves,
-- where it leaves any. made: each call with its answer
pub record MemoryKeeperState : Type 0 where
  pub held : Held
  pub calls : CallsState
  pub leaving : Option ℕ
  pub made : List KeeperCall

-- It tells what the names hold.
abbrev pub keeper_told : MemoryKeeperState → KeeperState
keeper_told keeper = record { held = Some keeper.held; calls = keeper.made }

-- What a failed save leaves: what was held, or the first bytes of the new ones.
abbrev pub left_by : Option ℕ → List ℕ → List ℕ → Held → Held
left_by None name bytes held = held
left_by (Some n) name bytes held = insert held name (take n bytes)

-- One call more is counted, and it is a fault where its number is one of those named.
abbrev pub CountsCall : CallsState → CallsState → Type 0
CountsCall old new = (fails : Bool) × (IsTrue fails ↔ Contains old.failing old.calls) × (new ≡ after_call fails old)

-- as what a model may show
abbrev pub coded_keeper : Coded MemoryKeeperState
coded_keeper =
    code_by (Held × ((List ℕ × (ℕ × ℕ)) × (Option ℕ × List KeeperCall)))
    (coded× coded_held (coded× (coded× (coded_list coded_ℕ) (coded× coded_ℕ coded_ℕ)) (coded× (coded_option coded_ℕ) coded_calls)))
    (λ k. (k.held, ((k.calls.failing, (k.calls.calls, k.calls.faults)), (k.leaving, k.made))))
    (λ p. record { held = p.0; calls = record { failing = p.1.0.0; calls = p.1.0.1.0; faults = p.1.0.1.1 }; leaving = p.1.1.0; made = p.1.1.1 })
    (λ _. refl)

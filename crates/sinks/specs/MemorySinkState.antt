-- What contracts see of a sink in memory.
use Rattle.std.specs.Prelude.{ℕ, Bool, true, false, List, Some, refl}
use Rattle.std.specs.Coded.{Coded, code_by, coded×, coded_ℕ, coded_list}
use Rattle.journal.specs.Counted.{faults_in, wants_in}
use Rattle.journal.specs.Journal.{Call, coded_calls}
use Rattle.outside.specs.CallsState.{CallsState}
use Rattle.sinks.specs.SinkState.{SinkState}
use Rattle.sinks.specs.declared.sink.Put.{Put}
use Rattle.sinks.specs.declared.sink.Put.TheVariants as put

-- bytes: what was written. calls: the puts that are to fail, and how many there were. puts: each put with its answer
pub record MemorySinkState : Type 0 where
  pub bytes : List ℕ
  pub calls : CallsState
  pub puts : List Call

-- It tells the bytes that were written, and counts what its puts answered.
abbrev pub sink_told : MemorySinkState → SinkState
sink_told sink = record { held = Some sink.bytes; faults = faults_in sink.puts; wants = wants_in sink.puts }

abbrev pub is_failed : Put → Bool
is_failed put.Failed = true
is_failed answer = false

-- as what a model may show
abbrev pub coded_memory_sink : Coded MemorySinkState
coded_memory_sink =
    code_by (List ℕ × ((List ℕ × (ℕ × ℕ)) × List Call))
    (coded× (coded_list coded_ℕ) (coded× (coded× (coded_list coded_ℕ) (coded× coded_ℕ coded_ℕ)) coded_calls))
    (λ s. (s.bytes, ((s.calls.failing, (s.calls.calls, s.calls.faults)), s.puts)))
    (λ p. record { bytes = p.0; calls = record { failing = p.1.0.0; calls = p.1.0.1.0; faults = p.1.0.1.1 }; puts = p.1.1 })
    (λ _. refl)

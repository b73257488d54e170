-- What contracts see of files in memory.
use Rattle.std.specs.Prelude.{refl, ℕ, ◌&&◌, Bool, true, false, not, List, [], ◌∷◌, Some, fold}
use Rattle.std.specs.List.{list_any}
use Rattle.std.specs.FinMap.{empty, insert}
use Rattle.std.specs.Str.{bytes_eq}
use Rattle.std.specs.Coded.{Coded, code_by, coded×, coded_list, coded_ℕ}
use Rattle.journal.specs.Journal.{Call, Found, Failed, coded_calls}
use Rattle.journal.specs.declared.journal.Done.{Done}
use Rattle.journal.specs.declared.journal.Done.TheVariants as done
use Rattle.lar_source.specs.declared.file.File.{File}
use Rattle.outside.specs.CallsState.{CallsState}
use Rattle.outside.specs.Held.{Held, coded_held}
use Rattle.files.specs.FilesState.{FilesState}

-- held: what the names hold. calls: which calls are to fail, and how many there were. made: each call with its answer
pub record MemoryFilesState : Type 0 where
  pub held : Held
  pub calls : CallsState
  pub made : List Call

-- They tell what the names hold.
abbrev pub files_told : MemoryFilesState → FilesState
files_told files = record { held = Some files.held; calls = files.made }

-- no name stands twice
abbrev pub are_distinct : List (List ℕ) → Bool
are_distinct [] = true
are_distinct (name ∷ names) = not (list_any (bytes_eq name) names) && are_distinct names

-- what these files hold
abbrev pub held_by : List File → Held
held_by files = fold (λ held file. insert held file.name file.bytes) empty files

abbrev pub is_failed_read : Found → Bool
is_failed_read Failed = true
is_failed_read found = false

abbrev pub is_failed_write : Done → Bool
is_failed_write done.Failed = true
is_failed_write answer = false

-- as what a model may show
abbrev pub coded_files : Coded MemoryFilesState
coded_files =
    code_by (Held × ((List ℕ × (ℕ × ℕ)) × List Call))
    (coded× coded_held (coded× (coded× (coded_list coded_ℕ) (coded× coded_ℕ coded_ℕ)) coded_calls))
    (λ f. (f.held, ((f.calls.failing, (f.calls.calls, f.calls.faults)), f.made)))
    (λ p. record { held = p.0; calls = record { failing = p.1.0.0; calls = p.1.0.1.0; faults = p.1.0.1.1 }; made = p.1.1 })
    (λ _. refl)

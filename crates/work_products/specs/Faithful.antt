-- What a build has of a store, and what it leaves: faithful stores, objects that are reused, the store after a build.
use Rattle.std.specs.Prelude.{◌≡◌, ℕ, Bool, if◌then◌else◌, List, map, Some, Result, Ok, Err, fold}
use Rattle.std.specs.FinMap.{get, insert}
use Rattle.std.specs.List.{AllByRecursion}
use Rattle.object_format.specs.Object.{Unlinked, UnlinkedFn, SpellsObjectAs, symbols_of}
use Rattle.object_format.specs.declared.version.Version.TheVariants.{Two}
use Rattle.outside.specs.Held.{Held}
use Rattle.unit_input.specs.Inputs.{PlainFn, PlainExternal, PlainInput}
use Rattle.unit_input.specs.Rules.{IsInput}
use Rattle.unit_input.specs.Spelling.{spell}
use Rattle.work_products.specs.Pruning.{pruned}
use Rattle.work_products.specs.RecordReading.{record_at}
use Rattle.work_products.specs.Records.{Record, record_name, record_written}
use Rattle.work_products.specs.Store.{found_in, newest}
use Rattle.work_products.specs.declared.record.TooLong.{TooLong}
use Rattle.work_products.specs.declared.store.Found.TheVariants.{Whole}

-- what is found in a store for a text is this object
abbrev pub HasObject : Held → List ℕ → List ℕ → Type 0
HasObject held text object = found_in text (get held (record_name text)) ≡ Whole object

-- ---- a faithful store

-- Whatever in it reads as a whole record, and has the text of an input, has the object that is made of that input. What is made of an
-- input, or why nothing is, is a function that the caller brings.
pub record IsFaithful {E : Type 0} (made : PlainInput → Result (List ℕ) E) (held : Held) : Type 0 where
  pub each : (name bytes object : List ℕ) (r : Record) (x : PlainInput) → get held name ≡ Some bytes → record_at bytes ≡ Ok r → IsInput x → r.text ≡ spell x
      → newest r.version r.object ≡ Some object → made x ≡ Ok object

-- ---- an object that is reused

-- The bytes are an object of the newest version, with the input's symbols and kinds in order, and its externals in order.
pub record Serves (x : PlainInput) (bytes : List ℕ) : Type 0 where
  pub object : Unlinked
  pub spells : SpellsObjectAs Two bytes object
  pub symbols : symbols_of object.functions ≡ map (λ (f : PlainFn). f.symbol) x.functions
  pub kinds : map (λ (f : UnlinkedFn). f.external) object.functions ≡ map (λ (f : PlainFn). f.external) x.functions
  pub externals : object.externals ≡ map (λ (e : PlainExternal). e.symbol) x.externals

-- An input's object is in the store, and fits the input.
pub record IsReusable (held : Held) (x : PlainInput) (object : List ℕ) : Type 0 where
  pub found : HasObject held (spell x) object
  pub serves : Serves x object

-- ---- the store after a build

-- a text with the object that was made of it
pub record Made : Type 0 where
  pub text : List ℕ
  pub object : List ℕ

-- what is held once the record of a text is there, or as before where it is too long
abbrev pub kept_if : List ℕ → Result (List ℕ) TooLong → Held → Held
kept_if text (Ok bytes) held = insert held (record_name text) bytes
kept_if text (Err e) held = held

-- the same of one that was made
abbrev pub kept_one : Held → Made → Held
kept_one held m = kept_if m.text (record_written m.text m.object) held

-- the same of what was made, in order
abbrev pub kept_all : List Made → Held → Held
kept_all made held = fold kept_one held made

-- the store after a build that made these, and pruned it down to these names or did not
abbrev pub after_build : List Made → Bool → List (List ℕ) → Held → Held
after_build made prune names held = if prune then pruned names (kept_all made held) else kept_all made held

-- Each was made of the input that has its text.
abbrev pub AreMade : {E : Type 0} → (PlainInput → Result (List ℕ) E) → List Made → Type 0
AreMade made = AllByRecursion (λ m. (x : PlainInput) × IsInput x × (m.text ≡ spell x) × (made x ≡ Ok m.object))

-- An answer that is a definition's, unless memory ran out.
use Rattle.std.specs.Prelude.{◌≡◌, Result, Ok, Err}
use Rattle.lar_bytes.specs.declared.memory.OrMemory.{OrMemory}
use Rattle.lar_bytes.specs.declared.memory.OrMemory.TheVariants.{Refused, Memory}

-- the refusal that was wanted, or want of memory, of which nothing is said
abbrev pub Fails : {Y E : Type 0} → OrMemory E → Result Y E → Type 0
Fails Memory wanted = Unit {0}
Fails (Refused e) wanted = wanted ≡ Err e

-- what was answered, seen by view, is what was wanted: a value exactly where it is a value, a refusal exactly where it is that refusal
abbrev pub Answers : {X Y E : Type 0} → (X → Y) → Result X (OrMemory E) → Result Y E → Type 0
Answers view (Ok x) wanted = wanted ≡ Ok (view x)
Answers view (Err e) wanted = Fails e wanted

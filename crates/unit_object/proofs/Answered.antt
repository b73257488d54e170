-- What the code answers, put together from what is answered of lowering and of making.
use Rattle.std.proofs.Common.{◌≡◌, ℕ, ◌+◌, List, Option, Some, None, Result, Ok, Err, refl, sym, ap, ◌∙◌, arith}
use Rattle.lar_bytes.specs.Answers.{Answers, Fails}
use Rattle.lar_bytes.specs.declared.memory.OrMemory.{OrMemory}
use Rattle.lar_bytes.specs.declared.memory.OrMemory.TheVariants as errors
use Rattle.object_format.specs.Object.{Unlinked, object_spelling}
use Rattle.unit_input.specs.Inputs.{PlainInput}
use Rattle.unit_ir.specs.declared.fault.UnitFault.{UnitFault}
use Rattle.unit_ir.specs.Units.{PlainUnit}
use Rattle.unit_lower.specs.LoweredUnit.{lowered}
use Rattle.unit_opt.specs.Optimised.{optimised}
use Rattle.unit_emit.specs.Object.{first_long, long_or, emitted}
use Rattle.unit_emit.proofs.Objects.{long_ok}
use Rattle.unit_object.specs.Counted.{steps_after, steps_of, Counts}
use Rattle.unit_object.specs.UnitObject.{object_parts, object_after, object_of, spelled_object, bytes_of}

-- ---- the definition, by its two steps

-- what the object of a unit without a fault is made of
pub record IsMade (x : PlainInput) (o : Unlinked) : Type 0 where
  pub unit : PlainUnit
  pub lowered : lowered x ≡ Ok unit
  pub short : first_long 0 (optimised x.level unit).functions ≡ None
  pub object : object_parts (optimised x.level unit) ≡ o

made_after : (x : PlainInput) (r : Result PlainUnit UnitFault) (o : Unlinked) → lowered x ≡ r → object_after x.level r ≡ Ok o → IsMade x o
made_after x (Ok u) o is h =
    let p = long_ok (object_parts (optimised x.level u)) o (first_long 0 (optimised x.level u).functions) h in
    record { unit = u; lowered = is; short = p.0; object = p.1 }
made_after x (Err fault) o is h = absurd cc

pub is_made : (x : PlainInput) (o : Unlinked) → object_of x ≡ Ok o → IsMade x o
unfolding object_of
is_made x o h = made_after x (lowered x) o refl h

long_spelled : (o : Unlinked) (m : Option ℕ) → spelled_object (long_or o m) ≡ long_or (object_spelling o) m
long_spelled o None = refl
long_spelled o (Some k) = refl

bytes_made : (x : PlainInput) (u : PlainUnit) → lowered x ≡ Ok u → bytes_of x ≡ emitted (optimised x.level u)
unfolding object_of
bytes_made x u h = ap (λ r. spelled_object (object_after x.level r)) h ∙ long_spelled (object_parts (optimised x.level u)) (first_long 0 (optimised x.level u).functions)

bytes_refused : (x : PlainInput) (fault : UnitFault) → lowered x ≡ Err fault → bytes_of x ≡ Err fault
unfolding object_of
bytes_refused x fault h = ap (λ r. spelled_object (object_after x.level r)) h

-- ---- the answer

pub answered : (x : PlainInput) (u : PlainUnit) (r : Result (List ℕ) (OrMemory UnitFault)) → lowered x ≡ Ok u → Answers (λ b. b) r (emitted (optimised x.level u)) → Answers (λ b. b) r (bytes_of x)
answered x u (Ok b) is h = bytes_made x u is ∙ h
answered x u (Err errors.Memory) is h = tt
answered x u (Err (errors.Refused fault)) is h = bytes_made x u is ∙ h

pub not_lowered : (x : PlainInput) (e : OrMemory UnitFault) → Fails e (lowered x) → Fails e (bytes_of x)
not_lowered x errors.Memory h = tt
not_lowered x (errors.Refused fault) h = bytes_refused x fault h

-- ---- the steps

pub counted : {Y : Type 0} (x : PlainInput) (u : PlainUnit) (r : Result Y (OrMemory UnitFault)) (before after : ℕ) → lowered x ≡ Ok u → after ≡ before + 1 → Counts x r before after
unfolding steps_of
counted x u (Ok b) before after is h = h ∙ ap (λ r. before + steps_after r) (sym is)
counted x u (Err errors.Memory) before after is h = let one : steps_after (lowered x) ≡ 1 = ap steps_after is in (omega (arith, h), omega (arith, h, one))
counted x u (Err (errors.Refused fault)) before after is h = h ∙ ap (λ r. before + steps_after r) (sym is)

pub not_counted : (Y : Type 0) (x : PlainInput) (e : OrMemory UnitFault) (before : ℕ) → Fails e (lowered x) → Counts {Y = Y} x (Err e) before before
unfolding steps_of
not_counted Y x errors.Memory before h = (omega arith, omega arith)
not_counted Y x (errors.Refused fault) before h = let none : steps_after (lowered x) ≡ 0 = ap steps_after h in omega (arith, none)

-- ---- the way back from a spelling

pub spelled_ok : (r : Result Unlinked UnitFault) (bytes : List ℕ) → spelled_object r ≡ Ok bytes → (o : Unlinked) × (r ≡ Ok o) × (bytes ≡ object_spelling o)
spelled_ok (Ok o) bytes h = (o, refl, cc)
spelled_ok (Err fault) bytes h = absurd cc

pub spelled_refused : (r : Result Unlinked UnitFault) (e : OrMemory UnitFault) → Fails e (spelled_object r) → Fails e r
spelled_refused r errors.Memory h = tt
spelled_refused (Ok o) (errors.Refused fault) h = absurd cc
spelled_refused (Err f) (errors.Refused fault) h = cc

-- what is read is that object, and it is not refused
pub read_same : {E : Type 0} (o p : Unlinked) → Answers {E = E} (λ x. x) (Ok p) (Ok o) → o ≡ p
read_same o p h = cc

pub read_refused : {E : Type 0} (o : Unlinked) (e : OrMemory E) (fault : E) → e ≡ errors.Refused fault → Fails e (Ok o) → ⊥
read_refused o errors.Memory fault is h = absurd cc
read_refused o (errors.Refused f) fault is h = absurd cc

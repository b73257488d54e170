-- Scripts: calls of the outside, and what comes after each answer.
use Rattle.std.specs.Prelude.{ℕ, Bool, List}

pub data Stream : Type 0 where
  ToOut : Stream
  ToErr : Stream

-- a call: so many first bytes of a file are read, bytes are written in the place of a file, a text is put on a stream
pub data Ask : Type 0 where
  Read : List ℕ → ℕ → Ask
  Write : List ℕ → List ℕ → Ask
  Put : Stream → List ℕ → Ask

-- what a read finds: bytes, no such file, or that it failed
pub data Finding : Type 0 where
  Bytes : List ℕ → Finding
  Absent : Finding
  Failed : Finding

-- What a call answers: a read what it finds, a write whether it was done. A text that is put has no answer: where it is not put, all ends.
abbrev pub Answer : Ask → Type 0
Answer (Read name most) = Finding
Answer (Write name bytes) = Bool
Answer (Put stream text) = Unit {0}

-- End: it gives this. Stop: it ends early by this reason. Call: a call, and what its answer leads to.
pub data Script (E A : Type 0) : Type 0 where
  End : A → Script E A
  Stop : E → Script E A
  Call : (a : Ask) → (Answer a → Script E A) → Script E A

-- one script, and after it another that is made of what the first gives
unfoldable pub ◌>>=◌ : {E A B : Type 0} → Script E A → (A → Script E B) → Script E B
End a >>= k = k a
Stop e >>= k = Stop e
Call a rest >>= k = Call a (λ x. rest x >>= k)

infixr 4 ◌>>=◌
-- one script, and after it another that is made of what the first gives, or of the reason by which it ended early
unfoldable pub ending : {E A B : Type 0} → Script E A → (A → Script E B) → (E → Script E B) → Script E B
ending (End a) done stopped = done a
ending (Stop e) done stopped = stopped e
ending (Call a rest) done stopped = Call a (λ x. ending (rest x) done stopped)

-- How the digest of a record enters.
use Rattle.std.specs.Prelude.{◌≡◌, ◌≢◌, ℕ, ◌-◌, List, length, take, drop}
use Rattle.sha2.specs.Sha256.{sha256}

-- all but the last 32 bytes
abbrev pub before_digest : List ℕ → List ℕ
before_digest bytes = take (length bytes - 32) bytes

-- the last 32 bytes
abbrev pub digest_in : List ℕ → List ℕ
digest_in bytes = drop (length bytes - 32) bytes

-- Two different texts with one digest.
abbrev pub Collide : List ℕ → List ℕ → Type 0
Collide a b = (a ≢ b) × (sha256 a ≡ sha256 b)

-- The bytes of an operand, taken from the bytes behind its opcode.
use Rattle.std.proofs.Common.{◌≡◌, ℕ, ◌<◌, List, take}
use Rattle.std.specs.Prelude.{slice_index}
use Rattle.std.proofs.lemmas.List.{get_or-take}

pub first_byte : (n : ℕ) (bytes : List ℕ) → 0 < n → slice_index (take n bytes) 0 ≡ slice_index bytes 0
first_byte n bytes h = get_or-take n bytes 0 0 h

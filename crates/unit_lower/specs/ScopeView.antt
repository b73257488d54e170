-- What a scope of the code stands for. This is of the code alone.
use Rattle.std.specs.Prelude.{◌≡◌, ℕ, ◌<◌, ◌≤◌, List, length, map, take, sum, slice_index_or}
use Rattle.unit_input.specs.Inputs.{PlainFn}
use Rattle.unit_input.specs.Widths.{Signature, Scope}
use Rattle.unit_lower.specs.declared.scope.Signature.{Signature as SignatureOfCode}

abbrev pub signature_view : SignatureOfCode → Signature
signature_view s = record { params = s.params; «result» = s.result }

-- the scope of a function's body, of what the code has of its calls
abbrev pub scope_in : List SignatureOfCode → PlainFn → Scope
scope_in callees f = record { locals = f.locals; «result» = f.«result»; callees = map signature_view callees }

-- each is the first slot of the local with its number, and all slots have numbers of a byte
pub record ArePlaced (locals firsts : List ℕ) : Type 0 where
  pub same_length : length firsts ≡ length locals
  pub each : (n d : ℕ) → n < length locals → slice_index_or firsts n d ≡ sum (take n locals)
  pub narrow : sum locals ≤ 255

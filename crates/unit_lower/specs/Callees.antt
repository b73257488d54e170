-- The signatures of what a unit calls, by the numbers of its calls, as its intermediate form has them.
use Rattle.std.specs.Prelude.{ℕ}
use Rattle.unit_input.specs.Widths.{Scope, callee}
use Rattle.unit_ir.specs.Widths.{Signature}

abbrev pub signature : Scope → ℕ → Signature
signature s k = record { params = (callee s k).params; «result» = (callee s k).«result» }

-- What a call of the code stands for.
use Rattle.std.specs.Prelude.{ℕ}
use Rattle.lar_typed.specs.Calls.{CallOf}
use Rattle.mono_bodies.specs.declared.calls.PatternCall.{PatternCall}

abbrev pub call_view : PatternCall → CallOf ℕ
call_view c = record { callee = c.callee; generics = c.generics; at = c.at }

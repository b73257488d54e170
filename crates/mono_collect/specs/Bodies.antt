-- What instances take from their functions.
use Rattle.std.specs.Prelude.{ℕ, List, map, min}
use Rattle.lar_typed.specs.declared.tree.TypedFunction.{TypedFunction}
use Rattle.lar_typed.specs.Calls.{CallOf, stmts_calls}
use Rattle.lar_typed.specs.Size.{stmts_size}
use Rattle.lar_typed.specs.StmtView.{stmts_view}
use Rattle.mono_bodies.specs.Patterns.{call_view}
use Rattle.mono_collect.specs.declared.bodies.Body.{Body}

-- the calls as they are written, and the statements and expressions
pub record PlainBody : Type 0 where
  pub calls : List (CallOf ℕ)
  pub size : ℕ

abbrev pub body_view : Body → PlainBody
body_view b = record { calls = map call_view b.calls.items; size = b.size }

-- of a function; more than the last value of a `u32` cannot be
abbrev pub body_of : TypedFunction → PlainBody
body_of f = record { calls = stmts_calls (stmts_view f.body); size = min (stmts_size (stmts_view f.body)) 4294967295 }

-- What is made of a function.
use Rattle.std.specs.Prelude.{ℕ, ℤ, ◌<◌, Bool, List, [], ◌∷◌, map, Some}
use Rattle.std.specs.List.{AllByRecursion}
use Rattle.type_table.specs.TypeOf.{TypeOf, more}
use Rattle.lar_typed.specs.Trees.{FunctionOf}
use Rattle.unit_input.specs.Inputs.{PlainFn}
use Rattle.closed_input.specs.Bodies.{number_value}
use Rattle.unit_close.specs.Measures.{IsRow}
use Rattle.unit_close.specs.Sight.{Sight}
use Rattle.unit_close.specs.Made.{width_at, made_stmts}
use Rattle.unit_close.specs.Ready.{StmtsReady}

-- the numbers that stand for const generics in a list of arguments; 0 for a type
abbrev pub numbers_of : TypeOf → List ℤ
numbers_of (more t ts) = number_value (Some t) ∷ numbers_of ts
numbers_of _ = []

abbrev pub made_fn : Sight → List ℕ → Bool → FunctionOf ℕ → PlainFn
made_fn x symbol external g = record { symbol = symbol; external = external; «result» = width_at x g.outcome; params = g.params; locals = map (width_at x) g.locals; body = made_stmts x 0 g.body }

-- what the code asks of a function
pub record FnReady (x : Sight) (g : FunctionOf ℕ) : Type 0 where
  pub outcome : IsRow x.rows g.outcome
  pub locals : AllByRecursion (IsRow x.rows) g.locals
  pub params : g.params < 256
  pub body : StmtsReady x 0 g.body

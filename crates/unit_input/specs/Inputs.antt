-- A unit's input as plain data.
use Rattle.std.specs.Prelude.{ℕ, List, Bool}
use Rattle.unit_input.specs.Stmts.{PlainStmts}

-- external: other units may call it. result: how many words it gives. params: how many of its locals are parameters, which come
-- first. locals: how many words each local has.
pub record PlainFn : Type 0 where
  pub symbol : List ℕ
  pub external : Bool
  pub «result» : ℕ
  pub params : ℕ
  pub locals : List ℕ
  pub body : PlainStmts

-- a function that the unit calls and another has: params and result are how many words it takes and gives
pub record PlainExternal : Type 0 where
  pub symbol : List ℕ
  pub params : ℕ
  pub «result» : ℕ

-- the level of the optimiser, the unit's functions, and what it calls of other units
pub record PlainInput : Type 0 where
  pub level : ℕ
  pub functions : List PlainFn
  pub externals : List PlainExternal

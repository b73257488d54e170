-- How many words an expression gives.
--
-- A number or a truth is one word, a tuple or a struct the words of its parts in order. Widths and offsets are exact up to 255; 256
-- stands for all above.
use Rattle.std.specs.Prelude.{ℕ, ◌+◌, min, List, ◌++◌, map, take, sum, slice_index, slice_index_or}
use Rattle.unit_input.specs.Exprs.{PlainExpr, int, truth, local, field, tuple, unary, binary, call, PlainExprs, no_exprs, exprs}
use Rattle.unit_input.specs.Inputs.{PlainFn, PlainExternal, PlainInput}

-- a width as it is written
abbrev pub cut : ℕ → ℕ
cut n = min n 256

-- how many words a function takes and gives
pub record Signature : Type 0 where
  pub params : ℕ
  pub «result» : ℕ

-- what the body of a function may name: its locals, of which the widths are known, and what the unit's calls may call; and how many
-- words a return gives
pub record Scope : Type 0 where
  pub locals : List ℕ
  pub «result» : ℕ
  pub callees : List Signature

-- how many words the parameters of a function have
abbrev pub params_width : PlainFn → ℕ
params_width f = sum (take f.params f.locals)

abbrev pub fn_signature : PlainFn → Signature
fn_signature f = record { params = cut (params_width f); «result» = f.«result» }

abbrev pub external_signature : PlainExternal → Signature
external_signature x = record { params = x.params; «result» = x.«result» }

-- what has a number in the unit's calls, in the order of the numbers
abbrev pub callees_of : PlainInput → List Signature
callees_of x = map fn_signature x.functions ++ map external_signature x.externals

abbrev pub scope_of : PlainInput → PlainFn → Scope
scope_of x f = record { locals = f.locals; «result» = f.«result»; callees = callees_of x }

abbrev pub no_words : Signature
no_words = record { params = 0; «result» = 0 }

abbrev pub callee : Scope → ℕ → Signature
callee s k = slice_index_or s.callees k no_words

abbrev mutual
  pub width : Scope → PlainExpr → ℕ
  width s (int v) = 1
  width s (truth b) = 1
  width s (local n) = slice_index s.locals n
  width s (field e offset wide) = wide
  width s (tuple es) = cut (total_width s es)
  width s (unary op e) = 1
  width s (binary op a b) = 1
  width s (call k es) = (callee s k).«result»

  -- that of a list of parts or arguments
  pub total_width : Scope → PlainExprs → ℕ
  total_width s no_exprs = 0
  total_width s (exprs e es) = width s e + total_width s es

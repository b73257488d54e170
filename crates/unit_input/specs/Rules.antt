-- What every unit's input keeps.
--
--   * The level is 0 to 2.
--   * Each list has as many members as its count can say: 255 for parts, arguments and parameters, 2^32 - 1 for others. A body has no
--     more than 2^32 - 1 statements in all.
--   * A function has at least as many locals as parameters.
--   * The expression of an assertion is made of numbers, truths and operators alone, and is a truth.
--   * The numbers of locals and calls are in range.
--   * Symbols are distinct and have at least one byte, each from `!` to `~`.
--   * Widths agree: each place takes as many words as stand in it. A part of a value lies within it; only of a value wider than 255
--     words may a part's offset or width be 256, and where it lies is then not said.
use Rattle.std.specs.Prelude.{ℕ, ℤ, pos, negsuc, ◌+◌, ◌<◌, ◌≤◌, ◌^◌, ◌≡◌, ◌==◌, Bool, true, ◌&&◌, ◌||◌, nat_lt, nat_le, List, ◌++◌, length, map, slice_index}
use Rattle.std.specs.List.{list_all, AllByRecursion, IsDistinct}
use Rattle.std.specs.Str.{bytes_eq}
use Rattle.unit_input.specs.Exprs.{PlainExpr, int, truth, local, field, tuple, unary, binary, call, PlainExprs, no_exprs, exprs, expr_count}
use Rattle.unit_input.specs.Stmts.{PlainStmt, declare, assign, fork, loop, give, print, assert, eval, PlainStmts, no_stmts, stmts, stmts_total}
use Rattle.unit_input.specs.Inputs.{PlainFn, PlainExternal, PlainInput}
use Rattle.unit_input.specs.Widths.{Scope, scope_of, callee, width, total_width, cut}
use Rattle.unit_input.specs.Assertions.{is_truth}

-- a signed number of 64 bits
abbrev pub is_word : ℤ → Bool
is_word (pos n) = nat_lt n (2 ^ 63)
is_word (negsuc n) = nat_lt n (2 ^ 63)

-- a width or an offset as it is written
abbrev pub is_width : ℕ → Bool
is_width n = nat_le n 256

-- so many words from this offset on are a part of a value that has so many
abbrev pub is_part : ℕ → ℕ → ℕ → Bool
is_part offset wide whole = is_width offset && is_width wide && (nat_le 256 whole || nat_le (offset + wide) whole)

-- an expression keeps the rules
abbrev mutual
  pub is_expr : Scope → PlainExpr → Bool
  is_expr s (int v) = is_word v
  is_expr s (truth b) = true
  is_expr s (local n) = nat_lt n (length s.locals)
  is_expr s (field e offset wide) = is_part offset wide (width s e) && is_expr s e
  is_expr s (tuple es) = nat_lt (expr_count es) 256 && are_exprs s es
  is_expr s (unary op e) = (width s e == 1) && is_expr s e
  is_expr s (binary op a b) = (width s a == 1) && (width s b == 1) && is_expr s a && is_expr s b
  is_expr s (call k es) = nat_lt k (2 ^ 32) && nat_lt k (length s.callees) && nat_lt (expr_count es) 256 && (cut (total_width s es) == (callee s k).params) && are_exprs s es

  pub are_exprs : Scope → PlainExprs → Bool
  are_exprs s no_exprs = true
  are_exprs s (exprs e es) = is_expr s e && are_exprs s es

-- an expression keeps the rules, and gives so many words
abbrev pub gives : Scope → PlainExpr → ℕ → Bool
gives s e wide = (width s e == wide) && is_expr s e

-- a statement keeps the rules
abbrev mutual
  pub is_stmt : Scope → PlainStmt → Bool
  is_stmt s (declare n e) = nat_lt n (length s.locals) && gives s e (slice_index s.locals n)
  is_stmt s (assign n offset wide e) = nat_lt n (length s.locals) && is_part offset wide (slice_index s.locals n) && gives s e wide
  is_stmt s (fork e a b) = gives s e 1 && are_stmts s a && are_stmts s b
  is_stmt s (loop e a) = gives s e 1 && are_stmts s a
  is_stmt s (give e) = gives s e s.«result»
  is_stmt s (print e) = gives s e 1
  is_stmt s (assert e) = is_truth e && is_expr s e
  is_stmt s (eval e) = is_expr s e

  pub are_stmts : Scope → PlainStmts → Bool
  are_stmts s no_stmts = true
  are_stmts s (stmts x xs) = is_stmt s x && are_stmts s xs

-- a byte that a symbol may have: a sign that can be seen
abbrev pub IsSymbolByte : ℕ → Type 0
IsSymbolByte b = (0x21 ≤ b) × (b ≤ 0x7e)

-- a symbol has a byte at least
pub record IsSymbol (s : List ℕ) : Type 0 where
  pub some : 0 < length s
  pub short : length s < 2 ^ 32
  pub signs : AllByRecursion IsSymbolByte s

-- a function keeps the rules, where its body stands in this scope
pub record IsFn (s : Scope) (f : PlainFn) : Type 0 where
  pub symbol : IsSymbol f.symbol
  pub «result» : f.«result» ≤ 256
  pub params : f.params < 256
  pub params_are_locals : f.params ≤ length f.locals
  pub local_count : length f.locals < 2 ^ 32
  pub locals : list_all is_width f.locals ≡ true
  pub statements : stmts_total f.body < 2 ^ 32
  pub body : are_stmts s f.body ≡ true

pub record IsExternal (x : PlainExternal) : Type 0 where
  pub symbol : IsSymbol x.symbol
  pub params : x.params ≤ 256
  pub «result» : x.«result» ≤ 256

-- the symbols of a unit's functions and externals, in the order of the numbers that its calls have for them
abbrev pub symbols_of : PlainInput → List (List ℕ)
symbols_of x = map (λ f. f.symbol) x.functions ++ map (λ e. e.symbol) x.externals

-- an input keeps the rules
pub record IsInput (x : PlainInput) : Type 0 where
  pub level : x.level ≤ 2
  pub function_count : length x.functions < 2 ^ 32
  pub external_count : length x.externals < 2 ^ 32
  pub distinct : IsDistinct bytes_eq (symbols_of x)
  pub functions : AllByRecursion (λ f. IsFn (scope_of x f) f) x.functions
  pub externals : AllByRecursion IsExternal x.externals

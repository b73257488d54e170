-- How many words an expression gives, and that each place of a tree takes as many as are given there. Code pushes just these.
use Rattle.std.specs.Prelude.{ℕ, ◌≡◌, ◌+◌, ◌<◌, ◌≤◌, ◌^◌, ℤ, pos, ◌≤ℤ◌, ◌<ℤ◌}
use lib.IntN.{neg_ℤ}
use Rattle.unit_ir.specs.Exprs.{PlainExpr, word, load, op1, op2, both, either, call, seq, bind, PlainExprs, no_exprs, exprs}
use Rattle.unit_ir.specs.Stmts.{PlainStmt, store, fork, loop, give, print, eval, PlainStmts, no_stmts, stmts}

-- how many words a function takes and gives
pub record Signature : Type 0 where
  pub params : ℕ
  pub «result» : ℕ

-- a number that a word can be
abbrev pub IsWord : ℤ → Type 0
IsWord v = (neg_ℤ (pos (2 ^ 63)) ≤ℤ v) × (v <ℤ pos (2 ^ 63))

-- under the signatures of the callees by their numbers, and below so many slots
abbrev mutual
  pub Gives : (ℕ → Signature) → ℕ → PlainExpr → ℕ → Type 0
  Gives of slots (word v) w = IsWord v × (w ≡ 1)
  Gives of slots (load s) w = (s < slots) × (w ≡ 1)
  Gives of slots (op1 o a) w = Gives of slots a 1 × (w ≡ 1)
  Gives of slots (op2 o a b) w = Gives of slots a 1 × Gives of slots b 1 × (w ≡ 1)
  Gives of slots (both a b) w = Gives of slots a 1 × Gives of slots b 1 × (w ≡ 1)
  Gives of slots (either a b) w = Gives of slots a 1 × Gives of slots b 1 × (w ≡ 1)
  Gives of slots (call k es) w = Give of slots es ((of k).params) × (w ≡ (of k).result)
  Gives of slots (seq es) w = Give of slots es w
  Gives of slots (bind s v a b) w = (s + v ≤ slots) × Gives of slots a v × Gives of slots b w

  pub Give : (ℕ → Signature) → ℕ → PlainExprs → ℕ → Type 0
  Give of slots no_exprs w = w ≡ 0
  Give of slots (exprs e es) w = (first : ℕ) × (others : ℕ) × (w ≡ first + others) × Gives of slots e first × Give of slots es others

-- in a function that gives so many words
abbrev mutual
  pub Suits : (ℕ → Signature) → ℕ → ℕ → PlainStmt → Type 0
  Suits of slots given (store s w e) = (s + w ≤ slots) × Gives of slots e w
  Suits of slots given (fork e a b) = Gives of slots e 1 × Suit of slots given a × Suit of slots given b
  Suits of slots given (loop e a) = Gives of slots e 1 × Suit of slots given a
  Suits of slots given (give e) = Gives of slots e given
  Suits of slots given (print e) = Gives of slots e 1
  Suits of slots given (eval e w) = Gives of slots e w

  pub Suit : (ℕ → Signature) → ℕ → ℕ → PlainStmts → Type 0
  Suit of slots given no_stmts = Unit {0}
  Suit of slots given (stmts s ss) = Suits of slots given s × Suit of slots given ss

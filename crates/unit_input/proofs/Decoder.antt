-- What reads the text of an input back. Nothing runs it: it is there for the laws of the text. A first number bounds how deep it reads.
use Rattle.std.proofs.Common.{ℕ, zero, suc, List, [], ◌∷◌, Option, Some, None, Bool, ◌==◌, if◌then◌else◌}
use Rattle.std.specs.Int.{w16, w32, w64, from_be_bytes, cast_signed}
use Rattle.unit_input.specs.declared.expr.UnaryOp.{UnaryOp}
use Rattle.unit_input.specs.declared.expr.UnaryOp.TheVariants as unary_op
use Rattle.unit_input.specs.declared.expr.BinaryOp.{BinaryOp}
use Rattle.unit_input.specs.declared.expr.BinaryOp.TheVariants as binary_op
use Rattle.unit_input.specs.Exprs.{PlainExpr, int, truth, local, field, tuple, unary, binary, call, PlainExprs, no_exprs, exprs}
use Rattle.unit_input.specs.Stmts.{PlainStmt, declare, assign, fork, loop, give, print, assert, eval, PlainStmts, no_stmts, stmts}
use Rattle.unit_input.specs.Inputs.{PlainFn, PlainExternal, PlainInput}

-- what is read, and what is left
abbrev pub Read : Type 0 → Type 0
Read A = List ℕ → Option (A × List ℕ)

abbrev pub next : {A B : Type 0} → Option (A × List ℕ) → (A → Read B) → Option (B × List ℕ)
next None go = None
next (Some x) go = go x.0 x.1

abbrev pub done : {A : Type 0} → A → Read A
done x bs = Some (x, bs)

abbrev pub byte : Read ℕ
byte [] = None
byte (b ∷ bs) = Some (b, bs)

abbrev pub read_two : Read ℕ
read_two (a ∷ b ∷ bs) = Some (from_be_bytes w16 (a ∷ b ∷ []), bs)
read_two bs = None

abbrev pub read_four : Read ℕ
read_four (a ∷ b ∷ c ∷ d ∷ bs) = Some (from_be_bytes w32 (a ∷ b ∷ c ∷ d ∷ []), bs)
read_four bs = None

abbrev pub read_eight : Read ℕ
read_eight (a ∷ b ∷ c ∷ d ∷ e ∷ f ∷ g ∷ h ∷ bs) = Some (from_be_bytes w64 (a ∷ b ∷ c ∷ d ∷ e ∷ f ∷ g ∷ h ∷ []), bs)
read_eight bs = None

-- so many of a kind
abbrev pub many : {A : Type 0} → Read A → ℕ → Read (List A)
many read zero bs = Some ([], bs)
many read (suc n) bs = next (read bs) (λ x cs. next (many read n cs) (λ xs. done (x ∷ xs)))

abbrev pub is_true : ℕ → Bool
is_true n = n == 1

abbrev pub unary_of : ℕ → UnaryOp
unary_of b = if b == 0x0b then unary_op.Neg else unary_op.Not

abbrev pub binary_of : ℕ → BinaryOp
binary_of b =
    if b == 0x06 then binary_op.Add else (if b == 0x07 then binary_op.Sub else (if b == 0x08 then binary_op.Mul
    else (if b == 0x09 then binary_op.Div else (if b == 0x0a then binary_op.Rem else (if b == 0x0c then binary_op.Equal
    else (if b == 0x0d then binary_op.NotEqual else (if b == 0x0e then binary_op.Less else (if b == 0x0f then binary_op.AtMost
    else (if b == 0x10 then binary_op.Greater else (if b == 0x11 then binary_op.AtLeast else (if b == 0x20 then binary_op.And
    else binary_op.Or)))))))))))

abbrev mutual
  pub read_expr : ℕ → Read PlainExpr
  read_expr zero bs = None
  read_expr (suc n) [] = None
  read_expr (suc n) (tag ∷ bs) =
      if tag == 1 then next (read_eight bs) (λ v. done (int (cast_signed w64 v)))
      else (if tag == 2 then next (byte bs) (λ b. done (truth (is_true b)))
      else (if tag == 3 then next (read_four bs) (λ k. done (local k))
      else (if tag == 4 then next (read_two bs) (λ o cs. next (read_two cs) (λ w ds. next (read_expr n ds) (λ e. done (field e o w))))
      else (if tag == 5 then next (byte bs) (λ k cs. next (read_exprs n k cs) (λ es. done (tuple es)))
      else (if tag == 6 then next (byte bs) (λ o cs. next (read_expr n cs) (λ e. done (unary (unary_of o) e)))
      else (if tag == 7 then next (byte bs) (λ o cs. next (read_expr n cs) (λ a ds. next (read_expr n ds) (λ b. done (binary (binary_of o) a b))))
      else next (read_four bs) (λ f cs. next (byte cs) (λ k ds. next (read_exprs n k ds) (λ es. done (call f es))))))))))

  pub read_exprs : ℕ → ℕ → Read PlainExprs
  read_exprs zero k bs = None
  read_exprs (suc n) zero bs = Some (no_exprs, bs)
  read_exprs (suc n) (suc k) bs = next (read_expr n bs) (λ e cs. next (read_exprs n k cs) (λ es. done (exprs e es)))

abbrev mutual
  pub read_stmt : ℕ → Read PlainStmt
  read_stmt zero bs = None
  read_stmt (suc n) [] = None
  read_stmt (suc n) (tag ∷ bs) =
      if tag == 1 then next (read_four bs) (λ k cs. next (read_expr n cs) (λ e. done (declare k e)))
      else (if tag == 2 then next (read_four bs) (λ k cs. next (read_two cs) (λ o ds. next (read_two ds) (λ w es. next (read_expr n es) (λ e. done (assign k o w e)))))
      else (if tag == 3 then next (read_expr n bs) (λ e cs. next (next (read_four cs) (λ j. read_stmts n j)) (λ a ds. next (next (read_four ds) (λ j. read_stmts n j)) (λ b. done (fork e a b))))
      else (if tag == 4 then next (read_expr n bs) (λ e cs. next (next (read_four cs) (λ j. read_stmts n j)) (λ a. done (loop e a)))
      else (if tag == 5 then next (read_expr n bs) (λ e. done (give e))
      else (if tag == 6 then next (read_expr n bs) (λ e. done (print e))
      else (if tag == 7 then next (read_expr n bs) (λ e. done (assert e))
      else next (read_expr n bs) (λ e. done (eval e))))))))

  pub read_stmts : ℕ → ℕ → Read PlainStmts
  read_stmts zero k bs = None
  read_stmts (suc n) zero bs = Some (no_stmts, bs)
  read_stmts (suc n) (suc k) bs = next (read_stmt n bs) (λ s cs. next (read_stmts n k cs) (λ ss. done (stmts s ss)))

-- statements behind their count
abbrev pub read_block : ℕ → Read PlainStmts
read_block n bs = next (read_four bs) (λ j. read_stmts n j)

abbrev pub read_symbol : Read (List ℕ)
read_symbol bs = next (read_four bs) (λ k. many byte k)

abbrev pub read_fn : ℕ → Read PlainFn
read_fn n bs =
    next (read_symbol bs) (λ symbol cs. next (byte cs) (λ external ds. next (read_two ds) (λ gives es. next (byte es) (λ params fs.
    next (read_four fs) (λ j gs. next (many read_two j gs) (λ locals hs. next (read_block n hs) (λ body.
    done (record { symbol = symbol; external = is_true external; «result» = gives; params = params; locals = locals; body = body }))))))))

abbrev pub read_external : Read PlainExternal
read_external bs = next (read_symbol bs) (λ symbol cs. next (read_two cs) (λ params ds. next (read_two ds) (λ gives. done (record { symbol = symbol; params = params; «result» = gives }))))

-- what follows the magic and the version
abbrev pub read_input : ℕ → Read PlainInput
read_input n bs = next (byte bs) (λ level cs. next (read_four cs) (λ j ds. next (many (read_fn n) j ds) (λ functions es. next (read_four es) (λ k fs. next (many read_external k fs) (λ externals. done (record { level = level; functions = functions; externals = externals }))))))

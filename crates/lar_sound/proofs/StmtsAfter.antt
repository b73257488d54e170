-- What the state after a statement keeps: the types of all locals only grow, each local in scope has its type there,
-- and each type is
-- lawful.
use Rattle.std.proofs.Common.{◌≡◌, ℕ, zero, suc, refl, sym, ap, ◌∙◌, subst as transport, List, [], ◌∷◌, ◌++◌, append_assoc, append-nil, length, slice_get, Option, Some, None}
use Rattle.lar_source.specs.declared.file.Span.{Span}
use Rattle.type_table.specs.TypeOf.{TypeOf}
use Rattle.type_table.specs.declared.sort.Sort.{Sort}
use Rattle.type_table.specs.declared.sort.Sort.TheVariants.{Ty as of_type}
use Rattle.type_table.specs.Lawful.{one}
use Rattle.lar_tree.specs.Exprs.{PlainExpr}
use Rattle.lar_tree.specs.Stmts.{IfThere, PlainSetting, PlainStmt, let_stmt, if_stmt, while_stmt, return_stmt, print_stmt, assert_stmt, expr_stmt, PlainBlock, block, PlainStmts, no_stmts, stmts, PlainIf, fork, PlainElse, no_else, else_block, else_if}
use Rattle.lar_tree.specs.Lawful.{Every, LimitedStmt, LimitedBlock, LimitedStmts, LimitedIf, LimitedElse}
use Rattle.lar_rules.specs.Written.{written}
use Rattle.lar_rules.specs.Judged.{Local}
use Rattle.lar_rules.specs.Bodies.{Body, State, with_local, closed, return_done, expr_done, stmt_done, block_done, stmts_done, if_done, else_done}
use Rattle.lar_sound.specs.Frames.{AreSortsOf, AreNumbered}
use Rattle.lar_sound.proofs.WrittenLawful.{Fits, written_fits}

abbrev pub Types : Type 0
Types = List (Option TypeOf)

-- the first is a front of the second
abbrev pub Front : Types → Types → Type 0
Front xs ys = (zs : Types) × (xs ++ zs ≡ ys)

pub front_self : (xs : Types) → Front xs xs
front_self xs = ([], append-nil xs)

pub front_then : (xs ys zs : Types) → Front xs ys → Front ys zs → Front xs zs
front_then xs ys zs f g = (f.0 ++ g.0, sym (append_assoc xs f.0 g.0) ∙ ap (λ (us : Types). us ++ g.0) f.1 ∙ g.1)

get_front : (xs zs : Types) (n : ℕ) (o : Option TypeOf) → slice_get xs n ≡ Some o → slice_get (xs ++ zs) n ≡ Some o
get_front [] zs n o e = absurd (let no : ⊥ = cc in no)
get_front (x ∷ xs) zs zero o e = e
get_front (x ∷ xs) zs (suc n) o e = get_front xs zs n o e

pub get_in : (xs ys : Types) (n : ℕ) (o : Option TypeOf) → Front xs ys → slice_get xs n ≡ Some o
    → slice_get ys n ≡ Some o
get_in xs ys n o f e = transport (λ (us : Types). slice_get us n ≡ Some o) f.1 (get_front xs f.0 n o e)

pub get_last : (xs : Types) (o : Option TypeOf) → slice_get (xs ++ o ∷ []) (length xs) ≡ Some o
get_last [] o = refl
get_last (x ∷ xs) o = get_last xs o

numbered_front : (xs ys : Types) (ls : List Local) → Front xs ys → AreNumbered xs ls → AreNumbered ys ls
numbered_front xs ys [] f h = tt
numbered_front xs ys (l ∷ ls) f h = (get_in xs ys l.number l.of f h.0, numbered_front xs ys ls f h.1)

-- the state after, seen from that before
pub record IsAfter (s t : State) : Type 0 where
  pub grows : Front s.types t.types
  pub locals : AreNumbered s.types s.locals → AreNumbered t.types t.locals

after_self : (s : State) → IsAfter s s
after_self s = record { grows = front_self s.types; locals = λ h. h }

after_then : (s t u : State) → IsAfter s t → IsAfter t u → IsAfter s u
after_then s t u a b =
    record { grows = front_then s.types t.types u.types a.grows b.grows; locals = λ h. b.locals (a.locals h) }

after_local : (s : State) (name : List ℕ) (o : Option TypeOf) → IsAfter s (with_local s name o)
after_local s name o = record {
  grows = (o ∷ [], refl);
  locals = λ h. (get_last s.types o, numbered_front s.types (s.types ++ o ∷ []) s.locals (o ∷ [], refl) h);
}

after_closed : (s t : State) → IsAfter s t → IsAfter s (closed s t)
after_closed s t a = record { grows = a.grows; locals = λ h. numbered_front s.types t.types s.locals a.grows h }

after_return : (b : Body) (s : State) (at : Span) (o : Option PlainExpr) → IsAfter s (return_done b s at o).after
after_return b s at None = after_self s
after_return b s at (Some e) = after_self s

after_expr : (b : Body) (s : State) (e : PlainExpr) (o : Option PlainSetting) → IsAfter s (expr_done b s e o).after
after_expr b s e None = after_self s
after_expr b s e (Some a) = after_self s

mutual
  pub stmt_after : (b : Body) (s : State) (x : PlainStmt) → IsAfter s (stmt_done b s x).after
  stmt_after b s (let_stmt l) = after_local s l.name.text (written b.site l.ty).of
  stmt_after b s (if_stmt f) = if_after b s f
  stmt_after b s (while_stmt at test body) = block_after b s body
  stmt_after b s (return_stmt at value to) = after_return b s at value
  stmt_after b s (print_stmt a) = after_self s
  stmt_after b s (assert_stmt a) = after_self s
  stmt_after b s (expr_stmt e setting to) = after_expr b s e setting

  pub block_after : (b : Body) (s : State) (x : PlainBlock) → IsAfter s (block_done b s x).after
  block_after b s (block from ss to) = after_closed s (stmts_done b s ss).after (stmts_after b s ss)

  pub stmts_after : (b : Body) (s : State) (xs : PlainStmts) → IsAfter s (stmts_done b s xs).after
  stmts_after b s no_stmts = after_self s
  stmts_after b s (stmts x xs) = after_then s (stmt_done b s x).after (stmts_done b (stmt_done b s x).after xs).after
      (stmt_after b s x) (stmts_after b (stmt_done b s x).after xs)

  pub if_after : (b : Body) (s : State) (f : PlainIf) → IsAfter s (if_done b s f).after
  if_after b s (fork at test body other) =
      after_then s (block_done b s body).after (else_done b (block_done b s body).after other).after
      (block_after b s body) (else_after b (block_done b s body).after other)

  pub else_after : (b : Body) (s : State) (x : PlainElse) → IsAfter s (else_done b s x).after
  else_after b s no_else = after_self s
  else_after b s (else_block at body) = block_after b s body
  else_after b s (else_if at f) = if_after b s f

-- LAWFUL TYPES

-- each type that is known keeps the generics of structs, and the limits of tuples
abbrev pub AreTypes : List (List Sort) → List Sort → Types → Type 0
AreTypes ss gens types = Every (λ (o : Option TypeOf). IfThere (Fits ss gens (one of_type)) o) types

types_then : (ss : List (List Sort)) (gens : List Sort) (xs : Types) (o : Option TypeOf) → AreTypes ss gens xs
    → IfThere (Fits ss gens (one of_type)) o → AreTypes ss gens (xs ++ o ∷ [])
types_then ss gens [] o h k = (k, tt)
types_then ss gens (x ∷ xs) o h k = (h.0, types_then ss gens xs o h.1 k)

return_types : (ss : List (List Sort)) (gens : List Sort) (b : Body) (s : State) (at : Span) (o : Option PlainExpr)
    → AreTypes ss gens s.types → AreTypes ss gens ((return_done b s at o).after).types
return_types ss gens b s at None h = h
return_types ss gens b s at (Some e) h = h

expr_types : (ss : List (List Sort)) (gens : List Sort) (b : Body) (s : State) (e : PlainExpr) (o : Option PlainSetting)
    → AreTypes ss gens s.types → AreTypes ss gens ((expr_done b s e o).after).types
expr_types ss gens b s e None h = h
expr_types ss gens b s e (Some a) h = h

mutual
  stmt_types : (ss : List (List Sort)) (gens : List Sort) (b : Body) → AreSortsOf ss gens b.site → (n : ℕ) (s : State)
      → AreTypes ss gens s.types → (x : PlainStmt) → LimitedStmt n x → AreTypes ss gens ((stmt_done b s x).after).types
  stmt_types ss gens b a n s h (let_stmt l) k =
      types_then ss gens s.types (written b.site l.ty).of h (written_fits ss gens b.site a l.ty (k.0).1)
  stmt_types ss gens b a n s h (if_stmt f) k = if_types ss gens b a n s h f k
  stmt_types ss gens b a n s h (while_stmt at test body) k = block_types ss gens b a n s h body k.1
  stmt_types ss gens b a n s h (return_stmt at value to) k = return_types ss gens b s at value h
  stmt_types ss gens b a n s h (print_stmt x) k = h
  stmt_types ss gens b a n s h (assert_stmt x) k = h
  stmt_types ss gens b a n s h (expr_stmt e setting to) k = expr_types ss gens b s e setting h

  pub block_types : (ss : List (List Sort)) (gens : List Sort) (b : Body) → AreSortsOf ss gens b.site
      → (n : ℕ) (s : State) → AreTypes ss gens s.types → (x : PlainBlock) → LimitedBlock n x
      → AreTypes ss gens ((block_done b s x).after).types
  block_types ss gens b a n s h (block from xs to) k = stmts_types ss gens b a _ s h xs k.1

  stmts_types : (ss : List (List Sort)) (gens : List Sort) (b : Body) → AreSortsOf ss gens b.site → (n : ℕ) (s : State)
      → AreTypes ss gens s.types → (xs : PlainStmts) → LimitedStmts n xs
      → AreTypes ss gens ((stmts_done b s xs).after).types
  stmts_types ss gens b a n s h no_stmts k = h
  stmts_types ss gens b a n s h (stmts x xs) k =
      stmts_types ss gens b a n (stmt_done b s x).after (stmt_types ss gens b a n s h x k.0) xs k.1

  if_types : (ss : List (List Sort)) (gens : List Sort) (b : Body) → AreSortsOf ss gens b.site → (n : ℕ) (s : State)
      → AreTypes ss gens s.types → (f : PlainIf) → LimitedIf n f → AreTypes ss gens ((if_done b s f).after).types
  if_types ss gens b a n s h (fork at test body other) k =
      else_types ss gens b a n (block_done b s body).after (block_types ss gens b a n s h body k.1) other k.2

  else_types : (ss : List (List Sort)) (gens : List Sort) (b : Body) → AreSortsOf ss gens b.site → (n : ℕ) (s : State)
      → AreTypes ss gens s.types → (x : PlainElse) → LimitedElse n x → AreTypes ss gens ((else_done b s x).after).types
  else_types ss gens b a n s h no_else k = h
  else_types ss gens b a n s h (else_block at body) k = block_types ss gens b a n s h body k
  else_types ss gens b a n s h (else_if at f) k = if_types ss gens b a _ s h f k.1

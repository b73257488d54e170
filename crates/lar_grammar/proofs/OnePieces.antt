-- A grouped expression taken apart into operands, fields and signs, and put together again.
use Rattle.std.proofs.Common.{◌≡◌, ℕ, ◌+◌, ◌≤◌, List, [], ◌∷◌, ◌++◌, Option, Some, None, if◌then◌else◌, nat_lt, refl, sym, ap, ◌∙◌, append_assoc, append-nil, arith}
use Rattle.std.proofs.lemmas.Bool.{le-ltb, lt-ltb}
use Rattle.lar_source.specs.declared.file.Span.{Span}
use Rattle.lar_tree.specs.declared.expr.Selector.{Selector}
use Rattle.lar_tree.specs.declared.expr.Unary.{Unary}
use Rattle.lar_tree.specs.declared.expr.Binary.{Binary}
use Rattle.lar_tree.specs.declared.expr.Binary.TheVariants as binary
use Rattle.lar_tree.specs.Exprs.{PlainExpr, number, truth, untruth, paren, new_struct, path, call, field, unary_of, binary_of, Grouped, height, height_of, left_height}

-- an operand, a field of what is before it, a sign before an operand, a sign between two
pub data Piece : Type 0 where
  leaf : PlainExpr → Piece
  dotted : Span → Selector → Piece
  before : Unary → Span → Piece
  between : Binary → Span → Piece

abbrev pub pieces : PlainExpr → List Piece
pieces (number n at) = leaf (number n at) ∷ []
pieces (truth at) = leaf (truth at) ∷ []
pieces (untruth at) = leaf (untruth at) ∷ []
pieces (paren from ps to) = leaf (paren from ps to) ∷ []
pieces (new_struct at p generics from is to) = leaf (new_struct at p generics from is to) ∷ []
pieces (path p) = leaf (path p) ∷ []
pieces (call p generics from ps to) = leaf (call p generics from ps to) ∷ []
pieces (field inner dot s) = pieces inner ++ dotted dot s ∷ []
pieces (unary_of op at inner) = before op at ∷ pieces inner
pieces (binary_of left op at right) = pieces left ++ between op at ∷ pieces right

-- what waits for its operand
data Frame : Type 0 where
  under : Unary → Span → Frame
  beside : PlainExpr → Binary → Span → Frame

-- what binds no looser than this height gets its operand
abbrev reduce : ℕ → List Frame → PlainExpr → List Frame × PlainExpr
reduce h [] e = ([], e)
reduce h (under op at ∷ fs) e = reduce h fs (unary_of op at e)
reduce h (beside left op at ∷ fs) e = if nat_lt h (height_of op) then (beside left op at ∷ fs, e) else reduce h fs (binary_of left op at e)

-- the pieces put together, before an operand and behind one
abbrev mutual
  wanting : List Frame → List Piece → Option PlainExpr
  wanting fs [] = None
  wanting fs (leaf e ∷ ps) = having fs e ps
  wanting fs (dotted dot s ∷ ps) = None
  wanting fs (before op at ∷ ps) = wanting (under op at ∷ fs) ps
  wanting fs (between op at ∷ ps) = None

  having : List Frame → PlainExpr → List Piece → Option PlainExpr
  having fs e [] = Some (reduce 6 fs e).1
  having fs e (leaf x ∷ ps) = None
  having fs e (dotted dot s ∷ ps) = having fs (field e dot s) ps
  having fs e (before op at ∷ ps) = None
  having fs e (between op at ∷ ps) = wanting (beside (reduce (left_height op) fs e).1 op at ∷ (reduce (left_height op) fs e).0) ps

-- the right edge of an expression: what waits there, and the last operand
abbrev spine : PlainExpr → List Frame → List Frame
spine (unary_of op at inner) fs = spine inner (under op at ∷ fs)
spine (binary_of left op at right) fs = spine right (beside left op at ∷ fs)
spine _ fs = fs

abbrev tip : PlainExpr → PlainExpr
tip (unary_of op at inner) = tip inner
tip (binary_of left op at right) = tip right
tip e = e

-- an expression of this height may stand here
abbrev Room : List Frame → ℕ → Type 0
Room [] h = Unit {0}
Room (under op at ∷ fs) h = h ≤ 1
Room (beside left op at ∷ fs) h = h + 1 ≤ height_of op

room_less : (fs : List Frame) (h k : ℕ) → h ≤ k → Room fs k → Room fs h
room_less [] h k l r = tt
room_less (under op at ∷ fs) h k l r = omega arith
room_less (beside left op at ∷ fs) h k l r = omega arith

height_above : (op : Binary) → 2 ≤ height_of op
height_above binary.Or = omega arith
height_above _ = omega arith

height_below : (op : Binary) → height_of op ≤ 6
height_below binary.Or = omega arith
height_below _ = omega arith

left_below : (op : Binary) → left_height op ≤ height_of op
left_below binary.Or = omega arith
left_below _ = omega arith

at_most_six : (e : PlainExpr) → height e ≤ 6
at_most_six (binary_of left op at right) = height_below op
at_most_six (unary_of op at inner) = omega arith
at_most_six _ = omega arith

no_edge : (e : PlainExpr) → height e ≤ 0 → (fs : List Frame) → (spine e fs ≡ fs) × (tip e ≡ e)
no_edge (binary_of left op at right) l fs = let h : height_of op ≤ 0 = l in absurd (omega (arith, height_above op))
no_edge (unary_of op at inner) l fs = let h : 1 ≤ 0 = l in absurd (omega arith)
no_edge _ l fs = (refl, refl)

reduce_edge : (h : ℕ) (e : PlainExpr) (fs : List Frame) → Grouped e → height e ≤ h → reduce h (spine e fs) (tip e) ≡ reduce h fs e
reduce_edge h (unary_of op at inner) fs g l = let k : 1 ≤ h = l in reduce_edge h inner (under op at ∷ fs) g.1 (omega arith)
reduce_edge h (binary_of left op at right) fs g l =
    let k : height_of op ≤ h = l in
    reduce_edge h right (beside left op at ∷ fs) g.3 (omega arith)
    ∙ ap (λ b. if b then (beside left op at ∷ fs, right) else reduce h fs (binary_of left op at right)) (le-ltb h (height_of op) k)
reduce_edge h _ fs g l = refl

blocked : (h k : ℕ) (fs : List Frame) (e : PlainExpr) → h ≤ k → 2 ≤ k → Room fs k → reduce h fs e ≡ (fs, e)
blocked h k [] e l m r = refl
blocked h k (under op at ∷ fs) e l m r = absurd (omega arith)
blocked h k (beside left op at ∷ fs) e l m r = ap (λ b. if b then (beside left op at ∷ fs, e) else reduce h fs (binary_of left op at e)) (lt-ltb h (height_of op) (omega arith))

gone_through : (e : PlainExpr) (fs : List Frame) (ps : List Piece) → Grouped e → Room fs (height e) → wanting fs (pieces e ++ ps) ≡ having (spine e fs) (tip e) ps
gone_through (field inner dot s) fs ps g r =
    let k = no_edge inner g.0 fs in
    ap (wanting fs) (append_assoc (pieces inner) (dotted dot s ∷ []) ps)
    ∙ gone_through inner fs (dotted dot s ∷ ps) g.1 (room_less fs (height inner) 0 g.0 r)
    ∙ ap (λ x. having x (field (tip inner) dot s) ps) k.0
    ∙ ap (λ y. having fs (field y dot s) ps) k.1
gone_through (unary_of op at inner) fs ps g r = gone_through inner (under op at ∷ fs) ps g.1 g.0
gone_through (binary_of left op at right) fs ps g r =
    let l : left_height op ≤ height_of op = left_below op in
    ap (wanting fs) (append_assoc (pieces left) (between op at ∷ pieces right) ps)
    ∙ gone_through left fs (between op at ∷ (pieces right ++ ps)) g.2 (room_less fs (height left) (height_of op) (omega arith) r)
    ∙ ap (λ (p : List Frame × PlainExpr). wanting (beside p.1 op at ∷ p.0) (pieces right ++ ps)) (reduce_edge (left_height op) left fs g.2 g.0 ∙ blocked (left_height op) (height_of op) fs left l (height_above op) r)
    ∙ gone_through right (beside left op at ∷ fs) ps g.3 g.1
gone_through _ fs ps g r = refl

rebuilt : (e : PlainExpr) → Grouped e → wanting [] (pieces e) ≡ Some e
rebuilt e g =
    ap (wanting []) (sym (append-nil (pieces e)))
    ∙ gone_through e [] [] g tt
    ∙ ap (λ (p : List Frame × PlainExpr). Some p.1) (reduce_edge 6 e [] g (at_most_six e))

-- grouped expressions of the same pieces are the same
pub same_pieces : (e f : PlainExpr) → Grouped e → Grouped f → pieces e ≡ pieces f → e ≡ f
same_pieces e f g k p = let h : Some e ≡ Some f = sym (rebuilt e g) ∙ ap (wanting []) p ∙ rebuilt f k in cc

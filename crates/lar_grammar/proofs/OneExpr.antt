-- A grouped expression and what follows it are fixed by their tokens.
use Rattle.std.proofs.Common.{◌≡◌, List, [], ◌∷◌, ◌++◌, Bool, true, false, refl, sym, ap, ◌∙◌, subst, append_assoc, append-nil}
use Rattle.lar_source.specs.declared.file.Span.{Span}
use Rattle.lar_tree.specs.declared.keyword.Keyword.{Keyword}
use Rattle.lar_tree.specs.declared.keyword.Keyword.TheVariants as keyword
use Rattle.lar_tree.specs.declared.sign.Sign.{Sign}
use Rattle.lar_tree.specs.declared.sign.Sign.TheVariants as sign
use Rattle.lar_tree.specs.declared.token.Kind.{Kind}
use Rattle.lar_tree.specs.declared.token.Kind.TheVariants as kind
use Rattle.lar_tree.specs.declared.token.Token.{Token}
use Rattle.lar_tree.specs.declared.expr.Selector.{Selector}
use Rattle.lar_tree.specs.declared.expr.Selector.TheVariants as selector
use Rattle.lar_tree.specs.declared.expr.Unary.{Unary}
use Rattle.lar_tree.specs.declared.expr.Unary.TheVariants as unary
use Rattle.lar_tree.specs.declared.expr.Binary.{Binary}
use Rattle.lar_tree.specs.declared.expr.Binary.TheVariants as binary
use Rattle.lar_tree.specs.Spelling.{sign_token}
use Rattle.lar_tree.specs.Exprs.{PlainExpr, number, truth, untruth, paren, new_struct, path, call, field, unary_of, binary_of, unary_sign, binary_sign, selector_token, flat_expr, Grouped}
use Rattle.lar_grammar.proofs.OneType.{Same, tails, heads, spans, same_kinds, Spared, Never, never, NoSegment, same_name, same_value}
use Rattle.lar_grammar.proofs.OnePieces.{Piece, leaf, dotted, before, between, pieces, same_pieces}

-- ---- what begins an expression, and what could lengthen one

abbrev pub begins : Sign → Bool
begins sign.OpenParen = true
begins sign.Minus = true
begins sign.Not = true
begins _ = false

abbrev pub begins_word : Keyword → Bool
begins_word keyword.True = true
begins_word keyword.False = true
begins_word keyword.New = true
begins_word _ = false

abbrev pub StartKind : Kind → Type 0
StartKind (kind.Sign s) = begins s ≡ true
StartKind (kind.Word w) = begins_word w ≡ true
StartKind (kind.Name n) = Unit {0}
StartKind (kind.Number n) = Unit {0}

abbrev pub Starts : List Token → Type 0
Starts [] = ⊥
Starts (t ∷ ts) = StartKind t.kind

unary_begins : (op : Unary) → begins (unary_sign op) ≡ true
unary_begins unary.Minus = refl
unary_begins unary.Not = refl

pub starts : (e : PlainExpr) (r : List Token) → Starts (flat_expr e ++ r)
starts (number n at) r = tt
starts (truth at) r = refl
starts (untruth at) r = refl
starts (paren from ps to) r = refl
starts (new_struct at p generics from is to) r = refl
starts (path p) r = tt
starts (call p generics from ps to) r = tt
starts (field inner dot s) r = subst Starts (sym (append_assoc (flat_expr inner) _ r)) (starts inner _)
starts (unary_of op at inner) r = unary_begins op
starts (binary_of left op at right) r = subst Starts (sym (append_assoc (flat_expr left) _ r)) (starts left _)

pub starts_not : (e : PlainExpr) (s : Sign) (at : Span) (r rest : List Token) → flat_expr e ++ r ≡ sign_token s at ∷ rest → begins s ≡ false → ⊥
starts_not e s at r rest h n = let k : begins s ≡ true = subst Starts h (starts e r) in cc

-- what could lengthen an expression
abbrev pub grows : Sign → Bool
grows sign.PathSep = true
grows sign.OpenParen = true
grows sign.Dot = true
grows sign.Or = true
grows sign.And = true
grows sign.Equal = true
grows sign.NotEqual = true
grows sign.Less = true
grows sign.AtMost = true
grows sign.Greater = true
grows sign.AtLeast = true
grows sign.Plus = true
grows sign.Minus = true
grows sign.Star = true
grows sign.Slash = true
grows sign.Percent = true
grows _ = false

-- what could lengthen an operand
abbrev pub calls : Sign → Bool
calls sign.PathSep = true
calls sign.OpenParen = true
calls _ = false

operator_grows : (op : Binary) → grows (binary_sign op) ≡ true
operator_grows binary.Or = refl
operator_grows _ = refl

operator_ends : (op : Binary) → calls (binary_sign op) ≡ false
operator_ends binary.Or = refl
operator_ends _ = refl

lesser : (s : Sign) → grows s ≡ false → calls s ≡ false
lesser sign.PathSep e = e
lesser sign.OpenParen e = e
lesser _ e = refl

less : (r : List Token) → Never grows r → Never calls r
less [] n = tt
less (t ∷ ts) n = less_kind t.kind n
  where
    less_kind : (k : Kind) → Spared grows k → Spared calls k
    less_kind (kind.Sign s) h = lesser s h
    less_kind (kind.Name x) h = tt
    less_kind (kind.Number x) h = tt
    less_kind (kind.Word x) h = tt

pub call_segment : (r : List Token) → Never calls r → NoSegment r
call_segment r n at m rest e = never calls sign.PathSep at r _ n e refl

-- ---- signs and selectors

same_sign : {a b : Sign} → kind.Sign a ≡ kind.Sign b → a ≡ b
same_sign e = cc

abbrev unary_at : Sign → Unary
unary_at sign.Not = unary.Not
unary_at _ = unary.Minus

unary_back : (op : Unary) → unary_at (unary_sign op) ≡ op
unary_back unary.Minus = refl
unary_back unary.Not = refl

same_unary : (a b : Unary) → unary_sign a ≡ unary_sign b → a ≡ b
same_unary a b e = sym (unary_back a) ∙ ap unary_at e ∙ unary_back b

abbrev binary_at : Sign → Binary
binary_at sign.And = binary.And
binary_at sign.Equal = binary.Equal
binary_at sign.NotEqual = binary.NotEqual
binary_at sign.Less = binary.Less
binary_at sign.AtMost = binary.AtMost
binary_at sign.Greater = binary.Greater
binary_at sign.AtLeast = binary.AtLeast
binary_at sign.Plus = binary.Plus
binary_at sign.Minus = binary.Minus
binary_at sign.Star = binary.Star
binary_at sign.Slash = binary.Slash
binary_at sign.Percent = binary.Percent
binary_at _ = binary.Or

binary_back : (op : Binary) → binary_at (binary_sign op) ≡ op
binary_back binary.Or = refl
binary_back _ = refl

same_binary : (a b : Binary) → binary_sign a ≡ binary_sign b → a ≡ b
same_binary a b e = sym (binary_back a) ∙ ap binary_at e ∙ binary_back b

no_dot : (op : Binary) → sign.Dot ≡ binary_sign op → ⊥
no_dot binary.Or e = cc
no_dot _ e = cc

same_selector : (x y : Selector) (r s : List Token) → selector_token x ∷ r ≡ selector_token y ∷ s → x ≡ y
same_selector (selector.Name n) (selector.Name m) r s e = ap selector.Name (same_name n m (heads e))
same_selector (selector.Number n at) (selector.Number m at') r s e = cc (same_value e, spans e)
same_selector (selector.Name n) (selector.Number m at') r s e = absurd (cc (same_kinds e))
same_selector (selector.Number m at') (selector.Name n) r s e = absurd (cc (same_kinds e))

-- ---- pieces

abbrev flat_piece : Piece → List Token
flat_piece (leaf e) = flat_expr e
flat_piece (dotted dot s) = sign_token sign.Dot dot ∷ selector_token s ∷ []
flat_piece (before op at) = sign_token (unary_sign op) at ∷ []
flat_piece (between op at) = sign_token (binary_sign op) at ∷ []

abbrev flat_pieces : List Piece → List Token
flat_pieces [] = []
flat_pieces (p ∷ ps) = flat_piece p ++ flat_pieces ps

flat-append : (ps qs : List Piece) → flat_pieces (ps ++ qs) ≡ flat_pieces ps ++ flat_pieces qs
flat-append [] qs = refl
flat-append (p ∷ ps) qs = ap (λ ts. flat_piece p ++ ts) (flat-append ps qs) ∙ sym (append_assoc (flat_piece p) (flat_pieces ps) (flat_pieces qs))

flat_of : (e : PlainExpr) → flat_pieces (pieces e) ≡ flat_expr e
flat_of (number n at) = refl
flat_of (truth at) = refl
flat_of (untruth at) = refl
flat_of (paren from ps to) = append-nil _
flat_of (new_struct at p generics from is to) = append-nil _
flat_of (path p) = append-nil _
flat_of (call p generics from ps to) = append-nil _
flat_of (field inner dot s) = flat-append (pieces inner) _ ∙ ap (λ ts. ts ++ sign_token sign.Dot dot ∷ selector_token s ∷ []) (flat_of inner)
flat_of (unary_of op at inner) = ap (λ ts. sign_token (unary_sign op) at ∷ ts) (flat_of inner)
flat_of (binary_of left op at right) = flat-append (pieces left) _ ∙ ap (λ ts. ts ++ sign_token (binary_sign op) at ∷ flat_pieces (pieces right)) (flat_of left) ∙ ap (λ ts. flat_expr left ++ sign_token (binary_sign op) at ∷ ts) (flat_of right)

abbrev pub IsLeaf : PlainExpr → Type 0
IsLeaf (field inner dot s) = ⊥
IsLeaf (unary_of op at inner) = ⊥
IsLeaf (binary_of left op at right) = ⊥
IsLeaf _ = Unit {0}

-- these pieces are an expression, or go on behind an operand
abbrev mutual
  Wanted : List Piece → Type 0
  Wanted [] = ⊥
  Wanted (leaf e ∷ ps) = IsLeaf e × Grouped e × Had ps
  Wanted (dotted dot s ∷ ps) = ⊥
  Wanted (before op at ∷ ps) = Wanted ps
  Wanted (between op at ∷ ps) = ⊥

  Had : List Piece → Type 0
  Had [] = Unit {0}
  Had (leaf e ∷ ps) = ⊥
  Had (dotted dot s ∷ ps) = Had ps
  Had (before op at ∷ ps) = ⊥
  Had (between op at ∷ ps) = Wanted ps

wanted : (e : PlainExpr) (ps : List Piece) → Grouped e → Had ps → Wanted (pieces e ++ ps)
wanted (field inner dot s) ps g h = subst Wanted (sym (append_assoc (pieces inner) (dotted dot s ∷ []) ps)) (wanted inner (dotted dot s ∷ ps) g.1 h)
wanted (unary_of op at inner) ps g h = wanted inner ps g.1 h
wanted (binary_of left op at right) ps g h = subst Wanted (sym (append_assoc (pieces left) (between op at ∷ pieces right) ps)) (wanted left (between op at ∷ (pieces right ++ ps)) g.2 (wanted right ps g.3 h))
wanted _ ps g h = (tt, g, h)

whole_wanted : (e : PlainExpr) → Grouped e → Wanted (pieces e)
whole_wanted e g = subst Wanted (append-nil (pieces e)) (wanted e [] g tt)

-- an operand and what follows it are fixed by their tokens
abbrev pub SameLeaf : PlainExpr → Type 0
SameLeaf e = (f : PlainExpr) (r s : List Token) → flat_expr e ++ r ≡ flat_expr f ++ s → IsLeaf f → Grouped f → Never calls r → Never calls s → Same e f r s

abbrev pub Each : List Piece → Type 0
Each [] = Unit {0}
Each (leaf e ∷ ps) = SameLeaf e × Each ps
Each (dotted dot s ∷ ps) = Each ps
Each (before op at ∷ ps) = Each ps
Each (between op at ∷ ps) = Each ps

pub each-append : (ps qs : List Piece) → Each ps → Each qs → Each (ps ++ qs)
each-append [] qs a b = b
each-append (leaf e ∷ ps) qs a b = (a.0, each-append ps qs a.1 b)
each-append (dotted dot s ∷ ps) qs a b = each-append ps qs a b
each-append (before op at ∷ ps) qs a b = each-append ps qs a b
each-append (between op at ∷ ps) qs a b = each-append ps qs a b

after_had : (ps : List Piece) (r : List Token) → Had ps → Never grows r → Never calls (flat_pieces ps ++ r)
after_had [] r h n = less r n
after_had (dotted dot s ∷ ps) r h n = refl
after_had (between op at ∷ ps) r h n = operator_ends op
after_had (leaf e ∷ ps) r h n = absurd h
after_had (before op at ∷ ps) r h n = absurd h

no_before : (e : PlainExpr) (op : Unary) (at : Span) (r s : List Token) → flat_expr e ++ r ≡ sign_token (unary_sign op) at ∷ s → IsLeaf e → ⊥
no_before (field inner dot x) op at r s e l = l
no_before (unary_of o x inner) op at r s e l = l
no_before (binary_of left o x right) op at r s e l = l
no_before (paren from ps to) unary.Minus at r s e l = cc (same_kinds e)
no_before (paren from ps to) unary.Not at r s e l = cc (same_kinds e)
no_before _ op at r s e l = cc (same_kinds e)

mutual
  same_wanted : (ps qs : List Piece) (r s : List Token) → flat_pieces ps ++ r ≡ flat_pieces qs ++ s → Wanted ps → Wanted qs → Each ps → Never grows r → Never grows s → Same ps qs r s
  same_wanted (leaf e ∷ ps) (leaf f ∷ qs) r s h w v c a b =
      let k = sym (append_assoc (flat_expr e) (flat_pieces ps) r) ∙ h ∙ append_assoc (flat_expr f) (flat_pieces qs) s in
      let p = c.0 f _ _ k v.0 v.1 (after_had ps r w.2 a) (after_had qs s v.2 b) in
      let q = same_had ps qs r s p.1 w.2 v.2 c.1 a b in
      (cc (p.0, q.0), q.1)
  same_wanted (leaf e ∷ ps) (before op at ∷ qs) r s h w v c a b = absurd (no_before e op at _ _ (sym (append_assoc (flat_expr e) (flat_pieces ps) r) ∙ h) w.0)
  same_wanted (before op at ∷ ps) (leaf f ∷ qs) r s h w v c a b = absurd (no_before f op at _ _ (sym (append_assoc (flat_expr f) (flat_pieces qs) s) ∙ sym h) v.0)
  same_wanted (before op at ∷ ps) (before op' at' ∷ qs) r s h w v c a b =
      let p = same_wanted ps qs r s (tails h) w v c a b in
      (cc (same_unary op op' (same_sign (same_kinds h)), spans h, p.0), p.1)
  same_wanted [] qs r s h w v c a b = absurd w
  same_wanted (dotted dot x ∷ ps) qs r s h w v c a b = absurd w
  same_wanted (between op at ∷ ps) qs r s h w v c a b = absurd w
  same_wanted _ _ r s h w v c a b = absurd v

  same_had : (ps qs : List Piece) (r s : List Token) → flat_pieces ps ++ r ≡ flat_pieces qs ++ s → Had ps → Had qs → Each ps → Never grows r → Never grows s → Same ps qs r s
  same_had [] [] r s h w v c a b = (refl, h)
  same_had [] (dotted dot x ∷ qs) r s h w v c a b = absurd (never grows sign.Dot dot r _ a h refl)
  same_had [] (between op at ∷ qs) r s h w v c a b = absurd (never grows (binary_sign op) at r _ a h (operator_grows op))
  same_had (dotted dot x ∷ ps) [] r s h w v c a b = absurd (never grows sign.Dot dot s _ b (sym h) refl)
  same_had (between op at ∷ ps) [] r s h w v c a b = absurd (never grows (binary_sign op) at s _ b (sym h) (operator_grows op))
  same_had (dotted dot x ∷ ps) (dotted dot' y ∷ qs) r s h w v c a b =
      let p = same_had ps qs r s (tails (tails h)) w v c a b in
      (cc (spans h, same_selector x y _ _ (tails h), p.0), p.1)
  same_had (dotted dot x ∷ ps) (between op at ∷ qs) r s h w v c a b = absurd (no_dot op (same_sign (same_kinds h)))
  same_had (between op at ∷ ps) (dotted dot x ∷ qs) r s h w v c a b = absurd (no_dot op (sym (same_sign (same_kinds h))))
  same_had (between op at ∷ ps) (between op' at' ∷ qs) r s h w v c a b =
      let p = same_wanted ps qs r s (tails h) w v c a b in
      (cc (same_binary op op' (same_sign (same_kinds h)), spans h, p.0), p.1)
  same_had (leaf e ∷ ps) qs r s h w v c a b = absurd w
  same_had (before op at ∷ ps) qs r s h w v c a b = absurd w
  same_had _ _ r s h w v c a b = absurd v

-- an expression whose operands are fixed
pub same_by : (e f : PlainExpr) (r s : List Token) → flat_expr e ++ r ≡ flat_expr f ++ s → Grouped e → Grouped f → Each (pieces e) → Never grows r → Never grows s → Same e f r s
same_by e f r s h g k c a b =
    let p = same_wanted (pieces e) (pieces f) r s (ap (λ ts. ts ++ r) (flat_of e) ∙ h ∙ ap (λ ts. ts ++ s) (sym (flat_of f))) (whole_wanted e g) (whole_wanted f k) c a b in
    (same_pieces e f g k p.0, p.1)

-- A token that an expression's symbol takes, and what completes the stack behind it, are what the symbol stands for.
use Rattle.std.proofs.Common.{◌≡◌, ℕ, ◌-◌, ◌≤◌, List, [], ◌∷◌, ◌++◌, Option, Some, None, refl, sym, ap, ◌∙◌, append_assoc, arith}
use Rattle.lar_source.specs.declared.file.Span.{Span}
use Rattle.lar_tree.specs.declared.keyword.Keyword.TheVariants as keyword
use Rattle.lar_tree.specs.declared.sign.Sign.TheVariants as sign
use Rattle.lar_tree.specs.declared.token.Kind.{Kind}
use Rattle.lar_tree.specs.declared.token.Kind.TheVariants as kind
use Rattle.lar_tree.specs.declared.token.Token.{Token}
use Rattle.lar_tree.specs.declared.name.Name.{Name}
use Rattle.lar_tree.specs.declared.name.Path.{Path}
use Rattle.lar_tree.specs.declared.name.Segment.{Segment}
use Rattle.lar_tree.specs.declared.expr.Selector.TheVariants as choice
use Rattle.lar_tree.specs.declared.expr.Unary.{Unary}
use Rattle.lar_tree.specs.declared.expr.Unary.TheVariants as unary
use Rattle.lar_tree.specs.declared.expr.Binary.{Binary}
use Rattle.lar_tree.specs.Spelling.{sign_token, word_token, number_token, name_token, flat_path, flat_segments}
use Rattle.lar_tree.specs.Types.{PlainArgs, flat_args}
use Rattle.lar_tree.specs.Exprs.{PlainExpr, number, truth, untruth, paren, new_struct, call, field, unary_of, binary_of, PlainParts, PlainInits, flat_expr, flat_parts, flat_inits, unary_sign, binary_sign, selector_token, height, height_of, Grouped, GroupedParts, GroupedInits}
use Rattle.lar_grammar.specs.Looks.{is_sign, operator}
use Rattle.lar_grammar.specs.Symbols.{expr_member, init_member, arg_member, member, more, listed, one_sign, one_name, level, operand, tails, post, selector, path_rest, sep_rest, new_rest, new_sep_rest, outer_expr, leave, Stack}
use Rattle.lar_grammar.specs.Moves.{in_parens, in_braces, operand_at, climb, next_low, in_reach, operated, selector_at, path_on, sep_on, new_on, new_sep_on, whole_at, expand}
use Rattle.lar_grammar.proofs.Meaning.{Is, Completes, ExprOf, at_least_one}
use Rattle.lar_grammar.proofs.Taking.{body_of, when-take, then-halves, entering-body, alone, from_body, body-completed, before-leave, name-on, sign-on, last-sign, take-sign, take-operator}
use Rattle.lar_grammar.proofs.Members.{parts_of, inits_of, args_of}
use Rattle.lar_grammar.proofs.Heights.{reached, fits_next, fits_operand, right_below}

-- the same tokens, written another way
pub respelled : (h : ℕ) (f g : List Token) → f ≡ g → ExprOf h f → ExprOf h g
respelled h f g p e = (e.0, e.1, e.2, e.3 ∙ p)

pub raised : (a b : ℕ) (f : List Token) → a ≤ b → ExprOf a f → ExprOf b f
raised a b f p e = let q = e.2 in (e.0, e.1, omega arith, e.3)

-- an operand and fields
posted : (f g w : List Token) → ExprOf 0 f → Is post g → f ++ g ≡ w → ExprOf 0 w
posted f g w e p q =
    let r = p e.0 e.1 e.2 in
    (r.0, r.1, r.2, r.3 ∙ ap (λ x. x ++ g) e.3 ∙ q)

-- ---- lists in brackets

-- parts and the bracket behind them
parts_on : (n : ℕ) (ss : Stack) (f : List Token) → Completes (listed expr_member n sign.CloseParen ∷ one_sign sign.CloseParen ∷ ss) f → (ps : PlainParts) × (to : Span) × (g : List Token) × GroupedParts ps × (f ≡ (flat_parts ps ++ sign_token sign.CloseParen to ∷ []) ++ g) × Completes ss g
parts_on n ss f c =
    let ps = parts_of c.0 c.3 in
    let d = sign-on sign.CloseParen ss c.1 c.4 in
    (ps.0, d.0, d.1, ps.1, c.2 ∙ ap (λ x. x ++ c.1) (sym ps.2) ∙ ap (λ x. flat_parts ps.0 ++ x) d.2 ∙ sym (append_assoc (flat_parts ps.0) (sign_token sign.CloseParen d.0 ∷ []) d.1), d.3)

last_parts : (n : ℕ) (f : List Token) → Completes (in_parens expr_member n) f → (ps : PlainParts) × (to : Span) × GroupedParts ps × (flat_parts ps ++ sign_token sign.CloseParen to ∷ [] ≡ f)
last_parts n f c =
    let d = parts_on n [] f c in
    (d.0, d.1, d.3, before-leave (flat_parts d.0 ++ sign_token sign.CloseParen d.1 ∷ []) d.2 f d.5 d.4)

last_inits : (n : ℕ) (f : List Token) → Completes (in_braces init_member n) f → (is : PlainInits) × (to : Span) × GroupedInits is × (flat_inits is ++ sign_token sign.CloseBrace to ∷ [] ≡ f)
last_inits n f c =
    let is = inits_of c.0 c.3 in
    let d = last-sign sign.CloseBrace c.1 c.4 in
    (is.0, d.0, is.1, ap (λ x. x ++ sign_token sign.CloseBrace d.0 ∷ []) is.2 ∙ ap (λ x. c.0 ++ x) (sym d.1) ∙ sym c.2)

-- arguments behind a `<`, and the bracket
args_on : (from : Span) (ss : Stack) (f : List Token) → Completes (member arg_member ∷ more arg_member 15 ∷ one_sign sign.Greater ∷ ss) f → (a : PlainArgs) × (g : List Token) × (sign_token sign.Less from ∷ f ≡ flat_args a ++ g) × Completes ss g
args_on from ss f c =
    let m = c.4 in
    let d = sign-on sign.Greater ss m.1 m.4 in
    let bs = m.3.0 in
    let a = args_of from d.0 c.0 (sign_token sign.Less from ∷ (c.0 ++ (m.0 ++ sign_token sign.Greater d.0 ∷ []))) c.3 bs (ap (λ x. sign_token sign.Less from ∷ (c.0 ++ (x ++ sign_token sign.Greater d.0 ∷ []))) m.3.1) in
    (a.0, d.1, ap (λ x. sign_token sign.Less from ∷ x) (c.2 ∙ ap (λ x. c.0 ++ x) (m.2 ∙ ap (λ x. m.0 ++ x) d.2) ∙ regrouped c.0 m.0 (sign_token sign.Greater d.0 ∷ []) d.1) ∙ ap (λ x. x ++ d.1) (sym a.1), d.3)
  where
    regrouped : (a b c d : List Token) → a ++ (b ++ (c ++ d)) ≡ (a ++ (b ++ c)) ++ d
    regrouped a b c d = ap (λ x. a ++ x) (sym (append_assoc b c d)) ∙ sym (append_assoc a (b ++ c) d)

-- ---- paths

-- a path and one name more
longer : Path → Span → Name → Path
longer p sep n = record { first = p.first; more = p.more ++ record { sep = sep; name = n } ∷ [] }

flat_segments_longer : (ss : List Segment) (sep : Span) (n : Name) → flat_segments (ss ++ record { sep = sep; name = n } ∷ []) ≡ flat_segments ss ++ sign_token sign.PathSep sep ∷ name_token n ∷ []
flat_segments_longer [] sep n = refl
flat_segments_longer (s ∷ ss) sep n = ap (λ x. sign_token sign.PathSep s.sep ∷ name_token s.name ∷ x) (flat_segments_longer ss sep n)

flat_longer : (p : Path) (sep : Span) (n : Name) (f : List Token) → flat_path (longer p sep n) ++ f ≡ flat_path p ++ sign_token sign.PathSep sep ∷ name_token n ∷ f
unfolding longer
flat_longer p sep n f = ap (λ x. name_token p.first ∷ (x ++ f)) (flat_segments_longer p.more sep n) ∙ ap (λ x. name_token p.first ∷ x) (append_assoc (flat_segments p.more) (sign_token sign.PathSep sep ∷ name_token n ∷ []) f)

-- ---- selectors, and fields

selector_taken : (k : Kind) (at : Span) (ss : Stack) (f : List Token) → body_of (selector_at (Some k)) ≡ Some ss → Completes ss f → Is selector (record { kind = k; span = at } ∷ f)
selector_taken (kind.Name n) at ss f e c = (choice.Name (record { text = n; span = at }), ap (λ x. record { kind = kind.Name n; span = at } ∷ x) (sym (body-completed [] ss f e c)))
selector_taken (kind.Number n) at ss f e c = (choice.Number n at, ap (λ x. number_token n at ∷ x) (sym (body-completed [] ss f e c)))
selector_taken k at ss f e c = cc

pub takes-selector : (t : Token) (ss : Stack) (f : List Token) → body_of (selector_at (Some t.kind)) ≡ Some ss → Completes ss f → Is selector (t ∷ f)
takes-selector t ss f e c = selector_taken t.kind t.span ss f e c

pub takes-post : (t : Token) (ss : Stack) (f : List Token) → body_of (expand post (Some t.kind)) ≡ Some ss → Completes ss f → Is post (t ∷ f)
takes-post t ss f e c = λ l g a.
    let w = when-take (is_sign sign.Dot (Some t.kind)) (selector ∷ post ∷ []) ss e in
    let d = from_body (selector ∷ post ∷ []) ss f w.1 c in
    let s = d.3 in
    let r = alone post d.1 d.4 (field l t.span s.0) (a, g) (omega arith) in (
      r.0,
      r.1,
      r.2,
      r.3 ∙ append_assoc (flat_expr l) (sign_token sign.Dot t.span ∷ selector_token s.0 ∷ []) d.1
          ∙ ap (λ x. flat_expr l ++ x) (ap (λ x. x ∷ selector_token s.0 ∷ d.1) (sym (take-sign sign.Dot t w.0)) ∙ ap (λ x. t ∷ x) (ap (λ x. x ++ d.1) s.1 ∙ sym d.2)),
    )

-- ---- what stands behind a name

path_taken : (k : Kind) (at : Span) (ss : Stack) (f : List Token) → body_of (path_on (Some k)) ≡ Some ss → Completes ss f → (p : Path) → ExprOf 0 (flat_path p ++ record { kind = k; span = at } ∷ f)
path_taken (kind.Sign sign.PathSep) at ss f e c p = alone sep_rest f (body-completed (sep_rest ∷ []) ss f e c) p at
path_taken (kind.Sign sign.OpenParen) at ss f e c p =
    let d = last_parts 15 f (body-completed (in_parens expr_member 15) ss f e c) in
    (call p None at d.0 d.1, d.2, omega arith, ap (λ x. flat_path p ++ sign_token sign.OpenParen at ∷ x) d.3)
path_taken k at ss f e c p = cc

pub takes-path_rest : (t : Token) (ss : Stack) (f : List Token) → body_of (path_on (Some t.kind)) ≡ Some ss → Completes ss f → Is path_rest (t ∷ f)
takes-path_rest t ss f e c = λ p. path_taken t.kind t.span ss f e c p

sep_taken : (k : Kind) (at : Span) (ss : Stack) (f : List Token) → body_of (sep_on (Some k)) ≡ Some ss → Completes ss f → (p : Path) (sep : Span) → ExprOf 0 (flat_path p ++ sign_token sign.PathSep sep ∷ record { kind = k; span = at } ∷ f)
sep_taken (kind.Name n) at ss f e c p sep =
    let name : Name = record { text = n; span = at } in
    respelled 0 (flat_path (longer p sep name) ++ f) (flat_path p ++ sign_token sign.PathSep sep ∷ name_token name ∷ f) (flat_longer p sep name f) (alone path_rest f (body-completed (path_rest ∷ []) ss f e c) (longer p sep name))
sep_taken (kind.Sign sign.Less) at ss f e c p sep =
    let a = args_on at (one_sign sign.OpenParen ∷ in_parens expr_member 15) f (body-completed (member arg_member ∷ more arg_member 15 ∷ one_sign sign.Greater ∷ one_sign sign.OpenParen ∷ in_parens expr_member 15) ss f e c) in
    let o = sign-on sign.OpenParen (in_parens expr_member 15) a.1 a.3 in
    let d = last_parts 15 o.1 o.3 in (
      call p (Some (sep, a.0)) o.0 d.0 d.1,
      d.2,
      omega arith,
      ap (λ x. flat_path p ++ sign_token sign.PathSep sep ∷ x) (ap (λ x. flat_args a.0 ++ x) (ap (λ x. sign_token sign.OpenParen o.0 ∷ x) d.3 ∙ sym o.2) ∙ sym a.2),
    )
sep_taken k at ss f e c p sep = cc

pub takes-sep_rest : (t : Token) (ss : Stack) (f : List Token) → body_of (sep_on (Some t.kind)) ≡ Some ss → Completes ss f → Is sep_rest (t ∷ f)
takes-sep_rest t ss f e c = λ p sep. sep_taken t.kind t.span ss f e c p sep

-- ---- what stands behind `new` and a name

new_taken : (k : Kind) (at : Span) (ss : Stack) (f : List Token) → body_of (new_on (Some k)) ≡ Some ss → Completes ss f → (word : Span) (p : Path) → ExprOf 0 (word_token keyword.New word ∷ (flat_path p ++ record { kind = k; span = at } ∷ f))
new_taken (kind.Sign sign.PathSep) at ss f e c word p = alone new_sep_rest f (body-completed (new_sep_rest ∷ []) ss f e c) word p at
new_taken (kind.Sign sign.OpenBrace) at ss f e c word p =
    let d = last_inits 63 f (body-completed (in_braces init_member 63) ss f e c) in
    (new_struct word p None at d.0 d.1, d.2, omega arith, ap (λ x. word_token keyword.New word ∷ (flat_path p ++ sign_token sign.OpenBrace at ∷ x)) d.3)
new_taken k at ss f e c word p = cc

pub takes-new_rest : (t : Token) (ss : Stack) (f : List Token) → body_of (new_on (Some t.kind)) ≡ Some ss → Completes ss f → Is new_rest (t ∷ f)
takes-new_rest t ss f e c = λ word p. new_taken t.kind t.span ss f e c word p

new_sep_taken : (k : Kind) (at : Span) (ss : Stack) (f : List Token) → body_of (new_sep_on (Some k)) ≡ Some ss → Completes ss f → (word : Span) (p : Path) (sep : Span) → ExprOf 0 (word_token keyword.New word ∷ (flat_path p ++ sign_token sign.PathSep sep ∷ record { kind = k; span = at } ∷ f))
new_sep_taken (kind.Name n) at ss f e c word p sep =
    let name : Name = record { text = n; span = at } in
    respelled 0 (word_token keyword.New word ∷ (flat_path (longer p sep name) ++ f)) (word_token keyword.New word ∷ (flat_path p ++ sign_token sign.PathSep sep ∷ name_token name ∷ f)) (ap (λ x. word_token keyword.New word ∷ x) (flat_longer p sep name f)) (alone new_rest f (body-completed (new_rest ∷ []) ss f e c) word (longer p sep name))
new_sep_taken (kind.Sign sign.Less) at ss f e c word p sep =
    let a = args_on at (one_sign sign.OpenBrace ∷ in_braces init_member 63) f (body-completed (member arg_member ∷ more arg_member 15 ∷ one_sign sign.Greater ∷ one_sign sign.OpenBrace ∷ in_braces init_member 63) ss f e c) in
    let o = sign-on sign.OpenBrace (in_braces init_member 63) a.1 a.3 in
    let d = last_inits 63 o.1 o.3 in (
      new_struct word p (Some (sep, a.0)) o.0 d.0 d.1,
      d.2,
      omega arith,
      ap (λ x. word_token keyword.New word ∷ (flat_path p ++ sign_token sign.PathSep sep ∷ x)) (ap (λ x. flat_args a.0 ++ x) (ap (λ x. sign_token sign.OpenBrace o.0 ∷ x) d.3 ∙ sym o.2) ∙ sym a.2),
    )
new_sep_taken k at ss f e c word p sep = cc

pub takes-new_sep_rest : (t : Token) (ss : Stack) (f : List Token) → body_of (new_sep_on (Some t.kind)) ≡ Some ss → Completes ss f → Is new_sep_rest (t ∷ f)
takes-new_sep_rest t ss f e c = λ word p sep. new_sep_taken t.kind t.span ss f e c word p sep

-- ---- operands

signed_operand : (op : Unary) (at : Span) (f : List Token) → ExprOf 1 f → ExprOf 1 (sign_token (unary_sign op) at ∷ f)
signed_operand op at f e = (unary_of op at e.0, (e.2, e.1), omega arith, ap (λ x. sign_token (unary_sign op) at ∷ x) e.3)

-- a literal and fields
literal : (e : PlainExpr) (t : Token) (f : List Token) → Grouped e → height e ≤ 0 → flat_expr e ≡ t ∷ [] → Completes (post ∷ []) f → ExprOf 1 (t ∷ f)
literal e t f g a q c = raised 0 1 (t ∷ f) (omega arith) (posted (t ∷ []) f (t ∷ f) (e, g, a, q) (alone post f c) refl)

operand_taken : (k : Kind) (at : Span) (ss : Stack) (f : List Token) → body_of (operand_at (Some k)) ≡ Some ss → Completes ss f → ExprOf 1 (record { kind = k; span = at } ∷ f)
operand_taken (kind.Number n) at ss f e c = literal (number n at) (number_token n at) f tt (omega arith) refl (body-completed (post ∷ []) ss f e c)
operand_taken (kind.Word keyword.True) at ss f e c = literal (truth at) (word_token keyword.True at) f tt (omega arith) refl (body-completed (post ∷ []) ss f e c)
operand_taken (kind.Word keyword.False) at ss f e c = literal (untruth at) (word_token keyword.False at) f tt (omega arith) refl (body-completed (post ∷ []) ss f e c)
operand_taken (kind.Word keyword.New) at ss f e c =
    let n = name-on (new_rest ∷ post ∷ []) f (body-completed (one_name ∷ new_rest ∷ post ∷ []) ss f e c) in
    let d = n.3 in
    let p : Path = record { first = n.0; more = [] } in
    raised 0 1 (word_token keyword.New at ∷ f) (omega arith)
    (posted (word_token keyword.New at ∷ name_token n.0 ∷ d.0) d.1 (word_token keyword.New at ∷ f) (d.3 at p) (alone post d.1 d.4)
    (ap (λ x. word_token keyword.New at ∷ x) (ap (λ x. name_token n.0 ∷ x) (sym d.2) ∙ sym n.2)))
operand_taken (kind.Name n) at ss f e c =
    let d = body-completed (path_rest ∷ post ∷ []) ss f e c in
    let name : Name = record { text = n; span = at } in
    let p : Path = record { first = name; more = [] } in
    raised 0 1 (name_token name ∷ f) (omega arith) (posted (name_token name ∷ d.0) d.1 (name_token name ∷ f) (d.3 p) (alone post d.1 d.4) (ap (λ x. name_token name ∷ x) (sym d.2)))
operand_taken (kind.Sign sign.OpenParen) at ss f e c =
    let d = parts_on 7 (post ∷ []) f (body-completed (listed expr_member 7 sign.CloseParen ∷ one_sign sign.CloseParen ∷ post ∷ []) ss f e c) in
    let in_brackets : ExprOf 0 (sign_token sign.OpenParen at ∷ (flat_parts d.0 ++ sign_token sign.CloseParen d.1 ∷ [])) = (paren at d.0 d.1, d.3, omega arith, refl) in
    raised 0 1 (sign_token sign.OpenParen at ∷ f) (omega arith)
    (posted (sign_token sign.OpenParen at ∷ (flat_parts d.0 ++ sign_token sign.CloseParen d.1 ∷ [])) d.2 (sign_token sign.OpenParen at ∷ f) in_brackets (alone post d.2 d.5) (ap (λ x. sign_token sign.OpenParen at ∷ x) (sym d.4)))
operand_taken (kind.Sign sign.Minus) at ss f e c = signed_operand unary.Minus at f (alone operand f (body-completed (operand ∷ []) ss f e c))
operand_taken (kind.Sign sign.Not) at ss f e c = signed_operand unary.Not at f (alone operand f (body-completed (operand ∷ []) ss f e c))
operand_taken k at ss f e c = cc

pub takes-operand : (t : Token) (ss : Stack) (f : List Token) → body_of (operand_at (Some t.kind)) ≡ Some ss → Completes ss f → Is operand (t ∷ f)
takes-operand t ss f e c = operand_taken t.kind t.span ss f e c

-- ---- signs between operands

tails_behind : (low h : ℕ) (op : Binary) (at : Span) (f : List Token) → low ≤ height_of op → height_of op ≤ h → Completes (level (height_of op - 1) ∷ tails (next_low op) h ∷ []) f → Is (tails low h) (sign_token (binary_sign op) at ∷ f)
tails_behind low h op at f reach top c = λ l g fits a.
    let r = c.3 in
    let high : height_of op ≤ at_least_one h = omega arith in
    let e = alone (tails (next_low op) h) c.1 c.4 (binary_of l op at r.0) (fits op reach, right_below op (height r.0) r.2, g, r.1) (fits_next op l r.0 at) high in
    (e.0, e.1, e.2, e.3 ∙ append_assoc (flat_expr l) (sign_token (binary_sign op) at ∷ flat_expr r.0) c.1 ∙ ap (λ x. flat_expr l ++ sign_token (binary_sign op) at ∷ x) (ap (λ x. x ++ c.1) r.3 ∙ sym c.2))

tails_taken : (low h : ℕ) (t : Token) (ss : Stack) (f : List Token) (o : Option Binary) → operator (Some t.kind) ≡ o → body_of (operated low h o) ≡ Some ss → Completes ss f → Is (tails low h) (t ∷ f)
tails_taken low h t ss f None q e c = cc
tails_taken low h t ss f (Some op) q e c =
    let w = when-take (in_reach low h op) (level (height_of op - 1) ∷ tails (next_low op) h ∷ []) ss e in
    let b = reached low h op w.0 in
    λ l g fits a.
    respelled (at_least_one h) (flat_expr l ++ sign_token (binary_sign op) t.span ∷ f) (flat_expr l ++ t ∷ f) (ap (λ x. flat_expr l ++ x ∷ f) (sym (take-operator op t q)))
    (tails_behind low h op t.span f b.0 b.1 (from_body (level (height_of op - 1) ∷ tails (next_low op) h ∷ []) ss f w.1 c) l g fits a)

pub takes-tails : (low h : ℕ) (t : Token) (ss : Stack) (f : List Token) → body_of (operated low h (operator (Some t.kind))) ≡ Some ss → Completes ss f → Is (tails low h) (t ∷ f)
takes-tails low h t ss f e c = tails_taken low h t ss f (operator (Some t.kind)) refl e c

-- ---- whole expressions

-- an operand, and signs with their right operands
climbed : (h : ℕ) (t : Token) (a b f : List Token) → ExprOf 1 (t ∷ a) → Is (tails 2 h) b → f ≡ a ++ b → ExprOf (at_least_one h) (t ∷ f)
climbed h t a b f o p e =
    let low = o.2 in
    let r = p o.0 o.1 (fits_operand o.0 low) (omega arith) in
    (r.0, r.1, r.2, r.3 ∙ ap (λ x. x ++ b) o.3 ∙ ap (λ x. t ∷ x) (sym e))

pub takes-level : (h : ℕ) (t : Token) (ss : Stack) (f : List Token) → body_of (climb h (Some t.kind)) ≡ Some ss → Completes ss f → Is (level h) (t ∷ f)
takes-level h t ss f e c =
    let d = then-halves (operand_at (Some t.kind)) (tails 2 h ∷ []) ss f e c in
    climbed h t d.1 d.2 f (takes-operand t d.0 d.1 d.3 d.5) (alone (tails 2 h) d.2 d.6) d.4

pub takes-whole : (t : Token) (ss : Stack) (f : List Token) → body_of (whole_at (Some t.kind)) ≡ Some ss → Completes ss f → ExprOf 6 (t ∷ f)
takes-whole t ss f e c = takes-level 6 t ss f (sym (entering-body (climb 6 (Some t.kind))) ∙ e) c

pub takes-outer_expr : (t : Token) (ss : Stack) (f : List Token) → body_of (expand outer_expr (Some t.kind)) ≡ Some ss → Completes ss f → Is outer_expr (t ∷ f)
takes-outer_expr t ss f e c =
    let d = then-halves (whole_at (Some t.kind)) (leave ∷ []) ss f e c in
    let r = takes-whole t d.0 d.1 d.3 d.5 in
    (r.0, r.1, r.2, r.3 ∙ ap (λ x. t ∷ x) (before-leave d.1 d.2 f (alone leave d.2 d.6) d.4))

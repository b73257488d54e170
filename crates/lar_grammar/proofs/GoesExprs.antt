-- The machine goes through the tokens of each expression.
use Rattle.std.proofs.Common.{◌≡◌, ℕ, ◌+◌, ◌-◌, ◌≤◌, List, [], ◌∷◌, ◌++◌, Option, Some, None, false, refl, sym, ap, ◌∙◌, subst, arith}
use Rattle.lar_source.specs.declared.file.Span.{Span}
use Rattle.lar_tree.specs.declared.sign.Sign.{Sign}
use Rattle.lar_tree.specs.declared.sign.Sign.TheVariants as sign
use Rattle.lar_tree.specs.declared.keyword.Keyword.TheVariants as keyword
use Rattle.lar_tree.specs.declared.token.Kind.TheVariants as kind
use Rattle.lar_tree.specs.declared.token.Token.{Token}
use Rattle.lar_tree.specs.declared.name.Name.{Name}
use Rattle.lar_tree.specs.declared.name.Path.{Path}
use Rattle.lar_tree.specs.declared.name.Segment.{Segment}
use Rattle.lar_tree.specs.declared.expr.Selector.{Selector}
use Rattle.lar_tree.specs.declared.expr.Selector.TheVariants as selects
use Rattle.lar_tree.specs.declared.expr.Unary.{Unary}
use Rattle.lar_tree.specs.declared.expr.Unary.TheVariants as unary
use Rattle.lar_tree.specs.declared.expr.Binary.{Binary}
use Rattle.lar_tree.specs.Spelling.{sign_token, word_token, number_token, name_token, flat_segments, flat_path}
use Rattle.lar_tree.specs.Types.{angle_args}
use Rattle.lar_tree.specs.Exprs.{PlainTurbofish, PlainExpr, number, truth, untruth, paren, new_struct, path, call, field, unary_of, binary_of, PlainParts, no_parts, parts, MoreParts, last_part, next_part, PlainInits, no_inits, inits, MoreInits, last_init, next_init, binary_sign, selector_token, height_of, left_height, height, Grouped, GroupedParts, GroupedMoreParts, GroupedInits, GroupedMoreInits}
use Rattle.lar_tree.specs.Marks.{Marked, un, unmarked, over, marked_option, marked_turbofish, marked_expr, marked_parts, marked_more_parts, marked_inits, marked_more_inits, outermost}
use Rattle.lar_tree.specs.Marks.{tokens_of}
use Rattle.lar_grammar.specs.Looks.{Look, look, is_sign}
use Rattle.lar_grammar.specs.Symbols.{expr_member, init_member, arg_member, Symbol, one_sign, one_name, member, more, listed, level, operand, tails, post, selector, path_rest, sep_rest, new_rest, new_sep_rest, outer_expr, leave, Stack, skip, fail, then_}
use Rattle.lar_grammar.specs.Moves.{expand, in_parens, in_braces, operand_at, next_low, whole_at}
use Rattle.lar_grammar.proofs.Going.{inside, outside, Goes, Any, seq, token, token_then, part, over_more, drop_end, opens, alike, when_also, outermost-goes, HasFirst, has_first-append, stays, tokens_on}
use Rattle.lar_grammar.proofs.GoingTokens.{at_sign, not_sign, sign_then, name_then}
use Rattle.lar_grammar.proofs.GoesLists.{operand_not_skip, climb_not_skip, IsAt, Ends, Further, no_further, one_further, listed_none, listed_some, closed}
use Rattle.lar_grammar.proofs.GoesTypes.{goes-args}
use Rattle.lar_grammar.proofs.GoesSigns.{Quiet, NotCall, quieter, quiet-not_call, not_call-at, quiet-at, ends-quiet, skip_post, skip_path, skip_tails, quiet-operator, take_tails, high_enough, left_not_above, height_of-bound, low_of, low-fits}

-- ---- the first token of an expression

pub has_first-expr : (e : PlainExpr) → HasFirst (marked_expr e)
has_first-expr (number n at) = tt
has_first-expr (truth at) = tt
has_first-expr (untruth at) = tt
has_first-expr (paren from ps to) = tt
has_first-expr (new_struct at p generics from is to) = tt
has_first-expr (path p) = tt
has_first-expr (call p generics from ps to) = tt
has_first-expr (field inner dot s) = has_first-append (marked_expr inner) _ (has_first-expr inner)
has_first-expr (unary_of op at inner) = tt
has_first-expr (binary_of l op at r) = has_first-append (marked_expr l) _ (has_first-expr l)

-- an expression begins
abbrev pub BeginsExpr : Look → Type 0
BeginsExpr l = operand_at l ≡ fail → ⊥

begins-on : (a b : List Marked) (rest : List Token) → ((rest : List Token) → BeginsExpr (look (tokens_of a ++ rest))) → BeginsExpr (look (tokens_of (a ++ b) ++ rest))
begins-on a b rest f = subst (λ x. BeginsExpr (look x)) (sym (tokens_on a b rest)) (f (tokens_of b ++ rest))

begins-unary : (op : Unary) (at : Span) (e : PlainExpr) (rest : List Token) → BeginsExpr (look (tokens_of (marked_expr (unary_of op at e)) ++ rest))
begins-unary unary.Minus at e rest z = cc
begins-unary unary.Not at e rest z = cc

pub begins-expr : (e : PlainExpr) (rest : List Token) → BeginsExpr (look (tokens_of (marked_expr e) ++ rest))
begins-expr (number n at) rest z = cc
begins-expr (truth at) rest z = cc
begins-expr (untruth at) rest z = cc
begins-expr (paren from ps to) rest z = cc
begins-expr (new_struct at p generics from is to) rest z = cc
begins-expr (path p) rest z = cc
begins-expr (call p generics from ps to) rest z = cc
begins-expr (field inner dot s) rest z = begins-on (marked_expr inner) _ rest (begins-expr inner) z
begins-expr (unary_of op at inner) rest z = begins-unary op at inner rest z
begins-expr (binary_of l op at r) rest z = begins-on (marked_expr l) _ rest (begins-expr l) z

pub begins-no_sign : (s : Sign) (l : Look) → operand_at (Some (kind.Sign s)) ≡ fail → BeginsExpr l → is_sign s l ≡ false
begins-no_sign s l e n = not_sign s l (λ k. n (ap operand_at k ∙ e))

-- ---- what holds of each expression

pub record Claims (e : PlainExpr) : Type 0 where
  -- up to where its fields may follow
  pub posts : height e ≤ 0 → Goes inside NotCall (marked_expr e) (operand ∷ []) (post ∷ [])
  pub whole : height e ≤ 1 → Goes inside (Quiet 0) (marked_expr e) (operand ∷ []) []
  -- up to where further signs may follow
  pub spine : (h : ℕ) → 1 ≤ h → height e ≤ h → Goes inside (Quiet (height e - 1)) (marked_expr e) (level h ∷ []) (tails (low_of e) h ∷ [])

full : (e : PlainExpr) → Claims e → (h : ℕ) → 1 ≤ h → height e ≤ h → Goes inside (Quiet h) (marked_expr e) (level h ∷ []) []
full e c h a b =
    drop_end (tails (low_of e) h) (λ r. refl) (λ l q. quieter h (height e - 1) l (omega arith) q) (λ l q. skip_tails (low_of e) h l q.above) (c.spine h a b)

-- an operand, and the signs behind it
spine-operand : (ms : List Marked) (h : ℕ) → Goes inside (Quiet 0) ms (operand ∷ []) [] → Goes inside (Quiet 0) ms (level h ∷ []) (tails 2 h ∷ [])
spine-operand ms h g = opens (level h) operand (tails 2 h ∷ []) [] (λ rest p. refl) operand_not_skip (over_more g (tails 2 h ∷ []))

whole-operand : (ms : List Marked) → Goes inside NotCall ms (operand ∷ []) (post ∷ []) → Goes inside (Quiet 0) ms (operand ∷ []) []
whole-operand ms g = drop_end post (λ r. refl) (quiet-not_call 0) (λ l q. skip_post l q.dot) g

-- ---- operands

goes-path : (ss : List Segment) → Goes inside Any (unmarked (flat_segments ss)) (path_rest ∷ []) (path_rest ∷ [])
goes-path [] = stays (path_rest ∷ [])
goes-path (s ∷ ss) = token_then (sign_token sign.PathSep s.sep) (sep_rest ∷ []) refl (token_then (name_token s.name) (path_rest ∷ []) refl (goes-path ss))

goes-new_path : (ss : List Segment) → Goes inside Any (unmarked (flat_segments ss)) (new_rest ∷ []) (new_rest ∷ [])
goes-new_path [] = stays (new_rest ∷ [])
goes-new_path (s ∷ ss) = token_then (sign_token sign.PathSep s.sep) (new_sep_rest ∷ []) refl (token_then (name_token s.name) (new_rest ∷ []) refl (goes-new_path ss))

post-path : (p : Path) → Goes inside NotCall (unmarked (flat_path p)) (operand ∷ []) (post ∷ [])
post-path p =
    token_then (name_token p.first) (path_rest ∷ post ∷ []) refl
    (drop_end path_rest (λ r. refl) (λ l q. tt) skip_path (over_more (goes-path p.more) (post ∷ [])))

-- a call's arguments, from behind its `(` on
goes-in_parens : {P : Look → Type 0} (n : ℕ) (ps : PlainParts) (to : Span) → Goes inside (IsAt sign.CloseParen) (marked_parts n ps) (listed expr_member n sign.CloseParen ∷ []) [] → Goes inside P (marked_parts n ps ++ un (sign_token sign.CloseParen to) ∷ []) (in_parens expr_member n) []
goes-in_parens n ps to g = closed expr_member n sign.CloseParen (marked_parts n ps) to g

-- and from behind its path on
goes-call : (generics : Option PlainTurbofish) (from to : Span) (ps : PlainParts) → Goes inside (IsAt sign.CloseParen) (marked_parts 15 ps) (listed expr_member 15 sign.CloseParen ∷ []) [] → Goes inside NotCall (marked_option marked_turbofish generics ++ un (sign_token sign.OpenParen from) ∷ (marked_parts 15 ps ++ un (sign_token sign.CloseParen to) ∷ [])) (path_rest ∷ []) []
goes-call None from to ps g = token_then (sign_token sign.OpenParen from) (in_parens expr_member 15) refl (goes-in_parens 15 ps to g)
goes-call (Some (sep, angle_args less a others greater)) from to ps g =
    token_then (sign_token sign.PathSep sep) (sep_rest ∷ []) refl
    (token_then (sign_token sign.Less less) (member arg_member ∷ more arg_member 15 ∷ one_sign sign.Greater ∷ one_sign sign.OpenParen ∷ in_parens expr_member 15) refl
    (part {P = Any} (one_sign sign.OpenParen ∷ in_parens expr_member 15) (goes-args a others greater) (sign_then sign.OpenParen from (goes-in_parens 15 ps to g)) (λ rest q. tt)))

post-call : (p : Path) (generics : Option PlainTurbofish) (from to : Span) (ps : PlainParts) → Goes inside (IsAt sign.CloseParen) (marked_parts 15 ps) (listed expr_member 15 sign.CloseParen ∷ []) [] → Goes inside NotCall (marked_expr (call p generics from ps to)) (operand ∷ []) (post ∷ [])
post-call p generics from to ps g =
    token_then (name_token p.first) (path_rest ∷ post ∷ []) refl (over_more (seq (goes-path p.more) (goes-call generics from to ps g) (λ rest q. tt)) (post ∷ []))

post-paren : (from to : Span) (ps : PlainParts) → Goes inside (IsAt sign.CloseParen) (marked_parts 7 ps) (listed expr_member 7 sign.CloseParen ∷ []) [] → Goes inside NotCall (marked_expr (paren from ps to)) (operand ∷ []) (post ∷ [])
post-paren from to ps g = token_then (sign_token sign.OpenParen from) (in_parens expr_member 7 ++ post ∷ []) refl (over_more (goes-in_parens 7 ps to g) (post ∷ []))

-- what is behind the path of a new struct
goes-new : (generics : Option PlainTurbofish) (from to : Span) (is : PlainInits) → Goes inside (IsAt sign.CloseBrace) (marked_inits is) (listed init_member 63 sign.CloseBrace ∷ []) [] → Goes inside NotCall (marked_option marked_turbofish generics ++ un (sign_token sign.OpenBrace from) ∷ (marked_inits is ++ un (sign_token sign.CloseBrace to) ∷ [])) (new_rest ∷ []) []
goes-new None from to is g = token_then (sign_token sign.OpenBrace from) (in_braces init_member 63) refl (closed init_member 63 sign.CloseBrace (marked_inits is) to g)
goes-new (Some (sep, angle_args less a others greater)) from to is g =
    token_then (sign_token sign.PathSep sep) (new_sep_rest ∷ []) refl
    (token_then (sign_token sign.Less less) (member arg_member ∷ more arg_member 15 ∷ one_sign sign.Greater ∷ one_sign sign.OpenBrace ∷ in_braces init_member 63) refl
    (part {P = Any} (one_sign sign.OpenBrace ∷ in_braces init_member 63) (goes-args a others greater) (sign_then sign.OpenBrace from (closed init_member 63 sign.CloseBrace (marked_inits is) to g)) (λ rest q. tt)))

post-new : (at : Span) (p : Path) (generics : Option PlainTurbofish) (from to : Span) (is : PlainInits) → Goes inside (IsAt sign.CloseBrace) (marked_inits is) (listed init_member 63 sign.CloseBrace ∷ []) [] → Goes inside NotCall (marked_expr (new_struct at p generics from is to)) (operand ∷ []) (post ∷ [])
post-new at p generics from to is g =
    token_then (word_token keyword.New at) (one_name ∷ new_rest ∷ post ∷ []) refl
    (name_then p.first (over_more (seq (goes-new_path p.more) (goes-new generics from to is g) (λ rest q. tt)) (post ∷ [])))

goes-selector : (s : Selector) → Goes inside NotCall (un (selector_token s) ∷ []) (selector ∷ []) []
goes-selector (selects.Name n) = token (name_token n) refl
goes-selector (selects.Number n at) = token (number_token n at) refl

post-field : (e : PlainExpr) (dot : Span) (s : Selector) → Goes inside NotCall (marked_expr e) (operand ∷ []) (post ∷ []) → Goes inside NotCall (marked_expr (field e dot s)) (operand ∷ []) (post ∷ [])
post-field e dot s g =
    seq g (token_then (sign_token sign.Dot dot) (selector ∷ post ∷ []) (at_sign sign.Dot _ skip) (over_more (goes-selector s) (post ∷ []))) (λ rest q. not_call-at sign.Dot (λ z. cc) (λ z. cc))

whole-unary : (op : Unary) (at : Span) (e : PlainExpr) → Goes inside (Quiet 0) (marked_expr e) (operand ∷ []) [] → Goes inside (Quiet 0) (marked_expr (unary_of op at e)) (operand ∷ []) []
whole-unary unary.Minus at e g = token_then (sign_token sign.Minus at) (operand ∷ []) refl g
whole-unary unary.Not at e g = token_then (sign_token sign.Not at) (operand ∷ []) refl g

-- ---- claims

-- of an expression of height at most 1
claims-operand : (e : PlainExpr) → low_of e ≡ 2 → height e ≤ 1 → (height e ≤ 0 → Goes inside NotCall (marked_expr e) (operand ∷ []) (post ∷ [])) → Goes inside (Quiet 0) (marked_expr e) (operand ∷ []) [] → Claims e
claims-operand e low small post_ g =
    let none : height e - 1 ≡ 0 = omega arith in
    record {
      posts = post_;
      whole = λ a. g;
      spine = λ h a b. subst (λ k. Goes inside (Quiet k) (marked_expr e) (level h ∷ []) (tails (low_of e) h ∷ [])) (sym none)
          (subst (λ k. Goes inside (Quiet 0) (marked_expr e) (level h ∷ []) (tails k h ∷ [])) (sym low) (spine-operand (marked_expr e) h g));
    }

-- of one of height 0
claims-post : (e : PlainExpr) → low_of e ≡ 2 → height e ≡ 0 → Goes inside NotCall (marked_expr e) (operand ∷ []) (post ∷ []) → Claims e
claims-post e low none g = claims-operand e low (omega arith) (λ a. g) (whole-operand (marked_expr e) g)

spine-binary : (l : PlainExpr) (op : Binary) (at : Span) (r : PlainExpr) → Claims l → Claims r → height l ≤ left_height op → height r + 1 ≤ height_of op → (h : ℕ) → 1 ≤ h → height_of op ≤ h → Goes inside (Quiet (height_of op - 1)) (marked_expr (binary_of l op at r)) (level h ∷ []) (tails (next_low op) h ∷ [])
spine-binary l op at r c d left_low right_low h a b =
    seq (c.spine h a (omega (arith, left_not_above op)))
    (token_then (sign_token (binary_sign op) at) (level (height_of op - 1) ∷ tails (next_low op) h ∷ []) (take_tails (low_of l) h op (low-fits l op left_low) b)
    (over_more (full r d (height_of op - 1) (omega (arith, high_enough op)) (omega arith)) (tails (next_low op) h ∷ [])))
    (λ rest q. quiet-operator op (height l - 1) (omega (arith, left_not_above op, high_enough op)))

claims-binary : (l : PlainExpr) (op : Binary) (at : Span) (r : PlainExpr) → Claims l → Claims r → height l ≤ left_height op → height r + 1 ≤ height_of op → Claims (binary_of l op at r)
claims-binary l op at r c d left_low right_low = record {
  posts = λ a. absurd (omega (arith, high_enough op));
  whole = λ a. absurd (omega (arith, high_enough op));
  spine = spine-binary l op at r c d left_low right_low;
}

-- ---- lists of expressions

quiet-close : Quiet 6 (Some (kind.Sign sign.CloseParen))
quiet-close = quiet-at 6 sign.CloseParen (λ e. cc) (λ e. cc) (λ e. cc) tt

quiet-brace : Quiet 6 (Some (kind.Sign sign.CloseBrace))
quiet-brace = quiet-at 6 sign.CloseBrace (λ e. cc) (λ e. cc) (λ e. cc) tt

pub height-bound : (e : PlainExpr) → height e ≤ 6
height-bound (binary_of l op at r) = height_of-bound op
height-bound (number n at) = omega arith
height-bound (truth at) = omega arith
height-bound (untruth at) = omega arith
height-bound (paren from ps to) = omega arith
height-bound (new_struct at p generics from is to) = omega arith
height-bound (path p) = omega arith
height-bound (call p generics from ps to) = omega arith
height-bound (field inner dot s) = omega arith
height-bound (unary_of sign_ at inner) = omega arith

goes-part : (e : PlainExpr) → Claims e → Goes inside (Ends sign.CloseParen) (marked_expr e) (member expr_member ∷ []) []
goes-part e c =
    when_also (λ l z. ends-quiet sign.CloseParen l quiet-close z)
    (alike (member expr_member) (level 6) (λ r. refl) (λ rest p. refl) (full e c 6 (omega arith) (height-bound e)))

some_parts : (n : ℕ) (e : PlainExpr) (others : List Marked) → Claims e → Further inside expr_member sign.CloseParen n others → Goes inside (IsAt sign.CloseParen) (marked_expr e ++ others) (listed expr_member n sign.CloseParen ∷ []) []
some_parts n e others c f =
    listed_some expr_member n sign.CloseParen (marked_expr e) others (λ rest. begins-no_sign sign.CloseParen _ refl (begins-on (marked_expr e) others rest (begins-expr e))) (goes-part e c) f

one_more_part : (n : ℕ) (comma : Span) (e : PlainExpr) (others : List Marked) → Claims e → Further inside expr_member sign.CloseParen (n - 1) others → Further inside expr_member sign.CloseParen n (un (sign_token sign.Comma comma) ∷ (over n (marked_expr e) ++ others))
one_more_part n comma e others c f = one_further expr_member sign.CloseParen n comma (marked_expr e) others (has_first-expr e) (goes-part e c) f

goes-init : (n : Name) (colon : Span) (e : PlainExpr) → Claims e → Goes inside (Ends sign.CloseBrace) (un (name_token n) ∷ un (sign_token sign.Colon colon) ∷ marked_expr e) (member init_member ∷ []) []
goes-init n colon e c =
    when_also (λ l z. ends-quiet sign.CloseBrace l quiet-brace z)
    (token_then (name_token n) (one_sign sign.Colon ∷ level 6 ∷ []) refl (sign_then sign.Colon colon (full e c 6 (omega arith) (height-bound e))))

some_inits : (n : Name) (colon : Span) (e : PlainExpr) (others : List Marked) → Claims e → Further inside init_member sign.CloseBrace 63 others → Goes inside (IsAt sign.CloseBrace) (un (name_token n) ∷ un (sign_token sign.Colon colon) ∷ (marked_expr e ++ others)) (listed init_member 63 sign.CloseBrace ∷ []) []
some_inits n colon e others c f =
    listed_some init_member 63 sign.CloseBrace (un (name_token n) ∷ un (sign_token sign.Colon colon) ∷ marked_expr e) others (λ rest. refl) (goes-init n colon e c) f

one_more_init : (k : ℕ) (comma : Span) (n : Name) (colon : Span) (e : PlainExpr) (others : List Marked) → Claims e → Further inside init_member sign.CloseBrace (k - 1) others → Further inside init_member sign.CloseBrace k (un (sign_token sign.Comma comma) ∷ (over k (un (name_token n) ∷ un (sign_token sign.Colon colon) ∷ marked_expr e) ++ others))
one_more_init k comma n colon e others c f =
    one_further init_member sign.CloseBrace k comma (un (name_token n) ∷ un (sign_token sign.Colon colon) ∷ marked_expr e) others tt (goes-init n colon e c) f

-- ---- all expressions

mutual
  claims : (e : PlainExpr) → Grouped e → Claims e
  claims (number n at) g = claims-post (number n at) refl refl (token (number_token n at) refl)
  claims (truth at) g = claims-post (truth at) refl refl (token (word_token keyword.True at) refl)
  claims (untruth at) g = claims-post (untruth at) refl refl (token (word_token keyword.False at) refl)
  claims (paren from ps to) g = claims-post (paren from ps to) refl refl (post-paren from to ps (goes-parts 7 ps g))
  claims (new_struct at p generics from is to) g = claims-post (new_struct at p generics from is to) refl refl (post-new at p generics from to is (goes-inits is g))
  claims (path p) g = claims-post (path p) refl refl (post-path p)
  claims (call p generics from ps to) g = claims-post (call p generics from ps to) refl refl (post-call p generics from to ps (goes-parts 15 ps g))
  claims (field inner dot s) g = claims-post (field inner dot s) refl refl (post-field inner dot s ((claims inner g.1).posts g.0))
  claims (unary_of op at inner) g = claims-operand (unary_of op at inner) refl (omega arith) (λ a. absurd (omega arith)) (whole-unary op at inner ((claims inner g.1).whole g.0))
  claims (binary_of l op at r) g = claims-binary l op at r (claims l g.2) (claims r g.3) g.0 g.1

  goes-parts : (n : ℕ) (ps : PlainParts) → GroupedParts ps → Goes inside (IsAt sign.CloseParen) (marked_parts n ps) (listed expr_member n sign.CloseParen ∷ []) []
  goes-parts n no_parts g = listed_none expr_member n sign.CloseParen
  goes-parts n (parts first others) g = some_parts n first (marked_more_parts n others) (claims first g.0) (further-parts n others g.1)

  further-parts : (n : ℕ) (ps : MoreParts) → GroupedMoreParts ps → Further inside expr_member sign.CloseParen n (marked_more_parts n ps)
  further-parts n last_part g = no_further expr_member sign.CloseParen n (λ e. cc)
  further-parts n (next_part comma e others) g = one_more_part n comma e (marked_more_parts (n - 1) others) (claims e g.0) (further-parts (n - 1) others g.1)

  goes-inits : (is : PlainInits) → GroupedInits is → Goes inside (IsAt sign.CloseBrace) (marked_inits is) (listed init_member 63 sign.CloseBrace ∷ []) []
  goes-inits no_inits g = listed_none init_member 63 sign.CloseBrace
  goes-inits (inits n colon e others) g = some_inits n colon e (marked_more_inits 63 others) (claims e g.0) (further-inits 63 others g.1)

  further-inits : (k : ℕ) (is : MoreInits) → GroupedMoreInits is → Further inside init_member sign.CloseBrace k (marked_more_inits k is)
  further-inits k last_init g = no_further init_member sign.CloseBrace k (λ e. cc)
  further-inits k (next_init comma n colon e others) g = one_more_init k comma n colon e (marked_more_inits (k - 1) others) (claims e g.0) (further-inits (k - 1) others g.1)

pub goes-expr : (e : PlainExpr) → Grouped e → Goes inside (Quiet 6) (marked_expr e) (level 6 ∷ []) []
goes-expr e g = full e (claims e g) 6 (omega arith) (height-bound e)

pub goes-outer-expr : (e : PlainExpr) → Grouped e → Goes outside (Quiet 6) (outermost e) (outer_expr ∷ []) []
goes-outer-expr e g = outermost-goes (level 6) outer_expr [] (λ rest p. refl) (climb_not_skip 6) (goes-expr e g)

-- an expression where its first token enters from another symbol, and what stands behind it
pub goes-entered : (e : PlainExpr) → Grouped e → (s : Symbol) (behind : Stack) → ((l : Look) → BeginsExpr l → expand s l ≡ then_ (whole_at l) (leave ∷ behind)) → Goes outside (Quiet 6) (outermost e) (s ∷ []) behind
goes-entered e g s behind k = outermost-goes (level 6) s behind (λ rest p. k _ (begins-expr e rest)) (climb_not_skip 6) (goes-expr e g)

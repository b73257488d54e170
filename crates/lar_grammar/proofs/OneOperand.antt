-- Each operand is fixed by its tokens, and so is each expression.
use Rattle.std.proofs.Common.{◌≡◌, ℤ, List, [], ◌∷◌, ◌++◌, Option, Some, None, refl, sym, ap, ◌∙◌, append_assoc}
use Rattle.lar_source.specs.declared.file.Span.{Span}
use Rattle.lar_tree.specs.declared.sign.Sign.TheVariants as sign
use Rattle.lar_tree.specs.declared.token.Token.{Token}
use Rattle.lar_tree.specs.declared.name.Path.{Path}
use Rattle.lar_tree.specs.Spelling.{sign_token, flat_option}
use Rattle.lar_tree.specs.Types.{angle_args}
use Rattle.lar_tree.specs.Exprs.{PlainTurbofish, PlainExpr, number, truth, untruth, paren, new_struct, path, call, field, unary_of, binary_of, PlainParts, no_parts, parts, MoreParts, last_part, next_part, PlainInits, no_inits, inits, MoreInits, last_init, next_init, flat_turbofish, flat_expr, flat_parts, flat_more_parts, flat_inits, flat_more_inits, Grouped, GroupedParts, GroupedMoreParts, GroupedInits, GroupedMoreInits}
use Rattle.lar_grammar.proofs.OneType.{Same, tails, heads, spans, same_kinds, Never, never, NoSegment, same_name, same_path, same_value, same_args, lengthens, no_segment}
use Rattle.lar_grammar.proofs.OnePieces.{dotted, between, pieces}
use Rattle.lar_grammar.proofs.OneExpr.{starts_not, grows, calls, call_segment, SameLeaf, Each, each-append, same_by}

same_pair : (t u : PlainTurbofish) → t.0 ≡ u.0 → t.1 ≡ u.1 → t ≡ u
same_pair t u a b = ap (λ x. (x, t.1)) a ∙ ap (λ x. (u.0, x)) b

same_turbofish : (o q : Option PlainTurbofish) (r s : List Token) → flat_option flat_turbofish o ++ r ≡ flat_option flat_turbofish q ++ s → Never lengthens r → Never lengthens s → Same o q r s
same_turbofish None None r s e a b = (refl, e)
same_turbofish None (Some u) r s e a b = absurd (never lengthens sign.PathSep u.0 r _ a e refl)
same_turbofish (Some t) None r s e a b = absurd (never lengthens sign.PathSep t.0 s _ b (sym e) refl)
same_turbofish (Some t) (Some u) r s e a b = let p = same_args t.1 u.1 r s (tails e) in (ap Some (same_pair t u (spans e) p.0), p.1)

turbofish_segment : (o : Option PlainTurbofish) (r : List Token) → Never lengthens r → NoSegment (flat_option flat_turbofish o ++ r)
turbofish_segment None r n = no_segment r n
turbofish_segment (Some (sep, angle_args from x xs to)) r n = λ at m rest e. cc (same_kinds (tails e))

no_call : (o : Option PlainTurbofish) (from : Span) (r s : List Token) → r ≡ flat_option flat_turbofish o ++ sign_token sign.OpenParen from ∷ s → Never calls r → ⊥
no_call None from r s e n = never calls sign.OpenParen from r _ n e refl
no_call (Some t) from r s e n = never calls sign.PathSep t.0 r _ n e refl

-- what stands in brackets is fixed, up to the bracket
abbrev SameParts : PlainParts → Type 0
SameParts ps = (qs : PlainParts) (to to' : Span) (r s : List Token) → flat_parts ps ++ sign_token sign.CloseParen to ∷ r ≡ flat_parts qs ++ sign_token sign.CloseParen to' ∷ s → GroupedParts qs → (ps ≡ qs) × (to ≡ to') × (r ≡ s)

abbrev SameInits : PlainInits → Type 0
SameInits is = (js : PlainInits) (to to' : Span) (r s : List Token) → flat_inits is ++ sign_token sign.CloseBrace to ∷ r ≡ flat_inits js ++ sign_token sign.CloseBrace to' ∷ s → GroupedInits js → (is ≡ js) × (to ≡ to') × (r ≡ s)

number_leaf : (n : ℤ) (at : Span) → SameLeaf (number n at)
number_leaf n at (number m at') r s e l g a b = (cc (same_value e, spans e), tails e)
number_leaf n at (field inner dot x) r s e l g a b = absurd l
number_leaf n at (unary_of op x inner) r s e l g a b = absurd l
number_leaf n at (binary_of left op x right) r s e l g a b = absurd l
number_leaf n at _ r s e l g a b = absurd (cc (same_kinds e))

truth_leaf : (at : Span) → SameLeaf (truth at)
truth_leaf at (truth at') r s e l g a b = (ap truth (spans e), tails e)
truth_leaf at (field inner dot x) r s e l g a b = absurd l
truth_leaf at (unary_of op x inner) r s e l g a b = absurd l
truth_leaf at (binary_of left op x right) r s e l g a b = absurd l
truth_leaf at _ r s e l g a b = absurd (cc (same_kinds e))

untruth_leaf : (at : Span) → SameLeaf (untruth at)
untruth_leaf at (untruth at') r s e l g a b = (ap untruth (spans e), tails e)
untruth_leaf at (field inner dot x) r s e l g a b = absurd l
untruth_leaf at (unary_of op x inner) r s e l g a b = absurd l
untruth_leaf at (binary_of left op x right) r s e l g a b = absurd l
untruth_leaf at _ r s e l g a b = absurd (cc (same_kinds e))

paren_leaf : (from : Span) (ps : PlainParts) (to : Span) → SameParts ps → SameLeaf (paren from ps to)
paren_leaf from ps to c (paren from' qs to') r s e l g a b =
    let h = simp append_assoc at e in
    let p = c qs to to' r s (tails h) g in
    (cc (spans h, p.0, p.1), p.2)
paren_leaf from ps to c (field inner dot x) r s e l g a b = absurd l
paren_leaf from ps to c (unary_of op x inner) r s e l g a b = absurd l
paren_leaf from ps to c (binary_of left op x right) r s e l g a b = absurd l
paren_leaf from ps to c _ r s e l g a b = absurd (cc (same_kinds e))

new_leaf : (at : Span) (p : Path) (o : Option PlainTurbofish) (from : Span) (is : PlainInits) (to : Span) → SameInits is → SameLeaf (new_struct at p o from is to)
new_leaf at p o from is to c (new_struct at' q o' from' js to') r s e l g a b =
    let h = simp append_assoc at e in
    let x = same_path p q _ _ (tails h) (turbofish_segment o _ refl) (turbofish_segment o' _ refl) in
    let t = same_turbofish o o' _ _ x.1 refl refl in
    let w = c js to to' r s (tails t.1) g in
    (cc (spans h, x.0, t.0, spans t.1, w.0, w.1), w.2)
new_leaf at p o from is to c (field inner dot x) r s e l g a b = absurd l
new_leaf at p o from is to c (unary_of op x inner) r s e l g a b = absurd l
new_leaf at p o from is to c (binary_of left op x right) r s e l g a b = absurd l
new_leaf at p o from is to c _ r s e l g a b = absurd (cc (same_kinds e))

path_leaf : (p : Path) → SameLeaf (path p)
path_leaf p (path q) r s e l g a b = let h = same_path p q r s e (call_segment r a) (call_segment s b) in (ap path h.0, h.1)
path_leaf p (call q o from ps to) r s e l g a b =
    let h = same_path p q _ _ (simp append_assoc at e) (call_segment r a) (turbofish_segment o _ refl) in
    absurd (no_call o from r _ h.1 a)
path_leaf p (field inner dot x) r s e l g a b = absurd l
path_leaf p (unary_of op x inner) r s e l g a b = absurd l
path_leaf p (binary_of left op x right) r s e l g a b = absurd l
path_leaf p _ r s e l g a b = absurd (cc (same_kinds e))

call_leaf : (p : Path) (o : Option PlainTurbofish) (from : Span) (ps : PlainParts) (to : Span) → SameParts ps → SameLeaf (call p o from ps to)
call_leaf p o from ps to c (call q o' from' qs to') r s e l g a b =
    let h = simp append_assoc at e in
    let x = same_path p q _ _ h (turbofish_segment o _ refl) (turbofish_segment o' _ refl) in
    let t = same_turbofish o o' _ _ x.1 refl refl in
    let w = c qs to to' r s (tails t.1) g in
    (cc (x.0, t.0, spans t.1, w.0, w.1), w.2)
call_leaf p o from ps to c (path q) r s e l g a b =
    let h = same_path q p _ _ (simp append_assoc at (sym e)) (call_segment s b) (turbofish_segment o _ refl) in
    absurd (no_call o from s _ h.1 b)
call_leaf p o from ps to c (field inner dot x) r s e l g a b = absurd l
call_leaf p o from ps to c (unary_of op x inner) r s e l g a b = absurd l
call_leaf p o from ps to c (binary_of left op x right) r s e l g a b = absurd l
call_leaf p o from ps to c _ r s e l g a b = absurd (cc (same_kinds e))

after_parts : (ms : MoreParts) (to : Span) (r : List Token) → Never grows (flat_more_parts ms ++ sign_token sign.CloseParen to ∷ r)
after_parts last_part to r = refl
after_parts (next_part comma e ms) to r = refl

after_inits : (ms : MoreInits) (to : Span) (r : List Token) → Never grows (flat_more_inits ms ++ sign_token sign.CloseBrace to ∷ r)
after_inits last_init to r = refl
after_inits (next_init comma n colon e ms) to r = refl

mutual
  each : (e : PlainExpr) → Grouped e → Each (pieces e)
  each (number n at) g = (number_leaf n at, tt)
  each (truth at) g = (truth_leaf at, tt)
  each (untruth at) g = (untruth_leaf at, tt)
  each (paren from ps to) g = (paren_leaf from ps to (same_parts ps g), tt)
  each (new_struct at p o from is to) g = (new_leaf at p o from is to (same_inits is g), tt)
  each (path p) g = (path_leaf p, tt)
  each (call p o from ps to) g = (call_leaf p o from ps to (same_parts ps g), tt)
  each (field inner dot s) g = each-append (pieces inner) (dotted dot s ∷ []) (each inner g.1) tt
  each (unary_of op at inner) g = each inner g.1
  each (binary_of left op at right) g = each-append (pieces left) (between op at ∷ pieces right) (each left g.2) (each right g.3)

  same_parts : (ps : PlainParts) → GroupedParts ps → (qs : PlainParts) (to to' : Span) (r s : List Token) → flat_parts ps ++ sign_token sign.CloseParen to ∷ r ≡ flat_parts qs ++ sign_token sign.CloseParen to' ∷ s → GroupedParts qs → (ps ≡ qs) × (to ≡ to') × (r ≡ s)
  same_parts no_parts g no_parts to to' r s e k = (refl, spans e, tails e)
  same_parts no_parts g (parts y ns) to to' r s e k = absurd (starts_not y sign.CloseParen to _ _ (sym (e ∙ append_assoc (flat_expr y) (flat_more_parts ns) _)) refl)
  same_parts (parts x ms) g no_parts to to' r s e k = absurd (starts_not x sign.CloseParen to' _ _ (sym (append_assoc (flat_expr x) (flat_more_parts ms) _) ∙ e) refl)
  same_parts (parts x ms) g (parts y ns) to to' r s e k =
      let p = same_by x y _ _ (simp append_assoc at e) g.0 k.0 (each x g.0) (after_parts ms to r) (after_parts ns to' s) in
      let q = same_more_parts ms g.1 ns to to' r s p.1 k.1 in
      (cc (p.0, q.0), q.1, q.2)

  same_more_parts : (ms : MoreParts) → GroupedMoreParts ms → (ns : MoreParts) (to to' : Span) (r s : List Token) → flat_more_parts ms ++ sign_token sign.CloseParen to ∷ r ≡ flat_more_parts ns ++ sign_token sign.CloseParen to' ∷ s → GroupedMoreParts ns → (ms ≡ ns) × (to ≡ to') × (r ≡ s)
  same_more_parts last_part g last_part to to' r s e k = (refl, spans e, tails e)
  same_more_parts (next_part comma x ms) g (next_part comma' y ns) to to' r s e k =
      let h = simp append_assoc at e in
      let p = same_by x y _ _ (tails h) g.0 k.0 (each x g.0) (after_parts ms to r) (after_parts ns to' s) in
      let q = same_more_parts ms g.1 ns to to' r s p.1 k.1 in
      (cc (spans h, p.0, q.0), q.1, q.2)
  same_more_parts _ g _ to to' r s e k = absurd (cc (same_kinds e))

  same_inits : (ms : PlainInits) → GroupedInits ms → (ns : PlainInits) (to to' : Span) (r s : List Token) → flat_inits ms ++ sign_token sign.CloseBrace to ∷ r ≡ flat_inits ns ++ sign_token sign.CloseBrace to' ∷ s → GroupedInits ns → (ms ≡ ns) × (to ≡ to') × (r ≡ s)
  same_inits no_inits g no_inits to to' r s e k = (refl, spans e, tails e)
  same_inits (inits n colon x ms) g (inits m colon' y ns) to to' r s e k =
      let h = simp append_assoc at e in
      let p = same_by x y _ _ (tails (tails h)) g.0 k.0 (each x g.0) (after_inits ms to r) (after_inits ns to' s) in
      let q = same_more_inits ms g.1 ns to to' r s p.1 k.1 in
      (cc (same_name n m (heads h), spans (tails h), p.0, q.0), q.1, q.2)
  same_inits _ g _ to to' r s e k = absurd (cc (same_kinds e))

  same_more_inits : (ms : MoreInits) → GroupedMoreInits ms → (ns : MoreInits) (to to' : Span) (r s : List Token) → flat_more_inits ms ++ sign_token sign.CloseBrace to ∷ r ≡ flat_more_inits ns ++ sign_token sign.CloseBrace to' ∷ s → GroupedMoreInits ns → (ms ≡ ns) × (to ≡ to') × (r ≡ s)
  same_more_inits last_init g last_init to to' r s e k = (refl, spans e, tails e)
  same_more_inits (next_init comma n colon x ms) g (next_init comma' m colon' y ns) to to' r s e k =
      let h = simp append_assoc at e in
      let p = same_by x y _ _ (tails (tails (tails h))) g.0 k.0 (each x g.0) (after_inits ms to r) (after_inits ns to' s) in
      let q = same_more_inits ms g.1 ns to to' r s p.1 k.1 in
      (cc (spans h, same_name n m (heads (tails h)), spans (tails (tails h)), p.0, q.0), q.1, q.2)
  same_more_inits _ g _ to to' r s e k = absurd (cc (same_kinds e))

pub same_expr : (e f : PlainExpr) (r s : List Token) → flat_expr e ++ r ≡ flat_expr f ++ s → Grouped e → Grouped f → Never grows r → Never grows s → Same e f r s
same_expr e f r s h g k a b = same_by e f r s h g k (each e g) a b

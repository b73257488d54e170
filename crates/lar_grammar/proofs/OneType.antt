-- A type and what follows it are fixed by their tokens.
use Rattle.std.proofs.Common.{◌≡◌, ℤ, List, [], ◌∷◌, ◌++◌, Option, Some, None, Bool, true, false, refl, sym, ap, ◌∙◌, subst, append_assoc}
use Rattle.lar_source.specs.declared.file.Span.{Span}
use Rattle.lar_tree.specs.declared.sign.Sign.{Sign}
use Rattle.lar_tree.specs.declared.sign.Sign.TheVariants as sign
use Rattle.lar_tree.specs.declared.token.Kind.{Kind}
use Rattle.lar_tree.specs.declared.token.Kind.TheVariants as kind
use Rattle.lar_tree.specs.declared.token.Token.{Token}
use Rattle.lar_tree.specs.declared.name.Name.{Name}
use Rattle.lar_tree.specs.declared.name.Path.{Path}
use Rattle.lar_tree.specs.declared.name.Segment.{Segment}
use Rattle.lar_tree.specs.declared.ty.SignedNumber.{SignedNumber}
use Rattle.lar_tree.specs.Spelling.{sign_token, number_token, name_token, flat_segments, flat_path, flat_minus, flat_signed}
use Rattle.lar_tree.specs.Types.{PlainTy, int_type, bool_type, unit_type, tuple_type, named_type, generic_type, MoreTypes, last_type, next_type, PlainArgs, angle_args, PlainArg, type_arg, number_arg, MoreArgs, last_arg, next_arg, flat_type, flat_types, flat_args, flat_arg, flat_more_args}

-- two parts are one, and so is what follows them
abbrev pub Same : {A : Type 0} → A → A → List Token → List Token → Type 0
Same x y r s = (x ≡ y) × (r ≡ s)

pub tails : {A : Type 0} {x y : A} {xs ys : List A} → x ∷ xs ≡ y ∷ ys → xs ≡ ys
tails e = cc

pub heads : {A : Type 0} {x y : A} {xs ys : List A} → x ∷ xs ≡ y ∷ ys → x ≡ y
heads e = cc

pub spans : {t u : Token} {ts us : List Token} → t ∷ ts ≡ u ∷ us → t.span ≡ u.span
spans e = ap (λ (t : Token). t.span) (heads e)

pub same_kinds : {t u : Token} {ts us : List Token} → t ∷ ts ≡ u ∷ us → t.kind ≡ u.kind
same_kinds e = ap (λ (t : Token). t.kind) (heads e)

-- the next token is no sign of these
abbrev pub Spared : (Sign → Bool) → Kind → Type 0
Spared test (kind.Sign s) = test s ≡ false
Spared test (kind.Name n) = Unit {0}
Spared test (kind.Number n) = Unit {0}
Spared test (kind.Word w) = Unit {0}

abbrev pub Never : (Sign → Bool) → List Token → Type 0
Never test [] = Unit {0}
Never test (t ∷ ts) = Spared test t.kind

pub never : (test : Sign → Bool) (s : Sign) (at : Span) (ts rest : List Token) → Never test ts → ts ≡ sign_token s at ∷ rest → test s ≡ true → ⊥
never test s at ts rest n e k = let h : test s ≡ false = subst (Never test) e n in cc

-- the next tokens are no segment of a path
abbrev pub NoSegment : List Token → Type 0
NoSegment r = (at : Span) (n : Name) (rest : List Token) → r ≡ sign_token sign.PathSep at ∷ name_token n ∷ rest → ⊥

pub same_name : (n m : Name) → name_token n ≡ name_token m → n ≡ m
same_name n m e =
    let k : kind.Name n.text ≡ kind.Name m.text = ap (λ (t : Token). t.kind) e in
    let a : n.text ≡ m.text = cc in
    ap (λ x. record { text = x; span = n.span }) a ∙ ap (λ y. record { text = m.text; span = y }) (ap (λ (t : Token). t.span) e)

same_segment : (x y : Segment) → x.sep ≡ y.sep → x.name ≡ y.name → x ≡ y
same_segment x y a b = ap (λ v. record { sep = v; name = x.name }) a ∙ ap (λ w. record { sep = y.sep; name = w }) b

same_segments : (xs ys : List Segment) (r s : List Token) → flat_segments xs ++ r ≡ flat_segments ys ++ s → NoSegment r → NoSegment s → Same xs ys r s
same_segments [] [] r s e a b = (refl, e)
same_segments [] (y ∷ ys) r s e a b = absurd (a _ _ _ e)
same_segments (x ∷ xs) [] r s e a b = absurd (b _ _ _ (sym e))
same_segments (x ∷ xs) (y ∷ ys) r s e a b =
    let p : Same xs ys r s = same_segments xs ys r s (tails (tails e)) a b in
    let w : x ≡ y = same_segment x y (spans e) (same_name _ _ (heads (tails e))) in
    (cc, p.1)

same_whole : (p q : Path) → p.first ≡ q.first → p.more ≡ q.more → p ≡ q
same_whole p q a b = ap (λ v. record { first = v; more = p.more }) a ∙ ap (λ w. record { first = q.first; more = w }) b

pub same_path : (p q : Path) (r s : List Token) → flat_path p ++ r ≡ flat_path q ++ s → NoSegment r → NoSegment s → Same p q r s
same_path p q r s e a b =
    let h : Same p.more q.more r s = same_segments p.more q.more r s (tails e) a b in
    (same_whole p q (same_name _ _ (heads e)) h.0, h.1)

pub same_value : {v w : ℤ} {x y : Span} {r s : List Token} → number_token v x ∷ r ≡ number_token w y ∷ s → v ≡ w
same_value e = let k = same_kinds e in cc

same_minus : (m k : Option Span) (v w : ℤ) (x y : Span) (r s : List Token) → flat_minus m ++ number_token v x ∷ r ≡ flat_minus k ++ number_token w y ∷ s → (m ≡ k) × (v ≡ w) × (x ≡ y) × (r ≡ s)
same_minus None None v w x y r s e = (refl, same_value e, spans e, tails e)
same_minus (Some a) (Some b) v w x y r s e = (ap Some (spans e), same_value (tails e), spans (tails e), tails (tails e))
same_minus None (Some b) v w x y r s e = absurd (cc (same_kinds e))
same_minus (Some a) None v w x y r s e = absurd (cc (same_kinds e))

same_number : (n m : SignedNumber) → n.minus ≡ m.minus → n.value ≡ m.value → n.span ≡ m.span → n ≡ m
same_number n m a b c = ap (λ x. record { minus = x; value = n.value; span = n.span }) a ∙ ap (λ x. record { minus = m.minus; value = x; span = n.span }) b ∙ ap (λ x. record { minus = m.minus; value = m.value; span = x }) c

pub same_signed : (n m : SignedNumber) (r s : List Token) → flat_signed n ++ r ≡ flat_signed m ++ s → Same n m r s
same_signed n m r s e =
    let h = same_minus n.minus m.minus n.value m.value n.span m.span r s (simp append_assoc at e) in
    (same_number n m h.0 h.1 h.2, h.3)

-- what could lengthen a type
abbrev pub lengthens : Sign → Bool
lengthens sign.PathSep = true
lengthens sign.Less = true
lengthens _ = false

-- what could lengthen a list of types
abbrev pub goes_on : Sign → Bool
goes_on sign.PathSep = true
goes_on sign.Less = true
goes_on sign.Comma = true
goes_on _ = false

pub no_segment : (r : List Token) → Never lengthens r → NoSegment r
no_segment r n at m rest e = never lengthens sign.PathSep at r _ n e refl

pub no_segment_angle : (from : Span) (r : List Token) → NoSegment (sign_token sign.Less from ∷ r)
no_segment_angle from r at n rest e = cc (same_kinds e)

pub no_segment_args : (x : PlainArgs) (r : List Token) → NoSegment (flat_args x ++ r)
no_segment_args (angle_args from x xs to) r = no_segment_angle from _

lesser : (s : Sign) → goes_on s ≡ false → lengthens s ≡ false
lesser sign.PathSep e = e
lesser sign.Less e = e
lesser _ e = refl

pub less : (r : List Token) → Never goes_on r → Never lengthens r
less [] n = tt
less (t ∷ ts) n = less_kind t.kind n
  where
    less_kind : (k : Kind) → Spared goes_on k → Spared lengthens k
    less_kind (kind.Sign s) h = lesser s h
    less_kind (kind.Name x) h = tt
    less_kind (kind.Number x) h = tt
    less_kind (kind.Word x) h = tt

after_types : (ts : MoreTypes) (r : List Token) → Never lengthens r → Never lengthens (flat_types ts ++ r)
after_types last_type r n = n
after_types (next_type comma t ts) r n = refl

after_args : (ts : MoreArgs) (r : List Token) → Never lengthens r → Never lengthens (flat_more_args ts ++ r)
after_args last_arg r n = n
after_args (next_arg comma t ts) r n = refl

no_number : (t : PlainTy) (m : Option Span) (v : ℤ) (at : Span) (r s : List Token) → flat_type t ++ r ≡ flat_minus m ++ number_token v at ∷ s → ⊥
no_number (int_type x) None v at r s e = cc (same_kinds e)
no_number (bool_type x) None v at r s e = cc (same_kinds e)
no_number (unit_type x y) None v at r s e = cc (same_kinds e)
no_number (tuple_type x t y u us z) None v at r s e = cc (same_kinds e)
no_number (named_type p) None v at r s e = cc (same_kinds e)
no_number (generic_type p x) None v at r s e = cc (same_kinds e)
no_number (int_type x) (Some m) v at r s e = cc (same_kinds e)
no_number (bool_type x) (Some m) v at r s e = cc (same_kinds e)
no_number (unit_type x y) (Some m) v at r s e = cc (same_kinds e)
no_number (tuple_type x t y u us z) (Some m) v at r s e = cc (same_kinds e)
no_number (named_type p) (Some m) v at r s e = cc (same_kinds e)
no_number (generic_type p x) (Some m) v at r s e = cc (same_kinds e)

no_close : (t : PlainTy) (at : Span) (r s : List Token) → flat_type t ++ r ≡ sign_token sign.CloseParen at ∷ s → ⊥
no_close (int_type x) at r s e = cc (same_kinds e)
no_close (bool_type x) at r s e = cc (same_kinds e)
no_close (unit_type x y) at r s e = cc (same_kinds e)
no_close (tuple_type x t y u us z) at r s e = cc (same_kinds e)
no_close (named_type p) at r s e = cc (same_kinds e)
no_close (generic_type p x) at r s e = cc (same_kinds e)

mutual
  pub same_type : (t u : PlainTy) (r s : List Token) → flat_type t ++ r ≡ flat_type u ++ s → Never lengthens r → Never lengthens s → Same t u r s
  same_type (int_type at) (int_type at') r s e a b = (ap int_type (spans e), tails e)
  same_type (bool_type at) (bool_type at') r s e a b = (ap bool_type (spans e), tails e)
  same_type (unit_type from to) (unit_type from' to') r s e a b = (cc (spans e, spans (tails e)), tails (tails e))
  same_type (tuple_type from t comma u us to) (tuple_type from' t' comma' u' us' to') r s e a b =
      let h = simp append_assoc at e in
      let p = same_type t t' _ _ (tails h) refl refl in
      let q = same_type u u' _ _ (tails p.1) (after_types us _ refl) (after_types us' _ refl) in
      let w = same_types us us' _ _ q.1 refl refl in
      (cc (spans h, p.0, spans p.1, q.0, w.0, spans w.1), tails w.1)
  same_type (named_type p) (named_type q) r s e a b =
      let h = same_path p q r s e (no_segment r a) (no_segment s b) in
      (ap named_type h.0, h.1)
  same_type (generic_type p x) (generic_type q y) r s e a b =
      let h = simp append_assoc at e in
      let w = same_path p q _ _ h (no_segment_args x r) (no_segment_args y s) in
      let v = same_args x y r s w.1 in
      (cc (w.0, v.0), v.1)
  same_type (named_type p) (generic_type q (angle_args from y ys to)) r s e a b =
      let h = same_path p q _ _ (simp append_assoc at e) (no_segment r a) (no_segment_angle _ _) in
      absurd (never lengthens sign.Less from r _ a h.1 refl)
  same_type (generic_type q (angle_args from y ys to)) (named_type p) r s e a b =
      let h = same_path p q _ _ (simp append_assoc at (sym e)) (no_segment s b) (no_segment_angle _ _) in
      absurd (never lengthens sign.Less from s _ b h.1 refl)
  same_type (unit_type from to) (tuple_type from' u comma v us to') r s e a b = absurd (no_close u to _ r (sym (simp append_assoc at (tails e))))
  same_type (tuple_type from' u comma v us to') (unit_type from to) r s e a b = absurd (no_close u to _ s (simp append_assoc at (tails e)))
  same_type _ _ r s e a b = absurd (cc (same_kinds e))

  same_types : (ts us : MoreTypes) (r s : List Token) → flat_types ts ++ r ≡ flat_types us ++ s → Never goes_on r → Never goes_on s → Same ts us r s
  same_types last_type last_type r s e a b = (refl, e)
  same_types last_type (next_type comma u us) r s e a b = absurd (never goes_on sign.Comma comma r _ a e refl)
  same_types (next_type comma u us) last_type r s e a b = absurd (never goes_on sign.Comma comma s _ b (sym e) refl)
  same_types (next_type comma t ts) (next_type comma' u us) r s e a b =
      let h = simp append_assoc at e in
      let p = same_type t u _ _ (tails h) (after_types ts r (less r a)) (after_types us s (less s b)) in
      let q = same_types ts us r s p.1 a b in
      (cc (spans h, p.0, q.0), q.1)

  pub same_args : (x y : PlainArgs) (r s : List Token) → flat_args x ++ r ≡ flat_args y ++ s → Same x y r s
  same_args (angle_args from x xs to) (angle_args from' y ys to') r s e =
      let h = simp append_assoc at e in
      let p = same_arg x y _ _ (tails h) (after_args xs _ refl) (after_args ys _ refl) in
      let q = same_more_args xs ys _ _ p.1 refl refl in
      (cc (spans h, p.0, q.0, spans q.1), tails q.1)

  same_arg : (x y : PlainArg) (r s : List Token) → flat_arg x ++ r ≡ flat_arg y ++ s → Never lengthens r → Never lengthens s → Same x y r s
  same_arg (type_arg t) (type_arg u) r s e a b = let p = same_type t u r s e a b in (ap type_arg p.0, p.1)
  same_arg (number_arg n) (number_arg m) r s e a b = let p = same_signed n m r s e in (ap number_arg p.0, p.1)
  same_arg (type_arg t) (number_arg m) r s e a b = absurd (no_number t m.minus m.value m.span r s (e ∙ append_assoc (flat_minus m.minus) _ s))
  same_arg (number_arg n) (type_arg u) r s e a b = absurd (no_number u n.minus n.value n.span s r (sym e ∙ append_assoc (flat_minus n.minus) _ r))

  same_more_args : (xs ys : MoreArgs) (r s : List Token) → flat_more_args xs ++ r ≡ flat_more_args ys ++ s → Never goes_on r → Never goes_on s → Same xs ys r s
  same_more_args last_arg last_arg r s e a b = (refl, e)
  same_more_args last_arg (next_arg comma y ys) r s e a b = absurd (never goes_on sign.Comma comma r _ a e refl)
  same_more_args (next_arg comma y ys) last_arg r s e a b = absurd (never goes_on sign.Comma comma s _ b (sym e) refl)
  same_more_args (next_arg comma x xs) (next_arg comma' y ys) r s e a b =
      let h = simp append_assoc at e in
      let p = same_arg x y _ _ (tails h) (after_args xs r (less r a)) (after_args ys s (less s b)) in
      let q = same_more_args xs ys r s p.1 a b in
      (cc (spans h, p.0, q.0), q.1)

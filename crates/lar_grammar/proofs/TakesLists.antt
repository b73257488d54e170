-- A token that a list's symbol takes, and what completes the stack behind it, are what the symbol stands for.
use Rattle.std.proofs.Common.{◌≡◌, ℕ, zero, suc, ◌-◌, List, [], ◌∷◌, ◌++◌, Some, sym, ap, ◌∙◌}
use Rattle.lar_source.specs.declared.file.Span.{Span}
use Rattle.lar_tree.specs.declared.sign.Sign.{Sign}
use Rattle.lar_tree.specs.declared.sign.Sign.TheVariants as sign
use Rattle.lar_tree.specs.declared.token.Token.{Token}
use Rattle.lar_tree.specs.declared.name.Name.{Name}
use Rattle.lar_tree.specs.Spelling.{sign_token, name_token}
use Rattle.lar_tree.specs.Types.{flat_type}
use Rattle.lar_tree.specs.Exprs.{flat_expr}
use Rattle.lar_grammar.specs.Looks.{is_sign, is_name}
use Rattle.lar_grammar.specs.Symbols.{Listed, expr_member, init_member, field_member, arg_member, generic_member, name_member, type_member, one_sign, further, more, listed, angle, level, outer_type, Stack, then_}
use Rattle.lar_grammar.specs.Moves.{angle_rest, begin, further_at, expand}
use Rattle.lar_grammar.proofs.Meaning.{Is, Completes, OneOf, flat_behind, some_of, in_angle}
use Rattle.lar_grammar.proofs.Taking.{body_of, when-take, when-else, unless-skip, then-halves, alone, from_body, sign-on, last-sign, take-sign, take-name}
use Rattle.lar_grammar.proofs.TakesTypes.{takes-type, takes-arg, takes-generic}
use Rattle.lar_grammar.proofs.TakesExprs.{takes-level}

-- a name, a colon and what stands behind it
colon_behind : (n : Name) (t : Token) (at : Span) (a g f : List Token) → t ≡ name_token n → f ≡ sign_token sign.Colon at ∷ g → a ≡ g → name_token n ∷ sign_token sign.Colon at ∷ a ≡ t ∷ f
colon_behind n t at a g f p q r = ap (λ x. x ∷ sign_token sign.Colon at ∷ a) (sym p) ∙ ap (λ x. t ∷ sign_token sign.Colon at ∷ x) r ∙ ap (λ x. t ∷ x) (sym q)

pub takes-begin : (w : Listed) (t : Token) (ss : Stack) (f : List Token) → body_of (begin w (Some t.kind)) ≡ Some ss → Completes ss f → OneOf w (t ∷ f)
takes-begin expr_member t ss f e c = takes-level 6 t ss f e c
takes-begin init_member t ss f e c =
    let w = when-else (is_name (Some t.kind)) (one_sign sign.Colon ∷ level 6 ∷ []) ss e in
    let n = take-name t w.0 in
    let d = sign-on sign.Colon (level 6 ∷ []) f (from_body (one_sign sign.Colon ∷ level 6 ∷ []) ss f w.1 c) in
    let v = alone (level 6) d.1 d.3 in
    ((n.0, d.0, v.0), v.1, colon_behind n.0 t d.0 (flat_expr v.0) d.1 f n.1 d.2 v.3)
takes-begin field_member t ss f e c =
    let w = when-else (is_name (Some t.kind)) (one_sign sign.Colon ∷ outer_type ∷ []) ss e in
    let n = take-name t w.0 in
    let d = sign-on sign.Colon (outer_type ∷ []) f (from_body (one_sign sign.Colon ∷ outer_type ∷ []) ss f w.1 c) in
    let v = alone outer_type d.1 d.3 in
    ((n.0, d.0, v.0), colon_behind n.0 t d.0 (flat_type v.0) d.1 f n.1 d.2 v.1)
takes-begin arg_member t ss f e c = takes-arg t ss f e c
takes-begin generic_member t ss f e c = takes-generic t ss f e c
takes-begin name_member t ss f e c =
    let w = when-else (is_name (Some t.kind)) [] ss e in
    let n = take-name t w.0 in
    (n.0, ap (λ x. x ∷ []) (sym n.1) ∙ ap (λ x. t ∷ x) (sym (from_body [] ss f w.1 c)))
takes-begin type_member t ss f e c = takes-type t ss f e c

pub takes-further : (w : Listed) (n : ℕ) (t : Token) (ss : Stack) (f : List Token) → body_of (further_at w n (Some t.kind)) ≡ Some ss → Completes ss f → OneOf w (t ∷ f)
takes-further w zero t ss f e c = cc
takes-further w (suc n) t ss f e c = takes-begin w t ss f e c

pub takes-more : (w : Listed) (n : ℕ) (t : Token) (ss : Stack) (f : List Token) → body_of (expand (more w n) (Some t.kind)) ≡ Some ss → Completes ss f → Is (more w n) (t ∷ f)
takes-more w n t ss f e c =
    let b = when-take (is_sign sign.Comma (Some t.kind)) (further w n ∷ more w (n - 1) ∷ []) ss e in
    let d = from_body (further w n ∷ more w (n - 1) ∷ []) ss f b.1 c in
    let r = alone (more w (n - 1)) d.1 d.4 in (
      record { comma = t.span; tokens = d.0; one = d.3 } ∷ r.0,
      ap (λ x. x ∷ (d.0 ++ flat_behind r.0)) (sym (take-sign sign.Comma t b.0)) ∙ ap (λ x. t ∷ (d.0 ++ x)) r.1 ∙ ap (λ x. t ∷ x) (sym d.2),
    )

pub takes-listed : (w : Listed) (n : ℕ) (s : Sign) (t : Token) (ss : Stack) (f : List Token) → body_of (expand (listed w n s) (Some t.kind)) ≡ Some ss → Completes ss f → Is (listed w n s) (t ∷ f)
takes-listed w n s t ss f e c =
    let b = unless-skip (is_sign s (Some t.kind)) (then_ (begin w (Some t.kind)) (more w n ∷ [])) ss e in
    let d = then-halves (begin w (Some t.kind)) (more w n ∷ []) ss f b.1 c in
    let r = alone (more w n) d.2 d.6 in
    some_of (t ∷ d.1) (takes-begin w t d.0 d.1 d.3 d.5) r.0 (ap (λ x. t ∷ (d.1 ++ x)) r.1 ∙ ap (λ x. t ∷ x) (sym d.4))

pub takes-angle : (w : Listed) (t : Token) (ss : Stack) (f : List Token) → body_of (expand (angle w) (Some t.kind)) ≡ Some ss → Completes ss f → Is (angle w) (t ∷ f)
takes-angle w t ss f e c =
    let b = when-take (is_sign sign.Less (Some t.kind)) (angle_rest w) ss e in
    let d = from_body (angle_rest w) ss f b.1 c in
    let m = d.4 in
    let z = last-sign sign.Greater m.1 m.4 in
    in_angle t.span d.0 d.3 m.3.0 z.0
    (ap (λ x. x ∷ (d.0 ++ (flat_behind m.3.0 ++ sign_token sign.Greater z.0 ∷ []))) (sym (take-sign sign.Less t b.0))
    ∙ ap (λ x. t ∷ (d.0 ++ x)) (ap (λ x. x ++ sign_token sign.Greater z.0 ∷ []) m.3.1 ∙ ap (λ x. m.0 ++ x) (sym z.1) ∙ sym m.2)
    ∙ ap (λ x. t ∷ x) (sym d.2))

-- A token that a type's symbol takes, and what completes the stack behind it, are what the symbol stands for.
use Rattle.std.proofs.Common.{◌≡◌, List, [], ◌∷◌, ◌++◌, Some, None, sym, ap, ◌∙◌}
use Rattle.lar_source.specs.declared.file.Span.{Span}
use Rattle.lar_tree.specs.declared.keyword.Keyword.TheVariants as keyword
use Rattle.lar_tree.specs.declared.sign.Sign.TheVariants as sign
use Rattle.lar_tree.specs.declared.token.Kind.{Kind}
use Rattle.lar_tree.specs.declared.token.Kind.TheVariants as kind
use Rattle.lar_tree.specs.declared.token.Token.{Token}
use Rattle.lar_tree.specs.declared.item.Generic.TheVariants as generic
use Rattle.lar_tree.specs.declared.name.Path.{Path}
use Rattle.lar_tree.specs.Spelling.{sign_token, word_token, number_token, name_token, flat_segments}
use Rattle.lar_tree.specs.Types.{int_type, bool_type, unit_type, tuple_type, type_arg, number_arg, flat_type, flat_types}
use Rattle.lar_grammar.specs.Looks.{is_sign}
use Rattle.lar_grammar.specs.Symbols.{arg_member, generic_member, type_member, one_sign, one_word, one_name, one_number, signed_number, more, angle, one_type, tuple_rest, segments, outer_type, leave, Stack, then_, entering}
use Rattle.lar_grammar.specs.Moves.{signed, type_at, arg_at, generic_at, expand}
use Rattle.lar_grammar.proofs.Meaning.{Is, Completes, TypeOf, OneOf}
use Rattle.lar_grammar.proofs.Taking.{body_of, when-take, Either, taken, other, when-either, then-halves, entering-body, alone, from_body, body-completed, before-leave, name-on, sign-on, word-on, last-sign, take-sign}
use Rattle.lar_grammar.proofs.Members.{more_types_of, path_type_of}

number_behind : (at : Span) (f : List Token) → Completes (one_number ∷ []) f → Is signed_number (sign_token sign.Minus at ∷ f)
number_behind at f c =
    let d = alone one_number f c in
    (record { minus = Some at; value = d.0; span = d.1 }, ap (λ x. sign_token sign.Minus at ∷ x) d.2)

signed_taken : (k : Kind) (at : Span) (ss : Stack) (f : List Token) → body_of (signed (Some k)) ≡ Some ss → Completes ss f → Is signed_number (record { kind = k; span = at } ∷ f)
signed_taken (kind.Sign sign.Minus) at ss f e c = number_behind at f (body-completed (one_number ∷ []) ss f e c)
signed_taken (kind.Number n) at ss f e c = (record { minus = None; value = n; span = at }, ap (λ x. number_token n at ∷ x) (sym (body-completed [] ss f e c)))
signed_taken k at ss f e c = cc

pub takes-signed : (t : Token) (ss : Stack) (f : List Token) → body_of (signed (Some t.kind)) ≡ Some ss → Completes ss f → Is signed_number (t ∷ f)
takes-signed t ss f e c = signed_taken t.kind t.span ss f e c

-- ---- types

type_taken : (k : Kind) (at : Span) (ss : Stack) (f : List Token) → body_of (type_at (Some k)) ≡ Some ss → Completes ss f → TypeOf (record { kind = k; span = at } ∷ f)
type_taken (kind.Word keyword.I64) at ss f e c = (int_type at, ap (λ x. word_token keyword.I64 at ∷ x) (sym (body-completed [] ss f e c)))
type_taken (kind.Word keyword.Bool) at ss f e c = (bool_type at, ap (λ x. word_token keyword.Bool at ∷ x) (sym (body-completed [] ss f e c)))
type_taken (kind.Sign sign.OpenParen) at ss f e c = alone tuple_rest f (body-completed (tuple_rest ∷ []) ss f e c) at
type_taken (kind.Name n) at ss f e c =
    let d = body-completed (segments ∷ angle arg_member ∷ []) ss f e c in
    let p : Path = record { first = record { text = n; span = at }; more = d.3.0 } in
    let r = path_type_of p d.1 (alone (angle arg_member) d.1 d.4) in
    (r.0, r.1 ∙ ap (λ x. name_token p.first ∷ x) (ap (λ x. x ++ d.1) d.3.1 ∙ sym d.2))
type_taken k at ss f e c = cc

pub takes-type : (t : Token) (ss : Stack) (f : List Token) → body_of (type_at (Some t.kind)) ≡ Some ss → Completes ss f → TypeOf (t ∷ f)
takes-type t ss f e c = type_taken t.kind t.span ss f e c

-- what stands behind the first type of a tuple
rest_of_tuple : (from : Span) (t : Token) (a f : List Token) → TypeOf (t ∷ a) → (g : List Token) → f ≡ a ++ g → Completes (one_sign sign.Comma ∷ one_type ∷ more type_member 6 ∷ one_sign sign.CloseParen ∷ []) g → TypeOf (sign_token sign.OpenParen from ∷ t ∷ f)
rest_of_tuple from t a f first g e c =
    let comma = sign-on sign.Comma (one_type ∷ more type_member 6 ∷ one_sign sign.CloseParen ∷ []) g c in
    let second = comma.3 in
    let others = second.4 in
    let m = more_types_of others.3.0 in
    let end = last-sign sign.CloseParen others.1 others.4 in
    let tail : flat_types m.0 ++ sign_token sign.CloseParen end.0 ∷ [] ≡ second.1 = ap (λ x. x ++ sign_token sign.CloseParen end.0 ∷ []) (m.1 ∙ others.3.1) ∙ ap (λ x. others.0 ++ x) (sym end.1) ∙ sym others.2 in
    let behind : flat_type second.3.0 ++ (flat_types m.0 ++ sign_token sign.CloseParen end.0 ∷ []) ≡ comma.1 = ap (λ x. x ++ (flat_types m.0 ++ sign_token sign.CloseParen end.0 ∷ [])) second.3.1 ∙ ap (λ x. second.0 ++ x) tail ∙ sym second.2 in (
      tuple_type from first.0 comma.0 second.3.0 m.0 end.0,
      ap (λ x. sign_token sign.OpenParen from ∷ x)
          (ap (λ x. x ++ sign_token sign.Comma comma.0 ∷ (flat_type second.3.0 ++ (flat_types m.0 ++ sign_token sign.CloseParen end.0 ∷ []))) first.1
          ∙ ap (λ x. t ∷ (a ++ sign_token sign.Comma comma.0 ∷ x)) behind
          ∙ ap (λ x. t ∷ (a ++ x)) (sym comma.2)
          ∙ ap (λ x. t ∷ x) (sym e)),
    )

tuple_rest_taken : (t : Token) (ss : Stack) (f : List Token) → Either (is_sign sign.CloseParen (Some t.kind)) [] ss (then_ (type_at (Some t.kind)) (one_sign sign.Comma ∷ one_type ∷ more type_member 6 ∷ one_sign sign.CloseParen ∷ [])) → Completes ss f → (from : Span) → TypeOf (sign_token sign.OpenParen from ∷ t ∷ f)
tuple_rest_taken t ss f (taken b a) c from =
    (unit_type from t.span, ap (λ x. sign_token sign.OpenParen from ∷ x ∷ []) (sym (take-sign sign.CloseParen t b)) ∙ ap (λ x. sign_token sign.OpenParen from ∷ t ∷ x) (sym (from_body [] ss f a c)))
tuple_rest_taken t ss f (other b e) c from =
    let d = then-halves (type_at (Some t.kind)) (one_sign sign.Comma ∷ one_type ∷ more type_member 6 ∷ one_sign sign.CloseParen ∷ []) ss f e c in
    rest_of_tuple from t d.1 f (takes-type t d.0 d.1 d.3 d.5) d.2 d.4 d.6

pub takes-tuple_rest : (t : Token) (ss : Stack) (f : List Token) → body_of (expand tuple_rest (Some t.kind)) ≡ Some ss → Completes ss f → Is tuple_rest (t ∷ f)
takes-tuple_rest t ss f e c = tuple_rest_taken t ss f (when-either (is_sign sign.CloseParen (Some t.kind)) [] ss (then_ (type_at (Some t.kind)) (one_sign sign.Comma ∷ one_type ∷ more type_member 6 ∷ one_sign sign.CloseParen ∷ [])) e) c

pub takes-outer_type : (t : Token) (ss : Stack) (f : List Token) → body_of (expand outer_type (Some t.kind)) ≡ Some ss → Completes ss f → Is outer_type (t ∷ f)
takes-outer_type t ss f e c =
    let d = then-halves (entering (type_at (Some t.kind))) (leave ∷ []) ss f e c in
    let r = takes-type t d.0 d.1 (sym (entering-body (type_at (Some t.kind))) ∙ d.3) d.5 in
    (r.0, r.1 ∙ ap (λ x. t ∷ x) (before-leave d.1 d.2 f (alone leave d.2 d.6) d.4))

pub takes-segments : (t : Token) (ss : Stack) (f : List Token) → body_of (expand segments (Some t.kind)) ≡ Some ss → Completes ss f → Is segments (t ∷ f)
takes-segments t ss f e c =
    let w = when-take (is_sign sign.PathSep (Some t.kind)) (one_name ∷ segments ∷ []) ss e in
    let n = name-on (segments ∷ []) f (from_body (one_name ∷ segments ∷ []) ss f w.1 c) in
    let r = alone segments n.1 n.3 in (
      record { sep = t.span; name = n.0 } ∷ r.0,
      ap (λ x. x ∷ name_token n.0 ∷ flat_segments r.0) (sym (take-sign sign.PathSep t w.0)) ∙ ap (λ x. t ∷ name_token n.0 ∷ x) r.1 ∙ ap (λ x. t ∷ x) (sym n.2),
    )

-- ---- arguments, and generics

arg_taken : (k : Kind) (at : Span) (ss : Stack) (f : List Token) → body_of (arg_at (Some k)) ≡ Some ss → Completes ss f → OneOf arg_member (record { kind = k; span = at } ∷ f)
arg_taken (kind.Sign sign.Minus) at ss f e c = let n = number_behind at f (body-completed (one_number ∷ []) ss f e c) in (number_arg n.0, n.1)
arg_taken (kind.Number n) at ss f e c = (number_arg (record { minus = None; value = n; span = at }), ap (λ x. number_token n at ∷ x) (sym (body-completed [] ss f e c)))
arg_taken k at ss f e c = let r = type_taken k at ss f e c in (type_arg r.0, r.1)

pub takes-arg : (t : Token) (ss : Stack) (f : List Token) → body_of (arg_at (Some t.kind)) ≡ Some ss → Completes ss f → OneOf arg_member (t ∷ f)
takes-arg t ss f e c = arg_taken t.kind t.span ss f e c

generic_taken : (k : Kind) (at : Span) (ss : Stack) (f : List Token) → body_of (generic_at (Some k)) ≡ Some ss → Completes ss f → OneOf generic_member (record { kind = k; span = at } ∷ f)
generic_taken (kind.Name n) at ss f e c = (generic.Ty (record { text = n; span = at }), ap (λ x. record { kind = kind.Name n; span = at } ∷ x) (sym (body-completed [] ss f e c)))
generic_taken (kind.Word keyword.Const) at ss f e c =
    let n = name-on (one_sign sign.Colon ∷ one_word keyword.I64 ∷ []) f (body-completed (one_name ∷ one_sign sign.Colon ∷ one_word keyword.I64 ∷ []) ss f e c) in
    let d = sign-on sign.Colon (one_word keyword.I64 ∷ []) n.1 n.3 in
    let i = word-on keyword.I64 [] d.1 d.3 in (
      generic.Const (record { keyword = at; name = n.0; colon = d.0; int = i.0 }),
      ap (λ x. word_token keyword.Const at ∷ x) (ap (λ x. name_token n.0 ∷ sign_token sign.Colon d.0 ∷ word_token keyword.I64 i.0 ∷ x) (sym i.3) ∙ ap (λ x. name_token n.0 ∷ sign_token sign.Colon d.0 ∷ x) (sym i.2) ∙ ap (λ x. name_token n.0 ∷ x) (sym d.2) ∙ sym n.2),
    )
generic_taken k at ss f e c = cc

pub takes-generic : (t : Token) (ss : Stack) (f : List Token) → body_of (generic_at (Some t.kind)) ≡ Some ss → Completes ss f → OneOf generic_member (t ∷ f)
takes-generic t ss f e c = generic_taken t.kind t.span ss f e c

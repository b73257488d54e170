-- The tokens of a type or an expression without its places are its tokens, each without its place; and it stays grouped.
use Rattle.std.proofs.Common.{◌≡◌, List, [], ◌∷◌, map, Some, None, option_map, refl, ap, arith}
use Rattle.std.proofs.lemmas.List.{map-append}
use Rattle.lar_source.specs.declared.file.Span.{Span}
use Rattle.lar_tree.specs.declared.sign.Sign.TheVariants as sign
use Rattle.lar_tree.specs.declared.token.Token.{Token}
use Rattle.lar_tree.specs.declared.expr.Selector.{Selector}
use Rattle.lar_tree.specs.declared.expr.Selector.TheVariants as selector
use Rattle.lar_tree.specs.Spelling.{sign_token, name_token, flat_segments, flat_path, flat_minus, flat_signed, flat_option}
use Rattle.lar_tree.specs.Types.{int_type, bool_type, unit_type, tuple_type, named_type, generic_type, last_type, next_type, angle_args, type_arg, number_arg, last_arg, next_arg, flat_type, flat_types, flat_args, flat_arg, flat_more_args}
use Rattle.lar_tree.specs.Exprs.{PlainExpr, number, truth, untruth, paren, new_struct, path, call, field, unary_of, binary_of, PlainParts, no_parts, parts, MoreParts, last_part, next_part, PlainInits, no_inits, inits, MoreInits, last_init, next_init, selector_token, flat_turbofish, flat_expr, flat_parts, flat_more_parts, flat_inits, flat_more_inits, height, Grouped, GroupedParts, GroupedMoreParts, GroupedInits, GroupedMoreInits}
use Rattle.lar_grammar.specs.Unplaced.{nowhere, unplaced_name, unplaced_segment, unplaced_path, unplaced_signed, unplaced_type, unplaced_types, unplaced_args, unplaced_arg, unplaced_more_args, unplaced_turbofish, unplaced_selector, unplaced_expr, unplaced_parts, unplaced_more_parts, unplaced_inits, unplaced_more_inits}

abbrev pub unplaced_token : Token → Token
unplaced_token t = record { kind = t.kind; span = nowhere }

abbrev pub unplaced_tokens : List Token → List Token
unplaced_tokens = map unplaced_token

-- what f makes of something has the same tokens, without their places
abbrev pub Keeps : {A : Type 0} → (A → List Token) → (A → A) → Type 0
Keeps {A} flat f = (x : A) → flat (f x) ≡ unplaced_tokens (flat x)

pub option_keeps : {A : Type 0} (flat : A → List Token) (f : A → A) → Keeps flat f → Keeps (flat_option flat) (option_map f)
option_keeps flat f k None = refl
option_keeps flat f k (Some x) = k x

segments_keep : Keeps flat_segments (map unplaced_segment)
segments_keep [] = refl
segments_keep (s ∷ ss) = ap (λ ts. sign_token sign.PathSep nowhere ∷ name_token (unplaced_name s.name) ∷ ts) (segments_keep ss)

path_keeps : Keeps flat_path unplaced_path
path_keeps p = ap (λ ts. name_token (unplaced_name p.first) ∷ ts) (segments_keep p.more)

minus_keeps : Keeps flat_minus (option_map (λ (at : Span). nowhere))
minus_keeps None = refl
minus_keeps (Some at) = refl

pub signed_keeps : Keeps flat_signed unplaced_signed
signed_keeps n = simp (map-append, minus_keeps n.minus)

mutual
  pub type_keeps : Keeps flat_type unplaced_type
  type_keeps (int_type at) = refl
  type_keeps (bool_type at) = refl
  type_keeps (unit_type from to) = refl
  type_keeps (tuple_type from first comma second others to) = simp (map-append, type_keeps first, type_keeps second, types_keep others)
  type_keeps (named_type p) = path_keeps p
  type_keeps (generic_type p args) = simp (map-append, segments_keep p.more, args_keep args)

  types_keep : Keeps flat_types unplaced_types
  types_keep last_type = refl
  types_keep (next_type comma t others) = simp (map-append, type_keeps t, types_keep others)

  args_keep : Keeps flat_args unplaced_args
  args_keep (angle_args from first others to) = simp (map-append, arg_keeps first, more_args_keep others)

  arg_keeps : Keeps flat_arg unplaced_arg
  arg_keeps (type_arg t) = type_keeps t
  arg_keeps (number_arg n) = signed_keeps n

  more_args_keep : Keeps flat_more_args unplaced_more_args
  more_args_keep last_arg = refl
  more_args_keep (next_arg comma a others) = simp (map-append, arg_keeps a, more_args_keep others)

turbofish_keeps : Keeps flat_turbofish unplaced_turbofish
turbofish_keeps t = ap (λ ts. sign_token sign.PathSep nowhere ∷ ts) (args_keep t.1)

generics_keep : Keeps (flat_option flat_turbofish) (option_map unplaced_turbofish)
generics_keep = option_keeps flat_turbofish unplaced_turbofish turbofish_keeps

selector_keeps : (s : Selector) → selector_token (unplaced_selector s) ≡ unplaced_token (selector_token s)
selector_keeps (selector.Name n) = refl
selector_keeps (selector.Number n at) = refl

mutual
  pub expr_keeps : Keeps flat_expr unplaced_expr
  expr_keeps (number n at) = refl
  expr_keeps (truth at) = refl
  expr_keeps (untruth at) = refl
  expr_keeps (paren from ps to) = simp (map-append, parts_keep ps)
  expr_keeps (new_struct at p generics from is to) = simp (map-append, segments_keep p.more, generics_keep generics, inits_keep is)
  expr_keeps (path p) = path_keeps p
  expr_keeps (call p generics from ps to) = simp (map-append, segments_keep p.more, generics_keep generics, parts_keep ps)
  expr_keeps (field inner dot s) = simp (map-append, expr_keeps inner, selector_keeps s)
  expr_keeps (unary_of op at inner) = simp (expr_keeps inner)
  expr_keeps (binary_of left op at right) = simp (map-append, expr_keeps left, expr_keeps right)

  parts_keep : Keeps flat_parts unplaced_parts
  parts_keep no_parts = refl
  parts_keep (parts first others) = simp (map-append, expr_keeps first, more_parts_keep others)

  more_parts_keep : Keeps flat_more_parts unplaced_more_parts
  more_parts_keep last_part = refl
  more_parts_keep (next_part comma e others) = simp (map-append, expr_keeps e, more_parts_keep others)

  inits_keep : Keeps flat_inits unplaced_inits
  inits_keep no_inits = refl
  inits_keep (inits n colon e others) = simp (map-append, expr_keeps e, more_inits_keep others)

  more_inits_keep : Keeps flat_more_inits unplaced_more_inits
  more_inits_keep last_init = refl
  more_inits_keep (next_init comma n colon e others) = simp (map-append, expr_keeps e, more_inits_keep others)

height_kept : (e : PlainExpr) → height (unplaced_expr e) ≡ height e
height_kept (unary_of op at inner) = refl
height_kept (binary_of left op at right) = refl
height_kept _ = refl

mutual
  pub expr_grouped : (e : PlainExpr) → Grouped e → Grouped (unplaced_expr e)
  expr_grouped (paren from ps to) g = parts_grouped ps g
  expr_grouped (new_struct at p generics from is to) g = inits_grouped is g
  expr_grouped (call p generics from ps to) g = parts_grouped ps g
  expr_grouped (field inner dot s) g = (omega (arith, height_kept inner, g.0), expr_grouped inner g.1)
  expr_grouped (unary_of op at inner) g = (omega (arith, height_kept inner, g.0), expr_grouped inner g.1)
  expr_grouped (binary_of left op at right) g = (omega (arith, height_kept left, g.0), omega (arith, height_kept right, g.1), expr_grouped left g.2, expr_grouped right g.3)
  expr_grouped _ g = tt

  parts_grouped : (ps : PlainParts) → GroupedParts ps → GroupedParts (unplaced_parts ps)
  parts_grouped no_parts g = tt
  parts_grouped (parts first others) g = (expr_grouped first g.0, more_parts_grouped others g.1)

  more_parts_grouped : (ps : MoreParts) → GroupedMoreParts ps → GroupedMoreParts (unplaced_more_parts ps)
  more_parts_grouped last_part g = tt
  more_parts_grouped (next_part comma e others) g = (expr_grouped e g.0, more_parts_grouped others g.1)

  inits_grouped : (is : PlainInits) → GroupedInits is → GroupedInits (unplaced_inits is)
  inits_grouped no_inits g = tt
  inits_grouped (inits n colon e others) g = (expr_grouped e g.0, more_inits_grouped others g.1)

  more_inits_grouped : (is : MoreInits) → GroupedMoreInits is → GroupedMoreInits (unplaced_more_inits is)
  more_inits_grouped last_init g = tt
  more_inits_grouped (next_init comma n colon e others) g = (expr_grouped e g.0, more_inits_grouped others g.1)

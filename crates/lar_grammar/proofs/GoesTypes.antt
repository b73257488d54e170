-- The machine goes through the tokens of each type.
use Rattle.std.proofs.Common.{◌≡◌, ℕ, ◌-◌, List, [], ◌∷◌, ◌++◌, Option, Some, None, false, refl, sym, ap, subst}
use Rattle.lar_source.specs.declared.file.Span.{Span}
use Rattle.lar_tree.specs.declared.sign.Sign.{Sign}
use Rattle.lar_tree.specs.declared.sign.Sign.TheVariants as sign
use Rattle.lar_tree.specs.declared.keyword.Keyword.TheVariants as keyword
use Rattle.lar_tree.specs.declared.token.Kind.TheVariants as kind
use Rattle.lar_tree.specs.declared.token.Token.{Token}
use Rattle.lar_tree.specs.declared.name.Path.{Path}
use Rattle.lar_tree.specs.declared.name.Segment.{Segment}
use Rattle.lar_tree.specs.declared.ty.SignedNumber.{SignedNumber}
use Rattle.lar_tree.specs.Spelling.{sign_token, word_token, number_token, name_token, flat_segments, flat_path, flat_minus, flat_signed}
use Rattle.lar_tree.specs.Types.{PlainTy, int_type, bool_type, unit_type, tuple_type, named_type, generic_type, MoreTypes, last_type, next_type, angle_args, PlainArg, type_arg, number_arg, MoreArgs, last_arg, next_arg}
use Rattle.lar_tree.specs.Marks.{Marked, un, unmarked, over, marked_type, marked_types, marked_arg, marked_more_args, outermost_type}
use Rattle.lar_tree.specs.Marks.{tokens_of}
use Rattle.lar_grammar.specs.Looks.{Look, look, is_sign}
use Rattle.lar_grammar.specs.Symbols.{arg_member, type_member, one_sign, one_name, one_number, member, more, angle, one_type, tuple_rest, segments, outer_type, Stack, skip, fail}
use Rattle.lar_grammar.specs.Moves.{type_at, arg_at, angle_rest}
use Rattle.lar_grammar.proofs.Going.{inside, outside, Goes, token, token_then, part, over_more, left_out, drop_end, opens, alike, when_also, outermost-goes, HasFirst, tokens_on}
use Rattle.lar_grammar.proofs.GoingTokens.{other_sign, at_sign, at_no, not_sign, sign_then, sign_goes, name_then, number_goes}
use Rattle.lar_grammar.proofs.GoesLists.{type_not_skip, Ends, ends-are, Further, no_further, one_further, ends-before, angle_closed, angle_some}

-- ---- what may stand behind a type

-- neither `::` nor `<`
pub record QuietType (l : Look) : Type 0 where
  pub path : is_sign sign.PathSep l ≡ false
  pub angle : is_sign sign.Less l ≡ false

pub quiet_type-at : (s : Sign) → (s ≡ sign.PathSep → ⊥) → (s ≡ sign.Less → ⊥) → QuietType (Some (kind.Sign s))
quiet_type-at s p q = record { path = other_sign sign.PathSep s p; angle = other_sign sign.Less s q }

quiet-comma : QuietType (Some (kind.Sign sign.Comma))
quiet-comma = quiet_type-at sign.Comma (λ e. cc) (λ e. cc)

pub ends-quiet_type : (s : Sign) (l : Look) → QuietType (Some (kind.Sign s)) → Ends s l → QuietType l
ends-quiet_type s l q e = ends-are QuietType s l quiet-comma q e

quiet-close : QuietType (Some (kind.Sign sign.CloseParen))
quiet-close = quiet_type-at sign.CloseParen (λ e. cc) (λ e. cc)

quiet-greater : QuietType (Some (kind.Sign sign.Greater))
quiet-greater = quiet_type-at sign.Greater (λ e. cc) (λ e. cc)

-- ---- the first token of a type, and of an argument

pub has_first-type : (t : PlainTy) → HasFirst (marked_type t)
has_first-type (int_type at) = tt
has_first-type (bool_type at) = tt
has_first-type (unit_type from to) = tt
has_first-type (tuple_type from first comma second others to) = tt
has_first-type (named_type p) = tt
has_first-type (generic_type p args) = tt

pub has_first-arg : (a : PlainArg) → HasFirst (marked_arg a)
has_first-arg (type_arg t) = has_first-type t
has_first-arg (number_arg n) = minus_or_not n.minus
  where
    minus_or_not : (m : Option Span) → HasFirst (unmarked (flat_minus m ++ number_token n.value n.span ∷ []))
    minus_or_not None = tt
    minus_or_not (Some m) = tt

-- a type begins
abbrev pub BeginsType : Look → Type 0
BeginsType l = type_at l ≡ fail → ⊥

pub begins-type : (t : PlainTy) (rest : List Token) → BeginsType (look (tokens_of (marked_type t) ++ rest))
begins-type (int_type at) rest e = cc
begins-type (bool_type at) rest e = cc
begins-type (unit_type from to) rest e = cc
begins-type (tuple_type from first comma second others to) rest e = cc
begins-type (named_type p) rest e = cc
begins-type (generic_type p args) rest e = cc

not_close : (l : Look) → BeginsType l → is_sign sign.CloseParen l ≡ false
not_close l n = not_sign sign.CloseParen l (λ e. n (ap type_at e))

arg-as-type : (t : PlainTy) (rest : List Token) → arg_at (look (tokens_of (marked_type t) ++ rest)) ≡ type_at (look (tokens_of (marked_type t) ++ rest))
arg-as-type (int_type at) rest = refl
arg-as-type (bool_type at) rest = refl
arg-as-type (unit_type from to) rest = refl
arg-as-type (tuple_type from first comma second others to) rest = refl
arg-as-type (named_type p) rest = refl
arg-as-type (generic_type p args) rest = refl

-- ---- parts of a type

goes-segments : (ss : List Segment) → Goes inside (λ l. is_sign sign.PathSep l ≡ false) (unmarked (flat_segments ss)) (segments ∷ []) []
goes-segments [] = left_out segments (λ r. refl) (λ l p. at_no (is_sign sign.PathSep l) _ skip p)
goes-segments (s ∷ ss) = token_then (sign_token sign.PathSep s.sep) (one_name ∷ segments ∷ []) (at_sign sign.PathSep _ skip) (name_then s.name (goes-segments ss))

goes-named : (p : Path) → Goes inside QuietType (unmarked (flat_path p)) (one_type ∷ []) []
goes-named p =
    token_then (name_token p.first) (segments ∷ angle arg_member ∷ []) refl
    (drop_end (angle arg_member) (λ r. refl) (λ l q. q.path) (λ l q. at_no (is_sign sign.Less l) _ skip q.angle) (over_more (goes-segments p.more) (angle arg_member ∷ [])))

goes-generic : (p : Path) (from to : Span) (ms others : List Marked) → Goes inside QuietType (un (sign_token sign.Less from) ∷ (ms ++ (others ++ un (sign_token sign.Greater to) ∷ []))) (angle arg_member ∷ []) [] → Goes inside QuietType (unmarked (flat_path p) ++ un (sign_token sign.Less from) ∷ (ms ++ (others ++ un (sign_token sign.Greater to) ∷ []))) (one_type ∷ []) []
goes-generic p from to ms others g =
    token_then (name_token p.first) (segments ∷ angle arg_member ∷ []) refl
    (part (angle arg_member ∷ []) (goes-segments p.more) g (λ rest q. other_sign sign.PathSep sign.Less (λ e. cc)))

goes-signed : (n : SignedNumber) → Goes inside QuietType (unmarked (flat_signed n)) (member arg_member ∷ []) []
goes-signed n = minus_or_not n.minus
  where
    minus_or_not : (m : Option Span) → Goes inside QuietType (unmarked (flat_minus m ++ number_token n.value n.span ∷ [])) (member arg_member ∷ []) []
    minus_or_not None = token (number_token n.value n.span) refl
    minus_or_not (Some m) = token_then (sign_token sign.Minus m) (one_number ∷ []) refl (number_goes n.value n.span)

goes-type_arg : (t : PlainTy) → Goes inside QuietType (marked_type t) (one_type ∷ []) [] → Goes inside QuietType (marked_type t) (member arg_member ∷ []) []
goes-type_arg t g = alike (member arg_member) one_type (λ r. refl) (λ rest p. arg-as-type t rest) g

one_more_type : (n : ℕ) (comma : Span) (t : PlainTy) (others : List Marked) → Goes inside QuietType (marked_type t) (one_type ∷ []) [] → Further inside type_member sign.CloseParen (n - 1) others → Further inside type_member sign.CloseParen n (un (sign_token sign.Comma comma) ∷ (over n (marked_type t) ++ others))
one_more_type n comma t others g f =
    one_further type_member sign.CloseParen n comma (marked_type t) others (has_first-type t)
    (when_also (λ l e. ends-quiet_type sign.CloseParen l quiet-close e) (alike (member type_member) one_type (λ r. refl) (λ rest p. refl) g)) f

-- behind the bracket of a tuple
goes-tuple : (t : PlainTy) (comma : Span) (second others : List Marked) (to : Span) → Goes inside QuietType (marked_type t) (one_type ∷ []) [] → Goes inside QuietType second (one_type ∷ []) [] → Further inside type_member sign.CloseParen 6 others → Goes inside QuietType (marked_type t ++ un (sign_token sign.Comma comma) ∷ (second ++ (others ++ un (sign_token sign.CloseParen to) ∷ []))) (tuple_rest ∷ []) []
goes-tuple t comma second others to g h f =
    opens tuple_rest one_type behind [] (λ rest p. at_no _ _ _ (first_not_close rest)) type_not_skip
    (part behind g (sign_then sign.Comma comma (part (more type_member 6 ∷ one_sign sign.CloseParen ∷ []) h (part (one_sign sign.CloseParen ∷ []) f.goes (sign_goes sign.CloseParen to) (λ rest p. refl)) second_ends)) (λ rest p. quiet-comma))
  where
    behind : Stack
    behind = one_sign sign.Comma ∷ one_type ∷ more type_member 6 ∷ one_sign sign.CloseParen ∷ []

    tail : List Marked
    tail = un (sign_token sign.Comma comma) ∷ (second ++ (others ++ un (sign_token sign.CloseParen to) ∷ []))

    first_not_close : (rest : List Token) → is_sign sign.CloseParen (look (tokens_of (marked_type t ++ tail) ++ rest)) ≡ false
    first_not_close rest = not_close _ (subst (λ x. BeginsType (look x)) (sym (tokens_on (marked_type t) tail rest)) (begins-type t (tokens_of tail ++ rest)))

    second_ends : (rest : List Token) → QuietType (look rest) → QuietType (look (tokens_of (others ++ un (sign_token sign.CloseParen to) ∷ []) ++ rest))
    second_ends rest p = ends-quiet_type sign.CloseParen _ quiet-close (ends-before f (sign_token sign.CloseParen to) [] refl rest)

-- ---- all types

mutual
  pub goes-type : (t : PlainTy) → Goes inside QuietType (marked_type t) (one_type ∷ []) []
  goes-type (int_type at) = token (word_token keyword.I64 at) refl
  goes-type (bool_type at) = token (word_token keyword.Bool at) refl
  goes-type (unit_type from to) = token_then (sign_token sign.OpenParen from) (tuple_rest ∷ []) refl (token (sign_token sign.CloseParen to) (at_sign sign.CloseParen _ _))
  goes-type (tuple_type from first comma second others to) =
      token_then (sign_token sign.OpenParen from) (tuple_rest ∷ []) refl (goes-tuple first comma (marked_type second) (marked_types 6 others) to (goes-type first) (goes-type second) (further-types 6 others))
  goes-type (named_type p) = goes-named p
  goes-type (generic_type p (angle_args from a others to)) =
      goes-generic p from to (marked_arg a) (marked_more_args 15 others)
      (angle_some arg_member from to (marked_arg a) (marked_more_args 15 others) (when_also (λ l e. ends-quiet_type sign.Greater l quiet-greater e) (goes-arg a)) (further-args 15 others))

  further-types : (n : ℕ) (ts : MoreTypes) → Further inside type_member sign.CloseParen n (marked_types n ts)
  further-types n last_type = no_further type_member sign.CloseParen n (λ e. cc)
  further-types n (next_type comma t others) = one_more_type n comma t (marked_types (n - 1) others) (goes-type t) (further-types (n - 1) others)

  pub goes-arg : (a : PlainArg) → Goes inside QuietType (marked_arg a) (member arg_member ∷ []) []
  goes-arg (type_arg t) = goes-type_arg t (goes-type t)
  goes-arg (number_arg n) = goes-signed n

  pub further-args : (n : ℕ) (rest : MoreArgs) → Further inside arg_member sign.Greater n (marked_more_args n rest)
  further-args n last_arg = no_further arg_member sign.Greater n (λ e. cc)
  further-args n (next_arg comma a others) =
      one_further arg_member sign.Greater n comma (marked_arg a) (marked_more_args (n - 1) others) (has_first-arg a)
      (when_also (λ l e. ends-quiet_type sign.Greater l quiet-greater e) (goes-arg a)) (further-args (n - 1) others)

-- generics from behind their `<` on
pub goes-args : {P : Look → Type 0} (a : PlainArg) (others : MoreArgs) (to : Span) → Goes inside P (marked_arg a ++ (marked_more_args 15 others ++ un (sign_token sign.Greater to) ∷ [])) (angle_rest arg_member) []
goes-args a others to = angle_closed arg_member (marked_arg a) (marked_more_args 15 others) to (when_also (λ l e. ends-quiet_type sign.Greater l quiet-greater e) (goes-arg a)) (further-args 15 others)

pub goes-outer-type : (t : PlainTy) → Goes outside QuietType (outermost_type t) (outer_type ∷ []) []
goes-outer-type t = outermost-goes one_type outer_type [] (λ rest p. refl) type_not_skip (goes-type t)

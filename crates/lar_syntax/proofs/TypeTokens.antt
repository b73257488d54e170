-- What types spell, and how they begin.
use Rattle.std.proofs.Common.{◌≡◌, ℕ, List, [], ◌∷◌, ◌++◌, Some, refl, sym, ap, ◌∙◌, append_assoc}
use Rattle.lar_source.specs.declared.file.Span.{Span}
use Rattle.lar_tree.specs.declared.commas.Commas.{Commas}
use Rattle.lar_tree.specs.declared.commas.Member.{Member}
use Rattle.lar_tree.specs.declared.sign.Sign.TheVariants as sign
use Rattle.lar_tree.specs.declared.token.Kind.TheVariants as kind
use Rattle.lar_tree.specs.declared.token.Token.{Token}
use Rattle.lar_tree.specs.declared.ty.Ty.{Ty}
use Rattle.lar_tree.specs.declared.ty.GenericArg.{GenericArg}
use Rattle.lar_tree.specs.Spelling.{sign_token}
use Rattle.lar_tree.specs.Commas.{flat_members, flat_commas}
use Rattle.lar_tree.specs.Types.{tuple_type, angle_args, flat_type, flat_types, flat_args, flat_more_args}
use Rattle.lar_tree.specs.TypeView.{type_view, arg_view, more_types_view, more_args_view}
use Rattle.lar_grammar.specs.Looks.{Look, look, is_name}
use Rattle.lar_grammar.specs.Symbols.{Stack, one_name, one_type, segments, angle, arg_member, name_member, take, fail, then_, when}
use Rattle.lar_grammar.specs.Moves.{type_at}
use Rattle.lar_grammar.specs.Machine.{fault}
use Rattle.lar_grammar.proofs.Steps.{split}
use Rattle.lar_grammar.proofs.Openings.{begin_never_skips}
use Rattle.lar_syntax.specs.Reads.{ty_tokens, arg_tokens}
use Rattle.lar_syntax.specs.declared.parser.cursor.Parser.{Parser}

types_spell : (ms : List (Member Ty)) → flat_types (more_types_view ms) ≡ flat_members ty_tokens ms
types_spell [] = refl
types_spell (m ∷ ms) = ap (λ x. sign_token sign.Comma m.comma ∷ (ty_tokens m.value ++ x)) (types_spell ms)

args_spell : (ms : List (Member GenericArg)) → flat_more_args (more_args_view ms) ≡ flat_members arg_tokens ms
args_spell [] = refl
args_spell (m ∷ ms) = ap (λ x. sign_token sign.Comma m.comma ∷ (arg_tokens m.value ++ x)) (args_spell ms)

regroup : (a b c d e : List Token) (s t : Token) → a ++ s ∷ ((b ++ c) ++ t ∷ e) ≡ (a ++ s ∷ (b ++ (c ++ t ∷ []))) ++ e
regroup a b c d e s t = simp append_assoc

pub tuple_spells : (from comma to : Span) (first : Ty) (others : Commas Ty) (a b c d e : List Token) → a ≡ ty_tokens first ++ b → b ≡ sign_token sign.Comma comma ∷ c → c ≡ flat_commas ty_tokens others ++ d → d ≡ sign_token sign.CloseParen to ∷ e
    → sign_token sign.OpenParen from ∷ a ≡ flat_type (tuple_type from (type_view first) comma (type_view others.first) (more_types_view others.more) to) ++ e
tuple_spells from comma to first others a b c d e p q r s =
    ap (λ x. sign_token sign.OpenParen from ∷ x)
    (p ∙ ap (λ x. ty_tokens first ++ x) (q ∙ ap (λ x. sign_token sign.Comma comma ∷ x) (r ∙ ap (λ x. flat_commas ty_tokens others ++ x) s))
    ∙ regroup (ty_tokens first) (ty_tokens others.first) (flat_members ty_tokens others.more) [] e (sign_token sign.Comma comma) (sign_token sign.CloseParen to)
    ∙ ap (λ x. (ty_tokens first ++ sign_token sign.Comma comma ∷ (ty_tokens others.first ++ (x ++ sign_token sign.CloseParen to ∷ []))) ++ e) (sym (types_spell others.more)))

close : (a b e : List Token) (t : Token) → (a ++ b) ++ t ∷ e ≡ (a ++ (b ++ t ∷ [])) ++ e
close a b e t = simp append_assoc

pub angle_spells : (from to : Span) (list : Commas GenericArg) (a b c : List Token) → a ≡ flat_commas arg_tokens list ++ b → b ≡ sign_token sign.Greater to ∷ c
    → sign_token sign.Less from ∷ a ≡ flat_args (angle_args from (arg_view list.first) (more_args_view list.more) to) ++ c
angle_spells from to list a b c p q =
    ap (λ x. sign_token sign.Less from ∷ x)
    (p ∙ ap (λ x. flat_commas arg_tokens list ++ x) q
    ∙ close (arg_tokens list.first) (flat_members arg_tokens list.more) c (sign_token sign.Greater to)
    ∙ ap (λ x. (arg_tokens list.first ++ (x ++ sign_token sign.Greater to ∷ [])) ++ c) (sym (args_spell list.more)))

named_move : (l : Look) (n : List ℕ) (behind : Stack) → l ≡ Some (kind.Name n) → then_ (when (is_name l) (take []) fail) behind ≡ take behind
named_move l n behind e = ap (λ x. then_ (when (is_name x) (take []) fail) behind) e

-- a type that begins with a name
pub type_named : (p : Parser) (n : List ℕ) (ss : Stack) → look p.rest.now ≡ Some (kind.Name n) → fault p.rest.now p.room (one_type ∷ ss) ≡ fault p.rest.now p.room (one_name ∷ segments ∷ angle arg_member ∷ ss)
type_named p n ss e =
    split p.rest.now p.room one_type one_name (segments ∷ angle arg_member ∷ []) ss (ap type_at e ∙ sym (named_move (look p.rest.now) n (segments ∷ angle arg_member ∷ []) e)) (begin_never_skips name_member (look p.rest.now))

-- The machine goes through lists with commas: further members, the closing sign, and lists in angle brackets.
use Rattle.std.proofs.Common.{◌≡◌, ℕ, zero, suc, ◌-◌, List, [], ◌∷◌, ◌++◌, Some, Bool, true, false, refl, sym, ap, ◌∙◌, subst}
use Rattle.lar_source.specs.declared.file.Span.{Span}
use Rattle.lar_tree.specs.declared.sign.Sign.{Sign}
use Rattle.lar_tree.specs.declared.sign.Sign.TheVariants as sign
use Rattle.lar_tree.specs.declared.keyword.Keyword.TheVariants as keyword
use Rattle.lar_tree.specs.declared.token.Kind.TheVariants as kind
use Rattle.lar_tree.specs.declared.token.Token.{Token}
use Rattle.lar_tree.specs.Spelling.{sign_token}
use Rattle.lar_tree.specs.Marks.{Marked, un, over}
use Rattle.lar_tree.specs.Marks.{tokens_of}
use Rattle.lar_grammar.specs.Looks.{Look, look, is_sign, is_name}
use Rattle.lar_grammar.specs.Symbols.{Listed, expr_member, init_member, field_member, arg_member, generic_member, name_member, type_member, one_sign, member, further, more, listed, angle, tails, Stack, Move, skip, fail, take, enter, then_, when}
use Rattle.lar_grammar.specs.Moves.{expand, operand_at, type_at, arg_at, generic_at, climb, angle_rest}
use Rattle.lar_grammar.proofs.Going.{Where, Goes, token_then, part, left_out, opens, alike, past_limit, tokens_on, HasFirst}
use Rattle.lar_grammar.proofs.GoingTokens.{other_sign, at_sign, at_no, sign_goes}

-- ---- a member is not left out

pub then_not_skip : (m : Move) (behind : Stack) → (m ≡ skip → ⊥) → then_ m behind ≡ skip → ⊥
then_not_skip skip behind not e = not refl
then_not_skip fail behind not e = cc
then_not_skip (take body) behind not e = cc
then_not_skip (enter body) behind not e = cc

when_not_skip : (b : Bool) (body : Stack) → when b (take body) fail ≡ skip → ⊥
when_not_skip true body e = cc
when_not_skip false body e = cc

pub operand_not_skip : (l : Look) → operand_at l ≡ skip → ⊥
operand_not_skip (Some (kind.Number n)) e = cc
operand_not_skip (Some (kind.Word keyword.True)) e = cc
operand_not_skip (Some (kind.Word keyword.False)) e = cc
operand_not_skip (Some (kind.Word keyword.New)) e = cc
operand_not_skip (Some (kind.Name n)) e = cc
operand_not_skip (Some (kind.Sign sign.OpenParen)) e = cc
operand_not_skip (Some (kind.Sign sign.Minus)) e = cc
operand_not_skip (Some (kind.Sign sign.Not)) e = cc
operand_not_skip _ e = cc

pub climb_not_skip : (h : ℕ) (l : Look) → climb h l ≡ skip → ⊥
climb_not_skip h l e = then_not_skip (operand_at l) (tails 2 h ∷ []) (operand_not_skip l) e

pub type_not_skip : (l : Look) → type_at l ≡ skip → ⊥
type_not_skip (Some (kind.Word keyword.I64)) e = cc
type_not_skip (Some (kind.Word keyword.Bool)) e = cc
type_not_skip (Some (kind.Sign sign.OpenParen)) e = cc
type_not_skip (Some (kind.Name n)) e = cc
type_not_skip _ e = cc

arg_not_skip : (l : Look) → arg_at l ≡ skip → ⊥
arg_not_skip (Some (kind.Sign sign.Minus)) e = cc
arg_not_skip (Some (kind.Number n)) e = cc
arg_not_skip l e = type_not_skip l e

generic_not_skip : (l : Look) → generic_at l ≡ skip → ⊥
generic_not_skip (Some (kind.Name n)) e = cc
generic_not_skip (Some (kind.Word keyword.Const)) e = cc
generic_not_skip _ e = cc

pub member_not_skip : (w : Listed) (l : Look) → expand (member w) l ≡ skip → ⊥
member_not_skip expr_member l e = climb_not_skip 6 l e
member_not_skip init_member l e = when_not_skip (is_name l) _ e
member_not_skip field_member l e = when_not_skip (is_name l) _ e
member_not_skip arg_member l e = arg_not_skip l e
member_not_skip generic_member l e = generic_not_skip l e
member_not_skip name_member l e = when_not_skip (is_name l) _ e
member_not_skip type_member l e = type_not_skip l e

-- ---- further members

abbrev pub IsAt : Sign → Look → Type 0
IsAt s l = l ≡ Some (kind.Sign s)

-- what may stand behind a member: a comma, or the sign that closes the list
pub data Ends (s : Sign) (l : Look) : Type 0 where
  at_comma : IsAt sign.Comma l → Ends s l
  at_close : IsAt s l → Ends s l

pub ends-are : (P : Look → Type 0) (s : Sign) (l : Look) → P (Some (kind.Sign sign.Comma)) → P (Some (kind.Sign s)) → Ends s l → P l
ends-are P s l p q (at_comma e) = subst P (sym e) p
ends-are P s l p q (at_close e) = subst P (sym e) q

-- further members, at most n, up to the sign that closes the list
pub record Further (v : Where) (w : Listed) (s : Sign) (n : ℕ) (ms : List Marked) : Type 0 where
  pub goes : Goes v (IsAt s) ms (more w n ∷ []) []
  pub ends : (rest : List Token) → IsAt s (look rest) → Ends s (look (tokens_of ms ++ rest))

pub no_further : {v : Where} (w : Listed) (s : Sign) (n : ℕ) → (s ≡ sign.Comma → ⊥) → Further v w s n []
no_further w s n not = record {
  goes = left_out (more w n) (λ r. refl) (λ l e. at_no (is_sign sign.Comma l) _ skip (ap (is_sign sign.Comma) e ∙ other_sign sign.Comma s not));
  ends = λ rest e. at_close e;
}

pub one_further : {v : Where} (w : Listed) (s : Sign) (n : ℕ) (comma : Span) (ms others : List Marked) → HasFirst ms → Goes v (Ends s) ms (member w ∷ []) [] → Further v w s (n - 1) others → Further v w s n (un (sign_token sign.Comma comma) ∷ (over n ms ++ others))
one_further {v} w s n comma ms others first g f = record {
  goes = token_then (sign_token sign.Comma comma) (further w n ∷ more w (n - 1) ∷ []) (at_sign sign.Comma _ skip) (behind n f);
  ends = λ rest e. at_comma refl;
}
  where
    behind : (n : ℕ) → Further v w s (n - 1) others → Goes v (IsAt s) (over n ms ++ others) (further w n ∷ more w (n - 1) ∷ []) []
    behind zero f = past_limit ms others w (more w (0 - 1) ∷ []) first
    behind (suc k) f = alike (further w (suc k)) (member w) (λ r. refl) (λ rest p. refl) (part (more w (suc k - 1) ∷ []) g f.goes f.ends)

-- the same, where the sign that closes the list is among the tokens
pub ends-before : {v : Where} {w : Listed} {s : Sign} {n : ℕ} {ms : List Marked} → Further v w s n ms → (t : Token) (ts : List Marked) → t.kind ≡ kind.Sign s → (rest : List Token) → Ends s (look (tokens_of (ms ++ un t ∷ ts) ++ rest))
ends-before {s = s} {ms = ms} f t ts e rest = subst (λ x. Ends s (look x)) (sym (tokens_on ms (un t ∷ ts) rest)) (f.ends (t ∷ (tokens_of ts ++ rest)) (ap Some e))

-- ---- lists before a closing sign

pub listed_none : {v : Where} (w : Listed) (n : ℕ) (s : Sign) → Goes v (IsAt s) [] (listed w n s ∷ []) []
listed_none w n s = left_out (listed w n s) (λ r. refl) (λ l e. ap (expand (listed w n s)) e ∙ at_sign s skip _)

pub listed_some : {v : Where} (w : Listed) (n : ℕ) (s : Sign) (ms others : List Marked) → ((rest : List Token) → is_sign s (look (tokens_of (ms ++ others) ++ rest)) ≡ false) → Goes v (Ends s) ms (member w ∷ []) [] → Further v w s n others → Goes v (IsAt s) (ms ++ others) (listed w n s ∷ []) []
listed_some w n s ms others not g f =
    opens (listed w n s) (member w) (more w n ∷ []) [] (λ rest p. at_no _ skip _ (not rest)) (member_not_skip w) (part (more w n ∷ []) g f.goes f.ends)

-- such a list and the closing sign
pub closed : {v : Where} {P : Look → Type 0} (w : Listed) (n : ℕ) (s : Sign) (ms : List Marked) (to : Span) → Goes v (IsAt s) ms (listed w n s ∷ []) [] → Goes v P (ms ++ un (sign_token s to) ∷ []) (listed w n s ∷ one_sign s ∷ []) []
closed w n s ms to g = part (one_sign s ∷ []) g (sign_goes s to) (λ rest p. refl)

-- ---- lists in angle brackets

-- such a list from behind its `<` on
pub angle_closed : {v : Where} {P : Look → Type 0} (w : Listed) (ms others : List Marked) (to : Span) → Goes v (Ends sign.Greater) ms (member w ∷ []) [] → Further v w sign.Greater 15 others → Goes v P (ms ++ (others ++ un (sign_token sign.Greater to) ∷ [])) (angle_rest w) []
angle_closed w ms others to g f =
    part (more w 15 ∷ one_sign sign.Greater ∷ []) g (part (one_sign sign.Greater ∷ []) f.goes (sign_goes sign.Greater to) (λ rest p. refl)) (λ rest p. ends-before f (sign_token sign.Greater to) [] refl rest)

pub angle_none : {v : Where} {P : Look → Type 0} (w : Listed) → ((l : Look) → P l → is_sign sign.Less l ≡ false) → Goes v P [] (angle w ∷ []) []
angle_none w not = left_out (angle w) (λ r. refl) (λ l p. at_no (is_sign sign.Less l) _ skip (not l p))

pub angle_some : {v : Where} {P : Look → Type 0} (w : Listed) (from to : Span) (ms others : List Marked) → Goes v (Ends sign.Greater) ms (member w ∷ []) [] → Further v w sign.Greater 15 others → Goes v P (un (sign_token sign.Less from) ∷ (ms ++ (others ++ un (sign_token sign.Greater to) ∷ []))) (angle w ∷ []) []
angle_some w from to ms others g f = token_then (sign_token sign.Less from) (angle_rest w) (at_sign sign.Less _ skip) (angle_closed w ms others to g f)

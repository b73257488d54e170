-- The machine goes through single tokens: signs, keywords, names and numbers.
use Rattle.std.proofs.Common.{◌≡◌, ℤ, List, [], ◌∷◌, Some, Bool, true, false, refl, ap, rules}
use Rattle.lar_source.specs.declared.file.Span.{Span}
use Rattle.lar_tree.specs.declared.keyword.Keyword.{Keyword}
use Rattle.lar_tree.specs.declared.sign.Sign.{Sign}
use Rattle.lar_tree.specs.declared.name.Name.{Name}
use Rattle.lar_tree.specs.declared.token.Kind.TheVariants as kind
use Rattle.lar_tree.specs.contracts.sign.Sign.{the_type}
use Rattle.lar_tree.specs.contracts.keyword.Keyword.{the_type as keyword_type}
use denote.Enum.Bare.{true_same, false_same, same_true}
use Rattle.lar_tree.specs.Spelling.{sign_token, word_token, number_token, name_token}
use Rattle.lar_tree.specs.Marks.{Marked, un}
use Rattle.lar_grammar.specs.Looks.{Look, same_sign, same_word, is_sign, is_word}
use Rattle.lar_grammar.specs.Symbols.{one_sign, one_word, one_name, one_number, Stack, Move, fail, take, when}
use Rattle.lar_grammar.proofs.Going.{Where, Goes, token, token_then}

-- ---- which sign, and which keyword

pub same_sign-self : (s : Sign) → same_sign s s ≡ true
unfolding same_sign
same_sign-self s = true_same the_type s s refl

pub same_word-self : (w : Keyword) → same_word w w ≡ true
unfolding same_word
same_word-self w = true_same keyword_type w w refl

pub other_sign : (s t : Sign) → (t ≡ s → ⊥) → is_sign s (Some (kind.Sign t)) ≡ false
unfolding same_sign
other_sign s t n = false_same the_type (search rules) t s n

pub other_word : (w v : Keyword) → (v ≡ w → ⊥) → is_word w (Some (kind.Word v)) ≡ false
unfolding same_word
other_word w v n = false_same keyword_type (search rules) v w n

same_found : (a b : Sign) → same_sign a b ≡ true → a ≡ b
unfolding same_sign
same_found a b e = same_true the_type (search rules) a b e

pub sign_is : (s : Sign) (l : Look) → is_sign s l ≡ true → l ≡ Some (kind.Sign s)
sign_is s (Some (kind.Sign t)) e = ap (λ x. Some (kind.Sign x)) (same_found t s e)
sign_is s _ e = cc

same_word_found : (a b : Keyword) → same_word a b ≡ true → a ≡ b
unfolding same_word
same_word_found a b e = same_true keyword_type (search rules) a b e

pub word_is : (w : Keyword) (l : Look) → is_word w l ≡ true → l ≡ Some (kind.Word w)
word_is w (Some (kind.Word v)) e = ap (λ x. Some (kind.Word x)) (same_word_found v w e)
word_is w _ e = cc

when_not : (b : Bool) → (b ≡ true → ⊥) → b ≡ false
when_not true n = absurd (n refl)
when_not false n = refl

pub not_sign : (s : Sign) (l : Look) → (l ≡ Some (kind.Sign s) → ⊥) → is_sign s l ≡ false
not_sign s l n = when_not (is_sign s l) (λ e. n (sign_is s l e))

pub not_word : (w : Keyword) (l : Look) → (l ≡ Some (kind.Word w) → ⊥) → is_word w l ≡ false
not_word w l n = when_not (is_word w l) (λ e. n (word_is w l e))

-- ---- what is chosen by a sign or a keyword

pub at_sign : (s : Sign) (m n : Move) → when (is_sign s (Some (kind.Sign s))) m n ≡ m
at_sign s m n = ap (λ b. when b m n) (same_sign-self s)

pub at_word : (w : Keyword) (m n : Move) → when (is_word w (Some (kind.Word w))) m n ≡ m
at_word w m n = ap (λ b. when b m n) (same_word-self w)

pub at_no : (b : Bool) (m n : Move) → b ≡ false → when b m n ≡ n
at_no b m n e = ap (λ x. when x m n) e

-- ---- tokens, and what comes behind them

pub sign_then : {w : Where} {P : Look → Type 0} {more to : Stack} {ms : List Marked} (s : Sign) (at : Span) → Goes w P ms more to → Goes w P (un (sign_token s at) ∷ ms) (one_sign s ∷ more) to
sign_then s at g = token_then (sign_token s at) [] (at_sign s (take []) fail) g

pub word_then : {w : Where} {P : Look → Type 0} {more to : Stack} {ms : List Marked} (v : Keyword) (at : Span) → Goes w P ms more to → Goes w P (un (word_token v at) ∷ ms) (one_word v ∷ more) to
word_then v at g = token_then (word_token v at) [] (at_word v (take []) fail) g

pub name_then : {w : Where} {P : Look → Type 0} {more to : Stack} {ms : List Marked} (n : Name) → Goes w P ms more to → Goes w P (un (name_token n) ∷ ms) (one_name ∷ more) to
name_then n g = token_then (name_token n) [] refl g

pub number_then : {w : Where} {P : Look → Type 0} {more to : Stack} {ms : List Marked} (n : ℤ) (at : Span) → Goes w P ms more to → Goes w P (un (number_token n at) ∷ ms) (one_number ∷ more) to
number_then n at g = token_then (number_token n at) [] refl g

pub sign_goes : {w : Where} {P : Look → Type 0} (s : Sign) (at : Span) → Goes w P (un (sign_token s at) ∷ []) (one_sign s ∷ []) []
sign_goes s at = token (sign_token s at) (at_sign s (take []) fail)

pub word_goes : {w : Where} {P : Look → Type 0} (v : Keyword) (at : Span) → Goes w P (un (word_token v at) ∷ []) (one_word v ∷ []) []
word_goes v at = token (word_token v at) (at_word v (take []) fail)

pub name_goes : {w : Where} {P : Look → Type 0} (n : Name) → Goes w P (un (name_token n) ∷ []) (one_name ∷ []) []
name_goes n = token (name_token n) refl

pub number_goes : {w : Where} {P : Look → Type 0} (n : ℤ) (at : Span) → Goes w P (un (number_token n at) ∷ []) (one_number ∷ []) []
number_goes n at = token (number_token n at) refl

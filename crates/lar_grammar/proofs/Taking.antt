-- A token that a symbol takes: which one it is, and what completes the stack behind it.
use Rattle.std.proofs.Common.{◌≡◌, ℕ, ℤ, List, [], ◌∷◌, ◌++◌, Option, Some, None, Bool, true, false, refl, sym, ap, ◌∙◌, subst, append_assoc, append-nil, rules}
use Rattle.std.specs.Prelude.{is_some}
use Rattle.std.specs.Str.{bytes_eq}
use Rattle.std.proofs.lemmas.Slice.Eq.{bytes_eq-Decides}
use Rattle.lar_source.specs.declared.file.Span.{Span}
use Rattle.lar_tree.specs.declared.keyword.Keyword.{Keyword}
use Rattle.lar_tree.specs.declared.sign.Sign.{Sign}
use Rattle.lar_tree.specs.declared.sign.Sign.TheVariants as sign
use Rattle.lar_tree.specs.declared.token.Kind.{Kind}
use Rattle.lar_tree.specs.declared.token.Kind.TheVariants as kind
use Rattle.lar_tree.specs.declared.token.Token.{Token}
use Rattle.lar_tree.specs.declared.name.Name.{Name}
use Rattle.lar_tree.specs.declared.expr.Unary.{Unary}
use Rattle.lar_tree.specs.declared.expr.Binary.{Binary}
use Rattle.lar_tree.specs.declared.item.AttributeWord.{AttributeWord}
use Rattle.lar_tree.specs.declared.item.AttributeWord.TheVariants as attribute
use Rattle.lar_tree.specs.Spelling.{sign_token, word_token, number_token, name_token}
use Rattle.lar_tree.specs.Exprs.{unary_sign, binary_sign}
use Rattle.lar_tree.specs.Items.{attribute_name}
use Rattle.lar_tree.specs.contracts.sign.Sign.{the_type}
use Rattle.lar_tree.specs.contracts.keyword.Keyword.{the_type as keyword_type}
use denote.Enum.Bare.{same_true}
use Rattle.lar_grammar.specs.Looks.{Look, same_sign, same_word, is_sign, is_word, is_name, is_number, chosen_word, attribute_at, prefix, operator}
use Rattle.lar_grammar.specs.Symbols.{Symbol, one_sign, one_word, one_name, one_number, Stack, Move, skip, fail, take, enter, then_, entering, when}
use Rattle.lar_grammar.proofs.Meaning.{Is, Completes}

-- ---- what a move puts on the stack

abbrev pub body_of : Move → Option Stack
body_of skip = None
body_of fail = None
body_of (take body) = Some body
body_of (enter body) = Some body

pub some_same : {A : Type 0} {a b : A} → Some a ≡ Some b → a ≡ b
some_same e = cc

some_stack : (a b : Stack) → Some a ≡ Some b → a ≡ b
some_stack a b e = cc

pub then-body : (m : Move) (more ss : Stack) → body_of (then_ m more) ≡ Some ss → (b : Stack) × (body_of m ≡ Some b) × (b ++ more ≡ ss)
then-body skip more ss e = cc
then-body fail more ss e = cc
then-body (take b) more ss e = (b, refl, some_stack (b ++ more) ss e)
then-body (enter b) more ss e = (b, refl, some_stack (b ++ more) ss e)

pub entering-body : (m : Move) → body_of (entering m) ≡ body_of m
entering-body skip = refl
entering-body fail = refl
entering-body (take b) = refl
entering-body (enter b) = refl

pub take-body : (a ss : Stack) → body_of (take a) ≡ Some ss → a ≡ ss
take-body a ss e = some_stack a ss e

pub when-take : (b : Bool) (a ss : Stack) → body_of (when b (take a) skip) ≡ Some ss → (b ≡ true) × (a ≡ ss)
when-take true a ss e = (refl, some_stack a ss e)
when-take false a ss e = cc

pub when-else : (b : Bool) (a ss : Stack) → body_of (when b (take a) fail) ≡ Some ss → (b ≡ true) × (a ≡ ss)
when-else true a ss e = (refl, some_stack a ss e)
when-else false a ss e = cc

pub unless-skip : (b : Bool) (m : Move) (ss : Stack) → body_of (when b skip m) ≡ Some ss → (b ≡ false) × (body_of m ≡ Some ss)
unless-skip true m ss e = cc
unless-skip false m ss e = (refl, e)

-- a sign that is taken alone, or else a move
pub data Either (b : Bool) (a ss : Stack) (m : Move) : Type 0 where
  taken : b ≡ true → a ≡ ss → Either b a ss m
  other : b ≡ false → body_of m ≡ Some ss → Either b a ss m

pub when-either : (b : Bool) (a ss : Stack) (m : Move) → body_of (when b (take a) m) ≡ Some ss → Either b a ss m
when-either true a ss m e = taken refl (some_stack a ss e)
when-either false a ss m e = other refl e

-- ---- what completes a stack

pub halves : (a b : Stack) (w : List Token) → Completes (a ++ b) w → (f : List Token) × (g : List Token) × (w ≡ f ++ g) × Completes a f × Completes b g
halves [] b w c = ([], w, refl, refl, c)
halves (s ∷ a) b w c =
    let d = halves a b c.1 c.4 in
    (c.0 ++ d.0, d.1, c.2 ∙ ap (λ x. c.0 ++ x) d.2 ∙ sym (append_assoc c.0 d.0 d.1), (c.0, d.0, refl, c.3, d.3), d.4)

-- one symbol alone
pub alone : (s : Symbol) (w : List Token) → Completes (s ∷ []) w → Is s w
alone s w c = subst (Is s) (sym (c.2 ∙ ap (λ x. c.0 ++ x) c.4 ∙ append-nil c.0)) c.3

pub from_body : (a b : Stack) (f : List Token) → a ≡ b → Completes b f → Completes a f
from_body a b f e c = subst (λ (x : Stack). Completes x f) (sym e) c

-- the body is a, which f completes
pub body-completed : (a ss : Stack) (f : List Token) → body_of (take a) ≡ Some ss → Completes ss f → Completes a f
body-completed a ss f e c = from_body a ss f (take-body a ss e) c

-- nothing stands for a symbol that is left out at the end
pub before-leave : (a b c : List Token) → b ≡ [] → c ≡ a ++ b → a ≡ c
before-leave a b c z e = sym (e ∙ ap (λ x. a ++ x) z ∙ append-nil a)

-- what completes a move's body and then further symbols
pub then-halves : (m : Move) (more ss : Stack) (f : List Token) → body_of (then_ m more) ≡ Some ss → Completes ss f → (b : Stack) × (g : List Token) × (h : List Token) × (body_of m ≡ Some b) × (f ≡ g ++ h) × Completes b g × Completes more h
then-halves m more ss f e c =
    let d = then-body m more ss e in
    let p = halves d.0 more f (from_body (d.0 ++ more) ss f d.2 c) in
    (d.0, p.0, p.1, d.1, p.2, p.3, p.4)

-- a sign and what stands behind it, and the same of a word, a name and a number
pub sign-on : (s : Sign) (ss : Stack) (f : List Token) → Completes (one_sign s ∷ ss) f → (at : Span) × (g : List Token) × (f ≡ sign_token s at ∷ g) × Completes ss g
sign-on s ss f c = (c.3.0, c.1, c.2 ∙ ap (λ x. x ++ c.1) (sym c.3.1), c.4)

pub word-on : (w : Keyword) (ss : Stack) (f : List Token) → Completes (one_word w ∷ ss) f → (at : Span) × (g : List Token) × (f ≡ word_token w at ∷ g) × Completes ss g
word-on w ss f c = (c.3.0, c.1, c.2 ∙ ap (λ x. x ++ c.1) (sym c.3.1), c.4)

pub name-on : (ss : Stack) (f : List Token) → Completes (one_name ∷ ss) f → (n : Name) × (g : List Token) × (f ≡ name_token n ∷ g) × Completes ss g
name-on ss f c = (c.3.0, c.1, c.2 ∙ ap (λ x. x ++ c.1) (sym c.3.1), c.4)

pub number-on : (ss : Stack) (f : List Token) → Completes (one_number ∷ ss) f → (n : ℤ) × (at : Span) × (g : List Token) × (f ≡ number_token n at ∷ g) × Completes ss g
number-on ss f c = (c.3.0, c.3.1, c.1, c.2 ∙ ap (λ x. x ++ c.1) (sym c.3.2), c.4)

-- a sign at the end
pub last-sign : (s : Sign) (f : List Token) → Completes (one_sign s ∷ []) f → (at : Span) × (f ≡ sign_token s at ∷ [])
last-sign s f c =
    let d = sign-on s [] f c in
    (d.0, d.2 ∙ ap (λ x. sign_token s d.0 ∷ x) d.3)

-- ---- which token it is

same_sign_found : (a b : Sign) → same_sign a b ≡ true → a ≡ b
unfolding same_sign
same_sign_found a b e = same_true the_type (search rules) a b e

same_word_found : (a b : Keyword) → same_word a b ≡ true → a ≡ b
unfolding same_word
same_word_found a b e = same_true keyword_type (search rules) a b e

pub sign-found : (s : Sign) (l : Look) → is_sign s l ≡ true → l ≡ Some (kind.Sign s)
sign-found s (Some (kind.Sign t)) e = ap (λ x. Some (kind.Sign x)) (same_sign_found t s e)
sign-found s _ e = cc

pub word-found : (w : Keyword) (l : Look) → is_word w l ≡ true → l ≡ Some (kind.Word w)
word-found w (Some (kind.Word v)) e = ap (λ x. Some (kind.Word x)) (same_word_found v w e)
word-found w _ e = cc

pub name-found : (l : Look) → is_name l ≡ true → (n : List ℕ) × (l ≡ Some (kind.Name n))
name-found (Some (kind.Name n)) e = (n, refl)
name-found _ e = cc

pub number-found : (l : Look) → is_number l ≡ true → (n : ℤ) × (l ≡ Some (kind.Number n))
number-found (Some (kind.Number n)) e = (n, refl)
number-found _ e = cc

pub prefix-found : (l : Look) (op : Unary) → prefix l ≡ Some op → l ≡ Some (kind.Sign (unary_sign op))
prefix-found (Some (kind.Sign sign.Minus)) op e = ap (λ x. Some (kind.Sign (unary_sign x))) (some_same e)
prefix-found (Some (kind.Sign sign.Not)) op e = ap (λ x. Some (kind.Sign (unary_sign x))) (some_same e)
prefix-found _ op e = cc

pub operator-found : (l : Look) (op : Binary) → operator l ≡ Some op → l ≡ Some (kind.Sign (binary_sign op))
operator-found (Some (kind.Sign sign.Or)) op e = ap (λ x. Some (kind.Sign (binary_sign x))) (some_same e)
operator-found (Some (kind.Sign sign.And)) op e = ap (λ x. Some (kind.Sign (binary_sign x))) (some_same e)
operator-found (Some (kind.Sign sign.Equal)) op e = ap (λ x. Some (kind.Sign (binary_sign x))) (some_same e)
operator-found (Some (kind.Sign sign.NotEqual)) op e = ap (λ x. Some (kind.Sign (binary_sign x))) (some_same e)
operator-found (Some (kind.Sign sign.Less)) op e = ap (λ x. Some (kind.Sign (binary_sign x))) (some_same e)
operator-found (Some (kind.Sign sign.AtMost)) op e = ap (λ x. Some (kind.Sign (binary_sign x))) (some_same e)
operator-found (Some (kind.Sign sign.Greater)) op e = ap (λ x. Some (kind.Sign (binary_sign x))) (some_same e)
operator-found (Some (kind.Sign sign.AtLeast)) op e = ap (λ x. Some (kind.Sign (binary_sign x))) (some_same e)
operator-found (Some (kind.Sign sign.Plus)) op e = ap (λ x. Some (kind.Sign (binary_sign x))) (some_same e)
operator-found (Some (kind.Sign sign.Minus)) op e = ap (λ x. Some (kind.Sign (binary_sign x))) (some_same e)
operator-found (Some (kind.Sign sign.Star)) op e = ap (λ x. Some (kind.Sign (binary_sign x))) (some_same e)
operator-found (Some (kind.Sign sign.Slash)) op e = ap (λ x. Some (kind.Sign (binary_sign x))) (some_same e)
operator-found (Some (kind.Sign sign.Percent)) op e = ap (λ x. Some (kind.Sign (binary_sign x))) (some_same e)
operator-found _ op e = cc

pub text_same : (xs ys : List ℕ) → bytes_eq xs ys ≡ true → xs ≡ ys
text_same xs ys e = (bytes_eq-Decides xs ys).0 e

chosen_found : (n : List ℕ) (a b : Bool) (w : AttributeWord) → bytes_eq n (attribute_name attribute.Inline) ≡ a → bytes_eq n (attribute_name attribute.Export) ≡ b → chosen_word a b ≡ Some w → n ≡ attribute_name w
chosen_found n true b w p q e = text_same n (attribute_name attribute.Inline) p ∙ ap attribute_name (some_same e)
chosen_found n false true w p q e = text_same n (attribute_name attribute.Export) q ∙ ap attribute_name (some_same e)
chosen_found n false false w p q e = cc

pub attribute-found : (l : Look) (w : AttributeWord) → attribute_at l ≡ Some w → l ≡ Some (kind.Name (attribute_name w))
attribute-found (Some (kind.Name n)) w e = ap (λ x. Some (kind.Name x)) (chosen_found n _ _ w refl refl e)
attribute-found _ w e = cc

pub some-there : {A : Type 0} → (o : Option A) → is_some o ≡ true → (x : A) × (o ≡ Some x)
some-there None e = cc
some-there (Some x) e = (x, refl)

pub is-token : (t : Token) (k : Kind) → Some t.kind ≡ Some k → t ≡ record { kind = k; span = t.span }
is-token t k e = let s : t.kind ≡ k = cc in ap (λ x. record { kind = x; span = t.span }) s

pub take-sign : (s : Sign) (t : Token) → is_sign s (Some t.kind) ≡ true → t ≡ sign_token s t.span
take-sign s t e = is-token t (kind.Sign s) (sign-found s (Some t.kind) e)

pub take-word : (w : Keyword) (t : Token) → is_word w (Some t.kind) ≡ true → t ≡ word_token w t.span
take-word w t e = is-token t (kind.Word w) (word-found w (Some t.kind) e)

pub take-name : (t : Token) → is_name (Some t.kind) ≡ true → (n : Name) × (t ≡ name_token n)
take-name t e =
    let n = name-found (Some t.kind) e in
    (record { text = n.0; span = t.span }, is-token t (kind.Name n.0) n.1)

pub take-number : (t : Token) → is_number (Some t.kind) ≡ true → (n : ℤ) × (t ≡ number_token n t.span)
take-number t e =
    let n = number-found (Some t.kind) e in
    (n.0, is-token t (kind.Number n.0) n.1)

pub take-operator : (op : Binary) (t : Token) → operator (Some t.kind) ≡ Some op → t ≡ sign_token (binary_sign op) t.span
take-operator op t e = is-token t (kind.Sign (binary_sign op)) (operator-found (Some t.kind) op e)

pub take-attribute : (t : Token) → is_some (attribute_at (Some t.kind)) ≡ true → (w : AttributeWord) × (t ≡ record { kind = kind.Name (attribute_name w); span = t.span })
take-attribute t e =
    let w = some-there (attribute_at (Some t.kind)) e in
    (w.0, is-token t (kind.Name (attribute_name w.0)) (attribute-found (Some t.kind) w.0 w.1))

-- ---- some tokens

pub somewhere : Span
somewhere = record { file = 0; line = 0; col = 0 }

pub some_name : Name
some_name = record { text = []; span = somewhere }

-- From one part of the grammar to the next, at a parser.
use Rattle.std.proofs.Common.{◌≡◌, List, ◌∷◌, ◌++◌, Some, true, sym, ap, ◌∙◌, append_assoc, Result, Ok, Err}
use Rattle.lar_source.specs.declared.file.Span.{Span}
use Rattle.lar_tree.specs.declared.keyword.Keyword.{Keyword}
use Rattle.lar_tree.specs.declared.sign.Sign.{Sign}
use Rattle.lar_tree.specs.declared.token.Kind.{Kind}
use Rattle.lar_tree.specs.declared.token.Kind.TheVariants as kind
use Rattle.lar_tree.specs.declared.token.Token.{Token}
use Rattle.lar_tree.specs.Spelling.{sign_token, word_token}
use Rattle.lar_grammar.specs.Looks.{look, is_sign, is_word}
use Rattle.lar_grammar.specs.Symbols.{Symbol, Stack, skip, fail, take}
use Rattle.lar_grammar.specs.Moves.{expand}
use Rattle.lar_grammar.specs.Machine.{left, fault}
use Rattle.lar_grammar.proofs.GoingTokens.{sign_is, word_is}
use Rattle.lar_grammar.proofs.Steps.{passes_take, passes_skip, stops_fail, stops_blocked, advanced}
use Rattle.lar_syntax.specs.Reads.{Reads, ReadsOn, Refuses, Advances}
use Rattle.lar_syntax.specs.declared.parser.cursor.Stop.{Stop}
use Rattle.lar_syntax.specs.declared.parser.cursor.Stop.TheVariants as stop
use Rattle.lar_syntax.specs.declared.parser.cursor.Parser.{Parser}

-- a fault of what comes after is a fault of the whole
pub onward : (from mid more : Stack) (e : Stop) (p q r : Parser) → ((ss : Stack) → fault p.rest.now p.room (from ++ ss) ≡ fault q.rest.now q.room (mid ++ (more ++ ss))) → Refuses mid e q r → Refuses from e p r
onward from mid more stop.Memory p q r go why = tt
onward from mid more stop.Syntax p q r go why = λ ss. go ss ∙ why (more ++ ss)

-- no token could be taken for the symbol
pub unmoved : (from more : Stack) (s : Symbol) (body : Stack) (e : Stop) (p q r : Parser) → ((ss : Stack) → fault p.rest.now p.room (from ++ ss) ≡ fault q.rest.now q.room (s ∷ (more ++ ss))) → expand s (look q.rest.now) ≡ take body → Advances q (Err e) r → Refuses from e p r
unmoved from more s body stop.Memory p q r go e why = absurd why
unmoved from more s body stop.Syntax p q r go e why =
    λ ss. go ss ∙ stops_blocked q.rest.now q.room s body (more ++ ss) e why.0 ∙ ap Some (sym why.1)

-- a part that stands for the whole
pub passing_on : {T : Type 0} (spell : T → List Token) (from mid : Stack) (p : Parser) (r : Result T Stop) (new : Parser) → ((ss : Stack) → fault p.rest.now p.room (from ++ ss) ≡ fault p.rest.now p.room (mid ++ ss)) → Reads spell mid p r new → Reads spell from p r new
passing_on spell from mid p (Ok x) new go h = (h.0, λ ss. go ss ∙ h.1 ss)
passing_on spell from mid p (Err stop.Memory) new go h = tt
passing_on spell from mid p (Err stop.Syntax) new go h = λ ss. go ss ∙ h ss

-- the same, behind tokens that were read
pub behind : {T : Type 0} (spell : T → List Token) (front : List Token) (from mid : Stack) (p q : Parser) (r : Result T Stop) (new : Parser) → p.rest.now ≡ front ++ q.rest.now → ((ss : Stack) → fault p.rest.now p.room (from ++ ss) ≡ fault q.rest.now q.room (mid ++ ss)) → ReadsOn front spell mid q r new → Reads spell from p r new
behind spell front from mid p q (Ok x) new e go h = (e ∙ h.0, λ ss. go ss ∙ h.1 ss)
behind spell front from mid p q (Err stop.Memory) new e go h = tt
behind spell front from mid p q (Err stop.Syntax) new e go h = λ ss. go ss ∙ h ss

-- a token is taken for the symbol
pub moved : (p q : Parser) (s : Symbol) (body ss : Stack) (at : Span) → expand s (look p.rest.now) ≡ take body → Advances p (Ok at) q → fault p.rest.now p.room (s ∷ ss) ≡ fault q.rest.now q.room (body ++ ss)
moved p q s body ss at e a = passes_take p.rest.now q.rest.now p.room q.room s body ss at e a.0 a.1

-- the symbol is left out
pub skipped : (p : Parser) (s : Symbol) (ss : Stack) → expand s (look p.rest.now) ≡ skip → left s p.room ≡ p.room → fault p.rest.now p.room (s ∷ ss) ≡ fault p.rest.now p.room ss
skipped p s ss e k = passes_skip p.rest.now p.room s ss e ∙ ap (λ r. fault p.rest.now r ss) k

-- the next token may not stand for the symbol
pub failed : (p : Parser) (s : Symbol) (ss : Stack) → expand s (look p.rest.now) ≡ fail → fault p.rest.now p.room (s ∷ ss) ≡ Some p.rest.now
failed p s ss e = stops_fail p.rest.now p.room s ss e

-- ---- the token that was taken

pub token_is : (p q : Parser) (k : Kind) (at : Span) → look p.rest.now ≡ Some k → Advances p (Ok at) q → p.rest.now ≡ record { kind = k; span = at } ∷ q.rest.now
token_is p q k at e a = advanced p.rest.now q.rest.now at k a.0 e

pub sign_token_is : (p q : Parser) (s : Sign) (at : Span) → is_sign s (look p.rest.now) ≡ true → Advances p (Ok at) q → p.rest.now ≡ sign_token s at ∷ q.rest.now
sign_token_is p q s at e a = token_is p q (kind.Sign s) at (sign_is s (look p.rest.now) e) a

pub word_token_is : (p q : Parser) (w : Keyword) (at : Span) → is_word w (look p.rest.now) ≡ true → Advances p (Ok at) q → p.rest.now ≡ word_token w at ∷ q.rest.now
word_token_is p q w at e a = token_is p q (kind.Word w) at (word_is w (look p.rest.now) e) a

-- ---- the tokens that were read

-- one part after another
pub ends_with : (a b c l m : List Token) → a ≡ l ++ b → b ≡ m ++ c → a ≡ (l ++ m) ++ c
ends_with a b c l m p q = p ∙ ap (λ x. l ++ x) q ∙ sym (append_assoc l m c)

-- two parts with a token between
pub joins : (a b c d l r : List Token) (t : Token) → a ≡ l ++ b → b ≡ t ∷ c → c ≡ r ++ d → a ≡ (l ++ t ∷ r) ++ d
joins a b c d l r t p q s = p ∙ ap (λ x. l ++ x) (q ∙ ap (λ x. t ∷ x) s) ∙ sym (append_assoc l (t ∷ r) d)

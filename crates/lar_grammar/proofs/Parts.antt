-- Tokens that are spelled part by part as they are read.
use Rattle.std.proofs.Common.{◌≡◌, List, ◌∷◌, ◌++◌, sym, ap, ◌∙◌}
use Rattle.lar_tree.specs.declared.token.Token.{Token}

-- a token before others
pub behind : (t : Token) (a g w : List Token) → a ≡ g → w ≡ t ∷ g → t ∷ a ≡ w
behind t a g w p q = ap (λ x. t ∷ x) p ∙ sym q

-- two parts
pub both : (a b f g w : List Token) → a ≡ f → b ≡ g → w ≡ f ++ g → a ++ b ≡ w
both a b f g w p q r = ap (λ x. x ++ b) p ∙ ap (λ x. f ++ x) q ∙ sym r

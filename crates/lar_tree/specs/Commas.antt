-- Lists with commas: what they spell, and what becomes of them where each member is seen as something else.
use Rattle.std.specs.Prelude.{List, [], ◌∷◌, ◌++◌, map}
use Rattle.lar_tree.specs.declared.sign.Sign.TheVariants as sign
use Rattle.lar_tree.specs.declared.token.Token.{Token}
use Rattle.lar_tree.specs.declared.commas.Commas.{Commas}
use Rattle.lar_tree.specs.declared.commas.Member.{Member}
use Rattle.lar_tree.specs.Spelling.{sign_token}

abbrev pub member_map : {A B : Type 0} → (A → B) → Member A → Member B
member_map f m = record { comma = m.comma; value = f m.value }

abbrev pub commas_map : {A B : Type 0} → (A → B) → Commas A → Commas B
commas_map f c = record { first = f c.first; more = map (member_map f) c.more }

abbrev pub flat_members : {A : Type 0} → (A → List Token) → List (Member A) → List Token
flat_members flat [] = []
flat_members flat (m ∷ ms) = sign_token sign.Comma m.comma ∷ (flat m.value ++ flat_members flat ms)

abbrev pub flat_commas : {A : Type 0} → (A → List Token) → Commas A → List Token
flat_commas flat c = flat c.first ++ flat_members flat c.more

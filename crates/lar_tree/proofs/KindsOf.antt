-- The kinds of a list are those of its parts.
use Rattle.std.proofs.Common.{◌≡◌, List, ◌++◌}
use Rattle.std.proofs.lemmas.List.{map-append}
use Rattle.lar_tree.specs.declared.token.Token.{Token}
use Rattle.lar_tree.specs.Spelling.{kinds}

pub kinds_of : (xs ys : List Token) → kinds (xs ++ ys) ≡ kinds xs ++ kinds ys
kinds_of xs ys = map-append (λ (t : Token). t.kind) xs ys

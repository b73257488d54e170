use Rattle.std.proofs.Common.{◌≡◌, ◌++◌, ◌∷◌, [], List, length, subst, arith}
use Rattle.std.proofs.lemmas.Grind.{common_steps}
use Rattle.std.specs.List.{flat_map, AllByRecursion}
use Rattle.object_format.specs.Code.{IsLinkedCode}
use Rattle.object_format.specs.Image.{LinkedFn}
use Rattle.object_format.proofs.CodeLemmas.{whole-linked}
use Rattle.larch_cli.specs.ThinImage.{print_code}
use Rattle.larch_cli.proofs.PrintsLinked.{thin_linked}
use Rattle.larch_cli.proofs.image.image_of_prints.Goals as goal

pub new-requires-clause-whole : goal.new-requires-clause-whole
new-requires-clause-whole c =
    let code : flat_map print_code c.args.numbers.now ++ 22 ∷ [] ≡ c.push.new.self = grind (arith, common_steps) in
    whole-linked 1 c.push.new.self (subst (IsLinkedCode 1) code (thin_linked 1 c.args.numbers.now))

pub new-requires-2-clause-calls : goal.new-requires-2-clause-calls
new-requires-2-clause-calls c =
    let code : flat_map print_code c.args.numbers.now ++ 22 ∷ [] ≡ c.push.new.self = grind (arith, common_steps) in
    let linked = subst (IsLinkedCode 1) code (thin_linked 1 c.args.numbers.now) in
    let alone : record { params = 0; «result» = 0; slots = 0; code = c.push.new.self } ∷ [] ≡ c.push-2.new.self = grind (arith, common_steps) in
    subst (λ (fs : List LinkedFn). AllByRecursion (λ f. IsLinkedCode (length fs) f.code) fs) alone (linked, tt)

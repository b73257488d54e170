-- What the code has at hand of a unit.
use Rattle.std.specs.Prelude.{◌≡◌, ℕ, ◌<◌, List, map, length}
use Rattle.std.specs.List.{AllByRecursion}
use Rattle.type_widths.specs.Form.{AreForms}
use Rattle.lar_typed.specs.TreeView.{plain}
use Rattle.mono_graph.specs.Instances.{PlainInstance, target, calls_of}
use Rattle.closed_input.specs.Bodies.{number_in}
use Rattle.closed_input.specs.Unit.{instance_at}
use Rattle.closed_input.specs.Lawful.{IsLawful}
use Rattle.unit_close.specs.declared.items.Closing.{Closing}

-- what the calls of the unit may name
abbrev pub named_in : Closing → List PlainInstance
named_in u = map (instance_at u.tree.now u.items.now) u.named.now

-- each item is an instance of a function that is there, with arguments of the sorts of its generics
pub record IsClosing (u : Closing) : Type 0 where
  pub forms : AreForms (u.tree.now).rows (u.tree.now).structs u.forms.now
  pub functions : AllByRecursion (λ x. x.instance.function < length (u.tree.now).functions) u.items.now
  pub arguments : AllByRecursion (λ x. x.instance.arguments < length (u.tree.now).rows) u.items.now
  pub lawful_items : (p : ℕ) → p < length u.items.now → IsLawful (plain u.tree.now) (instance_at u.tree.now u.items.now p)

-- the numbers of the calls of the item at a place
abbrev pub AreNumbers : Closing → ℕ → List ℕ → Type 0
AreNumbers u p calls = calls ≡ map (λ c. number_in (named_in u) (target c)) (calls_of (plain u.tree.now) (instance_at u.tree.now u.items.now p))

-- How long a chain of structs follows each struct.
use Rattle.std.specs.Prelude.{◌≡◌, ℕ, ◌==◌, List, [], ◌∷◌, Some, slice_get, if◌then◌else◌}
use Rattle.lar_source.specs.declared.code.Code.TheVariants.{NestedTooDeep}
use Rattle.lar_tree.specs.declared.name.Name.{Name}
use Rattle.lar_rules.specs.Fault.{Fault, fault}
use Rattle.lar_rules.specs.Declared.{Declared, Struct}
use Rattle.lar_rules.specs.Signatures.{struct_numbered}
use Rattle.lar_rules.specs.Structs.{followers, max_chain}

-- of one struct
pub record IsDepth (all : List Declared) (x : Struct) (depth : ℕ) : Type 0 where
  pub is : depth ≡ followers all max_chain x

-- by the numbers of the structs
pub record AreDepths (all : List Declared) (depths : List ℕ) : Type 0 where
  pub each : (n : ℕ) (x : Struct) → struct_numbered all n ≡ Some x → slice_get depths n ≡ Some (followers all max_chain x)

-- what is told of a struct of this name that so many structs follow
abbrev pub nested_if : ℕ → Name → ℕ → List Fault
nested_if file name depth = if depth == max_chain then fault file name.span NestedTooDeep (name.text ∷ []) ∷ [] else []

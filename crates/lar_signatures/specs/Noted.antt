-- The faults of structs, and those in the names and types of functions, one item after the other.
use Rattle.std.specs.Prelude.{ℕ, suc, List, [], ◌∷◌, ◌++◌}
use Rattle.lar_tree.specs.Items.{PlainStruct, PlainFn}
use Rattle.lar_rules.specs.Fault.{Fault}
use Rattle.lar_rules.specs.Declared.{Declared}
use Rattle.lar_rules.specs.Structs.{struct_faults}
use Rattle.lar_names.specs.Numbered.{struct_at, function_at}
use Rattle.fault_order.specs.Order.{head_faults}

-- those of each item in a list, by its number; the first one has the number k
abbrev pub faults_of_all : {A : Type 0} → (ℕ → A → List Fault) → ℕ → List A → List Fault
faults_of_all f k [] = []
faults_of_all f k (x ∷ xs) = f k x ++ faults_of_all f (suc k) xs

unfoldable pub faults_of_struct : List Declared → ℕ → Declared × PlainStruct → List Fault
faults_of_struct all n p = struct_faults all (struct_at n p)

unfoldable pub faults_of_head : List Declared → ℕ → Declared × PlainFn → List Fault
faults_of_head all n p = head_faults all (function_at n p)

-- The bodies of all functions.
use Rattle.std.specs.Prelude.{ℕ, suc, List, [], ◌∷◌, ◌++◌, Option, Some, None}
use Rattle.lar_typed.specs.Trees.{PlainFunction}
use Rattle.lar_tree.specs.Items.{PlainFn}
use Rattle.lar_rules.specs.Fault.{Fault}
use Rattle.lar_rules.specs.Declared.{Declared}
use Rattle.lar_rules.specs.Checked.{typed_function}
use Rattle.lar_names.specs.Numbered.{function_at}
use Rattle.fault_order.specs.Order.{body_faults}

-- the member that is there, as a list
abbrev pub as_list : {A : Type 0} → Option A → List A
as_list None = []
as_list (Some x) = x ∷ []

abbrev pub faults_of_body : List Declared → ℕ → Declared × PlainFn → List Fault
faults_of_body all n p = body_faults all (function_at n p)

-- what is known of each function in a list, of which the first has the number k
abbrev pub typed_of : List Declared → ℕ → List (Declared × PlainFn) → List (Option PlainFunction)
typed_of all k [] = []
typed_of all k (p ∷ ps) = typed_function all (function_at k p) ∷ typed_of all (suc k) ps

-- the faults of each
abbrev pub faults_of_all : (ℕ → Declared × PlainFn → List Fault) → ℕ → List (Declared × PlainFn) → List Fault
faults_of_all f k [] = []
faults_of_all f k (p ∷ ps) = f k p ++ faults_of_all f (suc k) ps

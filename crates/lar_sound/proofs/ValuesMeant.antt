-- What holds of each local, generic and constant holds of the one that a path means in an expression.
use Rattle.std.proofs.Common.{ℕ, Bool, true, false, if◌then◌else◌, List, [], ◌∷◌, Option, Some, None, bytes_eq}
use Rattle.lar_tree.specs.declared.name.Path.{Path}
use Rattle.lar_tree.specs.Stmts.{IfThere}
use Rattle.lar_tree.specs.Lawful.{Every}
use Rattle.lar_rules.specs.Declared.{texts_of, const_meant}
use Rattle.lar_rules.specs.Written.{number_generic}
use Rattle.lar_rules.specs.Judged.{Local, Env}
use Rattle.lar_rules.specs.Exprs.{local_named, ValueName, a_local, a_number, a_constant, no_value, constant_or_none, number_or, local_or, local_meant, value_named}

abbrev pub ValueHolds : (Local → Type 0) → (ℕ → Type 0) → (ℕ → Type 0) → ValueName → Type 0
ValueHolds L N C (a_local l) = L l
ValueHolds L N C (a_number k) = N k
ValueHolds L N C (a_constant n) = C n
ValueHolds L N C no_value = Unit {0}

one_local : (L : Local → Type 0) (b : Bool) (l : Local) (o : Option Local) → L l → IfThere L o
    → IfThere L (if b then Some l else o)
one_local L true l o h k = h
one_local L false l o h k = k

local_holds : (L : Local → Type 0) (name : List ℕ) (ls : List Local) → Every L ls → IfThere L (local_named name ls)
local_holds L name [] h = tt
local_holds L name (l ∷ ls) h =
    one_local L (bytes_eq l.name name) l (local_named name ls) h.0 (local_holds L name ls h.1)

meant_holds : (L : Local → Type 0) (ns : List (List ℕ)) (ls : List Local) → Every L ls → IfThere L (local_meant ns ls)
meant_holds L [] ls h = tt
meant_holds L (n ∷ []) ls h = local_holds L n ls h
meant_holds L (n ∷ m ∷ ns) ls h = tt

first_local : (L : Local → Type 0) (N C : ℕ → Type 0) (o : Option Local) (v : ValueName) → IfThere L o
    → ValueHolds L N C v → ValueHolds L N C (local_or o v)
first_local L N C None v h k = k
first_local L N C (Some l) v h k = h

then_number : (L : Local → Type 0) (N C : ℕ → Type 0) (o : Option ℕ) (v : ValueName) → IfThere N o → ValueHolds L N C v
    → ValueHolds L N C (number_or o v)
then_number L N C None v h k = k
then_number L N C (Some n) v h k = h

then_constant : (L : Local → Type 0) (N C : ℕ → Type 0) (o : Option ℕ) → IfThere C o
    → ValueHolds L N C (constant_or_none o)
then_constant L N C None h = tt
then_constant L N C (Some n) h = h

pub value_holds : (L : Local → Type 0) (N C : ℕ → Type 0) (env : Env) (p : Path) → Every L env.locals
    → IfThere N (number_generic env.site.generics (texts_of p))
    → IfThere C (const_meant env.site.all env.site.modules p) → ValueHolds L N C (value_named env p)
value_holds L N C env p l n c =
    first_local L N C (local_meant (texts_of p) env.locals) _ (meant_holds L (texts_of p) env.locals l)
    (then_number L N C (number_generic env.site.generics (texts_of p)) _ n
    (then_constant L N C (const_meant env.site.all env.site.modules p) c))

-- The locals in scope, in the numbers of a table.
use Rattle.std.specs.Prelude.{◌≡◌, ℕ, suc, ◌<◌, cond, List, [], ◌∷◌, ◌++◌, length, take, get_or, Option, Some, None, Vec}
use Rattle.std.specs.Global.{Global}
use Rattle.std.specs.Str.{bytes_eq}
use Rattle.type_table.specs.declared.row.Row.{Row}
use Rattle.lar_rules.specs.Judged as rules
use Rattle.lar_judge.specs.declared.locals.Local.{Local}
use Rattle.lar_judge.specs.Known.{type_if, IfWithin}

abbrev pub local_in : List Row → Local → rules.Local
local_in rows l = record { name = l.name.now; number = l.number; of = type_if rows l.of }

-- the innermost stands last in the code, and first in the rules
abbrev pub locals_in : List Row → List Local → List rules.Local
locals_in rows [] = []
locals_in rows (l ∷ ls) = locals_in rows ls ++ local_in rows l ∷ []

abbrev pub local_if : List Row → Option Local → Option rules.Local
local_if rows None = None
local_if rows (Some l) = Some (local_in rows l)

abbrev pub LocalWithin : List Row → Option Local → Type 0
LocalWithin rows None = Unit {0}
LocalWithin rows (Some l) = IfWithin rows l.of

abbrev pub LocalsWithin : List Row → List Local → Type 0
LocalsWithin rows [] = Unit {0}
LocalsWithin rows (l ∷ ls) = IfWithin rows l.of × LocalsWithin rows ls

-- the locals in scope, as contracts see them: the innermost stands last
pub record Scoped : Type 0 where
  pub locals : Vec Local Global

-- ---- of the code: where the innermost local of a name stands

abbrev pub later : Option ℕ → Option ℕ → Option ℕ
later (Some n) other = Some n
later None other = other

-- where the last local of a name stands, if the first of these has the place k
abbrev pub place_from : ℕ → List ℕ → List Local → Option ℕ
place_from k name [] = None
place_from k name (l ∷ ls) = later (place_from (suc k) name ls) (cond (bytes_eq l.name.now name) (Some k) None)

abbrev pub place : List ℕ → List Local → Option ℕ
place name ls = place_from 0 name ls

-- For each name it is known where its innermost local stands, and for each local where the one stands that it hides.
pub record IsIndexed (ls : List Local) (hidden : List (Option ℕ)) (known : List ℕ → Option ℕ) : Type 0 where
  pub count : length hidden ≡ length ls
  pub each : (q : List ℕ) → known q ≡ place q ls
  pub hides : (i : ℕ) (d : Local) (e : Option ℕ) → i < length ls → get_or hidden i e ≡ place (get_or ls i d).name.now (take i ls)

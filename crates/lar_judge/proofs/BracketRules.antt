-- Brackets and literals.
use Rattle.std.proofs.Common.{◌≡◌, ◌≢◌, List, [], ◌∷◌, length, refl, sym, arith, Option}
use Rattle.lar_source.specs.declared.file.Span.{Span}
use Rattle.type_table.specs.declared.row.Row.{Row}
use Rattle.lar_rules.specs.Fault.{Fault, least}
use Rattle.lar_rules.specs.Judged.{Env}
use Rattle.lar_rules.specs.Exprs.{judged_tuple, judged_paren}
use Rattle.lar_judge.specs.declared.judged.Judged.{Judged}
use Rattle.lar_judge.specs.Lists.{knowns}
use Rattle.lar_judge.proofs.Least.{least_none}

-- a bracket with none or several is a tuple
pub bracket_tuple : (rows : List Row) (env : Env) (at : Span) (js : List Judged) → length js ≢ 1 → judged_tuple env at (knowns rows js) ≡ judged_paren env at (knowns rows js)
bracket_tuple rows env at [] h = refl
bracket_tuple rows env at (j ∷ []) h = absurd (h refl)
bracket_tuple rows env at (j ∷ k ∷ js) h = refl

-- one alone has no fault of its own
pub bracket_told : (rows : List Row) (env : Env) (at : Span) (js : List Judged) (best : Option Fault) → length js ≡ 1 → best ≡ least best (judged_paren env at (knowns rows js)).faults
bracket_told rows env at [] best one = absurd (omega arith)
bracket_told rows env at (j ∷ []) best one = sym (least_none best)
bracket_told rows env at (j ∷ k ∷ js) best one = absurd (omega arith)

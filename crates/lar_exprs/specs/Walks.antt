-- What a walk over expressions finds, member by member.
use Rattle.std.specs.Prelude.{◌≡◌, List, map}
use Rattle.type_table.specs.declared.row.Row.{Row}
use Rattle.lar_tree.specs.declared.commas.Member.{Member}
use Rattle.lar_tree.specs.declared.expr.Expr.{Expr}
use Rattle.lar_tree.specs.declared.expr.Init.{Init}
use Rattle.lar_tree.specs.ExprView.{expr_view}
use Rattle.lar_rules.specs.Judged.{Env, Judged}
use Rattle.lar_rules.specs.Exprs.{judge}
use Rattle.lar_judge.specs.declared.judged.Judged.{Judged as Known}
use Rattle.lar_judge.specs.Lists.{JudgedWithin, knowns, silents}

-- an expression of the code, as the rules judge it
abbrev pub judged : Env → Expr → Judged
judged env e = judge env (expr_view e)

-- the parts of a list, and what the fields of `new` are set to
abbrev pub judged_list : Env → List Expr → List Judged
judged_list env es = map (judged env) es

abbrev pub member_exprs : List (Member Expr) → List Expr
member_exprs ms = map (λ m. m.value) ms

abbrev pub member_values : List (Member Init) → List Expr
member_values ms = map (λ m. (m.value).value) ms

-- the code knows of each expression what the rules know
pub record AllKnown (rows : List Row) (js : List Known) (ds : List Judged) : Type 0 where
  pub within : JudgedWithin rows js
  pub are : knowns rows js ≡ silents ds

-- A function whose body is walked, and what is known of the body, in the numbers of a table.
use Rattle.std.specs.Prelude.{◌≡◌, ℕ, List, Option}
use Rattle.type_table.specs.declared.row.Row.{Row}
use Rattle.lar_tree.specs.declared.item.Fn.{Fn}
use Rattle.lar_tree.specs.ItemView.{fn_view}
use Rattle.lar_typed.specs.Stmts.{PlainStmts}
use Rattle.lar_rules.specs.Declared.{Declared, Function}
use Rattle.lar_rules.specs.Written.{Site}
use Rattle.lar_rules.specs.Signatures.{function_site, params, outcome}
use Rattle.lar_rules.specs.Bodies.{Done}
use Rattle.lar_judge.specs.Wanted.{types_if, AllIfWithin}
use Rattle.lar_written.specs.declared.members.Member.{Member}
use Rattle.lar_written.specs.Members.{MembersStand}
use Rattle.lar_written.specs.Standing.{StandsIf}
use Rattle.lar_stmts.specs.Stmts.{StmtsIs}
use Rattle.lar_bodies.specs.declared.function.TypedBody.{TypedBody}

-- the code's function is this one: its site, its parameters, its result and its tree
pub record IsFunction (rows : List Row) (site : Site) (known : List Member) (gives : Option ℕ) (it : Fn) (all : List Declared) (x : Function) : Type 0 where
  pub site_is : site ≡ function_site all x
  pub params_stand : MembersStand rows known (params all x)
  pub outcome_stands : StandsIf rows gives (outcome all x)
  pub it_is : fn_view it ≡ x.it

-- the code knows of a body what the rules know: its statements, and the types of its locals by number
pub record BodyIs (rows : List Row) (b : TypedBody) (d : Done PlainStmts) : Type 0 where
  pub typed : StmtsIs rows b.stmts d.typed
  pub locals_within : AllIfWithin rows b.locals.items
  pub locals_are : types_if rows b.locals.items ≡ d.after.types

-- Names whose types are known: of structs' fields, of functions' parameters and results, and of locals.
use Rattle.std.specs.Prelude.{ℕ, List, Option}
use Rattle.type_table.specs.TypeOf.{TypeOf}
use Rattle.lar_tree.specs.Lawful.{Every}
use Rattle.lar_rules.specs.Declared.{Declared, Struct, Function}
use Rattle.lar_rules.specs.Signatures.{Member, fields, params, outcome}
use Rattle.lar_rules.specs.Judged.{Local, Env}
use Rattle.lar_rules.specs.Bodies.{Body, State}
use Rattle.lar_rules.specs.Faults.{none_yet}
use Rattle.lar_sound.specs.Known.{IsKnown}
use Rattle.lar_sound.specs.Items.{EachItem}

abbrev pub IsMemberKnown : Member → Type 0
IsMemberKnown m = IsKnown m.1

abbrev pub IsLocalKnown : Local → Type 0
IsLocalKnown l = IsKnown l.of

abbrev pub AreFieldsKnown : List Declared → Struct → Type 0
AreFieldsKnown all x = Every IsMemberKnown (fields all x)

abbrev pub IsSignatureKnown : List Declared → Function → Type 0
IsSignatureKnown all x = Every IsMemberKnown (params all x) × IsKnown (outcome all x)

-- all that a program declares
abbrev pub AreItemsKnown : List Declared → Type 0
AreItemsKnown all = EachItem (AreFieldsKnown all) (IsSignatureKnown all) (λ (n : ℕ). Unit {0}) none_yet all

pub record AreNamesKnown (env : Env) : Type 0 where
  pub items : AreItemsKnown env.site.all
  pub locals : Every IsLocalKnown env.locals

-- what a body stands in: all that is declared, and its result
pub record IsBodyKnown (b : Body) : Type 0 where
  pub items : AreItemsKnown b.site.all
  pub outcome : IsKnown b.outcome

-- the locals in scope, and the types of all locals so far
pub record IsStateKnown (s : State) : Type 0 where
  pub locals : Every IsLocalKnown s.locals
  pub types : Every (λ (t : Option TypeOf). IsKnown t) s.types

-- Jobs and their results, of a work. No promise, but for the code and its proof alone.
use Rattle.std.specs.Prelude.{◌≡◌, ◌<◌, Some}
use Rattle.coord_run.specs.declared.message.Job.{Job}
use Rattle.coord_run.specs.declared.message.Done.{Done}
use Rattle.coord_run.specs.declared.message.Message.{Message}
use Rattle.coord_run.specs.declared.message.Message.TheVariants.{Run, Stop}
use Rattle.coord_run.specs.Meaning.{Meaning, Answers, IsPartOf}

module _ {P F : Type 0} where
  -- a unit's part, with a lease of this table that names the unit
  pub record FitsJob (m : Meaning P F) (j : Job P) : Type 0 where
    pub table : j.lease.table ≡ m.table
    pub job : j.lease.job ≡ Some j.unit
    pub unit : j.unit < m.count
    pub part : IsPartOf m j.unit j.part

  -- what came of a unit is what it is defined to give, and the lease is of this table
  pub record FitsDone (m : Meaning P F) (d : Done F) : Type 0 where
    pub table : d.lease.table ≡ m.table
    pub outcome : Answers (m.made d.unit) d.outcome

  abbrev pub FitsMessage : Meaning P F → Message P → Type 0
  FitsMessage m (Run j) = FitsJob m j
  FitsMessage m Stop = Unit {0}

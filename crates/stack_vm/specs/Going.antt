-- Several steps of the machine, one after the other.
use Rattle.std.specs.Prelude.{ℕ, zero, suc, List, [], ◌++◌, Option, Some, None}
use Rattle.object_format.specs.Image.{LinkedFn}
use Rattle.stack_vm.specs.Acts.{Act, Outcome, Goes, Ends, Traps, Stuck, step}

-- the acts that steps lead to, and the text that they print
pub record Gone : Type 0 where
  pub acts : List Act
  pub text : List ℕ

abbrev pub gone_after : List ℕ → Option Gone → Option Gone
gone_after text None = None
gone_after text (Some g) = Some (record { acts = g.acts; text = text ++ g.text })

abbrev pub gone_on : (List Act → Option Gone) → Outcome → Option Gone
gone_on more (Goes next text) = gone_after text (more next)
gone_on more Ends = None
gone_on more (Traps kind) = None
gone_on more Stuck = None

-- what so many steps lead to, where the machine goes on after each
abbrev pub gone : List LinkedFn → ℕ → List Act → Option Gone
gone fs zero acts = Some (record { acts = acts; text = [] })
gone fs (suc n) acts = gone_on (gone fs n) (step fs acts)

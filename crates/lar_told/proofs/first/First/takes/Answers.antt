use Rattle.std.proofs.Common.{rules, ◌∙◌, sym}
use Rattle.lar_rules.specs.Fault.{fault}
use Rattle.lar_told.proofs.Kept.{kept_new, kept_old}
use Rattle.lar_told.proofs.first.First.takes.Goals as goal

pub returns-in-Some-clause-yes : goal.returns-in-Some-clause-yes
returns-in-Some-clause-yes c = λ h args. kept_new c.args.self.now c.in-Some.told (fault c.args.file c.args.at c.args.code args) (search rules) (sym (c.is_after.ensures args) ∙ h)

pub returns-in-Some-clause-no : goal.returns-in-Some-clause-no
returns-in-Some-clause-no c = λ h args. kept_old c.args.self.now c.in-Some.told (fault c.args.file c.args.at c.args.code args) (search rules) (sym (c.is_after.ensures args) ∙ h)

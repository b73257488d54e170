use Rattle.std.proofs.Common.{[]}
use Rattle.lar_rules.specs.Declared.{modules_of, last_of, texts_of}
use Rattle.lar_written.proofs.Numbers.{meant_numbered}
use Rattle.lar_signatures.proofs.Numbered.{function_found}
use Rattle.lar_signatures.proofs.laws.meant.Goals as goal

pub returns-clause-structs : goal.returns-clause-structs
returns-clause-structs c = λ all here p x e. meant_numbered all (modules_of here (texts_of p)) (last_of [] (texts_of p)) x e

pub returns-clause-functions : goal.returns-clause-functions
returns-clause-functions c = function_found

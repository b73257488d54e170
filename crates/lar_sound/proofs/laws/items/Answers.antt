use Rattle.lar_sound.proofs.ProgramTold.{items_told, struct_told, function_told}
use Rattle.lar_sound.proofs.laws.items.Goals as goal

pub returns-clause-structs : goal.returns-clause-structs
returns-clause-structs c = struct_told

pub returns-clause-functions : goal.returns-clause-functions
returns-clause-functions c = λ all h. function_told all (items_told all h)

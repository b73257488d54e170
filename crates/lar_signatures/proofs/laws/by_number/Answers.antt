use Rattle.lar_signatures.proofs.ByNumber.{struct_of_number, function_of_number, decl_of_number}
use Rattle.lar_signatures.proofs.laws.by_number.Goals as goal

pub returns-clause-structs : goal.returns-clause-structs
returns-clause-structs c = struct_of_number

pub returns-clause-functions : goal.returns-clause-functions
returns-clause-functions c = function_of_number

pub returns-clause-decls : goal.returns-clause-decls
returns-clause-decls c = decl_of_number

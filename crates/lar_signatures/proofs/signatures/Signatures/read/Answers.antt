use Rattle.std.proofs.Common.{List, subst, sym}
use Rattle.lar_names.specs.NamesView.{names_view}
use Rattle.lar_names.specs.Numbered.{structs, struct_at}
use Rattle.lar_signatures.specs.declared.structure.StructSignature.{StructSignature}
use Rattle.lar_signatures.specs.EachStands.{EachStands}
use Rattle.lar_signatures.specs.Signatures.{StructStands}
use Rattle.lar_written.proofs.Standings.{keeps_twice}
use Rattle.lar_signatures.proofs.Grown.{structs_grown, functions_grown}
use Rattle.lar_signatures.proofs.Noting.{all_noted}
use Rattle.lar_signatures.proofs.signatures.Signatures.read.Goals as goal

pub declared_structs-requires-clause-stand : goal.declared_structs-requires-clause-stand
declared_structs-requires-clause-stand c =
    let all = names_view c.args.names.now in
    subst (λ (ss : List StructSignature). EachStands (λ n s p. StructStands c.read_functions.new.types all s (struct_at n p)) 0 ss (structs all)) (sym c.deref.ensures.value)
    (structs_grown c.read_structs.new.types c.read_functions.new.types all c.in_ok-structs.structs.items c.in_ok-functions.ensures.kept c.in_ok-structs.ensures.of)

pub returns-clause-stand : goal.returns-clause-stand
returns-clause-stand c =
    let all = names_view c.args.names.now in
    record {
      structs_stand = structs_grown c.read_structs.new.types c.declared_structs.new.types all c.in_ok-structs.structs.items (keeps_twice c.read_structs.new.types c.read_functions.new.types c.declared_structs.new.types c.in_ok-functions.ensures.kept c.in_ok-decls.ensures.kept) c.in_ok-structs.ensures.of;
      functions_stand = functions_grown c.read_functions.new.types c.declared_structs.new.types all c.in_ok-functions.functions.items c.in_ok-decls.ensures.kept c.in_ok-functions.ensures.of;
      decls_stand = c.in_ok-decls.ensures.of;
    }

pub returns-clause-told : goal.returns-clause-told
returns-clause-told c = all_noted (names_view c.args.names.now) c.args.first.now c.read_structs.new.first c.read_functions.new.first c.in_ok-structs.ensures.told c.in_ok-functions.ensures.told

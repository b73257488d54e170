use Rattle.lar_written.specs.Sites.{generics_view}
use Rattle.lar_signatures.proofs.Reading.{struct_told}
use Rattle.lar_signatures.proofs.structure.read_struct.Goals as goal

pub returns-clause-told : goal.returns-clause-told
returns-clause-told c = λ n is.
    struct_told c.args.names.now c.args.item.now n c.args.depth (generics_view c.in_ok-generics.generics) c.args.first.now c.note_names.new.first c.all_members.new.first c.note_nesting.new.first c.in_ok-generics.ensures c.in_ok-note_names.ensures c.in_ok-fields.ensures.told c.in_ok-note_nesting.ensures is

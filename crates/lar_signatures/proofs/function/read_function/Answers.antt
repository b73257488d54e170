use Rattle.lar_written.specs.Sites.{generics_view}
use Rattle.lar_signatures.proofs.Reading.{head_told, function_stands}
use Rattle.lar_signatures.proofs.function.read_function.Goals as goal

pub returns-clause-of : goal.returns-clause-of
returns-clause-of c = λ n.
    function_stands c.args.names.now c.args.item.now n c.all_members.new.types c.outcome.new.types _ c.in_ok-generics.ensures c.in_ok-sorts.ensures c.in_ok-outcome.ensures.kept c.in_ok-params.ensures.of c.in_ok-outcome.ensures.of

pub returns-clause-told : goal.returns-clause-told
returns-clause-told c = λ n.
    head_told c.args.names.now c.args.item.now n (generics_view c.in_ok-generics.generics) c.args.first.now c.note_names.new.first c.all_members.new.first c.outcome.new.first c.in_ok-generics.ensures c.in_ok-note_names.ensures c.in_ok-params.ensures.told c.in_ok-outcome.ensures.told

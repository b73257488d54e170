use Rattle.lar_names.specs.Items.{function_item}
use Rattle.lar_names.specs.NamesView.{names_view, scope_lists}
use Rattle.lar_names.specs.Numbered.{function_at}
use Rattle.lar_written.proofs.Standings.{keeps_twice}
use Rattle.lar_signatures.specs.Noted.{faults_of_head}
use Rattle.lar_signatures.specs.Signatures.{FunctionStands}
use Rattle.lar_signatures.proofs.Each.{each_step}
use Rattle.lar_signatures.proofs.Grown.{function_grown}
use Rattle.lar_signatures.proofs.Noting.{noted_further, noted_end}
use Rattle.lar_signatures.proofs.function.read_functions.Goals as goal

pub loop-item-preserved : goal.loop-item-preserved
loop-item-preserved c =
    let all = names_view c.args.names.now in
    let view = function_item (scope_lists c.args.names.now) in
    let items = c.functions-item-items.result.now in
    record {
      kept = keeps_twice c.args.types.now c.loop-item.types c.read_function.new.types c.loop-item.invariant.kept c.read_function.ensures.kept;
      of = each_step (λ n f p. FunctionStands c.loop-item.types all f (function_at n p)) (λ n f p. FunctionStands c.read_function.new.types all f (function_at n p)) view items c.loop-item.item-index c.item-item.result c.loop-item.out.items c.push.new.self.items c.in_ok-read_function.field-0
          (λ n f p st. function_grown c.loop-item.types c.read_function.new.types all f (function_at n p) c.read_function.ensures.kept st) c.item-item.is c.loop-item-test.true c.loop-item.invariant.of c.in_ok-push.ensures.items (c.in_ok-read_function.ensures.of c.loop-item.item-index);
      told = noted_further (faults_of_head all) view items c.loop-item.item-index c.item-item.result c.loop-item.first c.read_function.new.first _ c.item-item.is c.loop-item-test.true c.loop-item.invariant.told (c.in_ok-read_function.ensures.told c.loop-item.item-index);
    }

pub returns-clause-told : goal.returns-clause-told
returns-clause-told c =
    noted_end (faults_of_head (names_view c.args.names.now)) (function_item (scope_lists c.args.names.now)) c.functions-item-items.result.now c.loop-item.item-index _ c.loop-item.first c.args.first.now c.loop-item-test.false c.functions-item-items.ensures.all c.loop-item.invariant.told

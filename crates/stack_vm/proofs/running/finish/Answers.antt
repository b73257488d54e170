use Rattle.std.proofs.Common.{subst}
use Rattle.stack_vm.specs.Running.{WorkLeaves}
use Rattle.stack_vm.specs.declared.end.End.{End}
use Rattle.stack_vm.proofs.Starting.{failed_end, memory_end, kept_failed, kept_memory}
use Rattle.stack_vm.proofs.running.finish.Goals as goal

pub returns-in-WriteFault : goal.returns-in-WriteFault
returns-in-WriteFault g c wanted ran old is h = kept_failed wanted ran old (g.S.Sink.told c.args.sink.now) c.args.text.now is (subst (λ (e : End). WorkLeaves wanted old (g.S.Sink.told c.args.sink.now) c.args.text.now e) c.in-WriteFault.is h)

pub returns-in-Memory : goal.returns-in-Memory
returns-in-Memory g c wanted ran old is h = kept_memory wanted ran old (g.S.Sink.told c.args.sink.now) c.args.text.now is (subst (λ (e : End). WorkLeaves wanted old (g.S.Sink.told c.args.sink.now) c.args.text.now e) c.in-Memory.is h)

pub returns-in-Failed : goal.returns-in-Failed
returns-in-Failed g c wanted ran old is h =
    failed_end wanted old (g.S.Sink.told c.args.sink.now) (g.S.Sink.told c.put_all.new.sink) c.args.text.now c.args.end c.in_default.not-WriteFault c.in_default.not-Memory h c.in-Failed.ensures

pub returns-in-Memory-put_all : goal.returns-in-Memory-put_all
returns-in-Memory-put_all g c wanted ran old is h =
    memory_end wanted old (g.S.Sink.told c.args.sink.now) (g.S.Sink.told c.put_all.new.sink) c.args.text.now c.args.end c.in_default.not-WriteFault c.in_default.not-Memory h c.in-Memory-put_all.ensures

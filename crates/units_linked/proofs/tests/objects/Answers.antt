use Rattle.std.proofs.Common.{sym}
use Rattle.unit_object.proofs.Answered.{read_same, read_refused}
use Rattle.unit_object.proofs.Worked.{prints_7_object}
use Rattle.units_linked.proofs.Worked.{prints_7-spelled, alone-linkable}
use Rattle.units_linked.proofs.tests.objects.Goals as goal

pub unreachable-requires : goal.unreachable-requires
unreachable-requires c =
    read_refused prints_7_object c.in-Err-Refused.field-0 c.in-Err-Refused.field-0-0 c.in-Err-Refused.field-0-is (c.in-Err-Refused.ensures.only prints_7_object (prints_7-spelled c.as_slice.result.now c.as_slice.ensures))

pub returns-clause-linkable : goal.returns-clause-linkable
returns-clause-linkable c =
    let is = sym (read_same prints_7_object c.in-Ok.object (c.in-Ok.ensures.only prints_7_object (prints_7-spelled c.as_slice.result.now c.as_slice.ensures))) in
    alone-linkable c.push.new.self.items c.new-objects.result.items c.in-Ok.object c.in_ok-push.ensures.items c.new-objects.ensures.items is

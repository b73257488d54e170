use Rattle.std.proofs.Common.{[], sym, ◌∙◌}
use Rattle.lar_rules.specs.Declared.{declared}
use Rattle.lar_rules.specs.Twice.{repeated_items}
use Rattle.lar_rules.specs.Faults.{none_yet, past_limit, max_functions}
use Rattle.fault_order.specs.Order.{struct_part, head_part, body_part, parts_from}
use Rattle.lar_assembled.specs.Programs.{noted}
use Rattle.lar_assembled.proofs.ProgramFacts.{noted_in_order, first_is}
use Rattle.lar_assembled.proofs.laws.first_faults.Goals as goal

pub returns : goal.returns
returns c = λ sources ordered.
    let all = declared sources in
    first_is sources (noted all) (c.orders.ensures.by_kind sources ordered
    ∙ sym (noted_in_order (repeated_items [] all) (past_limit all max_functions) (parts_from struct_part all none_yet all) (parts_from head_part all none_yet all) (parts_from body_part all none_yet all)))

use Rattle.std.proofs.Common.{Some, sym, ap, ◌∙◌}
use Rattle.lar_typed.specs.TreeView.{contents, plain}
use Rattle.lar_assembled.proofs.ProgramFacts.{all_stand}
use Rattle.lar_assembled.proofs.laws.programs.Goals as goal

pub returns-clause-same : goal.returns-clause-same
returns-clause-same c = λ sources rows ss cs fs none st. sym (all_stand sources rows ss cs fs none st)

pub returns-clause-facts : goal.returns-clause-facts
returns-clause-facts c = λ sources rows ss cs fs are none st. record {
  within = ((st.structs_stand).within, (st.functions_stand).within);
  typed = c.sound.ensures sources (plain (contents rows ss cs fs)) are none (c.in_order.ensures sources none ∙ ap Some (sym (all_stand sources rows ss cs fs none st)));
}

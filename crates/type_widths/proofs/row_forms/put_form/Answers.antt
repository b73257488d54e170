use Rattle.std.proofs.Common.{refl, sym, ◌∙◌, arith}
use Rattle.type_widths.proofs.Levels.{done_set, done_skip}
use Rattle.type_widths.proofs.row_forms.put_form.Goals as goal

pub form-requires-clause-here : goal.form-requires-clause-here
form-requires-clause-here c = sym c.if-levels-number.false ∙ c.requires.levels.each c.args.number 0 (omega (arith, c.requires.count, c.requires.within))

pub returns-then-levels-number : goal.returns-then-levels-number
returns-then-levels-number c = done_skip c.args.types.now c.args.structs.now c.args.level c.args.number c.args.forms.now.items (λ e. c.if-levels-number.true (c.requires.levels.each c.args.number 0 (omega (arith, c.requires.count, c.requires.within)) ∙ e)) c.requires.known

pub returns : goal.returns
returns c = done_set c.args.types.now c.args.structs.now c.args.level c.args.number c.args.forms.now.items _ c.in_ok-new.new c.requires.within c.requires.known c.in_ok-new.ensures refl

use Rattle.std.proofs.Common.{ap, ◌∙◌, arith}
use Rattle.unit_ir.specs.StmtView.{stmt_view}
use Rattle.unit_ir.proofs.Views.{stmt_view-Store, stmt_view-If, stmt_view-While, stmt_view-Return, stmt_view-Print, stmt_view-Eval}
use Rattle.opt_inline.proofs.Raised.{given-not_one, given-one}
use Rattle.opt_inline.proofs.small.given.Goals as goal

pub returns-then-body-ne1 : goal.returns-then-body-ne1
returns-then-body-ne1 c = given-not_one c.args.body.now (λ one. absurd (omega (arith, one)))

pub returns-in-Return : goal.returns-in-Return
returns-in-Return c = given-one c.args.body.now c.index-body-0.result _ c.if-body-ne1.false c.index-body-0.is (ap stmt_view c.in-Return.is ∙ stmt_view-Return c.in-Return.e)

pub returns-in-Store : goal.returns-in-Store
returns-in-Store c = given-one c.args.body.now c.index-body-0.result _ c.if-body-ne1.false c.index-body-0.is (ap stmt_view c.in-Store.is ∙ stmt_view-Store c.in-Store.field-0 c.in-Store.field-1 c.in-Store.field-2)

pub returns-in-If : goal.returns-in-If
returns-in-If c = given-one c.args.body.now c.index-body-0.result _ c.if-body-ne1.false c.index-body-0.is (ap stmt_view c.in-If.is ∙ stmt_view-If c.in-If.field-0 c.in-If.field-1 c.in-If.field-2)

pub returns-in-While : goal.returns-in-While
returns-in-While c = given-one c.args.body.now c.index-body-0.result _ c.if-body-ne1.false c.index-body-0.is (ap stmt_view c.in-While.is ∙ stmt_view-While c.in-While.field-0 c.in-While.field-1)

pub returns-in-Print : goal.returns-in-Print
returns-in-Print c = given-one c.args.body.now c.index-body-0.result _ c.if-body-ne1.false c.index-body-0.is (ap stmt_view c.in-Print.is ∙ stmt_view-Print c.in-Print.field-0)

pub returns-in-Eval : goal.returns-in-Eval
returns-in-Eval c = given-one c.args.body.now c.index-body-0.result _ c.if-body-ne1.false c.index-body-0.is (ap stmt_view c.in-Eval.is ∙ stmt_view-Eval c.in-Eval.field-0 c.in-Eval.field-1)

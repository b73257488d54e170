use Rattle.std.proofs.lemmas.Result.{IfOk-weaker}
use Rattle.type_table.specs.Rows.{type_at}
use Rattle.type_widths.proofs.Forming.{applied_form}
use Rattle.type_widths.proofs.row_forms.applied.Goals as goal

pub returns : goal.returns
returns c =
    IfOk-weaker c.scaled.result _ _ (λ new s. applied_form c.args.types.now c.args.structs.now c.args.name (type_at c.args.types.now c.args.list) c.args.fields.now c.in_ok-total.total.items c.deref.result.now c.in_ok-one.one.items c.deref-2.result.now new.items c.requires.falling c.requires.fields c.in_ok-total.ensures c.deref.ensures.value c.in_ok-one.ensures c.deref-2.ensures.value s) c.scaled.ensures

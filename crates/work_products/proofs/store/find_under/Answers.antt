use Rattle.work_products.proofs.Finding.{named-tells}
use Rattle.work_products.proofs.store.find_under.Goals as goal

pub returns-in-Ok-Bytes-clause-tells : goal.returns-in-Ok-Bytes-clause-tells
returns-in-Ok-Bytes-clause-tells g c =
    let step = rw c.in-Ok-Bytes.field-0-is at c.in-Ok-Bytes.ensures in
    named-tells (g.K.Keeper.told c.args.keeper.now).held c.args.text.now c.args.name.now c.in-Ok-Bytes.bytes c.as_slice.result.now c.judge.result c.requires c.as_slice.ensures step.0 c.judge.ensures

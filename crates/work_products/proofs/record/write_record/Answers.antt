use Rattle.std.proofs.Common.{sym, ap, ◌∙◌, Ok, arith}
use Rattle.work_products.proofs.Lengths.{written-short, written-long}
use Rattle.work_products.proofs.record.write_record.Goals as goal

pub returns-then-len-gt-MAX_RECORD : goal.returns-then-len-gt-MAX_RECORD
returns-then-len-gt-MAX_RECORD c = written-long c.args.text.now c.args.object.now (omega arith)

pub returns : goal.returns
returns c = written-short c.args.text.now c.args.object.now (omega arith) ∙ ap Ok (sym c.in_ok-record_of.ensures)

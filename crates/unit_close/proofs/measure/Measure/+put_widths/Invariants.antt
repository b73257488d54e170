use Rattle.unit_close.proofs.measure.Measure.+put_widths.Given as goal

abbrev pub decreases-put_widths : goal.decreases-put_widths
decreases-put_widths l = l.list

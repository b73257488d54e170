use Rattle.text_order.proofs.Indexed.{Indexing}
use Rattle.text_order.proofs.texts.index_of_texts.Given as goal

abbrev pub invariant-loop-place : goal.invariant-loop-place
invariant-loop-place l = Indexing l.texts l.place l.index

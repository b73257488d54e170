use Rattle.std.proofs.Common.{arith}
use Rattle.coord_run.proofs.Runs.{new-books}
use Rattle.coord_run.proofs.books.Books.new.Goals as goal

pub invariant_of-books : goal.invariant_of-books
invariant_of-books g c =
    let j = c.in_ok-journal.ensures.exact in let l = c.in_ok-lost.ensures.exact in
    simp (c.first.ensures, c.in_ok-core.ensures.0, c.in_ok-core.ensures.1, c.in_ok-journal.ensures.items) (new-books c.args.terms _ _ _ _ (omega arith) c.in_ok-outcomes.ensures.0 c.in_ok-parts.ensures (omega arith))

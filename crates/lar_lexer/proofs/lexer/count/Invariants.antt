use Rattle.std.proofs.Common.{◌≡◌, ◌≤◌, ◌+◌, ℕ, List, Ok, length}
use Rattle.lar_source.specs.declared.file.Span.{Span}
use Rattle.lar_tree.specs.declared.token.Token.{Token}
use Rattle.lar_lexer.specs.Lexed.{lexed_from}
use Rattle.lar_lexer.proofs.Counting.{Left}
use Rattle.lar_lexer.proofs.lexer.count.Given as goal

abbrev pub invariant-fronts : goal.invariant-fronts
invariant-fronts l = record {
  counted : (file : List ℕ) (at : Span) (tokens : List Token) → lexed_from file 0 at l.text ≡ Ok tokens → Left file l.rest l.n (length tokens);
  few : l.n + length l.rest ≤ length l.text;
}

abbrev pub decreases-fronts : goal.decreases-fronts
decreases-fronts l = length l.rest

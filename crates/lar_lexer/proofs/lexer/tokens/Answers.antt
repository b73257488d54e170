use Rattle.std.proofs.Common.{List, Result, Ok, Err, IfOk, Vec, Global, length, ◌≤◌, subst}
use Rattle.lar_bytes.specs.Answers.{Answers}
use Rattle.lar_bytes.specs.declared.memory.OrMemory.{OrMemory}
use Rattle.lar_tree.specs.declared.token.Token.{Token}
use Rattle.lar_source.specs.Diagnostic.{Diagnostic}
use Rattle.lar_lexer.specs.Lawful.{AreLawful, AreInOrder}
use Rattle.lar_lexer.specs.Lexed.{Outcome, lexed}
use Rattle.lar_lexer.proofs.Kept.{are_lawful, are_in_order, are_few}
use Rattle.lar_lexer.proofs.lexer.tokens.Goals as goal

-- what holds of the definition's tokens holds of those that are answered
holds : (P : List Token → Type 0) (o : Outcome) (r : Result (Vec Token Global) (OrMemory Diagnostic)) → Answers (λ (tokens : Vec Token Global). tokens.items) r o → IfOk o P → IfOk r (λ tokens. P tokens.items)
holds P o (Ok tokens) answers is = subst (λ (x : Outcome). IfOk x P) answers is
holds P o (Err e) answers is = tt

pub returns-clause-lawful : goal.returns-clause-lawful
returns-clause-lawful c =
    let file = c.args.file.now in
    holds (AreLawful c.args.number) (lexed file.name c.args.number file.bytes) c.read.result c.read.ensures (are_lawful file.name c.args.number file.bytes)

pub returns-clause-in_order : goal.returns-clause-in_order
returns-clause-in_order c =
    let file = c.args.file.now in
    holds AreInOrder (lexed file.name c.args.number file.bytes) c.read.result c.read.ensures (are_in_order file.name c.args.number file.bytes)

pub returns-clause-few : goal.returns-clause-few
returns-clause-few c =
    let file = c.args.file.now in
    holds (λ tokens. length tokens ≤ length file.bytes) (lexed file.name c.args.number file.bytes) c.read.result c.read.ensures (are_few file.name c.args.number file.bytes)

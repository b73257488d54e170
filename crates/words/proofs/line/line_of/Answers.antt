use Rattle.std.proofs.Common.{sym, subst, map, string_bytes, Option}
use Rattle.std.proofs.lemmas.Result.{IfOk-weaker}
use Rattle.words.specs.Lines.{Line, choice_shown}
use Rattle.words.specs.Sorting.{Means}
use Rattle.words.proofs.Sorted.{means}
use Rattle.words.proofs.line.line_of.Goals as goal

pub returns-clause-means : goal.returns-clause-means
returns-clause-means c =
    let table = map choice_shown c.args.table.now in
    let words = map (λ word. string_bytes word) c.args.words.now in
    IfOk-weaker c.sorted_line.result _ _ (λ line is. subst (λ (o : Option Line). Means table words o) (sym is) (means table c.requires.table c.requires.plain words)) c.sorted_line.ensures

use Rattle.std.proofs.Common.{[], ◌∷◌, ◌∙◌, sym, ap, Some}
use Rattle.std.proofs.lemmas.Result.{err_from_is_err_and}
use Rattle.std.specs.Option.{option_copied}
use Rattle.lar_grammar.specs.Symbols.{one_name, selector}
use Rattle.lar_syntax.proofs.Flow.{onward}
use Rattle.lar_syntax.proofs.FlowCalls.{selector_named}
use Rattle.lar_syntax.proofs.parser.cursor.Parser.selector.Goals as goal

pub returns-in_err-name-in-Some-Name-clause-reads : goal.returns-in_err-name-in-Some-Name-clause-reads
returns-in_err-name-in-Some-Name-clause-reads c =
    let seen = sym c.peek.ensures ∙ ap option_copied c.in-Some-Name.is ∙ ap Some c.in-Some-Name.field-0-is in
    let x = err_from_is_err_and c.from_residual-in_err-name-in-Some-Name.result c.from_residual-in_err-name-in-Some-Name.ensures.1 in
    rw (x.1, x.2) (onward (selector ∷ []) (one_name ∷ []) [] _ c.args.self.now c.args.self.now _ (λ ss. selector_named c.args.self.now _ ss seen) c.in_err-name-in-Some-Name.ensures.reads)

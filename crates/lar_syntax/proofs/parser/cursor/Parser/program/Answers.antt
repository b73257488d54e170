use Rattle.std.proofs.Common.{[], ◌∷◌, ◌∙◌, sym, ap}
use Rattle.std.proofs.lemmas.Result.{err_from_is_err_and}
use Rattle.std.specs.Option.{option_copied}
use Rattle.lar_grammar.specs.Looks.{look}
use Rattle.lar_grammar.specs.Symbols.{program}
use Rattle.lar_syntax.proofs.Flow.{onward}
use Rattle.lar_syntax.proofs.ItemSteps.{program_begins}
use Rattle.lar_syntax.proofs.ItemTokens.{items_grow, items_grouped}
use Rattle.lar_syntax.proofs.parser.cursor.Parser.program.Goals as goal

pub returns-in_err-item-clause-reads : goal.returns-in_err-item-clause-reads
returns-in_err-item-clause-reads c =
    let b = program_begins (look c.items.self.rest.now) _ (sym c.peek.ensures ∙ ap option_copied c.in-Some.is) in
    let x = err_from_is_err_and c.from_residual.result c.from_residual.ensures.1 in
    rw (x.1, x.2) (onward (program ∷ []) (program ∷ []) [] _ c.args.self.now c.items.self _ c.items.invariant.passes (c.in_err-item.ensures.reads program (program ∷ []) b))

pub items-preserved : goal.items-preserved
items-preserved c =
    let b = program_begins (look c.items.self.rest.now) _ (sym c.peek.ensures ∙ ap option_copied c.in-Some.is) in
    let i = c.items.invariant in
    let r = c.in_ok-item.ensures.reads in
    record {
      takes = items_grow c.items.found _ c.in_ok-item.item _ _ _ i.takes r.0 c.in_ok-push.ensures.ok;
      passes = λ ss. i.passes ss ∙ r.1 program (program ∷ []) b ss;
      grouped = items_grouped c.items.found _ c.in_ok-item.item i.grouped c.in_ok-item.ensures.grouped c.in_ok-push.ensures.ok;
    }

use Rattle.std.proofs.Common.{◌∙◌, ap, sym, [], ◌∷◌}
use Rattle.std.proofs.lemmas.Result.{on_ok_weaker}
use Rattle.lar_source.specs.declared.code.Code.TheVariants.{MayEndWithoutValue}
use Rattle.lar_source.specs.declared.file.Span.{Span}
use Rattle.lar_tree.specs.StmtView.{block_view}
use Rattle.lar_rules.specs.Bodies.{block_returns}
use Rattle.lar_rules.specs.Fault.{fault, kept}
use Rattle.lar_rules.specs.Functions.{is_unit}
use Rattle.lar_judge.specs.Known.{type_if}
use Rattle.lar_bodies.proofs.Endings.{ends_well, ends_returning, ends_without, close_is}
use Rattle.lar_bodies.proofs.ending.note_ending.Goals as goal

pub returns-then-unit-clause-told : goal.returns-then-unit-clause-told
returns-then-unit-clause-told c = ends_well (is_unit (type_if c.args.types.now c.args.outcome)) (block_returns (block_view c.args.block.now)) _ c.in_ok-unit.unit c.args.first.now c.in_ok-unit.ensures.is c.if-unit.true

pub returns-then-block_returns-clause-told : goal.returns-then-block_returns-clause-told
returns-then-block_returns-clause-told c = ends_returning (is_unit (type_if c.args.types.now c.args.outcome)) (block_returns (block_view c.args.block.now)) _ c.block_returns.result c.args.first.now c.block_returns.ensures c.if-block_returns.true

pub returns-clause-told : goal.returns-clause-told
returns-clause-told c = on_ok_weaker c.note_name.result
    (λ h. ends_without (is_unit (type_if c.args.types.now c.args.outcome)) (block_returns (block_view c.args.block.now)) _ c.in_ok-unit.unit c.block_returns.result c.args.first.now _ c.in_ok-unit.ensures.is c.if-unit.false c.block_returns.ensures c.if-block_returns.false
    (h ∙ ap (λ (at : Span). kept c.args.first.now (fault c.args.file at MayEndWithoutValue (c.args.name.now.text ∷ []))) (sym (close_is c.args.block.now))))
    c.note_name.ensures.ok

use Rattle.std.proofs.Common.{◌≡◌, ◌<◌, ◌∙◌, sym, refl, arith, length}
use Rattle.mono_graph.specs.Instances.{is_large}
use Rattle.type_table.specs.Rows.{type_at}
use Rattle.mono_collect.proofs.Large.{large_is, more_large}
use Rattle.mono_collect.proofs.arguments.+has_large.Goals as goal

pub returns-then-is_too_large : goal.returns-then-is_too_large
returns-then-is_too_large t c =
    let first : c.in-More.first < length c.args.sizes.now = omega (arith, (c.in-More.ensures.earlier).0, c.requires.within, c.requires.count) in
    let large : is_large (type_at c.args.types.now c.in-More.first) ≡ c.is_too_large.result = large_is c.args.types.now c.in-More.first c.is_too_large.result (c.is_too_large.ensures c.args.types.now c.in-More.first (c.requires.known.each c.in-More.first _ first)) in
    sym (more_large c.args.types.now c.args.list c.in-More.first c.in-More.others _ _ c.in-More.ensures.stands (large ∙ c.if-is_too_large.true) refl)

pub returns-else-is_too_large : goal.returns-else-is_too_large
returns-else-is_too_large t c =
    let first : c.in-More.first < length c.args.sizes.now = omega (arith, (c.in-More.ensures.earlier).0, c.requires.within, c.requires.count) in
    let large : is_large (type_at c.args.types.now c.in-More.first) ≡ c.is_too_large.result = large_is c.args.types.now c.in-More.first c.is_too_large.result (c.is_too_large.ensures c.args.types.now c.in-More.first (c.requires.known.each c.in-More.first _ first)) in
    sym (more_large c.args.types.now c.args.list c.in-More.first c.in-More.others _ _ c.in-More.ensures.stands (large ∙ c.if-is_too_large.false) (sym c.has_large.ensures))

use Rattle.std.proofs.Common.{sym, ap, ◌∙◌}
use Rattle.std.specs.Option.{option_map}
use Rattle.unit_ir.specs.ExprView.{exprs_view}
use Rattle.opt_inline.specs.Inline.{inlined_call, slots_behind}
use Rattle.opt_inline.specs.SmallView.{small_view}
use Rattle.opt_inline.proofs.Raised.{callee-behind, callee-there}
use Rattle.opt_inline.proofs.exprs.inlined_call.Goals as goal

pub returns-then-function-small-clause-expr : goal.returns-then-function-small-clause-expr
returns-then-function-small-clause-expr c =
    c.call.ensures ∙ sym (ap (inlined_call c.args.function (exprs_view c.args.args) c.args.slots.now) (callee-behind c.args.small.now c.args.function c.if-function-small.true))

pub returns-then-function-small-clause-slots : goal.returns-then-function-small-clause-slots
returns-then-function-small-clause-slots c = sym (ap (slots_behind c.args.slots.now) (callee-behind c.args.small.now c.args.function c.if-function-small.true))

pub in_place-requires : goal.in_place-requires
in_place-requires c =
    c.requires c.args.function (small_view c.in-Some.callee) (callee-there c.args.small.now c.args.function c.index-small-function.result c.if-function-small.false c.index-small-function.is ∙ ap (option_map small_view) c.in-Some.is)

pub returns-in-None-clause-expr : goal.returns-in-None-clause-expr
returns-in-None-clause-expr c =
    c.call-in-None.ensures
    ∙ sym (ap (inlined_call c.args.function (exprs_view c.args.args) c.args.slots.now) (callee-there c.args.small.now c.args.function c.index-small-function.result c.if-function-small.false c.index-small-function.is ∙ ap (option_map small_view) c.in-None.is))

pub returns-in-None-clause-slots : goal.returns-in-None-clause-slots
returns-in-None-clause-slots c =
    sym (ap (slots_behind c.args.slots.now) (callee-there c.args.small.now c.args.function c.index-small-function.result c.if-function-small.false c.index-small-function.is ∙ ap (option_map small_view) c.in-None.is))

pub returns-in_ok-in_place-in-Some-clause-expr : goal.returns-in_ok-in_place-in-Some-clause-expr
returns-in_ok-in_place-in-Some-clause-expr c =
    c.in_ok-in_place-in-Some.ensures.expr
    ∙ sym (ap (inlined_call c.args.function (exprs_view c.args.args) c.args.slots.now) (callee-there c.args.small.now c.args.function c.index-small-function.result c.if-function-small.false c.index-small-function.is ∙ ap (option_map small_view) c.in-Some.is))

pub returns-in_ok-in_place-in-Some-clause-slots : goal.returns-in_ok-in_place-in-Some-clause-slots
returns-in_ok-in_place-in-Some-clause-slots c =
    c.in_ok-in_place-in-Some.ensures.slots
    ∙ sym (ap (slots_behind c.args.slots.now) (callee-there c.args.small.now c.args.function c.index-small-function.result c.if-function-small.false c.index-small-function.is ∙ ap (option_map small_view) c.in-Some.is))

use Rattle.std.proofs.Common.{rules, arith, refl, ◌≡◌, ◌+◌}
use Rattle.unit_input.specs.Widths.{cut}
use Rattle.unit_close.proofs.Measured.{first_row, others_row, none_first, more_first, no_first}
use Rattle.unit_close.proofs.measure.Measure.+first_words.Goals as goal

pub returns-then-k-eq0 : goal.returns-then-k-eq0
returns-then-k-eq0 t c = none_first _ _ _ c.args.k 0 _ c.if-k-eq0.true refl

pub first_words-rest-requires : goal.first_words-rest-requires
first_words-rest-requires t c = (
  first_of (search rules, grind arith),
  (c.requires.measure, (c.requires.few, others_row _ c.args.list c.in-More.first c.in-More.others c.in-More.ensures.stands c.in-More.ensures.earlier c.requires.list)),
)

pub width-here-requires-clause-row : goal.width-here-requires-clause-row
width-here-requires-clause-row t c = first_row _ c.args.list c.in-More.first c.in-More.others c.in-More.ensures.stands c.in-More.ensures.earlier c.requires.list

pub returns-in-More : goal.returns-in-More
returns-in-More t c =
    let total : c.min.result ≡ cut (c.width-here.result + c.first_words-rest.result) = grind arith in
    more_first c.args.self.now.types.now c.args.self.now.structs.now c.args.widths.now c.args.k c.args.list c.in-More.first c.in-More.others c.first_words-rest.result c.width-here.result c.min.result c.if-k-eq0.false c.in-More.ensures.stands c.first_words-rest.ensures c.width-here.ensures total

pub returns-in_default : goal.returns-in_default
returns-in_default t c = no_first c.args.self.now.types.now c.args.self.now.structs.now c.args.widths.now c.args.k c.args.list 0 c.row.result c.row.ensures.stands (λ a b e. c.in_default.not-More a b e) refl

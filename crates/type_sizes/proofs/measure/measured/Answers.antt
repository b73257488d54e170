use Rattle.std.proofs.Common.{refl, get_or}
use Rattle.type_table.specs.declared.row.Row.TheVariants.{Int, Bool as Boolean, Param, Number, End}
use Rattle.type_sizes.proofs.Measured.{row_size, more_size, struct_size, tuple_size, unit_size, size_at, nothing}
use Rattle.type_sizes.proofs.measure.measured.Goals as goal

pub returns-in-Int : goal.returns-in-Int
returns-in-Int c = row_size c.args.types.now c.args.number 1 0 Int c.size_of.result c.in-Int.ensures.stands refl refl c.size_of.ensures

pub returns-in-Bool : goal.returns-in-Bool
returns-in-Bool c = row_size c.args.types.now c.args.number 1 0 Boolean c.size_of-in-Bool.result c.in-Bool.ensures.stands refl refl c.size_of-in-Bool.ensures

pub returns-in-Param : goal.returns-in-Param
returns-in-Param c = row_size c.args.types.now c.args.number 1 0 (Param c.in-Param.field-0) c.size_of-in-Param.result c.in-Param.ensures.stands refl refl c.size_of-in-Param.ensures

pub returns-in-Number : goal.returns-in-Number
returns-in-Number c = row_size c.args.types.now c.args.number 0 0 (Number c.in-Number.field-0) c.size_of-in-Number.result c.in-Number.ensures.stands refl refl c.size_of-in-Number.ensures

pub returns-in-End : goal.returns-in-End
returns-in-End c = row_size c.args.types.now c.args.number 0 0 End c.size_of-in-End.result c.in-End.ensures.stands refl refl c.size_of-in-End.ensures

pub returns-in-More : goal.returns-in-More
returns-in-More c = more_size c.args.types.now c.args.number c.in-More.first c.in-More.others (get_or c.args.sizes.now c.in-More.others nothing) (get_or c.args.sizes.now c.in-More.first nothing) c.joined.result c.in-More.ensures.stands
    (size_at c.args.types.now c.args.sizes.now c.args.number c.in-More.others c.requires.known c.in-More.ensures.earlier.1 c.requires.next)
    (size_at c.args.types.now c.args.sizes.now c.args.number c.in-More.first c.requires.known c.in-More.ensures.earlier.0 c.requires.next)
    c.joined.ensures.parts c.joined.ensures.nesting

pub returns-in-End-row : goal.returns-in-End-row
returns-in-End-row c = unit_size c.args.types.now c.args.number c.in-Tuple.list c.size_of-in-End-row.result c.in-Tuple.ensures.stands c.in-End-row.ensures.stands c.size_of-in-End-row.ensures

pub returns-in_default : goal.returns-in_default
returns-in_default c = tuple_size c.args.types.now c.args.number c.in-Tuple.list c.row-in-Tuple.result (get_or c.args.sizes.now c.in-Tuple.list nothing) c.wrapped.result c.in-Tuple.ensures.stands c.row-in-Tuple.ensures.stands c.in_default.not-End
    (size_at c.args.types.now c.args.sizes.now c.args.number c.in-Tuple.list c.requires.known c.in-Tuple.ensures.earlier c.requires.next)
    c.wrapped.ensures.parts c.wrapped.ensures.nesting

pub returns-in-Struct : goal.returns-in-Struct
returns-in-Struct c = struct_size c.args.types.now c.args.number c.in-Struct.field-0 c.in-Struct.list (get_or c.args.sizes.now c.in-Struct.list nothing) c.wrapped-in-Struct.result c.in-Struct.ensures.stands
    (size_at c.args.types.now c.args.sizes.now c.args.number c.in-Struct.list c.requires.known c.in-Struct.ensures.earlier c.requires.next)
    c.wrapped-in-Struct.ensures.parts c.wrapped-in-Struct.ensures.nesting

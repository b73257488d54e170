use Rattle.type_widths.proofs.Levels.{more_level, parts_level, struct_level}
use Rattle.type_widths.proofs.level.level.Goals as goal

pub returns-in-More : goal.returns-in-More
returns-in-More c = more_level c.args.types.now c.args.structs.now c.args.levels.now c.args.number c.in-More.first c.in-More.others c.max.result c.in-More.ensures.stands c.in-More.ensures.earlier c.requires.next c.requires.known c.max.ensures

pub returns-in-Tuple : goal.returns-in-Tuple
returns-in-Tuple c = parts_level c.args.types.now c.args.structs.now c.args.levels.now c.args.number c.in-Tuple.parts c.in-Tuple.ensures.stands c.in-Tuple.ensures.earlier c.requires.next c.requires.known

pub returns-in-Struct : goal.returns-in-Struct
returns-in-Struct c = struct_level c.args.types.now c.args.structs.now c.args.levels.now c.args.number c.in-Struct.name c.in-Struct.list c.depth.result c.saturating_add.result c.max-in-Struct.result c.in-Struct.ensures.stands c.in-Struct.ensures.earlier c.requires.next c.requires.known c.requires.falling c.depth.ensures c.saturating_add.ensures c.max-in-Struct.ensures

use Rattle.std.proofs.lemmas.Result.{on_ok_weaker}
use Rattle.type_sizes.proofs.Spelled.{more_text, tuple_text, name_of_struct, struct_with}
use Rattle.type_sizes.proofs.spelling.+put_type.Goals as goal

pub returns-in_ok-put_comma-in-More : goal.returns-in_ok-put_comma-in-More
returns-in_ok-put_comma-in-More t c = on_ok_weaker c.put_type-in-More.result (λ s. more_text c.args.types.now c.args.structs.now c.args.generics.now c.args.number c.in-More.first c.in-More.others c.args.out.now c.put_type.new.out c.put_comma.new.out c.put_type-in-More.new.out c.in-More.ensures.stands c.in_ok-put_type-in-More.ensures c.in_ok-put_comma-in-More.ensures s) c.put_type-in-More.ensures

pub returns-in_ok-put_type-in-Tuple : goal.returns-in_ok-put_type-in-Tuple
returns-in_ok-put_type-in-Tuple t c = on_ok_weaker c.put-in-Tuple-2.result (λ s. tuple_text c.args.types.now c.args.structs.now c.args.generics.now c.args.number c.in-Tuple.parts c.args.out.now c.put-in-Tuple.new.self c.put_type-in-Tuple.new.out c.put-in-Tuple-2.new.self c.in-Tuple.ensures.stands c.in_ok-put-in-Tuple.ensures c.in_ok-put_type-in-Tuple.ensures s) c.put-in-Tuple-2.ensures

pub returns-in-End-row : goal.returns-in-End-row
returns-in-End-row t c = name_of_struct c.args.types.now c.args.structs.now c.args.generics.now c.args.number c.in-Struct.name c.in-Struct.list c.args.out.now c.put_struct.new.out c.in-Struct.ensures.stands c.in-End-row.ensures.stands c.in_ok-put_struct-in-Struct.ensures

pub returns-in_ok-put_type-in_default : goal.returns-in_ok-put_type-in_default
returns-in_ok-put_type-in_default t c =
    on_ok_weaker c.put-in_default-2.result (λ s. struct_with c.args.types.now c.args.structs.now c.args.generics.now c.args.number c.in-Struct.name c.in-Struct.list c.row-in-Struct.result c.args.out.now c.put_struct.new.out c.put-in_default.new.self c.put_type-in_default.new.out c.put-in_default-2.new.self c.in-Struct.ensures.stands c.row-in-Struct.ensures.stands c.in_default.not-End c.in_ok-put_struct-in-Struct.ensures c.in_ok-put-in_default.ensures c.in_ok-put_type-in_default.ensures s) c.put-in_default-2.ensures

use Rattle.std.proofs.Common.{rules}
use Rattle.std.proofs.lemmas.Result.{IfOk-weaker}
use Rattle.type_table.proofs.Replaced.{more_replaced, tuple_replaced, struct_replaced}
use Rattle.type_table.proofs.types.Types.+replacing.Goals as goal

pub replaced-returns-in_ok-others-in-More-clause-number : goal.replaced-returns-in_ok-others-in-More-clause-number
replaced-returns-in_ok-others-in-More-clause-number t c =
    IfOk-weaker c.intern.result _ _ (λ n s. more_replaced c.args.self.now c.substitute.new.self c.substitute-in-More.new.self c.intern.new.self c.args.ty c.args.arguments c.in-More.first c.in-More.others c.in_ok-first-in-More.first c.in_ok-others-in-More.others n c.requires.arguments (search rules) c.in-More.ensures.stands c.substitute.ensures.kept c.in_ok-first-in-More.ensures.number c.substitute-in-More.ensures.kept c.in_ok-others-in-More.ensures.number s) c.intern.ensures.number

pub replaced-returns-in_ok-parts-in-Tuple-clause-number : goal.replaced-returns-in_ok-parts-in-Tuple-clause-number
replaced-returns-in_ok-parts-in-Tuple-clause-number t c =
    IfOk-weaker c.intern-in-Tuple.result _ _ (λ n s. tuple_replaced c.args.self.now c.substitute-in-Tuple.new.self c.intern-in-Tuple.new.self c.args.ty c.args.arguments c.in-Tuple.parts c.in_ok-parts-in-Tuple.parts n c.in-Tuple.ensures.stands c.in_ok-parts-in-Tuple.ensures.number s) c.intern-in-Tuple.ensures.number

pub replaced-returns-in_ok-list-in-Struct-clause-number : goal.replaced-returns-in_ok-list-in-Struct-clause-number
replaced-returns-in_ok-list-in-Struct-clause-number t c =
    IfOk-weaker c.intern-in-Struct.result _ _ (λ n s. struct_replaced c.args.self.now c.substitute-in-Struct.new.self c.intern-in-Struct.new.self c.args.ty c.args.arguments c.in-Struct.number c.in-Struct.list c.in_ok-list-in-Struct.list n c.in-Struct.ensures.stands c.in_ok-list-in-Struct.ensures.number s) c.intern-in-Struct.ensures.number

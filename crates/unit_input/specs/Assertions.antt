-- What a static assertion may be made of: numbers, truths and operators, by the types of the operators.
use Rattle.std.specs.Prelude.{Bool, true, false, ◌&&◌, ◌||◌}
use Rattle.unit_input.specs.declared.expr.UnaryOp.TheVariants as unary_op
use Rattle.unit_input.specs.declared.expr.BinaryOp.{BinaryOp}
use Rattle.unit_input.specs.declared.expr.BinaryOp.TheVariants as binary_op
use Rattle.unit_input.specs.Exprs.{PlainExpr, int, truth, unary, binary}

-- it takes two numbers and gives a number
abbrev pub is_arithmetic : BinaryOp → Bool
is_arithmetic binary_op.Add = true
is_arithmetic binary_op.Sub = true
is_arithmetic binary_op.Mul = true
is_arithmetic binary_op.Div = true
is_arithmetic binary_op.Rem = true
is_arithmetic op = false

-- a number
abbrev pub is_number : PlainExpr → Bool
is_number (int v) = true
is_number (unary unary_op.Neg e) = is_number e
is_number (binary op a b) = is_arithmetic op && is_number a && is_number b
is_number e = false

-- the operands of an operator that gives a truth, told whether each is a number and whether each is a truth: `&&` and `||` take
-- truths, `==` and `!=` two numbers or two truths, and the other comparisons take numbers
abbrev pub is_comparison : BinaryOp → Bool → Bool → Bool
is_comparison binary_op.And numbers truths = truths
is_comparison binary_op.Or numbers truths = truths
is_comparison binary_op.Equal numbers truths = numbers || truths
is_comparison binary_op.NotEqual numbers truths = numbers || truths
is_comparison binary_op.Less numbers truths = numbers
is_comparison binary_op.AtMost numbers truths = numbers
is_comparison binary_op.Greater numbers truths = numbers
is_comparison binary_op.AtLeast numbers truths = numbers
is_comparison op numbers truths = false

-- a truth
abbrev pub is_truth : PlainExpr → Bool
is_truth (truth b) = true
is_truth (unary unary_op.Not e) = is_truth e
is_truth (binary op a b) = is_comparison op (is_number a && is_number b) (is_truth a && is_truth b)
is_truth e = false

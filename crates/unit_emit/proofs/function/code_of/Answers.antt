use Rattle.std.proofs.Common.{◌≡◌, ◌∙◌, ap, length, arith}
use Rattle.unit_ir.specs.StmtView.{stmts_view}
use Rattle.unit_emit.specs.Code.{stmts_code, function_code, bytes}
use Rattle.unit_emit.proofs.Codes.{whole_code}
use Rattle.unit_emit.proofs.function.code_of.Goals as goal

pub returns : goal.returns
returns c =
    let whole = whole_code _ _ _ (stmts_code (stmts_view c.args.body.now)) _ _ c.new-code.ensures.items c.in_ok-emit_stmts.ensures c.last_opcode.ensures c.in_ok-put.ensures in
    let long : c.len.result ≡ bytes (function_code (stmts_view c.args.body.now) c.args.results) = c.len.ensures ∙ c.put.new.code.ok.0 ∙ ap length whole in
    (whole, omega (arith, long, c.if-len-gt-MAX_CODE.false))

pub returns-then-len-gt-MAX_CODE : goal.returns-then-len-gt-MAX_CODE
returns-then-len-gt-MAX_CODE c =
    let whole = whole_code _ _ _ (stmts_code (stmts_view c.args.body.now)) _ _ c.new-code.ensures.items c.in_ok-emit_stmts.ensures c.last_opcode.ensures c.in_ok-put.ensures in
    let long : c.len.result ≡ bytes (function_code (stmts_view c.args.body.now) c.args.results) = c.len.ensures ∙ c.put.new.code.ok.0 ∙ ap length whole in
    omega (arith, long, c.if-len-gt-MAX_CODE.true)

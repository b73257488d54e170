use Rattle.std.proofs.Common.{[], ◌∙◌}
use Rattle.lar_syntax.proofs.Parsing.{read_whole, stopped}
use Rattle.lar_syntax.proofs.parser.parse.Goals as goal

pub returns-in_ok-name-in-Ok : goal.returns-in_ok-name-in-Ok
returns-in_ok-name-in-Ok c =
    let r = c.in-Ok.ensures in
    let P = c.program.new.self in
    (read_whole c.args.tokens.now P.rest.now P.room c.in-Ok.items r.reads.0 (r.reads.1 []) r.ended r.grouped, c.in_ok-name-in-Ok.ensures ∙ c.as_str.ensures.text)

pub returns-in_ok-d-in-Err-Syntax : goal.returns-in_ok-d-in-Err-Syntax
returns-in_ok-d-in-Err-Syntax c =
    let stops = rw c.in-Err-Syntax.field-0-is at c.in-Err-Syntax.ensures.reads in
    stopped c.args.file.now.name c.args.file.now.bytes c.args.tokens.now c.program.new.self.rest.now c.in_ok-d-in-Err-Syntax.d (stops []) c.in_ok-d-in-Err-Syntax.ensures

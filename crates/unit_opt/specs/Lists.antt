-- Lists of statements.
use Rattle.unit_ir.specs.Stmts.{give, PlainStmts, no_stmts, stmts}

-- one list after the other
abbrev pub joined : PlainStmts → PlainStmts → PlainStmts
joined no_stmts others = others
joined (stmts s ss) others = stmts s (joined ss others)

-- the first list up to its first Return, and the second after it where there is none
abbrev pub ahead : PlainStmts → PlainStmts → PlainStmts
ahead no_stmts others = others
ahead (stmts (give e) ss) others = stmts (give e) no_stmts
ahead (stmts s ss) others = stmts s (ahead ss others)

-- without what stands after the first Return
abbrev pub until_return : PlainStmts → PlainStmts
until_return ss = ahead ss no_stmts

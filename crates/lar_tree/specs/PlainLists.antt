-- The members of the lists of plain trees, as ordinary lists.
use Rattle.std.specs.Prelude.{List, [], ◌∷◌, map}
use Rattle.lar_tree.specs.declared.commas.Commas.{Commas}
use Rattle.lar_tree.specs.declared.name.Name.{Name}
use Rattle.lar_tree.specs.declared.name.Path.{Path}
use Rattle.lar_tree.specs.Types.{PlainTy, MoreTypes, last_type, next_type, PlainArgs, angle_args, PlainArg, MoreArgs, last_arg, next_arg}
use Rattle.lar_tree.specs.Exprs.{PlainExpr, PlainParts, no_parts, parts, MoreParts, last_part, next_part, PlainInit, PlainInits, no_inits, inits, MoreInits, last_init, next_init}
use Rattle.lar_tree.specs.Stmts.{PlainStmt, PlainBlock, block, PlainStmts, no_stmts, stmts}
use Rattle.lar_tree.specs.Items.{PlainItem, PlainItems, no_items, items}

-- the members of a list with commas
abbrev pub values : {A : Type 0} → Commas A → List A
values c = c.first ∷ map (λ m. m.value) c.more

-- the names of a path
abbrev pub names_of : Path → List Name
names_of p = p.first ∷ map (λ s. s.name) p.more

-- the further types of a tuple
abbrev pub further_types : MoreTypes → List PlainTy
further_types last_type = []
further_types (next_type comma t others) = t ∷ further_types others

-- the generics in angle brackets
abbrev pub further_args : MoreArgs → List PlainArg
further_args last_arg = []
further_args (next_arg comma a others) = a ∷ further_args others

abbrev pub args_of : PlainArgs → List PlainArg
args_of (angle_args from first others to) = first ∷ further_args others

-- the parts of a bracket, or the arguments of a call
abbrev pub further_parts : MoreParts → List PlainExpr
further_parts last_part = []
further_parts (next_part comma e others) = e ∷ further_parts others

abbrev pub parts_in : PlainParts → List PlainExpr
parts_in no_parts = []
parts_in (parts first others) = first ∷ further_parts others

-- the fields of `new`, each with what it is set to
abbrev pub further_inits : MoreInits → List PlainInit
further_inits last_init = []
further_inits (next_init comma n colon e others) = (n, colon, e) ∷ further_inits others

abbrev pub inits_in : PlainInits → List PlainInit
inits_in no_inits = []
inits_in (inits n colon e others) = (n, colon, e) ∷ further_inits others

-- the statements of a block
abbrev pub stmts_in : PlainStmts → List PlainStmt
stmts_in no_stmts = []
stmts_in (stmts s ss) = s ∷ stmts_in ss

abbrev pub block_stmts : PlainBlock → List PlainStmt
block_stmts (block from ss to) = stmts_in ss

abbrev pub items_in : PlainItems → List PlainItem
items_in no_items = []
items_in (items i is) = i ∷ items_in is

-- Statements and programs keep their types where other labels are the same below n, and so while the table grows.
use Rattle.std.proofs.Common.{◌≡◌, ℕ, ◌<◌, ◌≤◌, List, [], ◌∷◌, length, map, refl, ap, ◌∙◌, arith}
use Rattle.type_table.specs.declared.row.Row.{Row}
use Rattle.type_table.specs.TypeOf.{TypeOf}
use Rattle.type_table.specs.Rows.{type_at, Keeps}
use Rattle.lar_typed.specs.Exprs.{PlainExpr, expr_map}
use Rattle.lar_typed.specs.Stmts.{StepOf, StmtOf, StmtsOf, PlainStmt, PlainStmts, let_local, assign, fork, loop, return_nothing, return_value, print, assert, eval, no_stmts, stmts, step_map, stmt_map, stmts_map}
use Rattle.lar_typed.specs.Trees.{StructOf, FunctionOf, TreeOf, PlainStruct, PlainFunction, PlainTree, struct_map, function_map, tree_map}
use Rattle.lar_typed.specs.Within.{StepsWithin, StmtWithin, StmtsWithin, AllBelow, FunctionWithin, FunctionsWithin, StructsWithin, TreeWithin}
use Rattle.lar_typed.specs.Standing.{StepsStand, StmtStands, StmtsStand, FunctionStands, TreeStands}
use Rattle.lar_typed.proofs.ExprsKept.{SameBelow, expr_same, expr_wider, below_wider}

abbrev PlainStep : Type 0
PlainStep = StepOf TypeOf

steps_same : (f g : ℕ → TypeOf) (n : ℕ) → SameBelow n f g → (ps : List (StepOf ℕ)) → StepsWithin n ps → map (step_map f) ps ≡ map (step_map g) ps
steps_same f g n h [] w = refl
steps_same f g n h (p ∷ ps) w =
    let first : step_map f p ≡ step_map g p = ap (λ (x : TypeOf). let s : PlainStep = record { part = p.part; of = x } in s) (h p.of w.0) in
    ap (λ (x : PlainStep). x ∷ map (step_map f) ps) first ∙ ap (λ (xs : List PlainStep). step_map g p ∷ xs) (steps_same f g n h ps w.1)

steps_wider : (n m : ℕ) → n ≤ m → (ps : List (StepOf ℕ)) → StepsWithin n ps → StepsWithin m ps
steps_wider n m l [] w = tt
steps_wider n m l (p ∷ ps) w = (below_wider p.of n m l w.0, steps_wider n m l ps w.1)

mutual
  stmt_same : (f g : ℕ → TypeOf) (n : ℕ) → SameBelow n f g → (s : StmtOf ℕ) → StmtWithin n s → stmt_map f s ≡ stmt_map g s
  stmt_same f g n h (let_local k e) w = ap (let_local k) (expr_same f g n h e w)
  stmt_same f g n h (assign k ps e) w = ap (λ (x : List PlainStep). assign k x (expr_map f e)) (steps_same f g n h ps w.0) ∙ ap (assign k (map (step_map g) ps)) (expr_same f g n h e w.1)
  stmt_same f g n h (fork c a b) w =
      ap (λ (x : PlainExpr). fork x (stmts_map f a) (stmts_map f b)) (expr_same f g n h c w.0) ∙ ap (λ (x : PlainStmts). fork (expr_map g c) x (stmts_map f b)) (stmts_same f g n h a w.1)
      ∙ ap (fork (expr_map g c) (stmts_map g a)) (stmts_same f g n h b w.2)
  stmt_same f g n h (loop c a) w = ap (λ (x : PlainExpr). loop x (stmts_map f a)) (expr_same f g n h c w.0) ∙ ap (loop (expr_map g c)) (stmts_same f g n h a w.1)
  stmt_same f g n h return_nothing w = refl
  stmt_same f g n h (return_value e) w = ap return_value (expr_same f g n h e w)
  stmt_same f g n h (print e) w = ap print (expr_same f g n h e w)
  stmt_same f g n h (assert e at) w = ap (λ (x : PlainExpr). assert x at) (expr_same f g n h e w)
  stmt_same f g n h (eval e) w = ap eval (expr_same f g n h e w)

  stmts_same : (f g : ℕ → TypeOf) (n : ℕ) → SameBelow n f g → (ss : StmtsOf ℕ) → StmtsWithin n ss → stmts_map f ss ≡ stmts_map g ss
  stmts_same f g n h no_stmts w = refl
  stmts_same f g n h (stmts s ss) w = ap (λ (x : PlainStmt). stmts x (stmts_map f ss)) (stmt_same f g n h s w.0) ∙ ap (stmts (stmt_map g s)) (stmts_same f g n h ss w.1)

mutual
  stmt_wider : (n m : ℕ) → n ≤ m → (s : StmtOf ℕ) → StmtWithin n s → StmtWithin m s
  stmt_wider n m l (let_local k e) w = expr_wider n m l e w
  stmt_wider n m l (assign k ps e) w = (steps_wider n m l ps w.0, expr_wider n m l e w.1)
  stmt_wider n m l (fork c a b) w = (expr_wider n m l c w.0, stmts_wider n m l a w.1, stmts_wider n m l b w.2)
  stmt_wider n m l (loop c a) w = (expr_wider n m l c w.0, stmts_wider n m l a w.1)
  stmt_wider n m l return_nothing w = tt
  stmt_wider n m l (return_value e) w = expr_wider n m l e w
  stmt_wider n m l (print e) w = expr_wider n m l e w
  stmt_wider n m l (assert e at) w = expr_wider n m l e w
  stmt_wider n m l (eval e) w = expr_wider n m l e w

  stmts_wider : (n m : ℕ) → n ≤ m → (ss : StmtsOf ℕ) → StmtsWithin n ss → StmtsWithin m ss
  stmts_wider n m l no_stmts w = tt
  stmts_wider n m l (stmts s ss) w = (stmt_wider n m l s w.0, stmts_wider n m l ss w.1)

locals_same : (f g : ℕ → TypeOf) (n : ℕ) → SameBelow n f g → (ts : List ℕ) → AllBelow n ts → map f ts ≡ map g ts
locals_same f g n h [] w = refl
locals_same f g n h (t ∷ ts) w = ap (λ (x : TypeOf). x ∷ map f ts) (h t w.0) ∙ ap (λ (xs : List TypeOf). g t ∷ xs) (locals_same f g n h ts w.1)

locals_wider : (n m : ℕ) → n ≤ m → (ts : List ℕ) → AllBelow n ts → AllBelow m ts
locals_wider n m l [] w = tt
locals_wider n m l (t ∷ ts) w = (below_wider t n m l w.0, locals_wider n m l ts w.1)

abbrev function_with : FunctionOf ℕ → List TypeOf → TypeOf → PlainStmts → PlainFunction
function_with x locals outcome body = record { module_path = x.module_path; name = x.name; generics = x.generics; params = x.params; locals = locals; outcome = outcome; body = body; inlined = x.inlined; exported = x.exported; at = x.at }

function_same : (f g : ℕ → TypeOf) (n : ℕ) → SameBelow n f g → (x : FunctionOf ℕ) → FunctionWithin n x → function_map f x ≡ function_map g x
function_same f g n h x w =
    ap (λ (ts : List TypeOf). function_with x ts (f x.outcome) (stmts_map f x.body)) (locals_same f g n h x.locals w.0)
    ∙ ap (λ (t : TypeOf). function_with x (map g x.locals) t (stmts_map f x.body)) (h x.outcome w.1)
    ∙ ap (function_with x (map g x.locals) (g x.outcome)) (stmts_same f g n h x.body w.2)

functions_same : (f g : ℕ → TypeOf) (n : ℕ) → SameBelow n f g → (xs : List (FunctionOf ℕ)) → FunctionsWithin n xs → map (function_map f) xs ≡ map (function_map g) xs
functions_same f g n h [] w = refl
functions_same f g n h (x ∷ xs) w = ap (λ (y : PlainFunction). y ∷ map (function_map f) xs) (function_same f g n h x w.0) ∙ ap (λ (ys : List PlainFunction). function_map g x ∷ ys) (functions_same f g n h xs w.1)

functions_wider : (n m : ℕ) → n ≤ m → (xs : List (FunctionOf ℕ)) → FunctionsWithin n xs → FunctionsWithin m xs
functions_wider n m l [] w = tt
functions_wider n m l (x ∷ xs) w = ((locals_wider n m l x.locals w.0.0, below_wider x.outcome n m l w.0.1, stmts_wider n m l x.body w.0.2), functions_wider n m l xs w.1)

structs_same : (f g : ℕ → TypeOf) (n : ℕ) → SameBelow n f g → (xs : List (StructOf ℕ)) → StructsWithin n xs → map (struct_map f) xs ≡ map (struct_map g) xs
structs_same f g n h [] w = refl
structs_same f g n h (x ∷ xs) w =
    let first : struct_map f x ≡ struct_map g x = ap (λ (t : TypeOf). let s : PlainStruct = record { module_path = x.module_path; name = x.name; generics = x.generics; fields = t; depth = x.depth } in s) (h x.fields w.0) in
    ap (λ (y : PlainStruct). y ∷ map (struct_map f) xs) first ∙ ap (λ (ys : List PlainStruct). struct_map g x ∷ ys) (structs_same f g n h xs w.1)

structs_wider : (n m : ℕ) → n ≤ m → (xs : List (StructOf ℕ)) → StructsWithin n xs → StructsWithin m xs
structs_wider n m l [] w = tt
structs_wider n m l (x ∷ xs) w = (below_wider x.fields n m l w.0, structs_wider n m l xs w.1)

abbrev tree_with : TreeOf ℕ → List PlainStruct → List PlainFunction → PlainTree
tree_with t structs functions = record { structs = structs; consts = t.consts; functions = functions }

pub tree_same : (f g : ℕ → TypeOf) (n : ℕ) → SameBelow n f g → (t : TreeOf ℕ) → TreeWithin n t → tree_map f t ≡ tree_map g t
tree_same f g n h t w =
    ap (λ (ss : List PlainStruct). tree_with t ss (map (function_map f) t.functions)) (structs_same f g n h t.structs w.0)
    ∙ ap (tree_with t (map (struct_map g) t.structs)) (functions_same f g n h t.functions w.1)

pub tree_wider : (n m : ℕ) → n ≤ m → (t : TreeOf ℕ) → TreeWithin n t → TreeWithin m t
tree_wider n m l t w = (structs_wider n m l t.structs w.0, functions_wider n m l t.functions w.1)

pub steps_kept : (old new : List Row) (ss : List (StepOf ℕ)) (ps : List (StepOf TypeOf)) → Keeps old new → StepsStand old ss ps → StepsStand new ss ps
steps_kept old new ss ps k s = record { within = steps_wider (length old) (length new) k.longer ss s.within; is = steps_same (type_at new) (type_at old) (length old) k.same ss s.within ∙ s.is }

pub stmt_kept : (old new : List Row) (x : StmtOf ℕ) (p : PlainStmt) → Keeps old new → StmtStands old x p → StmtStands new x p
stmt_kept old new x p k s = record { within = stmt_wider (length old) (length new) k.longer x s.within; is = stmt_same (type_at new) (type_at old) (length old) k.same x s.within ∙ s.is }

pub stmts_kept : (old new : List Row) (xs : StmtsOf ℕ) (ps : PlainStmts) → Keeps old new → StmtsStand old xs ps → StmtsStand new xs ps
stmts_kept old new xs ps k s = record { within = stmts_wider (length old) (length new) k.longer xs s.within; is = stmts_same (type_at new) (type_at old) (length old) k.same xs s.within ∙ s.is }

pub function_kept : (old new : List Row) (x : FunctionOf ℕ) (p : PlainFunction) → Keeps old new → FunctionStands old x p → FunctionStands new x p
function_kept old new x p k s =
    let n : ℕ = length old in
    let m : ℕ = length new in
    record {
      within = (locals_wider n m k.longer x.locals s.within.0, below_wider x.outcome n m k.longer s.within.1, stmts_wider n m k.longer x.body s.within.2);
      is = function_same (type_at new) (type_at old) n k.same x s.within ∙ s.is;
    }

pub tree_kept : (old new : List Row) (t : TreeOf ℕ) (p : PlainTree) → Keeps old new → TreeStands old t p → TreeStands new t p
tree_kept old new t p k s = record { within = tree_wider (length old) (length new) k.longer t s.within; is = tree_same (type_at new) (type_at old) (length old) k.same t s.within ∙ s.is }

-- What functions that are made of numbers of rows stand for.
use Rattle.std.proofs.Common.{◌≡◌, ℕ, ◌<◌, List, [], ◌∷◌, length, map, Option, Some, None, refl, ap, ◌∙◌, subst}
use Rattle.type_table.specs.declared.row.Row.{Row}
use Rattle.type_table.specs.TypeOf.{TypeOf}
use Rattle.type_table.specs.Rows.{type_at}
use Rattle.lar_typed.specs.Stmts.{StmtsOf, PlainStmts, stmts_map}
use Rattle.lar_typed.specs.Trees.{FunctionOf, PlainFunction}
use Rattle.lar_typed.specs.Within.{AllBelow}
use Rattle.lar_typed.specs.Standing.{FunctionStands}
use Rattle.lar_rules.specs.Declared.{Declared, Function}
use Rattle.lar_rules.specs.Functions.{body_done}
use Rattle.lar_rules.specs.Printed.{joined}
use Rattle.lar_rules.specs.Signatures.{outcome, function_sorts}
use Rattle.lar_rules.specs.Checked.{then_known, all_known, typed_function_of, function_if, typed_function}
use Rattle.lar_written.specs.Standing.{number_type, Inside, AllInside, StandsIf, AllStand}
use Rattle.lar_assembled.specs.Functions.{number_before, all_there, function_with, BodyStandsIf, FunctionStandsIf}

-- both are none, or the numbers stand for the types
abbrev ListStandsIf : List Row → Option (List ℕ) → Option (List TypeOf) → Type 0
ListStandsIf rows None None = Unit {0}
ListStandsIf rows (Some ns) (Some ts) = AllBelow (length rows) ns × (map (type_at rows) ns ≡ ts)
ListStandsIf rows None (Some ts) = ⊥
ListStandsIf rows (Some ns) None = ⊥

list_before : (rows : List Row) (n : ℕ) (ns : Option (List ℕ)) (ts : Option (List TypeOf)) → n < length rows → ListStandsIf rows ns ts
    → ListStandsIf rows (number_before (Some n) ns) (then_known (Some (type_at rows n)) ts)
list_before rows n None None below h = tt
list_before rows n (Some ns) (Some ts) below h = ((below, h.0), ap (λ (us : List TypeOf). type_at rows n ∷ us) h.1)
list_before rows n None (Some ts) below h = absurd h
list_before rows n (Some ns) None below h = absurd h

list_stands : (rows : List Row) (ns : List (Option ℕ)) → AllInside rows ns → ListStandsIf rows (all_there ns) (all_known (map (number_type rows) ns))
list_stands rows [] h = (tt, refl)
list_stands rows (None ∷ ns) h = tt
list_stands rows (Some n ∷ ns) h = list_before rows n (all_there ns) (all_known (map (number_type rows) ns)) h.0 (list_stands rows ns h.1)

all_stand_if : (rows : List Row) (ns : List (Option ℕ)) (ts : List (Option TypeOf)) → AllStand rows ns ts → ListStandsIf rows (all_there ns) (all_known ts)
all_stand_if rows ns ts st = subst (λ (us : List (Option TypeOf)). ListStandsIf rows (all_there ns) (all_known us)) st.are (list_stands rows ns st.within)

-- both are none, or the number stands for the type
abbrev OneStandsIf : List Row → Option ℕ → Option TypeOf → Type 0
OneStandsIf rows None None = Unit {0}
OneStandsIf rows (Some n) (Some t) = (n < length rows) × (type_at rows n ≡ t)
OneStandsIf rows None (Some t) = ⊥
OneStandsIf rows (Some n) None = ⊥

one_stands : (rows : List Row) (n : Option ℕ) → Inside rows n → OneStandsIf rows n (number_type rows n)
one_stands rows None h = tt
one_stands rows (Some n) h = (h, refl)

one_stands_if : (rows : List Row) (n : Option ℕ) (t : Option TypeOf) → StandsIf rows n t → OneStandsIf rows n t
one_stands_if rows n t st = subst (λ (u : Option TypeOf). OneStandsIf rows n u) st.is (one_stands rows n st.within)

joined_parts : (rows : List Row) (all : List Declared) (x : Function) (ls : Option (List ℕ)) (ts : Option (List TypeOf)) (r : Option ℕ) (o : Option TypeOf) (b : Option (StmtsOf ℕ)) (p : Option PlainStmts)
    → ListStandsIf rows ls ts → OneStandsIf rows r o → BodyStandsIf rows b p
    → FunctionStandsIf rows (function_with (joined x.from.modules) x.it (function_sorts x) ls r b) (function_if all x ts o p)
joined_parts rows all x None None r o b p h i j = tt
joined_parts rows all x None (Some ts) r o b p h i j = absurd h
joined_parts rows all x (Some ls) None r o b p h i j = absurd h
joined_parts rows all x (Some ls) (Some ts) None None b p h i j = tt
joined_parts rows all x (Some ls) (Some ts) None (Some t) b p h i j = absurd i
joined_parts rows all x (Some ls) (Some ts) (Some n) None b p h i j = absurd i
joined_parts rows all x (Some ls) (Some ts) (Some n) (Some t) None None h i j = tt
joined_parts rows all x (Some ls) (Some ts) (Some n) (Some t) None (Some p) h i j = absurd j
joined_parts rows all x (Some ls) (Some ts) (Some n) (Some t) (Some b) None h i j = absurd j
joined_parts rows all x (Some ls) (Some ts) (Some n) (Some t) (Some b) (Some p) h i j = record {
  within = (h.0, i.0, j.within);
  is = ap (λ (us : List TypeOf). typed_function_of all x us (type_at rows n) (stmts_map (type_at rows) b)) h.1
      ∙ ap (λ (u : TypeOf). typed_function_of all x ts u (stmts_map (type_at rows) b)) i.1
      ∙ ap (λ (q : PlainStmts). typed_function_of all x ts t q) j.is;
}

pub function_stands : (rows : List Row) (all : List Declared) (x : Function) (locals : List (Option ℕ)) (result : Option ℕ) (body : Option (StmtsOf ℕ))
    → AllStand rows locals (body_done all x).after.types → StandsIf rows result (outcome all x) → BodyStandsIf rows body (body_done all x).typed
    → FunctionStandsIf rows (function_with (joined x.from.modules) x.it (function_sorts x) (all_there locals) result body) (typed_function all x)
function_stands rows all x locals result body a b c =
    joined_parts rows all x (all_there locals) (all_known (body_done all x).after.types) result (outcome all x) body (body_done all x).typed
    (all_stand_if rows locals (body_done all x).after.types a) (one_stands_if rows result (outcome all x) b) c

pub function_kept : (old new : List Row) (f : Option (FunctionOf ℕ)) (p : Option PlainFunction) → ((g : FunctionOf ℕ) (q : PlainFunction) → FunctionStands old g q → FunctionStands new g q)
    → FunctionStandsIf old f p → FunctionStandsIf new f p
function_kept old new None None k h = tt
function_kept old new (Some f) (Some p) k h = k f p h
function_kept old new None (Some p) k h = absurd h
function_kept old new (Some f) None k h = absurd h

-- One function: where its body is written, and what it is with its types.
use Rattle.std.proofs.Common.{◌≡◌, ℕ, List, [], ◌∷◌, map, Option, Some, None, option_map, refl, sym, ap, ◌∙◌, subst}
use Rattle.std.specs.Prelude.{Result, Ok, Err, OnOk}
use Rattle.type_table.specs.declared.row.Row.{Row}
use Rattle.type_table.specs.Rows.{Keeps}
use Rattle.type_table.specs.declared.sort.Sort.{Sort}
use Rattle.lar_tree.specs.ItemView.{fn_view}
use Rattle.lar_typed.specs.declared.stmt.TypedStmt.{TypedStmt}
use Rattle.lar_typed.specs.declared.tree.TypedFunction.{TypedFunction}
use Rattle.lar_typed.specs.Stmts.{StmtsOf, PlainStmts}
use Rattle.lar_typed.specs.StmtView.{stmts_view}
use Rattle.lar_typed.specs.TreeView.{function_view}
use Rattle.lar_typed.specs.Trees.{FunctionOf}
use Rattle.type_table.specs.TypeOf.{TypeOf}
use Rattle.lar_rules.specs.Declared.{Declared, Function}
use Rattle.lar_rules.specs.Generics.{GenericName}
use Rattle.lar_rules.specs.Written as rules
use Rattle.lar_rules.specs.Signatures.{params, outcome, function_sorts}
use Rattle.lar_rules.specs.Functions.{body_done}
use Rattle.lar_rules.specs.Bodies.{Done}
use Rattle.lar_rules.specs.Printed.{joined}
use Rattle.lar_rules.specs.Checked.{typed_function}
use Rattle.lar_names.specs.declared.names.Names.{Names}
use Rattle.lar_names.specs.declared.items.FunctionItem.{FunctionItem}
use Rattle.lar_names.specs.Items.{function_item}
use Rattle.lar_names.specs.NamesView.{names_view, scope_lists, scope_view}
use Rattle.lar_names.specs.Numbered.{function_at}
use Rattle.lar_written.specs.declared.members.Member.{Member}
use Rattle.lar_written.specs.Members.{MembersStand}
use Rattle.lar_written.specs.Sites.{generics_view}
use Rattle.lar_written.specs.Standing.{number_type, Inside, AllInside, AllStand, StandsIf}
use Rattle.lar_signatures.specs.declared.function.FunctionSignature.{FunctionSignature}
use Rattle.lar_signatures.specs.Signatures.{FunctionStands}
use Rattle.lar_judge.specs.Known.{type_if, IfWithin}
use Rattle.lar_judge.specs.Wanted.{types_if, AllIfWithin}
use Rattle.lar_stmts.specs.Stmts.{stmts_if, StmtsIfWithin}
use Rattle.lar_bodies.specs.declared.function.TypedBody.{TypedBody}
use Rattle.lar_bodies.specs.Body.{IsFunction, BodyIs}
use Rattle.lar_written.proofs.Standings.{stands_kept}
use Rattle.lar_assembled.specs.Functions.{all_there, function_with, BodyStandsIf, FunctionStandsIf}

-- what holds at each number holds of all at once
pub each_number : {X E : Type 0} (r : Result X E) (P : ℕ → Type 0) → ((n : ℕ) → OnOk r (P n)) → OnOk r ((n : ℕ) → P n)
each_number (Ok x) P h = h
each_number (Err e) P h = tt

-- the site of a function's body
abbrev body_site : Names → FunctionItem → List GenericName → rules.Site
body_site names i gs = record { all = names_view names; file = i.file; modules = scope_view names i.scope; generics = gs }

pub is_function : (rows : List Row) (names : Names) (i : FunctionItem) (f : FunctionSignature) (ms : List Member) (n : ℕ) → ms ≡ f.params.items
    → FunctionStands rows (names_view names) f (function_at n (function_item (scope_lists names) i))
    → IsFunction rows (body_site names i (generics_view f.generics)) ms f.outcome (i.it).now (names_view names) (function_at n (function_item (scope_lists names) i))
is_function rows names i f ms n e s = record {
  site_is = ap (body_site names i) s.generics_are;
  params_stand = subst (λ (ns : List Member). MembersStand rows ns (params (names_view names) (function_at n (function_item (scope_lists names) i)))) (sym e) s.params_stand;
  outcome_stands = s.outcome_stands;
  it_is = refl;
}

-- WITH ITS TYPES

type_same : (rows : List Row) (n : Option ℕ) → number_type rows n ≡ type_if rows n
type_same rows None = refl
type_same rows (Some n) = refl

types_same : (rows : List Row) (ns : List (Option ℕ)) → map (number_type rows) ns ≡ types_if rows ns
types_same rows [] = refl
types_same rows (n ∷ ns) = ap (λ (t : Option TypeOf). t ∷ map (number_type rows) ns) (type_same rows n) ∙ ap (λ (ts : List (Option TypeOf)). type_if rows n ∷ ts) (types_same rows ns)

one_inside : (rows : List Row) (n : Option ℕ) → IfWithin rows n → Inside rows n
one_inside rows None h = tt
one_inside rows (Some n) h = h

all_inside : (rows : List Row) (ns : List (Option ℕ)) → AllIfWithin rows ns → AllInside rows ns
all_inside rows [] h = tt
all_inside rows (n ∷ ns) h = (one_inside rows n h.0, all_inside rows ns h.1)

locals_stand : (rows : List Row) (b : TypedBody) (d : Done PlainStmts) → BodyIs rows b d → AllStand rows b.locals.items d.after.types
locals_stand rows b d h = record { within = all_inside rows b.locals.items h.locals_within; are = types_same rows b.locals.items ∙ h.locals_are }

stmts_stand : (rows : List Row) (o : Option (List TypedStmt)) → StmtsIfWithin rows o → BodyStandsIf rows (option_map stmts_view o) (stmts_if rows o)
stmts_stand rows None h = tt
stmts_stand rows (Some ss) h = record { within = h; is = refl }

body_stands : (rows : List Row) (b : TypedBody) (d : Done PlainStmts) → BodyIs rows b d → BodyStandsIf rows (option_map stmts_view b.stmts) d.typed
body_stands rows b d h = subst (λ (p : Option PlainStmts). BodyStandsIf rows (option_map stmts_view b.stmts) p) (h.typed).is (stmts_stand rows b.stmts (h.typed).within)

abbrev Made : List Row → Type 0
Made rows = (all : List Declared) (x : Function) (locals : List (Option ℕ)) (result : Option ℕ) (body : Option (StmtsOf ℕ))
    → AllStand rows locals (body_done all x).after.types → StandsIf rows result (outcome all x) → BodyStandsIf rows body (body_done all x).typed
    → FunctionStandsIf rows (function_with (joined x.from.modules) x.it (function_sorts x) (all_there locals) result body) (typed_function all x)

-- a function that is made of what is known of its body stands for that of the rules
pub function_known : (old new : List Row) (names : Names) (i : FunctionItem) (f : FunctionSignature) (b : TypedBody) (made : Option TypedFunction) (sorts : List Sort) (locals : List (Option ℕ)) (n : ℕ)
    → Made new → Keeps old new → FunctionStands old (names_view names) f (function_at n (function_item (scope_lists names) i))
    → BodyIs new b (body_done (names_view names) (function_at n (function_item (scope_lists names) i))) → sorts ≡ f.sorts.items → locals ≡ b.locals.items
    → option_map function_view made ≡ function_with (joined (scope_view names i.scope)) (fn_view (i.it).now) sorts (all_there locals) f.outcome (option_map stmts_view b.stmts)
    → FunctionStandsIf new (option_map function_view made) (typed_function (names_view names) (function_at n (function_item (scope_lists names) i)))
function_known old new names i f b made sorts locals n law k s is same_sorts same_locals e =
    let all = names_view names in
    let x : Function = function_at n (function_item (scope_lists names) i) in
    let stands = law all x b.locals.items f.outcome (option_map stmts_view b.stmts) (locals_stand new b (body_done all x) is) (stands_kept old new f.outcome (outcome all x) k s.outcome_stands) (body_stands new b (body_done all x) is) in
    subst (λ (g : Option (FunctionOf ℕ)). FunctionStandsIf new g (typed_function all x))
    (sym (e ∙ ap (λ (ss : List Sort). function_with (joined x.from.modules) x.it ss (all_there locals) f.outcome (option_map stmts_view b.stmts)) (same_sorts ∙ s.sorts_are)
    ∙ ap (λ (ls : List (Option ℕ)). function_with (joined x.from.modules) x.it (function_sorts x) (all_there ls) f.outcome (option_map stmts_view b.stmts)) same_locals)) stands

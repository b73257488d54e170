-- The body of a function: what its parts give is what the rules say.
use Rattle.std.proofs.Common.{◌≡◌, ℕ, List, [], ◌∷◌, ◌++◌, map, ap, ◌∙◌, subst, Bool, Option}
use Rattle.std.specs.Prelude.{◌||◌, if◌then◌else◌}
use Rattle.lar_source.specs.declared.file.Span.{Span}
use Rattle.lar_source.specs.declared.code.Code.TheVariants.{MayEndWithoutValue}
use Rattle.type_table.specs.declared.row.Row.{Row}
use Rattle.type_table.specs.Rows.{Keeps}
use Rattle.lar_tree.specs.declared.item.Fn.{Fn}
use Rattle.lar_tree.specs.Stmts.{PlainBlock}
use Rattle.lar_tree.specs.StmtView.{block_view}
use Rattle.lar_typed.specs.declared.stmt.TypedStmt.{TypedStmt}
use Rattle.lar_typed.specs.Stmts.{PlainStmts}
use Rattle.lar_rules.specs.Fault.{Fault, fault, least}
use Rattle.lar_rules.specs.Declared.{Declared, Function}
use Rattle.lar_rules.specs.Written.{Site}
use Rattle.lar_rules.specs.Signatures.{outcome}
use Rattle.lar_rules.specs.Bodies.{Body, State, Done, block_done, block_returns}
use Rattle.lar_rules.specs.Functions.{is_unit, block_close, body_of, entry_state, body_done, ending_faults}
use Rattle.lar_judge.specs.Known.{type_if, IfWithin}
use Rattle.lar_judge.proofs.Kept.{type_kept}
use Rattle.lar_judge.proofs.Operands.{told_two}
use Rattle.lar_written.specs.declared.members.Member.{Member}
use Rattle.lar_written.specs.Members.{member_view}
use Rattle.lar_stmts.specs.declared.state.State.{State as Known}
use Rattle.lar_stmts.specs.States.{body_in, StateIs}
use Rattle.lar_stmts.specs.Stmts.{StmtsIs}
use Rattle.lar_bodies.specs.declared.function.TypedBody.{TypedBody}
use Rattle.lar_bodies.specs.Body.{IsFunction, BodyIs}
use Rattle.lar_bodies.proofs.Entries.{entry_of, same_type_if}
use Rattle.lar_bodies.proofs.Kept.{stmts_is_kept, state_is_kept}

same_body : (rows : List Row) (site : Site) (ps : List Member) (gives : Option ℕ) (it : Fn) (all : List Declared) (x : Function) → IsFunction rows site ps gives it all x → body_in rows site gives ≡ body_of all x
same_body rows site ps gives it all x f =
    ap (λ s. record { site = s; outcome = type_if rows gives }) f.site_is ∙ ap (λ t. record { site = (body_of all x).site; outcome = t }) (same_type_if rows gives ∙ f.outcome_stands.is)

pub body_is : (rows : List Row) (site : Site) (ps : List Member) (gives : Option ℕ) (it : Fn) (all : List Declared) (x : Function) (s : State) → IsFunction rows site ps gives it all x → s ≡ entry_of (map (member_view rows) ps)
    → block_done (body_in rows site gives) s (block_view it.body) ≡ body_done all x
body_is rows site ps gives it all x s f e =
    ap (λ (b : Body). block_done b s (block_view it.body)) (same_body rows site ps gives it all x f)
    ∙ ap (λ (y : State). block_done (body_of all x) y (block_view it.body)) (e ∙ ap entry_of f.params_stand.are)
    ∙ ap (λ (k : PlainBlock). block_done (body_of all x) (entry_state all x) k) (ap (λ y. y.body) f.it_is)

pub body_known : (mid new : List Row) (stmts : Option (List TypedStmt)) (s : Known) (b : TypedBody) (d whole : Done PlainStmts) → Keeps mid new → d ≡ whole → StmtsIs mid stmts d.typed → StateIs mid s d.after → b.stmts ≡ stmts → b.locals.items ≡ s.types.items → BodyIs new b whole
body_known mid new stmts s b d whole k e t a p q =
    let typed : StmtsIs new stmts whole.typed = stmts_is_kept mid new stmts whole.typed k (subst (λ (y : Done PlainStmts). StmtsIs mid stmts y.typed) e t) in
    let after : StateIs new s whole.after = state_is_kept mid new s whole.after k (subst (λ (y : Done PlainStmts). StateIs mid s y.after) e a) in
    record { typed = rw p typed; locals_within = rw q after.within.types; locals_are = rw q (ap (λ y. y.types) after.is) }

abbrev ending_of : Bool → Bool → ℕ → Span → List ℕ → List Fault
ending_of u r file at name = if (u || r) then [] else fault file at MayEndWithoutValue (name ∷ []) ∷ []

ending_is : (old mid : List Row) (site : Site) (ps : List Member) (gives : Option ℕ) (it : Fn) (all : List Declared) (x : Function) (file : ℕ) → Keeps old mid → IfWithin old gives → IsFunction old site ps gives it all x → file ≡ site.file
    → ending_of (is_unit (type_if mid gives)) (block_returns (block_view it.body)) file (block_close (block_view it.body)) it.name.text ≡ ending_faults all x
ending_is old mid site ps gives it all x file k w f e =
    let t : type_if mid gives ≡ outcome all x = type_kept old mid gives k w ∙ same_type_if old gives ∙ f.outcome_stands.is in
    let body : block_view it.body ≡ x.it.body = ap (λ y. y.body) f.it_is in
    let name : it.name.text ≡ x.it.name.text = ap (λ y. (y.name).text) f.it_is in
    let at : file ≡ x.from.file = e ∙ ap (λ s. s.file) f.site_is in
    ap (λ u. ending_of (is_unit u) (block_returns (block_view it.body)) file (block_close (block_view it.body)) it.name.text) t
    ∙ ap (λ b. ending_of (is_unit (outcome all x)) (block_returns b) file (block_close b) it.name.text) body
    ∙ ap (λ n. ending_of (is_unit (outcome all x)) (block_returns x.it.body) n (block_close x.it.body) it.name.text) at
    ∙ ap (ending_of (is_unit (outcome all x)) (block_returns x.it.body) x.from.file (block_close x.it.body)) name

pub body_told : (old mid : List Row) (site : Site) (ps : List Member) (gives : Option ℕ) (it : Fn) (all : List Declared) (x : Function) (file : ℕ) (d : Done PlainStmts) (best f1 now : Option Fault) → Keeps old mid → IfWithin old gives → IsFunction old site ps gives it all x → file ≡ site.file
    → d ≡ body_done all x → f1 ≡ least best d.faults → now ≡ least f1 (ending_of (is_unit (type_if mid gives)) (block_returns (block_view it.body)) file (block_close (block_view it.body)) it.name.text)
    → now ≡ least best ((body_done all x).faults ++ ending_faults all x)
body_told old mid site ps gives it all x file d best f1 now k w f e same m n =
    told_two best f1 now (body_done all x).faults (ending_faults all x) (m ∙ ap (λ (y : Done PlainStmts). least best y.faults) same) (n ∙ ap (least f1) (ending_is old mid site ps gives it all x file k w f e))

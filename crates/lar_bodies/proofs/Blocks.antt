-- Blocks and lists of statements.
use Rattle.std.proofs.Common.{◌≡◌, ℕ, ◌+◌, ◌<◌, ◌≤◌, List, [], ◌∷◌, ◌++◌, length, take, get_or, refl, sym, ap, ◌∙◌, subst, Option}
use Rattle.std.proofs.lemmas.List.{take_all}
use Rattle.type_table.specs.declared.row.Row.{Row}
use Rattle.type_table.specs.Rows.{Keeps}
use Rattle.lar_typed.specs.declared.stmt.TypedStmt.{TypedStmt}
use Rattle.lar_typed.specs.Stmts.{PlainStmts}
use Rattle.lar_tree.specs.declared.stmt.Stmt.{Stmt}
use Rattle.lar_tree.specs.StmtView.{stmt_view, stmts_view}
use Rattle.lar_rules.specs.Fault.{Fault, least}
use Rattle.lar_rules.specs.Bodies.{Body, State, Done, stmt_done, stmts_done, closed}
use Rattle.lar_judge.specs.declared.locals.Local.{Local}
use Rattle.lar_judge.specs.Locals.{locals_in, LocalsWithin}
use Rattle.lar_judge.specs.Wanted.{types_if, AllIfWithin}
use Rattle.lar_judge.proofs.Operands.{told_two}
use Rattle.lar_judge.proofs.Scopes.{locals_kept, locals_within_kept}
use Rattle.lar_stmts.specs.declared.state.State.{State as Known}
use Rattle.lar_stmts.specs.States.{state_in, StateWithin, StateIs, IsLonger}
use Rattle.lar_stmts.specs.Stmts.{stmt_if, stmts_if, StmtIfWithin, StmtsIfWithin, StmtIs, StmtsIs}
use Rattle.lar_bodies.specs.Walks.{then_last}
use Rattle.lar_bodies.proofs.Kept.{stmts_is_kept}
use Rattle.lar_bodies.proofs.Lists.{and_then, done_more}

taken : (xs ys : List Local) → take (length xs) (xs ++ ys) ≡ xs
taken [] [] = refl
taken [] (y ∷ ys) = refl
taken (x ∷ xs) ys = ap (λ zs. x ∷ zs) (taken xs ys)

-- the state behind a block
pub closed_is : (old new : List Row) (before inside after : Known) (d : State) (count : ℕ) → Keeps old new → StateWithin old before → StateIs new inside d → IsLonger before.locals.locals.items inside.locals.locals.items → count ≡ length before.locals.locals.items
    → after.locals.locals.items ≡ take count inside.locals.locals.items → after.types.items ≡ inside.types.items → StateIs new after (closed (state_in old before) d)
closed_is old new before inside after d count k w h l c e f =
    let ls : after.locals.locals.items ≡ before.locals.locals.items =
    e ∙ ap (λ (n : ℕ). take n inside.locals.locals.items) c ∙ ap (take (length before.locals.locals.items)) l.is ∙ taken before.locals.locals.items l.more in
    record {
      within = record {
        locals = subst (λ (xs : List Local). LocalsWithin new xs) (sym ls) (locals_within_kept old new before.locals.locals.items k w.locals);
        types = subst (λ (xs : List (Option ℕ)). AllIfWithin new xs) (sym f) h.within.types;
      };
      is = ap (λ xs. record { locals = xs; types = types_if new after.types.items }) (ap (locals_in new) ls ∙ locals_kept old new before.locals.locals.items k w.locals)
          ∙ ap (λ xs. record { locals = locals_in old before.locals.locals.items; types = xs }) (ap (types_if new) f ∙ ap (λ s. s.types) h.is);
    }

-- the first locals are still there
pub still_longer : (before inside after : Known) (count : ℕ) → IsLonger before.locals.locals.items inside.locals.locals.items → count ≡ length before.locals.locals.items → after.locals.locals.items ≡ take count inside.locals.locals.items
    → after.locals.locals.items ≡ before.locals.locals.items
still_longer before inside after count l c e = e ∙ ap (λ (n : ℕ). take n inside.locals.locals.items) c ∙ ap (take (length before.locals.locals.items)) l.is ∙ taken before.locals.locals.items l.more

-- one statement further
further : (b : Body) (s : State) (xs : List Stmt) (i : ℕ) (x : Stmt) → i < length xs → x ≡ get_or xs i x → Done PlainStmts
further b s xs i x h at = and_then (stmts_done b s (stmts_view (take i xs))) (stmt_done b (stmts_done b s (stmts_view (take i xs))).after (stmt_view x))

pub typed_further : (mid new : List Row) (b there : Body) (s here : State) (xs : List Stmt) (i : ℕ) (x : Stmt) (done after : Option (List TypedStmt)) (one : Option TypedStmt) → Keeps mid new → i < length xs → x ≡ get_or xs i x
    → there ≡ b → here ≡ (stmts_done b s (stmts_view (take i xs))).after → StmtsIs mid done (stmts_done b s (stmts_view (take i xs))).typed → StmtIs new one (stmt_done there here (stmt_view x)).typed
    → (StmtsIfWithin new done → StmtIfWithin new one → StmtsIfWithin new after) → stmts_if new after ≡ then_last (stmts_if new done) (stmt_if new one) → StmtsIs new after (stmts_done b s (stmts_view (take (i + 1) xs))).typed
typed_further mid new b there s here xs i x done after one k below at same state so_far h w e =
    let old : StmtsIs new done (stmts_done b s (stmts_view (take i xs))).typed = stmts_is_kept mid new done _ k so_far in
    let last : stmt_if new one ≡ (stmt_done b (stmts_done b s (stmts_view (take i xs))).after (stmt_view x)).typed =
    h.is ∙ ap (λ (y : Body). (stmt_done y here (stmt_view x)).typed) same ∙ ap (λ (y : State). (stmt_done b y (stmt_view x)).typed) state in
    record {
      within = w old.within h.within;
      is = e ∙ ap (λ t. then_last t (stmt_if new one)) old.is ∙ ap (then_last (stmts_done b s (stmts_view (take i xs))).typed) last ∙ sym (ap (λ d. d.typed) (done_more b s xs i x below at));
    }

pub after_further : (new : List Row) (b there : Body) (s here : State) (xs : List Stmt) (i : ℕ) (x : Stmt) (after : Known) → i < length xs → x ≡ get_or xs i x
    → there ≡ b → here ≡ (stmts_done b s (stmts_view (take i xs))).after → StateIs new after (stmt_done there here (stmt_view x)).after → StateIs new after (stmts_done b s (stmts_view (take (i + 1) xs))).after
after_further new b there s here xs i x after below at same state h = record {
  within = h.within;
  is = h.is ∙ ap (λ (y : Body). (stmt_done y here (stmt_view x)).after) same ∙ ap (λ (y : State). (stmt_done b y (stmt_view x)).after) state ∙ sym (ap (λ d. d.after) (done_more b s xs i x below at));
}

pub told_further : (b there : Body) (s here : State) (xs : List Stmt) (i : ℕ) (x : Stmt) (best mid now : Option Fault) → i < length xs → x ≡ get_or xs i x
    → there ≡ b → here ≡ (stmts_done b s (stmts_view (take i xs))).after → mid ≡ least best (stmts_done b s (stmts_view (take i xs))).faults → now ≡ least mid (stmt_done there here (stmt_view x)).faults
    → now ≡ least best (stmts_done b s (stmts_view (take (i + 1) xs))).faults
told_further b there s here xs i x best mid now below at same state m n =
    told_two best mid now _ _ m (n ∙ ap (λ (y : Body). least mid (stmt_done y here (stmt_view x)).faults) same ∙ ap (λ (y : State). least mid (stmt_done b y (stmt_view x)).faults) state)
    ∙ ap (least best) (sym (ap (λ d. d.faults) (done_more b s xs i x below at)))

-- all statements
pub all_done : (b : Body) (s : State) (xs : List Stmt) (i : ℕ) → length xs ≤ i → stmts_done b s (stmts_view (take i xs)) ≡ stmts_done b s (stmts_view xs)
all_done b s xs i past = ap (λ (ys : List Stmt). stmts_done b s (stmts_view ys)) (take_all i xs past)

pub all_typed : (rows : List Row) (b : Body) (s : State) (xs : List Stmt) (i : ℕ) (o : Option (List TypedStmt)) → length xs ≤ i → StmtsIs rows o (stmts_done b s (stmts_view (take i xs))).typed → StmtsIs rows o (stmts_done b s (stmts_view xs)).typed
all_typed rows b s xs i o past h = record { within = h.within; is = h.is ∙ ap (λ d. d.typed) (all_done b s xs i past) }

pub all_after : (rows : List Row) (b : Body) (s : State) (xs : List Stmt) (i : ℕ) (k : Known) → length xs ≤ i → StateIs rows k (stmts_done b s (stmts_view (take i xs))).after → StateIs rows k (stmts_done b s (stmts_view xs)).after
all_after rows b s xs i k past h = record { within = h.within; is = h.is ∙ ap (λ d. d.after) (all_done b s xs i past) }

pub all_told : (b : Body) (s : State) (xs : List Stmt) (i : ℕ) (best now : Option Fault) → length xs ≤ i → now ≡ least best (stmts_done b s (stmts_view (take i xs))).faults → now ≡ least best (stmts_done b s (stmts_view xs)).faults
all_told b s xs i best now past h = h ∙ ap (λ d. least best d.faults) (all_done b s xs i past)

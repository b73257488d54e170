-- What is known of a body in a table is known in a larger one.
use Rattle.std.proofs.Common.{◌≡◌, ℕ, List, [], ◌∷◌, ◌++◌, append_assoc, refl, sym, ap, ◌∙◌, Option, Some, None, Result, Ok, Err, OnOk, arith}
use Rattle.type_table.specs.declared.row.Row.{Row}
use Rattle.type_table.specs.Rows.{Keeps}
use Rattle.lar_typed.specs.declared.stmt.TypedStmt.{TypedStmt}
use Rattle.lar_typed.specs.Stmts.{PlainStmts, no_stmts}
use Rattle.lar_typed.specs.StmtView.{stmts_view}
use Rattle.lar_typed.specs.Standing.{StmtsStand}
use Rattle.lar_typed.proofs.StmtsKept.{stmts_kept}
use Rattle.lar_rules.specs.Written.{Site}
use Rattle.lar_rules.specs.Bodies as rules
use Rattle.lar_judge.specs.declared.locals.Local.{Local}
use Rattle.lar_judge.specs.Known.{IfWithin}
use Rattle.lar_judge.proofs.Kept.{type_kept}
use Rattle.lar_stmts.specs.declared.state.State.{State}
use Rattle.lar_stmts.specs.States.{body_in, state_in, StateWithin, StateIs, IsLonger}
use Rattle.lar_stmts.specs.Stmts.{StmtsIs}
use Rattle.lar_stmts.proofs.Declaring.{state_within_kept, state_kept}

pub ok_always : {T E P : Type 0} (r : Result T E) → P → OnOk r P
ok_always (Ok x) p = p
ok_always (Err e) p = tt

pub keeps_all : (rows : List Row) → Keeps rows rows
keeps_all rows = record { longer = omega arith; same = λ n h. refl }

-- no statements
pub none_is : (rows : List Row) (ss : List TypedStmt) → ss ≡ [] → StmtsIs rows (Some ss) (Some no_stmts)
none_is rows ss e = rw e (record { within = tt; is = refl })

pub body_kept : (old new : List Row) (site : Site) (outcome : Option ℕ) → Keeps old new → IfWithin old outcome → body_in new site outcome ≡ body_in old site outcome
body_kept old new site outcome k w = ap (λ t. record { site = site; outcome = t }) (type_kept old new outcome k w)

-- nothing is declared
pub unchanged : (old new : List Row) (s : State) (d : rules.State) → Keeps old new → StateWithin old s → d ≡ state_in old s → StateIs new s d
unchanged old new s d k w e = record { within = state_within_kept old new s k w; is = state_kept old new s k w ∙ sym e }

pub state_is_kept : (old new : List Row) (s : State) (d : rules.State) → Keeps old new → StateIs old s d → StateIs new s d
state_is_kept old new s d k h = record { within = state_within_kept old new s k h.within; is = state_kept old new s k h.within ∙ h.is }

stand_in : (old new : List Row) (ss : List TypedStmt) (p : Option PlainStmts) → Keeps old new → StmtsIs old (Some ss) p → StmtsIs new (Some ss) p
stand_in old new ss p k h =
    let st : StmtsStand new (stmts_view ss) _ = stmts_kept old new (stmts_view ss) _ k (record { within = h.within; is = refl }) in
    record { within = st.within; is = ap Some st.is ∙ h.is }

pub stmts_is_kept : (old new : List Row) (o : Option (List TypedStmt)) (p : Option PlainStmts) → Keeps old new → StmtsIs old o p → StmtsIs new o p
stmts_is_kept old new None p k h = record { within = tt; is = h.is }
stmts_is_kept old new (Some ss) p k h = stand_in old new ss p k h

pub longer_twice : (a b c : List Local) → IsLonger a b → IsLonger b c → IsLonger a c
longer_twice a b c p q = record { more = p.more ++ q.more; is = q.is ∙ ap (λ xs. xs ++ q.more) p.is ∙ append_assoc a p.more q.more }

none_more : (xs : List Local) → xs ≡ xs ++ []
none_more [] = refl
none_more (x ∷ xs) = ap (λ ys. x ∷ ys) (none_more xs)

pub same_longer : (a : List Local) → IsLonger a a
same_longer a = record { more = []; is = none_more a }

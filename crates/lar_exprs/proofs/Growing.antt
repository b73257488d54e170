-- What is known in a table is known in a larger one.
use Rattle.std.proofs.Common.{◌≡◌, ℕ, List, [], ◌∷◌, ◌++◌, map, refl, sym, ap, ◌∙◌, subst, Bool, Option, Some, None}
use Rattle.type_table.specs.declared.row.Row.{Row}
use Rattle.type_table.specs.TypeOf.{TypeOf}
use Rattle.type_table.specs.Rows.{Keeps}
use Rattle.lar_tree.specs.declared.name.Path.{Path}
use Rattle.lar_rules.specs.Declared.{Struct, Function}
use Rattle.lar_rules.specs.Written.{Site, Given}
use Rattle.lar_rules.specs.Judged as rules
use Rattle.lar_judge.specs.declared.judged.Judged.{Judged}
use Rattle.lar_judge.specs.declared.callee.Callee.{Callee}
use Rattle.lar_judge.specs.declared.making.Made.{Made}
use Rattle.lar_judge.specs.declared.locals.Local.{Local}
use Rattle.lar_judge.specs.Known.{known, silent, type_if, Knows}
use Rattle.lar_judge.specs.Lists.{JudgedWithin, knowns, silents}
use Rattle.lar_judge.specs.Locals.{LocalsWithin}
use Rattle.lar_judge.specs.Envs.{plain_env}
use Rattle.lar_judge.specs.Wanted.{types_if, AllIfWithin}
use Rattle.lar_judge.specs.Calls.{CalleeIs, CalleeWithin}
use Rattle.lar_judge.specs.Making.{MadeIs, MadeWithin}
use Rattle.lar_judge.proofs.Kept.{within_kept, known_kept, type_kept, type_within_kept}
use Rattle.lar_judge.proofs.Scopes.{locals_kept}
use Rattle.lar_tree.specs.declared.expr.Expr.{Expr}
use Rattle.lar_rules.specs.Fault.{Fault, least}
use Rattle.lar_exprs.specs.Walks.{AllKnown, judged}

pub env_kept : (site : Site) (old new : List Row) (ls : List Local) (asserting : Bool) → Keeps old new → LocalsWithin old ls → plain_env site new ls asserting ≡ plain_env site old ls asserting
env_kept site old new ls asserting k w = ap (λ xs. record { site = site; locals = xs; asserting = asserting }) (locals_kept old new ls k w)

pub judged_within_kept : (old new : List Row) (js : List Judged) → Keeps old new → JudgedWithin old js → JudgedWithin new js
judged_within_kept old new [] k w = tt
judged_within_kept old new (j ∷ js) k w = (within_kept old new j.typed k w.0, judged_within_kept old new js k w.1)

knowns_kept : (old new : List Row) (js : List Judged) → Keeps old new → JudgedWithin old js → knowns new js ≡ knowns old js
knowns_kept old new [] k w = refl
knowns_kept old new (j ∷ js) k w =
    ap (λ (d : rules.Judged). d ∷ knowns new js) (known_kept old new j k w.0) ∙ ap (λ (ds : List rules.Judged). known old j ∷ ds) (knowns_kept old new js k w.1)

pub all_known_kept : (old new : List Row) (js : List Judged) (ds : List rules.Judged) → Keeps old new → AllKnown old js ds → AllKnown new js ds
all_known_kept old new js ds k h = record { within = judged_within_kept old new js k h.within; are = knowns_kept old new js k h.within ∙ h.are }

within_more : (rows : List Row) (js : List Judged) (j : Judged) (d : rules.Judged) → JudgedWithin rows js → Knows rows j d → JudgedWithin rows (js ++ j ∷ [])
within_more rows [] j d w h = (h.within, tt)
within_more rows (x ∷ js) j d w h = (w.0, within_more rows js j d w.1 h)

mapped_more : {A B : Type 0} (f : A → B) (xs : List A) (x : A) → map f (xs ++ x ∷ []) ≡ map f xs ++ f x ∷ []
mapped_more f [] x = refl
mapped_more f (y ∷ xs) x = ap (λ ys. f y ∷ ys) (mapped_more f xs x)

-- one more
pub all_known_more : (rows : List Row) (js : List Judged) (ds : List rules.Judged) (j : Judged) (d : rules.Judged) → AllKnown rows js ds → Knows rows j d → AllKnown rows (js ++ j ∷ []) (ds ++ d ∷ [])
all_known_more rows js ds j d h one = record {
  within = within_more rows js j d h.within one;
  are = mapped_more (known rows) js j ∙ ap (λ (xs : List rules.Judged). xs ++ known rows j ∷ []) h.are ∙ ap (λ (x : rules.Judged). silents ds ++ x ∷ []) one.is ∙ sym (mapped_more silent ds d);
}

types_kept : (old new : List Row) (ts : List (Option ℕ)) → Keeps old new → AllIfWithin old ts → types_if new ts ≡ types_if old ts
types_kept old new [] k w = refl
types_kept old new (t ∷ ts) k w =
    ap (λ (x : Option TypeOf). x ∷ types_if new ts) (type_kept old new t k w.0) ∙ ap (λ (xs : List (Option TypeOf)). type_if old t ∷ xs) (types_kept old new ts k w.1)

types_within_kept : (old new : List Row) (ts : List (Option ℕ)) → Keeps old new → AllIfWithin old ts → AllIfWithin new ts
types_within_kept old new [] k w = tt
types_within_kept old new (t ∷ ts) k w = (type_within_kept old new t k w.0, types_within_kept old new ts k w.1)

pub callee_within_kept : (old new : List Row) (c : Option Callee) → Keeps old new → CalleeWithin old c → CalleeWithin new c
callee_within_kept old new None k w = tt
callee_within_kept old new (Some c) k w = (type_within_kept old new c.generics k w.0, types_within_kept old new c.wanted.items k w.1, type_within_kept old new c.outcome k w.2)

pub callee_kept : (old new : List Row) (s : Site) (p : Path) (gs : List Given) (c : Option Callee) (f : Option Function) → Keeps old new → CalleeIs old s p gs c f → CalleeIs new s p gs c f
callee_kept old new s p gs None None k h = tt
callee_kept old new s p gs None (Some f) k h = absurd h
callee_kept old new s p gs (Some c) None k h = absurd h
callee_kept old new s p gs (Some c) (Some f) k h = record {
  numbered = h.numbered;
  generics_within = type_within_kept old new c.generics k h.generics_within;
  given = type_kept old new c.generics k h.generics_within ∙ h.given;
  wanted_within = types_within_kept old new c.wanted.items k h.wanted_within;
  asks = types_kept old new c.wanted.items k h.wanted_within ∙ h.asks;
  outcome_within = type_within_kept old new c.outcome k h.outcome_within;
  gives = type_kept old new c.outcome k h.outcome_within ∙ h.gives;
}

pub made_within_kept : (old new : List Row) (m : Option Made) → Keeps old new → MadeWithin old m → MadeWithin new m
made_within_kept old new None k w = tt
made_within_kept old new (Some m) k w = (type_within_kept old new m.generics k w.0, types_within_kept old new m.wanted.items k w.1, w.2)

pub made_kept : (old new : List Row) (s : Site) (p : Path) (gs : List Given) (m : Option Made) (x : Option Struct) → Keeps old new → MadeIs old s p gs m x → MadeIs new s p gs m x
made_kept old new s p gs None None k h = tt
made_kept old new s p gs None (Some x) k h = absurd h
made_kept old new s p gs (Some m) None k h = absurd h
made_kept old new s p gs (Some m) (Some x) k h = record {
  numbered = h.numbered;
  generics_within = type_within_kept old new m.generics k h.generics_within;
  given = type_kept old new m.generics k h.generics_within ∙ h.given;
  wanted_within = types_within_kept old new m.wanted.items k h.wanted_within;
  asks = types_kept old new m.wanted.items k h.wanted_within ∙ h.asks;
  named = h.named;
}

pub knows_env : (rows : List Row) (env there : rules.Env) (e : Expr) (j : Judged) → there ≡ env → Knows rows j (judged there e) → Knows rows j (judged env e)
knows_env rows env there e j same h = subst (λ (x : rules.Env). Knows rows j (judged x e)) same h

pub told_env : (env there : rules.Env) (e : Expr) (best now : Option Fault) → there ≡ env → now ≡ least best (judged there e).faults → now ≡ least best (judged env e).faults
told_env env there e best now same h = h ∙ ap (λ (x : rules.Env). least best (judged x e).faults) same

-- A local that is declared.
use Rattle.std.proofs.Common.{◌≡◌, ℕ, suc, List, [], ◌∷◌, ◌++◌, length, refl, sym, ap, ◌∙◌, subst, Option}
use Rattle.std.specs.Prelude.{option_map}
use Rattle.type_table.specs.declared.row.Row.{Row}
use Rattle.type_table.specs.TypeOf.{TypeOf}
use Rattle.type_table.specs.Rows.{Keeps}
use Rattle.lar_rules.specs.Fault.{Fault, least}
use Rattle.lar_rules.specs.Bodies.{with_local}
use Rattle.lar_typed.specs.Stmts.{let_local}
use Rattle.lar_typed.specs.Exprs as typed
use Rattle.lar_judge.specs.declared.locals.Local.{Local}
use Rattle.lar_judge.specs.Known.{type_if, IfWithin}
use Rattle.lar_judge.specs.Locals.{local_in, locals_in, LocalsWithin}
use Rattle.lar_judge.specs.Wanted.{types_if, AllIfWithin}
use Rattle.lar_judge.proofs.Kept.{type_kept, type_within_kept}
use Rattle.lar_judge.proofs.Operands.{told_two}
use Rattle.lar_judge.proofs.Scopes.{locals_last, locals_kept, locals_within_kept}
use Rattle.lar_stmts.specs.declared.state.State.{State}
use Rattle.lar_stmts.specs.States.{state_in, StateWithin, StateIs}

pub types_kept : (old new : List Row) (ts : List (Option ℕ)) → Keeps old new → AllIfWithin old ts → types_if new ts ≡ types_if old ts
types_kept old new [] k w = refl
types_kept old new (t ∷ ts) k w =
    ap (λ (x : Option TypeOf). x ∷ types_if new ts) (type_kept old new t k w.0) ∙ ap (λ (xs : List (Option TypeOf)). type_if old t ∷ xs) (types_kept old new ts k w.1)

pub types_within_kept : (old new : List Row) (ts : List (Option ℕ)) → Keeps old new → AllIfWithin old ts → AllIfWithin new ts
types_within_kept old new [] k w = tt
types_within_kept old new (t ∷ ts) k w = (type_within_kept old new t k w.0, types_within_kept old new ts k w.1)

pub state_within_kept : (old new : List Row) (s : State) → Keeps old new → StateWithin old s → StateWithin new s
state_within_kept old new s k w = record { locals = locals_within_kept old new s.locals.locals.items k w.locals; types = types_within_kept old new s.types.items k w.types }

pub state_kept : (old new : List Row) (s : State) → Keeps old new → StateWithin old s → state_in new s ≡ state_in old s
state_kept old new s k w =
    ap (λ ls. record { locals = ls; types = types_if new s.types.items }) (locals_kept old new s.locals.locals.items k w.locals)
    ∙ ap (λ ts. record { locals = locals_in old s.locals.locals.items; types = ts }) (types_kept old new s.types.items k w.types)

pub types-length : (rows : List Row) (ts : List (Option ℕ)) → length (types_if rows ts) ≡ length ts
types-length rows [] = refl
types-length rows (t ∷ ts) = ap suc (types-length rows ts)

locals_more : (rows : List Row) (ls : List Local) (l : Local) → LocalsWithin rows ls → IfWithin rows l.of → LocalsWithin rows (ls ++ l ∷ [])
locals_more rows [] l w h = (h, tt)
locals_more rows (x ∷ ls) l w h = (w.0, locals_more rows ls l w.1 h)

types_more : (rows : List Row) (ts : List (Option ℕ)) (t : Option ℕ) → AllIfWithin rows ts → IfWithin rows t → AllIfWithin rows (ts ++ t ∷ [])
types_more rows [] t w h = (h, tt)
types_more rows (x ∷ ts) t w h = (w.0, types_more rows ts t w.1 h)

types_last : (rows : List Row) (ts : List (Option ℕ)) (t : Option ℕ) → types_if rows (ts ++ t ∷ []) ≡ types_if rows ts ++ type_if rows t ∷ []
types_last rows [] t = refl
types_last rows (x ∷ ts) t = ap (λ (xs : List (Option TypeOf)). type_if rows x ∷ xs) (types_last rows ts t)

-- the state behind the declaration of a local
pub declared_is : (old new : List Row) (s after : State) (l : Local) (name : List ℕ) (t : Option TypeOf) → Keeps old new → StateWithin old s → IfWithin new l.of → type_if new l.of ≡ t → l.name.now ≡ name → l.number ≡ length s.types.items
    → after.locals.locals.items ≡ s.locals.locals.items ++ l ∷ [] → after.types.items ≡ s.types.items ++ l.of ∷ [] → StateIs new after (with_local (state_in old s) name t)
declared_is old new s after l name t k w h e m c p q =
    let kept : StateWithin new s = state_within_kept old new s k w in
    let one : local_in new l ≡ record { name = name; number = length (types_if old s.types.items); of = t } =
    ap (λ n. record { name = n; number = l.number; of = type_if new l.of }) m
    ∙ ap (λ n. record { name = name; number = n; of = type_if new l.of }) (c ∙ sym (types-length old s.types.items))
    ∙ ap (λ x. record { name = name; number = length (types_if old s.types.items); of = x }) e in
    let ls : locals_in new after.locals.locals.items ≡ record { name = name; number = length (types_if old s.types.items); of = t } ∷ locals_in old s.locals.locals.items =
    ap (locals_in new) p ∙ locals_last new s.locals.locals.items l ∙ ap (λ x. x ∷ locals_in new s.locals.locals.items) one
    ∙ ap (λ xs. record { name = name; number = length (types_if old s.types.items); of = t } ∷ xs) (locals_kept old new s.locals.locals.items k w.locals) in
    let ts : types_if new after.types.items ≡ types_if old s.types.items ++ t ∷ [] =
    ap (types_if new) q ∙ types_last new s.types.items l.of ∙ ap (λ (x : Option TypeOf). types_if new s.types.items ++ x ∷ []) e ∙ ap (λ (xs : List (Option TypeOf)). xs ++ t ∷ []) (types_kept old new s.types.items k w.types) in
    record {
      within = record { locals = subst (λ (xs : List Local). LocalsWithin new xs) (sym p) (locals_more new s.locals.locals.items l kept.locals h); types = subst (λ (xs : List (Option ℕ)). AllIfWithin new xs) (sym q) (types_more new s.types.items l.of kept.types h) };
      is = ap (λ xs. record { locals = xs; types = types_if new after.types.items }) ls ∙ ap (λ xs. record { locals = record { name = name; number = length (types_if old s.types.items); of = t } ∷ locals_in old s.locals.locals.items; types = xs }) ts;
    }

-- the faults of the type, then those of the value
pub let_told : (ws fs : List Fault) (best mid now : Option Fault) → mid ≡ least best ws → now ≡ least mid fs → now ≡ least best (ws ++ fs)
let_told ws fs best mid now m n = told_two best mid now ws fs m n

pub let_typed : (n m : ℕ) (x : Option typed.PlainExpr) → n ≡ m → option_map (let_local n) x ≡ option_map (let_local m) x
let_typed n m x e = ap (λ (k : ℕ). option_map (let_local k) x) e

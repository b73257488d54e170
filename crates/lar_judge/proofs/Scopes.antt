-- The locals in scope, from the innermost on.
use Rattle.std.proofs.Common.{◌≡◌, ℕ, zero, suc, ◌+◌, ◌<◌, List, [], ◌∷◌, ◌++◌, length, take, get_or, refl, ap, ◌∙◌, arith, Bool, true, false, Some, None}
use Rattle.std.specs.Prelude.{if◌then◌else◌}
use Rattle.std.specs.Str.{bytes_eq}
use Rattle.std.proofs.lemmas.List.{take_more}
use Rattle.type_table.specs.declared.row.Row.{Row}
use Rattle.type_table.specs.Rows.{Keeps}
use Rattle.lar_rules.specs.Judged as rules
use Rattle.lar_rules.specs.Exprs.{local_named}
use Rattle.lar_judge.specs.declared.locals.Local.{Local}
use Rattle.lar_judge.specs.Known.{IfWithin}
use Rattle.lar_judge.specs.Locals.{local_in, locals_in, LocalsWithin}
use Rattle.lar_judge.proofs.Kept.{type_kept, type_within_kept}

pub locals_last : (rows : List Row) (ls : List Local) (l : Local) → locals_in rows (ls ++ l ∷ []) ≡ local_in rows l ∷ locals_in rows ls
locals_last rows [] l = refl
locals_last rows (k ∷ ls) l = ap (λ (xs : List rules.Local). xs ++ local_in rows k ∷ []) (locals_last rows ls l)

pub named_at : (rows : List Row) (name : List ℕ) (ls : List Local) (i : ℕ) (d : Local) → i < length ls
    → local_named name (locals_in rows (take (i + 1) ls)) ≡ (if bytes_eq (get_or ls i d).name.now name then Some (local_in rows (get_or ls i d)) else local_named name (locals_in rows (take i ls)))
named_at rows name ls i d h = ap (λ (xs : List Local). local_named name (locals_in rows xs)) (take_more ls i d h) ∙ ap (local_named name) (locals_last rows (take i ls) (get_or ls i d))

pub hidden_by : (rows : List Row) (name : List ℕ) (ls : List Local) (i k : ℕ) (d : Local) → i < length ls → k ≡ i + 1 → bytes_eq (get_or ls i d).name.now name ≡ false
    → local_named name (locals_in rows (take k ls)) ≡ local_named name (locals_in rows (take i ls))
hidden_by rows name ls i k d h e unlike =
    ap (λ (n : ℕ). local_named name (locals_in rows (take n ls))) e ∙ named_at rows name ls i d h
    ∙ ap (λ (b : Bool). if b then Some (local_in rows (get_or ls i d)) else local_named name (locals_in rows (take i ls))) unlike

pub seen_by : (rows : List Row) (name : List ℕ) (ls : List Local) (i k : ℕ) (d : Local) → i < length ls → k ≡ i + 1 → bytes_eq (get_or ls i d).name.now name ≡ true
    → local_named name (locals_in rows (take k ls)) ≡ Some (local_in rows (get_or ls i d))
seen_by rows name ls i k d h e alike =
    ap (λ (n : ℕ). local_named name (locals_in rows (take n ls))) e ∙ named_at rows name ls i d h
    ∙ ap (λ (b : Bool). if b then Some (local_in rows (get_or ls i d)) else local_named name (locals_in rows (take i ls))) alike

pub none_left : (rows : List Row) (name : List ℕ) (ls : List Local) (n : ℕ) → n ≡ 0 → local_named name (locals_in rows (take n ls)) ≡ None
none_left rows name ls n e = ap (λ (k : ℕ). local_named name (locals_in rows (take k ls))) e

pub local_within : (rows : List Row) (ls : List Local) (i : ℕ) (d : Local) → LocalsWithin rows ls → i < length ls → IfWithin rows (get_or ls i d).of
local_within rows [] i d w h = absurd (omega arith)
local_within rows (l ∷ ls) zero d w h = w.0
local_within rows (l ∷ ls) (suc i) d w h = local_within rows ls i d w.1 (omega arith)

pub locals_kept : (old new : List Row) (ls : List Local) → Keeps old new → LocalsWithin old ls → locals_in new ls ≡ locals_in old ls
locals_kept old new [] k w = refl
locals_kept old new (l ∷ ls) k w =
    ap (λ (xs : List rules.Local). xs ++ local_in new l ∷ []) (locals_kept old new ls k w.1)
    ∙ ap (λ t. locals_in old ls ++ record { name = l.name.now; number = l.number; of = t } ∷ []) (type_kept old new l.of k w.0)

pub locals_within_kept : (old new : List Row) (ls : List Local) → Keeps old new → LocalsWithin old ls → LocalsWithin new ls
locals_within_kept old new [] k w = tt
locals_within_kept old new (l ∷ ls) k w = (type_within_kept old new l.of k w.0, locals_within_kept old new ls k w.1)

-- Tables that grow.
use Rattle.std.proofs.Common.{◌≡◌, ℕ, ◌<◌, ◌≤◌, List, length, ◌∙◌, arith}
use Rattle.type_table.specs.declared.row.Row.{Row}
use Rattle.type_table.specs.TypeOf.{TypeOf}
use Rattle.type_table.specs.Rows.{Keeps, Stands}
use Rattle.lar_typed.specs.Exprs.{ExprOf, label_of}
use Rattle.lar_typed.specs.Within.{ExprWithin}
use Rattle.lar_judge.proofs.Labels.{label_within}

pub keeps_twice : (a b c : List Row) → Keeps a b → Keeps b c → Keeps a c
keeps_twice a b c p q =
    let x : length a ≤ length b = p.longer in
    let y : length b ≤ length c = q.longer in
    record { longer = omega arith; same = λ n h. q.same n (omega arith) ∙ p.same n h }

pub stands_kept : (old new : List Row) (n : ℕ) (t : TypeOf) → Keeps old new → Stands old n t → Stands new n t
stands_kept old new n t k s =
    let l : length old ≤ length new = k.longer in
    let h : n < length old = s.within in
    record { within = omega arith; is = k.same n h ∙ s.is }

pub below_kept : (old new : List Row) (n : ℕ) → Keeps old new → n < length old → n < length new
below_kept old new n k h = let l : length old ≤ length new = k.longer in omega arith

pub label_below : (old new : List Row) (e : ExprOf ℕ) (l : ℕ) → Keeps old new → ExprWithin (length old) e → l ≡ label_of e → l < length new
label_below old new e l k w is = let h : label_of e < length old = label_within (length old) e w in below_kept old new l k (omega arith)

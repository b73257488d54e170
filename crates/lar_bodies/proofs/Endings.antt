-- What is told where a body may end without a value.
use Rattle.std.proofs.Common.{◌≡◌, [], ◌∷◌, sym, ap, ◌∙◌, Bool, true, false, Option}
use Rattle.std.specs.Prelude.{◌||◌, if◌then◌else◌}
use Rattle.lar_tree.specs.declared.stmt.Block.{Block}
use Rattle.lar_tree.specs.declared.stmt.Else.TheFolds.{fold_out-Block}
use Rattle.lar_tree.specs.Stmts.{PlainElse, PlainStmt, PlainBlock, PlainIf}
use Rattle.lar_tree.specs.StmtView.{else_step, stmt_step, block_step, if_step, block_view}
use Rattle.lar_rules.specs.Functions.{block_close}
use Rattle.lar_rules.specs.Fault.{Fault, kept, least}
use Rattle.lar_judge.proofs.Least.{least_none, least_one}

pub ends_well : (u r : Bool) (f : Fault) (x : Bool) (best : Option Fault) → x ≡ u → x ≡ true → best ≡ least best (if (u || r) then [] else f ∷ [])
ends_well u r f x best is holds = sym (least_none best) ∙ ap (λ (b : Bool). least best (if (b || r) then [] else f ∷ [])) (sym holds ∙ is)

returning : (u : Bool) (f : Fault) (best : Option Fault) → best ≡ least best (if (u || true) then [] else f ∷ [])
returning true f best = sym (least_none best)
returning false f best = sym (least_none best)

pub ends_returning : (u r : Bool) (f : Fault) (y : Bool) (best : Option Fault) → y ≡ r → y ≡ true → best ≡ least best (if (u || r) then [] else f ∷ [])
ends_returning u r f y best is holds = returning u f best ∙ ap (λ (b : Bool). least best (if (u || b) then [] else f ∷ [])) (sym holds ∙ is)

pub ends_without : (u r : Bool) (f : Fault) (x y : Bool) (best now : Option Fault) → x ≡ u → x ≡ false → y ≡ r → y ≡ false → now ≡ kept best f → now ≡ least best (if (u || r) then [] else f ∷ [])
ends_without u r f x y best now p q m n e =
    e ∙ sym (least_one best f) ∙ ap (λ (b : Bool). least best (if b then [] else f ∷ [])) (sym (ap (λ (b : Bool). b || r) (sym p ∙ q) ∙ sym m ∙ n))

pub close_is : (b : Block) → block_close (block_view b) ≡ b.close
close_is b = ap block_close (fold_out-Block PlainElse PlainStmt PlainBlock PlainIf else_step stmt_step block_step if_step b)

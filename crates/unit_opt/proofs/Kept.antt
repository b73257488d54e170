-- A folded unit keeps what a unit keeps.
use Rattle.std.proofs.Common.{ℕ, refl}
use Rattle.unit_ir.specs.Units.{PlainFn, PlainUnit, IsFn, IsUnit}
use Rattle.opt_slots.proofs.Kept.{IsUnit-map}
use Rattle.unit_opt.specs.Fold.{fold_fn, fold_unit}
use Rattle.unit_opt.proofs.FoldInRange.{fold_stmts-in_range}

fold_fn-kept : (k : ℕ) (f : PlainFn) → IsFn k f → IsFn k (fold_fn f)
fold_fn-kept k f h = record { symbol = h.symbol; slots = h.slots; params = h.params; body = fold_stmts-in_range f.slots k f.body h.body }

pub fold_unit-kept : (u : PlainUnit) → IsUnit u → IsUnit (fold_unit u)
fold_unit-kept u h = IsUnit-map fold_fn (λ f. refl) fold_fn-kept u h

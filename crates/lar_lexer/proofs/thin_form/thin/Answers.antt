use Rattle.std.proofs.Common.{◌≡◌, ℕ, ℤ, List, Option, Some, None, Result, Ok, Err, IfOk, IfSome, Vec, Global, sym, ◌∙◌}
use Rattle.std.specs.Option.{option_map}
use Rattle.std.specs.declared.alloc.AllocError.{AllocError}
use Rattle.lar_lexer.specs.Reading as reading
use Rattle.lar_lexer.specs.Thin.{IsThin}
use Rattle.lar_lexer.proofs.Grammar.{thin_is}
use Rattle.lar_lexer.proofs.Again.{thin_again}
use Rattle.lar_lexer.proofs.thin_form.thin.Goals as goal

-- the answer is what reading gives
abbrev Reads : Result (Option (Vec ℤ Global)) AllocError → List ℕ → Type 0
Reads answer bytes = IfOk answer (λ found. option_map (λ (numbers : Vec ℤ Global). numbers.items) found ≡ reading.thin bytes)

is_found : (answer : Result (Option (Vec ℤ Global)) AllocError) (bytes : List ℕ) → Reads answer bytes → IfOk answer (λ found. IfSome found (λ numbers. IsThin bytes numbers.items))
is_found (Err e) bytes reads = tt
is_found (Ok None) bytes reads = tt
is_found (Ok (Some numbers)) bytes reads = thin_is bytes numbers.items (sym reads)

is_only : (answer : Result (Option (Vec ℤ Global)) AllocError) (bytes : List ℕ) → Reads answer bytes → (ns : List ℤ) → IsThin bytes ns → IfOk answer (λ found. option_map (λ (numbers : Vec ℤ Global). numbers.items) found ≡ Some ns)
is_only (Err e) bytes reads ns is = tt
is_only (Ok found) bytes reads ns is = reads ∙ thin_again bytes ns is

pub returns-clause-found : goal.returns-clause-found
returns-clause-found c = is_found c.read.result c.args.file.now.bytes (rw c.as_slice.ensures at c.read.ensures.numbers)

pub returns-clause-only : goal.returns-clause-only
returns-clause-only c = is_only c.read.result c.args.file.now.bytes (rw c.as_slice.ensures at c.read.ensures.numbers)

-- The function and the struct that a path means, by number.
use Rattle.std.proofs.Common.{◌≡◌, ℕ, List, [], Option, Some, None, option_map, refl, sym, subst}
use Rattle.lar_tree.specs.declared.name.Path.{Path}
use Rattle.lar_rules.specs.Declared.{Declared, Struct, Function, function_meant, struct_meant, modules_of, last_of, texts_of}
use Rattle.lar_rules.specs.Signatures.{struct_numbered}
use Rattle.lar_names.specs.Numbered.{function_numbered}
use Rattle.lar_written.proofs.Numbers.{meant_numbered}
use Rattle.lar_signatures.proofs.Numbered.{function_found}

function_of : (o : Option Function) (n : ℕ) → Some n ≡ option_map (λ (x : Function). x.number) o → (f : Function) × (o ≡ Some f) × (f.number ≡ n)
function_of None n e = absurd (let h : ⊥ = cc in h)
function_of (Some f) n e = (f, refl, (let same : n ≡ f.number = cc in sym same))

-- the function of the number that is found
pub function_there : (all : List Declared) (here : List (List ℕ)) (p : Path) (n : ℕ) → Some n ≡ option_map (λ (x : Function). x.number) (function_meant all here p) → (f : Function) × (function_meant all here p ≡ Some f) × (function_numbered all n ≡ Some f)
function_there all here p n e =
    let f = function_of (function_meant all here p) n e in
    (f.0, f.1, subst (λ (k : ℕ). function_numbered all k ≡ Some f.0) f.2 (function_found all here p f.0 f.1))

struct_of : (o : Option Struct) (n : ℕ) → Some n ≡ option_map (λ (x : Struct). x.number) o → (x : Struct) × (o ≡ Some x) × (x.number ≡ n)
struct_of None n e = absurd (let h : ⊥ = cc in h)
struct_of (Some x) n e = (x, refl, (let same : n ≡ x.number = cc in sym same))

pub struct_there : (all : List Declared) (here : List (List ℕ)) (p : Path) (n : ℕ) → Some n ≡ option_map (λ (x : Struct). x.number) (struct_meant all here p) → (x : Struct) × (struct_meant all here p ≡ Some x) × (struct_numbered all n ≡ Some x)
struct_there all here p n e =
    let x = struct_of (struct_meant all here p) n e in
    (x.0, x.1, subst (λ (k : ℕ). struct_numbered all k ≡ Some x.0) x.2 (meant_numbered all (modules_of here (texts_of p)) (last_of [] (texts_of p)) x.0 x.1))

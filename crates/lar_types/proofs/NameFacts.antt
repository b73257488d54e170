-- The names of files by number.
use Rattle.std.proofs.Common.{◌≡◌, ℕ, zero, suc, ◌<◌, ◌≤◌, List, [], ◌∷◌, length, map, get_or, refl, ap, arith}
use Rattle.lar_tree.specs.declared.item.Tree.{Tree}
use Rattle.lar_types.specs.Checking.{name_of}

-- the names of the files of trees
abbrev pub files : List Tree → List (List ℕ)
files trees = map (λ t. t.file) trees

pub name_missing : (trees : List Tree) (n : ℕ) → length trees ≤ n → [] ≡ name_of (files trees) n
name_missing [] n past_end = refl
name_missing (t ∷ trees) zero past_end = absurd (omega arith)
name_missing (t ∷ trees) (suc n) past_end = name_missing trees n (omega arith)

pub name_found : (trees : List Tree) (n : ℕ) (x : Tree) → n < length trees → x ≡ get_or trees n x → x.file ≡ name_of (files trees) n
name_found [] n x below at = absurd (omega arith)
name_found (t ∷ trees) zero x below at = ap (λ (y : Tree). y.file) at
name_found (t ∷ trees) (suc n) x below at = name_found trees n x (omega arith) at

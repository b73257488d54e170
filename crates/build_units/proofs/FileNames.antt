-- The name of the file with a number.
use Rattle.std.proofs.Common.{◌≡◌, ℕ, zero, suc, ◌<◌, ◌≤◌, List, [], ◌∷◌, map, length, get_or, refl, arith}
use Rattle.lar_source.specs.declared.file.File.{File}
use Rattle.lar_types.specs.Checking.{name_of}

pub name_there : (files : List File) (number : ℕ) (d : File) → number < length files → name_of (map (λ f. f.name) files) number ≡ (get_or files number d).name
name_there [] number d h = absurd (omega (arith, h))
name_there (f ∷ fs) zero d h = refl
name_there (f ∷ fs) (suc number) d h = name_there fs number d (omega (arith, h))

pub no_name : (files : List File) (number : ℕ) → length files ≤ number → name_of (map (λ f. f.name) files) number ≡ []
no_name [] number h = refl
no_name (f ∷ fs) zero h = absurd (omega (arith, h))
no_name (f ∷ fs) (suc number) h = no_name fs number (omega (arith, h))

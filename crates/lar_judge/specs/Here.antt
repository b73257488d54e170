-- The names by which types are printed where an expression is written.
use Rattle.std.specs.Prelude.{◌≡◌, ℕ, Bool}
use Rattle.type_sizes.specs.Spelling.{struct_text, generic_text}
use Rattle.lar_rules.specs.Printed as rules
use Rattle.lar_rules.specs.Written.{Site}
use Rattle.lar_rules.specs.Judged.{Env}
use Rattle.lar_judge.specs.declared.here.Here.{Here}

-- it has the file and the names of the site
pub record IsHere (h : Here) (s : Site) : Type 0 where
  pub file : h.file ≡ s.file
  pub structs : (n : ℕ) → struct_text h.structs.now n ≡ rules.struct_path s.all n
  pub generics : (k : ℕ) → generic_text h.generics.now k ≡ rules.generic_text s.generics k

-- it is the place of the environment
pub record IsEnv (h : Here) (asserting : Bool) (env : Env) : Type 0 where
  pub site : IsHere h env.site
  pub same : asserting ≡ env.asserting

-- The front, in parts.
use Rattle.std.proofs.Common.{◌≡◌, ℕ, ◌-◌, ◌≤◌, nat_lt, Bool, true, false, List, [], ◌∷◌, map, length, Some, None, Ok, Err, refl, sym, ap, ◌∙◌, arith}
use Rattle.lar_bytes.specs.Answers.{Fails}
use Rattle.lar_bytes.specs.declared.memory.OrMemory.{OrMemory}
use Rattle.lar_bytes.specs.declared.memory.OrMemory.TheVariants.{Refused, Memory}
use Rattle.lar_source.specs.declared.file.File.{File}
use Rattle.lar_source.specs.Diagnostic.{Diagnostic}
use Rattle.lar_rules.specs.Declared.{Source}
use Rattle.lar_types.specs.Checking.{checked}
use Rattle.build_front.specs.Front.{max_bytes, passing, past_limit, all_parsed, if_parsed, unless_past, fronted}
use Rattle.build_front.specs.Parsed.{AreShort}

pub past : (files : List File) (f : File) → passing max_bytes files ≡ Some f → fronted files ≡ Err (past_limit f)
unfolding fronted
past files f e = ap (unless_past files) e

pub within : (files : List File) → passing max_bytes files ≡ None → fronted files ≡ if_parsed files (all_parsed 0 files)
unfolding fronted
within files e = ap (unless_past files) e

one_short : (left : ℕ) (f : File) (fs : List File) (b : Bool) → nat_lt left (length f.bytes) ≡ b → left ≤ max_bytes → passing left (f ∷ fs) ≡ None → (passing (left - length f.bytes) fs ≡ None → AreShort fs) → AreShort (f ∷ fs)
one_short left f fs true b l e next = absurd (cc (e, b))
one_short left f fs false b l e next = (grind (arith, l, b), next (grind (arith, e, b)))

short_from : (left : ℕ) (files : List File) → left ≤ max_bytes → passing left files ≡ None → AreShort files
short_from left [] l e = tt
short_from left (f ∷ fs) l e = one_short left f fs (nat_lt left (length f.bytes)) refl l e (short_from (left - length f.bytes) fs (omega (arith, l)))

pub short : (files : List File) → passing max_bytes files ≡ None → AreShort files
short files e = short_from max_bytes files (omega arith) e

-- a fault of a file
pub faulty : (files : List File) (e : OrMemory Diagnostic) → passing max_bytes files ≡ None → Fails e (all_parsed 0 files) → Fails e (fronted files)
faulty files Memory n x = tt
faulty files (Refused d) n x = within files n ∙ ap (if_parsed files) x

-- names and types
pub joined : (files : List File) (names : List (List ℕ)) (sources : List Source) → passing max_bytes files ≡ None → all_parsed 0 files ≡ Ok sources → names ≡ map (λ f. f.name) files → fronted files ≡ checked names sources
joined files names sources n x same = within files n ∙ ap (if_parsed files) x ∙ ap (λ ns. checked ns sources) (sym same)

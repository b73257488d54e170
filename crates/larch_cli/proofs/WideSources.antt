-- No command goes by bytes of sources past one more than the limit of their sum.
use Rattle.std.proofs.Common.{◌≡◌, ◌∙◌, ℕ, ◌+◌, ◌-◌, ◌<◌, ◌≤◌, nat_lt, if◌then◌else◌, Bool, true, false, List, [], ◌∷◌, ◌++◌, length, take, Option, Some, None, Result, Ok, Err, refl, sym, ap, subst, arith, append_assoc, append-nil, length-append}
use Rattle.std.proofs.lemmas.List.{take_all, length-take}
use Rattle.lar_source.specs.Diagnostic.{Diagnostic}
use Rattle.lar_source.specs.declared.file.File.{File}
use Rattle.lar_typed.specs.Trees.{PlainTree}
use Rattle.scripts.specs.Performing.{IsWide}
use Rattle.scripts.specs.Script.{Call, Read, Stop, Finding, Bytes, Absent, Failed, ◌>>=◌}
use Rattle.build_front.specs.Front.{max_bytes, passing, past_limit, unless_past, fronted}
use Rattle.larch_cli.specs.Commands.{Steps, fetch, found, gather_sources, or_told}
use Rattle.larch_cli.specs.declared.status.Status.TheVariants as status

abbrev sum_of : List File → ℕ
sum_of [] = 0
sum_of (f ∷ fs) = length f.bytes + sum_of fs

sum_of-append : (fs gs : List File) → sum_of (fs ++ gs) ≡ sum_of fs + sum_of gs
sum_of-append [] gs = omega arith
sum_of-append (f ∷ fs) gs = omega (arith, sum_of-append fs gs)

-- the diagnostic of the first file with which the sum passes, where at the latest the file of this name does
abbrev passed_by : ℕ → List File → List ℕ → Diagnostic
passed_by l [] name = past_limit (record { name = name; bytes = [] })
passed_by l (f ∷ fs) name = if nat_lt l (length f.bytes) then past_limit f else passed_by (l - length f.bytes) fs name

passes_after : (l : ℕ) (x : File) (fs more : List File) (f : File) (all : List File) (b : Bool) → nat_lt l (length x.bytes) ≡ b → (b ≡ false → unless_past all (passing (l - length x.bytes) (fs ++ f ∷ more)) ≡ Err (passed_by (l - length x.bytes) fs f.name))
    → unless_past all (passing l (x ∷ fs ++ f ∷ more)) ≡ Err (passed_by l (x ∷ fs) f.name)
passes_after l x fs more f all true e next = rw e refl
passes_after l x fs more f all false e next = rw e (next refl)

passes : (l : ℕ) (fs more : List File) (f : File) (all : List File) → l < sum_of fs + length f.bytes → unless_past all (passing l (fs ++ f ∷ more)) ≡ Err (passed_by l fs f.name)
passes l [] more f all h =
    let e : nat_lt l (length f.bytes) ≡ true = grind (arith, h) in
    rw e refl
passes l (x ∷ fs) more f all h =
    passes_after l x fs more f all (nat_lt l (length x.bytes)) refl (λ e. passes (l - length x.bytes) fs more f all (grind (arith, h, e)))

too_many : (fs more : List File) (f : File) → 16777217 ≤ sum_of fs + length f.bytes → fronted (fs ++ f ∷ more) ≡ Err (passed_by max_bytes fs f.name)
unfolding fronted
too_many fs more f h = passes max_bytes fs more f (fs ++ f ∷ more) (omega (arith, h))

module _ {A : Type 0} (rest : List File → PlainTree → Steps A) where
  -- what is done with all sources
  abbrev with_all : List File → Steps A
  with_all files = or_told (fronted files) >>= rest files

  stopped : (files : List File) (d : Diagnostic) → fronted files ≡ Err d → with_all files ≡ Stop (status.Diagnostic d)
  unfolding ◌>>=◌
  stopped files d e = ap (λ r. or_told r >>= rest files) e

  abbrev source : List ℕ → List ℕ → File
  source name bytes = record { name = name; bytes = bytes }

  -- bytes past what is asked for change nothing
  cut : (left : ℕ) (files more : List File) (name bytes : List ℕ) → 16777217 ≤ left + sum_of files → with_all (files ++ source name (take left bytes) ∷ more) ≡ with_all (files ++ source name bytes ∷ more)
  cut left files more name bytes h =
      elim (nat_lt (length bytes) left) as (λ b. nat_lt (length bytes) left ≡ b → with_all (files ++ source name (take left bytes) ∷ more) ≡ with_all (files ++ source name bytes ∷ more)) [
        | true ↦ λ short. ap (λ bs. with_all (files ++ source name bs ∷ more)) (take_all left bytes (grind (arith, short)))
        | false ↦ λ long.
            let whole : 16777217 ≤ sum_of files + length bytes = grind (arith, h, long) in
            let part : 16777217 ≤ sum_of files + length (take left bytes) = grind (arith, h, long, length-take left bytes) in
            stopped (files ++ source name (take left bytes) ∷ more) (passed_by max_bytes files name) (too_many files more (source name (take left bytes)) part)
            ∙ sym (stopped (files ++ source name bytes ∷ more) (passed_by max_bytes files name) (too_many files more (source name bytes) whole))
      ] refl

  -- what comes after one source
  abbrev after_one : ℕ → List File → List ℕ → List (List ℕ) → Finding → Steps A
  after_one l files name names x = (found name x >>= λ bytes. gather_sources (l - length bytes) (files ++ source name bytes ∷ []) names) >>= with_all

  alike_after : (l : ℕ) (fs gs : List File) (name : List ℕ) (names : List (List ℕ)) → ((bytes : List ℕ) → (gather_sources (l - length bytes) (fs ++ source name bytes ∷ []) names >>= with_all) ≡ (gather_sources (l - length bytes) (gs ++ source name bytes ∷ []) names >>= with_all))
      → (x : Finding) → after_one l fs name names x ≡ after_one l gs name names x
  unfolding ◌>>=◌
  alike_after l fs gs name names next (Bytes bytes) = next bytes
  alike_after l fs gs name names next Absent = refl
  alike_after l fs gs name names next Failed = refl

  alike_more : (l : ℕ) (fs gs : List File) (name : List ℕ) (names : List (List ℕ)) → ((x : Finding) → after_one l fs name names x ≡ after_one l gs name names x) → (gather_sources l fs (name ∷ names) >>= with_all) ≡ (gather_sources l gs (name ∷ names) >>= with_all)
  unfolding ◌>>=◌
  alike_more l fs gs name names each = λ i. Call (Read name l) (λ x. each x i)

  alike_none : (l : ℕ) (fs gs : List File) → with_all fs ≡ with_all gs → (gather_sources l fs [] >>= with_all) ≡ (gather_sources l gs [] >>= with_all)
  unfolding ◌>>=◌
  alike_none l fs gs e = e

  -- files that lead to the same lead to the same after others are read
  alike : (names : List (List ℕ)) (l : ℕ) (fs gs : List File) → ((more : List File) → with_all (fs ++ more) ≡ with_all (gs ++ more)) → (gather_sources l fs names >>= with_all) ≡ (gather_sources l gs names >>= with_all)
  alike [] l fs gs same = alike_none l fs gs (ap with_all (sym (append-nil fs)) ∙ same [] ∙ ap with_all (append-nil gs))
  alike (name ∷ names) l fs gs same =
      alike_more l fs gs name names (alike_after l fs gs name names (λ bytes. alike names (l - length bytes) (fs ++ source name bytes ∷ []) (gs ++ source name bytes ∷ [])
      (λ more. ap with_all (append_assoc fs (source name bytes ∷ []) more) ∙ same (source name bytes ∷ more) ∙ ap with_all (sym (append_assoc gs (source name bytes ∷ []) more)))))

  one_cut : (l : ℕ) (files : List File) (name : List ℕ) (names : List (List ℕ)) (bytes : List ℕ) → 16777217 ≤ l + sum_of files
      → (gather_sources (l - length (take l bytes)) (files ++ source name (take l bytes) ∷ []) names >>= with_all) ≡ (gather_sources (l - length bytes) (files ++ source name bytes ∷ []) names >>= with_all)
  one_cut l files name names bytes h =
      let none : l - length (take l bytes) ≡ l - length bytes = omega (arith, length-take l bytes) in
      ap (λ k. gather_sources k (files ++ source name (take l bytes) ∷ []) names >>= with_all) none
      ∙ alike names (l - length bytes) (files ++ source name (take l bytes) ∷ []) (files ++ source name bytes ∷ [])
      (λ more. ap with_all (append_assoc files (source name (take l bytes) ∷ []) more) ∙ cut l files more name bytes h ∙ ap with_all (sym (append_assoc files (source name bytes ∷ []) more)))

  wide_more : (l : ℕ) (files : List File) (name : List ℕ) (names : List (List ℕ)) → 16777217 ≤ l + sum_of files → ((bytes : List ℕ) → IsWide (gather_sources (l - length bytes) (files ++ source name bytes ∷ []) names >>= with_all)) → IsWide (gather_sources l files (name ∷ names) >>= with_all)
  unfolding IsWide ◌>>=◌
  wide_more l files name names h wide = (
    λ bytes. one_cut l files name names bytes h,
    λ x. elim x as (λ y. IsWide ((found name y >>= λ bytes. gather_sources (l - length bytes) (files ++ source name bytes ∷ []) names) >>= with_all)) [
      | Bytes bytes ↦ wide bytes
      | Absent ↦ tt
      | Failed ↦ tt
    ],
  )

  wide_none : (l : ℕ) (files : List File) → IsWide (with_all files) → IsWide (gather_sources l files [] >>= with_all)
  unfolding ◌>>=◌
  wide_none l files wide = wide

  pub told_wide : {X : Type 0} (r : Result X Diagnostic) (k : X → Steps A) → ((x : X) → IsWide (k x)) → IsWide (or_told r >>= k)
  unfolding IsWide ◌>>=◌
  told_wide (Ok x) k wide = wide x
  told_wide (Err d) k wide = tt

  sources_from : (names : List (List ℕ)) (l : ℕ) (files : List File) → 16777217 ≤ l + sum_of files → ((files : List File) (tree : PlainTree) → IsWide (rest files tree)) → IsWide (gather_sources l files names >>= with_all)
  sources_from [] l files h wide = wide_none l files (told_wide (fronted files) (rest files) (wide files))
  sources_from (name ∷ names) l files h wide =
      wide_more l files name names h (λ bytes. sources_from names (l - length bytes) (files ++ source name bytes ∷ [])
      (omega (arith, h, sum_of-append files (source name bytes ∷ []), length-append bytes [])) wide)

  pub sources_wide : (names : List (List ℕ)) → ((files : List File) (tree : PlainTree) → IsWide (rest files tree)) → IsWide (gather_sources 16777217 [] names >>= with_all)
  sources_wide names wide = sources_from names 16777217 [] (omega arith) wide

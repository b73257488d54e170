-- Files that are parsed one after the other.
use Rattle.std.proofs.Common.{◌≡◌, ℕ, suc, ◌+◌, ◌≤◌, ◌<◌, List, [], ◌∷◌, ◌++◌, length, map, drop, get_or, Result, Ok, Err, refl, sym, ap, ◌∙◌, append_assoc, append-nil, length-append, subst, arith}
use Rattle.std.proofs.Math.Seq.{drop-cons}
use Rattle.std.proofs.lemmas.List.{map-append, drop_all}
use Rattle.lar_bytes.specs.Answers.{Fails}
use Rattle.lar_bytes.specs.declared.memory.OrMemory.{OrMemory}
use Rattle.lar_bytes.specs.declared.memory.OrMemory.TheVariants.{Refused, Memory}
use Rattle.lar_source.specs.declared.file.File.{File}
use Rattle.lar_source.specs.Diagnostic.{Diagnostic}
use Rattle.lar_tree.specs.declared.item.Tree.{Tree}
use Rattle.lar_tree.specs.ItemView.{tree_view}
use Rattle.lar_tree.specs.Items.{PlainItems}
use Rattle.lar_rules.specs.Declared.{Source}
use Rattle.lar_names.specs.Sources.{module_name, source_of, sources_of}
use Rattle.lar_sound.specs.Sources.{AreSources}
use Rattle.fault_order.specs.Places.{AreSourcesOrdered}
use Rattle.build_front.specs.Front.{source, source_before, parsed, all_parsed}
use Rattle.build_front.specs.Parsed.{IsParsed, AreNamed}

-- sources, and then others, if there is no fault
abbrev pub with_more : List Source → Result (List Source) Diagnostic → Result (List Source) Diagnostic
with_more sources (Ok more) = Ok (sources ++ more)
with_more sources (Err d) = Err d

-- each tree is that of its file
abbrev pub AreParsed : List File → List Tree → Type 0
AreParsed fs [] = Unit {0}
AreParsed [] (t ∷ ts) = ⊥
AreParsed (f ∷ fs) (t ∷ ts) = IsParsed f t × AreParsed fs ts

-- the files before this number have these trees
pub record SoFar (files : List File) (number : ℕ) (trees : List Tree) (i : ℕ) : Type 0 where
  pub numbered : number ≡ i
  pub count : length trees ≡ i
  pub answer : all_parsed 0 files ≡ with_more (sources_of trees) (all_parsed number (drop i files))
  pub kept : AreParsed files trees

with_one : (f : File) (p : PlainItems) (sources : List Source) (r : Result (List Source) Diagnostic) → with_more sources (source_before f (Ok p) r) ≡ with_more (sources ++ source f p ∷ []) r
with_one f p sources (Ok more) = ap Ok (sym (append_assoc sources (source f p ∷ []) more))
with_one f p sources (Err d) = refl

-- the file with this number, and those after it
next : (files : List File) (number i : ℕ) (d : File) → i < length files → all_parsed number (drop i files) ≡ source_before (get_or files i d) (parsed number (get_or files i d)) (all_parsed (suc number) (drop (suc i) files))
next files number i d l = ap (all_parsed number) (drop-cons files i d l)

parsed_more : (fs : List File) (ts : List Tree) (d : File) (t : Tree) → length ts < length fs → AreParsed fs ts → IsParsed (get_or fs (length ts) d) t → AreParsed fs (ts ++ t ∷ [])
parsed_more [] ts d t l a x = absurd (omega (arith, l))
parsed_more (f ∷ fs) [] d t l a x = (x, tt)
parsed_more (f ∷ fs) (u ∷ ts) d t l a x = (a.0, parsed_more fs ts d t (omega (arith, l)) a.1 x)

one_further : (files : List File) (number i : ℕ) (trees : List Tree) (d : File) (t : Tree) → i < length files → SoFar files number trees i → parsed number (get_or files i d) ≡ Ok (tree_view t) → IsParsed (get_or files i d) t
    → SoFar files (suc number) (trees ++ t ∷ []) (suc i)
one_further files number i trees d t l s ok x =
    let f : File = get_or files i d in
    let rest : Result (List Source) Diagnostic = all_parsed (suc number) (drop (suc i) files) in
    let same : source f (tree_view t) ≡ source_of t = ap (λ n. record { module_name = module_name n; items = tree_view t }) (sym x.name) in
    record {
      numbered = omega (arith, s.numbered);
      count = omega (arith, s.count, length-append trees (t ∷ []));
      answer = s.answer ∙ ap (with_more (sources_of trees)) (next files number i d l ∙ ap (λ r. source_before f r rest) ok) ∙ with_one f (tree_view t) (sources_of trees) rest
          ∙ ap (λ y. with_more (sources_of trees ++ y ∷ []) rest) same ∙ ap (λ y. with_more y rest) (sym (map-append source_of trees (t ∷ [])));
      kept = parsed_more files trees d t (omega (arith, s.count, l)) s.kept (subst (λ k. IsParsed (get_or files k d) t) (sym s.count) x);
    }

pub one_more : (files : List File) (number i : ℕ) (trees : List Tree) (d : File) (t : Tree) → i < length files → SoFar files number trees i → parsed number (get_or files i d) ≡ Ok (tree_view t) → IsParsed (get_or files i d) t
    → SoFar files (number + 1) (trees ++ t ∷ []) (i + 1)
one_more files number i trees d t l s ok x =
    let n : suc number ≡ number + 1 = omega arith in
    let j : suc i ≡ i + 1 = omega arith in
    subst (λ k. SoFar files k (trees ++ t ∷ []) (i + 1)) n (subst (SoFar files (suc number) (trees ++ t ∷ [])) j (one_further files number i trees d t l s ok x))

-- the file with this number has a fault
pub faulty : (files : List File) (number i : ℕ) (trees : List Tree) (d : File) (e : OrMemory Diagnostic) → i < length files → SoFar files number trees i → Fails e (parsed number (get_or files i d)) → Fails e (all_parsed 0 files)
faulty files number i trees d Memory l s x = tt
faulty files number i trees d (Refused fault) l s x =
    s.answer ∙ ap (with_more (sources_of trees)) (next files number i d l ∙ ap (λ r. source_before (get_or files i d) r (all_parsed (suc number) (drop (suc i) files))) x)

with_none : (sources : List Source) → with_more sources (Ok []) ≡ Ok sources
with_none sources = ap Ok (append-nil sources)

-- there is no further file
pub all : (files : List File) (number i : ℕ) (trees : List Tree) → length files ≤ i → SoFar files number trees i → all_parsed 0 files ≡ Ok (sources_of trees)
all files number i trees l s = s.answer ∙ ap (λ r. with_more (sources_of trees) (all_parsed number r)) (drop_all i files l) ∙ with_none (sources_of trees)

are_sources : (fs : List File) (ts : List Tree) → AreNamed fs → AreParsed fs ts → AreSources (sources_of ts)
are_sources fs [] n a = tt
are_sources [] (t ∷ ts) n a = absurd a
are_sources (f ∷ fs) (t ∷ ts) n a = ((a.0).lawful n.0, are_sources fs ts n.1 a.1)

are_ordered : (fs : List File) (ts : List Tree) → AreParsed fs ts → AreSourcesOrdered (sources_of ts)
are_ordered fs [] a = tt
are_ordered [] (t ∷ ts) a = absurd a
are_ordered (f ∷ fs) (t ∷ ts) a = ((a.0).ordered, are_ordered fs ts a.1)

pub keeps : (files : List File) (number i : ℕ) (trees : List Tree) → SoFar files number trees i → AreNamed files → AreSources (sources_of trees) × AreSourcesOrdered (sources_of trees)
keeps files number i trees s n = (are_sources files trees n s.kept, are_ordered files trees s.kept)

pub none_yet : (files : List File) → SoFar files 0 [] 0
none_yet files = record { numbered = refl; count = refl; answer = with_nothing (all_parsed 0 files); kept = tt }
  where
    with_nothing : (r : Result (List Source) Diagnostic) → r ≡ with_more [] r
    with_nothing (Ok more) = refl
    with_nothing (Err d) = refl

same_names : (fs : List File) (ts : List Tree) → AreParsed fs ts → length fs ≤ length ts → map (λ t. t.file) ts ≡ map (λ f. f.name) fs
same_names [] [] a l = refl
same_names (f ∷ fs) [] a l = absurd (omega (arith, l))
same_names [] (t ∷ ts) a l = absurd a
same_names (f ∷ fs) (t ∷ ts) a l = ap (λ n. n ∷ map (λ t. t.file) ts) (a.0).name ∙ ap (λ ns. f.name ∷ ns) (same_names fs ts a.1 (omega (arith, l)))

pub names : (files : List File) (number i : ℕ) (trees : List Tree) → length files ≤ i → SoFar files number trees i → map (λ t. t.file) trees ≡ map (λ f. f.name) files
names files number i trees l s = same_names files trees s.kept (omega (arith, l, s.count))

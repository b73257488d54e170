-- What the front answers: the program with its types, or the first diagnostic.
use Rattle.std.specs.Prelude.{ℕ, suc, ◌⊎◌, ◌-◌, nat_lt, if◌then◌else◌, List, [], ◌∷◌, map, length, drop, Option, Some, None, Result, Ok, Err, codes}
use Rattle.std.proofs.Common.{inl, inr}
use Rattle.lar_source.specs.declared.code.Code.TheVariants.{PastLimit}
use Rattle.lar_source.specs.declared.file.File.{File}
use Rattle.lar_source.specs.Diagnostic.{Diagnostic}
use Rattle.lar_tree.specs.declared.token.Token.{Token}
use Rattle.lar_tree.specs.Items.{PlainItems}
use Rattle.lar_tree.specs.Programs.{Spells, IsFirstFault}
use Rattle.lar_grammar.proofs.Exact.{decided}
use Rattle.lar_lexer.specs.Lexed.{lexed}
use Rattle.lar_syntax.specs.Parsed.{place, syntax_error}
use Rattle.lar_typed.specs.Trees.{PlainTree}
use Rattle.lar_rules.specs.Declared.{Source}
use Rattle.lar_names.specs.Sources.{module_name}
use Rattle.lar_types.specs.Checking.{checked}

-- bytes of all sources at most
abbrev pub max_bytes : ℕ
max_bytes = 16777216

-- the first file with which the sum passes the limit, where so many bytes may still come
abbrev pub passing : ℕ → List File → Option File
passing left [] = None
passing left (f ∷ fs) = if nat_lt left (length f.bytes) then Some f else passing (left - length f.bytes) fs

-- its diagnostic
abbrev pub past_limit : File → Diagnostic
past_limit f = record { code = PastLimit; file = f.name; line = 1; col = 1; args = codes "16777216" ∷ [] }

-- What tokens are: a program, or they have a first fault. There is one or the other, and only one.
abbrev pub Decision : List Token → Type 0
Decision ts = ((p : PlainItems) × Spells p ts) ⊎ ((n : ℕ) × IsFirstFault ts n)

-- by what they are
abbrev pub tree_or_fault : (f : File) (ts : List Token) → Decision ts → Result PlainItems Diagnostic
tree_or_fault f ts (inl p) = Ok p.0
tree_or_fault f ts (inr n) = Err (syntax_error f.name (place f.bytes (drop n.0 ts)))

-- the tree that the tokens of a file spell, or the diagnostic of their first fault
unfoldable pub tree_of : File → List Token → Result PlainItems Diagnostic
tree_of f ts = tree_or_fault f ts (decided ts)

-- what comes of the tokens of a file, or of the first fault in them
abbrev pub after_tokens : File → Result (List Token) Diagnostic → Result PlainItems Diagnostic
after_tokens f (Ok ts) = tree_of f ts
after_tokens f (Err d) = Err d

-- the tree of the file with this number; or the diagnostic of its first byte at which no token can be read; or of its tokens' first fault
abbrev pub parsed : ℕ → File → Result PlainItems Diagnostic
parsed number f = after_tokens f (lexed f.name number f.bytes)

-- a file and its tree, as the rules of names and types read them
abbrev pub source : File → PlainItems → Source
source f p = record { module_name = module_name f.name; items = p }

-- a source before those of later files; a fault of this one comes before theirs
abbrev pub source_before : File → Result PlainItems Diagnostic → Result (List Source) Diagnostic → Result (List Source) Diagnostic
source_before f (Err d) later = Err d
source_before f (Ok p) (Err d) = Err d
source_before f (Ok p) (Ok sources) = Ok (source f p ∷ sources)

-- the sources of all files, of which the first has this number; or the fault of the first file that has one
abbrev pub all_parsed : ℕ → List File → Result (List Source) Diagnostic
all_parsed number [] = Ok []
all_parsed number (f ∷ fs) = source_before f (parsed number f) (all_parsed (suc number) fs)

-- the program with its types, where all files are parsed and there is no fault in names and types
abbrev pub if_parsed : List File → Result (List Source) Diagnostic → Result PlainTree Diagnostic
if_parsed files (Err d) = Err d
if_parsed files (Ok sources) = checked (map (λ f. f.name) files) sources

-- where the sum is within the limit
abbrev pub unless_past : List File → Option File → Result PlainTree Diagnostic
unless_past files (Some f) = Err (past_limit f)
unless_past files None = if_parsed files (all_parsed 0 files)

-- The sum of the sources is looked at first, then each file by itself, then names and types.
unfoldable pub fronted : List File → Result PlainTree Diagnostic
fronted files = unless_past files (passing max_bytes files)

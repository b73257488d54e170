-- What is parsed keeps what the rules ask of sources.
use Rattle.std.proofs.Common.{IfOk, ◌≡◌, ℕ, ◌≤◌, true, List, length, Result, Ok, Err, subst, sym}
use Rattle.lar_bytes.specs.declared.memory.OrMemory.{OrMemory}
use Rattle.lar_source.specs.declared.file.File.{File}
use Rattle.lar_source.specs.Diagnostic.{Diagnostic}
use Rattle.lar_tree.specs.declared.item.Tree.{Tree}
use Rattle.lar_tree.specs.declared.token.Token.{Token}
use Rattle.lar_typed.specs.Paths.{is_name}
use Rattle.lar_names.specs.Sources.{module_name, source_of}
use Rattle.lar_lexer.specs.Lawful.{AreLawful, AreInOrder}
use Rattle.lar_parsed.proofs.Parsed as laws
use Rattle.lar_syntax.specs.Parsed.{Parses}
use Rattle.build_front.specs.Parsed.{IsParsed}

kept : (f : File) (number : ℕ) (ts : List Token) (t : Tree) → AreLawful number ts → AreInOrder ts → length ts ≤ 16777216 → Parses f ts (Ok t) → IsParsed f t
kept f number ts t lawful ordered few p = record {
  name = p.1;
  ordered = laws.source_ordered (source_of t) ts p.0 ordered;
  lawful = λ n. laws.source_parsed (source_of t) number ts (subst (λ m. is_name (module_name m) ≡ true) (sym p.1) n) p.0 lawful few;
}

pub kept_if : (f : File) (number : ℕ) (ts : List Token) (r : Result Tree (OrMemory Diagnostic)) → AreLawful number ts → AreInOrder ts → length ts ≤ 16777216 → Parses f ts r → IfOk r (λ t. IsParsed f t)
kept_if f number ts (Ok t) lawful ordered few p = kept f number ts t lawful ordered few p
kept_if f number ts (Err e) lawful ordered few p = tt

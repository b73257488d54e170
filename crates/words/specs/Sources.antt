-- The names of sources, as words spell them.
use Rattle.std.specs.Prelude.{ℕ, ◌≡◌, ◌++◌, ◌-◌, ◌==◌, ◌&&◌, ◌||◌, nat_le, not, if◌then◌else◌, Bool, true, false, List, [], ◌∷◌, length, take, drop, Option, Some, None, is_none, codes}
use Rattle.std.specs.List.{list_all, list_any}
use Rattle.std.specs.Str.{bytes_eq}
use Rattle.lar_tree.specs.Keyword.{keyword_of}
use Rattle.words.specs.Lines.{Text}
use Rattle.words.specs.Numbers.{is_digit, is_name}

-- a letter or `_`
abbrev pub begins_word : ℕ → Bool
begins_word b = (nat_le 65 b && nat_le b 90) || (nat_le 97 b && nat_le b 122) || b == 95

abbrev pub is_in_word : ℕ → Bool
is_in_word b = begins_word b || is_digit b

-- a letter or `_`, and then letters, digits and `_`
abbrev pub is_word : Text → Bool
is_word [] = false
is_word (b ∷ bs) = begins_word b && list_all is_in_word bs

-- the name of a module: at most 64 bytes, and no keyword
abbrev pub is_module : Text → Bool
is_module name = is_word name && nat_le (length name) 64 && is_none (keyword_of name)

-- the name of a source: that of a module, followed by `.larch`; a file may have it
abbrev pub is_source : Text → Bool
is_source word = is_name word && bytes_eq (drop (length word - 6) word) (codes ".larch") && is_module (take (length word - 6) word)

abbrev pub are_different : List Text → Bool
are_different [] = true
are_different (name ∷ names) = not (list_any (λ other. bytes_eq other name) names) && are_different names

-- whether these are 1 to 256 different names of sources
abbrev pub are_sources : List Text → Bool
are_sources names = nat_le 1 (length names) && nat_le (length names) 256 && list_all is_source names && are_different names

-- the file words of a line, where they are names of sources
abbrev pub sources_of : List Text → Option (List Text)
sources_of files = if are_sources files then Some files else None

-- what adding these to the names comes to, by whether each is the name of a source
abbrev pub AddsSources : List Text → List Text → List Text → Bool → Type 0
AddsSources old new files true = (list_all is_source files ≡ true) × (new ≡ old ++ files)
AddsSources old new files false = list_all is_source files ≡ false

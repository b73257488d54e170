-- Names that are defined twice. The first one is meant.
use Rattle.std.specs.Prelude.{ℕ, Bool, true, false, ◌&&◌, ◌||◌, List, [], ◌∷◌, ◌++◌, if◌then◌else◌}
use Rattle.std.specs.Str.{bytes_eq}
use Rattle.lar_source.specs.declared.code.Code.TheVariants.{DefinedTwice}
use Rattle.lar_tree.specs.declared.name.Name.{Name}
use Rattle.lar_rules.specs.Fault.{Fault, fault}
use Rattle.lar_rules.specs.Declared.{Declared, same_modules}

abbrev pub twice : ℕ → Name → Fault
twice file n = fault file n.span DefinedTwice (n.text ∷ [])

abbrev pub is_among : List Name → List ℕ → Bool
is_among [] text = false
is_among (n ∷ ns) text = bytes_eq n.text text || is_among ns text

-- each name that an earlier one has
abbrev pub repeated : ℕ → List Name → List Name → List Fault
repeated file earlier [] = []
repeated file earlier (n ∷ ns) = (if is_among earlier n.text then twice file n ∷ [] else []) ++ repeated file (earlier ++ n ∷ []) ns

abbrev pub has_item : Declared → List Declared → Bool
has_item d [] = false
has_item d (e ∷ es) = (same_modules e.modules d.modules && bytes_eq e.name.text d.name.text) || has_item d es

-- the items of one module share one space of names
abbrev pub repeated_items : List Declared → List Declared → List Fault
repeated_items earlier [] = []
repeated_items earlier (d ∷ ds) = (if has_item d earlier then twice d.file d.name ∷ [] else []) ++ repeated_items (earlier ++ d ∷ []) ds

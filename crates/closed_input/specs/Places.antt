-- How many words values have in an instance, and where their parts lie.
use Rattle.std.specs.Prelude.{ℕ, zero, suc, ◌+◌, List, [], ◌∷◌, Option, Some, None}
use Rattle.type_table.specs.TypeOf.{TypeOf, end, more, tuple, struct}
use Rattle.type_table.specs.Substitution.{subst}
use Rattle.type_table.specs.Depth.{fields_of}
use Rattle.type_widths.specs.Width.{width}
use Rattle.lar_typed.specs.Stmts.{StepOf}
use Rattle.lar_typed.specs.TreeView.{Contents}
use Rattle.unit_input.specs.Widths.{cut}

-- How many words a type has that names no generics, or the members of a list together. No chain of structs is longer than 64.
abbrev pub words : Contents → TypeOf → ℕ
words tree t = width (fields_of tree.rows tree.structs) 64 [] t

-- the types of the parts of a value, as a list: the parts of a tuple, or the fields of a struct
abbrev pub parts_of : Contents → TypeOf → TypeOf
parts_of tree (tuple ts) = ts
parts_of tree (struct n gs) = subst gs (fields_of tree.rows tree.structs n)
parts_of tree _ = end

-- the first k members of a list
abbrev pub first_parts : ℕ → TypeOf → TypeOf
first_parts zero ts = end
first_parts (suc k) (more t ts) = more t (first_parts k ts)
first_parts (suc k) _ = end

-- Under an instance: the tree, and the list of the arguments that stand for the generics.
module _ (tree : Contents) (arguments : TypeOf) where
  -- how many words a type has
  abbrev pub words_under : TypeOf → ℕ
  words_under t = words tree (subst arguments t)

  -- the same as it is written
  abbrev pub width_under : TypeOf → ℕ
  width_under t = cut (words_under t)

  -- how many words stand before part k of a value of the type u
  abbrev pub words_before : TypeOf → ℕ → ℕ
  words_before u k = words_under (first_parts k (parts_of tree u))

  -- how many words stand before the place that steps lead to, from a value of the type u
  abbrev pub words_along : TypeOf → List (StepOf TypeOf) → ℕ
  words_along u [] = 0
  words_along u (p ∷ ps) = words_before u p.part + words_along p.of ps

  -- from a local of this type, if it is there
  abbrev pub words_to : Option TypeOf → List (StepOf TypeOf) → ℕ
  words_to None ps = 0
  words_to (Some u) ps = words_along u ps

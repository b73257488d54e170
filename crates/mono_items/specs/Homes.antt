-- Homes of items, and first units.
use Rattle.std.specs.Prelude.{ℕ, List, [], ◌++◌, map, filter, sum_by, codes, Bool, ◌&&◌, ◌||◌, not, if◌then◌else◌}
use Rattle.std.specs.Str.{bytes_eq}
use Rattle.text_order.specs.TextOrder.{text_at, text_order}
use Rattle.mono_items.specs.declared.items.MonoItem.{MonoItem}

-- a root has a home, and so has an item that is not inline
abbrev pub has_home : MonoItem → Bool
has_home x = x.root || not x.inlined

-- the name of its home: that of its module, with `.volatile` behind it where its function has generics
abbrev pub home_of : MonoItem → List ℕ
home_of x = x.place ++ (if x.generic then codes ".volatile" else [])

abbrev pub homes : List MonoItem → List (List ℕ)
homes items = map home_of (filter has_home items)

-- the names of the first units, in byte order: each home once
unfoldable pub first_names : List MonoItem → List (List ℕ)
first_names items = map (text_at (homes items)) (text_order (homes items))

-- whether the item has its home in the unit of this name
abbrev pub is_home : List ℕ → MonoItem → Bool
is_home name x = has_home x && bytes_eq (home_of x) name

-- the sizes of the items that have their home in the unit of this name, added up
unfoldable pub home_size : List MonoItem → List ℕ → ℕ
home_size items name = sum_by (λ x. if is_home name x then x.size else 0) items

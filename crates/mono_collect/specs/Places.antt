-- Instances by their places.
use Rattle.std.specs.Prelude.{◌≡◌, ℕ, List, Option, Some, None, slice_get}
use Rattle.std.specs.BTreeMap.{BTreeMap, get}
use Rattle.type_table.specs.Memo.{pair_cmp}
use Rattle.mono_items.specs.declared.items.Instance.{Instance}

abbrev pub key_of : Instance → ℕ × ℕ
key_of x = (x.function, x.arguments)

-- the instance is at no place
pub record IsNew (us : List Instance) (x : Instance) : Type 0 where
  pub none : (p : ℕ) → slice_get us p ≡ Some x → ⊥

-- the place of the instance, if there is one
abbrev pub IsPlace : List Instance → Instance → Option ℕ → Type 0
IsPlace us x None = IsNew us x
IsPlace us x (Some p) = slice_get us p ≡ Some x

-- the index has a place of each instance, and no other
pub record IsIndex (us : List Instance) (index : BTreeMap (ℕ × ℕ) ℕ) : Type 0 where
  pub is : (x : Instance) (p : ℕ) → get pair_cmp index (key_of x) ≡ Some p → slice_get us p ≡ Some x
  pub has : (x : Instance) (p : ℕ) → slice_get us p ≡ Some x → (r : ℕ) × (get pair_cmp index (key_of x) ≡ Some r)

-- The owners of items: the places of their homes among names.
use denote.Ref.{Bor}
use Rattle.std.specs.Prelude.{◌≡◌, ℕ, ◌+◌, ◌<◌, true, false, List, length, slice_index_or, slice_set, Option, Some, None, if◌then◌else◌}
use Rattle.std.specs.BTreeMap.{BTreeMap}
use Rattle.text_order.specs.TextOrder.{text_at, place_in}
use Rattle.mono_items.specs.declared.items.MonoItem.{MonoItem}
use Rattle.mono_items.specs.Homes.{has_home, home_of}

-- what the index has at the item's home, if it has one
abbrev pub owner_in : BTreeMap (Bor (List ℕ)) ℕ → MonoItem → Option ℕ
owner_in index x = if has_home x then place_in index (home_of x) else None

abbrev pub IsOwner : List (List ℕ) → MonoItem → Option ℕ → Type 0
IsOwner names x None = has_home x ≡ false
IsOwner names x (Some r) = (has_home x ≡ true) × (r < length names) × (text_at names r ≡ home_of x)

pub record AreOwners (names : List (List ℕ)) (items : List MonoItem) (owners : List (Option ℕ)) : Type 0 where
  pub count : length owners ≡ length items
  pub each : (i : ℕ) (x : MonoItem) (o : Option ℕ) → i < length items → IsOwner names (slice_index_or items i x) (slice_index_or owners i o)

-- the sizes, with one more at the owner
abbrev pub with_size : Option ℕ → ℕ → List ℕ → List ℕ
with_size None size sizes = sizes
with_size (Some r) size sizes = slice_set sizes r (slice_index_or sizes r 0 + size)

-- Look-ups in a map from names to bytes, as its entries lie in memory and as contracts see it.
use Rattle.std.proofs.Common.{◌≡◌, ℕ, List, [], ◌∷◌, map, Bool, true, false, cond, Option, Some, string_bytes, refl, sym, ap, ◌∙◌}
use Rattle.std.specs.Option.{option_map}
use Rattle.std.specs.Map.{lookup}
use Rattle.std.specs.BTreeMap.{is_at}
use Rattle.std.specs.Cmp.Lexicographic.{nat_list_cmp_total, slice_cmp}
use Rattle.std.specs.Ordering.{nat_cmp, is_eq, eq_by_cmp}
use Rattle.std.specs.FinMap.{find, get, insert, same_map, get-insert, get-from_entries, slice_cmp-IsAntisymmetric, nat_cmp-IsAntisymmetric}
use Rattle.std.specs.Str.{bytes_eq}
use Rattle.std.specs.BTreeMap.{BTreeMap, UpdatesBy}
use Rattle.std.specs.String.{string_cmp}
use Rattle.std.specs.Cmp.{eq_by_cmp_equiv}
use Rattle.std.proofs.lemmas.Map.Text.{is_eq-slice_cmp, btree_map_updates_text}
use Rattle.std.specs.declared.vec.Vec.{Vec}
use Rattle.std.specs.declared.alloc.Global.{Global}
use Rattle.std.specs.declared.string.String.{String}
use Rattle.outside.specs.Entries.{held_in}

abbrev bytes_at : List (String Global × Vec ℕ Global) → List ℕ → Option (List ℕ)
bytes_at entries name = option_map (λ (v : Vec ℕ Global). v.items) (lookup (is_at (λ k. slice_cmp nat_cmp name (string_bytes k))) entries)

moved : (b : Bool) (v : Vec ℕ Global) (o : Option (Vec ℕ Global)) → cond b (Some v.items) (option_map (λ (w : Vec ℕ Global). w.items) o) ≡ option_map (λ (w : Vec ℕ Global). w.items) (cond b (Some v) o)
moved true v o = refl
moved false v o = refl

find_bytes : (entries : List (String Global × Vec ℕ Global)) (name : List ℕ) → find (slice_cmp nat_cmp) name (map (λ e. (string_bytes e.0, e.1.items)) entries) ≡ bytes_at entries name
find_bytes [] name = refl
find_bytes (e ∷ es) name =
    ap (cond (is_eq (slice_cmp nat_cmp name (string_bytes e.0))) (Some e.1.items)) (find_bytes es name)
    ∙ moved (is_eq (slice_cmp nat_cmp name (string_bytes e.0))) e.1 (lookup (is_at (λ k. slice_cmp nat_cmp name (string_bytes k))) es)

-- what a name holds
pub get_held : (entries : List (String Global × Vec ℕ Global)) (name : List ℕ) → get (held_in entries) name ≡ bytes_at entries name
get_held entries name = get-from_entries nat_list_cmp_total _ name ∙ find_bytes entries name

-- a change of what one name holds
pub set_held : (old new : BTreeMap (String Global) (Vec ℕ Global)) (name : List ℕ) (v : Vec ℕ Global) → UpdatesBy string_cmp (λ k. slice_cmp nat_cmp name (string_bytes k)) old new (Some v)
    → held_in new.entries ≡ insert (held_in old.entries) name v.items
set_held old new name v updates = same_map nat_list_cmp_total (slice_cmp-IsAntisymmetric nat_cmp-IsAntisymmetric) (held_in new.entries) (insert (held_in old.entries) name v.items) (λ q.
    get_held new.entries q
    ∙ ap (option_map (λ (w : Vec ℕ Global). w.items)) (btree_map_updates_text name old new (Some v) updates q)
    ∙ sym (moved (bytes_eq name q) v (lookup (is_at (λ k. slice_cmp nat_cmp q (string_bytes k))) old.entries))
    ∙ ap (λ b. cond b (Some v.items) (bytes_at old.entries q)) (sym (is_eq-slice_cmp name q) ∙ (eq_by_cmp_equiv nat_list_cmp_total).symm name q)
    ∙ ap (cond (eq_by_cmp (slice_cmp nat_cmp) q name) (Some v.items)) (sym (get_held old.entries q))
    ∙ sym (get-insert nat_list_cmp_total (held_in old.entries) name v.items q))

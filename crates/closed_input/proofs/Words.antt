-- How many words types have under an instance, and how parts lie in values.
use Rattle.std.proofs.Common.{◌≡◌, ℕ, zero, suc, ◌+◌, ◌≤◌, List, [], refl, sym, ap, ◌∙◌, subst as transport, arith, true, Option, Some, None}
use Rattle.std.specs.Prelude.{slice_get}
use Rattle.type_table.specs.declared.sort.Sort.{Sort}
use Rattle.type_table.specs.declared.sort.Sort.TheVariants.{Ty as of_type}
use Rattle.type_table.specs.TypeOf.{TypeOf, int, bool, param, number, end, more, tuple, struct}
use Rattle.type_table.specs.Substitution.{subst, argument, count, Below}
use Rattle.type_table.specs.Lawful.{Wanted, one, these, some_types, fits}
use Rattle.type_table.specs.Depth.{fields_of, depth_of, AreFalling}
use Rattle.type_table.proofs.Replacing.{lawful_kept, composed_same}
use Rattle.type_widths.specs.Width.{width_by, struct_width, width}
use Rattle.type_widths.proofs.Widths.{struct_is}
use Rattle.lar_typed.specs.Trees.{PlainStruct}
use Rattle.lar_typed.specs.TreeView.{Contents, plain, IsTypedTree}
use Rattle.lar_typed.specs.Lawful.{type_generics, struct_sorts, field_type, part_type}
use Rattle.lar_typed.proofs.Falling.{falling, fits_below}
use Rattle.unit_input.specs.Widths.{cut}
use Rattle.closed_input.specs.Places.{words, first_parts, words_under, width_under, words_before}
use Rattle.closed_input.proofs.Fitting.{fields_are, struct_is_typed, struct_fits, count_fits}

pub cut_sum : (a b c d : ℕ) → cut a ≡ cut c → cut b ≡ cut d → cut (a + b) ≡ cut (c + d)
cut_sum a b c d p q = grind arith

pub cut_twice : (a : ℕ) → cut (cut a) ≡ cut a
cut_twice a = grind arith

pub cut_low : (a : ℕ) → cut a ≤ 256
cut_low a = grind arith

-- a part and what stands before it lie in the whole list
within_by : (s : ℕ → List ℕ → ℕ) (args ts t : TypeOf) (k : ℕ) → argument ts k ≡ Some t → width_by s [] (subst args (first_parts k ts)) + width_by s [] (subst args t) ≤ width_by s [] (subst args ts)
within_by s args (more u us) t zero h =
    let same : u ≡ t = cc in
    transport (λ (x : TypeOf). 0 + width_by s [] (subst args x) ≤ width_by s [] (subst args u) + width_by s [] (subst args us)) same (omega arith)
within_by s args (more u us) t (suc k) h =
    let p : width_by s [] (subst args (first_parts k us)) + width_by s [] (subst args t) ≤ width_by s [] (subst args us) = within_by s args us t k h in
    omega arith
within_by s args int t k h = cc
within_by s args bool t k h = cc
within_by s args (param j) t k h = cc
within_by s args (number v) t k h = cc
within_by s args end t k h = cc
within_by s args (tuple us) t k h = cc
within_by s args (struct n us) t k h = cc

-- arguments that have arguments in them
pub words_composed : (tree : Contents) (args gs t : TypeOf) (generics ss : List Sort) (w : Wanted) → fits (struct_sorts (plain tree).structs) generics gs (these ss) ≡ true → fits (struct_sorts (plain tree).structs) ss t w ≡ true → words_under tree args (subst gs t) ≡ words_under tree (subst args gs) t
words_composed tree args gs t generics ss w f g =
    let sorts : List (List Sort) = struct_sorts (plain tree).structs in
    let low : Below (count gs) t = transport (λ (n : ℕ). Below n t) (sym (count_fits sorts generics ss gs f)) (fits_below sorts ss t w g) in
    ap (words tree) (composed_same gs args t low)

-- a struct is as wide as its fields
pub struct_words : (tree : Contents) (args gs : TypeOf) (n : ℕ) (d : PlainStruct) (generics : List Sort) → IsTypedTree tree → fits (struct_sorts (plain tree).structs) [] args (these generics) ≡ true → slice_get (plain tree).structs n ≡ Some d → fits (struct_sorts (plain tree).structs) generics gs (these (type_generics d.generics)) ≡ true → words_under tree args (struct n gs) ≡ words_under tree args (subst gs (fields_of tree.rows tree.structs n))
struct_words tree args gs n d generics typed fa at fg =
    let sorts : List (List Sort) = struct_sorts (plain tree).structs in
    let falls : AreFalling tree.rows tree.structs = falling tree typed in
    let same : fields_of tree.rows tree.structs n ≡ d.fields = fields_are tree n d at in
    let ff : fits sorts (type_generics d.generics) (fields_of tree.rows tree.structs n) some_types ≡ true = transport (λ (x : TypeOf). fits sorts (type_generics d.generics) x some_types ≡ true) (sym same) (struct_is_typed (plain tree) n d typed.typed at).lawful_fields in
    struct_is (fields_of tree.rows tree.structs) (depth_of tree.structs) 64 n [] sorts (type_generics d.generics) [] (subst args gs) some_types (falls.falls) (falls.shallow n) (lawful_kept sorts generics [] args gs (these (type_generics d.generics)) fa fg) ff
    ∙ sym (words_composed tree args gs (fields_of tree.rows tree.structs n) generics (type_generics d.generics) some_types fg ff)

-- a part lies in its value
pub part_within : (tree : Contents) (args u t : TypeOf) (k : ℕ) (generics : List Sort) → IsTypedTree tree → fits (struct_sorts (plain tree).structs) [] args (these generics) ≡ true → fits (struct_sorts (plain tree).structs) generics u (one of_type) ≡ true → part_type (plain tree).structs u k ≡ Some t → words_before tree args u k + words_under tree args t ≤ words_under tree args u
unfolding width
part_within tree args (tuple ts) t k generics typed fa fu h = within_by (struct_width (fields_of tree.rows tree.structs) 64) args ts t k h
part_within tree args (struct n gs) t k generics typed fa fu h = by (slice_get (plain tree).structs n) refl h
  where
    by : (o : Option PlainStruct) → slice_get (plain tree).structs n ≡ o → field_type gs k o ≡ Some t → words_before tree args (struct n gs) k + words_under tree args t ≤ words_under tree args (struct n gs)
    by None at g = cc
    by (Some d) at g =
        let e : words_under tree args (struct n gs) ≡ words_under tree args (subst gs (fields_of tree.rows tree.structs n)) = struct_words tree args gs n d generics typed fa at (struct_fits (plain tree).structs generics n d gs at fu) in
        let same : fields_of tree.rows tree.structs n ≡ d.fields = fields_are tree n d at in
        let member : argument (subst gs (fields_of tree.rows tree.structs n)) k ≡ Some t = ap (λ (x : TypeOf). argument (subst gs x) k) same ∙ g in
        transport (λ (x : ℕ). words_before tree args (struct n gs) k + words_under tree args t ≤ x) (sym e) (within_by (struct_width (fields_of tree.rows tree.structs) 64) args (subst gs (fields_of tree.rows tree.structs n)) t k member)
part_within tree args int t k generics typed fa fu h = cc
part_within tree args bool t k generics typed fa fu h = cc
part_within tree args (param j) t k generics typed fa fu h = cc
part_within tree args (number v) t k generics typed fa fu h = cc
part_within tree args end t k generics typed fa fu h = cc
part_within tree args (more us vs) t k generics typed fa fu h = cc

-- ---- sums
pub words_more : (tree : Contents) (args t ts : TypeOf) → words_under tree args (more t ts) ≡ words_under tree args t + words_under tree args ts
unfolding width
words_more tree args t ts = refl

pub words_tuple : (tree : Contents) (args ts : TypeOf) → words_under tree args (tuple ts) ≡ words_under tree args ts
unfolding width
words_tuple tree args ts = refl

pub words_end : (tree : Contents) (args : TypeOf) → words_under tree args end ≡ 0
unfolding width
words_end tree args = refl

pub width_int : (tree : Contents) (args : TypeOf) → width_under tree args int ≡ 1
unfolding width
width_int tree args = refl

pub width_bool : (tree : Contents) (args : TypeOf) → width_under tree args bool ≡ 1
unfolding width
width_bool tree args = refl

-- Where parts lie, by the row of a value.
use Rattle.std.proofs.Common.{◌≡◌, ℕ, zero, suc, ◌<◌, ◌≤◌, List, length, refl, sym, ap, ◌∙◌, subst, arith, Option, Some, None}
use Rattle.std.specs.Prelude.{slice_get}
use Rattle.std.proofs.lemmas.List.{length-map}
use Rattle.std.proofs.lemmas.Option.{slice_get_within, get_or_from_slice_get}
use Rattle.type_table.specs.declared.row.Row.{Row}
use Rattle.type_table.specs.declared.row.Row.TheVariants.{Tuple, Struct}
use Rattle.type_table.specs.declared.decl.StructDecl.{StructDecl}
use Rattle.type_table.specs.TypeOf.{TypeOf, int, bool, param, number, end, more, tuple, struct}
use Rattle.type_table.specs.Rows.{types, type_at, type_of, Names}
use Rattle.type_table.specs.Substitution.{Below, count}
use Rattle.type_table.specs.Depth.{fields_type, fields_of}
use Rattle.type_widths.specs.Width.{width, widths_by, struct_width}
use Rattle.unit_input.specs.Widths.{cut}
use Rattle.closed_input.specs.Places.{first_parts}
use Rattle.unit_close.specs.declared.measure.Measure.{Measure}
use Rattle.unit_close.specs.Measures.{IsMeasure, IsRow, IsPlace, words_at, list_widths, words_until, argument_count}

widths_count : (s : ℕ → List ℕ → ℕ) (ws : List ℕ) (t : TypeOf) → length (widths_by s ws t) ≡ count t
widths_count s ws (more t ts) = ap suc (widths_count s ws ts)
widths_count s ws int = refl
widths_count s ws bool = refl
widths_count s ws (param k) = refl
widths_count s ws (number v) = refl
widths_count s ws end = refl
widths_count s ws (tuple ts) = refl
widths_count s ws (struct n ts) = refl

pub few_widths : (rows : List Row) (structs : List StructDecl) (ws xs ys : List ℕ) (t : TypeOf) → count t ≤ 16 → ys ≡ xs → xs ≡ list_widths rows structs ws t → length ys ≤ 16
few_widths rows structs ws xs ys t low p q =
    let e : length ys ≡ count t = ap length (p ∙ q) ∙ length-map (widths_by (struct_width (fields_of rows structs) 64) ws t) cut ∙ widths_count (struct_width (fields_of rows structs) 64) ws t in
    omega arith

pub tuple_row : (rows : List Row) (r a : ℕ) → type_at rows r ≡ type_of (types rows) (Tuple a) → Names r (Tuple a) → IsPlace rows r → IsRow rows a
unfolding type_at
tuple_row rows r a e n p =
    let low : a < r = n in
    let room : r < length rows = (p.row).there in
    record { there = omega arith; few = subst (Below 16) e (p.row).few }

pub struct_row : (rows : List Row) (r k a : ℕ) → type_at rows r ≡ type_of (types rows) (Struct k a) → Names r (Struct k a) → IsPlace rows r → IsRow rows a
unfolding type_at
struct_row rows r k a e n p =
    let low : a < r = n in
    let room : r < length rows = (p.row).there in
    record { there = omega arith; few = subst (Below 16) e (p.row).few }

pub struct_arguments : (rows : List Row) (r k a : ℕ) → type_at rows r ≡ type_of (types rows) (Struct k a) → IsPlace rows r → count (type_at rows a) ≤ 16
unfolding type_at
struct_arguments rows r k a e p = subst (λ (t : TypeOf). argument_count t ≤ 16) e p.arguments

pub fields_row : (m : Measure) (k : ℕ) (d : StructDecl) → IsMeasure m → slice_get m.structs.now k ≡ Some d → IsRow m.types.now d.fields
fields_row m k d is e = record {
  there = subst (λ (x : StructDecl). x.fields < length m.types.now) (get_or_from_slice_get m.structs.now k d d e) ((is.falling).within k d (slice_get_within m.structs.now k d e));
  few = subst (λ (o : Option StructDecl). Below 16 (fields_type m.types.now o)) e ((is.falling).few k);
}

module _ (rows : List Row) (structs : List StructDecl) (ws : List ℕ) where
  abbrev Until : TypeOf → ℕ → ℕ
  Until t k = cut (words_until rows structs ws t k)

  pub tuple_until : (r a k w : ℕ) → type_at rows r ≡ type_of (types rows) (Tuple a) → w ≡ cut (words_at rows structs ws (first_parts k (type_at rows a))) → w ≡ Until (type_at rows r) k
  unfolding type_at
  tuple_until r a k w e v = v ∙ sym (ap (λ (t : TypeOf). Until t k) e)

  first_none : (k : ℕ) → words_at rows structs ws (first_parts k end) ≡ 0
  unfolding width
  first_none zero = refl
  first_none (suc k) = refl

  pub struct_until : (r n a k w : ℕ) (d : StructDecl) → type_at rows r ≡ type_of (types rows) (Struct n a) → slice_get structs n ≡ Some d → w ≡ cut (words_at rows structs (list_widths rows structs ws (type_at rows a)) (first_parts k (type_at rows d.fields))) → w ≡ Until (type_at rows r) k
  unfolding type_at
  struct_until r n a k w d e at v =
      v ∙ ap (λ (o : Option StructDecl). cut (words_at rows structs (list_widths rows structs ws (type_at rows a)) (first_parts k (fields_type rows o)))) (sym at) ∙ sym (ap (λ (t : TypeOf). Until t k) e)

module _ (rows : List Row) (structs : List StructDecl) where
  first_nothing : (ws : List ℕ) (k : ℕ) → words_at rows structs ws (first_parts k end) ≡ 0
  unfolding width
  first_nothing ws zero = refl
  first_nothing ws (suc k) = refl

  pub struct_nothing : (ws : List ℕ) (r n a k : ℕ) → type_at rows r ≡ type_of (types rows) (Struct n a) → slice_get structs n ≡ None → 0 ≡ cut (words_until rows structs ws (type_at rows r) k)
  unfolding type_at
  struct_nothing ws r n a k e at =
      sym (ap (λ (t : TypeOf). cut (words_until rows structs ws t k)) e
      ∙ ap (λ (o : Option StructDecl). cut (words_at rows structs (list_widths rows structs ws (type_at rows a)) (first_parts k (fields_type rows o)))) at
      ∙ ap cut (first_nothing (list_widths rows structs ws (type_at rows a)) k))

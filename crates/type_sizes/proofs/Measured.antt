-- The size of a row from those of its parts.
use Rattle.std.proofs.Common.{min, max, ◌≡◌, ◌≢◌, ℕ, ◌+◌, ◌-◌, ◌^◌, ◌<◌, ◌≤◌, List, length, get_or, refl, sym, ap, ◌∙◌, subst as transport, arith}
use Rattle.type_table.specs.declared.row.Row.{Row}
use Rattle.type_table.specs.declared.row.Row.TheVariants.{Int, Bool as Boolean, Param, Number, End, More, Tuple, Struct}
use Rattle.type_table.specs.TypeOf.{TypeOf, tuple, end}
use Rattle.type_table.specs.Rows.{type_at, type_of, types, Keeps}
use Rattle.type_sizes.specs.declared.measure.Size.{Size}
use Rattle.type_sizes.specs.Sizes.{parts, nesting, deeper, IsSize, AreSizes}

cut_sum : (s x y a b : ℕ) → s ≡ min (x + y) (2 ^ 16 - 1) → x ≡ min a (2 ^ 16 - 1) → y ≡ min b (2 ^ 16 - 1) → s ≡ min (a + b) (2 ^ 16 - 1)
cut_sum s x y a b e p q = omega arith

cut_most : (s x y a b : ℕ) → s ≡ max x y → x ≡ min a (2 ^ 16 - 1) → y ≡ min b (2 ^ 16 - 1) → s ≡ min (max a b) (2 ^ 16 - 1)
cut_most s x y a b e p q = omega arith

cut_next : (s x a : ℕ) → s ≡ min (x + 1) (2 ^ 16 - 1) → x ≡ min a (2 ^ 16 - 1) → s ≡ min (a + 1) (2 ^ 16 - 1)
cut_next s x a e p = omega arith

-- a type of this size
sized : (rows : List Row) (r : ℕ) (t : TypeOf) (s : Size) → type_at rows r ≡ t → s.parts ≡ min (parts t) (2 ^ 16 - 1) → s.nesting ≡ min (nesting t) (2 ^ 16 - 1) → IsSize rows r s
sized rows r t s is p q = record { counted = transport (λ (u : TypeOf). s.parts ≡ min (parts u) (2 ^ 16 - 1)) (sym is) p; nested = transport (λ (u : TypeOf). s.nesting ≡ min (nesting u) (2 ^ 16 - 1)) (sym is) q }

-- a row that names no other
pub row_size : (rows : List Row) (r p n : ℕ) (row : Row) (s : Size) → type_at rows r ≡ type_of (types rows) row → min (parts (type_of (types rows) row)) (2 ^ 16 - 1) ≡ p → min (nesting (type_of (types rows) row)) (2 ^ 16 - 1) ≡ n → (s.parts ≡ p) × (s.nesting ≡ n) → IsSize rows r s
row_size rows r p n row s is a b h = sized rows r (type_of (types rows) row) s is (h.0 ∙ sym a) (h.1 ∙ sym b)

pub more_size : (rows : List Row) (r a b : ℕ) (x y s : Size) → type_at rows r ≡ type_of (types rows) (More a b) → IsSize rows b x → IsSize rows a y → s.parts ≡ min (x.parts + y.parts) (2 ^ 16 - 1) → s.nesting ≡ max x.nesting y.nesting → IsSize rows r s
unfolding type_at
more_size rows r a b x y s is p q e f =
    sized rows r (type_of (types rows) (More a b)) s is
    (cut_sum s.parts x.parts y.parts (parts (type_at rows b)) (parts (type_at rows a)) e p.counted q.counted)
    (cut_most s.nesting x.nesting y.nesting (nesting (type_at rows b)) (nesting (type_at rows a)) f p.nested q.nested)

pub struct_size : (rows : List Row) (r n a : ℕ) (x s : Size) → type_at rows r ≡ type_of (types rows) (Struct n a) → IsSize rows a x → s.parts ≡ min (x.parts + 1) (2 ^ 16 - 1) → s.nesting ≡ min (x.nesting + 1) (2 ^ 16 - 1) → IsSize rows r s
unfolding type_at
struct_size rows r n a x s is p e f =
    sized rows r (type_of (types rows) (Struct n a)) s is (cut_next s.parts x.parts (parts (type_at rows a)) e p.counted) (cut_next s.nesting x.nesting (nesting (type_at rows a)) f p.nested)

deep : (ts : List TypeOf) (row : Row) (n : ℕ) → row ≢ End → deeper (type_of ts row) n ≡ n + 1
deep ts End n h = absurd (h refl)
deep ts Int n h = refl
deep ts Boolean n h = refl
deep ts (Param k) n h = refl
deep ts (Number v) n h = refl
deep ts (More a b) n h = refl
deep ts (Tuple a) n h = refl
deep ts (Struct k a) n h = refl

pub tuple_size : (rows : List Row) (r a : ℕ) (row : Row) (x s : Size) → type_at rows r ≡ type_of (types rows) (Tuple a) → type_at rows a ≡ type_of (types rows) row → row ≢ End → IsSize rows a x → s.parts ≡ min (x.parts + 1) (2 ^ 16 - 1) → s.nesting ≡ min (x.nesting + 1) (2 ^ 16 - 1) → IsSize rows r s
unfolding type_at
tuple_size rows r a row x s is list some p e f =
    let d : nesting (type_of (types rows) (Tuple a)) ≡ nesting (type_at rows a) + 1 = ap (λ (t : TypeOf). deeper t (nesting (type_at rows a))) list ∙ deep (types rows) row (nesting (type_at rows a)) some in
    sized rows r (type_of (types rows) (Tuple a)) s is (cut_next s.parts x.parts (parts (type_at rows a)) e p.counted)
    (cut_next s.nesting x.nesting (nesting (type_at rows a)) f p.nested ∙ ap (λ (n : ℕ). min n (2 ^ 16 - 1)) (sym d))

pub unit_size : (rows : List Row) (r a : ℕ) (s : Size) → type_at rows r ≡ type_of (types rows) (Tuple a) → type_at rows a ≡ type_of (types rows) End → (s.parts ≡ 1) × (s.nesting ≡ 0) → IsSize rows r s
unfolding type_at
unit_size rows r a s is list h =
    let t : type_at rows r ≡ tuple end = is ∙ ap tuple list in
    sized rows r (tuple end) s t h.0 h.1

abbrev pub nothing : Size
nothing = record { parts = 0; nesting = 0 }

pub size_at : (rows : List Row) (sizes : List Size) (r a : ℕ) → AreSizes rows sizes → a < r → r ≡ length sizes → IsSize rows a (get_or sizes a nothing)
size_at rows sizes r a h l e = h.each a nothing (omega arith)

pub sizes_kept : (old new : List Row) (sizes : List Size) → Keeps old new → length sizes ≤ length old → AreSizes old sizes → AreSizes new sizes
sizes_kept old new sizes k l h = record {
  each = λ r x b.
      let e : type_at new r ≡ type_at old r = k.same r (omega arith) in
      record { counted = transport (λ (t : TypeOf). (get_or sizes r x).parts ≡ min (parts t) (2 ^ 16 - 1)) (sym e) (h.each r x b).counted; nested = transport (λ (t : TypeOf). (get_or sizes r x).nesting ≡ min (nesting t) (2 ^ 16 - 1)) (sym e) (h.each r x b).nested };
}

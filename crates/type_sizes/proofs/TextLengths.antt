-- The length of a row's text from those of its parts.
use Rattle.std.proofs.Common.{min, ◌≡◌, ◌≢◌, ℕ, ◌+◌, ◌-◌, ◌^◌, ◌<◌, ◌≤◌, List, [], ◌∷◌, ◌++◌, length, get_or, refl, sym, ap, ◌∙◌, subst as transport, arith, length-append}
use Rattle.std.specs.Prelude.{codes}
use Rattle.type_table.specs.declared.row.Row.{Row}
use Rattle.type_table.specs.declared.row.Row.TheVariants.{End, More, Tuple, Struct}
use Rattle.type_table.specs.declared.decl.StructDecl.{StructDecl}
use Rattle.type_table.specs.TypeOf.{TypeOf}
use Rattle.type_table.specs.Rows.{at, type_at, type_of, types, Keeps}
use Rattle.type_sizes.specs.Spelling.{struct_text, comma, angled, text_of}
use Rattle.type_sizes.specs.Lengths.{AreLengths}
use Rattle.type_sizes.proofs.Spelled.{in_angles}

-- the text of a row is that of its type
pub row_length : (rows : List Row) (structs : List StructDecl) (generics : List (List ℕ)) (r n : ℕ) (row : Row) → type_at rows r ≡ type_of (types rows) row → n ≡ min (length (text_of structs generics (type_of (types rows) row))) (2 ^ 64 - 1) → n ≡ min (length (text_of structs generics (type_at rows r))) (2 ^ 64 - 1)
row_length rows structs generics r n row is e = e ∙ sym (ap (λ (t : TypeOf). min (length (text_of structs generics t)) (2 ^ 64 - 1)) is)

pub small : (n m : ℕ) → n < 2 ^ 64 → n ≡ m → n ≡ min m (2 ^ 64 - 1)
small n m l e = omega arith

pub more_length : (rows : List Row) (structs : List StructDecl) (generics : List (List ℕ)) (lengths : List ℕ) (r a b c f n : ℕ) → type_at rows r ≡ type_of (types rows) (More a b) → (a < r) × (b < r) → r ≡ length lengths → AreLengths rows structs generics lengths → c ≡ length (comma (type_at rows b)) → f ≡ min (get_or lengths a 0 + c) (2 ^ 64 - 1) → n ≡ min (f + get_or lengths b 0) (2 ^ 64 - 1) → n ≡ min (length (text_of structs generics (type_at rows r))) (2 ^ 64 - 1)
unfolding type_at
more_length rows structs generics lengths r a b c f n is early here h p q s =
    let la : a < r = early.0 in
    let lb : b < r = early.1 in
    let x : get_or lengths a 0 ≡ min (length (text_of structs generics (type_at rows a))) (2 ^ 64 - 1) = h.each a 0 (omega arith) in
    let y : get_or lengths b 0 ≡ min (length (text_of structs generics (type_at rows b))) (2 ^ 64 - 1) = h.each b 0 (omega arith) in
    let whole : length (text_of structs generics (type_at rows a) ++ comma (type_at rows b) ++ text_of structs generics (type_at rows b)) ≡ length (text_of structs generics (type_at rows a)) + length (comma (type_at rows b)) + length (text_of structs generics (type_at rows b)) =
    length-append (text_of structs generics (type_at rows a) ++ comma (type_at rows b)) (text_of structs generics (type_at rows b)) ∙ ap (λ (k : ℕ). k + length (text_of structs generics (type_at rows b))) (length-append (text_of structs generics (type_at rows a)) (comma (type_at rows b))) in
    row_length rows structs generics r n (More a b) is (omega (arith, whole))

in_signs : (a text b : List ℕ) → length a ≡ 1 → length b ≡ 1 → length ((a ++ text) ++ b) ≡ length text + 2
in_signs a text b p q = omega (arith, length-append (a ++ text) b, length-append a text)

pub tuple_length : (rows : List Row) (structs : List StructDecl) (generics : List (List ℕ)) (lengths : List ℕ) (r a n : ℕ) → type_at rows r ≡ type_of (types rows) (Tuple a) → a < r → r ≡ length lengths → AreLengths rows structs generics lengths → n ≡ min (get_or lengths a 0 + 2) (2 ^ 64 - 1) → n ≡ min (length (text_of structs generics (type_at rows r))) (2 ^ 64 - 1)
unfolding type_at
tuple_length rows structs generics lengths r a n is la here h e =
    let x : get_or lengths a 0 ≡ min (length (text_of structs generics (type_at rows a))) (2 ^ 64 - 1) = h.each a 0 (omega arith) in
    let w : length (codes "(" ++ text_of structs generics (type_at rows a) ++ codes ")") ≡ length (text_of structs generics (type_at rows a)) + 2 = in_signs (codes "(") (text_of structs generics (type_at rows a)) (codes ")") refl refl in
    row_length rows structs generics r n (Tuple a) is (omega (arith, w))

pub struct_length_is : (rows : List Row) (structs : List StructDecl) (generics : List (List ℕ)) (lengths : List ℕ) (r k a p i n : ℕ) → type_at rows r ≡ type_of (types rows) (Struct k a) → a < r → r ≡ length lengths → AreLengths rows structs generics lengths → p ≡ min (length (struct_text structs k)) (2 ^ 64 - 1) → ((text : List ℕ) → get_or lengths a 0 ≡ min (length text) (2 ^ 64 - 1) → i ≡ min (length (angled (type_at rows a) text)) (2 ^ 64 - 1)) → n ≡ min (p + i) (2 ^ 64 - 1) → n ≡ min (length (text_of structs generics (type_at rows r))) (2 ^ 64 - 1)
unfolding type_at
struct_length_is rows structs generics lengths r k a p i n is la here h e f g =
    let inner : List ℕ = text_of structs generics (type_at rows a) in
    let x : i ≡ min (length (angled (type_at rows a) inner)) (2 ^ 64 - 1) = f inner (h.each a 0 (omega arith)) in
    let w : length (struct_text structs k ++ angled (type_at rows a) inner) ≡ length (struct_text structs k) + length (angled (type_at rows a) inner) = length-append (struct_text structs k) (angled (type_at rows a) inner) in
    row_length rows structs generics r n (Struct k a) is (omega (arith, w))

pub angled_none : (rows : List Row) (a : ℕ) (text : List ℕ) → type_at rows a ≡ type_of (types rows) End → 0 ≡ min (length (angled (type_at rows a) text)) (2 ^ 64 - 1)
angled_none rows a text is = sym (ap (λ (t : TypeOf). min (length (angled t text)) (2 ^ 64 - 1)) is)

pub angled_some : (rows : List Row) (a inner n : ℕ) (row : Row) (text : List ℕ) → type_at rows a ≡ type_of (types rows) row → row ≢ End → inner ≡ min (length text) (2 ^ 64 - 1) → n ≡ min (inner + 2) (2 ^ 64 - 1) → n ≡ min (length (angled (type_at rows a) text)) (2 ^ 64 - 1)
angled_some rows a inner n row text is some p e =
    let shape : length (angled (type_at rows a) text) ≡ length (codes "<" ++ text ++ codes ">") = ap (λ (t : TypeOf). length (angled t text)) is ∙ ap length (in_angles (types rows) row text some) in
    let w : length (codes "<" ++ text ++ codes ">") ≡ length text + 2 = in_signs (codes "<") text (codes ">") refl refl in
    omega arith

pub lengths_kept : (old new : List Row) (structs : List StructDecl) (generics : List (List ℕ)) (lengths : List ℕ) → Keeps old new → length lengths ≤ length old → AreLengths old structs generics lengths → AreLengths new structs generics lengths
lengths_kept old new structs generics lengths k l h = record {
  each = λ r x b.
      let e : type_at new r ≡ type_at old r = k.same r (omega arith) in
      h.each r x b ∙ sym (ap (λ (t : TypeOf). min (length (text_of structs generics t)) (2 ^ 64 - 1)) e);
}

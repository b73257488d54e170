-- The text of a row's type from those of its parts.
use Rattle.std.proofs.Common.{◌≡◌, ◌≢◌, ℕ, ◌<◌, List, [], ◌∷◌, ◌++◌, length, refl, sym, ap, ◌∙◌}
use Rattle.std.specs.Prelude.{codes}
use Rattle.type_table.specs.declared.row.Row.{Row}
use Rattle.type_table.specs.declared.row.Row.TheVariants.{Int, Bool as Boolean, Param, Number, End, More, Tuple, Struct}
use Rattle.type_table.specs.declared.decl.StructDecl.{StructDecl}
use Rattle.type_table.specs.TypeOf.{TypeOf, end, more, tuple, struct}
use Rattle.type_table.specs.Rows.{at, type_at, type_of, types}
use Rattle.type_sizes.specs.Spelling.{struct_text, comma, angled, text_of}

pub append-none : (xs : List ℕ) → xs ++ [] ≡ xs
append-none [] = refl
append-none (x ∷ xs) = ap (λ (ys : List ℕ). x ∷ ys) (append-none xs)

three_after : (a b c d : List ℕ) → ((a ++ b) ++ c) ++ d ≡ a ++ ((b ++ c) ++ d)
three_after [] b c d = refl
three_after (x ∷ a) b c d = ap (λ (ys : List ℕ). x ∷ ys) (three_after a b c d)

two_after : (a b c : List ℕ) → (a ++ b) ++ c ≡ a ++ (b ++ c)
two_after [] b c = refl
two_after (x ∷ a) b c = ap (λ (ys : List ℕ). x ∷ ys) (two_after a b c)

-- three pieces one after the other
put_three : (old x y new b c d : List ℕ) → x ≡ old ++ b → y ≡ x ++ c → new ≡ y ++ d → new ≡ old ++ ((b ++ c) ++ d)
put_three old x y new b c d p q r = r ∙ ap (λ (z : List ℕ). z ++ d) (q ∙ ap (λ (z : List ℕ). z ++ c) p) ∙ three_after old b c d

pub more_text : (rows : List Row) (structs : List StructDecl) (generics : List (List ℕ)) (r a b : ℕ) (old x y new : List ℕ) → type_at rows r ≡ type_of (types rows) (More a b) → x ≡ old ++ text_of structs generics (type_at rows a) → y ≡ x ++ comma (type_at rows b) → new ≡ y ++ text_of structs generics (type_at rows b) → new ≡ old ++ text_of structs generics (type_at rows r)
unfolding type_at
more_text rows structs generics r a b old x y new is p q s =
    put_three old x y new (text_of structs generics (type_at rows a)) (comma (type_at rows b)) (text_of structs generics (type_at rows b)) p q s
    ∙ sym (ap (λ (t : TypeOf). old ++ text_of structs generics t) is)

pub tuple_text : (rows : List Row) (structs : List StructDecl) (generics : List (List ℕ)) (r a : ℕ) (old x y new : List ℕ) → type_at rows r ≡ type_of (types rows) (Tuple a) → x ≡ old ++ codes "(" → y ≡ x ++ text_of structs generics (type_at rows a) → new ≡ y ++ codes ")" → new ≡ old ++ text_of structs generics (type_at rows r)
unfolding type_at
tuple_text rows structs generics r a old x y new is p q s =
    put_three old x y new (codes "(") (text_of structs generics (type_at rows a)) (codes ")") p q s ∙ sym (ap (λ (t : TypeOf). old ++ text_of structs generics t) is)

pub name_of_struct : (rows : List Row) (structs : List StructDecl) (generics : List (List ℕ)) (r n a : ℕ) (old new : List ℕ) → type_at rows r ≡ type_of (types rows) (Struct n a) → type_at rows a ≡ type_of (types rows) End → new ≡ old ++ struct_text structs n → new ≡ old ++ text_of structs generics (type_at rows r)
unfolding type_at
name_of_struct rows structs generics r n a old new is list e =
    let t : type_at rows r ≡ struct n end = is ∙ ap (struct n) list in
    e ∙ ap (λ (z : List ℕ). old ++ z) (sym (append-none (struct_text structs n))) ∙ sym (ap (λ (u : TypeOf). old ++ text_of structs generics u) t)

pub in_angles : (ts : List TypeOf) (row : Row) (x : List ℕ) → row ≢ End → angled (type_of ts row) x ≡ codes "<" ++ x ++ codes ">"
in_angles ts End x h = absurd (h refl)
in_angles ts Int x h = refl
in_angles ts Boolean x h = refl
in_angles ts (Param k) x h = refl
in_angles ts (Number v) x h = refl
in_angles ts (More a b) x h = refl
in_angles ts (Tuple a) x h = refl
in_angles ts (Struct k a) x h = refl

pub struct_with : (rows : List Row) (structs : List StructDecl) (generics : List (List ℕ)) (r n a : ℕ) (row : Row) (old w x y new : List ℕ) → type_at rows r ≡ type_of (types rows) (Struct n a) → type_at rows a ≡ type_of (types rows) row → row ≢ End → w ≡ old ++ struct_text structs n → x ≡ w ++ codes "<" → y ≡ x ++ text_of structs generics (type_at rows a) → new ≡ y ++ codes ">" → new ≡ old ++ text_of structs generics (type_at rows r)
unfolding type_at
struct_with rows structs generics r n a row old w x y new is list some p q s u =
    let inner : List ℕ = text_of structs generics (type_at rows a) in
    let shape : angled (type_at rows a) inner ≡ codes "<" ++ inner ++ codes ">" = ap (λ (t : TypeOf). angled t inner) list ∙ in_angles (types rows) row inner some in
    put_three w x y new (codes "<") inner (codes ">") q s u ∙ ap (λ (z : List ℕ). z ++ (codes "<" ++ inner ++ codes ">")) p ∙ two_after old (struct_text structs n) (codes "<" ++ inner ++ codes ">")
    ∙ ap (λ (z : List ℕ). old ++ (struct_text structs n ++ z)) (sym shape) ∙ sym (ap (λ (t : TypeOf). old ++ text_of structs generics t) is)

-- The form of a row from those of its parts.
use Rattle.std.proofs.Common.{min, max, ◌≡◌, ◌≢◌, ℕ, zero, suc, ◌+◌, ◌*◌, ◌<◌, ◌≤◌, ◌-◌, List, [], ◌∷◌, ◌++◌, length, take, drop, get_or, refl, sym, ap, ◌∙◌, subst as transport, arith, inl, inr, Some, None, Option}
use Rattle.std.proofs.lemmas.Bool.{cases_lt}
use Rattle.std.proofs.lemmas.Option.{slice_get_within, get_or_from_slice_get}
use Rattle.std.specs.Prelude.{Vec, ℤ, slice_get}
use Rattle.std.specs.Global.{Global}
use Rattle.type_table.specs.declared.row.Row.{Row}
use Rattle.type_table.specs.declared.row.Row.TheVariants.{Int, Bool as Boolean, Param, Number, End, More, Tuple, Struct}
use Rattle.type_table.specs.declared.decl.StructDecl.{StructDecl}
use Rattle.type_table.specs.TypeOf.{TypeOf, int, bool, param, number, end, more, tuple, struct}
use Rattle.type_table.specs.Rows.{type_at, type_of, types, Names}
use Rattle.type_table.specs.Substitution.{Below}
use Rattle.type_table.specs.Depth.{Under, fields_of, fields_type, depth_of, AreFalling}
use Rattle.type_widths.specs.Width.{width, width_by, widths_by, struct_width, Alike}
use Rattle.type_widths.specs.Form.{dot, IsForm, AreForms, IsSum, IsScaled}
use Rattle.type_widths.specs.Level.{level_of, AreDone}
use Rattle.type_widths.proofs.Dots.{alike_trans, alike_add, alike_mul_left, take_whole, capped, dot_none}
use Rattle.type_widths.proofs.Levels.{under_level, under_wider, done_at, done_below}

plain_form : (fields : ℕ → TypeOf) (depth : ℕ → ℕ) (t : TypeOf) (k : ℕ) (new : List ℕ) → length new ≡ 17 → ((ws : List ℕ) → dot new (1 ∷ ws) ≡ k) → ((d : ℕ) (ws : List ℕ) → width fields d ws t ≡ k) → IsForm fields depth t new
plain_form fields depth t k new size e w = record { size = size; each = λ d ws b u. inl (e ws ∙ sym (w d ws)) }

pub int_form : (fields : ℕ → TypeOf) (depth : ℕ → ℕ) (t : TypeOf) (new : List ℕ) → t ≡ int → (length new ≡ 17) × ((ws : List ℕ) → dot new (1 ∷ ws) ≡ 1) → IsForm fields depth t new
unfolding width
int_form fields depth t new is h = plain_form fields depth t 1 new h.0 h.1 (λ d ws. ap (width fields d ws) is)

pub bool_form : (fields : ℕ → TypeOf) (depth : ℕ → ℕ) (t : TypeOf) (new : List ℕ) → t ≡ bool → (length new ≡ 17) × ((ws : List ℕ) → dot new (1 ∷ ws) ≡ 1) → IsForm fields depth t new
unfolding width
bool_form fields depth t new is h = plain_form fields depth t 1 new h.0 h.1 (λ d ws. ap (width fields d ws) is)

pub number_form : (fields : ℕ → TypeOf) (depth : ℕ → ℕ) (t : TypeOf) (v : ℤ) (new : List ℕ) → t ≡ number v → (length new ≡ 17) × ((ws : List ℕ) → dot new (1 ∷ ws) ≡ 0) → IsForm fields depth t new
unfolding width
number_form fields depth t v new is h = plain_form fields depth t 0 new h.0 h.1 (λ d ws. ap (width fields d ws) is)

pub end_form : (fields : ℕ → TypeOf) (depth : ℕ → ℕ) (t : TypeOf) (new : List ℕ) → t ≡ end → (length new ≡ 17) × ((ws : List ℕ) → dot new (1 ∷ ws) ≡ 0) → IsForm fields depth t new
unfolding width
end_form fields depth t new is h = plain_form fields depth t 0 new h.0 h.1 (λ d ws. ap (width fields d ws) is)

pub param_form : (fields : ℕ → TypeOf) (depth : ℕ → ℕ) (t : TypeOf) (k : ℕ) (new : List ℕ) → t ≡ param k → (length new ≡ 17) × ((ws : List ℕ) → k < 16 → dot new (1 ∷ ws) ≡ get_or ws k 0) → IsForm fields depth t new
unfolding width
param_form fields depth t k new is h = record { size = h.0; each = λ d ws b u. inl (h.1 ws (transport (Below 16) is b) ∙ sym (ap (width fields d ws) is)) }

more_form : (fields : ℕ → TypeOf) (depth : ℕ → ℕ) (t a b : TypeOf) (f g new : List ℕ) → t ≡ more a b → IsForm fields depth a f → IsForm fields depth b g → IsScaled 1 g f new → IsForm fields depth t new
unfolding width
more_form fields depth t a b f g new is one two scale = record {
  size = scale.size ∙ two.size;
  each = λ d ws below under.
      let s : ℕ → List ℕ → ℕ = struct_width fields d in
      let lb : Below 16 a × Below 16 b = transport (Below 16) is below in
      let lu : Under depth d a × Under depth d b = transport (Under depth d) is under in
      let e : width_by s ws t ≡ width_by s ws a + width_by s ws b = ap (width_by s ws) is in
      alike_trans (dot new (1 ∷ ws)) (dot g (1 ∷ ws) + 1 * dot f (1 ∷ ws)) (width_by s ws t) (scale.each (1 ∷ ws))
      (alike_trans (dot g (1 ∷ ws) + 1 * dot f (1 ∷ ws)) (width_by s ws b + 1 * width_by s ws a) (width_by s ws t)
      (alike_add (dot g (1 ∷ ws)) (width_by s ws b) (1 * dot f (1 ∷ ws)) (1 * width_by s ws a) (two.each d ws lb.1 lu.1) (alike_mul_left 1 (dot f (1 ∷ ws)) (width_by s ws a) (one.each d ws lb.0 lu.0)))
      (inl (omega arith)));
}

tuple_form : (fields : ℕ → TypeOf) (depth : ℕ → ℕ) (t a : TypeOf) (f none new : List ℕ) → t ≡ tuple a → (length none ≡ 17) × ((ws : List ℕ) → dot none (1 ∷ ws) ≡ 0) → IsForm fields depth a f → IsScaled 1 none f new → IsForm fields depth t new
unfolding width
tuple_form fields depth t a f none new is zeros one scale = record {
  size = scale.size ∙ zeros.0;
  each = λ d ws below under.
      let s : ℕ → List ℕ → ℕ = struct_width fields d in
      let e : width_by s ws t ≡ width_by s ws a = ap (width_by s ws) is in
      let n : dot none (1 ∷ ws) ≡ 0 = zeros.1 ws in
      let m : dot none (1 ∷ ws) + 1 * dot f (1 ∷ ws) ≡ dot f (1 ∷ ws) = omega arith in
      alike_trans (dot new (1 ∷ ws)) (dot none (1 ∷ ws) + 1 * dot f (1 ∷ ws)) (width_by s ws t) (scale.each (1 ∷ ws))
      (alike_trans (dot none (1 ∷ ws) + 1 * dot f (1 ∷ ws)) (dot f (1 ∷ ws)) (width_by s ws t) (inl m)
      (alike_trans (dot f (1 ∷ ws)) (width_by s ws a) (width_by s ws t) (one.each d ws (transport (Below 16) is below) (transport (Under depth d) is under)) (inl (sym e))));
}

parted : (g vs : List ℕ) → 0 < length g → dot g (1 ∷ vs) ≡ dot (drop 1 g) vs + get_or g 0 0 * 1
parted [] vs h = absurd (omega arith)
parted (c ∷ rest) vs h = omega arith

struct_by_depth : (fields : ℕ → TypeOf) (depth : ℕ → ℕ) (n c : ℕ) (ts : TypeOf) (g total one new : List ℕ) (d : ℕ) (ws : List ℕ) → Under depth (depth n) (fields n) → Below 16 (fields n) → IsForm fields depth (fields n) g → c ≡ get_or g 0 0 → IsSum fields depth (drop 1 g) ts total → ((ws : List ℕ) → dot one (1 ∷ ws) ≡ 1) → IsScaled c total one new → Below 16 ts → Under depth d ts → depth n < d → Alike (dot new (1 ∷ ws)) (width fields d ws (struct n ts))
unfolding width
struct_by_depth fields depth n c ts g total one new zero ws falls few form first sum unit scale below under h = absurd (omega arith)
struct_by_depth fields depth n c ts g total one new (suc d) ws falls few form first sum unit scale below under h =
    let s : ℕ → List ℕ → ℕ = struct_width fields (suc d) in
    let vs : List ℕ = widths_by s ws ts in
    let size : length g ≡ 17 = form.size in
    let u : dot total (1 ∷ ws) + c * dot one (1 ∷ ws) ≡ dot total (1 ∷ ws) + c * 1 = ap (λ (x : ℕ). dot total (1 ∷ ws) + c * x) (unit ws) in
    let p : dot g (1 ∷ vs) ≡ dot (drop 1 g) vs + c * 1 = parted g vs (omega arith) ∙ ap (λ (x : ℕ). dot (drop 1 g) vs + x * 1) (sym first) in
    alike_trans (dot new (1 ∷ ws)) (dot total (1 ∷ ws) + c * dot one (1 ∷ ws)) (s n vs) (scale.each (1 ∷ ws))
    (alike_trans (dot total (1 ∷ ws) + c * dot one (1 ∷ ws)) (dot total (1 ∷ ws) + c * 1) (s n vs) (inl u)
    (alike_trans (dot total (1 ∷ ws) + c * 1) (dot (drop 1 g) vs + c * 1) (s n vs) (alike_add (dot total (1 ∷ ws)) (dot (drop 1 g) vs) (c * 1) (c * 1) (sum.each (suc d) ws below under) (inl refl))
    (alike_trans (dot (drop 1 g) vs + c * 1) (dot g (1 ∷ vs)) (s n vs) (inl (sym p)) (form.each d vs few (under_wider depth (depth n) d (fields n) (omega arith) falls)))))

pub struct_is_form : (fields : ℕ → TypeOf) (depth : ℕ → ℕ) (n c : ℕ) (ts : TypeOf) (g total one new : List ℕ) → Under depth (depth n) (fields n) → Below 16 (fields n) → IsForm fields depth (fields n) g → c ≡ get_or g 0 0 → IsSum fields depth (drop 1 g) ts total → (length one ≡ 17) × ((ws : List ℕ) → dot one (1 ∷ ws) ≡ 1) → IsScaled c total one new → IsForm fields depth (struct n ts) new
struct_is_form fields depth n c ts g total one new falls few form first sum unit scale = record { size = scale.size ∙ sum.size; each = λ d ws below under. struct_by_depth fields depth n c ts g total one new d ws falls few form first sum unit.1 scale below under.1 under.0 }

-- a struct that is not there has no word
pub missing_form : (rows : List Row) (structs : List StructDecl) (n : ℕ) (ts : TypeOf) (new : List ℕ) → slice_get structs n ≡ None → (length new ≡ 17) × ((ws : List ℕ) → dot new (1 ∷ ws) ≡ 0) → IsForm (fields_of rows structs) (depth_of structs) (struct n ts) new
unfolding width
missing_form rows structs n ts new e h = record { size = h.0; each = λ d ws b u. inl (h.1 ws ∙ sym (no_word d ws)) }
  where
    none : fields_of rows structs n ≡ end
    none = ap (fields_type rows) e

    no_word : (d : ℕ) (ws : List ℕ) → width_by (struct_width (fields_of rows structs) d) ws (struct n ts) ≡ 0
    no_word zero ws = refl
    no_word (suc d) ws = ap (width_by (struct_width (fields_of rows structs) d) (widths_by (struct_width (fields_of rows structs) (suc d)) ws ts)) none

sum_more : (fields : ℕ → TypeOf) (depth : ℕ → ℕ) (t a b : TypeOf) (k : ℕ) (rest total form new : List ℕ) → t ≡ more a b → IsSum fields depth rest b total → IsForm fields depth a form → IsScaled k total form new → IsSum fields depth (k ∷ rest) t new
unfolding width
sum_more fields depth t a b k rest total form new is sum one scale = record {
  size = scale.size ∙ sum.size;
  each = λ d ws below under.
      let s : ℕ → List ℕ → ℕ = struct_width fields d in
      let lb : Below 16 a × Below 16 b = transport (Below 16) is below in
      let lu : Under depth d a × Under depth d b = transport (Under depth d) is under in
      let x : Alike (dot form (1 ∷ ws)) (width_by s ws a) = one.each d ws lb.0 lu.0 in
      let y : Alike (dot total (1 ∷ ws)) (dot rest (widths_by s ws b)) = sum.each d ws lb.1 lu.1 in
      let e : dot (k ∷ rest) (widths_by s ws t) ≡ k * width_by s ws a + dot rest (widths_by s ws b) = ap (λ (u : TypeOf). dot (k ∷ rest) (widths_by s ws u)) is in
      let z : Alike (dot total (1 ∷ ws) + k * dot form (1 ∷ ws)) (dot rest (widths_by s ws b) + k * width_by s ws a) = alike_add (dot total (1 ∷ ws)) (dot rest (widths_by s ws b)) (k * dot form (1 ∷ ws)) (k * width_by s ws a) y (alike_mul_left k (dot form (1 ∷ ws)) (width_by s ws a) x) in
      alike_trans (dot new (1 ∷ ws)) (dot total (1 ∷ ws) + k * dot form (1 ∷ ws)) (dot (k ∷ rest) (widths_by s ws t)) (scale.each (1 ∷ ws))
      (alike_trans (dot total (1 ∷ ws) + k * dot form (1 ∷ ws)) (dot rest (widths_by s ws b) + k * width_by s ws a) (dot (k ∷ rest) (widths_by s ws t)) z (inl (omega arith)));
}

pub rest_same : (xs : List ℕ) → take (length xs - 1) (drop 1 xs) ≡ drop 1 xs
rest_same [] = refl
rest_same (x ∷ xs) = take_whole xs (length (x ∷ xs) - 1) (omega arith)

-- the rest of the factors and the members after the first
pub sum_turn : (rows : List Row) (structs : List StructDecl) (list first others : ℕ) (factors got total form shown new : List ℕ) → 0 < length factors → type_at rows list ≡ type_of (types rows) (More first others) → IsSum (fields_of rows structs) (depth_of structs) (take (length factors - 1) (drop 1 factors)) (type_at rows others) got → total ≡ got → IsForm (fields_of rows structs) (depth_of structs) (type_at rows first) shown → form ≡ shown → IsScaled (get_or factors 0 0) total form new → IsSum (fields_of rows structs) (depth_of structs) factors (type_at rows list) new
unfolding type_at
sum_turn rows structs list first others [] got total form shown new some is sum e one f scale = absurd (omega arith)
sum_turn rows structs list first others (k ∷ rest) got total form shown new some is sum e one f scale =
    let fields : ℕ → TypeOf = fields_of rows structs in
    let depth : ℕ → ℕ = depth_of structs in
    let whole : IsSum fields depth rest (type_at rows others) got = transport (λ (ys : List ℕ). IsSum fields depth ys (type_at rows others) got) (rest_same (k ∷ rest)) sum in
    sum_more fields depth (type_at rows list) (type_at rows first) (type_at rows others) k rest total form new is (transport (IsSum fields depth rest (type_at rows others)) (sym e) whole) (transport (IsForm fields depth (type_at rows first)) (sym f) one) scale

-- a struct that is there has its fields in the table
fields_within : (rows : List Row) (structs : List StructDecl) (n : ℕ) (s : StructDecl) → AreFalling rows structs → slice_get structs n ≡ Some s → s.fields < length rows
fields_within rows structs n s f there = transport (λ (x : StructDecl). x.fields < length rows) (get_or_from_slice_get structs n s s there) (f.within n s (slice_get_within structs n s there))

-- the levels of the parts of a list
pub more_levels : (rows : List Row) (structs : List StructDecl) (list first others level : ℕ) → type_at rows list ≡ type_of (types rows) (More first others) → level_of (depth_of structs) (type_at rows list) ≤ level → (level_of (depth_of structs) (type_at rows first) ≤ level) × (level_of (depth_of structs) (type_at rows others) ≤ level)
unfolding type_at
more_levels rows structs list first others level is l =
    let e : level_of (depth_of structs) (type_at rows list) ≡ max (level_of (depth_of structs) (type_at rows first)) (level_of (depth_of structs) (type_at rows others)) = ap (level_of (depth_of structs)) is in
    (omega arith, omega arith)

pub tuple_level : (rows : List Row) (structs : List StructDecl) (r parts level : ℕ) → type_at rows r ≡ type_of (types rows) (Tuple parts) → level ≡ level_of (depth_of structs) (type_at rows r) → level_of (depth_of structs) (type_at rows parts) ≤ level
unfolding type_at
tuple_level rows structs r parts level is l =
    let e : level_of (depth_of structs) (type_at rows r) ≡ level_of (depth_of structs) (type_at rows parts) = ap (level_of (depth_of structs)) is in
    omega arith

pub struct_levels : (rows : List Row) (structs : List StructDecl) (r n list level : ℕ) → type_at rows r ≡ type_of (types rows) (Struct n list) → level ≡ level_of (depth_of structs) (type_at rows r) → (depth_of structs n < level) × (level_of (depth_of structs) (type_at rows list) ≤ level)
unfolding type_at
struct_levels rows structs r n list level is l =
    let e : level_of (depth_of structs) (type_at rows r) ≡ max (suc (depth_of structs n)) (level_of (depth_of structs) (type_at rows list)) = ap (level_of (depth_of structs)) is in
    (omega arith, omega arith)

pub more_row : (rows : List Row) (structs : List StructDecl) (r a b : ℕ) (f g ff gg new : List ℕ) → type_at rows r ≡ type_of (types rows) (More a b) → IsForm (fields_of rows structs) (depth_of structs) (type_at rows a) ff → IsForm (fields_of rows structs) (depth_of structs) (type_at rows b) gg → f ≡ ff → g ≡ gg → IsScaled 1 g f new → IsForm (fields_of rows structs) (depth_of structs) (type_at rows r) new
unfolding type_at
more_row rows structs r a b f g ff gg new is p q u v scale =
    more_form (fields_of rows structs) (depth_of structs) (type_at rows r) (type_at rows a) (type_at rows b) f g new is (transport (IsForm (fields_of rows structs) (depth_of structs) (type_at rows a)) (sym u) p) (transport (IsForm (fields_of rows structs) (depth_of structs) (type_at rows b)) (sym v) q) scale

pub tuple_row : (rows : List Row) (structs : List StructDecl) (r a : ℕ) (f ff none zeros new : List ℕ) → type_at rows r ≡ type_of (types rows) (Tuple a) → IsForm (fields_of rows structs) (depth_of structs) (type_at rows a) ff → f ≡ ff → none ≡ zeros → (length zeros ≡ 17) × ((ws : List ℕ) → dot zeros (1 ∷ ws) ≡ 0) → IsScaled 1 none f new → IsForm (fields_of rows structs) (depth_of structs) (type_at rows r) new
unfolding type_at
tuple_row rows structs r a f ff none zeros new is p u v z scale =
    tuple_form (fields_of rows structs) (depth_of structs) (type_at rows r) (type_at rows a) f none new is (transport (λ (ys : List ℕ). (length ys ≡ 17) × ((ws : List ℕ) → dot ys (1 ∷ ws) ≡ 0)) (sym v) z) (transport (IsForm (fields_of rows structs) (depth_of structs) (type_at rows a)) (sym u) p) scale

pub struct_row : (rows : List Row) (structs : List StructDecl) (r n a : ℕ) (new : List ℕ) → type_at rows r ≡ type_of (types rows) (Struct n a) → IsForm (fields_of rows structs) (depth_of structs) (struct n (type_at rows a)) new → IsForm (fields_of rows structs) (depth_of structs) (type_at rows r) new
unfolding type_at
struct_row rows structs r n a new is p = transport (λ (t : TypeOf). IsForm (fields_of rows structs) (depth_of structs) t new) (sym is) p

-- the form of a list's first member, and that of the others
pub first_form : (rows : List Row) (structs : List StructDecl) (level i list first others : ℕ) (forms : List (Vec ℕ Global)) (x : Vec ℕ Global) → AreDone rows structs level i forms → type_at rows list ≡ type_of (types rows) (More first others) → Names list (More first others) → list < length rows → list ≤ i → level_of (depth_of structs) (type_at rows list) ≤ level → x ≡ get_or forms first x → IsForm (fields_of rows structs) (depth_of structs) (type_at rows first) x.items
first_form rows structs level i list first others forms x h is names room b l e =
    let a : first < list = names.0 in
    done_at rows structs level i first forms x h (omega arith) (omega arith) (more_levels rows structs list first others level is l).0 e

pub others_form : (rows : List Row) (structs : List StructDecl) (level i list first others : ℕ) (forms : List (Vec ℕ Global)) (x : Vec ℕ Global) → AreDone rows structs level i forms → type_at rows list ≡ type_of (types rows) (More first others) → Names list (More first others) → list < length rows → list ≤ i → level_of (depth_of structs) (type_at rows list) ≤ level → x ≡ get_or forms others x → IsForm (fields_of rows structs) (depth_of structs) (type_at rows others) x.items
others_form rows structs level i list first others forms x h is names room b l e =
    let a : others < list = names.1 in
    done_at rows structs level i others forms x h (omega arith) (omega arith) (more_levels rows structs list first others level is l).1 e

pub parts_form : (rows : List Row) (structs : List StructDecl) (level r parts : ℕ) (forms : List (Vec ℕ Global)) (x : Vec ℕ Global) → AreDone rows structs level r forms → type_at rows r ≡ type_of (types rows) (Tuple parts) → parts < r → r < length rows → level ≡ level_of (depth_of structs) (type_at rows r) → x ≡ get_or forms parts x → IsForm (fields_of rows structs) (depth_of structs) (type_at rows parts) x.items
parts_form rows structs level r parts forms x h is a room l e = done_at rows structs level r parts forms x h (omega arith) a (tuple_level rows structs r parts level is l) e

pub sizes_same : (a b c d : List ℕ) → a ≡ b → length b ≡ 17 → c ≡ d → length d ≡ 17 → length a ≡ length c
sizes_same a b c d e n f m = ap length e ∙ n ∙ sym (ap length f ∙ m)

pub low_here : (level n : ℕ) → level ≡ n → n ≤ level
low_here level n e = omega arith

-- the form of the fields of a struct that is there
pub decl_form : (rows : List Row) (structs : List StructDecl) (level i n : ℕ) (s : StructDecl) (forms : List (Vec ℕ Global)) (x : Vec ℕ Global) (shown : List ℕ) → AreFalling rows structs → AreDone rows structs level i forms → depth_of structs n < level → slice_get structs n ≡ Some s → x ≡ get_or forms s.fields x → shown ≡ x.items → IsForm (fields_of rows structs) (depth_of structs) (fields_of rows structs n) shown
decl_form rows structs level i n s forms x shown f h l there e v =
    let t : fields_of rows structs n ≡ type_at rows s.fields = ap (fields_type rows) there in
    let room : s.fields < length rows = fields_within rows structs n s f there in
    let low : level_of (depth_of structs) (fields_of rows structs n) ≤ depth_of structs n = under_level (depth_of structs) (depth_of structs n) (fields_of rows structs n) (f.falls n) in
    let low_row : level_of (depth_of structs) (type_at rows s.fields) < level = let q : level_of (depth_of structs) (fields_of rows structs n) ≡ level_of (depth_of structs) (type_at rows s.fields) = ap (level_of (depth_of structs)) t in omega arith in
    transport (λ (ys : List ℕ). IsForm (fields_of rows structs) (depth_of structs) (fields_of rows structs n) ys) (sym v)
    (transport (λ (u : TypeOf). IsForm (fields_of rows structs) (depth_of structs) u x.items) (sym t) (done_below rows structs level i s.fields forms x h room low_row e))

pub fields_room : (rows : List Row) (structs : List StructDecl) (level i n : ℕ) (s : StructDecl) (forms : List (Vec ℕ Global)) → AreFalling rows structs → AreDone rows structs level i forms → slice_get structs n ≡ Some s → s.fields < length forms
fields_room rows structs level i n s forms f h there = let room : s.fields < length rows = fields_within rows structs n s f there in let c : length forms ≡ length rows = h.count in omega arith

pub applied_form : (rows : List Row) (structs : List StructDecl) (n : ℕ) (ts : TypeOf) (g got total unit one new : List ℕ) → AreFalling rows structs → IsForm (fields_of rows structs) (depth_of structs) (fields_of rows structs n) g → IsSum (fields_of rows structs) (depth_of structs) (take (length g - 1) (drop 1 g)) ts got → total ≡ got → (length unit ≡ 17) × ((ws : List ℕ) → dot unit (1 ∷ ws) ≡ 1) → one ≡ unit → IsScaled (get_or g 0 0) total one new → IsForm (fields_of rows structs) (depth_of structs) (struct n ts) new
applied_form rows structs n ts g got total unit one new f form sum e u v scale =
    struct_is_form (fields_of rows structs) (depth_of structs) n (get_or g 0 0) ts g total one new (f.falls n) (f.few n) form refl
    (transport (IsSum (fields_of rows structs) (depth_of structs) (drop 1 g) ts) (sym e) (transport (λ (ys : List ℕ). IsSum (fields_of rows structs) (depth_of structs) ys ts got) (rest_same g) sum))
    (transport (λ (ys : List ℕ). (length ys ≡ 17) × ((ws : List ℕ) → dot ys (1 ∷ ws) ≡ 1)) (sym v) u) scale

pub form_is_width : (fields : ℕ → TypeOf) (depth : ℕ → ℕ) (d : ℕ) (t : TypeOf) (form ws : List ℕ) → IsForm fields depth t form → Below 16 t → Under depth d t → min (dot form (1 ∷ ws)) 256 ≡ min (width fields d ws t) 256
form_is_width fields depth d t form ws h b u = capped (dot form (1 ∷ ws)) (width fields d ws t) (h.each d ws b u)

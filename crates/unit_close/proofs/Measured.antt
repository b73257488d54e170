-- Widths by forms.
use Rattle.std.proofs.Common.{◌≡◌, ℕ, zero, suc, ◌+◌, ◌-◌, ◌<◌, List, [], ◌∷◌, ◌++◌, length, get_or, refl, sym, ap, ◌∙◌, subst, arith, Vec, append_assoc, append-nil, min, ◌≢◌}
use Rattle.std.specs.Global.{Global}
use Rattle.type_table.specs.declared.row.Row.{Row}
use Rattle.type_table.specs.declared.row.Row.TheVariants.{Int, Bool as Boolean, Param, Number, End, More, Tuple, Struct}
use Rattle.type_table.specs.declared.decl.StructDecl.{StructDecl}
use Rattle.type_table.specs.TypeOf.{TypeOf, int, bool, param, number, end, more, tuple, struct}
use Rattle.type_table.specs.Rows.{types, type_at, type_of, Names}
use Rattle.type_table.specs.Substitution.{Below}
use Rattle.type_table.specs.Depth.{Under, fields_of, depth_of}
use Rattle.type_widths.specs.Form.{dot}
use Rattle.type_widths.specs.Width.{width}
use Rattle.type_widths.proofs.Forming.{form_is_width}
use Rattle.unit_input.specs.Widths.{cut}
use Rattle.closed_input.specs.Places.{first_parts}
use Rattle.closed_input.proofs.Words.{cut_sum, cut_twice}
use Rattle.unit_close.specs.declared.measure.Measure.{Measure}
use Rattle.unit_close.specs.Measures.{IsMeasure, IsRow, words_at, list_widths}

under_all : (depth : ℕ → ℕ) (d : ℕ) (t : TypeOf) → ((n : ℕ) → depth n < d) → Under depth d t
under_all depth d int h = tt
under_all depth d bool h = tt
under_all depth d (param k) h = tt
under_all depth d (number v) h = tt
under_all depth d end h = tt
under_all depth d (more t ts) h = (under_all depth d t h, under_all depth d ts h)
under_all depth d (tuple ts) h = under_all depth d ts h
under_all depth d (struct n ts) h = (h n, under_all depth d ts h)

-- the value of a form is the width
pub form_value : (m : Measure) (r x : ℕ) (form : Vec ℕ Global) (xs ws : List ℕ) → IsMeasure m → IsRow m.types.now r → xs ≡ (get_or m.forms.now r form).items → x ≡ min (dot xs (1 ∷ ws)) 256 → x ≡ cut (words_at m.types.now m.structs.now ws (type_at m.types.now r))
form_value m r x form xs ws is row same v =
    v ∙ ap (λ (ys : List ℕ). min (dot ys (1 ∷ ws)) 256) same
    ∙ form_is_width (fields_of m.types.now m.structs.now) (depth_of m.structs.now) 64 (type_at m.types.now r) (get_or m.forms.now r form).items ws (is.forms.each r form row.there) row.few (under_all (depth_of m.structs.now) 64 (type_at m.types.now r) (is.falling).shallow)

-- ---- lists
pub first_row : (rows : List Row) (list a b : ℕ) → type_at rows list ≡ type_of (types rows) (More a b) → Names list (More a b) → IsRow rows list → IsRow rows a
unfolding type_at
first_row rows list a b e n row =
    let low : a < list = n.0 in
    let room : list < length rows = row.there in
    record { there = omega arith; few = (subst (Below 16) e row.few).0 }

pub others_row : (rows : List Row) (list a b : ℕ) → type_at rows list ≡ type_of (types rows) (More a b) → Names list (More a b) → IsRow rows list → IsRow rows b
unfolding type_at
others_row rows list a b e n row =
    let low : b < list = n.1 in
    let room : list < length rows = row.there in
    record { there = omega arith; few = (subst (Below 16) e row.few).1 }

module _ (rows : List Row) (structs : List StructDecl) (ws : List ℕ) where
  abbrev First : ℕ → TypeOf → ℕ
  First k t = cut (words_at rows structs ws (first_parts k t))

  pub none_first : (k x : ℕ) (t : TypeOf) → k ≡ 0 → x ≡ 0 → x ≡ First k t
  unfolding width
  none_first k x t e z = z ∙ sym (ap (λ (j : ℕ). First j t) e)

  pub more_first : (k list a b rest here x : ℕ) → k ≢ 0 → type_at rows list ≡ type_of (types rows) (More a b) → rest ≡ First (k - 1) (type_at rows b) → here ≡ cut (words_at rows structs ws (type_at rows a)) → x ≡ cut (here + rest) → x ≡ First k (type_at rows list)
  unfolding type_at width
  more_first zero list a b rest here x n e r h v = absurd (n refl)
  more_first (suc k) list a b rest here x n e r h v =
      let one : suc k - 1 ≡ k = omega arith in
      let q : rest ≡ First k (type_at rows b) = r ∙ ap (λ (j : ℕ). First j (type_at rows b)) one in
      v ∙ cut_sum here rest (words_at rows structs ws (type_at rows a)) (words_at rows structs ws (first_parts k (type_at rows b))) (ap cut h ∙ cut_twice (words_at rows structs ws (type_at rows a))) (ap cut q ∙ cut_twice (words_at rows structs ws (first_parts k (type_at rows b))))
      ∙ sym (ap (First (suc k)) e)

  -- a list of which no row has members
  pub no_first : (k list x : ℕ) (r : Row) → type_at rows list ≡ type_of (types rows) r → ((a b : ℕ) → r ≡ More a b → ⊥) → x ≡ 0 → x ≡ First k (type_at rows list)
  unfolding type_at width
  no_first zero list x r e n z = z
  no_first (suc k) list x Int e n z = z ∙ sym (ap (First (suc k)) e)
  no_first (suc k) list x Boolean e n z = z ∙ sym (ap (First (suc k)) e)
  no_first (suc k) list x (Param j) e n z = z ∙ sym (ap (First (suc k)) e)
  no_first (suc k) list x (Number v) e n z = z ∙ sym (ap (First (suc k)) e)
  no_first (suc k) list x End e n z = z ∙ sym (ap (First (suc k)) e)
  no_first (suc k) list x (More a b) e n z = absurd (n a b refl)
  no_first (suc k) list x (Tuple a) e n z = z ∙ sym (ap (First (suc k)) e)
  no_first (suc k) list x (Struct j a) e n z = z ∙ sym (ap (First (suc k)) e)

  pub more_widths : (list a b w : ℕ) (old pushed now : List ℕ) → type_at rows list ≡ type_of (types rows) (More a b) → w ≡ cut (words_at rows structs ws (type_at rows a)) → pushed ≡ old ++ w ∷ [] → now ≡ pushed ++ list_widths rows structs ws (type_at rows b) → now ≡ old ++ list_widths rows structs ws (type_at rows list)
  unfolding type_at width
  more_widths list a b w old pushed now e h p q =
      q ∙ ap (λ (xs : List ℕ). xs ++ list_widths rows structs ws (type_at rows b)) (p ∙ ap (λ (n : ℕ). old ++ n ∷ []) h)
      ∙ append_assoc old (cut (words_at rows structs ws (type_at rows a)) ∷ []) (list_widths rows structs ws (type_at rows b))
      ∙ sym (ap (λ (t : TypeOf). old ++ list_widths rows structs ws t) e)

  pub no_widths : (list : ℕ) (old now : List ℕ) (r : Row) → type_at rows list ≡ type_of (types rows) r → ((a b : ℕ) → r ≡ More a b → ⊥) → now ≡ old → now ≡ old ++ list_widths rows structs ws (type_at rows list)
  unfolding type_at
  no_widths list old now r e n same = same ∙ sym (append-nil old) ∙ sym (ap (λ (xs : List ℕ). old ++ xs) (by r e n))
    where
      by : (s : Row) → type_at rows list ≡ type_of (types rows) s → ((a b : ℕ) → s ≡ More a b → ⊥) → list_widths rows structs ws (type_at rows list) ≡ []
      by Int f m = ap (list_widths rows structs ws) f
      by Boolean f m = ap (list_widths rows structs ws) f
      by (Param j) f m = ap (list_widths rows structs ws) f
      by (Number v) f m = ap (list_widths rows structs ws) f
      by End f m = ap (list_widths rows structs ws) f
      by (More a b) f m = absurd (m a b refl)
      by (Tuple a) f m = ap (list_widths rows structs ws) f
      by (Struct j a) f m = ap (list_widths rows structs ws) f

-- Widths and offsets by the widths of the arguments are those under the instance.
use Rattle.std.proofs.Common.{◌≡◌, ℕ, zero, suc, List, [], ◌∷◌, map, refl, sym, ap, ◌∙◌, subst as transport, true, Option, Some, None, option_map}
use Rattle.std.specs.Prelude.{slice_get}
use Rattle.std.proofs.lemmas.Option.{slice_get-map}
use Rattle.type_table.specs.declared.sort.Sort.{Sort}
use Rattle.type_table.specs.declared.sort.Sort.TheVariants.{Ty as of_type}
use Rattle.type_table.specs.TypeOf.{TypeOf, int, bool, param, number, end, more, tuple, struct}
use Rattle.type_table.specs.Substitution.{subst}
use Rattle.type_table.specs.Lawful.{Wanted, one, these, some_types, is_tuple_count, fits, fits_struct}
use Rattle.type_table.specs.Substitution.{count}
use Rattle.type_table.specs.Depth.{fields_of}
use Rattle.type_table.proofs.Replacing.{lawful_kept}
use Rattle.type_widths.specs.Width.{width_by, widths_by, struct_width, width}
use Rattle.type_widths.proofs.Widths.{width_replaced}
use Rattle.lar_typed.specs.Trees.{PlainStruct}
use Rattle.lar_typed.specs.TreeView.{Contents, plain, IsTypedTree}
use Rattle.lar_typed.specs.Lawful.{type_generics, struct_sorts}
use Rattle.lar_typed.proofs.SameTypes.{and_true, both_true}
use Rattle.unit_input.specs.Widths.{cut}
use Rattle.closed_input.specs.Places.{first_parts, words_under, width_under, words_before}
use Rattle.closed_input.proofs.Fitting.{fields_are, struct_is_typed, struct_fits}
use Rattle.closed_input.proofs.Words.{words_composed}
use Rattle.unit_close.specs.Measures.{words_at, list_widths, words_until}
use Rattle.unit_close.proofs.Cutting.{SameCut, cut_list, same_width, same_members}

first_fits : (structs : List (List Sort)) (generics : List Sort) (k : ℕ) (ts : TypeOf) → fits structs generics ts some_types ≡ true → fits structs generics (first_parts k ts) some_types ≡ true
first_fits structs generics zero ts h = refl
first_fits structs generics (suc k) (more t ts) h =
    let p = and_true (fits structs generics t (one of_type)) (fits structs generics ts some_types) h in
    both_true (fits structs generics t (one of_type)) (fits structs generics (first_parts k ts) some_types) p.0 (first_fits structs generics k ts p.1)
first_fits structs generics (suc k) int h = refl
first_fits structs generics (suc k) bool h = refl
first_fits structs generics (suc k) (param j) h = refl
first_fits structs generics (suc k) (number v) h = refl
first_fits structs generics (suc k) end h = refl
first_fits structs generics (suc k) (tuple ts) h = refl
first_fits structs generics (suc k) (struct n ts) h = refl

-- the first members, with arguments in them
first_subst : (structs : List (List Sort)) (generics : List Sort) (gs : TypeOf) (k : ℕ) (ts : TypeOf) → fits structs generics ts some_types ≡ true → first_parts k (subst gs ts) ≡ subst gs (first_parts k ts)
first_subst structs generics gs zero ts h = refl
first_subst structs generics gs (suc k) (more t ts) h = ap (more (subst gs t)) (first_subst structs generics gs k ts (and_true (fits structs generics t (one of_type)) (fits structs generics ts some_types) h).1)
first_subst structs generics gs (suc k) end h = refl
first_subst structs generics gs (suc k) int h = cc
first_subst structs generics gs (suc k) bool h = cc
first_subst structs generics gs (suc k) (param j) h = cc
first_subst structs generics gs (suc k) (number v) h = cc
first_subst structs generics gs (suc k) (tuple ts) h = cc
first_subst structs generics gs (suc k) (struct n ts) h = cc

-- a lawful struct type names a struct that is there
no_struct : (structs : List PlainStruct) (generics : List Sort) (n : ℕ) (gs : TypeOf) → slice_get structs n ≡ None → fits (struct_sorts structs) generics (struct n gs) (one of_type) ≡ true → ⊥
no_struct structs generics n gs h f = by (slice_get (struct_sorts structs) n) (slice_get-map (λ (s : PlainStruct). type_generics s.generics) structs n ∙ ap (option_map (λ (s : PlainStruct). type_generics s.generics)) h) f
  where
    by : (o : Option (List Sort)) → o ≡ None → fits_struct (fits (struct_sorts structs) generics gs) o ≡ true → ⊥
    by None e g = cc
    by (Some ss) e g = cc

nothing_before : (tree : Contents) (args : TypeOf) (k : ℕ) → 0 ≡ cut (words_under tree args (first_parts k end))
unfolding width
nothing_before tree args zero = refl
nothing_before tree args (suc k) = refl

module _ (tree : Contents) (args : TypeOf) (generics : List Sort) (typed : IsTypedTree tree) (fit : fits (struct_sorts (plain tree).structs) [] args (these generics) ≡ true) (ws : List ℕ) (are : ws ≡ list_widths tree.rows tree.structs [] args) where
  abbrev Sorts : List (List Sort)
  Sorts = struct_sorts (plain tree).structs

  abbrev Fields : ℕ → TypeOf
  Fields = fields_of tree.rows tree.structs

  abbrev Exact : List ℕ
  Exact = widths_by (struct_width (fields_of tree.rows tree.structs) 64) [] args

  same_widths : SameCut ws Exact
  same_widths = ap (map cut) are ∙ cut_list Exact

  -- a width
  pub width_agrees : (t : TypeOf) (w : Wanted) → fits Sorts generics t w ≡ true → cut (words_at tree.rows tree.structs ws t) ≡ width_under tree args t
  width_agrees t w f = same_width Fields 64 ws Exact t same_widths ∙ ap cut (sym (width_replaced Fields 64 [] Sorts generics [] args t w fit f))

  -- those of the members of a list of arguments
  members_agree : (ss : List Sort) (gs : TypeOf) → fits Sorts generics gs (these ss) ≡ true → widths_by (struct_width Fields 64) [] (subst args gs) ≡ widths_by (struct_width Fields 64) Exact gs
  unfolding width
  members_agree [] (more t ts) f = cc
  members_agree (s ∷ ss) (more t ts) f =
      let p = and_true (fits Sorts generics t (one s)) (fits Sorts generics ts (these ss)) f in
      ap (λ (n : ℕ). n ∷ widths_by (struct_width Fields 64) [] (subst args ts)) (width_replaced Fields 64 [] Sorts generics [] args t (one s) fit p.0)
      ∙ ap (λ (ns : List ℕ). width_by (struct_width Fields 64) Exact t ∷ ns) (members_agree ss ts p.1)
  members_agree ss end f = refl
  members_agree ss int f = refl
  members_agree ss bool f = refl
  members_agree ss (number v) f = refl
  members_agree ss (param k) f = cc
  members_agree ss (tuple ts) f = refl
  members_agree ss (struct n ts) f = refl

  struct_agrees : (n : ℕ) (gs : TypeOf) (k : ℕ) (d : PlainStruct) → slice_get (plain tree).structs n ≡ Some d → fits Sorts generics (struct n gs) (one of_type) ≡ true → cut (words_until tree.rows tree.structs ws (struct n gs) k) ≡ cut (words_before tree args (struct n gs) k)
  struct_agrees n gs k d at f =
      let fg : fits Sorts generics gs (these (type_generics d.generics)) ≡ true = struct_fits (plain tree).structs generics n d gs at f in
      let fa : fits Sorts [] (subst args gs) (these (type_generics d.generics)) ≡ true = lawful_kept Sorts generics [] args gs (these (type_generics d.generics)) fit fg in
      let same : Fields n ≡ d.fields = fields_are tree n d at in
      let ff : fits Sorts (type_generics d.generics) (Fields n) some_types ≡ true = transport (λ (x : TypeOf). fits Sorts (type_generics d.generics) x some_types ≡ true) (sym same) (struct_is_typed (plain tree) n d typed.typed at).lawful_fields in
      let fp : fits Sorts (type_generics d.generics) (first_parts k (Fields n)) some_types ≡ true = first_fits Sorts (type_generics d.generics) k (Fields n) ff in
      let lists : SameCut (list_widths tree.rows tree.structs ws gs) (widths_by (struct_width Fields 64) [] (subst args gs)) =
      cut_list (widths_by (struct_width Fields 64) ws gs) ∙ same_members Fields 64 ws Exact gs same_widths ∙ ap (map cut) (sym (members_agree (type_generics d.generics) gs fg)) in
      same_width Fields 64 (list_widths tree.rows tree.structs ws gs) (widths_by (struct_width Fields 64) [] (subst args gs)) (first_parts k (Fields n)) lists
      ∙ ap cut (sym (width_replaced Fields 64 [] Sorts (type_generics d.generics) [] (subst args gs) (first_parts k (Fields n)) some_types fa fp))
      ∙ ap cut (sym (words_composed tree args gs (first_parts k (Fields n)) generics (type_generics d.generics) some_types fg fp))
      ∙ ap (λ (p : TypeOf). cut (words_under tree args p)) (sym (first_subst Sorts (type_generics d.generics) gs k (Fields n) ff))

  -- what stands before a part
  pub until_agrees : (u : TypeOf) (k : ℕ) → fits Sorts generics u (one of_type) ≡ true → cut (words_until tree.rows tree.structs ws u k) ≡ cut (words_before tree args u k)
  until_agrees (tuple ts) k f =
      let ft : fits Sorts generics ts some_types ≡ true = (and_true (is_tuple_count (count ts)) (fits Sorts generics ts some_types) f).1 in
      width_agrees (first_parts k ts) some_types (first_fits Sorts generics k ts ft)
  until_agrees (struct n gs) k f = by (slice_get (plain tree).structs n) refl
    where
      by : (o : Option PlainStruct) → slice_get (plain tree).structs n ≡ o → cut (words_until tree.rows tree.structs ws (struct n gs) k) ≡ cut (words_before tree args (struct n gs) k)
      by None e = absurd (no_struct (plain tree).structs generics n gs e f)
      by (Some d) e = struct_agrees n gs k d e f
  until_agrees int k f = nothing_before tree args k
  until_agrees bool k f = nothing_before tree args k
  until_agrees (param j) k f = nothing_before tree args k
  until_agrees (number v) k f = cc
  until_agrees end k f = cc
  until_agrees (more t ts) k f = cc

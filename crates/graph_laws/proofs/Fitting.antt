-- Lawful arguments without generics are types and numbers.
use Rattle.std.proofs.Common.{◌≡◌, ℕ, ◌<◌, List, [], ◌∷◌, length, refl, subst as transport, Bool, true, false, ◌&&◌, Option, Some, None}
use Rattle.std.specs.Prelude.{slice_get}
use Rattle.std.proofs.lemmas.Option.{slice_get_within}
use Rattle.type_table.specs.declared.decl.StructDecl.{StructDecl}
use Rattle.type_table.specs.declared.sort.Sort.{Sort}
use Rattle.type_table.specs.declared.sort.Sort.TheVariants.{Ty as of_type}
use Rattle.type_table.specs.TypeOf.{TypeOf, int, bool, param, number, end, more, tuple, struct}
use Rattle.type_table.specs.Substitution.{count}
use Rattle.type_table.specs.Lawful.{Wanted, one, these, some_types, wants, fits_first, fits_struct, is_tuple_count, first_of, others_of, fits}
use Rattle.lar_typed.proofs.SameTypes.{and_true}
use Rattle.graph_laws.specs.Numbers.{SmallType}
use Rattle.graph_laws.proofs.Texts.{ArePaths, IsItem, AreItems}

abbrev pub IsListWanted : Wanted → Type 0
IsListWanted (one s) = ⊥
IsListWanted (these ss) = Unit {0}
IsListWanted some_types = Unit {0}

wants_none : (w : Wanted) (o : Option Sort) → IsListWanted w → wants w o ≡ true → ⊥
wants_none (one s) o l h = l
wants_none (these ss) o l h = cc
wants_none some_types o l h = cc

and_false : (a b : Bool) → a ≡ false → (a && b) ≡ true → ⊥
and_false true b e h = cc
and_false false b e h = cc

module _ (structs : List StructDecl) (paths : ArePaths structs) (sorts : List (List Sort)) (same : length sorts ≡ length structs) where
  abbrev Item : TypeOf → Type 0
  Item t = IsItem structs paths t

  abbrev Items : TypeOf → Type 0
  Items t = AreItems structs paths t

  record Both (t : TypeOf) : Type 0 where
    item : (s : Sort) → fits sorts [] t (one s) ≡ true → SmallType t → Item t
    items : (w : Wanted) → IsListWanted w → fits sorts [] t w ≡ true → SmallType t → Items t

  never : {A : Type 0} → false ≡ true → A
  never h = cc

  struct_by : (n : ℕ) (ts : TypeOf) (o : Option (List Sort)) → slice_get sorts n ≡ o → fits_struct (fits sorts [] ts) o ≡ true → SmallType ts → Both ts → (n < length structs) × Items ts
  struct_by n ts None at h m b = never h
  struct_by n ts (Some ss) at h m b = (transport (λ (k : ℕ). n < k) same (slice_get_within sorts n ss at), b.items (these ss) tt h m)

  more_by : (t ts : TypeOf) (w : Wanted) → IsListWanted w → (fits_first (fits sorts [] t) (first_of w) && fits sorts [] ts (others_of w)) ≡ true → SmallType t → SmallType ts → Both t → Both ts → Item t × Items ts
  more_by t ts (one s) l h m n b c = absurd l
  more_by t ts (these []) l h m n b c = never h
  more_by t ts (these (s ∷ ss)) l h m n b c = let p : (fits sorts [] t (one s) ≡ true) × (fits sorts [] ts (these ss) ≡ true) = and_true (fits sorts [] t (one s)) (fits sorts [] ts (these ss)) h in (b.item s p.0 m, c.items (these ss) tt p.1 n)
  more_by t ts some_types l h m n b c = let p : (fits sorts [] t (one of_type) ≡ true) × (fits sorts [] ts some_types ≡ true) = and_true (fits sorts [] t (one of_type)) (fits sorts [] ts some_types) h in (b.item of_type p.0 m, c.items some_types tt p.1 n)

  ends_not : {A : Type 0} (s : Sort) → fits sorts [] end (one s) ≡ true → A
  ends_not s h = cc

  both : (t : TypeOf) → Both t
  both int = record { item = λ s h m. tt; items = λ w l h m. absurd (wants_none w (Some of_type) l h) }
  both bool = record { item = λ s h m. tt; items = λ w l h m. absurd (wants_none w (Some of_type) l h) }
  both (param k) = record { item = λ s h m. never h; items = λ w l h m. absurd (wants_none w None l h) }
  both (number v) = record { item = λ s h m. m; items = λ w l h m. absurd (wants_none w _ l h) }
  both end = record { item = λ s h m. ends_not s h; items = λ w l h m. tt }
  both (more t ts) = record { item = λ s h m. never h; items = λ w l h m. more_by t ts w l h m.0 m.1 (both t) (both ts) }
  both (tuple ts) = record {
    item = λ s h m. let p = and_true (wants (one s) (Some of_type)) (is_tuple_count (count ts) && fits sorts [] ts some_types) h in let q = and_true (is_tuple_count (count ts)) (fits sorts [] ts some_types) p.1 in (both ts).items some_types tt q.1 m;
    items = λ w l h m. absurd (wants_none w (Some of_type) l (and_true (wants w (Some of_type)) (is_tuple_count (count ts) && fits sorts [] ts some_types) h).0);
  }
  both (struct n ts) = record {
    item = λ s h m. let p = and_true (wants (one s) (Some of_type)) (fits_struct (fits sorts [] ts) (slice_get sorts n)) h in struct_by n ts (slice_get sorts n) refl p.1 m (both ts);
    items = λ w l h m. absurd (wants_none w (Some of_type) l (and_true (wants w (Some of_type)) (fits_struct (fits sorts [] ts) (slice_get sorts n)) h).0);
  }

  -- lawful arguments without generics
  pub arguments_are : (t : TypeOf) (ss : List Sort) → fits sorts [] t (these ss) ≡ true → SmallType t → AreItems structs paths t
  arguments_are t ss h m = (both t).items (these ss) tt h m

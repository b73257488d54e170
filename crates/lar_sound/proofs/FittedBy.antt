-- Generics that are given either are as many as declared, or not.
use Rattle.std.proofs.Common.{◌≡◌, refl, eqb, eqb-true, Bool, true, false, if◌then◌else◌, List, ◌∷◌, ◌++◌, length, None}
use Rattle.type_table.specs.declared.sort.Sort.{Sort}
use Rattle.lar_tree.specs.declared.name.Path.{Path}
use Rattle.lar_rules.specs.Written.{Site, Given, all_given, miscounted, missorted, sorted_list, Fitted, fitted}

-- as many as declared
abbrev pub counted : Site → List Sort → List Given → Fitted
counted s ws gs = record { counted = true; of = sorted_list ws gs; faults = all_given gs ++ missorted s ws gs }

abbrev pub uncounted : Site → Path → List Sort → List Given → Fitted
uncounted s p ws gs = record {
  counted = false;
  of = None;
  faults = miscounted s p (length ws) (length gs) ∷ all_given gs;
}

-- what holds of both holds of the generics that are given
pub fitted_holds : (P : Fitted → Type 0) (s : Site) (p : Path) (ws : List Sort) (gs : List Given)
    → (length ws ≡ length gs → P (counted s ws gs)) → P (uncounted s p ws gs) → P (fitted s p ws gs)
fitted_holds P s p ws gs h k = by (eqb (length ws) (length gs)) refl
  where
    by : (b : Bool) → eqb (length ws) (length gs) ≡ b → P (if b then counted s ws gs else uncounted s p ws gs)
    by true e = h (eqb-true (length ws) (length gs) e)
    by false e = k

-- How many words the first locals have together.
use Rattle.std.proofs.Common.{◌≡◌, ℕ, zero, suc, ◌+◌, ◌<◌, List, [], ◌∷◌, length, map, take, get_or, refl, sym, ap, ◌∙◌, arith}
use Rattle.std.specs.List.{AllByRecursion}
use Rattle.type_table.specs.declared.row.Row.{Row}
use Rattle.type_table.specs.declared.decl.StructDecl.{StructDecl}
use Rattle.type_table.specs.TypeOf.{TypeOf, end, more}
use Rattle.type_table.specs.Rows.{type_at}
use Rattle.type_widths.specs.Width.{width}
use Rattle.lar_typed.specs.SameType.{list_of}
use Rattle.unit_input.specs.Widths.{cut}
use Rattle.closed_input.proofs.Words.{cut_sum, cut_twice}
use Rattle.unit_close.specs.Measures.{IsRow, words_at}

module _ (rows : List Row) (structs : List StructDecl) (ws : List ℕ) where
  abbrev Words : TypeOf → ℕ
  Words t = words_at rows structs ws t

  pub none_words : 0 ≡ cut (words_at rows structs ws end)
  unfolding width
  none_words = refl

  more_words : (t ts : TypeOf) → words_at rows structs ws (more t ts) ≡ words_at rows structs ws t + words_at rows structs ws ts
  unfolding width
  more_words t ts = refl

  first_words : (ls : List ℕ) (i : ℕ) → i < length ls → words_at rows structs ws (list_of (map (type_at rows) (take (suc i) ls))) ≡ words_at rows structs ws (list_of (map (type_at rows) (take i ls))) + words_at rows structs ws (type_at rows (get_or ls i 0))
  first_words [] i l = absurd (omega arith)
  first_words (r ∷ ls) zero l =
      let a : words_at rows structs ws (more (type_at rows r) end) ≡ words_at rows structs ws (type_at rows r) + words_at rows structs ws end = more_words (type_at rows r) end in
      omega arith
  first_words (r ∷ ls) (suc i) l =
      let a : words_at rows structs ws (more (type_at rows r) (list_of (map (type_at rows) (take (suc i) ls)))) ≡ words_at rows structs ws (type_at rows r) + words_at rows structs ws (list_of (map (type_at rows) (take (suc i) ls))) = more_words (type_at rows r) (list_of (map (type_at rows) (take (suc i) ls))) in
      let b : words_at rows structs ws (more (type_at rows r) (list_of (map (type_at rows) (take i ls)))) ≡ words_at rows structs ws (type_at rows r) + words_at rows structs ws (list_of (map (type_at rows) (take i ls))) = more_words (type_at rows r) (list_of (map (type_at rows) (take i ls))) in
      let c : words_at rows structs ws (list_of (map (type_at rows) (take (suc i) ls))) ≡ words_at rows structs ws (list_of (map (type_at rows) (take i ls))) + words_at rows structs ws (type_at rows (get_or ls i 0)) = first_words ls i (omega arith) in
      omega arith

  pub one_more : (ls : List ℕ) (i j total w now : ℕ) → i < length ls → j ≡ suc i → total ≡ cut (words_at rows structs ws (list_of (map (type_at rows) (take i ls)))) → w ≡ cut (words_at rows structs ws (type_at rows (get_or ls i 0))) → now ≡ cut (total + w) → now ≡ cut (words_at rows structs ws (list_of (map (type_at rows) (take j ls))))
  one_more ls i j total w now l e p q r =
      r ∙ cut_sum total w (words_at rows structs ws (list_of (map (type_at rows) (take i ls)))) (words_at rows structs ws (type_at rows (get_or ls i 0))) (ap cut p ∙ cut_twice (words_at rows structs ws (list_of (map (type_at rows) (take i ls))))) (ap cut q ∙ cut_twice (words_at rows structs ws (type_at rows (get_or ls i 0))))
      ∙ ap cut (sym (first_words ls i l)) ∙ ap (λ (k : ℕ). cut (words_at rows structs ws (list_of (map (type_at rows) (take k ls))))) (sym e)

pub row_at : (rows : List Row) (ls : List ℕ) (i : ℕ) → AllByRecursion (IsRow rows) ls → i < length ls → IsRow rows (get_or ls i 0)
row_at rows [] i h l = absurd (omega arith)
row_at rows (r ∷ ls) zero h l = h.0
row_at rows (r ∷ ls) (suc i) h l = row_at rows ls i h.1 (omega arith)

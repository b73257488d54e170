-- What stands at the front of a text, told by its first byte.
use Rattle.std.specs.Prelude.{ℕ, ◌≤◌, nat_eq, Bool, true, false, if◌then◌else◌, List, [], ◌∷◌, length, take, codes}
use Rattle.std.specs.List.{prefix_len, starts_with}
use Rattle.std.specs.Option.{option_map_or}
use Rattle.lar_tree.specs.Sign.{sign_spelling}
use Rattle.lar_lexer.specs.declared.front.Fault.TheVariants as faults
use Rattle.lar_lexer.specs.declared.front.Front.{Front}
use Rattle.lar_lexer.specs.declared.front.Front.TheVariants.{Gap, Token, Fault}
use Rattle.lar_lexer.specs.Front.{begins_word, is_in_word, is_in_line, word_front, number_front, sign_at, sign_or_fault}
use Rattle.lar_lexer.specs.Thin.{is_blank, is_digit}

abbrev pub by_first : List ℕ → Front
by_first [] = Fault (faults.Unexpected 0)
by_first (b ∷ bs) =
    if is_blank b then Gap 1
    else (if starts_with nat_eq (b ∷ bs) (codes "//") then Gap (prefix_len is_in_line (b ∷ bs))
    else (if is_digit b then number_front (take (prefix_len is_digit (b ∷ bs)) (b ∷ bs))
    else (if begins_word b then word_front (take (prefix_len is_in_word (b ∷ bs)) (b ∷ bs))
    else sign_or_fault (b ∷ bs))))

-- how many bytes the front has as long as it is within the limits, and whether it is a token; 0 where nothing begins
abbrev pub skimmed : List ℕ → ℕ × Bool
skimmed [] = (0, false)
skimmed (b ∷ bs) =
    if is_blank b then (1, false)
    else (if starts_with nat_eq (b ∷ bs) (codes "//") then (prefix_len is_in_line (b ∷ bs), false)
    else (if is_digit b then (prefix_len is_digit (b ∷ bs), true)
    else (if begins_word b then (prefix_len is_in_word (b ∷ bs), true)
    else option_map_or (λ s. (length (sign_spelling s), true)) (sign_at (b ∷ bs)) (0, false))))

-- it has a byte at least, and no more than so many
abbrev pub IsWithin : ℕ → Front → Type 0
IsWithin n (Gap len) = (1 ≤ len) × (len ≤ n)
IsWithin n (Token kind len) = (1 ≤ len) × (len ≤ n)
IsWithin n (Fault fault) = Unit {0}

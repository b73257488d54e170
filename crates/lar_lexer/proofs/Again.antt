-- What the grammar has at the front of a text is read there.
use Rattle.std.specs.Prelude.{◌&&◌}
use Rattle.std.proofs.Common.{length-append, ◌≡◌, ℕ, ℤ, zero, suc, ◌+◌, ◌-◌, ◌*◌, ◌^◌, ◌<◌, ◌≤◌, ◌==◌, nat_lt, List, [], ◌∷◌, ◌++◌, length, fold, Some, None, Bool, true, false, codes, refl, sym, ap, ◌∙◌, subst, append_assoc, arith}
use Rattle.std.specs.List.{list_all, flat_map}
use Rattle.std.proofs.lemmas.Bool.{eq-eqb}
use Rattle.std.proofs.lemmas.List.{append-nil}
use Rattle.lar_lexer.specs.Thin.{is_blank, is_digit, AreBlanks, value_of, Writes, AllWritten, Spaced, print_parts, main_parts, IsThin}
use Rattle.lar_lexer.specs.Reading.{after_blanks, after_word, part, digits_at, number_at, print_at, prints_at, head_at, is_end, thin}

-- the front is no blank, or there is none
abbrev Solid : List ℕ → Type 0
Solid [] = Unit {0}
Solid (b ∷ bs) = is_blank b ≡ false

abbrev Ends : List ℕ → Type 0
Ends [] = Unit {0}
Ends (b ∷ bs) = is_digit b ≡ false

both : (p : ℕ → Bool) (b : ℕ) (bs : List ℕ) → list_all p (b ∷ bs) ≡ true → (p b ≡ true) × (list_all p bs ≡ true)
both p b bs h = split (p b) (list_all p bs) h
  where
    split : (s t : Bool) → (s && t) ≡ true → (s ≡ true) × (t ≡ true)
    split true t h = (refl, h)
    split false t h = absurd (cc)

blanks_skipped : (blanks rest : List ℕ) → AreBlanks blanks → Solid rest → after_blanks (blanks ++ rest) ≡ rest
blanks_skipped [] [] all solid = refl
blanks_skipped [] (b ∷ bs) all solid = rw solid refl
blanks_skipped (b ∷ blanks) rest all solid = let h = both is_blank b blanks all in rw h.0 (blanks_skipped blanks rest h.1 solid)

word_again : (word rest : List ℕ) → after_word word (word ++ rest) ≡ Some rest
word_again [] rest = refl
word_again (w ∷ ws) rest = rw (eq-eqb w w refl) (word_again ws rest)

-- a part whose first byte is no blank
part_again : (w : ℕ) (ws bytes rest : List ℕ) → is_blank w ≡ false → Spaced ((w ∷ ws) ∷ []) bytes rest → part (w ∷ ws) bytes ≡ Some rest
part_again w ws bytes rest solid (blanks, (more, all, splits, same)) =
    ap (λ b. after_word (w ∷ ws) (after_blanks b)) splits
    ∙ ap (after_word (w ∷ ws)) (blanks_skipped blanks ((w ∷ ws) ++ more) all solid)
    ∙ word_again (w ∷ ws) more ∙ ap Some same

-- the first part of several
part_first : (w : ℕ) (ws : List ℕ) (parts : List (List ℕ)) (bytes rest : List ℕ) → is_blank w ≡ false → Spaced ((w ∷ ws) ∷ parts) bytes rest → (more : List ℕ) × (part (w ∷ ws) bytes ≡ Some more) × Spaced parts more rest
part_first w ws parts bytes rest solid (blanks, (more, all, splits, others)) = (more, part_again w ws bytes more solid (blanks, (more, all, splits, refl)), others)

digits_taken : (numeral rest : List ℕ) (n : ℕ) → list_all is_digit numeral ≡ true → Ends rest → digits_at n (numeral ++ rest) ≡ (fold (λ m d. m * 10 + (d - 48)) n numeral, rest)
digits_taken [] [] n all ends = refl
digits_taken [] (b ∷ bs) n all ends = rw ends refl
digits_taken (d ∷ numeral) rest n all ends = let h = both is_digit d numeral all in rw h.0 (digits_taken numeral rest (n * 10 + (d - 48)) h.1 ends)

longer : (numeral rest : List ℕ) → 0 < length numeral → (length rest == length (numeral ++ rest)) ≡ false
longer [] rest some = absurd (omega (arith, some))
longer (d ∷ ds) rest some = grind (arith, length-append ds rest)

number_again : (numeral rest : List ℕ) (z : ℤ) → Writes numeral z → Ends rest → number_at (numeral ++ rest) ≡ Some (z, rest)
number_again numeral rest z w ends =
    let taken = digits_taken numeral rest 0 w.digits ends in
    let fits : nat_lt (value_of numeral) (2 ^ 63) ≡ true = grind (arith, w.fits) in
    rw (taken, longer numeral rest w.some, fits) (ap (λ (k : ℤ). Some (k, rest)) (sym w.value))

blank_is_no_digit : (b : ℕ) → is_blank b ≡ true → is_digit b ≡ false
blank_is_no_digit b h = grind (arith, h)

-- blanks and then a byte that is no digit end a numeral
blanks_end : (blanks : List ℕ) (b : ℕ) (bs : List ℕ) → AreBlanks blanks → is_digit b ≡ false → Ends (blanks ++ b ∷ bs)
blanks_end [] b bs all other = other
blanks_end (c ∷ blanks) b bs all other = blank_is_no_digit c (both is_blank c blanks all).0

closes : (parts : List (List ℕ)) (bytes rest : List ℕ) → Spaced (codes ")" ∷ parts) bytes rest → Ends bytes
closes parts bytes rest (blanks, (more, all, splits, others)) = subst Ends (sym splits) (blanks_end blanks 41 more all refl)

digit_is_no_blank : (d : ℕ) → is_digit d ≡ true → is_blank d ≡ false
digit_is_no_blank d h = grind (arith, h)

numeral_solid : (numeral rest : List ℕ) → 0 < length numeral → list_all is_digit numeral ≡ true → Solid (numeral ++ rest)
numeral_solid [] rest some all = absurd (omega (arith, some))
numeral_solid (d ∷ ds) rest some all = digit_is_no_blank d (both is_digit d ds all).0

-- print(N); again
print_again : (numeral bytes rest : List ℕ) (z : ℤ) → Writes numeral z → Spaced (print_parts numeral) bytes rest → print_at bytes ≡ Some (z, rest)
unfolding print_at
print_again numeral bytes rest z w spaced =
    let word = part_first 112 (codes "rint") (codes "(" ∷ numeral ∷ codes ")" ∷ codes ";" ∷ []) bytes rest refl spaced in
    let inside = part_first 40 [] (numeral ∷ codes ")" ∷ codes ";" ∷ []) word.0 rest refl word.2 in
    finish word.0 inside.0 word.1 inside.1 inside.2
  where
    finish : (word inside : List ℕ) → part (codes "print") bytes ≡ Some word → part (codes "(") word ≡ Some inside → Spaced (numeral ∷ codes ")" ∷ codes ";" ∷ []) inside rest → print_at bytes ≡ Some (z, rest)
    finish word inside worded opened (blanks, (more, all, splits, tail)) =
        let close = part_first 41 [] (codes ";" ∷ []) more rest refl tail in
        let end = part_again 59 [] close.0 rest refl close.2 in
        let skipped = ap after_blanks splits ∙ blanks_skipped blanks (numeral ++ more) all (numeral_solid numeral more w.some w.digits) in
        let number : number_at (after_blanks inside) ≡ Some (z, more) = ap number_at skipped ∙ number_again numeral more z w (closes (codes ";" ∷ []) more rest tail) in
        rw (worded, opened, number, close.1, end) refl

-- no print begins where } stands
none_at : (bytes behind : List ℕ) → Spaced (codes "}" ∷ []) bytes behind → print_at bytes ≡ None
unfolding print_at
none_at bytes behind (blanks, (more, all, splits, same)) =
    let skipped = ap after_blanks splits ∙ blanks_skipped blanks (codes "}" ++ more) all refl in
    let word : part (codes "print") bytes ≡ None = ap (after_word (codes "print")) skipped in
    rw word refl

-- the first of parts in front of others
spaced_split : (ps qs : List (List ℕ)) (text rest : List ℕ) → Spaced (ps ++ qs) text rest → (mid : List ℕ) × Spaced ps text mid × Spaced qs mid rest
spaced_split [] qs text rest p = (text, refl, p)
spaced_split (part ∷ ps) qs text rest (blanks, (more, all, splits, p)) = let h = spaced_split ps qs more rest p in (h.0, (blanks, (more, all, splits, h.1)), h.2)

prints_again : (k : ℕ) (numerals : List (List ℕ)) (numbers : List ℤ) (bytes behind : List ℕ) → AllWritten numerals numbers → length numbers ≤ k
    → Spaced (flat_map print_parts numerals ++ codes "}" ∷ []) bytes behind → (rest : List ℕ) × (prints_at k bytes ≡ (numbers, rest)) × Spaced (codes "}" ∷ []) rest behind
unfolding prints_at
prints_again zero [] [] bytes behind w few spaced = (bytes, refl, spaced)
prints_again (suc k) [] [] bytes behind w few spaced = (bytes, rw (none_at bytes behind spaced) refl, spaced)
prints_again k [] (n ∷ ns) bytes behind w few spaced = absurd w
prints_again k (d ∷ ds) [] bytes behind w few spaced = absurd w
prints_again zero (d ∷ ds) (n ∷ ns) bytes behind w few spaced = absurd (omega (arith, few))
prints_again (suc k) (d ∷ ds) (n ∷ ns) bytes behind w few spaced =
    let first = spaced_split (print_parts d) (flat_map print_parts ds ++ codes "}" ∷ []) bytes behind (subst (λ ps. Spaced ps bytes behind) (append_assoc (print_parts d) (flat_map print_parts ds) (codes "}" ∷ [])) spaced) in
    let one = print_again d bytes first.0 n w.0 first.1 in
    let others = prints_again k ds ns first.0 behind w.1 (omega (arith, few)) first.2 in
    (others.0, rw (one, others.1) refl, others.2)

blanks_joined : (xs ys : List ℕ) → AreBlanks xs → AreBlanks ys → AreBlanks (xs ++ ys)
blanks_joined [] ys p q = q
blanks_joined (x ∷ xs) ys p q = let h = both is_blank x xs p in rw (h.0, blanks_joined xs ys h.1 q) refl

-- fn, a blank or more, main() { again
head_again : (between main prints bytes : List ℕ) → Spaced (codes "fn" ∷ []) bytes (between ++ main) → 0 < length between → AreBlanks between → Spaced main_parts main prints → head_at bytes ≡ Some prints
unfolding head_at
head_again between main prints bytes begins apart blank (blanks, (more, all, splits, tail)) =
    let word = part_again 102 (codes "n") bytes (between ++ main) refl begins in
    let regrouped : between ++ main ≡ (between ++ blanks) ++ (codes "main" ++ more) = ap (λ m. between ++ m) splits ∙ sym (append_assoc between blanks (codes "main" ++ more)) in
    let joined = blanks_joined between blanks blank all in
    let skipped : after_blanks (between ++ main) ≡ codes "main" ++ more = ap after_blanks regrouped ∙ blanks_skipped (between ++ blanks) (codes "main" ++ more) joined refl in
    let shorter : (length (after_blanks (between ++ main)) == length (between ++ main)) ≡ false =
    ap (λ l. length l == length (between ++ main)) skipped ∙ ap (λ l. length (codes "main" ++ more) == length l) regrouped ∙ longer (between ++ blanks) (codes "main" ++ more) (wider between blanks apart) in
    let name : part (codes "main") (between ++ main) ≡ Some more = ap (after_word (codes "main")) skipped ∙ word_again (codes "main") more in
    let inside = part_first 40 [] (codes ")" ∷ codes "{" ∷ []) more prints refl tail in
    let close = part_first 41 [] (codes "{" ∷ []) inside.0 prints refl inside.2 in
    let open_ = part_again 123 [] close.0 prints refl close.2 in
    rw (word, shorter, name, inside.1, close.1, open_) refl
  where
    wider : (xs ys : List ℕ) → 0 < length xs → 0 < length (xs ++ ys)
    wider [] ys h = absurd (omega (arith, h))
    wider (x ∷ xs) ys h = omega arith

end_again : (rest behind : List ℕ) → Spaced (codes "}" ∷ []) rest behind → AreBlanks behind → is_end rest ≡ true
end_again rest behind spaced blank =
    let close = part_again 125 [] rest behind refl spaced in
    let skipped : after_blanks behind ≡ [] = ap after_blanks (sym (append-nil behind)) ∙ blanks_skipped behind [] blank tt in
    rw (close, skipped) refl

-- what has the thin form is read
pub thin_again : (bytes : List ℕ) (numbers : List ℤ) → IsThin bytes numbers → thin bytes ≡ Some numbers
thin_again bytes numbers t =
    let head = head_again t.between t.main t.prints bytes t.begins t.apart.0 t.apart.1 t.opens in
    let prints = prints_again 1000 t.numerals numbers t.prints t.behind t.written t.few t.spaced in
    let end = end_again prints.0 t.behind prints.2 t.ends in
    rw (head, prints.1, end) refl

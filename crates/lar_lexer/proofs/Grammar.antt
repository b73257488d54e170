-- What reading takes from the front of a text is in the grammar.
use Rattle.std.proofs.Common.{◌≡◌, ℕ, ℤ, zero, suc, ◌+◌, ◌-◌, ◌*◌, ◌^◌, ◌<◌, ◌≤◌, ◌==◌, nat_lt, List, [], ◌∷◌, ◌++◌, length, fold, Option, Some, None, Bool, true, false, cond, codes, pos, refl, sym, ap, ◌∙◌, subst, unwrap_or, arith}
use Rattle.std.specs.List.{list_all, flat_map}
use Rattle.std.proofs.lemmas.Bool.{eqb-true}
use Rattle.std.proofs.lemmas.List.{append-nil}
use Rattle.std.specs.Option.{option_map_or}
use Rattle.lar_lexer.specs.Thin.{is_blank, is_digit, AreBlanks, value_of, Writes, AllWritten, Spaced, print_parts, main_parts, IsThin}
use Rattle.lar_lexer.specs.Reading.{◌>>=◌, after_blanks, after_word, part, digits_at, number_at, print_at, prints_at, head_at, is_end, thin}

none_some : {A : Type 0} (x : A) → None ≡ Some x → ⊥
none_some x e = cc

pub bind_some : {A B : Type 0} (o : Option A) (f : A → Option B) (y : B) → (o >>= f) ≡ Some y → (x : A) × (o ≡ Some x) × (f x ≡ Some y)
bind_some None f y e = absurd (none_some y e)
bind_some (Some x) f y e = (x, refl, e)

all_cons : (p : ℕ → Bool) (b : ℕ) (bs : List ℕ) → p b ≡ true → list_all p bs ≡ true → list_all p (b ∷ bs) ≡ true
all_cons p b bs first others = rw (first, others) refl

blanks_step : (b : ℕ) (bs : List ℕ) (t : Bool) → is_blank b ≡ t → ((blanks : List ℕ) × AreBlanks blanks × (bs ≡ blanks ++ after_blanks bs))
    → (blanks : List ℕ) × AreBlanks blanks × (b ∷ bs ≡ blanks ++ cond t (after_blanks bs) (b ∷ bs))
blanks_step b bs true is (blanks, all, splits) = (b ∷ blanks, all_cons is_blank b blanks is all, ap (λ w. b ∷ w) splits)
blanks_step b bs false is more = ([], refl, refl)

pub blanks_split : (bytes : List ℕ) → (blanks : List ℕ) × AreBlanks blanks × (bytes ≡ blanks ++ after_blanks bytes)
blanks_split [] = ([], refl, refl)
blanks_split (b ∷ bs) = blanks_step b bs (is_blank b) refl (blanks_split bs)

word_step : (w b : ℕ) (ws bs rest : List ℕ) (t : Bool) → (w == b) ≡ t → (after_word ws bs ≡ Some rest → bs ≡ ws ++ rest) → cond t (after_word ws bs) None ≡ Some rest → b ∷ bs ≡ (w ∷ ws) ++ rest
word_step w b ws bs rest true is more e = ap (λ c. c ∷ bs) (sym (eqb-true w b is)) ∙ ap (λ l. w ∷ l) (more e)
word_step w b ws bs rest false is more e = absurd (none_some rest e)

pub word_split : (word bytes rest : List ℕ) → after_word word bytes ≡ Some rest → bytes ≡ word ++ rest
word_split [] bytes rest e = ap (λ o. unwrap_or o []) e
word_split (w ∷ ws) [] rest e = absurd (none_some rest e)
word_split (w ∷ ws) (b ∷ bs) rest e = word_step w b ws bs rest (w == b) refl (word_split ws bs rest) e

-- one part
pub part_split : (word bytes rest : List ℕ) → part word bytes ≡ Some rest → Spaced (word ∷ []) bytes rest
part_split word bytes rest e =
    let b = blanks_split bytes in
    (b.0, (rest, b.1, b.2 ∙ ap (λ w. b.0 ++ w) (word_split word (after_blanks bytes) rest e), refl))

-- parts behind parts
pub spaced_append : (ps qs : List (List ℕ)) (text mid rest : List ℕ) → Spaced ps text mid → Spaced qs mid rest → Spaced (ps ++ qs) text rest
spaced_append [] qs text mid rest p q = subst (λ t. Spaced qs t rest) (sym p) q
spaced_append (part ∷ ps) qs text mid rest (blanks, (more, all, splits, p)) q = (blanks, (more, all, splits, spaced_append ps qs more mid rest p q))

digits_step : (n b : ℕ) (bs : List ℕ) (t : Bool) → is_digit b ≡ t
    → ((numeral : List ℕ) × (list_all is_digit numeral ≡ true) × (bs ≡ numeral ++ (digits_at (n * 10 + (b - 48)) bs).1) × ((digits_at (n * 10 + (b - 48)) bs).0 ≡ fold (λ m d. m * 10 + (d - 48)) (n * 10 + (b - 48)) numeral))
    → (numeral : List ℕ) × (list_all is_digit numeral ≡ true) × (b ∷ bs ≡ numeral ++ (cond t (digits_at (n * 10 + (b - 48)) bs) (n, b ∷ bs)).1) × ((cond t (digits_at (n * 10 + (b - 48)) bs) (n, b ∷ bs)).0 ≡ fold (λ m d. m * 10 + (d - 48)) n numeral)
digits_step n b bs true is (numeral, all, splits, value) = (b ∷ numeral, all_cons is_digit b numeral is all, ap (λ w. b ∷ w) splits, value)
digits_step n b bs false is more = ([], refl, refl, refl)

pub digits_split : (n : ℕ) (bytes : List ℕ) → (numeral : List ℕ) × (list_all is_digit numeral ≡ true) × (bytes ≡ numeral ++ (digits_at n bytes).1) × ((digits_at n bytes).0 ≡ fold (λ m d. m * 10 + (d - 48)) n numeral)
digits_split n [] = ([], refl, refl, refl)
digits_split n (b ∷ bs) = digits_step n b bs (is_digit b) refl (digits_split (n * 10 + (b - 48)) bs)

abbrev numbered : ℕ → List ℕ → Option (ℤ × List ℕ)
numbered n rest = Some (pos n, rest)

number_step : (bytes : List ℕ) (n : ℕ) (rest : List ℕ) (z : ℤ) (after : List ℕ) (t u : Bool) → (length rest == length bytes) ≡ t → nat_lt n (2 ^ 63) ≡ u
    → ((numeral : List ℕ) × (list_all is_digit numeral ≡ true) × (bytes ≡ numeral ++ rest) × (n ≡ value_of numeral))
    → cond t None (cond u (numbered n rest) None) ≡ Some (z, after)
    → (numeral : List ℕ) × Writes numeral z × (bytes ≡ numeral ++ after)
number_step bytes n rest z after true u is fits digits e = absurd (none_some (z, after) e)
number_step bytes n rest z after false false is fits digits e = absurd (none_some (z, after) e)
number_step bytes n rest z after false true is fits (numeral, all, splits, value) e =
    let pair = ap (λ (o : Option (ℤ × List ℕ)). unwrap_or o (z, after)) e in
    let at_rest : rest ≡ after = ap (λ p. p.1) pair in
    let at_number : pos n ≡ z = ap (λ p. p.0) pair in (
      numeral,
      record {
        some = more_than_none numeral rest bytes splits is;
        digits = all;
        fits = subst (λ m. m < 2 ^ 63) value (grind (arith, fits));
        value = sym at_number ∙ ap pos value;
      },
      splits ∙ ap (λ w. numeral ++ w) at_rest,
    )
  where
    more_than_none : (numeral rest bytes : List ℕ) → bytes ≡ numeral ++ rest → (length rest == length bytes) ≡ false → 0 < length numeral
    more_than_none [] rest bytes splits is = absurd (grind (arith, splits, is))
    more_than_none (d ∷ ds) rest bytes splits is = omega arith

pub number_split : (bytes : List ℕ) (z : ℤ) (after : List ℕ) → number_at bytes ≡ Some (z, after) → (numeral : List ℕ) × Writes numeral z × (bytes ≡ numeral ++ after)
number_split bytes z after e =
    number_step bytes (digits_at 0 bytes).0 (digits_at 0 bytes).1 z after (length (digits_at 0 bytes).1 == length bytes) (nat_lt (digits_at 0 bytes).0 (2 ^ 63)) refl refl (digits_split 0 bytes) e

-- print(N);
pub print_split : (bytes : List ℕ) (z : ℤ) (rest : List ℕ) → print_at bytes ≡ Some (z, rest) → (numeral : List ℕ) × Writes numeral z × Spaced (print_parts numeral) bytes rest
unfolding print_at
print_split bytes z rest e =
    let word = bind_some (part (codes "print") bytes) _ (z, rest) e in
    let inside = bind_some (part (codes "(") word.0) _ (z, rest) word.2 in
    let number = bind_some (number_at (after_blanks inside.0)) _ (z, rest) inside.2 in
    let close = bind_some (part (codes ")") number.0.1) _ (z, rest) number.2 in
    let end = bind_some (part (codes ";") close.0) _ (z, rest) close.2 in
    let pair = ap (λ (o : Option (ℤ × List ℕ)). unwrap_or o (z, rest)) end.2 in
    let blank = blanks_split inside.0 in
    let found = number_split (after_blanks inside.0) number.0.0 number.0.1 number.1 in
    let tail : Spaced (codes ")" ∷ codes ";" ∷ []) number.0.1 end.0 =
    spaced_append (codes ")" ∷ []) (codes ";" ∷ []) number.0.1 close.0 end.0 (part_split (codes ")") number.0.1 close.0 close.1) (part_split (codes ";") close.0 end.0 end.1) in
    let numbered : Spaced (found.0 ∷ codes ")" ∷ codes ";" ∷ []) inside.0 end.0 = (blank.0, (number.0.1, blank.1, blank.2 ∙ ap (λ w. blank.0 ++ w) found.2, tail)) in
    let opened : Spaced (codes "(" ∷ found.0 ∷ codes ")" ∷ codes ";" ∷ []) word.0 end.0 =
    spaced_append (codes "(" ∷ []) (found.0 ∷ codes ")" ∷ codes ";" ∷ []) word.0 inside.0 end.0 (part_split (codes "(") word.0 inside.0 inside.1) numbered in
    let whole : Spaced (print_parts found.0) bytes end.0 =
    spaced_append (codes "print" ∷ []) (codes "(" ∷ found.0 ∷ codes ")" ∷ codes ";" ∷ []) bytes word.0 end.0 (part_split (codes "print") bytes word.0 word.1) opened in
    (found.0, subst (λ k. Writes found.0 k) (ap (λ p. p.0) pair) found.1, subst (λ r. Spaced (print_parts found.0) bytes r) (ap (λ p. p.1) pair) whole)

-- what so many prints, or fewer, are read from
pub record Prints (k : ℕ) (bytes : List ℕ) (numbers : List ℤ) (rest : List ℕ) : Type 0 where
  pub numerals : List (List ℕ)
  pub written : AllWritten numerals numbers
  pub few : length numbers ≤ k
  pub spaced : Spaced (flat_map print_parts numerals) bytes rest

abbrev with_first : ℕ → List ℕ → Option (ℤ × List ℕ) → List ℤ × List ℕ
with_first k bytes p = option_map_or (λ (q : ℤ × List ℕ). let more = prints_at k q.1 in (q.0 ∷ more.0, more.1)) p ([], bytes)

more_prints : (k : ℕ) (bytes : List ℕ) (p : Option (ℤ × List ℕ)) → print_at bytes ≡ p → ((after : List ℕ) → Prints k after (prints_at k after).0 (prints_at k after).1)
    → Prints (suc k) bytes (with_first k bytes p).0 (with_first k bytes p).1
more_prints k bytes None e others = record { numerals = []; written = tt; few = omega arith; spaced = refl }
more_prints k bytes (Some (z, after)) e others =
    let first = print_split bytes z after e in
    let more = others after in
    record {
      numerals = first.0 ∷ more.numerals;
      written = (first.1, more.written);
      few = omega (arith, more.few);
      spaced = spaced_append (print_parts first.0) (flat_map print_parts more.numerals) bytes after _ first.2 more.spaced;
    }

pub prints_split : (k : ℕ) (bytes : List ℕ) → Prints k bytes (prints_at k bytes).0 (prints_at k bytes).1
unfolding prints_at
prints_split zero bytes = record { numerals = []; written = tt; few = omega arith; spaced = refl }
prints_split (suc k) bytes = more_prints k bytes (print_at bytes) refl (λ after. prints_split k after)

-- } and blanks
end_step : (bytes : List ℕ) (o : Option (List ℕ)) → part (codes "}") bytes ≡ o → option_map_or (λ rest. length (after_blanks rest) == 0) o false ≡ true
    → (behind : List ℕ) × Spaced (codes "}" ∷ []) bytes behind × AreBlanks behind
end_step bytes None e h = absurd (cc)
end_step bytes (Some rest) e h =
    let b = blanks_split rest in
    (rest, part_split (codes "}") bytes rest e, subst AreBlanks (sym (b.2 ∙ ap (λ w. b.0 ++ w) (nothing_left (after_blanks rest) h) ∙ append-nil b.0)) b.1)
  where
    nothing_left : (l : List ℕ) → (length l == 0) ≡ true → l ≡ []
    nothing_left [] h = refl
    nothing_left (x ∷ xs) h = absurd (grind (arith, h))

longer_blank : (blanks more : List ℕ) (bytes : List ℕ) (word : List ℕ) → word ≡ blanks ++ more → (length more == length word) ≡ false → 0 < length blanks
longer_blank [] more bytes word splits h = absurd (grind (arith, splits, h))
longer_blank (b ∷ bs) more bytes word splits h = omega arith

-- fn main() {
pub record Head (bytes prints : List ℕ) : Type 0 where
  pub between : List ℕ
  pub main : List ℕ
  pub begins : Spaced (codes "fn" ∷ []) bytes (between ++ main)
  pub apart : (0 < length between) × AreBlanks between
  pub opens : Spaced main_parts main prints

named : (word name : List ℕ) (t : Bool) → (length (after_blanks word) == length word) ≡ t → cond t None (part (codes "main") word) ≡ Some name
    → (between : List ℕ) × ((0 < length between) × AreBlanks between) × (word ≡ between ++ after_blanks word) × Spaced (codes "main" ∷ []) (after_blanks word) name
named word name true is e = absurd (none_some name e)
named word name false is e =
    let b = blanks_split word in
    (b.0, (longer_blank b.0 (after_blanks word) word word b.2 is, b.1), b.2, ([], (name, refl, word_split (codes "main") (after_blanks word) name e, refl)))

pub head_split : (bytes prints : List ℕ) → head_at bytes ≡ Some prints → Head bytes prints
unfolding head_at
head_split bytes prints e =
    let word = bind_some (part (codes "fn") bytes) _ prints e in
    let name = bind_some (cond (length (after_blanks word.0) == length word.0) None (part (codes "main") word.0)) _ prints word.2 in
    let inside = bind_some (part (codes "(") name.0) _ prints name.2 in
    let close = bind_some (part (codes ")") inside.0) _ prints inside.2 in
    let apart = named word.0 name.0 (length (after_blanks word.0) == length word.0) refl name.1 in
    let tail : Spaced (codes "(" ∷ codes ")" ∷ codes "{" ∷ []) name.0 prints =
    spaced_append (codes "(" ∷ []) (codes ")" ∷ codes "{" ∷ []) name.0 inside.0 prints (part_split (codes "(") name.0 inside.0 inside.1)
    (spaced_append (codes ")" ∷ []) (codes "{" ∷ []) inside.0 close.0 prints (part_split (codes ")") inside.0 close.0 close.1) (part_split (codes "{") close.0 prints close.2)) in
    record {
      between = apart.0;
      main = after_blanks word.0;
      begins = subst (λ w. Spaced (codes "fn" ∷ []) bytes w) apart.2 (part_split (codes "fn") bytes word.0 word.1);
      apart = apart.1;
      opens = spaced_append (codes "main" ∷ []) (codes "(" ∷ codes ")" ∷ codes "{" ∷ []) (after_blanks word.0) name.0 prints apart.3 tail;
    }

closed : (bytes prints : List ℕ) (numbers : List ℤ) (t : Bool) → is_end (prints_at 1000 prints).1 ≡ t → Head bytes prints → cond t (Some (prints_at 1000 prints).0) None ≡ Some numbers → IsThin bytes numbers
closed bytes prints numbers false is head e = absurd (none_some numbers e)
closed bytes prints numbers true is head e =
    let all = prints_split 1000 prints in
    let end = end_step (prints_at 1000 prints).1 (part (codes "}") (prints_at 1000 prints).1) refl is in
    let numbers_are : (prints_at 1000 prints).0 ≡ numbers = ap (λ (o : Option (List ℤ)). unwrap_or o []) e in
    record {
      numerals = all.numerals;
      between = head.between;
      main = head.main;
      prints = prints;
      behind = end.0;
      written = subst (λ ns. AllWritten all.numerals ns) numbers_are all.written;
      few = subst (λ (ns : List ℤ). length ns ≤ 1000) numbers_are all.few;
      begins = head.begins;
      apart = head.apart;
      opens = head.opens;
      spaced = spaced_append (flat_map print_parts all.numerals) (codes "}" ∷ []) prints _ end.0 all.spaced end.1;
      ends = end.2;
    }

-- what is read has the thin form
pub thin_is : (bytes : List ℕ) (numbers : List ℤ) → thin bytes ≡ Some numbers → IsThin bytes numbers
thin_is bytes numbers e =
    let head = bind_some (head_at bytes) _ numbers e in
    closed bytes head.0 numbers (is_end (prints_at 1000 head.0).1) refl (head_split bytes head.0 head.1) head.2

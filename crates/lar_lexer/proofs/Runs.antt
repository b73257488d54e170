-- Runs of bytes that pass a test, at the front of a text.
use Rattle.std.proofs.Common.{get_or, ◌≡◌, ℕ, suc, sym, ◌+◌, ◌≤◌, ◌<◌, List, [], ◌∷◌, length, take, Bool, true, false, ap, subst, cond, refl, arith}
use Rattle.std.specs.List.{prefix_len}
use Rattle.std.specs.Str.{IsAscii, IsUtf8}
use Rattle.std.proofs.lemmas.Str.{IsUtf8-from_ascii}
use Rattle.std.proofs.lemmas.Str.Ascii.{IsAscii-nil, IsAscii-cons}
use Rattle.lar_lexer.specs.Front.{is_in_word}

pub some : (p : ℕ → Bool) (bs : List ℕ) → 0 < length bs → p (get_or bs 0 0) ≡ true → 1 ≤ prefix_len p bs
some p [] h e = absurd (omega arith)
some p (b ∷ bs) h e =
    let is : prefix_len p (b ∷ bs) ≡ 1 + prefix_len p bs = ap (λ c. cond c (1 + prefix_len p bs) 0) e in
    omega arith

ascii_step : (b : ℕ) (bs : List ℕ) (t : Bool) → is_in_word b ≡ t → IsAscii (take (prefix_len is_in_word bs) bs) → IsAscii (take (cond t (1 + prefix_len is_in_word bs) 0) (b ∷ bs))
ascii_step b bs true is more =
    let on : 1 + prefix_len is_in_word bs ≡ suc (prefix_len is_in_word bs) = omega arith in
    let below : b < 128 = grind (arith, is) in
    subst (λ n. IsAscii (take n (b ∷ bs))) (sym on) (IsAscii-cons b (take (prefix_len is_in_word bs) bs) below more)
ascii_step b bs false is more = IsAscii-nil

-- a word is ASCII
pub word_is_ascii : (bs : List ℕ) → IsAscii (take (prefix_len is_in_word bs) bs)
word_is_ascii [] = IsAscii-nil
word_is_ascii (b ∷ bs) = ascii_step b bs (is_in_word b) refl (word_is_ascii bs)

pub is_text : (bs : List ℕ) → IsAscii bs → IsUtf8 bs
is_text = IsUtf8-from_ascii

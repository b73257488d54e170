-- What the test of a symbol's bytes says.
use Rattle.std.proofs.Common.{◌≡◌, ℕ, ◌^◌, ◌<◌, true, ltb, List, [], ◌∷◌, length, refl, arith}
use Rattle.std.specs.Char.{is_ascii_graphic}
use Rattle.std.specs.List.{list_all, AllByRecursion}
use Rattle.std.specs.Str.{IsAscii, IsUtf8}
use Rattle.std.specs.Cmp.Derive.{both_true}
use Rattle.std.proofs.lemmas.Bool.{ltb-true, lt-ltb, leb-true, le-leb, and_parts}
use Rattle.std.proofs.lemmas.Str.{IsUtf8-from_ascii}
use Rattle.std.proofs.lemmas.Str.Ascii.{IsAscii-nil, IsAscii-cons}
use Rattle.object_format.specs.Object.{IsSymbolByte, IsSymbol}
use Rattle.object_format.specs.ObjectReading.{is_symbol}

sign-graphic : (b : ℕ) → is_ascii_graphic b ≡ true → IsSymbolByte b
sign-graphic b h = let parts = and_parts _ _ h in (leb-true 33 b parts.0, leb-true b 126 parts.1)

graphic-sign : (b : ℕ) → IsSymbolByte b → is_ascii_graphic b ≡ true
graphic-sign b h = both_true (le-leb 33 b h.0) (le-leb b 126 h.1)

signs-all : (s : List ℕ) → list_all is_ascii_graphic s ≡ true → AllByRecursion IsSymbolByte s
signs-all [] h = tt
signs-all (b ∷ bs) h = let parts = and_parts (is_ascii_graphic b) (list_all is_ascii_graphic bs) h in (sign-graphic b parts.0, signs-all bs parts.1)

all-signs : (s : List ℕ) → AllByRecursion IsSymbolByte s → list_all is_ascii_graphic s ≡ true
all-signs [] h = refl
all-signs (b ∷ bs) h = both_true (graphic-sign b h.0) (all-signs bs h.1)

pub ascii-signs : (s : List ℕ) → AllByRecursion IsSymbolByte s → IsAscii s
ascii-signs [] h = IsAscii-nil
ascii-signs (b ∷ bs) h = IsAscii-cons b bs (omega (arith, h.0)) (ascii-signs bs h.1)

pub utf8-all : (s : List ℕ) → list_all is_ascii_graphic s ≡ true → IsUtf8 s
utf8-all s h = IsUtf8-from_ascii s (ascii-signs s (signs-all s h))

-- bytes that pass the test are a symbol
pub symbol-tested : (s : List ℕ) → length s < 2 ^ 32 → is_symbol s ≡ true → IsSymbol s
symbol-tested s short h =
    let parts = and_parts (ltb 0 (length s)) (list_all is_ascii_graphic s) h in
    record { some = ltb-true 0 (length s) parts.0; short = short; signs = signs-all s parts.1 }

-- and a symbol passes it
pub tested-symbol : (s : List ℕ) → IsSymbol s → is_symbol s ≡ true
tested-symbol s h = both_true (lt-ltb 0 (length s) h.some) (all-signs s h.signs)

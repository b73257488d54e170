-- The fields of an object: what is read of each is spelled so, and what is spelled so is read.
use Rattle.std.proofs.Common.{◌≡◌, ◌⊎◌, ℕ, ◌+◌, ◌^◌, ◌<◌, ◌≤◌, Bool, true, false, not, ◌&&◌, cond, eqb, None, List, [], ◌∷◌, ◌++◌, length, Ok, refl, sym, ap, subst, ◌∙◌, append_assoc, arith, inl, inr}
use Rattle.std.specs.Int.{w32, to_be_bytes}
use Rattle.std.specs.Cmp.Derive.{both_true}
use Rattle.std.proofs.lemmas.Bool.{eqb-true, and_parts}
use Rattle.object_format.specs.declared.fault.What.TheVariants as what
use Rattle.object_format.specs.Image.{function_spelling}
use Rattle.object_format.specs.Object.{UnlinkedFn, Unlinked, IsSymbol, IsUnlinkedFn, body_of, callees_of, symbol_spelling, kind_byte, unlinked_spelling}
use Rattle.object_format.specs.Reading.{Rest, ◌>>=◌, refused, byte_at, number_at, block_at, function_at}
use Rattle.object_format.specs.ObjectReading.{is_symbol, is_among, symbol_at, kind_at, named, with_function, with_external, unlinked_behind, external_behind}
use Rattle.object_format.proofs.Fields.{IsBytes, bind_ok, ok_is, guard_held, Takes, Takes-then, wide32, byte_takes, number_takes, number_again, block_takes, block_again}
use Rattle.object_format.specs.Version.{most_code}
use Rattle.object_format.specs.declared.version.Version.{Version}
use Rattle.object_format.proofs.CodeFaults.{made-whole}
use Rattle.object_format.proofs.Images.{function_takes, function_again}
use Rattle.object_format.proofs.SymbolTests.{symbol-tested, tested-symbol}

-- ---- symbols

pub record IsNewSymbol (before : List (List ℕ)) (s : List ℕ) : Type 0 where
  pub symbol : IsSymbol s
  pub new : is_among before s ≡ false

not_so : (b : Bool) → not b ≡ true → b ≡ false
not_so false h = refl
not_so true h = absurd cc

pub symbol_takes : (before : List (List ℕ)) (r : Rest) (x : List ℕ × Rest) → IsBytes r.bytes → symbol_at before r ≡ Ok x → Takes r (symbol_spelling x.0) x.1 × IsNewSymbol before x.0
unfolding symbol_at
symbol_takes before r x fits e =
    let a = bind_ok (number_at w32 r) (λ len. block_at len.0 len.1 >>= λ symbol. cond (is_symbol symbol.0 && not (is_among before symbol.0)) (Ok symbol) (refused len.1.at what.Symbol)) x e in
    let b = bind_ok (block_at a.0.0 a.0.1) (λ symbol. cond (is_symbol symbol.0 && not (is_among before symbol.0)) (Ok symbol) (refused a.0.1.at what.Symbol)) x a.2 in
    let g = guard_held (is_symbol b.0.0 && not (is_among before b.0.0)) _ b.0 x b.2 in
    let parts = and_parts (is_symbol b.0.0) (not (is_among before b.0.0)) g.0 in
    let t1 = number_takes w32 (2 ^ 32) wide32 r a.0.0 a.0.1 fits a.1 in
    let t2 = block_takes a.0.0 a.0.1 b.0.0 b.0.1 t1.0.fits b.1 in
    let both = Takes-then r (to_be_bytes w32 a.0.0) a.0.1 b.0.0 b.0.1 t1.0 t2.0 in
    let spelled : Takes r (symbol_spelling b.0.0) b.0.1 = subst (λ (k : ℕ). Takes r (to_be_bytes w32 k ++ b.0.0) b.0.1) (sym t2.1) both in
    let short : length b.0.0 < 2 ^ 32 = omega (arith, t1.1, t2.1) in
    let is_symbol_here : IsSymbol b.0.0 = symbol-tested b.0.0 short parts.0 in
    subst (λ (y : List ℕ × Rest). Takes r (symbol_spelling y.0) y.1 × IsNewSymbol before y.0) g.1 (spelled, record { symbol = is_symbol_here; new = not_so _ parts.1 })

pub symbol_again : (before : List (List ℕ)) (s : List ℕ) (at : ℕ) (behind : List ℕ) → IsSymbol s → is_among before s ≡ false
    → symbol_at before (record { at = at; bytes = symbol_spelling s ++ behind }) ≡ Ok (s, record { at = at + 4 + length s; bytes = behind })
unfolding symbol_at
symbol_again before s at behind own new =
    let regrouped : symbol_spelling s ++ behind ≡ to_be_bytes w32 (length s) ++ (s ++ behind) = append_assoc (to_be_bytes w32 (length s)) s behind in
    let test : (is_symbol s && not (is_among before s)) ≡ true = both_true (tested-symbol s own) (ap not new) in
    ap (λ (x : List ℕ). symbol_at before (record { at = at; bytes = x })) regrouped
    ∙ rw (number_again w32 (2 ^ 32) wide32 (length s) at (s ++ behind) own.short, block_again s (at + 4) behind, test) refl

-- ---- kinds

chosen : {A : Type 0} (b : Bool) (x y z : A) → cond b x y ≡ z → ((b ≡ true) × (x ≡ z)) ⊎ ((b ≡ false) × (y ≡ z))
chosen true x y z e = inl (refl, e)
chosen false x y z e = inr (refl, e)

pub kind_takes : (r : Rest) (x : Bool × Rest) → IsBytes r.bytes → kind_at r ≡ Ok x → Takes r (kind_byte x.0 ∷ []) x.1
kind_takes r x fits e =
    let a = bind_ok (byte_at r) (λ kind. cond (eqb kind.0 1) (Ok (true, kind.1)) (cond (eqb kind.0 0) (Ok (false, kind.1)) (refused r.at what.Kind))) x e in
    let took = (byte_takes r a.0.0 a.0.1 fits a.1).0 in
    elim (chosen (eqb a.0.0 1) (Ok (true, a.0.1)) (cond (eqb a.0.0 0) (Ok (false, a.0.1)) (refused r.at what.Kind)) (Ok x) a.2) [
      | inl p ↦ subst (λ (y : Bool × Rest). Takes r (kind_byte y.0 ∷ []) y.1) (ok_is (true, a.0.1) x p.1) (subst (λ (k : ℕ). Takes r (k ∷ []) a.0.1) (eqb-true _ _ p.0) took)
      | inr p ↦
          let g = guard_held (eqb a.0.0 0) _ (false, a.0.1) x p.1 in
          subst (λ (y : Bool × Rest). Takes r (kind_byte y.0 ∷ []) y.1) g.1 (subst (λ (k : ℕ). Takes r (k ∷ []) a.0.1) (eqb-true _ _ g.0) took)
    ]

pub kind_again : (external : Bool) (at : ℕ) (behind : List ℕ) → kind_at (record { at = at; bytes = kind_byte external ∷ behind }) ≡ Ok (external, record { at = at + 1; bytes = behind })
kind_again true at behind = refl
kind_again false at behind = refl

-- ---- a function

pub record TakesFunction (version : Version) (o : Unlinked) (r : Rest) (x : Unlinked × Rest) : Type 0 where
  pub function : UnlinkedFn
  pub more : x.0 ≡ with_function o function
  pub takes : Takes r (unlinked_spelling version function) x.1
  pub own : IsUnlinkedFn function
  pub short : length function.code ≤ most_code version
  pub new : is_among (callees_of o) function.symbol ≡ false

pub function_takes_more : (version : Version) (o : Unlinked) (r : Rest) (x : Unlinked × Rest) → IsBytes r.bytes → unlinked_behind version o r ≡ Ok x → TakesFunction version o r x
unfolding unlinked_behind
function_takes_more version o r x fits e =
    let a = bind_ok (symbol_at (callees_of o) r) (λ symbol. kind_at symbol.1 >>= λ kind. function_at version None kind.1 >>= λ body. Ok (with_function o (named symbol.0 kind.0 body.0), body.1)) x e in
    let b = bind_ok (kind_at a.0.1) (λ kind. function_at version None kind.1 >>= λ body. Ok (with_function o (named a.0.0 kind.0 body.0), body.1)) x a.2 in
    let c = bind_ok (function_at version None b.0.1) (λ body. Ok (with_function o (named a.0.0 b.0.0 body.0), body.1)) x b.2 in
    let t1 = symbol_takes (callees_of o) r a.0 fits a.1 in
    let t2 = kind_takes a.0.1 b.0 t1.0.fits b.1 in
    let t3 = function_takes version None b.0.1 c.0 t2.fits c.1 in
    let e23 = Takes-then a.0.1 (kind_byte b.0.0 ∷ []) b.0.1 (function_spelling version c.0.0) c.0.1 t2 t3.0 in
    let e13 = Takes-then r (symbol_spelling a.0.0) a.0.1 (kind_byte b.0.0 ∷ function_spelling version c.0.0) c.0.1 t1.0 e23 in
    let made : UnlinkedFn = named a.0.0 b.0.0 c.0.0 in
    subst (TakesFunction version o r) (ok_is (with_function o made, c.0.1) x c.2)
    (record { function = made; more = refl; takes = e13; own = record { symbol = t1.1.symbol; body = t3.1.own }; short = t3.1.short; new = t1.1.new })

pub function_again_more : (version : Version) (o : Unlinked) (f : UnlinkedFn) (at : ℕ) (behind : List ℕ) → IsUnlinkedFn f → length f.code ≤ most_code version → is_among (callees_of o) f.symbol ≡ false
    → (to : ℕ) × (unlinked_behind version o (record { at = at; bytes = unlinked_spelling version f ++ behind }) ≡ Ok (with_function o f, record { at = to; bytes = behind }))
unfolding unlinked_behind
function_again_more version o f at behind own short new =
    let body = function_again version None (body_of f) (at + 4 + length f.symbol + 1) behind short (made-whole f.code own.body.whole) in
    let rest = function_spelling version (body_of f) ++ behind in
    let regrouped : unlinked_spelling version f ++ behind ≡ symbol_spelling f.symbol ++ (kind_byte f.external ∷ rest) = append_assoc (symbol_spelling f.symbol) (kind_byte f.external ∷ function_spelling version (body_of f)) behind in (
      body.0,
      ap (λ (x : List ℕ). unlinked_behind version o (record { at = at; bytes = x })) regrouped
          ∙ rw (symbol_again (callees_of o) f.symbol at (kind_byte f.external ∷ rest) own.symbol new, kind_again f.external (at + 4 + length f.symbol) rest, body.1) refl,
    )

-- ---- an external

pub record TakesExternal (o : Unlinked) (r : Rest) (x : Unlinked × Rest) : Type 0 where
  pub symbol : List ℕ
  pub more : x.0 ≡ with_external o symbol
  pub takes : Takes r (symbol_spelling symbol) x.1
  pub own : IsSymbol symbol
  pub new : is_among (callees_of o) symbol ≡ false

pub external_takes_more : (o : Unlinked) (r : Rest) (x : Unlinked × Rest) → IsBytes r.bytes → external_behind o r ≡ Ok x → TakesExternal o r x
unfolding external_behind
external_takes_more o r x fits e =
    let a = bind_ok (symbol_at (callees_of o) r) (λ symbol. Ok (with_external o symbol.0, symbol.1)) x e in
    let t = symbol_takes (callees_of o) r a.0 fits a.1 in
    subst (TakesExternal o r) (ok_is (with_external o a.0.0, a.0.1) x a.2)
    (record { symbol = a.0.0; more = refl; takes = t.0; own = t.1.symbol; new = t.1.new })

pub external_again_more : (o : Unlinked) (s : List ℕ) (at : ℕ) (behind : List ℕ) → IsSymbol s → is_among (callees_of o) s ≡ false
    → external_behind o (record { at = at; bytes = symbol_spelling s ++ behind }) ≡ Ok (with_external o s, record { at = at + 4 + length s; bytes = behind })
unfolding external_behind
external_again_more o s at behind own new = rw (symbol_again (callees_of o) s at behind own new) refl

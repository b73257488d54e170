use Rattle.std.proofs.Common.{◌≡◌, ℕ, zero, suc, ◌+◌, ◌<◌, ◌≤◌, List, [], ◌∷◌, ◌++◌, length, refl, sym, ap, ◌∙◌, subst, arith}
use Rattle.std.proofs.lemmas.List.{length_push}
use Rattle.type_table.specs.declared.row.Row.{Row}
use Rattle.type_table.specs.declared.row.Row.TheVariants.{Int, Bool as Boolean, Param, Number, End, More, Tuple, Struct}
use Rattle.type_table.specs.TypeOf.{TypeOf, more, tuple, struct}
use Rattle.type_table.specs.Rows.{at, type_of, types_from, types, type_at, row_at, Names, IsTable}

-- lists that agree below n give a row that names numbers below n one type
pub same_type : (ts us : List TypeOf) (n : ℕ) (r : Row) → Names n r → ((k : ℕ) → k < n → at us k ≡ at ts k) → type_of us r ≡ type_of ts r
same_type ts us n (More a b) names h = ap (λ (x : TypeOf). more x (at us b)) (h a names.0) ∙ ap (λ (x : TypeOf). more (at ts a) x) (h b names.1)
same_type ts us n (Tuple a) names h = ap tuple (h a names)
same_type ts us n (Struct k a) names h = ap (struct k) (h a names)
same_type ts us n Int names h = refl
same_type ts us n Boolean names h = refl
same_type ts us n (Param k) names h = refl
same_type ts us n (Number v) names h = refl
same_type ts us n End names h = refl

pub at_front : (ts us : List TypeOf) (k : ℕ) → k < length ts → at (ts ++ us) k ≡ at ts k
at_front [] us k h = absurd (omega arith)
at_front (t ∷ ts) us zero h = refl
at_front (t ∷ ts) us (suc k) h = at_front ts us k (omega arith)

pub at_last : (ts : List TypeOf) (t : TypeOf) → at (ts ++ t ∷ []) (length ts) ≡ t
at_last [] t = refl
at_last (x ∷ ts) t = at_last ts t

-- types that stand already are kept
kept_from : (ts : List TypeOf) (rs : List Row) (k : ℕ) → k < length ts → at (types_from ts rs) k ≡ at ts k
kept_from ts [] k h = refl
kept_from ts (r ∷ rs) k h =
    let l : length (ts ++ type_of ts r ∷ []) ≡ length ts + 1 = length_push ts (type_of ts r) in
    kept_from (ts ++ type_of ts r ∷ []) rs k (omega arith) ∙ at_front ts (type_of ts r ∷ []) k h

pub length_from : (ts : List TypeOf) (rs : List Row) → length (types_from ts rs) ≡ length ts + length rs
length_from ts [] = omega arith
length_from ts (r ∷ rs) =
    let l : length (ts ++ type_of ts r ∷ []) ≡ length ts + 1 = length_push ts (type_of ts r) in
    let e : length (types_from (ts ++ type_of ts r ∷ []) rs) ≡ length (ts ++ type_of ts r ∷ []) + length rs = length_from (ts ++ type_of ts r ∷ []) rs in
    omega arith

pub stands_from : (ts : List TypeOf) (rs : List Row) (i n : ℕ) → i < length rs → n ≡ length ts + i → ((k : ℕ) → k < length rs → Names (length ts + k) (row_at rs k)) → at (types_from ts rs) n ≡ type_of (types_from ts rs) (row_at rs i)
stands_from ts [] i n h e names = absurd (omega arith)
stands_from ts (r ∷ rs) zero n h e names =
    let us : List TypeOf = types_from (ts ++ type_of ts r ∷ []) rs in
    let l : length (ts ++ type_of ts r ∷ []) ≡ length ts + 1 = length_push ts (type_of ts r) in
    let m : n ≡ length ts = omega arith in
    let here : at us (length ts) ≡ type_of ts r = kept_from (ts ++ type_of ts r ∷ []) rs (length ts) (omega arith) ∙ at_last ts (type_of ts r) in
    let names_here : Names (length ts) r = subst (λ (x : ℕ). Names x r) (omega arith) (names 0 (omega arith)) in
    let again : type_of us r ≡ type_of ts r = same_type ts us (length ts) r names_here (λ k lt. kept_from ts (r ∷ rs) k lt) in
    ap (at us) m ∙ here ∙ sym again
stands_from ts (r ∷ rs) (suc i) n h e names =
    let l : length (ts ++ type_of ts r ∷ []) ≡ length ts + 1 = length_push ts (type_of ts r) in
    stands_from (ts ++ type_of ts r ∷ []) rs i n (omega arith) (omega arith) (λ k lt. subst (λ (x : ℕ). Names x (row_at rs k)) (omega arith) (names (suc k) (omega arith)))

pub row_stands : (rows : List Row) (i : ℕ) → IsTable rows → i < length rows → type_at rows i ≡ type_of (types rows) (row_at rows i)
unfolding type_at types
row_stands rows i table h = stands_from [] rows i i h (omega arith) (λ k lt. subst (λ (x : ℕ). Names x (row_at rows k)) (omega arith) (table.earlier k lt))

-- rows that stand for one type are one, if their numbers are told apart by their types
same_row : (ts : List TypeOf) (m n : ℕ) (r s : Row) → Names m r → Names n s → ((a b : ℕ) → a < m → b < n → at ts a ≡ at ts b → a ≡ b) → type_of ts r ≡ type_of ts s → r ≡ s
same_row ts m n (More a b) (More c d) p q same e =
    let x : at ts a ≡ at ts c = cc in
    let y : at ts b ≡ at ts d = cc in
    let u : a ≡ c = same a c p.0 q.0 x in
    let v : b ≡ d = same b d p.1 q.1 y in
    cc
same_row ts m n (Tuple a) (Tuple b) p q same e = let x : at ts a ≡ at ts b = cc in ap Tuple (same a b p q x)
same_row ts m n (Struct j a) (Struct k b) p q same e =
    let x : at ts a ≡ at ts b = cc in
    let u : a ≡ b = same a b p q x in
    let v : j ≡ k = cc in
    cc
same_row ts m n Int Int p q same e = refl
same_row ts m n Boolean Boolean p q same e = refl
same_row ts m n End End p q same e = refl
same_row ts m n (Param a) (Param b) p q same e = let x : a ≡ b = cc in ap Param x
same_row ts m n (Number a) (Number b) p q same e = let x : a ≡ b = cc in ap Number x
same_row ts m n _ _ p q same e = cc

same_below : (rows : List Row) → IsTable rows → (n : ℕ) → n ≤ length rows → (i j : ℕ) → i < n → j < n → type_at rows i ≡ type_at rows j → i ≡ j
unfolding type_at
same_below rows table zero few i j p q e = absurd (omega arith)
same_below rows table (suc n) few i j p q e =
    let a : i < length rows = omega arith in
    let b : j < length rows = omega arith in
    table.apart i j a b (same_row (types rows) i j (row_at rows i) (row_at rows j) (table.earlier i a) (table.earlier j b)
    (λ x y lx ly xy. same_below rows table n (omega arith) x y (omega arith) (omega arith) xy)
    (sym (row_stands rows i table a) ∙ e ∙ row_stands rows j table b))

-- equal types have equal numbers
pub equal_numbers : (rows : List Row) (i j : ℕ) → IsTable rows → i < length rows → j < length rows → type_at rows i ≡ type_at rows j → i ≡ j
equal_numbers rows i j table p q e = same_below rows table (length rows) (omega arith) i j p q e

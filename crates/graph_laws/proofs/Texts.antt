-- The texts of types tell the types apart.
use Rattle.std.proofs.Common.{◌≡◌, ◌≢◌, ℕ, suc, ◌<◌, ◌≤◌, ◌^◌, List, [], ◌∷◌, ◌++◌, length, refl, sym, ap, ◌∙◌, subst, arith, true, false, ◌⊎◌, inl, inr, append_assoc, append-nil, drop}
use Rattle.std.specs.Prelude.{ℤ, pos, negsuc, codes, nat_eq}
use Rattle.std.specs.List.{AllByRecursion}
use Rattle.std.specs.Fmt.{decimal, signed_decimal}
use Rattle.std.specs.Str.Parse.{AllDigits}
use Rattle.std.proofs.lemmas.Fmt.{decimal_is_IsNumeral, decimal_injective, decimal_nonempty}
use Rattle.std.proofs.lemmas.Str.Parse.{digit_from_value}
use Rattle.std.proofs.lemmas.Bool.Decides.{nat_tests}
use Rattle.type_table.specs.declared.decl.StructDecl.{StructDecl}
use Rattle.type_table.specs.TypeOf.{TypeOf, int, bool, param, number, end, more, tuple, struct}
use Rattle.type_sizes.specs.Spelling.{struct_text, comma, angled, text_of}
use Rattle.graph_laws.specs.Numbers.{IsSmall}
use Rattle.graph_laws.proofs.Bytes.{IsPart, AreParts, has_colon}

-- ---- numbers
-- a byte of a decimal
record IsDigit (c : ℕ) : Type 0 where
  low : 48 ≤ c
  high : c ≤ 57

are_digits : (ds : List ℕ) → AllDigits 10 ds → AllByRecursion IsDigit ds
are_digits [] d = tt
are_digits (c ∷ cs) d = (record { low = omega (arith, digit_from_value c d.0); high = omega (arith, digit_from_value c d.0) }, are_digits cs d.1)

abbrev IsLow : ℕ → Type 0
IsLow c = (44 < c) × (c < 58)

low_digits : (ds : List ℕ) → AllByRecursion IsDigit ds → AllByRecursion IsLow ds
low_digits [] h = tt
low_digits (c ∷ cs) h = ((let d = h.0 in let l : 48 ≤ c = d.low in omega arith, let d = h.0 in let l : c ≤ 57 = d.high in omega arith), low_digits cs h.1)

number_low : (v : ℤ) → IsSmall v → AllByRecursion IsLow (signed_decimal v)
number_low (pos n) h = low_digits (decimal n) (are_digits (decimal n) (decimal_is_IsNumeral n h).0.1)
number_low (negsuc n) h = ((omega arith, omega arith), low_digits (decimal (suc n)) (are_digits (decimal (suc n)) (decimal_is_IsNumeral (suc n) (omega arith)).0.1))

not_empty : (xs : List ℕ) → 0 < length xs → xs ≡ [] → ⊥
not_empty [] h e = omega arith
not_empty (x ∷ xs) h e = cc

number_some : (v : ℤ) → IsSmall v → signed_decimal v ≡ [] → ⊥
number_some (pos n) h e = not_empty (decimal n) (decimal_nonempty n h) e
number_some (negsuc n) h e = cc

low_parts : (cs : List ℕ) → AllByRecursion IsLow cs → AreParts cs
low_parts [] h = tt
low_parts (c ∷ cs) h =
    let l : 44 < c = h.0.0 in
    let m : c < 58 = h.0.1 in
    (record { above = omega arith; comma = λ e. omega arith; less = λ e. omega arith; greater = λ e. omega arith }, low_parts cs h.1)

minus_none : (n : ℕ) (ds : List ℕ) → n < 2 ^ 64 → decimal n ≡ 45 ∷ ds → ⊥
minus_none n ds h e = let d : AllByRecursion IsDigit (45 ∷ ds) = subst (AllByRecursion IsDigit) e (are_digits (decimal n) (decimal_is_IsNumeral n h).0.1) in let l : 48 ≤ 45 = (d.0).low in omega arith

number_injective : (v w : ℤ) → IsSmall v → IsSmall w → signed_decimal v ≡ signed_decimal w → v ≡ w
number_injective (pos m) (pos n) p q e = ap pos (decimal_injective m n p q e)
number_injective (pos m) (negsuc n) p q e = absurd (minus_none m (decimal (suc n)) p e)
number_injective (negsuc m) (pos n) p q e = absurd (minus_none n (decimal (suc m)) q (sym e))
number_injective (negsuc m) (negsuc n) p q e = let d : suc m ≡ suc n = decimal_injective (suc m) (suc n) (omega arith) (omega arith) (ap (drop 1) e) in let s : m ≡ n = omega arith in ap negsuc s

-- ---- what ends a text
abbrev pub Ends : List ℕ → Type 0
Ends [] = Unit {0}
Ends (c ∷ cs) = (c ≡ 41) ⊎ ((c ≡ 44) ⊎ (c ≡ 62))

abbrev pub Stops : List ℕ → Type 0
Stops [] = Unit {0}
Stops (c ∷ cs) = (c ≡ 60) ⊎ ((c ≡ 41) ⊎ ((c ≡ 44) ⊎ (c ≡ 62)))

stops : (s : List ℕ) → Ends s → Stops s
stops [] o = tt
stops (c ∷ cs) o = inr o

not_part : (c : ℕ) → (c ≡ 60) ⊎ ((c ≡ 41) ⊎ ((c ≡ 44) ⊎ (c ≡ 62))) → IsPart c → ⊥
not_part c (inl e) p = p.less e
not_part c (inr (inl e)) p = let a : 43 < c = p.above in omega arith
not_part c (inr (inr (inl e))) p = p.comma e
not_part c (inr (inr (inr e))) p = p.greater e

-- names that stop are told apart
pub names : (n m s t : List ℕ) → AreParts n → AreParts m → Stops s → Stops t → n ++ s ≡ m ++ t → (n ≡ m) × (s ≡ t)
names [] [] s t p q a b e = (refl, e)
names [] (y ∷ m) [] t p q a b e = cc
names [] (y ∷ m) (c ∷ s) t p q a b e = let same : y ≡ c = cc in absurd (not_part c a (subst IsPart same q.0))
names (x ∷ n) [] s [] p q a b e = cc
names (x ∷ n) [] s (c ∷ t) p q a b e = let same : x ≡ c = cc in absurd (not_part c b (subst IsPart same p.0))
names (x ∷ n) (y ∷ m) s t p q a b e =
    let head : x ≡ y = cc in
    let rest : n ++ s ≡ m ++ t = cc in
    let r : (n ≡ m) × (s ≡ t) = names n m s t p.1 q.1 a b rest in
    let f : n ≡ m = r.0 in
    (cc, r.1)

low_no_colon : (cs : List ℕ) → AllByRecursion IsLow cs → has_colon cs ≡ false
low_no_colon [] h = refl
low_no_colon (c ∷ cs) h = let l : c < 58 = h.0.1 in let t : nat_eq 58 c ≡ false = not_colon c l in rw t (low_no_colon cs h.1)
  where
    not_colon : (c : ℕ) → c < 58 → nat_eq 58 c ≡ false
    not_colon c l = grind (arith, nat_tests)

-- ---- types
-- paths of structs: no sign of a type stands in them, they have a colon, and no two are one
pub record ArePaths (structs : List StructDecl) : Type 0 where
  pub parts : (n : ℕ) → n < length structs → AreParts (struct_text structs n)
  pub colon : (n : ℕ) → n < length structs → has_colon (struct_text structs n) ≡ true
  pub apart : (n m : ℕ) → n < length structs → m < length structs → struct_text structs n ≡ struct_text structs m → n ≡ m

module _ (structs : List StructDecl) (paths : ArePaths structs) where
  -- a type or a number without generics, and a list of these
  abbrev mutual
    pub IsItem : TypeOf → Type 0
    IsItem int = Unit {0}
    IsItem bool = Unit {0}
    IsItem (param k) = ⊥
    IsItem (number v) = IsSmall v
    IsItem end = ⊥
    IsItem (more t ts) = ⊥
    IsItem (tuple ts) = AreItems ts
    IsItem (struct n ts) = (n < length structs) × AreItems ts

    pub AreItems : TypeOf → Type 0
    AreItems end = Unit {0}
    AreItems (more t ts) = IsItem t × AreItems ts
    AreItems int = ⊥
    AreItems bool = ⊥
    AreItems (param k) = ⊥
    AreItems (number v) = ⊥
    AreItems (tuple ts) = ⊥
    AreItems (struct n ts) = ⊥

  abbrev text : TypeOf → List ℕ
  text t = text_of structs [] t

  -- how the text of a type begins
  begins_path : (n : ℕ) (s : List ℕ) (c : ℕ) (q : List ℕ) → n < length structs → (c ≡ 41) ⊎ ((c ≡ 44) ⊎ (c ≡ 62)) → struct_text structs n ++ s ≡ c ∷ q → ⊥
  begins_path n s c q l h e = by (struct_text structs n) (paths.parts n l) (paths.colon n l) e
    where
      by : (cs : List ℕ) → AreParts cs → has_colon cs ≡ true → cs ++ s ≡ c ∷ q → ⊥
      by [] p k f = cc
      by (x ∷ cs) p k f = let same : x ≡ c = cc in not_part c (inr h) (subst IsPart same p.0)

  begins_number : (v : ℤ) (s : List ℕ) (c : ℕ) (q : List ℕ) → IsSmall v → (c ≡ 41) ⊎ ((c ≡ 44) ⊎ (c ≡ 62)) → signed_decimal v ++ s ≡ c ∷ q → ⊥
  begins_number v s c q l h e = by (signed_decimal v) (low_parts (signed_decimal v) (number_low v l)) (number_some v l) e
    where
      by : (cs : List ℕ) → AreParts cs → (cs ≡ [] → ⊥) → cs ++ s ≡ c ∷ q → ⊥
      by [] p k f = k refl
      by (x ∷ cs) p k f = let same : x ≡ c = cc in not_part c (inr h) (subst IsPart same p.0)

  other : (c x : ℕ) → (c ≡ 41) ⊎ ((c ≡ 44) ⊎ (c ≡ 62)) → (x ≡ 105) ⊎ ((x ≡ 98) ⊎ (x ≡ 40)) → x ≡ c → ⊥
  other c x (inl h) (inl k) e = omega arith
  other c x (inl h) (inr (inl k)) e = omega arith
  other c x (inl h) (inr (inr k)) e = omega arith
  other c x (inr (inl h)) (inl k) e = omega arith
  other c x (inr (inl h)) (inr (inl k)) e = omega arith
  other c x (inr (inl h)) (inr (inr k)) e = omega arith
  other c x (inr (inr h)) (inl k) e = omega arith
  other c x (inr (inr h)) (inr (inl k)) e = omega arith
  other c x (inr (inr h)) (inr (inr k)) e = omega arith

  begins : (t : TypeOf) (s : List ℕ) (c : ℕ) (q : List ℕ) → IsItem t → (c ≡ 41) ⊎ ((c ≡ 44) ⊎ (c ≡ 62)) → text t ++ s ≡ c ∷ q → ⊥
  begins int s c q g h e = let f : 105 ≡ c = cc in other c 105 h (inl refl) f
  begins bool s c q g h e = let f : 98 ≡ c = cc in other c 98 h (inr (inl refl)) f
  begins (param k) s c q g h e = g
  begins (number v) s c q g h e = begins_number v s c q g h e
  begins end s c q g h e = g
  begins (more t ts) s c q g h e = g
  begins (tuple ts) s c q g h e = let f : 40 ≡ c = cc in other c 40 h (inr (inr refl)) f
  begins (struct n ts) s c q g h e = begins_path n (angled ts (text ts) ++ s) c q g.0 h (sym (append_assoc (struct_text structs n) (angled ts (text ts)) s) ∙ e)

  i64_parts : AreParts (codes "i64")
  i64_parts = (letter 105 (omega arith) (λ e. omega arith) (λ e. omega arith), (letter 54 (omega arith) (λ e. omega arith) (λ e. omega arith), (letter 52 (omega arith) (λ e. omega arith) (λ e. omega arith), tt)))
    where
      letter : (c : ℕ) → 44 < c → c ≢ 60 → c ≢ 62 → IsPart c
      letter c l p q = record { above = omega arith; comma = λ e. omega arith; less = p; greater = q }

  bool_parts : AreParts (codes "bool")
  bool_parts = (letter 98 (omega arith), (letter 111 (omega arith), (letter 111 (omega arith), (letter 108 (omega arith), tt))))
    where
      letter : (c : ℕ) → (62 < c) × (c < 123) → IsPart c
      letter c h = let l : 62 < c = h.0 in record { above = omega arith; comma = λ e. omega arith; less = λ e. omega arith; greater = λ e. omega arith }

  number_parts : (v : ℤ) → IsSmall v → AreParts (signed_decimal v)
  number_parts v h = low_parts (signed_decimal v) (number_low v h)

  angled_stops : (ts : TypeOf) (s : List ℕ) → AreItems ts → Ends s → Stops (angled ts (text ts) ++ s)
  angled_stops end s g a = stops s a
  angled_stops (more t ts) s g a = inl refl
  angled_stops int s g a = absurd g
  angled_stops bool s g a = absurd g
  angled_stops (param k) s g a = absurd g
  angled_stops (number v) s g a = absurd g
  angled_stops (tuple ts) s g a = absurd g
  angled_stops (struct n ts) s g a = absurd g

  no_angle : (s q : List ℕ) → Ends s → s ≡ 60 ∷ q → ⊥
  no_angle [] q o e = cc
  no_angle (c ∷ s) q (inl h) e = let same : c ≡ 60 = cc in absurd (omega arith)
  no_angle (c ∷ s) q (inr (inl h)) e = let same : c ≡ 60 = cc in absurd (omega arith)
  no_angle (c ∷ s) q (inr (inr h)) e = let same : c ≡ 60 = cc in absurd (omega arith)

  abbrev SameItems : TypeOf → TypeOf → Type 0
  SameItems ts us = (c : ℕ) (s r : List ℕ) → (c ≡ 41) ⊎ (c ≡ 62) → AreItems ts → AreItems us → text ts ++ c ∷ s ≡ text us ++ c ∷ r → (ts ≡ us) × (s ≡ r)

  same_angled : (ts us : TypeOf) (s r : List ℕ) → AreItems ts → AreItems us → Ends s → Ends r → SameItems ts us → angled ts (text ts) ++ s ≡ angled us (text us) ++ r → (ts ≡ us) × (s ≡ r)
  same_angled end end s r g h a b f e = (refl, e)
  same_angled end (more u us) s r g h a b f e = absurd (no_angle s ((text (more u us) ++ 62 ∷ []) ++ r) a e)
  same_angled (more t ts) end s r g h a b f e = absurd (no_angle r ((text (more t ts) ++ 62 ∷ []) ++ s) b (sym e))
  same_angled (more t ts) (more u us) s r g h a b f e =
      let inner : (text (more t ts) ++ 62 ∷ []) ++ s ≡ (text (more u us) ++ 62 ∷ []) ++ r = ap (drop 1) e in
      f 62 s r (inr refl) g h (sym (append_assoc (text (more t ts)) (62 ∷ []) s) ∙ inner ∙ append_assoc (text (more u us)) (62 ∷ []) r)
  same_angled end int s r g h a b f e = absurd h
  same_angled end bool s r g h a b f e = absurd h
  same_angled end (param k) s r g h a b f e = absurd h
  same_angled end (number v) s r g h a b f e = absurd h
  same_angled end (tuple us) s r g h a b f e = absurd h
  same_angled end (struct n us) s r g h a b f e = absurd h
  same_angled (more t ts) int s r g h a b f e = absurd h
  same_angled (more t ts) bool s r g h a b f e = absurd h
  same_angled (more t ts) (param k) s r g h a b f e = absurd h
  same_angled (more t ts) (number v) s r g h a b f e = absurd h
  same_angled (more t ts) (tuple us) s r g h a b f e = absurd h
  same_angled (more t ts) (struct n us) s r g h a b f e = absurd h
  same_angled int us s r g h a b f e = absurd g
  same_angled bool us s r g h a b f e = absurd g
  same_angled (param k) us s r g h a b f e = absurd g
  same_angled (number v) us s r g h a b f e = absurd g
  same_angled (tuple ts) us s r g h a b f e = absurd g
  same_angled (struct n ts) us s r g h a b f e = absurd g

  -- a struct's text against a name without a colon
  struct_not : (n : ℕ) (us : TypeOf) (m s r : List ℕ) → n < length structs → AreItems us → AreParts m → has_colon m ≡ false → Ends s → Ends r → m ++ s ≡ (struct_text structs n ++ angled us (text us)) ++ r → ⊥
  struct_not n us m s r l h p none a b e =
      let x : (m ≡ struct_text structs n) × (s ≡ angled us (text us) ++ r) = names m (struct_text structs n) s (angled us (text us) ++ r) p (paths.parts n l) (stops s a) (angled_stops us r h b) (e ∙ append_assoc (struct_text structs n) (angled us (text us)) r) in
      let c : has_colon m ≡ true = ap has_colon x.0 ∙ paths.colon n l in
      cc

  no_bracket : (m s q : List ℕ) → AreParts m → (m ≡ [] → ⊥) → m ++ s ≡ 40 ∷ q → ⊥
  no_bracket [] s q p k e = k refl
  no_bracket (x ∷ m) s q p k e = let same : x ≡ 40 = cc in let l : 43 < x = (p.0).above in omega arith

  colon_some : (m : List ℕ) → has_colon m ≡ true → m ≡ [] → ⊥
  colon_some [] h e = cc
  colon_some (x ∷ m) h e = cc

  not_low : (c : ℕ) (cs : List ℕ) (v : ℤ) → IsSmall v → 57 < c → c ∷ cs ≡ signed_decimal v → ⊥
  not_low c cs v h l e = let d : AllByRecursion IsLow (c ∷ cs) = subst (AllByRecursion IsLow) (sym e) (number_low v h) in let m : c < 58 = d.0.1 in omega arith

  ends_more : (ts : TypeOf) (c : ℕ) (s : List ℕ) → AreItems ts → (c ≡ 41) ⊎ (c ≡ 62) → Ends (comma ts ++ (text ts ++ c ∷ s))
  ends_more end c s g (inl h) = inl h
  ends_more end c s g (inr h) = inr (inr h)
  ends_more (more t ts) c s g k = inr (inl refl)
  ends_more int c s g k = absurd g
  ends_more bool c s g k = absurd g
  ends_more (param n) c s g k = absurd g
  ends_more (number v) c s g k = absurd g
  ends_more (tuple ts) c s g k = absurd g
  ends_more (struct n ts) c s g k = absurd g

  wider : (c : ℕ) → (c ≡ 41) ⊎ (c ≡ 62) → (c ≡ 41) ⊎ ((c ≡ 44) ⊎ (c ≡ 62))
  wider c (inl h) = inl h
  wider c (inr h) = inr (inr h)

  not_comma : (c : ℕ) → (c ≡ 41) ⊎ (c ≡ 62) → c ≡ 44 → ⊥
  not_comma c (inl h) e = omega arith
  not_comma c (inr h) e = omega arith

  -- the rest of a list, where its comma is known
  same_rest : (ts us : TypeOf) (c : ℕ) (s r : List ℕ) → (c ≡ 41) ⊎ (c ≡ 62) → AreItems ts → AreItems us → SameItems ts us → comma ts ++ (text ts ++ c ∷ s) ≡ comma us ++ (text us ++ c ∷ r) → (ts ≡ us) × (s ≡ r)
  same_rest end end c s r k g h f e = (refl, ap (drop 1) e)
  same_rest end (more u us) c s r k g h f e = let x : c ≡ 44 = cc in absurd (not_comma c k x)
  same_rest (more t ts) end c s r k g h f e = let x : c ≡ 44 = cc in absurd (not_comma c k x)
  same_rest (more t ts) (more u us) c s r k g h f e = f c s r k g h (ap (drop 1) e)
  same_rest end int c s r k g h f e = absurd h
  same_rest end bool c s r k g h f e = absurd h
  same_rest end (param n) c s r k g h f e = absurd h
  same_rest end (number v) c s r k g h f e = absurd h
  same_rest end (tuple us) c s r k g h f e = absurd h
  same_rest end (struct n us) c s r k g h f e = absurd h
  same_rest (more t ts) int c s r k g h f e = absurd h
  same_rest (more t ts) bool c s r k g h f e = absurd h
  same_rest (more t ts) (param n) c s r k g h f e = absurd h
  same_rest (more t ts) (number v) c s r k g h f e = absurd h
  same_rest (more t ts) (tuple us) c s r k g h f e = absurd h
  same_rest (more t ts) (struct n us) c s r k g h f e = absurd h
  same_rest int us c s r k g h f e = absurd g
  same_rest bool us c s r k g h f e = absurd g
  same_rest (param n) us c s r k g h f e = absurd g
  same_rest (number v) us c s r k g h f e = absurd g
  same_rest (tuple ts) us c s r k g h f e = absurd g
  same_rest (struct n ts) us c s r k g h f e = absurd g

  split : (t ts : TypeOf) (q : List ℕ) → text (more t ts) ++ q ≡ text t ++ (comma ts ++ (text ts ++ q))
  split t ts q = ap (λ (x : List ℕ). x ++ q) (append_assoc (text t) (comma ts) (text ts)) ∙ append_assoc (text t) (comma ts ++ text ts) q ∙ ap (λ (x : List ℕ). text t ++ x) (append_assoc (comma ts) (text ts) q)

  heads : (c d : ℕ) (s r : List ℕ) → (c ≡ d → ⊥) → c ∷ s ≡ d ∷ r → ⊥
  heads c d s r k e = let f : c ≡ d = cc in k f

  mutual
    same_item : (t u : TypeOf) (s r : List ℕ) → IsItem t → IsItem u → Ends s → Ends r → text t ++ s ≡ text u ++ r → (t ≡ u) × (s ≡ r)
    same_item int int s r g h a b e = (refl, (names (codes "i64") (codes "i64") s r i64_parts i64_parts (stops s a) (stops r b) e).1)
    same_item int bool s r g h a b e = absurd (heads 105 98 _ _ (λ f. omega arith) e)
    same_item int (number v) s r g h a b e = absurd (not_low 105 (54 ∷ 52 ∷ []) v h (omega arith) (names (codes "i64") (signed_decimal v) s r i64_parts (number_parts v h) (stops s a) (stops r b) e).0)
    same_item int (tuple us) s r g h a b e = absurd (heads 105 40 _ _ (λ f. omega arith) e)
    same_item int (struct n us) s r g h a b e = absurd (struct_not n us (codes "i64") s r h.0 h.1 i64_parts refl a b e)
    same_item bool int s r g h a b e = absurd (heads 98 105 _ _ (λ f. omega arith) e)
    same_item bool bool s r g h a b e = (refl, (names (codes "bool") (codes "bool") s r bool_parts bool_parts (stops s a) (stops r b) e).1)
    same_item bool (number v) s r g h a b e = absurd (not_low 98 (111 ∷ 111 ∷ 108 ∷ []) v h (omega arith) (names (codes "bool") (signed_decimal v) s r bool_parts (number_parts v h) (stops s a) (stops r b) e).0)
    same_item bool (tuple us) s r g h a b e = absurd (heads 98 40 _ _ (λ f. omega arith) e)
    same_item bool (struct n us) s r g h a b e = absurd (struct_not n us (codes "bool") s r h.0 h.1 bool_parts refl a b e)
    same_item (number v) int s r g h a b e = absurd (not_low 105 (54 ∷ 52 ∷ []) v g (omega arith) (sym (names (signed_decimal v) (codes "i64") s r (number_parts v g) i64_parts (stops s a) (stops r b) e).0))
    same_item (number v) bool s r g h a b e = absurd (not_low 98 (111 ∷ 111 ∷ 108 ∷ []) v g (omega arith) (sym (names (signed_decimal v) (codes "bool") s r (number_parts v g) bool_parts (stops s a) (stops r b) e).0))
    same_item (number v) (number w) s r g h a b e = let x = names (signed_decimal v) (signed_decimal w) s r (number_parts v g) (number_parts w h) (stops s a) (stops r b) e in (ap number (number_injective v w g h x.0), x.1)
    same_item (number v) (tuple us) s r g h a b e = absurd (no_bracket (signed_decimal v) s ((text us ++ 41 ∷ []) ++ r) (number_parts v g) (number_some v g) e)
    same_item (number v) (struct n us) s r g h a b e = absurd (struct_not n us (signed_decimal v) s r h.0 h.1 (number_parts v g) (low_no_colon (signed_decimal v) (number_low v g)) a b e)
    same_item (tuple ts) int s r g h a b e = absurd (heads 40 105 _ _ (λ f. omega arith) e)
    same_item (tuple ts) bool s r g h a b e = absurd (heads 40 98 _ _ (λ f. omega arith) e)
    same_item (tuple ts) (number v) s r g h a b e = absurd (no_bracket (signed_decimal v) r ((text ts ++ 41 ∷ []) ++ s) (number_parts v h) (number_some v h) (sym e))
    same_item (tuple ts) (tuple us) s r g h a b e =
        let inner : (text ts ++ 41 ∷ []) ++ s ≡ (text us ++ 41 ∷ []) ++ r = ap (drop 1) e in
        let x = same_items ts us 41 s r (inl refl) g h (sym (append_assoc (text ts) (41 ∷ []) s) ∙ inner ∙ append_assoc (text us) (41 ∷ []) r) in
        (ap tuple x.0, x.1)
    same_item (tuple ts) (struct n us) s r g h a b e = absurd (no_bracket (struct_text structs n) (angled us (text us) ++ r) ((text ts ++ 41 ∷ []) ++ s) (paths.parts n h.0) (colon_some (struct_text structs n) (paths.colon n h.0)) (sym (append_assoc (struct_text structs n) (angled us (text us)) r) ∙ sym e))
    same_item (struct n ts) int s r g h a b e = absurd (struct_not n ts (codes "i64") r s g.0 g.1 i64_parts refl b a (sym e))
    same_item (struct n ts) bool s r g h a b e = absurd (struct_not n ts (codes "bool") r s g.0 g.1 bool_parts refl b a (sym e))
    same_item (struct n ts) (number v) s r g h a b e = absurd (struct_not n ts (signed_decimal v) r s g.0 g.1 (number_parts v h) (low_no_colon (signed_decimal v) (number_low v h)) b a (sym e))
    same_item (struct n ts) (tuple us) s r g h a b e = absurd (no_bracket (struct_text structs n) (angled ts (text ts) ++ s) ((text us ++ 41 ∷ []) ++ r) (paths.parts n g.0) (colon_some (struct_text structs n) (paths.colon n g.0)) (sym (append_assoc (struct_text structs n) (angled ts (text ts)) s) ∙ e))
    same_item (struct n ts) (struct m us) s r g h a b e =
        let x = names (struct_text structs n) (struct_text structs m) (angled ts (text ts) ++ s) (angled us (text us) ++ r) (paths.parts n g.0) (paths.parts m h.0) (angled_stops ts s g.1 a) (angled_stops us r h.1 b) (sym (append_assoc (struct_text structs n) (angled ts (text ts)) s) ∙ e ∙ append_assoc (struct_text structs m) (angled us (text us)) r) in
        let y = same_angled ts us s r g.1 h.1 a b (λ c s2 r2 k g2 h2 e2. same_items ts us c s2 r2 k g2 h2 e2) x.1 in
        let nm : n ≡ m = paths.apart n m g.0 h.0 x.0 in
        (ap (λ (k : ℕ). struct k ts) nm ∙ ap (struct m) y.0, y.1)
    same_item (param k) u s r g h a b e = absurd g
    same_item end u s r g h a b e = absurd g
    same_item (more t ts) u s r g h a b e = absurd g
    same_item int (param k) s r g h a b e = absurd h
    same_item int end s r g h a b e = absurd h
    same_item int (more u us) s r g h a b e = absurd h
    same_item bool (param k) s r g h a b e = absurd h
    same_item bool end s r g h a b e = absurd h
    same_item bool (more u us) s r g h a b e = absurd h
    same_item (number v) (param k) s r g h a b e = absurd h
    same_item (number v) end s r g h a b e = absurd h
    same_item (number v) (more u us) s r g h a b e = absurd h
    same_item (tuple ts) (param k) s r g h a b e = absurd h
    same_item (tuple ts) end s r g h a b e = absurd h
    same_item (tuple ts) (more u us) s r g h a b e = absurd h
    same_item (struct n ts) (param k) s r g h a b e = absurd h
    same_item (struct n ts) end s r g h a b e = absurd h
    same_item (struct n ts) (more u us) s r g h a b e = absurd h

    -- lists whose texts end with one sign are told apart
    pub same_items : (ts us : TypeOf) (c : ℕ) (s r : List ℕ) → (c ≡ 41) ⊎ (c ≡ 62) → AreItems ts → AreItems us → text ts ++ c ∷ s ≡ text us ++ c ∷ r → (ts ≡ us) × (s ≡ r)
    same_items end end c s r k g h e = (refl, ap (drop 1) e)
    same_items end (more u us) c s r k g h e = absurd (begins u (comma us ++ (text us ++ c ∷ r)) c s h.0 (wider c k) (sym (split u us (c ∷ r)) ∙ sym e))
    same_items (more t ts) end c s r k g h e = absurd (begins t (comma ts ++ (text ts ++ c ∷ s)) c r g.0 (wider c k) (sym (split t ts (c ∷ s)) ∙ e))
    same_items (more t ts) (more u us) c s r k g h e =
        let x = same_item t u (comma ts ++ (text ts ++ c ∷ s)) (comma us ++ (text us ++ c ∷ r)) g.0 h.0 (ends_more ts c s g.1 k) (ends_more us c r h.1 k) (sym (split t ts (c ∷ s)) ∙ e ∙ split u us (c ∷ r)) in
        let y = same_rest ts us c s r k g.1 h.1 (λ c2 s2 r2 k2 g2 h2 e2. same_items ts us c2 s2 r2 k2 g2 h2 e2) x.1 in
        (ap (λ (z : TypeOf). more z ts) x.0 ∙ ap (more u) y.0, y.1)
    same_items end int c s r k g h e = absurd h
    same_items end bool c s r k g h e = absurd h
    same_items end (param n) c s r k g h e = absurd h
    same_items end (number v) c s r k g h e = absurd h
    same_items end (tuple us) c s r k g h e = absurd h
    same_items end (struct n us) c s r k g h e = absurd h
    same_items (more t ts) int c s r k g h e = absurd h
    same_items (more t ts) bool c s r k g h e = absurd h
    same_items (more t ts) (param n) c s r k g h e = absurd h
    same_items (more t ts) (number v) c s r k g h e = absurd h
    same_items (more t ts) (tuple us) c s r k g h e = absurd h
    same_items (more t ts) (struct n us) c s r k g h e = absurd h
    same_items int us c s r k g h e = absurd g
    same_items bool us c s r k g h e = absurd g
    same_items (param n) us c s r k g h e = absurd g
    same_items (number v) us c s r k g h e = absurd g
    same_items (tuple ts) us c s r k g h e = absurd g
    same_items (struct n ts) us c s r k g h e = absurd g

  -- arguments in angles are told apart
  pub angles : (ts us : TypeOf) → AreItems ts → AreItems us → angled ts (text ts) ≡ angled us (text us) → ts ≡ us
  angles ts us g h e = (same_angled ts us [] [] g h tt tt (λ c s r k g2 h2 e2. same_items ts us c s r k g2 h2 e2) (append-nil (angled ts (text ts)) ∙ e ∙ sym (append-nil (angled us (text us))))).0

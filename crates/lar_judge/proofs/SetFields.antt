-- The fields of `new`, from the parts of the code.
use Rattle.std.proofs.Common.{◌≡◌, ℕ, zero, suc, ◌<◌, ◌≤◌, List, [], ◌∷◌, length, take, drop, get_or, refl, sym, ap, ◌∙◌, arith, Bool, true, false, Option, None}
use Rattle.std.specs.Prelude.{if◌then◌else◌}
use Rattle.std.specs.Str.{bytes_eq}
use Rattle.lar_source.specs.declared.file.Span.{Span}
use Rattle.lar_source.specs.declared.code.Code.TheVariants.{NoSuchPlace}
use Rattle.type_table.specs.declared.row.Row.{Row}
use Rattle.type_table.specs.TypeOf.{TypeOf}
use Rattle.lar_typed.specs.Exprs.{PlainExprs}
use Rattle.lar_rules.specs.Fault.{Fault, fault, kept, least}
use Rattle.lar_rules.specs.Written.{Site}
use Rattle.lar_rules.specs.Judged.{all_typed}
use Rattle.lar_rules.specs.Judged as rules
use Rattle.lar_rules.specs.Signatures.{Member}
use Rattle.lar_rules.specs.Exprs.{Init, misset, set_typed, init_values}
use Rattle.lar_judge.specs.declared.judged.Judged.{Judged}
use Rattle.lar_judge.specs.Known.{type_if}
use Rattle.lar_judge.specs.Lists.{knowns}
use Rattle.lar_judge.specs.Wanted.{types_if, AllIfWithin, wanted_types, misfits, fits_all}
use Rattle.lar_judge.specs.Setting.{same_names, name_places, ill_named, AreSet}
use Rattle.lar_judge.proofs.Least.{least_none, least_one}
use Rattle.lar_judge.proofs.Operands.{told_two}
use Rattle.lar_judge.proofs.Passed.{passed_is}
use Rattle.lar_judge.proofs.SettingRules.{misset_is, set_is, set_none}

take_types : (rows : List Row) (ts : List (Option ℕ)) (k : ℕ) → types_if rows (take k ts) ≡ take k (types_if rows ts)
take_types rows ts zero = refl
take_types rows [] (suc k) = refl
take_types rows (t ∷ ts) (suc k) = ap (λ (xs : List (Option TypeOf)). type_if rows t ∷ xs) (take_types rows ts k)

pub take_within : (rows : List Row) (ts : List (Option ℕ)) (k : ℕ) → AllIfWithin rows ts → AllIfWithin rows (take k ts)
take_within rows ts zero w = tt
take_within rows [] (suc k) w = tt
take_within rows (t ∷ ts) (suc k) w = (w.0, take_within rows ts k w.1)

le_by : (n a b : ℕ) (c : Bool) → (n ≤ a) × (n ≤ b) → ((if c then suc n else zero) ≤ suc a) × ((if c then suc n else zero) ≤ suc b)
le_by n a b true p = let x : n ≤ a = p.0 in let y : n ≤ b = p.1 in (omega arith, omega arith)
le_by n a b false p = (omega arith, omega arith)

same_le : (ms : List Member) (is : List Init) → (same_names ms is ≤ length ms) × (same_names ms is ≤ length is)
same_le [] is = (omega arith, omega arith)
same_le (m ∷ ms) [] = (omega arith, omega arith)
same_le (m ∷ ms) (i ∷ is) = le_by (same_names ms is) (length ms) (length is) (bytes_eq (m.0).text (i.0).text) (same_le ms is)

places-length : (is : List Init) → length (name_places is) ≡ length is
places-length [] = refl
places-length (i ∷ is) = ap suc (places-length is)

types-length : (gs : Option TypeOf) (rows : List Row) (ts : List (Option ℕ)) (ms : List Member) → types_if rows ts ≡ wanted_types gs ms → length ts ≡ length ms
types-length gs rows [] [] e = refl
types-length gs rows [] (m ∷ ms) e = cc
types-length gs rows (t ∷ ts) [] e = cc
types-length gs rows (t ∷ ts) (m ∷ ms) e = ap suc (types-length gs rows ts ms (tail e))
  where
    tail : (type_if rows t ∷ types_if rows ts) ≡ (rules.under gs m.1 ∷ wanted_types gs ms) → types_if rows ts ≡ wanted_types gs ms
    tail e = cc

ill_at : (file : ℕ) (at : Span) (xs : List Member) (is : List Init) (k : ℕ) (d : Span) → k < length is → ill_named file at xs (drop k is) ≡ fault file (get_or (name_places is) k d) NoSuchPlace [] ∷ []
ill_at file at xs [] k d h = absurd (omega arith)
ill_at file at [] (i ∷ is) zero d h = refl
ill_at file at (m ∷ xs) (i ∷ is) zero d h = refl
ill_at file at xs (i ∷ is) (suc k) d h = ill_at file at xs is k d (omega arith)

drop_past : {A : Type 0} (xs : List A) (n : ℕ) → length xs ≤ n → drop n xs ≡ []
drop_past [] zero h = refl
drop_past [] (suc n) h = refl
drop_past (x ∷ xs) zero h = absurd (omega arith)
drop_past (x ∷ xs) (suc n) h = drop_past xs n (omega arith)

ill_short : (file : ℕ) (at : Span) (ms : List Member) (k : ℕ) → k < length ms → ill_named file at (drop k ms) [] ≡ fault file at NoSuchPlace [] ∷ []
ill_short file at [] k h = absurd (omega arith)
ill_short file at (m ∷ ms) zero h = refl
ill_short file at (m ∷ ms) (suc k) h = ill_short file at ms k (omega arith)

-- the front of the faults
front_told : (rows : List Row) (s : Site) (wanted : List (Option ℕ)) (names : List Span) (same : ℕ) (values : List Judged) (gs : Option TypeOf) (ms : List Member) (is : List Init) → AreSet rows wanted names same values gs ms is
    → misfits s (types_if rows (take same wanted)) (knowns rows values) ≡ misfits s (take (same_names ms is) (wanted_types gs ms)) (init_values is)
front_told rows s wanted names same values gs ms is h =
    ap (λ ts. misfits s ts (knowns rows values)) (take_types rows wanted same ∙ ap (take same) h.asks ∙ ap (λ (k : ℕ). take k (wanted_types gs ms)) h.counted)
    ∙ ap (misfits s (take (same_names ms is) (wanted_types gs ms))) h.valued

-- a name is another one
pub other_name_told : (rows : List Row) (s : Site) (at : Span) (wanted : List (Option ℕ)) (names : List Span) (same : ℕ) (values : List Judged) (gs : Option TypeOf) (ms : List Member) (is : List Init) (file : ℕ) (d : Span) (best mid new : Option Fault) → AreSet rows wanted names same values gs ms is
    → file ≡ s.file → same < length names → mid ≡ least best (misfits s (types_if rows (take same wanted)) (knowns rows values)) → new ≡ kept mid (fault file (get_or names same d) NoSuchPlace []) → new ≡ least best (misset s at gs ms is)
other_name_told rows s at wanted names same values gs ms is file d best mid new h f l m n =
    let k : ℕ = same_names ms is in
    let len : length names ≡ length is = ap length h.placed ∙ places-length is in
    let c : same ≡ k = h.counted in
    let last : ill_named s.file at (drop k ms) (drop k is) ≡ fault s.file (get_or (name_places is) k d) NoSuchPlace [] ∷ [] = ill_at s.file at (drop k ms) is k d (omega arith) in
    let one : new ≡ least mid (ill_named s.file at (drop k ms) (drop k is)) =
    n ∙ ap (λ (i : ℕ). kept mid (fault i (get_or names same d) NoSuchPlace [])) f
    ∙ ap (λ (xs : List Span). kept mid (fault s.file (get_or xs same d) NoSuchPlace [])) h.placed
    ∙ ap (λ (i : ℕ). kept mid (fault s.file (get_or (name_places is) i d) NoSuchPlace [])) c
    ∙ sym (least_one mid (fault s.file (get_or (name_places is) k d) NoSuchPlace [])) ∙ ap (least mid) (sym last) in
    told_two best mid new _ _ (m ∙ ap (least best) (front_told rows s wanted names same values gs ms is h)) one ∙ ap (least best) (sym (misset_is s at gs ms is))

-- a field is missing
pub missing_told : (rows : List Row) (s : Site) (at : Span) (wanted : List (Option ℕ)) (names : List Span) (same : ℕ) (values : List Judged) (gs : Option TypeOf) (ms : List Member) (is : List Init) (file : ℕ) (best mid new : Option Fault) → AreSet rows wanted names same values gs ms is
    → file ≡ s.file → length names ≤ same → same < length wanted → mid ≡ least best (misfits s (types_if rows (take same wanted)) (knowns rows values)) → new ≡ kept mid (fault file at NoSuchPlace []) → new ≡ least best (misset s at gs ms is)
missing_told rows s at wanted names same values gs ms is file best mid new h f g l m n =
    let k : ℕ = same_names ms is in
    let len : length names ≡ length is = ap length h.placed ∙ places-length is in
    let wide : length wanted ≡ length ms = types-length gs rows wanted ms h.asks in
    let c : same ≡ k = h.counted in
    let last : ill_named s.file at (drop k ms) (drop k is) ≡ fault s.file at NoSuchPlace [] ∷ [] = ap (ill_named s.file at (drop k ms)) (drop_past is k (omega arith)) ∙ ill_short s.file at ms k (omega arith) in
    let one : new ≡ least mid (ill_named s.file at (drop k ms) (drop k is)) =
    n ∙ ap (λ (i : ℕ). kept mid (fault i at NoSuchPlace [])) f ∙ sym (least_one mid (fault s.file at NoSuchPlace [])) ∙ ap (least mid) (sym last) in
    told_two best mid new _ _ (m ∙ ap (least best) (front_told rows s wanted names same values gs ms is h)) one ∙ ap (least best) (sym (misset_is s at gs ms is))

-- all names are right
pub all_named_told : (rows : List Row) (s : Site) (at : Span) (wanted : List (Option ℕ)) (names : List Span) (same : ℕ) (values : List Judged) (gs : Option TypeOf) (ms : List Member) (is : List Init) (best mid : Option Fault) → AreSet rows wanted names same values gs ms is
    → length names ≤ same → length wanted ≤ same → mid ≡ least best (misfits s (types_if rows (take same wanted)) (knowns rows values)) → mid ≡ least best (misset s at gs ms is)
all_named_told rows s at wanted names same values gs ms is best mid h g l m =
    let k : ℕ = same_names ms is in
    let len : length names ≡ length is = ap length h.placed ∙ places-length is in
    let wide : length wanted ≡ length ms = types-length gs rows wanted ms h.asks in
    let c : same ≡ k = h.counted in
    let last : ill_named s.file at (drop k ms) (drop k is) ≡ [] = ap (ill_named s.file at (drop k ms)) (drop_past is k (omega arith)) ∙ ap (λ (xs : List Member). ill_named s.file at xs []) (drop_past ms k (omega arith)) in
    told_two best mid mid _ _ (m ∙ ap (least best) (front_told rows s wanted names same values gs ms is h)) (sym (least_none mid) ∙ ap (least mid) (sym last)) ∙ ap (least best) (sym (misset_is s at gs ms is))

pub ill_named_none : (rows : List Row) (wanted : List (Option ℕ)) (names : List Span) (same : ℕ) (values : List Judged) (gs : Option TypeOf) (ms : List Member) (is : List Init) → AreSet rows wanted names same values gs ms is → (length names ≤ same → length wanted ≤ same → ⊥) → None ≡ set_typed gs ms is
ill_named_none rows wanted names same values gs ms is h differ =
    let len : length names ≡ length is = ap length h.placed ∙ places-length is in
    let wide : length wanted ≡ length ms = types-length gs rows wanted ms h.asks in
    let c : same ≡ same_names ms is = h.counted in
    sym (set_none gs ms is (λ p q. differ (omega arith) (omega arith)))

pub all_named_set : (rows : List Row) (wanted : List (Option ℕ)) (names : List Span) (same : ℕ) (values : List Judged) (gs : Option TypeOf) (ms : List Member) (is : List Init) (done : Option PlainExprs) → AreSet rows wanted names same values gs ms is → length names ≤ same → length wanted ≤ same
    → done ≡ (if fits_all (types_if rows wanted) (knowns rows values) then all_typed (knowns rows values) else None) → done ≡ set_typed gs ms is
all_named_set rows wanted names same values gs ms is done h g l e =
    let len : length names ≡ length is = ap length h.placed ∙ places-length is in
    let wide : length wanted ≡ length ms = types-length gs rows wanted ms h.asks in
    let c : same ≡ same_names ms is = h.counted in
    let le : (same_names ms is ≤ length ms) × (same_names ms is ≤ length is) = same_le ms is in
    let p : same_names ms is ≤ length ms = le.0 in
    let q : same_names ms is ≤ length is = le.1 in
    e ∙ ap (λ ts. if fits_all ts (knowns rows values) then all_typed (knowns rows values) else None) h.asks
    ∙ ap (λ js. if fits_all (wanted_types gs ms) js then all_typed js else None) h.valued
    ∙ sym (passed_is gs ms (init_values is)) ∙ sym (set_is gs ms is (omega arith) (omega arith))

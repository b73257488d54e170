-- The parameters as the first locals.
use Rattle.std.proofs.Common.{◌≡◌, ℕ, zero, suc, ◌+◌, ◌<◌, ◌≤◌, List, [], ◌∷◌, ◌++◌, length, map, drop, get_or, refl, sym, ap, ◌∙◌, subst, arith, Option, Some, None}
use Rattle.std.proofs.lemmas.List.{drop_more}
use Rattle.type_table.specs.declared.row.Row.{Row}
use Rattle.type_table.specs.TypeOf.{TypeOf}
use Rattle.lar_rules.specs.Judged as rules
use Rattle.lar_rules.specs.Signatures as signatures
use Rattle.lar_rules.specs.Bodies.{State}
use Rattle.lar_rules.specs.Functions.{numbered_locals}
use Rattle.lar_judge.specs.declared.locals.Local.{Local}
use Rattle.lar_judge.specs.Known.{type_if, IfWithin}
use Rattle.lar_judge.specs.Locals.{local_in, locals_in, LocalsWithin}
use Rattle.lar_judge.specs.Wanted.{types_if, AllIfWithin}
use Rattle.lar_judge.proofs.Scopes.{locals_last}
use Rattle.lar_written.specs.declared.members.Member.{Member}
use Rattle.lar_written.specs.Members.{member_view}
use Rattle.lar_written.specs.Standing.{number_type, Inside, AllInside}

pub same_type_if : (rows : List Row) (o : Option ℕ) → type_if rows o ≡ number_type rows o
same_type_if rows None = refl
same_type_if rows (Some n) = refl

pub inside_within : (rows : List Row) (o : Option ℕ) → Inside rows o → IfWithin rows o
inside_within rows None h = tt
inside_within rows (Some n) h = h

inside_at : (rows : List Row) (ps : List Member) (i : ℕ) (p : Member) → AllInside rows (map (λ p. p.of) ps) → i < length ps → p ≡ get_or ps i p → Inside rows p.of
inside_at rows [] i p h l at = absurd (omega arith)
inside_at rows (x ∷ ps) zero p h l at = subst (λ (y : Member). Inside rows y.of) (sym at) h.0
inside_at rows (x ∷ ps) (suc i) p h l at = inside_at rows ps i p h.1 (omega arith) at

locals_more : (rows : List Row) (ls : List Local) (l : Local) → LocalsWithin rows ls → IfWithin rows l.of → LocalsWithin rows (ls ++ l ∷ [])
locals_more rows [] l w h = (h, tt)
locals_more rows (x ∷ ls) l w h = (w.0, locals_more rows ls l w.1 h)

pub params_within : (rows : List Row) (ps : List Member) (i : ℕ) (p : Member) (l : Local) (ls after : List Local) → AllInside rows (map (λ p. p.of) ps) → i < length ps → p ≡ get_or ps i p → l.of ≡ p.of → after ≡ ls ++ l ∷ [] → LocalsWithin rows ls → LocalsWithin rows after
params_within rows ps i p l ls after h below at of push w =
    rw push (locals_more rows ls l w (inside_within rows l.of (subst (λ (o : Option ℕ). Inside rows o) (sym of) (inside_at rows ps i p h below at))))

pub params_are : (rows : List Row) (ps : List Member) (k i : ℕ) (p : Member) (l : Local) (ls after : List Local) → k ≡ i + 1 → i < length ps → p ≡ get_or ps i p → l.name.now ≡ (p.name.now).text → l.number ≡ i → l.of ≡ p.of → after ≡ ls ++ l ∷ []
    → locals_in rows ls ≡ numbered_locals k (map (member_view rows) (drop k ps)) → locals_in rows after ≡ numbered_locals i (map (member_view rows) (drop i ps))
params_are rows ps k i p l ls after next below at name number of push so_far =
    let more : drop i ps ≡ p ∷ drop (i + 1) ps = drop_more ps i p below ∙ ap (λ (y : Member). y ∷ drop (i + 1) ps) (sym at) in
    let one : local_in rows l ≡ record { name = (p.name.now).text; number = i; of = number_type rows p.of } =
    ap (λ n. record { name = n; number = l.number; of = type_if rows l.of }) name ∙ ap (λ n. record { name = (p.name.now).text; number = n; of = type_if rows l.of }) number
    ∙ ap (λ t. record { name = (p.name.now).text; number = i; of = t }) (ap (type_if rows) of ∙ same_type_if rows p.of) in
    ap (locals_in rows) push ∙ locals_last rows ls l ∙ ap (λ (x : rules.Local). x ∷ locals_in rows ls) one
    ∙ ap (λ (xs : List rules.Local). record { name = (p.name.now).text; number = i; of = number_type rows p.of } ∷ xs) (so_far ∙ ap (λ (n : ℕ). numbered_locals n (map (member_view rows) (drop n ps))) next ∙ ap (λ (n : ℕ). numbered_locals n (map (member_view rows) (drop (i + 1) ps))) (omega arith))
    ∙ ap (λ (ys : List Member). numbered_locals i (map (member_view rows) ys)) (sym more)

drop_past : {A : Type 0} (xs : List A) (n : ℕ) → length xs ≤ n → drop n xs ≡ []
drop_past [] zero h = refl
drop_past [] (suc n) h = refl
drop_past (x ∷ xs) zero h = absurd (omega arith)
drop_past (x ∷ xs) (suc n) h = drop_past xs n (omega arith)

pub params_begun : (rows : List Row) (ps : List Member) (n : ℕ) (ls : List Local) → ls ≡ [] → length ps ≤ n → locals_in rows ls ≡ numbered_locals n (map (member_view rows) (drop n ps))
params_begun rows ps n ls e h = ap (locals_in rows) e ∙ ap (λ (xs : List Member). numbered_locals n (map (member_view rows) xs)) (sym (drop_past ps n h))

pub params_end : (rows : List Row) (ps : List Member) (n : ℕ) (ls : List Local) → n ≡ 0 → locals_in rows ls ≡ numbered_locals n (map (member_view rows) (drop n ps)) → locals_in rows ls ≡ numbered_locals 0 (map (member_view rows) ps)
params_end rows ps n ls e h = h ∙ ap (λ (k : ℕ). numbered_locals k (map (member_view rows) (drop k ps))) e

types_same : (rows : List Row) (ps : List Member) → types_if rows (map (λ p. p.of) ps) ≡ map (λ m. m.1) (map (member_view rows) ps)
types_same rows [] = refl
types_same rows (p ∷ ps) = ap (λ (t : Option TypeOf). t ∷ types_if rows (map (λ p. p.of) ps)) (same_type_if rows p.of) ∙ ap (λ (ts : List (Option TypeOf)). number_type rows p.of ∷ ts) (types_same rows ps)

all_within : (rows : List Row) (os : List (Option ℕ)) → AllInside rows os → AllIfWithin rows os
all_within rows [] h = tt
all_within rows (o ∷ os) h = (inside_within rows o h.0, all_within rows os h.1)

pub entry_types : (rows : List Row) (ps : List Member) (ts : List (Option ℕ)) → ts ≡ map (λ p. p.of) ps → types_if rows ts ≡ map (λ m. m.1) (map (member_view rows) ps)
entry_types rows ps ts e = ap (types_if rows) e ∙ types_same rows ps

pub entry_within : (rows : List Row) (ps : List Member) (ts : List (Option ℕ)) → ts ≡ map (λ p. p.of) ps → AllInside rows (map (λ p. p.of) ps) → AllIfWithin rows ts
entry_within rows ps ts e h = rw e (all_within rows (map (λ p. p.of) ps) h)

abbrev state_of : List rules.Local → List (Option TypeOf) → State
state_of ls ts = record { locals = ls; types = ts }

-- the state at the entry
abbrev pub entry_of : List signatures.Member → State
entry_of ms = record { locals = numbered_locals 0 ms; types = map (λ m. m.1) ms }

pub entry_is : (rows : List Row) (ps : List Member) (ls : List Local) (ts : List (Option ℕ)) → locals_in rows ls ≡ numbered_locals 0 (map (member_view rows) ps) → ts ≡ map (λ p. p.of) ps → state_of (locals_in rows ls) (types_if rows ts) ≡ entry_of (map (member_view rows) ps)
entry_is rows ps ls ts e f = ap (λ xs. state_of xs (types_if rows ts)) e ∙ ap (state_of (numbered_locals 0 (map (member_view rows) ps))) (entry_types rows ps ts f)

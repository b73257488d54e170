-- Words that begin steps left, one by one and in lists.
use Rattle.std.proofs.Common.{ℕ, ◌≤◌, List, [], ◌∷◌, ◌++◌, Some, None, Option, arith}
use Rattle.lease_table.specs.declared.reading.Reading.{Reading}
use Rattle.lease_table.specs.Reading.{IsBegun, IsBegunIfAny, AllBegun, seen_with}

pub IsBegun-mono : (top top' : ℕ) (r : Reading) → top ≤ top' → IsBegun top r → IsBegun top' r
IsBegun-mono top top' r le g = record { least = g.least; bound = g.bound; most = omega arith }

pub IsBegunIfAny-mono : (top top' : ℕ) (o : Option Reading) → top ≤ top' → IsBegunIfAny top o → IsBegunIfAny top' o
IsBegunIfAny-mono top top' (Some r) le g = IsBegun-mono top top' r le g
IsBegunIfAny-mono top top' None le g = tt

pub AllBegun-mono : (top top' : ℕ) (es : List (Option ℕ × Reading)) → top ≤ top' → AllBegun top es → AllBegun top' es
AllBegun-mono top top' [] le g = tt
AllBegun-mono top top' (e ∷ es) le g = (IsBegun-mono top top' e.1 le g.0, AllBegun-mono top top' es le g.1)

pub AllBegun-snoc : (top : ℕ) (es : List (Option ℕ × Reading)) (e : Option ℕ × Reading) → AllBegun top es → IsBegun top e.1 → AllBegun top (es ++ e ∷ [])
AllBegun-snoc top [] e all one = (one, tt)
AllBegun-snoc top (x ∷ es) e all one = (all.0, AllBegun-snoc top es e all.1 one)

pub AllBegun-seen_with : (top : ℕ) (es : List (Option ℕ × Reading)) (job : Option ℕ) (word : Option Reading) → AllBegun top es → IsBegunIfAny top word → AllBegun top (seen_with es job word)
AllBegun-seen_with top es job (Some r) all one = AllBegun-snoc top es (job, r) all one
AllBegun-seen_with top es job None all one = all

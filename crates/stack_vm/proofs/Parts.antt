-- Words that are cleared and moved, one after the other.
use Rattle.std.proofs.Common.{◌≡◌, ℕ, ◌+◌, ◌-◌, ◌<◌, ◌≤◌, List, [], ◌∷◌, ◌++◌, length, take, drop, get_or, set, replicate, ℤ, pos, arith, sym, subst, ◌∙◌, ap, append_assoc, length-drop}
use Rattle.std.proofs.lemmas.List.{take_more_set, take_more, drop-set-lt, get_or-drop, replicate-append-replicate, drop-drop}

pub cleared : (words old : List ℤ) (from at : ℕ) → from ≤ at → at < length words → take at words ≡ take from old ++ replicate (at - from) (pos 0)
    → take (at + 1) (set words at (pos 0)) ≡ take from old ++ replicate ((at + 1) - from) (pos 0)
cleared words old from at a b e =
    let n : (at - from) + 1 ≡ (at + 1) - from = omega arith in
    take_more_set words at (pos 0) b
    ∙ (ap (λ (xs : List ℤ). xs ++ pos 0 ∷ []) e
    ∙ (append_assoc (take from old) (replicate (at - from) (pos 0)) (pos 0 ∷ [])
    ∙ ap (λ (ys : List ℤ). take from old ++ ys) (replicate-append-replicate (at - from) 1 (pos 0) ∙ ap (λ (k : ℕ). replicate k (pos 0)) n)))

pub moved_word : (words old : List ℤ) (n : ℕ) → drop n words ≡ drop n old → get_or words n (pos 0) ≡ get_or old n (pos 0)
moved_word words old n e =
    let z : n + 0 ≡ n = omega arith in
    subst (λ (k : ℕ). get_or words k (pos 0) ≡ get_or old k (pos 0)) z (sym (get_or-drop n words 0 (pos 0)) ∙ (ap (λ (xs : List ℤ). get_or xs 0 (pos 0)) e ∙ get_or-drop n old 0 (pos 0)))

pub moved : (words old : List ℤ) (from to at : ℕ) (x : ℤ) → to + at < length words → from + at < length old → x ≡ get_or words (from + at) (pos 0)
    → take (to + at) words ≡ take to old ++ take at (drop from old) → drop (from + at) words ≡ drop (from + at) old
    → take (to + (at + 1)) (set words (to + at) x) ≡ take to old ++ take (at + 1) (drop from old)
moved words old from to at x a b is e f =
    let n : to + (at + 1) ≡ (to + at) + 1 = omega arith in
    let word : x ≡ get_or (drop from old) at (pos 0) = is ∙ (moved_word words old (from + at) f ∙ sym (get_or-drop from old at (pos 0))) in
    ap (λ (k : ℕ). take k (set words (to + at) x)) n
    ∙ (take_more_set words (to + at) x a
    ∙ (ap (λ (xs : List ℤ). xs ++ x ∷ []) e
    ∙ (append_assoc (take to old) (take at (drop from old)) (x ∷ [])
    ∙ ap (λ (ys : List ℤ). take to old ++ ys) (ap (λ (y : ℤ). take at (drop from old) ++ y ∷ []) word ∙ sym (take_more (drop from old) at (pos 0) (omega (arith, length-drop from old)))))))

pub moved_left : (words old : List ℤ) (from to at : ℕ) (x : ℤ) → to ≤ from → drop (from + at) words ≡ drop (from + at) old
    → drop (from + (at + 1)) (set words (to + at) x) ≡ drop (from + (at + 1)) old
moved_left words old from to at x a e =
    let n : from + (at + 1) ≡ (from + at) + 1 = omega arith in
    drop-set-lt (from + (at + 1)) words (to + at) x (omega arith)
    ∙ (ap (λ (k : ℕ). drop k words) n ∙ (sym (drop-drop 1 (from + at) words) ∙ (ap (λ (xs : List ℤ). drop 1 xs) e ∙ (drop-drop 1 (from + at) old ∙ ap (λ (k : ℕ). drop k old) (sym n)))))

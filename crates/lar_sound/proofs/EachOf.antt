-- Lists each of whose members has something.
use Rattle.std.proofs.Common.{ℕ, zero, suc, ◌<◌, arith, List, [], ◌∷◌, ◌++◌, length, get_or}
use Rattle.lar_tree.specs.Lawful.{Every}

pub every_parts : {A : Type 0} (P : A → Type 0) (xs ys : List A) → Every P (xs ++ ys) → Every P xs × Every P ys
every_parts P [] ys h = (tt, h)
every_parts P (x ∷ xs) ys h = let w = every_parts P xs ys h.1 in ((h.0, w.0), w.1)

pub every_join : {A : Type 0} (P : A → Type 0) (xs ys : List A) → Every P xs → Every P ys → Every P (xs ++ ys)
every_join P [] ys h k = k
every_join P (x ∷ xs) ys h k = (h.0, every_join P xs ys h.1 k)

pub every_map : {A : Type 0} (P Q : A → Type 0) (xs : List A) → ((x : A) → P x → Q x) → Every P xs → Every Q xs
every_map P Q [] f h = tt
every_map P Q (x ∷ xs) f h = (f x h.0, every_map P Q xs f h.1)

pub every_both : {A : Type 0} (P Q R : A → Type 0) (xs : List A) → ((x : A) → P x → Q x → R x) → Every P xs → Every Q xs
    → Every R xs
every_both P Q R [] f h k = tt
every_both P Q R (x ∷ xs) f h k = (f x h.0 k.0, every_both P Q R xs f h.1 k.1)

pub every_at : {A : Type 0} (P : A → Type 0) (xs : List A) (i : ℕ) (d : A) → Every P xs → i < length xs
    → P (get_or xs i d)
every_at P [] i d h l = absurd (omega arith)
every_at P (x ∷ xs) zero d h l = h.0
every_at P (x ∷ xs) (suc i) d h l = every_at P xs i d h.1 (omega arith)

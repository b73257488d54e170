-- A turn of the reader: one front is taken off, and the outcome stays what it was.
use Rattle.std.proofs.Common.{◌≡◌, ℕ, zero, suc, ◌-◌, ◌≤◌, List, [], ◌∷◌, ◌++◌, length, take, drop, refl, sym, ap, ◌∙◌, subst, append_assoc, arith, Ok, Err}
use Rattle.lar_tree.specs.declared.token.Token.{Token}
use Rattle.lar_tree.specs.declared.token.Kind.{Kind}
use Rattle.lar_source.specs.declared.file.Span.{Span}
use Rattle.lar_lexer.specs.declared.front.Front.{Front}
use Rattle.lar_lexer.specs.declared.front.Front.TheVariants as fronts
use Rattle.lar_lexer.specs.Front.{front}
use Rattle.lar_lexer.specs.ByFirst.{IsWithin}
use Rattle.lar_lexer.specs.Lexed.{goes_on, lexed_from, with_front, Outcome}
use Rattle.lar_lexer.specs.Place.{step, walk}

-- the bytes that belong to what was begun
pub walked : (file : List ℕ) (n : ℕ) (at : Span) (bs : List ℕ) → n ≤ length bs → lexed_from file n at bs ≡ lexed_from file 0 (walk at (take n bs)) (drop n bs)
walked file zero at bs h = refl
walked file (suc n) at [] h = refl
walked file (suc n) at (b ∷ bs) h = walked file n (step at b) bs (omega arith)

pub gap_goes : (file : List ℕ) (n : ℕ) (at : Span) (bs : List ℕ) → front bs ≡ fronts.Gap n → 1 ≤ n → n ≤ length bs → lexed_from file 0 at bs ≡ lexed_from file 0 (walk at (take n bs)) (drop n bs)
gap_goes file n at [] e low high = absurd (omega arith)
gap_goes file zero at (b ∷ bs) e low high = absurd (omega arith)
gap_goes file (suc n) at (b ∷ bs) e low high =
    ap (λ x. goes_on file at x (λ k. lexed_from file (k - 1) (step at b) bs)) e
    ∙ ap (λ k. lexed_from file k (step at b) bs) (omega arith)
    ∙ walked file n (step at b) bs (omega arith)

pub token_goes : (file : List ℕ) (n : ℕ) (kind : Kind) (at : Span) (bs : List ℕ) → front bs ≡ fronts.Token kind n → 1 ≤ n → n ≤ length bs
    → lexed_from file 0 at bs ≡ with_front (record { kind = kind; span = at } ∷ []) (lexed_from file 0 (walk at (take n bs)) (drop n bs))
token_goes file n kind at [] e low high = absurd (omega arith)
token_goes file zero kind at (b ∷ bs) e low high = absurd (omega arith)
token_goes file (suc n) kind at (b ∷ bs) e low high =
    ap (λ x. goes_on file at x (λ k. lexed_from file (k - 1) (step at b) bs)) e
    ∙ ap (λ k. with_front (record { kind = kind; span = at } ∷ []) (lexed_from file k (step at b) bs)) (omega arith)
    ∙ ap (with_front (record { kind = kind; span = at } ∷ [])) (walked file n (step at b) bs (omega arith))

pub fronts_join : (xs ys : List Token) (o : Outcome) → with_front xs (with_front ys o) ≡ with_front (xs ++ ys) o
fronts_join xs ys (Ok ts) = ap Ok (sym (append_assoc xs ys ts))
fronts_join xs ys (Err e) = refl

within_gap : (x : Front) (n m : ℕ) → x ≡ fronts.Gap m → IsWithin n x → (1 ≤ m) × (m ≤ n)
within_gap x n m e h = subst (IsWithin n) e h

within_token : (x : Front) (n m : ℕ) (kind : Kind) → x ≡ fronts.Token kind m → IsWithin n x → (1 ≤ m) × (m ≤ n)
within_token x n m kind e h = subst (IsWithin n) e h

-- a turn over a gap
pub turn_gap : (file : List ℕ) (n : ℕ) (at to : Span) (bs read after : List ℕ) (fs gs : List Token) (all : Outcome) (x : Front) → with_front fs (lexed_from file 0 at bs) ≡ all → gs ≡ fs → x ≡ fronts.Gap n → x ≡ front bs
    → IsWithin (length bs) x → read ≡ take n bs → after ≡ drop n bs → to ≡ walk at read → with_front gs (lexed_from file 0 to after) ≡ all
turn_gap file n at to bs read after fs gs all x i g e f h s t w =
    let k = within_gap x (length bs) n e h in
    ap (λ y. with_front y (lexed_from file 0 to after)) g
    ∙ ap (with_front fs) (ap (λ y. lexed_from file 0 y after) (w ∙ ap (walk at) s) ∙ ap (lexed_from file 0 (walk at (take n bs))) t ∙ sym (gap_goes file n at bs (sym f ∙ e) k.0 k.1))
    ∙ i

-- and over a token
pub turn_token : (file : List ℕ) (n : ℕ) (kind : Kind) (at to : Span) (bs read after : List ℕ) (fs gs : List Token) (all : Outcome) (x : Front) → with_front fs (lexed_from file 0 at bs) ≡ all
    → gs ≡ fs ++ (record { kind = kind; span = at } ∷ []) → x ≡ fronts.Token kind n → x ≡ front bs → IsWithin (length bs) x → read ≡ take n bs → after ≡ drop n bs → to ≡ walk at read
    → with_front gs (lexed_from file 0 to after) ≡ all
turn_token file n kind at to bs read after fs gs all x i g e f h s t w =
    let b = within_token x (length bs) n kind e h in
    let one : List Token = record { kind = kind; span = at } ∷ [] in
    ap (λ y. with_front y (lexed_from file 0 to after)) g
    ∙ sym (fronts_join fs one (lexed_from file 0 to after))
    ∙ ap (with_front fs) (ap (λ y. with_front one (lexed_from file 0 y after)) (w ∙ ap (walk at) s) ∙ ap (λ y. with_front one (lexed_from file 0 (walk at (take n bs)) y)) t ∙ sym (token_goes file n kind at bs (sym f ∙ e) b.0 b.1))
    ∙ i

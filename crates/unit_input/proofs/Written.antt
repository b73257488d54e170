-- Texts written one after the other are the text of the whole.
use Rattle.std.proofs.Common.{◌≡◌, ℕ, ◌+◌, ◌<◌, ◌≤◌, Bool, List, [], ◌∷◌, ◌++◌, length, drop, get_or, refl, sym, ap, ◌∙◌, append_assoc}
use Rattle.std.proofs.lemmas.List.{drop_more, append-nil}
use Rattle.std.proofs.Math.ListN.{drop_of_length-le}
use Rattle.unit_input.specs.declared.expr.UnaryOp.{UnaryOp}
use Rattle.unit_input.specs.declared.expr.BinaryOp.{BinaryOp}
use Rattle.unit_input.specs.declared.expr.UnitExpr.{UnitExpr}
use Rattle.unit_input.specs.Exprs.{PlainExpr, field, unary, binary, tuple, call}
use Rattle.unit_input.specs.Stmts.{PlainStmt, PlainStmts, fork}
use Rattle.unit_input.specs.InputView.{exprs_view}
use Rattle.std.specs.List.{flat_map}
use Rattle.unit_input.specs.Spelling.{unary_byte, binary_byte, truth_byte, one, two, four, spell_expr, spell_exprs, spell_stmt, spell_block, spell_symbol}
use Rattle.unit_input.proofs.Counted.{members}

pub twice : (old mid new xs ys : List ℕ) → mid ≡ old ++ xs → new ≡ mid ++ ys → new ≡ old ++ (xs ++ ys)
twice old mid new xs ys p q = q ∙ ap (λ l. l ++ ys) p ∙ append_assoc old xs ys

pub text_of : (old new : List ℕ) (x y : PlainExpr) → x ≡ y → new ≡ old ++ spell_expr y → new ≡ old ++ spell_expr x
text_of old new x y same p = p ∙ ap (λ z. old ++ spell_expr z) (sym same)

pub text_of_stmt : (old new : List ℕ) (x y : PlainStmt) → x ≡ y → new ≡ old ++ spell_stmt y → new ≡ old ++ spell_stmt x
text_of_stmt old new x y same p = p ∙ ap (λ z. old ++ spell_stmt z) (sym same)

-- a list behind its count
pub text_of_tuple : (old a b new : List ℕ) (e : PlainExpr) (es : List UnitExpr) (n : ℕ) → e ≡ tuple (exprs_view es) → n ≡ length es → a ≡ old ++ 0x05 ∷ [] → b ≡ a ++ one n → new ≡ b ++ spell_exprs (exprs_view es) → new ≡ old ++ spell_expr e
text_of_tuple old a b new e es n same count p q r =
    text_of old new e _ same (twice old b new _ _ (twice old a b _ _ p q) r ∙ ap (λ k. old ++ (0x05 ∷ (one k ++ spell_exprs (exprs_view es)))) (count ∙ sym (members es)))

pub text_of_call : (old a b d new : List ℕ) (e : PlainExpr) (k : ℕ) (es : List UnitExpr) (n : ℕ) → e ≡ call k (exprs_view es) → n ≡ length es → a ≡ old ++ 0x08 ∷ [] → b ≡ a ++ four k → d ≡ b ++ one n → new ≡ d ++ spell_exprs (exprs_view es) → new ≡ old ++ spell_expr e
text_of_call old a b d new e k es n same count p q r u =
    text_of old new e _ same (twice old d new _ _ (twice old b d _ _ (twice old a b _ _ p q) r) u ∙ ap (λ j. old ++ (0x08 ∷ (four k ++ (one j ++ spell_exprs (exprs_view es))))) (count ∙ sym (members es)))

pub text_of_unary : (old a b new : List ℕ) (e : PlainExpr) (op : UnaryOp) (byte : ℕ) (x : PlainExpr) → e ≡ unary op x → byte ≡ unary_byte op → a ≡ old ++ 0x06 ∷ [] → b ≡ a ++ byte ∷ [] → new ≡ b ++ spell_expr x → new ≡ old ++ spell_expr e
text_of_unary old a b new e op byte x same is p q r =
    text_of old new e _ same (twice old b new _ _ (twice old a b _ _ p q) r ∙ ap (λ k. old ++ (0x06 ∷ k ∷ spell_expr x)) is)

pub text_of_binary : (old a b d new : List ℕ) (e : PlainExpr) (op : BinaryOp) (byte : ℕ) (x y : PlainExpr) → e ≡ binary op x y → byte ≡ binary_byte op → a ≡ old ++ 0x07 ∷ [] → b ≡ a ++ byte ∷ [] → d ≡ b ++ spell_expr x → new ≡ d ++ spell_expr y → new ≡ old ++ spell_expr e
text_of_binary old a b d new e op byte x y same is p q r u =
    text_of old new e _ same (twice old d new _ _ (twice old b d _ _ (twice old a b _ _ p q) r) u ∙ ap (λ k. old ++ (0x07 ∷ k ∷ (spell_expr x ++ spell_expr y))) is)

-- ---- members of a list, one after the other: what is written so far and what is left to be written

pub onwards : {A : Type 0} (text : List A → List ℕ) (part : A → List ℕ) (xs : List A) (i : ℕ) (x : A) (before after start : List ℕ)
    → ((ys : List A) → text (x ∷ ys) ≡ part x ++ text ys) → i < length xs → x ≡ get_or xs i x
    → before ++ text (drop i xs) ≡ start → after ≡ before ++ part x → after ++ text (drop (i + 1) xs) ≡ start
onwards text part xs i x before after start splits below is so_far done =
    let rest = drop (i + 1) xs in
    let here : drop i xs ≡ x ∷ rest = drop_more xs i x below ∙ ap (λ y. y ∷ rest) (sym is) in
    ap (λ l. l ++ text rest) done ∙ append_assoc before (part x) (text rest)
    ∙ ap (λ l. before ++ l) (sym (splits rest) ∙ ap text (sym here)) ∙ so_far

-- the same for numbers
pub onwards_at : {A : Type 0} (text : List A → List ℕ) (part : A → List ℕ) (xs : List A) (i : ℕ) (d : A) (before after start : List ℕ)
    → ((x : A) (ys : List A) → text (x ∷ ys) ≡ part x ++ text ys) → i < length xs
    → before ++ text (drop i xs) ≡ start → after ≡ before ++ part (get_or xs i d) → after ++ text (drop (i + 1) xs) ≡ start
onwards_at text part xs i d before after start splits below so_far done =
    let rest = drop (i + 1) xs in
    let x = get_or xs i d in
    let here : drop i xs ≡ x ∷ rest = drop_more xs i d below in
    ap (λ l. l ++ text rest) done ∙ append_assoc before (part x) (text rest)
    ∙ ap (λ l. before ++ l) (sym (splits x rest) ∙ ap text (sym here)) ∙ so_far

pub all_written : {A : Type 0} (text : List A → List ℕ) (xs : List A) (i : ℕ) (now start : List ℕ) → text [] ≡ [] → length xs ≤ i → now ++ text (drop i xs) ≡ start → now ≡ start
all_written text xs i now start none past so_far =
    sym (append-nil now) ∙ ap (λ l. now ++ l) (sym none ∙ ap text (sym (drop_of_length-le xs past))) ∙ so_far

-- ---- functions

pub text_of_fn : (old a b d new symbol : List ℕ) (external : Bool) (gives params : ℕ) (locals body widths text : List ℕ) (n : ℕ)
    → n ≡ length locals → widths ≡ locals → text ≡ body
    → a ≡ old ++ (spell_symbol symbol ++ (truth_byte external ∷ (two gives ++ params ∷ []))) → b ≡ a ++ four n → d ≡ b ++ flat_map two widths → new ≡ d ++ text
    → new ≡ old ++ (spell_symbol symbol ++ (truth_byte external ∷ (two gives ++ (params ∷ (four (length locals) ++ (flat_map two locals ++ body))))))
text_of_fn old a b d new symbol external gives params locals body widths text n count same_widths same_body p q r u =
    let head = truth_byte external ∷ (two gives ++ params ∷ []) in
    let rest : new ≡ a ++ (four (length locals) ++ (flat_map two locals ++ body)) =
    twice a b new _ _ (q ∙ ap (λ k. a ++ four k) count) (twice b d new _ _ (r ∙ ap (λ l. b ++ flat_map two l) same_widths) (u ∙ ap (λ l. d ++ l) same_body)) in
    twice old a new _ _ p rest ∙ ap (λ l. old ++ l) (append_assoc (spell_symbol symbol) head (four (length locals) ++ (flat_map two locals ++ body)))

-- what stands before the locals of a function
pub text_of_head : (old a b d new symbol : List ℕ) (external : Bool) (gives params : ℕ)
    → a ≡ old ++ spell_symbol symbol → b ≡ a ++ truth_byte external ∷ [] → d ≡ b ++ two gives → new ≡ d ++ params ∷ []
    → new ≡ old ++ (spell_symbol symbol ++ (truth_byte external ∷ (two gives ++ params ∷ [])))
text_of_head old a b d new symbol external gives params p q r u = twice old a new _ _ p (twice a d new _ _ (twice a b d _ _ q r) u)

pub text_of_external : (old a b new symbol : List ℕ) (params gives : ℕ)
    → a ≡ old ++ spell_symbol symbol → b ≡ a ++ two params → new ≡ b ++ two gives → new ≡ old ++ (spell_symbol symbol ++ (two params ++ two gives))
text_of_external old a b new symbol params gives p q r = twice old a new _ _ p (twice a b new _ _ q r)

-- ---- parts with more than one part of their own

pub text_of_field : (old a b d new : List ℕ) (e : PlainExpr) (offset wide : ℕ) (x : PlainExpr) → e ≡ field x offset wide
    → a ≡ old ++ 0x04 ∷ [] → b ≡ a ++ two offset → d ≡ b ++ two wide → new ≡ d ++ spell_expr x → new ≡ old ++ spell_expr e
text_of_field old a b d new e offset wide x same p q r u =
    text_of old new e _ same (twice old d new _ _ (twice old b d _ _ (twice old a b _ _ p q) r) u)

pub text_of_fork : (old a b new : List ℕ) (s : PlainStmt) (e : PlainExpr) (x y : PlainStmts) → s ≡ fork e x y
    → a ≡ old ++ 0x03 ∷ spell_expr e → b ≡ a ++ spell_block x → new ≡ b ++ spell_block y → new ≡ old ++ spell_stmt s
text_of_fork old a b new s e x y same p q r =
    text_of_stmt old new s _ same (twice old b new _ _ (twice old a b _ _ p q) r ∙ ap (λ l. old ++ (0x03 ∷ l)) (append_assoc (spell_expr e) (spell_block x) (spell_block y)))

-- How items and what stands in them begin.
use Rattle.std.proofs.Common.{◌≡◌, ℕ, zero, suc, ◌-◌, ◌≤◌, [], ◌∷◌, ◌++◌, Some, Bool, true, false, refl, sym, ap, ◌∙◌, append_assoc, arith, Result, Ok, Err}
use Rattle.lar_tree.specs.declared.keyword.Keyword.{Keyword}
use Rattle.lar_tree.specs.declared.keyword.Keyword.TheVariants as keyword
use Rattle.lar_tree.specs.declared.sign.Sign.TheVariants as sign
use Rattle.lar_tree.specs.declared.token.Kind.{Kind}
use Rattle.lar_tree.specs.declared.token.Kind.TheVariants as kind
use Rattle.lar_tree.specs.declared.item.Item.{Item}
use Rattle.lar_grammar.specs.Looks.{Look, look, same_sign, same_word, is_sign, is_word, is_name}
use Rattle.lar_grammar.specs.Symbols.{Symbol, one_sign, one_word, one_name, member, generic_member, body, module_items, attributed, program, Stack, skip, fail, take, then_, when}
use Rattle.lar_grammar.specs.Moves.{generic_at, attribute_rest, fn_rest, attributed_at, item_at, program_at, expand}
use Rattle.lar_grammar.specs.Machine.{fault}
use Rattle.lar_grammar.proofs.GoingTokens.{sign_is, word_is}
use Rattle.lar_grammar.proofs.Steps.{stops_fail, steady_never_skips, split, same_moves}
use Rattle.lar_grammar.proofs.Openings.{attributed_steady}
use Rattle.lar_syntax.specs.Reads.{Reads}
use Rattle.lar_syntax.specs.ReadsItems.{item_tokens, BeginsAs, ReadsItem}
use Rattle.lar_syntax.specs.declared.parser.cursor.Stop.{Stop}
use Rattle.lar_syntax.specs.declared.parser.cursor.Stop.TheVariants as stop
use Rattle.lar_syntax.specs.declared.parser.cursor.Parser.{Parser}

when_never_skips : (b : Bool) (bs : Stack) → when b (take bs) fail ≡ skip → ⊥
when_never_skips true bs e = cc
when_never_skips false bs e = cc

taken_first : (b : Bool) (bs : Stack) → when b (take bs) fail ≡ then_ (when b (take []) fail) bs
taken_first true bs = refl
taken_first false bs = refl

-- ---- generics

const_begins : (l : Look) → is_word keyword.Const l ≡ true → generic_at l ≡ then_ (when (is_word keyword.Const l) (take []) fail) (one_name ∷ one_sign sign.Colon ∷ one_word keyword.I64 ∷ [])
const_begins l e = ap generic_at (word_is keyword.Const l e) ∙ sym (ap (λ b. then_ (when b (take []) fail) (one_name ∷ one_sign sign.Colon ∷ one_word keyword.I64 ∷ [])) e)

name_begins : (l : Look) → is_word keyword.Const l ≡ false → generic_at l ≡ when (is_name l) (take []) fail
unfolding same_word
name_begins (Some (kind.Word keyword.Const)) e = cc
name_begins (Some (kind.Name n)) e = refl
name_begins _ e = refl

pub generic_const : (p : Parser) (ss : Stack) → is_word keyword.Const (look p.rest.now) ≡ true → fault p.rest.now p.room (member generic_member ∷ ss) ≡ fault p.rest.now p.room (one_word keyword.Const ∷ one_name ∷ one_sign sign.Colon ∷ one_word keyword.I64 ∷ ss)
generic_const p ss e = split p.rest.now p.room (member generic_member) (one_word keyword.Const) (one_name ∷ one_sign sign.Colon ∷ one_word keyword.I64 ∷ []) ss (const_begins (look p.rest.now) e) (when_never_skips (is_word keyword.Const (look p.rest.now)) [])

pub generic_named : (p : Parser) (ss : Stack) → is_word keyword.Const (look p.rest.now) ≡ false → fault p.rest.now p.room (member generic_member ∷ ss) ≡ fault p.rest.now p.room (one_name ∷ ss)
generic_named p ss e = same_moves p.rest.now p.room (member generic_member) one_name ss (name_begins (look p.rest.now) e) (when_never_skips (is_name (look p.rest.now)) [])

-- ---- modules

pub body_shut : (p : Parser) (n : ℕ) (ss : Stack) → n ≤ 0 → fault p.rest.now p.room (body n ∷ ss) ≡ Some p.rest.now
body_shut p zero ss none = stops_fail p.rest.now p.room (body zero) ss refl
body_shut p (suc n) ss none = absurd (omega arith)

pub body_opens : (p : Parser) (n : ℕ) (ss : Stack) → 1 ≤ n → fault p.rest.now p.room (body n ∷ ss) ≡ fault p.rest.now p.room (one_sign sign.OpenBrace ∷ module_items (n - 1) ∷ one_sign sign.CloseBrace ∷ ss)
body_opens p zero ss some = absurd (omega arith)
body_opens p (suc n) ss some =
    let e : n ≡ suc n - 1 = omega arith in
    split p.rest.now p.room (body (suc n)) (one_sign sign.OpenBrace) (module_items n ∷ one_sign sign.CloseBrace ∷ []) ss (taken_first (is_sign sign.OpenBrace (look p.rest.now)) (module_items n ∷ one_sign sign.CloseBrace ∷ [])) (when_never_skips (is_sign sign.OpenBrace (look p.rest.now)) [])
    ∙ ap (λ k. fault p.rest.now p.room (one_sign sign.OpenBrace ∷ module_items k ∷ one_sign sign.CloseBrace ∷ ss)) e

-- ---- items

-- an item that begins with one of their words
word_begins : (p : Parser) (n : ℕ) (w : Keyword) (rest : Stack) (s : Symbol) (behind : Stack) → BeginsAs n p s behind → is_word w (look p.rest.now) ≡ true → item_at n (Some (kind.Word w)) ≡ take rest → expand s (look p.rest.now) ≡ then_ (when (is_word w (look p.rest.now)) (take []) fail) (rest ++ behind)
word_begins p n w rest s behind b seen e =
    b ∙ ap (λ l. then_ (item_at n l) behind) (word_is w (look p.rest.now) seen) ∙ ap (λ m. then_ m behind) e
    ∙ sym (ap (λ x. then_ (when x (take []) fail) (rest ++ behind)) seen)

pub item_word : (p : Parser) (n : ℕ) (w : Keyword) (rest : Stack) (s : Symbol) (behind ss : Stack) → BeginsAs n p s behind → is_word w (look p.rest.now) ≡ true → item_at n (Some (kind.Word w)) ≡ take rest → fault p.rest.now p.room (s ∷ ss) ≡ fault p.rest.now p.room (one_word w ∷ (rest ++ (behind ++ ss)))
item_word p n w rest s behind ss b seen e =
    split p.rest.now p.room s (one_word w) (rest ++ behind) ss (word_begins p n w rest s behind b seen e) (when_never_skips (is_word w (look p.rest.now)) [])
    ∙ ap (λ x. fault p.rest.now p.room (one_word w ∷ x)) (append_assoc rest behind ss)

-- an item that begins with none of the others' words is a function
fn_left : (n : ℕ) (l : Look) → is_word keyword.Mod l ≡ false → is_word keyword.Struct l ≡ false → is_word keyword.Const l ≡ false → item_at n l ≡ attributed_at n l
unfolding same_word
fn_left n (Some (kind.Word keyword.Mod)) a b c = cc
fn_left n (Some (kind.Word keyword.Struct)) a b c = cc
fn_left n (Some (kind.Word keyword.Const)) a b c = cc
fn_left n l a b c = refl

pub item_fn : (p : Parser) (n : ℕ) (s : Symbol) (behind ss : Stack) → BeginsAs n p s behind → is_word keyword.Mod (look p.rest.now) ≡ false → is_word keyword.Struct (look p.rest.now) ≡ false → is_word keyword.Const (look p.rest.now) ≡ false → fault p.rest.now p.room (s ∷ ss) ≡ fault p.rest.now p.room (attributed n ∷ (behind ++ ss))
item_fn p n s behind ss begins a b c =
    split p.rest.now p.room s (attributed n) behind ss (begins ∙ ap (λ m. then_ m behind) (fn_left n (look p.rest.now) a b c)) (steady_never_skips (attributed_at n (look p.rest.now)) (attributed_steady n (look p.rest.now)))

pub as_item : (n : ℕ) (from : Stack) (p : Parser) (r : Result Item Stop) (new : Parser) → ((s : Symbol) (behind ss : Stack) → BeginsAs n p s behind → fault p.rest.now p.room (s ∷ ss) ≡ fault p.rest.now p.room (from ++ (behind ++ ss))) → Reads item_tokens from p r new → ReadsItem n p r new
as_item n from p (Ok i) new go h = (h.0, λ s behind b ss. go s behind ss b ∙ h.1 (behind ++ ss))
as_item n from p (Err stop.Memory) new go h = λ s behind b. tt
as_item n from p (Err stop.Syntax) new go h = λ s behind b ss. go s behind ss b ∙ h (behind ++ ss)

-- a program's next item
pub program_begins : (l : Look) (k : Kind) → l ≡ Some k → program_at l ≡ then_ (item_at 64 l) (program ∷ [])
program_begins l k e = ap program_at e ∙ sym (ap (λ x. then_ (item_at 64 x) (program ∷ [])) e)

-- ---- functions

pub hash_taken : (n : ℕ) (l : Look) → is_sign sign.Hash l ≡ true → attributed_at n l ≡ take (attribute_rest n)
hash_taken n l e = ap (attributed_at n) (sign_is sign.Hash l e)

fn_begins : (n : ℕ) (l : Look) → is_sign sign.Hash l ≡ false → attributed_at n l ≡ then_ (when (is_word keyword.Fn l) (take []) fail) (fn_rest n)
unfolding same_sign same_word
fn_begins n (Some (kind.Sign sign.Hash)) e = cc
fn_begins n (Some (kind.Word keyword.Fn)) e = refl
fn_begins n l e = refl

pub fn_opens : (p : Parser) (n : ℕ) (ss : Stack) → is_sign sign.Hash (look p.rest.now) ≡ false → fault p.rest.now p.room (attributed n ∷ ss) ≡ fault p.rest.now p.room (one_word keyword.Fn ∷ (fn_rest n ++ ss))
fn_opens p n ss e = split p.rest.now p.room (attributed n) (one_word keyword.Fn) (fn_rest n) ss (fn_begins n (look p.rest.now) e) (when_never_skips (is_word keyword.Fn (look p.rest.now)) [])

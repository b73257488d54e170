-- From one part of a list or a path to the next, at a parser.
use Rattle.std.proofs.Common.{◌≡◌, ℕ, ◌-◌, ◌≤◌, List, [], ◌∷◌, ◌++◌, Some, true, false, map, refl, sym, ap, ◌∙◌, subst, append_assoc, append-nil, arith, Ok, Bool}
use Rattle.lar_source.specs.declared.file.Span.{Span}
use Rattle.lar_tree.specs.declared.sign.Sign.{Sign}
use Rattle.lar_tree.specs.declared.sign.Sign.TheVariants as sign
use Rattle.lar_tree.specs.declared.token.Kind.TheVariants as kind
use Rattle.lar_tree.specs.declared.token.Token.{Token}
use Rattle.lar_tree.specs.declared.commas.Commas.{Commas}
use Rattle.lar_tree.specs.declared.commas.Member.{Member}
use Rattle.lar_tree.specs.declared.name.Name.{Name}
use Rattle.lar_tree.specs.declared.name.Segment.{Segment}
use Rattle.lar_tree.specs.declared.expr.Expr.{Expr}
use Rattle.lar_tree.specs.declared.expr.Init.{Init}
use Rattle.lar_tree.specs.Spelling.{sign_token, name_token, flat_segments}
use Rattle.lar_tree.specs.Commas.{member_map}
use Rattle.lar_tree.specs.Exprs.{flat_expr, flat_init, flat_more_parts, flat_more_inits, Grouped, GroupedMoreParts, GroupedMoreInits}
use Rattle.lar_tree.specs.ExprView.{expr_view, init_view, more_parts, more_inits}
use Rattle.lar_grammar.specs.Looks.{Look, look, same_sign, is_sign, is_name}
use Rattle.lar_grammar.specs.Symbols.{Listed, init_member, name_member, Symbol, one_sign, one_name, member, more, further, operand, post, selector, path_rest, sep_rest, new_rest, new_sep_rest, Stack, skip, fail, take, then_, when}
use Rattle.lar_grammar.specs.Moves.{operand_at, path_on, sep_on, new_on, new_sep_on, in_braces, expand}
use Rattle.lar_grammar.specs.Machine.{fault}
use Rattle.lar_grammar.proofs.Taking.{sign-found}
use Rattle.lar_grammar.proofs.Steps.{when_true, split, same_moves}
use Rattle.lar_grammar.proofs.Openings.{begin_never_skips, further_opens, further_full}
use Rattle.lar_syntax.specs.Reads.{Advances, expr_tokens}
use Rattle.lar_syntax.specs.ReadsExprs.{parts_tokens, AreParts, inits_tokens, AreInits}
use Rattle.lar_syntax.specs.declared.parser.cursor.Parser.{Parser}
use Rattle.lar_syntax.proofs.Flow.{moved, skipped, ends_with}

-- ---- signs

take_not_skip : (bs : Stack) → take bs ≡ skip → ⊥
take_not_skip bs e = cc

-- a symbol that takes this sign, which is next
pub sign_moves : (p q : Parser) (s : Symbol) (x : Sign) (bs : Stack) (at : Span) (ss : Stack) → is_sign x (look p.rest.now) ≡ true → expand s (Some (kind.Sign x)) ≡ take bs → Advances p (Ok at) q → fault p.rest.now p.room (s ∷ ss) ≡ fault q.rest.now q.room (bs ++ ss)
sign_moves p q s x bs at ss seen m a = moved p q s bs ss at (ap (expand s) (sign-found x (look p.rest.now) seen) ∙ m) a

-- the sign is still to be read
pub sign_opens : (p : Parser) (s : Symbol) (x : Sign) (bs ss : Stack) → is_sign x (look p.rest.now) ≡ true → expand s (Some (kind.Sign x)) ≡ take bs → fault p.rest.now p.room (s ∷ ss) ≡ fault p.rest.now p.room (one_sign x ∷ (bs ++ ss))
sign_opens p s x bs ss seen m =
    let one = when_true (is_sign x (look p.rest.now)) (take []) fail seen in
    split p.rest.now p.room s (one_sign x) bs ss (ap (expand s) (sign-found x (look p.rest.now) seen) ∙ m ∙ sym (ap (λ k. then_ k bs) one)) (λ z. take_not_skip [] (sym one ∙ z))

-- ---- names

pub selector_named : (p : Parser) (n : List ℕ) (ss : Stack) → look p.rest.now ≡ Some (kind.Name n) → fault p.rest.now p.room (selector ∷ ss) ≡ fault p.rest.now p.room (one_name ∷ ss)
selector_named p n ss e = same_moves p.rest.now p.room selector one_name ss (ap (expand selector) e ∙ sym (ap (expand one_name) e)) (begin_never_skips name_member (look p.rest.now))

operand_move : (l : Look) → is_name l ≡ true → operand_at l ≡ then_ (when (is_name l) (take []) fail) (path_rest ∷ post ∷ [])
operand_move (Some (kind.Name n)) e = refl
operand_move _ e = cc

-- an operand that begins with a name
pub operand_named : (p : Parser) (ss : Stack) → is_name (look p.rest.now) ≡ true → fault p.rest.now p.room (operand ∷ ss) ≡ fault p.rest.now p.room (one_name ∷ path_rest ∷ post ∷ ss)
operand_named p ss e = split p.rest.now p.room operand one_name (path_rest ∷ post ∷ []) ss (operand_move (look p.rest.now) e) (begin_never_skips name_member (look p.rest.now))

-- ---- paths

sep_move : (l : Look) → is_sign sign.Less l ≡ false → sep_on l ≡ then_ (when (is_name l) (take []) fail) (path_rest ∷ [])
unfolding same_sign
sep_move (Some (kind.Name n)) e = refl
sep_move (Some (kind.Sign sign.Less)) e = cc
sep_move _ e = refl

-- a name behind `::`
pub sep_named : (p : Parser) (ss : Stack) → is_sign sign.Less (look p.rest.now) ≡ false → fault p.rest.now p.room (sep_rest ∷ ss) ≡ fault p.rest.now p.room (one_name ∷ path_rest ∷ ss)
sep_named p ss e = split p.rest.now p.room sep_rest one_name (path_rest ∷ []) ss (sep_move (look p.rest.now) e) (begin_never_skips name_member (look p.rest.now))

new_sep_move : (l : Look) → is_sign sign.Less l ≡ false → new_sep_on l ≡ then_ (when (is_name l) (take []) fail) (new_rest ∷ [])
unfolding same_sign
new_sep_move (Some (kind.Name n)) e = refl
new_sep_move (Some (kind.Sign sign.Less)) e = cc
new_sep_move _ e = refl

pub new_sep_named : (p : Parser) (ss : Stack) → is_sign sign.Less (look p.rest.now) ≡ false → fault p.rest.now p.room (new_sep_rest ∷ ss) ≡ fault p.rest.now p.room (one_name ∷ new_rest ∷ ss)
new_sep_named p ss e = split p.rest.now p.room new_sep_rest one_name (new_rest ∷ []) ss (new_sep_move (look p.rest.now) e) (begin_never_skips name_member (look p.rest.now))

path_move : (l : Look) → is_sign sign.PathSep l ≡ false → is_sign sign.OpenParen l ≡ false → path_on l ≡ skip
unfolding same_sign
path_move (Some (kind.Sign sign.PathSep)) e f = cc
path_move (Some (kind.Sign sign.OpenParen)) e f = cc
path_move _ e f = refl

-- a path that ends
pub path_ends : (p : Parser) (ss : Stack) → is_sign sign.PathSep (look p.rest.now) ≡ false → is_sign sign.OpenParen (look p.rest.now) ≡ false → fault p.rest.now p.room (path_rest ∷ ss) ≡ fault p.rest.now p.room ss
path_ends p ss e f = skipped p path_rest ss (path_move (look p.rest.now) e f) refl

new_move : (l : Look) → is_sign sign.PathSep l ≡ false → new_on l ≡ then_ (when (is_sign sign.OpenBrace l) (take []) fail) (in_braces init_member 63)
unfolding same_sign
new_move (Some (kind.Sign sign.PathSep)) e = cc
new_move _ e = refl

one_sign_never_skips : (x : Sign) (l : Look) → expand (one_sign x) l ≡ skip → ⊥
one_sign_never_skips x l e = go (is_sign x l) e
  where
    go : (b : Bool) → when b (take []) fail ≡ skip → ⊥
    go true e = cc
    go false e = cc

-- behind the path after `new` a brace must come
pub new_opens : (p : Parser) (ss : Stack) → is_sign sign.PathSep (look p.rest.now) ≡ false → fault p.rest.now p.room (new_rest ∷ ss) ≡ fault p.rest.now p.room (one_sign sign.OpenBrace ∷ (in_braces init_member 63 ++ ss))
new_opens p ss e = split p.rest.now p.room new_rest (one_sign sign.OpenBrace) (in_braces init_member 63) ss (new_move (look p.rest.now) e) (one_sign_never_skips sign.OpenBrace (look p.rest.now))

segments_grow : (ss : List Segment) (s : Segment) → flat_segments (ss ++ s ∷ []) ≡ flat_segments ss ++ (sign_token sign.PathSep s.sep ∷ name_token s.name ∷ [])
segments_grow [] s = refl
segments_grow (x ∷ ss) s = ap (λ ts. sign_token sign.PathSep x.sep ∷ name_token x.name ∷ ts) (segments_grow ss s)

-- one name more
pub path_grows : (a b c d : List Token) (first : Name) (ss us : List Segment) (sep : Span) (name : Name) → a ≡ name_token first ∷ (flat_segments ss ++ b) → b ≡ sign_token sign.PathSep sep ∷ c → c ≡ name_token name ∷ d → us ≡ ss ++ record { sep = sep; name = name } ∷ [] → a ≡ name_token first ∷ (flat_segments us ++ d)
path_grows a b c d first ss us sep name p q r z =
    p ∙ ap (λ x. name_token first ∷ (flat_segments ss ++ x)) (q ∙ ap (λ x. sign_token sign.PathSep sep ∷ x) r)
    ∙ ap (λ x. name_token first ∷ x) (sym (append_assoc (flat_segments ss) (sign_token sign.PathSep sep ∷ name_token name ∷ []) d))
    ∙ ap (λ x. name_token first ∷ (x ++ d)) (sym (segments_grow ss (record { sep = sep; name = name })) ∙ ap flat_segments (sym z))

-- ---- what stands in brackets

pub enclosed : (f g a b c d ps : List Token) (t u : Token) → a ≡ t ∷ b → b ≡ ps ++ c → c ≡ u ∷ d → (f ++ g) ++ a ≡ (f ++ (g ++ t ∷ (ps ++ u ∷ []))) ++ d
enclosed f g a b c d ps t u p q r =
    ap (λ x. (f ++ g) ++ x) (p ∙ ap (λ x. t ∷ x) (ends_with b c d ps (u ∷ []) q r))
    ∙ sym (append_assoc (f ++ g) (t ∷ (ps ++ u ∷ [])) d)
    ∙ ap (λ x. x ++ d) (append_assoc f g (t ∷ (ps ++ u ∷ [])))

-- ---- members

comma_move : (w : Listed) (n : ℕ) (l : Look) → is_sign sign.Comma l ≡ true → expand (more w n) l ≡ take (further w n ∷ more w (n - 1) ∷ [])
comma_move w n l e = when_true (is_sign sign.Comma l) (take (further w n ∷ more w (n - 1) ∷ [])) skip e

pub no_more : (p q : Parser) (w : Listed) (n : ℕ) (at : Span) (ss : Stack) → is_sign sign.Comma (look p.rest.now) ≡ true → Advances p (Ok at) q → n ≡ 0 → fault p.rest.now p.room (more w n ∷ ss) ≡ Some q.rest.now
no_more p q w n at ss e a z =
    moved p q (more w n) (further w n ∷ more w (n - 1) ∷ []) ss at (comma_move w n (look p.rest.now) e) a
    ∙ further_full q.rest.now q.room w n (more w (n - 1) ∷ ss) (omega arith)

pub one_more : (p q : Parser) (w : Listed) (n : ℕ) (at : Span) (ss : Stack) → is_sign sign.Comma (look p.rest.now) ≡ true → Advances p (Ok at) q → 1 ≤ n → fault p.rest.now p.room (more w n ∷ ss) ≡ fault q.rest.now q.room (member w ∷ more w (n - 1) ∷ ss)
one_more p q w n at ss e a z =
    moved p q (more w n) (further w n ∷ more w (n - 1) ∷ []) ss at (comma_move w n (look p.rest.now) e) a
    ∙ further_opens q.rest.now q.room w n (more w (n - 1) ∷ ss) z

part_added : (ms : List (Member Expr)) (m : Member Expr) → flat_more_parts (more_parts (map (member_map expr_view) (ms ++ m ∷ []))) ≡ flat_more_parts (more_parts (map (member_map expr_view) ms)) ++ (sign_token sign.Comma m.comma ∷ expr_tokens m.value)
part_added [] m = ap (λ x. sign_token sign.Comma m.comma ∷ x) (append-nil (expr_tokens m.value))
part_added (x ∷ ms) m =
    ap (λ ts. sign_token sign.Comma x.comma ∷ (expr_tokens x.value ++ ts)) (part_added ms m)
    ∙ ap (λ ts. sign_token sign.Comma x.comma ∷ ts) (sym (append_assoc (expr_tokens x.value) (flat_more_parts (more_parts (map (member_map expr_view) ms))) (sign_token sign.Comma m.comma ∷ expr_tokens m.value)))

parts_added : (c : Commas Expr) (m : Member Expr) → parts_tokens (Some (record c { more = c.more ++ m ∷ [] })) ≡ parts_tokens (Some c) ++ (sign_token sign.Comma m.comma ∷ expr_tokens m.value)
parts_added c m =
    ap (λ ts. expr_tokens c.first ++ ts) (part_added c.more m)
    ∙ sym (append_assoc (expr_tokens c.first) (flat_more_parts (more_parts (map (member_map expr_view) c.more))) (sign_token sign.Comma m.comma ∷ expr_tokens m.value))

-- a member more, with its comma
pub parts_grow : (a b c d : List Token) (list next : Commas Expr) (comma : Span) (e : Expr) → a ≡ parts_tokens (Some list) ++ b → b ≡ sign_token sign.Comma comma ∷ c → c ≡ expr_tokens e ++ d → next ≡ record list { more = list.more ++ record { comma = comma; value = e } ∷ [] } → a ≡ parts_tokens (Some next) ++ d
parts_grow a b c d list next comma e p q r z =
    ends_with a b d (parts_tokens (Some list)) (sign_token sign.Comma comma ∷ expr_tokens e) p (q ∙ ap (λ x. sign_token sign.Comma comma ∷ x) r)
    ∙ ap (λ x. x ++ d) (sym (parts_added list (record { comma = comma; value = e })))
    ∙ ap (λ x. parts_tokens (Some x) ++ d) (sym z)

part_grouped : (ms : List (Member Expr)) (m : Member Expr) → GroupedMoreParts (more_parts (map (member_map expr_view) ms)) → Grouped (expr_view m.value) → GroupedMoreParts (more_parts (map (member_map expr_view) (ms ++ m ∷ [])))
part_grouped [] m g h = (h, tt)
part_grouped (x ∷ ms) m g h = (g.0, part_grouped ms m g.1 h)

pub parts_grouped : (list next : Commas Expr) (m : Member Expr) → AreParts (Some list) → Grouped (expr_view m.value) → next ≡ record list { more = list.more ++ m ∷ [] } → AreParts (Some next)
parts_grouped list next m g h z = subst (λ (c : Commas Expr). AreParts (Some c)) (sym z) (g.0, part_grouped list.more m g.1 h)

init_added : (ms : List (Member Init)) (m : Member Init) → flat_more_inits (more_inits (map (member_map init_view) (ms ++ m ∷ []))) ≡ flat_more_inits (more_inits (map (member_map init_view) ms)) ++ (sign_token sign.Comma m.comma ∷ flat_init (init_view m.value))
init_added [] m = ap (λ x. sign_token sign.Comma m.comma ∷ name_token (init_view m.value).0 ∷ sign_token sign.Colon (init_view m.value).1 ∷ x) (append-nil (flat_expr (init_view m.value).2))
init_added (x ∷ ms) m =
    ap (λ ts. sign_token sign.Comma x.comma ∷ (flat_init (init_view x.value) ++ ts)) (init_added ms m)
    ∙ ap (λ ts. sign_token sign.Comma x.comma ∷ ts) (sym (append_assoc (flat_init (init_view x.value)) (flat_more_inits (more_inits (map (member_map init_view) ms))) (sign_token sign.Comma m.comma ∷ flat_init (init_view m.value))))

inits_added : (c : Commas Init) (m : Member Init) → inits_tokens (Some (record c { more = c.more ++ m ∷ [] })) ≡ inits_tokens (Some c) ++ (sign_token sign.Comma m.comma ∷ flat_init (init_view m.value))
inits_added c m =
    ap (λ ts. flat_init (init_view c.first) ++ ts) (init_added c.more m)
    ∙ sym (append_assoc (flat_init (init_view c.first)) (flat_more_inits (more_inits (map (member_map init_view) c.more))) (sign_token sign.Comma m.comma ∷ flat_init (init_view m.value)))

pub inits_grow : (a b c d : List Token) (list next : Commas Init) (comma : Span) (i : Init) → a ≡ inits_tokens (Some list) ++ b → b ≡ sign_token sign.Comma comma ∷ c → c ≡ flat_init (init_view i) ++ d → next ≡ record list { more = list.more ++ record { comma = comma; value = i } ∷ [] } → a ≡ inits_tokens (Some next) ++ d
inits_grow a b c d list next comma i p q r z =
    ends_with a b d (inits_tokens (Some list)) (sign_token sign.Comma comma ∷ flat_init (init_view i)) p (q ∙ ap (λ x. sign_token sign.Comma comma ∷ x) r)
    ∙ ap (λ x. x ++ d) (sym (inits_added list (record { comma = comma; value = i })))
    ∙ ap (λ x. inits_tokens (Some x) ++ d) (sym z)

init_grouped : (ms : List (Member Init)) (m : Member Init) → GroupedMoreInits (more_inits (map (member_map init_view) ms)) → Grouped (init_view m.value).2 → GroupedMoreInits (more_inits (map (member_map init_view) (ms ++ m ∷ [])))
init_grouped [] m g h = (h, tt)
init_grouped (x ∷ ms) m g h = (g.0, init_grouped ms m g.1 h)

pub inits_grouped : (list next : Commas Init) (m : Member Init) → AreInits (Some list) → Grouped (init_view m.value).2 → next ≡ record list { more = list.more ++ m ∷ [] } → AreInits (Some next)
inits_grouped list next m g h z = subst (λ (c : Commas Init). AreInits (Some c)) (sym z) (g.0, init_grouped list.more m g.1 h)

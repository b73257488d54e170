-- Lists with commas, and paths: one member more.
use Rattle.std.proofs.Common.{◌≡◌, ℕ, ◌-◌, ◌≤◌, List, [], ◌∷◌, ◌++◌, Some, true, refl, sym, ap, ◌∙◌, append_assoc, append-nil, map, Ok}
use Rattle.lar_source.specs.declared.file.Span.{Span}
use Rattle.lar_tree.specs.declared.name.Name.{Name}
use Rattle.lar_tree.specs.declared.name.Segment.{Segment}
use Rattle.lar_tree.specs.declared.commas.Commas.{Commas}
use Rattle.lar_tree.specs.declared.commas.Member.{Member}
use Rattle.lar_tree.specs.declared.sign.Sign.TheVariants as sign
use Rattle.lar_tree.specs.declared.token.Token.{Token}
use Rattle.lar_tree.specs.Spelling.{sign_token, name_token, flat_segments}
use Rattle.lar_tree.specs.Commas.{flat_members, flat_commas, member_map}
use Rattle.lar_grammar.specs.Looks.{look, is_sign}
use Rattle.lar_grammar.specs.Symbols.{Listed, Stack, member, further, more}
use Rattle.lar_grammar.specs.Machine.{fault}
use Rattle.lar_grammar.proofs.Steps.{when_true}
use Rattle.lar_grammar.proofs.Openings.{further_opens, further_full}
use Rattle.lar_syntax.specs.Reads.{Advances}
use Rattle.lar_syntax.specs.declared.parser.cursor.Parser.{Parser}
use Rattle.lar_syntax.proofs.Flow.{moved}

-- ---- the machine, behind a comma

comma_taken : (p q : Parser) (w : Listed) (n : ℕ) (at : Span) (ss : Stack) → is_sign sign.Comma (look p.rest.now) ≡ true → Advances p (Ok at) q → fault p.rest.now p.room (more w n ∷ ss) ≡ fault q.rest.now q.room (further w n ∷ more w (n - 1) ∷ ss)
comma_taken p q w n at ss seen a = moved p q (more w n) (further w n ∷ more w (n - 1) ∷ []) ss at (when_true _ _ _ seen) a

-- no member may come
pub more_full : (p q : Parser) (w : Listed) (n : ℕ) (at : Span) (ss : Stack) → is_sign sign.Comma (look p.rest.now) ≡ true → Advances p (Ok at) q → n ≤ 0 → fault p.rest.now p.room (more w n ∷ ss) ≡ Some q.rest.now
more_full p q w n at ss seen a none = comma_taken p q w n at ss seen a ∙ further_full q.rest.now q.room w n (more w (n - 1) ∷ ss) none

-- one comes
pub more_opens : (p q : Parser) (w : Listed) (n : ℕ) (at : Span) (ss : Stack) → is_sign sign.Comma (look p.rest.now) ≡ true → Advances p (Ok at) q → 1 ≤ n → fault p.rest.now p.room (more w n ∷ ss) ≡ fault q.rest.now q.room (member w ∷ more w (n - 1) ∷ ss)
more_opens p q w n at ss seen a some = comma_taken p q w n at ss seen a ∙ further_opens q.rest.now q.room w n (more w (n - 1) ∷ ss) some

-- ---- the tokens

pub members_end : {A : Type 0} (flat : A → List Token) (ms : List (Member A)) (m : Member A) → flat_members flat (ms ++ m ∷ []) ≡ flat_members flat ms ++ (sign_token sign.Comma m.comma ∷ flat m.value)
members_end flat [] m = ap (λ x. sign_token sign.Comma m.comma ∷ x) (append-nil (flat m.value))
members_end flat (n ∷ ms) m =
    ap (λ x. sign_token sign.Comma n.comma ∷ (flat n.value ++ x)) (members_end flat ms m)
    ∙ ap (λ x. sign_token sign.Comma n.comma ∷ x) (sym (append_assoc (flat n.value) (flat_members flat ms) (sign_token sign.Comma m.comma ∷ flat m.value)))

-- a member more, with its comma
pub grows : {A : Type 0} (flat : A → List Token) (list after : Commas A) (comma : Span) (v : A) (a b c d : List Token) → a ≡ flat_commas flat list ++ b → b ≡ sign_token sign.Comma comma ∷ c → c ≡ flat v ++ d → after ≡ record list { more = list.more ++ record { comma = comma; value = v } ∷ [] } → a ≡ flat_commas flat after ++ d
grows {A = A} flat list after comma v a b c d p q r e =
    p ∙ ap (λ x. flat_commas flat list ++ x) (q ∙ ap (λ x. sign_token sign.Comma comma ∷ x) r)
    ∙ sym (append_assoc (flat_commas flat list) (sign_token sign.Comma comma ∷ flat v) d)
    ∙ ap (λ x. x ++ d) (append_assoc (flat list.first) (flat_members flat list.more) (sign_token sign.Comma comma ∷ flat v) ∙ ap (λ x. flat list.first ++ x) (sym (members_end flat list.more (record { comma = comma; value = v }))))
    ∙ ap (λ (l : Commas A). flat_commas flat l ++ d) (sym e)

-- a list of one member
pub begins : {A : Type 0} (flat : A → List Token) (list : Commas A) (v : A) (a b : List Token) → a ≡ flat v ++ b → list ≡ record { first = v; more = [] } → a ≡ flat_commas flat list ++ b
begins {A = A} flat list v a b p e = p ∙ ap (λ x. x ++ b) (sym (append-nil (flat v))) ∙ ap (λ (l : Commas A). flat_commas flat l ++ b) (sym e)

-- members that are seen as something else
pub members_seen : {A B : Type 0} (see : A → B) (flat : B → List Token) (ms : List (Member A)) → flat_members flat (map (member_map see) ms) ≡ flat_members (λ x. flat (see x)) ms
members_seen see flat [] = refl
members_seen see flat (m ∷ ms) = ap (λ x. sign_token sign.Comma m.comma ∷ (flat (see m.value) ++ x)) (members_seen see flat ms)

-- a segment more
segments_end : (ss : List Segment) (sep : Span) (name : Name) → flat_segments (ss ++ record { sep = sep; name = name } ∷ []) ≡ flat_segments ss ++ sign_token sign.PathSep sep ∷ name_token name ∷ []
segments_end [] sep name = refl
segments_end (s ∷ ss) sep name = ap (λ x. sign_token sign.PathSep s.sep ∷ name_token s.name ∷ x) (segments_end ss sep name)

pub segments_grow : (front : List Token) (ss after : List Segment) (sep : Span) (name : Name) (a b c d : List Token) → a ≡ (front ++ flat_segments ss) ++ b → b ≡ sign_token sign.PathSep sep ∷ c → c ≡ name_token name ∷ d → after ≡ ss ++ record { sep = sep; name = name } ∷ [] → a ≡ (front ++ flat_segments after) ++ d
segments_grow front ss after sep name a b c d p q r e =
    p ∙ ap (λ x. (front ++ flat_segments ss) ++ x) (q ∙ ap (λ x. sign_token sign.PathSep sep ∷ x) r)
    ∙ sym (append_assoc (front ++ flat_segments ss) (sign_token sign.PathSep sep ∷ name_token name ∷ []) d)
    ∙ ap (λ x. x ++ d) (append_assoc front (flat_segments ss) (sign_token sign.PathSep sep ∷ name_token name ∷ []) ∙ ap (λ x. front ++ x) (sym (segments_end ss sep name)))
    ∙ ap (λ x. (front ++ flat_segments x) ++ d) (sym e)

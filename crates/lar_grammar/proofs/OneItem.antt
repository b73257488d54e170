-- An item and what follows it are fixed by their tokens, and so is a program.
use Rattle.std.proofs.Common.{◌≡◌, ℕ, List, [], ◌∷◌, ◌++◌, Option, Some, None, Bool, true, false, refl, sym, ap, ◌∙◌, subst, append_assoc, arith}
use Rattle.lar_source.specs.declared.file.Span.{Span}
use Rattle.lar_tree.specs.declared.keyword.Keyword.{Keyword}
use Rattle.lar_tree.specs.declared.keyword.Keyword.TheVariants as keyword
use Rattle.lar_tree.specs.declared.sign.Sign.{Sign}
use Rattle.lar_tree.specs.declared.sign.Sign.TheVariants as sign
use Rattle.lar_tree.specs.declared.token.Kind.{Kind}
use Rattle.lar_tree.specs.declared.token.Kind.TheVariants as kind
use Rattle.lar_tree.specs.declared.token.Token.{Token}
use Rattle.lar_tree.specs.declared.commas.Commas.{Commas}
use Rattle.lar_tree.specs.declared.commas.Member.{Member}
use Rattle.lar_tree.specs.declared.item.Angled.{Angled}
use Rattle.lar_tree.specs.declared.item.Attribute.{Attribute}
use Rattle.lar_tree.specs.declared.item.AttributeWord.{AttributeWord}
use Rattle.lar_tree.specs.declared.item.AttributeWord.TheVariants as attribute
use Rattle.lar_tree.specs.declared.item.Const.{Const}
use Rattle.lar_tree.specs.declared.item.Generic.TheVariants as generic
use Rattle.lar_tree.specs.Spelling.{sign_token, word_token, name_token, flat_signed, flat_option}
use Rattle.lar_tree.specs.Commas.{flat_members, flat_commas}
use Rattle.lar_tree.specs.Stmts.{PlainBlock, block, flat_block, GroupedBlock}
use Rattle.lar_tree.specs.Items.{PlainField, PlainStruct, PlainOutput, PlainFn, PlainItem, module_item, struct_item, const_item, fn_item, PlainItems, no_items, items, attribute_name, flat_attributes, flat_generic, flat_name, flat_angled, flat_field, flat_output, flat_struct, flat_const, flat_item, flat_items, GroupedItem, GroupedItems}
use Rattle.lar_tree.specs.Programs.{Spells}
use Rattle.lar_tree.proofs.MarkedTokens.{spelled}
use Rattle.lar_grammar.proofs.OneType.{Same, tails, heads, spans, same_kinds, Never, never, same_name, same_signed, same_type, lengthens, goes_on, less}
use Rattle.lar_grammar.proofs.OneStmt.{same_block}

-- ---- lists with commas

-- a member and what follows it are fixed by their tokens
abbrev SameEach : {A : Type 0} → (A → List Token) → Type 0
SameEach {A} flat = (x y : A) (r s : List Token) → flat x ++ r ≡ flat y ++ s → Never lengthens r → Never lengthens s → Same x y r s

after_members : {A : Type 0} (flat : A → List Token) (ms : List (Member A)) (r : List Token) → Never lengthens r → Never lengthens (flat_members flat ms ++ r)
after_members flat [] r n = n
after_members flat (m ∷ ms) r n = refl

same_members : {A : Type 0} (flat : A → List Token) → SameEach flat → (ms ns : List (Member A)) (r s : List Token) → flat_members flat ms ++ r ≡ flat_members flat ns ++ s → Never goes_on r → Never goes_on s → Same ms ns r s
same_members flat c [] [] r s e a b = (refl, e)
same_members flat c [] (n ∷ ns) r s e a b = absurd (never goes_on sign.Comma n.comma r _ a e refl)
same_members flat c (m ∷ ms) [] r s e a b = absurd (never goes_on sign.Comma m.comma s _ b (sym e) refl)
same_members {A} flat c (m ∷ ms) (n ∷ ns) r s e a b =
    let h = sym (append_assoc (flat m.value) (flat_members flat ms) r) ∙ tails e ∙ append_assoc (flat n.value) (flat_members flat ns) s in
    let p = c m.value n.value _ _ h (after_members flat ms r (less r a)) (after_members flat ns s (less s b)) in
    let q = same_members flat c ms ns r s p.1 a b in
    let w : m ≡ n = λ i. record { comma = spans e i; value = p.0 i } in
    (cc (w, q.0), q.1)

same_commas : {A : Type 0} (flat : A → List Token) → SameEach flat → (x y : Commas A) (r s : List Token) → flat_commas flat x ++ r ≡ flat_commas flat y ++ s → Never goes_on r → Never goes_on s → Same x y r s
same_commas flat c x y r s e a b =
    let h = sym (append_assoc (flat x.first) (flat_members flat x.more) r) ∙ e ∙ append_assoc (flat y.first) (flat_members flat y.more) s in
    let p = c x.first y.first _ _ h (after_members flat x.more r (less r a)) (after_members flat y.more s (less s b)) in
    let q = same_members flat c x.more y.more r s p.1 a b in
    (λ i. record { first = p.0 i; more = q.0 i }, q.1)

same_angled : {A : Type 0} (flat : A → List Token) → SameEach flat → (x y : Option (Angled A)) (r s : List Token) → flat_option (flat_angled flat) x ++ r ≡ flat_option (flat_angled flat) y ++ s → Never lengthens r → Never lengthens s → Same x y r s
same_angled flat c None None r s e a b = (refl, e)
same_angled flat c None (Some y) r s e a b = absurd (never lengthens sign.Less y.open r _ a e refl)
same_angled flat c (Some x) None r s e a b = absurd (never lengthens sign.Less x.open s _ b (sym e) refl)
same_angled flat c (Some x) (Some y) r s e a b =
    let h = sym (append_assoc (flat_commas flat x.list) (sign_token sign.Greater x.close ∷ []) r) ∙ tails e ∙ append_assoc (flat_commas flat y.list) (sign_token sign.Greater y.close ∷ []) s in
    let p = same_commas flat c x.list y.list _ _ h refl refl in
    let w : x ≡ y = λ i. record { «open» = spans e i; list = p.0 i; close = spans p.1 i } in
    (ap Some w, tails p.1)

-- ---- the parts of an item

same_word_name : SameEach flat_name
same_word_name n m r s e a b = (same_name n m (heads e), tails e)

same_generic : SameEach flat_generic
same_generic (generic.Ty n) (generic.Ty m) r s e a b = (ap generic.Ty (same_name n m (heads e)), tails e)
same_generic (generic.Const c) (generic.Const d) r s e a b =
    let n = same_name c.name d.name (heads (tails e)) in
    let w : c ≡ d = λ i. record { keyword = spans e i; name = n i; colon = spans (tails (tails e)) i; int = spans (tails (tails (tails e))) i } in
    (ap generic.Const w, tails (tails (tails (tails e))))
same_generic (generic.Ty n) (generic.Const d) r s e a b = absurd (cc (same_kinds e))
same_generic (generic.Const d) (generic.Ty n) r s e a b = absurd (cc (same_kinds e))

same_field : SameEach flat_field
same_field x y r s e a b =
    let n = same_name x.0 y.0 (heads e) in
    let p = same_type x.2 y.2 r s (tails (tails e)) a b in
    (λ i. (n i, spans (tails e) i, p.0 i), p.1)

-- fields or parameters, up to the bracket
same_fields : (c : Sign) → goes_on c ≡ false → (x y : Option (Commas PlainField)) (to to' : Span) (r s : List Token) → flat_option (flat_commas flat_field) x ++ sign_token c to ∷ r ≡ flat_option (flat_commas flat_field) y ++ sign_token c to' ∷ s → (x ≡ y) × (to ≡ to') × (r ≡ s)
same_fields c n None None to to' r s e = (refl, spans e, tails e)
same_fields c n (Some x) (Some y) to to' r s e =
    let p = same_commas flat_field same_field x y _ _ e n n in
    (ap Some p.0, spans p.1, tails p.1)
same_fields c n _ _ to to' r s e = absurd (cc (same_kinds e))

abbrev arrows : Sign → Bool
arrows sign.Arrow = true
arrows _ = false

same_output : (x y : Option PlainOutput) (r s : List Token) → flat_option flat_output x ++ r ≡ flat_option flat_output y ++ s → Never arrows r → Never arrows s → Never lengthens r → Never lengthens s → Same x y r s
same_output None None r s e m n a b = (refl, e)
same_output None (Some y) r s e m n a b = absurd (never arrows sign.Arrow y.0 r _ m e refl)
same_output (Some x) None r s e m n a b = absurd (never arrows sign.Arrow x.0 s _ n (sym e) refl)
same_output (Some x) (Some y) r s e m n a b =
    let p = same_type x.1 y.1 r s (tails e) a b in
    let w : x ≡ y = λ i. (spans e i, p.0 i) in
    (ap Some w, p.1)

abbrev first_code : List ℕ → ℕ
first_code [] = 0
first_code (c ∷ cs) = c

same_text : {a b : List ℕ} → kind.Name a ≡ kind.Name b → a ≡ b
same_text e = cc

same_word : (x y : AttributeWord) → kind.Name (attribute_name x) ≡ kind.Name (attribute_name y) → x ≡ y
same_word attribute.Inline attribute.Inline e = refl
same_word attribute.Export attribute.Export e = refl
same_word attribute.Inline attribute.Export e = let h : ◌≡◌ {A = ℕ} 105 101 = ap first_code (same_text e) in absurd (omega arith)
same_word attribute.Export attribute.Inline e = let h : ◌≡◌ {A = ℕ} 101 105 = ap first_code (same_text e) in absurd (omega arith)

same_attributes : (xs ys : List Attribute) (at at' : Span) (r s : List Token) → flat_attributes xs ++ word_token keyword.Fn at ∷ r ≡ flat_attributes ys ++ word_token keyword.Fn at' ∷ s → (xs ≡ ys) × (at ≡ at') × (r ≡ s)
same_attributes [] [] at at' r s e = (refl, spans e, tails e)
same_attributes (x ∷ xs) (y ∷ ys) at at' r s e =
    let t = tails (tails e) in
    let v = same_word x.word y.word (same_kinds t) in
    let w : x ≡ y = λ i. record { hash = spans e i; «open» = spans (tails e) i; word = v i; span = spans t i; close = spans (tails t) i } in
    let p = same_attributes xs ys at at' r s (tails (tails t)) in
    (cc (w, p.0), p.1, p.2)
same_attributes _ _ at at' r s e = absurd (cc (same_kinds e))

-- ---- items

-- a function's tokens, with what follows it
abbrev fn_tokens : PlainFn → List Token → List Token
fn_tokens f r = flat_attributes f.attributes ++ word_token keyword.Fn f.keyword ∷ name_token f.name ∷ (flat_option (flat_angled flat_generic) f.generics ++ sign_token sign.OpenParen f.from ∷ (flat_option (flat_commas flat_field) f.params ++ sign_token sign.CloseParen f.to ∷ (flat_option flat_output f.output ++ (flat_block f.body ++ r))))

regrouped : (f : PlainFn) (r : List Token) → flat_item (fn_item f) ++ r ≡ fn_tokens f r
regrouped f r = simp append_assoc

abbrev item_word : Keyword → Bool
item_word keyword.Mod = true
item_word keyword.Struct = true
item_word keyword.Const = true
item_word keyword.Fn = true
item_word _ = false

abbrev fn_word : Keyword → Bool
fn_word keyword.Fn = true
fn_word _ = false

abbrev hashes : Sign → Bool
hashes sign.Hash = true
hashes _ = false

-- the next token is one of these words, or begins an attribute
abbrev StartKind : (Keyword → Bool) → Kind → Type 0
StartKind test (kind.Sign s) = hashes s ≡ true
StartKind test (kind.Word w) = test w ≡ true
StartKind test (kind.Name n) = ⊥
StartKind test (kind.Number n) = ⊥

abbrev Starts : (Keyword → Bool) → List Token → Type 0
Starts test [] = ⊥
Starts test (t ∷ ts) = StartKind test t.kind

starts_attributes : (test : Keyword → Bool) (xs : List Attribute) (at : Span) (r : List Token) → test keyword.Fn ≡ true → Starts test (flat_attributes xs ++ word_token keyword.Fn at ∷ r)
starts_attributes test [] at r n = n
starts_attributes test (x ∷ xs) at r n = refl

starts_fn : (test : Keyword → Bool) (f : PlainFn) (r : List Token) → test keyword.Fn ≡ true → Starts test (flat_item (fn_item f) ++ r)
starts_fn test f r n = subst (Starts test) (sym (regrouped f r)) (starts_attributes test f.attributes f.keyword _ n)

starts : (x : PlainItem) (r : List Token) → Starts item_word (flat_item x ++ r)
starts (module_item at n from is to) r = refl
starts (struct_item x) r = refl
starts (const_item c) r = refl
starts (fn_item f) r = starts_fn item_word f r refl

no_fn : (f : PlainFn) (w : Keyword) (at : Span) (r rest : List Token) → flat_item (fn_item f) ++ r ≡ word_token w at ∷ rest → fn_word w ≡ false → ⊥
no_fn f w at r rest e n = let k : fn_word w ≡ true = subst (Starts fn_word) e (starts_fn fn_word f r refl) in cc

no_close : (to : Span) (r : List Token) → Starts item_word (sign_token sign.CloseBrace to ∷ r) → ⊥
no_close to r h = let k : false ≡ true = h in cc

after_body : (test : Sign → Bool) (b : PlainBlock) (r : List Token) → test sign.OpenBrace ≡ false → Never test (flat_block b ++ r)
after_body test (block from ss to) r n = n

same_fn : (f g : PlainFn) (r s : List Token) → flat_item (fn_item f) ++ r ≡ flat_item (fn_item g) ++ s → GroupedBlock f.body → GroupedBlock g.body → Same f g r s
same_fn f g r s e j k =
    let h : fn_tokens f r ≡ fn_tokens g s = sym (regrouped f r) ∙ e ∙ regrouped g s in
    let p = same_attributes f.attributes g.attributes f.keyword g.keyword _ _ h in
    let n = same_name f.name g.name (heads p.2) in
    let q = same_angled flat_generic same_generic f.generics g.generics _ _ (tails p.2) refl refl in
    let w = same_fields sign.CloseParen refl f.params g.params f.to g.to _ _ (tails q.1) in
    let o = same_output f.output g.output _ _ w.2 (after_body arrows f.body r refl) (after_body arrows g.body s refl) (after_body lengthens f.body r refl) (after_body lengthens g.body s refl) in
    let b = same_block f.body g.body r s o.1 j k in
    (λ i. record { attributes = p.0 i; keyword = p.1 i; name = n i; generics = q.0 i; from = spans q.1 i; params = w.0 i; to = w.1 i; output = o.0 i; body = b.0 i }, b.1)

same_struct : (x y : PlainStruct) (r s : List Token) → flat_struct x ++ r ≡ flat_struct y ++ s → Same x y r s
same_struct x y r s e =
    let h = simp append_assoc at e in
    let n = same_name x.name y.name (heads (tails h)) in
    let q = same_angled flat_name same_word_name x.generics y.generics _ _ (tails (tails h)) refl refl in
    let w = same_fields sign.CloseBrace refl x.fields y.fields x.to y.to r s (tails q.1) in
    (λ i. record { keyword = spans h i; name = n i; generics = q.0 i; from = spans q.1 i; fields = w.0 i; to = w.1 i }, w.2)

same_const : (c d : Const) (r s : List Token) → flat_const c ++ r ≡ flat_const d ++ s → Same c d r s
same_const c d r s e =
    let n = same_name c.name d.name (heads (tails e)) in
    let u = tails (tails e) in
    let t = tails (tails (tails u)) in
    let h = sym (append_assoc (flat_signed c.value) (sign_token sign.Semicolon c.semicolon ∷ []) r) ∙ t ∙ append_assoc (flat_signed d.value) (sign_token sign.Semicolon d.semicolon ∷ []) s in
    let p = same_signed c.value d.value _ _ h in
    (λ i. record { keyword = spans e i; name = n i; colon = spans u i; int = spans (tails u) i; assign = spans (tails (tails u)) i; value = p.0 i; semicolon = spans p.1 i }, tails p.1)

mutual
  same_item : (x y : PlainItem) (r s : List Token) → flat_item x ++ r ≡ flat_item y ++ s → GroupedItem x → GroupedItem y → Same x y r s
  same_item (module_item at n from is to) (module_item at' m from' js to') r s e g k =
      let h = simp append_assoc at e in
      let p = same_items is js _ _ (tails (tails (tails h))) g k (no_close to r) (no_close to' s) in
      (cc (spans h, same_name n m (heads (tails h)), spans (tails (tails h)), p.0, spans p.1), tails p.1)
  same_item (struct_item x) (struct_item y) r s e g k = let p = same_struct x y r s e in (ap struct_item p.0, p.1)
  same_item (const_item c) (const_item d) r s e g k = let p = same_const c d r s e in (ap const_item p.0, p.1)
  same_item (fn_item f) (fn_item f') r s e g k = let p = same_fn f f' r s e g k in (ap fn_item p.0, p.1)
  same_item (fn_item f) (module_item at n from is to) r s e g k = absurd (no_fn f keyword.Mod at r _ e refl)
  same_item (fn_item f) (struct_item y) r s e g k = absurd (no_fn f keyword.Struct y.keyword r _ e refl)
  same_item (fn_item f) (const_item d) r s e g k = absurd (no_fn f keyword.Const d.keyword r _ e refl)
  same_item (module_item at n from is to) (fn_item f) r s e g k = absurd (no_fn f keyword.Mod at s _ (sym e) refl)
  same_item (struct_item y) (fn_item f) r s e g k = absurd (no_fn f keyword.Struct y.keyword s _ (sym e) refl)
  same_item (const_item d) (fn_item f) r s e g k = absurd (no_fn f keyword.Const d.keyword s _ (sym e) refl)
  same_item _ _ r s e g k = absurd (cc (same_kinds e))

  same_items : (xs ys : PlainItems) (r s : List Token) → flat_items xs ++ r ≡ flat_items ys ++ s → GroupedItems xs → GroupedItems ys → (Starts item_word r → ⊥) → (Starts item_word s → ⊥) → Same xs ys r s
  same_items no_items no_items r s e g k a b = (refl, e)
  same_items no_items (items y ys) r s e g k a b = absurd (a (subst (Starts item_word) (sym (e ∙ append_assoc (flat_item y) (flat_items ys) s)) (starts y _)))
  same_items (items x xs) no_items r s e g k a b = absurd (b (subst (Starts item_word) (sym (append_assoc (flat_item x) (flat_items xs) r) ∙ e) (starts x _)))
  same_items (items x xs) (items y ys) r s e g k a b =
      let h = sym (append_assoc (flat_item x) (flat_items xs) r) ∙ e ∙ append_assoc (flat_item y) (flat_items ys) s in
      let p = same_item x y _ _ h g.0 k.0 in
      let q = same_items xs ys r s p.1 g.1 k.1 a b in
      (cc (p.0, q.0), q.1)

-- grouped trees of the same tokens are the same
pub same_tree : (p q : PlainItems) → GroupedItems p → GroupedItems q → flat_items p ≡ flat_items q → p ≡ q
same_tree p q g k e = (same_items p q [] [] (ap (λ us. us ++ []) e) g k (λ h. h) (λ h. h)).0

pub one_tree : (p q : PlainItems) (ts : List Token) → Spells p ts → Spells q ts → p ≡ q
one_tree p q ts x y = same_tree p q x.0 y.0 (spelled p ts x ∙ sym (spelled q ts y))

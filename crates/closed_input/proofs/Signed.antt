-- The bytes of symbols are signs that can be seen.
use Rattle.std.proofs.Common.{◌≡◌, ℕ, zero, suc, ◌+◌, ◌<◌, ◌≤◌, ◌%◌, ◌/◌, List, [], ◌∷◌, ◌++◌, length, map, refl, sym, ap, ◌∙◌, subst as transport, arith, Bool, true, false, cond, ◌&&◌, ◌||◌, ◌⊎◌, inl, inr, Option, Some, None, option_map}
use Rattle.std.specs.Prelude.{ℤ, pos, negsuc, slice_get, nat_le, nat_eq, nat_lt, codes}
use Rattle.std.specs.Fmt.{digit_glyph, digits_onto, digits, decimal, signed_decimal}
use Rattle.std.specs.List.{AllByRecursion}
use Rattle.std.proofs.lemmas.Bool.{leb-true, eqb-true, ltb-true, ltb-false, or_cases}
use Rattle.std.proofs.lemmas.List.{length-append}
use Rattle.std.proofs.lemmas.Option.{slice_get-map}
use Rattle.type_table.specs.declared.decl.StructDecl.{StructDecl}
use Rattle.type_table.specs.TypeOf.{TypeOf, int, bool, param, number, end, more, tuple, struct}
use Rattle.type_table.specs.Rows.{type_at}
use Rattle.type_sizes.specs.Spelling.{decl_text, struct_text, comma, angled, text_of}
use Rattle.lar_typed.specs.declared.tree.TypedFunction.{TypedFunction}
use Rattle.lar_typed.specs.Paths.{is_letter, is_letter_or_digit, all_letters_or_digits, is_name, are_names, joined, IsModulePath}
use Rattle.lar_typed.specs.Trees.{PlainStruct, PlainFunction, struct_map, function_map}
use Rattle.lar_typed.specs.TreeView.{Contents, struct_view, function_view, plain, IsTypedTree}
use Rattle.lar_typed.specs.IsTyped.{IsStruct, IsFunction}
use Rattle.lar_typed.proofs.SameTypes.{and_true}
use Rattle.mono_items.specs.declared.items.Instance.{Instance}
use Rattle.mono_items.specs.Symbols.{path_or_none, symbol_of}
use Rattle.unit_input.specs.Rules.{IsSymbolByte}
use Rattle.closed_input.proofs.Fitting.{struct_is_typed, function_is_typed}
use Rattle.closed_input.proofs.Distinct.{all_append}

abbrev pub Signs : List ℕ → Type 0
Signs xs = AllByRecursion IsSymbolByte xs

both : (xs ys : List ℕ) → Signs xs → Signs ys → Signs (xs ++ ys)
both xs ys p q = all_append IsSymbolByte xs ys p q

-- ---- names
between : (a b c : ℕ) → (nat_le a c && nat_le c b) ≡ true → 33 ≤ a → b ≤ 126 → IsSymbolByte c
between a b c h l m =
    let p = and_true (nat_le a c) (nat_le c b) h in
    let x : a ≤ c = leb-true a c p.0 in
    let y : c ≤ b = leb-true c b p.1 in
    (omega arith, omega arith)

letter_sign : (c : ℕ) → is_letter c ≡ true → IsSymbolByte c
letter_sign c h = outer (or_cases ((nat_le 65 c && nat_le c 90) || (nat_le 97 c && nat_le c 122)) (nat_eq c 95) h)
  where
    inner : ((nat_le 65 c && nat_le c 90) ≡ true) ⊎ ((nat_le 97 c && nat_le c 122) ≡ true) → IsSymbolByte c
    inner (inl p) = between 65 90 c p (omega arith) (omega arith)
    inner (inr p) = between 97 122 c p (omega arith) (omega arith)

    outer : (((nat_le 65 c && nat_le c 90) || (nat_le 97 c && nat_le c 122)) ≡ true) ⊎ (nat_eq c 95 ≡ true) → IsSymbolByte c
    outer (inl p) = inner (or_cases (nat_le 65 c && nat_le c 90) (nat_le 97 c && nat_le c 122) p)
    outer (inr p) = let e : c ≡ 95 = eqb-true c 95 p in (omega arith, omega arith)

digit_sign : (c : ℕ) → is_letter_or_digit c ≡ true → IsSymbolByte c
digit_sign c h = by (or_cases (is_letter c) (nat_le 48 c && nat_le c 57) h)
  where
    by : (is_letter c ≡ true) ⊎ ((nat_le 48 c && nat_le c 57) ≡ true) → IsSymbolByte c
    by (inl p) = letter_sign c p
    by (inr p) = between 48 57 c p (omega arith) (omega arith)

rest_signs : (cs : List ℕ) → all_letters_or_digits cs ≡ true → Signs cs
rest_signs [] h = tt
rest_signs (c ∷ cs) h = let p = and_true (is_letter_or_digit c) (all_letters_or_digits cs) h in (digit_sign c p.0, rest_signs cs p.1)

name_signs : (n : List ℕ) → is_name n ≡ true → Signs n
name_signs [] h = cc
name_signs (c ∷ cs) h =
    let p = and_true (is_letter c) (all_letters_or_digits cs && nat_le (length cs) 63) h in
    (letter_sign c p.0, rest_signs cs (and_true (all_letters_or_digits cs) (nat_le (length cs) 63) p.1).0)

joined_signs : (n : List ℕ) (ms : List (List ℕ)) → are_names (n ∷ ms) ≡ true → Signs (joined n ms)
joined_signs n [] h = name_signs n (and_true (is_name n) true h).0
joined_signs n (m ∷ ms) h =
    let p = and_true (is_name n) (are_names (m ∷ ms)) h in
    both n (58 ∷ 58 ∷ joined m ms) (name_signs n p.0) ((omega arith, omega arith), ((omega arith, omega arith), joined_signs m ms p.1))

module_signs : (path : List ℕ) → IsModulePath path → Signs path
module_signs path p = transport Signs (sym p.is) (joined_signs p.first p.others p.names)

colons : Signs (codes "::")
colons = ((omega arith, omega arith), ((omega arith, omega arith), tt))

-- ---- numbers
glyph_sign : (n : ℕ) → IsSymbolByte (digit_glyph false (n % 10))
glyph_sign n = by (nat_lt (n % 10) 10) refl
  where
    by : (b : Bool) → nat_lt (n % 10) 10 ≡ b → IsSymbolByte (cond b (48 + n % 10) (87 + n % 10))
    by true e = let l : n % 10 < 10 = ltb-true (n % 10) 10 e in (omega arith, omega arith)
    by false e = absurd (omega (arith, ltb-false (n % 10) 10 e))

digits_signs : (k n : ℕ) (acc : List ℕ) → Signs acc → Signs (digits_onto k 10 false n acc)
digits_signs zero n acc h = h
digits_signs (suc k) n acc h = by (nat_eq (n / 10) 0) (digits_signs k (n / 10) (digit_glyph false (n % 10) ∷ acc) (glyph_sign n, h))
  where
    by : (b : Bool) → Signs (digits_onto k 10 false (n / 10) (digit_glyph false (n % 10) ∷ acc)) → Signs (cond b (digit_glyph false (n % 10) ∷ acc) (digits_onto k 10 false (n / 10) (digit_glyph false (n % 10) ∷ acc)))
    by true r = (glyph_sign n, h)
    by false r = r

decimal_signs : (n : ℕ) → Signs (decimal n)
unfolding digits
decimal_signs n = digits_signs 64 n [] tt

number_signs : (v : ℤ) → Signs (signed_decimal v)
number_signs (pos n) = decimal_signs n
number_signs (negsuc n) = ((omega arith, omega arith), decimal_signs (suc n))

-- ---- types
decl_signs : (tree : Contents) (n : ℕ) (o : Option StructDecl) → IsTypedTree tree → slice_get tree.structs n ≡ o → Signs (decl_text o)
decl_signs tree n None typed e = tt
decl_signs tree n (Some s) typed e =
    let d : PlainStruct = struct_map (type_at tree.rows) (struct_view s) in
    let there : slice_get (plain tree).structs n ≡ Some d = slice_get-map (struct_map (type_at tree.rows)) (map struct_view tree.structs) n ∙ ap (option_map (struct_map (type_at tree.rows))) (slice_get-map struct_view tree.structs n ∙ ap (option_map struct_view) e) in
    let is : IsStruct (plain tree) d = struct_is_typed (plain tree) n d typed.typed there in
    both (s.module ++ codes "::") s.name (both s.module (codes "::") (module_signs s.module is.path) colons) (name_signs s.name is.named)

comma_signs : (ts : TypeOf) → Signs (comma ts)
comma_signs end = tt
comma_signs int = ((omega arith, omega arith), tt)
comma_signs bool = ((omega arith, omega arith), tt)
comma_signs (param k) = ((omega arith, omega arith), tt)
comma_signs (number v) = ((omega arith, omega arith), tt)
comma_signs (more t ts) = ((omega arith, omega arith), tt)
comma_signs (tuple ts) = ((omega arith, omega arith), tt)
comma_signs (struct n ts) = ((omega arith, omega arith), tt)

around : (a b : ℕ) (text : List ℕ) → IsSymbolByte a → IsSymbolByte b → Signs text → Signs (a ∷ (text ++ b ∷ []))
around a b text p q h = (p, both text (b ∷ []) h (q, tt))

angled_signs : (ts : TypeOf) (text : List ℕ) → Signs text → Signs (angled ts text)
angled_signs end text h = tt
angled_signs int text h = around 60 62 text (omega arith, omega arith) (omega arith, omega arith) h
angled_signs bool text h = around 60 62 text (omega arith, omega arith) (omega arith, omega arith) h
angled_signs (param k) text h = around 60 62 text (omega arith, omega arith) (omega arith, omega arith) h
angled_signs (number v) text h = around 60 62 text (omega arith, omega arith) (omega arith, omega arith) h
angled_signs (more t ts) text h = around 60 62 text (omega arith, omega arith) (omega arith, omega arith) h
angled_signs (tuple ts) text h = around 60 62 text (omega arith, omega arith) (omega arith, omega arith) h
angled_signs (struct n ts) text h = around 60 62 text (omega arith, omega arith) (omega arith, omega arith) h

type_signs : (tree : Contents) (t : TypeOf) → IsTypedTree tree → Signs (text_of tree.structs [] t)
type_signs tree int typed = ((omega arith, omega arith), ((omega arith, omega arith), ((omega arith, omega arith), tt)))
type_signs tree bool typed = ((omega arith, omega arith), ((omega arith, omega arith), ((omega arith, omega arith), ((omega arith, omega arith), tt))))
type_signs tree (param k) typed = tt
type_signs tree (number v) typed = number_signs v
type_signs tree end typed = tt
type_signs tree (more t ts) typed = both (text_of tree.structs [] t ++ comma ts) (text_of tree.structs [] ts) (both (text_of tree.structs [] t) (comma ts) (type_signs tree t typed) (comma_signs ts)) (type_signs tree ts typed)
type_signs tree (tuple ts) typed = around 40 41 (text_of tree.structs [] ts) (omega arith, omega arith) (omega arith, omega arith) (type_signs tree ts typed)
type_signs tree (struct n ts) typed = both (struct_text tree.structs n) (angled ts (text_of tree.structs [] ts)) (decl_signs tree n (slice_get tree.structs n) typed refl) (angled_signs ts (text_of tree.structs [] ts) (type_signs tree ts typed))

-- ---- symbols
path_signs : (tree : Contents) (k : ℕ) (o : Option TypedFunction) → IsTypedTree tree → slice_get tree.functions k ≡ o → Signs (path_or_none o)
path_signs tree k None typed e = tt
path_signs tree k (Some f) typed e =
    let p : PlainFunction = function_map (type_at tree.rows) (function_view f) in
    let there : slice_get (plain tree).functions k ≡ Some p = slice_get-map (function_map (type_at tree.rows)) (map function_view tree.functions) k ∙ ap (option_map (function_map (type_at tree.rows))) (slice_get-map function_view tree.functions k ∙ ap (option_map function_view) e) in
    let is : IsFunction (plain tree) p = function_is_typed (plain tree) k p typed.typed there in
    both (f.module ++ codes "::") f.name (both f.module (codes "::") (module_signs f.module is.path) colons) (name_signs f.name is.named)

pub symbol_signs : (tree : Contents) (x : Instance) → IsTypedTree tree → Signs (symbol_of tree x)
unfolding symbol_of
symbol_signs tree x typed =
    both (path_or_none (slice_get tree.functions x.function)) (angled (type_at tree.rows x.arguments) (text_of tree.structs [] (type_at tree.rows x.arguments)))
    (path_signs tree x.function (slice_get tree.functions x.function) typed refl)
    (angled_signs (type_at tree.rows x.arguments) (text_of tree.structs [] (type_at tree.rows x.arguments)) (type_signs tree (type_at tree.rows x.arguments) typed))

path_some : (o : Option TypedFunction) (f : TypedFunction) → o ≡ Some f → 0 < length (path_or_none o)
path_some None f e = cc
path_some (Some g) f e =
    let a : length (g.module ++ codes "::" ++ g.name) ≡ length (g.module ++ codes "::") + length g.name = length-append (g.module ++ codes "::") g.name in
    let b : length (g.module ++ codes "::") ≡ length g.module + length (codes "::") = length-append g.module (codes "::") in
    let c : length (codes "::") ≡ 2 = refl in
    omega arith

-- a function that is there has a symbol of a byte at least
pub symbol_some : (tree : Contents) (x : Instance) (f : TypedFunction) → slice_get tree.functions x.function ≡ Some f → 0 < length (symbol_of tree x)
unfolding symbol_of
symbol_some tree x f e =
    let a : 0 < length (path_or_none (slice_get tree.functions x.function)) = path_some (slice_get tree.functions x.function) f e in
    let b : length (path_or_none (slice_get tree.functions x.function) ++ angled (type_at tree.rows x.arguments) (text_of tree.structs [] (type_at tree.rows x.arguments))) ≡ length (path_or_none (slice_get tree.functions x.function)) + length (angled (type_at tree.rows x.arguments) (text_of tree.structs [] (type_at tree.rows x.arguments))) = length-append (path_or_none (slice_get tree.functions x.function)) (angled (type_at tree.rows x.arguments) (text_of tree.structs [] (type_at tree.rows x.arguments))) in
    omega arith

-- The two laws of objects: what is read is spelled so, and what is spelled so is read.
use Rattle.std.proofs.Common.{◌≡◌, ℕ, zero, suc, ◌+◌, ◌^◌, ◌<◌, ◌≤◌, false, List, [], ◌∷◌, ◌++◌, length, Result, Ok, Err, refl, sym, ap, subst, ◌∙◌, append_assoc, arith}
use Rattle.std.specs.Prelude.{IfOk}
use Rattle.std.specs.List.{flat_map, AllByRecursion, IsDistinct}
use Rattle.std.specs.Int.{w32, to_be_bytes}
use Rattle.std.specs.Str.{bytes_eq}
use Rattle.std.proofs.lemmas.List.{append-nil, length-append, map-append}
use Rattle.lar_bytes.specs.Answers.{Answers}
use Rattle.lar_bytes.specs.declared.memory.OrMemory.{OrMemory}
use Rattle.object_format.specs.declared.fault.BadFile.{BadFile}
use Rattle.object_format.specs.Image.{opening}
use Rattle.object_format.specs.declared.version.Version.{Version}
use Rattle.object_format.specs.declared.version.Version.TheVariants.{One, Two}
use Rattle.object_format.specs.Object.{UnlinkedFn, Unlinked, IsSymbol, IsUnlinkedFn, IsUnlinked, IsObject, ObjectFitsVersion, SpellsObjectAs, SpellsObject, LiftsTo, symbols_of, callees_of, callee_count, symbol_spelling, unlinked_spelling, functions_spelling, symbols_spelling, object_magic, object_spelling_in}
use Rattle.object_format.specs.Reading.{Rest, ◌>>=◌, unless, number_at, opening_at, end_at, items_at}
use Rattle.object_format.specs.ObjectReading.{is_among, nothing, with_function, with_external, unlinked_behind, external_behind, functions_part_at, externals_part_at, parts_at, call_fault_in, object_up_to, object_at, lifted_at}
use Rattle.object_format.proofs.CallFaults.{linked-call_fault_in, call_fault_in-linked}
use Rattle.object_format.proofs.Distinct.{distinct-more, distinct-none, distinct-front, is_new}
use Rattle.object_format.proofs.Fields.{IsBytes, bind_ok, ok_is, Takes, Takes-then, wide32, number_takes, number_again, IsUpTo, opening_takes, opening_again, end_is}
use Rattle.object_format.proofs.Images.{unless_ok}
use Rattle.object_format.proofs.ObjectFields.{function_takes_more, function_again_more, external_takes_more, external_again_more}

-- ---- the symbols of an object with one more

symbols-more : (fs : List UnlinkedFn) (f : UnlinkedFn) (others : List (List ℕ)) → symbols_of (fs ++ f ∷ []) ++ others ≡ symbols_of fs ++ f.symbol ∷ others
symbols-more fs f others = ap (λ (ss : List (List ℕ)). ss ++ others) (map-append _ fs (f ∷ [])) ∙ append_assoc (symbols_of fs) (f.symbol ∷ []) others

callees-more : (o : Unlinked) (s : List ℕ) → callees_of (with_external o s) ≡ callees_of o ++ s ∷ []
callees-more o s = sym (append_assoc (symbols_of o.functions) o.externals (s ∷ []))

function_distinct : (o : Unlinked) (f : UnlinkedFn) → IsDistinct bytes_eq (callees_of o) → is_among (callees_of o) f.symbol ≡ false → IsDistinct bytes_eq (callees_of (with_function o f))
function_distinct o f d new = subst (IsDistinct bytes_eq) (sym (symbols-more o.functions f o.externals)) (distinct-more (symbols_of o.functions) o.externals f.symbol d new)

external_distinct : (o : Unlinked) (s : List ℕ) → IsDistinct bytes_eq (callees_of o) → is_among (callees_of o) s ≡ false → IsDistinct bytes_eq (callees_of (with_external o s))
external_distinct o s d new =
    let all = sym (append-nil (callees_of o)) in
    let more = distinct-more (callees_of o) [] s (subst (IsDistinct bytes_eq) all d) (ap (λ (ss : List (List ℕ)). is_among ss s) (sym all) ∙ new) in
    subst (IsDistinct bytes_eq) (sym (callees-more o s)) more

-- ---- functions one after the other

record TakesFunctions (version : Version) (n : ℕ) (o : Unlinked) (r : Rest) (x : Unlinked × Rest) : Type 0 where
  pub functions : List UnlinkedFn
  pub all : x.0 ≡ record { functions = o.functions ++ functions; externals = o.externals }
  pub takes : Takes r (flat_map (unlinked_spelling version) functions) x.1
  pub many : length functions ≡ n
  pub own : AllByRecursion IsUnlinkedFn functions
  pub short : ObjectFitsVersion version functions
  pub distinct : IsDistinct bytes_eq (callees_of x.0)

functions_take : (version : Version) (n : ℕ) (o : Unlinked) (r : Rest) (x : Unlinked × Rest) → IsBytes r.bytes → IsDistinct bytes_eq (callees_of o) → items_at (unlinked_behind version) n o r ≡ Ok x → TakesFunctions version n o r x
unfolding items_at
functions_take version zero o r x fits d e =
    subst (TakesFunctions version 0 o r) (ok_is (o, r) x e) (record {
      functions = [];
      all = ap (λ (fs : List UnlinkedFn). record { functions = fs; externals = o.externals }) (sym (append-nil o.functions));
      takes = record { parts = refl; fits = fits };
      many = refl;
      own = tt;
      short = tt;
      distinct = d;
    })
functions_take version (suc n) o r x fits d e =
    let a = bind_ok (unlinked_behind version o r) (λ next. items_at (unlinked_behind version) n next.0 next.1) x e in
    let first = function_takes_more version o r a.0 fits a.1 in
    let f = first.function in
    let rest : items_at (unlinked_behind version) n (with_function o f) a.0.1 ≡ Ok x = sym (ap (λ (p : Unlinked). items_at (unlinked_behind version) n p a.0.1) first.more) ∙ a.2 in
    let others = functions_take version n (with_function o f) a.0.1 x first.takes.fits (function_distinct o f d first.new) rest in
    record {
      functions = f ∷ others.functions;
      all = others.all ∙ ap (λ (fs : List UnlinkedFn). record { functions = fs; externals = o.externals }) (append_assoc o.functions (f ∷ []) others.functions);
      takes = Takes-then r (unlinked_spelling version f) a.0.1 (flat_map (unlinked_spelling version) others.functions) x.1 first.takes others.takes;
      many = ap suc others.many;
      own = (first.own, others.own);
      short = (first.short, others.short);
      distinct = others.distinct;
    }

-- ---- externals one after the other

record TakesExternals (n : ℕ) (o : Unlinked) (r : Rest) (x : Unlinked × Rest) : Type 0 where
  pub externals : List (List ℕ)
  pub all : x.0 ≡ record { functions = o.functions; externals = o.externals ++ externals }
  pub takes : Takes r (flat_map symbol_spelling externals) x.1
  pub many : length externals ≡ n
  pub own : AllByRecursion IsSymbol externals
  pub distinct : IsDistinct bytes_eq (callees_of x.0)

externals_take : (n : ℕ) (o : Unlinked) (r : Rest) (x : Unlinked × Rest) → IsBytes r.bytes → IsDistinct bytes_eq (callees_of o) → items_at external_behind n o r ≡ Ok x → TakesExternals n o r x
unfolding items_at
externals_take zero o r x fits d e =
    subst (TakesExternals 0 o r) (ok_is (o, r) x e) (record {
      externals = [];
      all = ap (λ (es : List (List ℕ)). record { functions = o.functions; externals = es }) (sym (append-nil o.externals));
      takes = record { parts = refl; fits = fits };
      many = refl;
      own = tt;
      distinct = d;
    })
externals_take (suc n) o r x fits d e =
    let a = bind_ok (external_behind o r) (λ next. items_at external_behind n next.0 next.1) x e in
    let first = external_takes_more o r a.0 fits a.1 in
    let s = first.symbol in
    let rest : items_at external_behind n (with_external o s) a.0.1 ≡ Ok x = sym (ap (λ (p : Unlinked). items_at external_behind n p a.0.1) first.more) ∙ a.2 in
    let others = externals_take n (with_external o s) a.0.1 x first.takes.fits (external_distinct o s d first.new) rest in
    record {
      externals = s ∷ others.externals;
      all = others.all ∙ ap (λ (es : List (List ℕ)). record { functions = o.functions; externals = es }) (append_assoc o.externals (s ∷ []) others.externals);
      takes = Takes-then r (symbol_spelling s) a.0.1 (flat_map symbol_spelling others.externals) x.1 first.takes others.takes;
      many = ap suc others.many;
      own = (first.own, others.own);
      distinct = others.distinct;
    }

-- ---- both parts

record IsFunctionsPart (version : Version) (r : Rest) (o : Unlinked) (s : Rest) : Type 0 where
  pub takes : Takes r (functions_spelling version o.functions) s
  pub count : length o.functions < 2 ^ 32
  pub own : AllByRecursion IsUnlinkedFn o.functions
  pub short : ObjectFitsVersion version o.functions
  pub none : o.externals ≡ []

functions_part_take : (version : Version) (r : Rest) (x : Unlinked × Rest) → IsBytes r.bytes → functions_part_at version r ≡ Ok x → IsFunctionsPart version r x.0 x.1 × IsDistinct bytes_eq (callees_of x.0)
unfolding functions_part_at
functions_part_take version r x fits e =
    let a = bind_ok (number_at w32 r) (λ count. items_at (unlinked_behind version) count.0 nothing count.1) x e in
    let t = number_takes w32 (2 ^ 32) wide32 r a.0.0 a.0.1 fits a.1 in
    let fs = functions_take version a.0.0 nothing a.0.1 x t.0.fits distinct-none a.2 in
    let both = Takes-then r (to_be_bytes w32 a.0.0) a.0.1 (flat_map (unlinked_spelling version) fs.functions) x.1 t.0 fs.takes in
    let spelled : Takes r (functions_spelling version fs.functions) x.1 = subst (λ (k : ℕ). Takes r (to_be_bytes w32 k ++ flat_map (unlinked_spelling version) fs.functions) x.1) (sym fs.many) both in
    let count : length fs.functions < 2 ^ 32 = omega (arith, t.1, fs.many) in
    (subst (λ (o : Unlinked). IsFunctionsPart version r o x.1) (sym fs.all) (record { takes = spelled; count = count; own = fs.own; short = fs.short; none = refl }), fs.distinct)

record IsExternalsPart (before : Unlinked) (r : Rest) (o : Unlinked) (s : Rest) : Type 0 where
  pub takes : Takes r (symbols_spelling o.externals) s
  pub count : length o.externals < 2 ^ 32
  pub own : AllByRecursion IsSymbol o.externals
  pub same : o.functions ≡ before.functions

externals_part_take : (o : Unlinked) (r : Rest) (x : Unlinked × Rest) → IsBytes r.bytes → o.externals ≡ [] → IsDistinct bytes_eq (callees_of o) → externals_part_at o r ≡ Ok x
    → IsExternalsPart o r x.0 x.1 × IsDistinct bytes_eq (callees_of x.0)
unfolding externals_part_at
externals_part_take o r x fits none d e =
    let a = bind_ok (number_at w32 r) (λ count. items_at external_behind count.0 o count.1) x e in
    let t = number_takes w32 (2 ^ 32) wide32 r a.0.0 a.0.1 fits a.1 in
    let es = externals_take a.0.0 o a.0.1 x t.0.fits d a.2 in
    let both = Takes-then r (to_be_bytes w32 a.0.0) a.0.1 (flat_map symbol_spelling es.externals) x.1 t.0 es.takes in
    let spelled : Takes r (symbols_spelling es.externals) x.1 = subst (λ (k : ℕ). Takes r (to_be_bytes w32 k ++ flat_map symbol_spelling es.externals) x.1) (sym es.many) both in
    let count : length es.externals < 2 ^ 32 = omega (arith, t.1, es.many) in
    let all : x.0 ≡ record { functions = o.functions; externals = es.externals } = es.all ∙ ap (λ (front : List (List ℕ)). record { functions = o.functions; externals = front ++ es.externals }) none in
    (subst (λ (p : Unlinked). IsExternalsPart o r p x.1) (sym all) (record { takes = spelled; count = count; own = es.own; same = refl }), es.distinct)

-- what the parts of an object are, without the rule of calls
pub record AreParts (version : Version) (r : Rest) (o : Unlinked) (s : Rest) : Type 0 where
  pub takes : Takes r (object_spelling_in version o) s
  pub functions : length o.functions < 2 ^ 32
  pub externals : length o.externals < 2 ^ 32
  pub symbols : AllByRecursion IsSymbol o.externals
  pub each : AllByRecursion IsUnlinkedFn o.functions
  pub short : ObjectFitsVersion version o.functions
  pub distinct : IsDistinct bytes_eq (callees_of o)

pub parts_take : (newest : Version) (r : Rest) (x : Version × Unlinked × Rest) → IsBytes r.bytes → parts_at newest r ≡ Ok x → AreParts x.0 r x.1 x.2 × IsUpTo newest x.0
unfolding parts_at
parts_take newest r x fits e =
    let a = bind_ok (opening_at newest object_magic r) (λ body. functions_part_at body.0 body.1 >>= λ functions. externals_part_at functions.0 functions.1 >>= λ externals. Ok (body.0, externals.0, externals.1)) x e in
    let version = a.0.0 in
    let b = bind_ok (functions_part_at version a.0.1) (λ functions. externals_part_at functions.0 functions.1 >>= λ externals. Ok (version, externals.0, externals.1)) x a.2 in
    let c = bind_ok (externals_part_at b.0.0 b.0.1) (λ externals. Ok (version, externals.0, externals.1)) x b.2 in
    let t = opening_takes newest object_magic r a.0 fits a.1 in
    let fs = functions_part_take version a.0.1 b.0 t.0.fits b.1 in
    let es = externals_part_take b.0.0 b.0.1 c.0 fs.0.takes.fits fs.0.none fs.1 c.1 in
    let front = opening object_magic version in
    let first = Takes-then r front a.0.1 (functions_spelling version b.0.0.functions) b.0.1 t.0 fs.0.takes in
    let both = Takes-then r (front ++ functions_spelling version b.0.0.functions) b.0.1 (symbols_spelling c.0.0.externals) c.0.1 first es.0.takes in
    let same = sym es.0.same in
    let parts : AreParts version r c.0.0 c.0.1 = record {
      takes = subst (λ (fs : List UnlinkedFn). Takes r (front ++ functions_spelling version fs ++ symbols_spelling c.0.0.externals) c.0.1) same both;
      functions = subst (λ (fs : List UnlinkedFn). length fs < 2 ^ 32) same fs.0.count;
      externals = es.0.count;
      symbols = es.0.own;
      each = subst (AllByRecursion IsUnlinkedFn) same fs.0.own;
      short = subst (ObjectFitsVersion version) same fs.0.short;
      distinct = es.1;
    } in
    subst (λ (y : Version × Unlinked × Rest). AreParts y.0 r y.1 y.2 × IsUpTo newest y.0) (ok_is (version, c.0.0, c.0.1) x c.2) (parts, t.1)

-- an object's functions lie in the file
pub parts_length : (version : Version) (r : Rest) (o : Unlinked) (s : Rest) → AreParts version r o s → 10 + length (flat_map (unlinked_spelling version) o.functions) ≤ length r.bytes
parts_length version r o s h =
    let front = opening object_magic version ++ functions_spelling version o.functions in
    omega (arith, ap length h.takes.parts, length-append (object_spelling_in version o) s.bytes, length-append front (symbols_spelling o.externals), length-append (opening object_magic version) (functions_spelling version o.functions), length-append (to_be_bytes w32 (length o.functions)) (flat_map (unlinked_spelling version) o.functions))

-- ---- the object

abbrev functions_begin : ℕ
functions_begin = 10

pub object_takes : (newest : Version) (bytes : List ℕ) (o : Unlinked) → IsBytes bytes → object_up_to newest bytes ≡ Ok o → (version : Version) × SpellsObjectAs version bytes o × IsUpTo newest version
unfolding object_up_to
object_takes newest bytes o fits e =
    let start : Rest = record { at = 0; bytes = bytes } in
    let a = bind_ok (parts_at newest start) (λ parts. end_at parts.2 >>= λ end. unless (call_fault_in parts.0 (callee_count parts.1) functions_begin parts.1.functions) parts.1) o e in
    let version = a.0.0 in
    let b = bind_ok (end_at a.0.2) (λ end. unless (call_fault_in version (callee_count a.0.1) functions_begin a.0.1.functions) a.0.1) o a.2 in
    let g = unless_ok (call_fault_in version (callee_count a.0.1) functions_begin a.0.1.functions) a.0.1 o b.2 in
    let both = parts_take newest start a.0 fits a.1 in
    let parts = both.0 in
    let calls = linked-call_fault_in version (callee_count a.0.1) functions_begin a.0.1.functions g.0 in
    let spelled : bytes ≡ object_spelling_in version a.0.1 = parts.takes.parts ∙ ap (λ (t : List ℕ). object_spelling_in version a.0.1 ++ t) (end_is a.0.2 b.0 b.1) ∙ append-nil (object_spelling_in version a.0.1) in
    let unlinked : IsUnlinked a.0.1 = record { functions = parts.functions; externals = parts.externals; symbols = parts.symbols; distinct = parts.distinct; calls = calls } in
    let spells : SpellsObjectAs version bytes a.0.1 = record { object = record { unlinked = unlinked; each = parts.each }; fits = parts.short; spelled = spelled } in
    (version, subst (SpellsObjectAs version bytes) g.1 spells, both.1)

-- ---- the way back

functions_again : (version : Version) (front fs : List UnlinkedFn) (at : ℕ) (behind : List ℕ) → AllByRecursion IsUnlinkedFn fs → ObjectFitsVersion version fs → IsDistinct bytes_eq (symbols_of front ++ symbols_of fs)
    → (to : ℕ) × (items_at (unlinked_behind version) (length fs) (record { functions = front; externals = [] }) (record { at = at; bytes = flat_map (unlinked_spelling version) fs ++ behind }) ≡ Ok (record { functions = front ++ fs; externals = [] }, record { at = to; bytes = behind }))
unfolding items_at
functions_again version front [] at behind own short d = (at, ap (λ (fs : List UnlinkedFn). Ok (record { functions = fs; externals = [] }, record { at = at; bytes = behind })) (sym (append-nil front)))
functions_again version front (f ∷ fs) at behind own short d =
    let o : Unlinked = record { functions = front; externals = [] } in
    let more = flat_map (unlinked_spelling version) fs ++ behind in
    let new = ap (λ (ss : List (List ℕ)). is_among ss f.symbol) (append-nil (symbols_of front)) ∙ is_new (symbols_of front) (symbols_of fs) f.symbol d in
    let first = function_again_more version o f at more own.0 short.0 new in
    let others = functions_again version (front ++ f ∷ []) fs first.0 behind own.1 short.1 (subst (IsDistinct bytes_eq) (sym (symbols-more front f (symbols_of fs))) d) in
    let regrouped : flat_map (unlinked_spelling version) (f ∷ fs) ++ behind ≡ unlinked_spelling version f ++ more = append_assoc (unlinked_spelling version f) (flat_map (unlinked_spelling version) fs) behind in (
      others.0,
      ap (λ (x : List ℕ). items_at (unlinked_behind version) (suc (length fs)) o (record { at = at; bytes = x })) regrouped
          ∙ rw first.1 others.1 ∙ ap (λ (gs : List UnlinkedFn). Ok (record { functions = gs; externals = [] }, record { at = others.0; bytes = behind })) (append_assoc front (f ∷ []) fs),
    )

externals_again : (o : Unlinked) (es : List (List ℕ)) (at : ℕ) (behind : List ℕ) → AllByRecursion IsSymbol es → IsDistinct bytes_eq (callees_of o ++ es)
    → (to : ℕ) × (items_at external_behind (length es) o (record { at = at; bytes = flat_map symbol_spelling es ++ behind }) ≡ Ok (record { functions = o.functions; externals = o.externals ++ es }, record { at = to; bytes = behind }))
unfolding items_at
externals_again o [] at behind own d = (at, ap (λ (es : List (List ℕ)). Ok (record { functions = o.functions; externals = es }, record { at = at; bytes = behind })) (sym (append-nil o.externals)))
externals_again o (s ∷ ss) at behind own d =
    let more = flat_map symbol_spelling ss ++ behind in
    let new = is_new (callees_of o) ss s d in
    let first = external_again_more o s at more own.0 new in
    let regrouped_symbols : callees_of o ++ s ∷ ss ≡ callees_of (with_external o s) ++ ss = sym (append_assoc (callees_of o) (s ∷ []) ss) ∙ ap (λ (front : List (List ℕ)). front ++ ss) (sym (callees-more o s)) in
    let others = externals_again (with_external o s) ss (at + 4 + length s) behind own.1 (subst (IsDistinct bytes_eq) regrouped_symbols d) in
    let regrouped : flat_map symbol_spelling (s ∷ ss) ++ behind ≡ symbol_spelling s ++ more = append_assoc (symbol_spelling s) (flat_map symbol_spelling ss) behind in (
      others.0,
      ap (λ (x : List ℕ). items_at external_behind (suc (length ss)) o (record { at = at; bytes = x })) regrouped
          ∙ rw first others.1 ∙ ap (λ (es : List (List ℕ)). Ok (record { functions = o.functions; externals = es }, record { at = others.0; bytes = behind })) (append_assoc o.externals (s ∷ []) ss),
    )

functions_part_again : (version : Version) (fs : List UnlinkedFn) (at : ℕ) (behind : List ℕ) → length fs < 2 ^ 32 → AllByRecursion IsUnlinkedFn fs → ObjectFitsVersion version fs → IsDistinct bytes_eq (symbols_of fs)
    → (to : ℕ) × (functions_part_at version (record { at = at; bytes = functions_spelling version fs ++ behind }) ≡ Ok (record { functions = fs; externals = [] }, record { at = to; bytes = behind }))
unfolding functions_part_at
functions_part_again version fs at behind count own short d =
    let rest = functions_again version [] fs (at + 4) behind own short d in
    let regrouped : functions_spelling version fs ++ behind ≡ to_be_bytes w32 (length fs) ++ (flat_map (unlinked_spelling version) fs ++ behind) = append_assoc (to_be_bytes w32 (length fs)) (flat_map (unlinked_spelling version) fs) behind in (
      rest.0,
      ap (λ (x : List ℕ). functions_part_at version (record { at = at; bytes = x })) regrouped
          ∙ rw (number_again w32 (2 ^ 32) wide32 (length fs) at (flat_map (unlinked_spelling version) fs ++ behind) count) rest.1,
    )

externals_part_again : (fs : List UnlinkedFn) (es : List (List ℕ)) (at : ℕ) → length es < 2 ^ 32 → AllByRecursion IsSymbol es → IsDistinct bytes_eq (symbols_of fs ++ es)
    → (to : ℕ) × (externals_part_at (record { functions = fs; externals = [] }) (record { at = at; bytes = symbols_spelling es }) ≡ Ok (record { functions = fs; externals = es }, record { at = to; bytes = [] }))
unfolding externals_part_at
externals_part_again fs es at count own d =
    let body = flat_map symbol_spelling es in
    let apart : symbols_of fs ++ es ≡ (symbols_of fs ++ []) ++ es = ap (λ (front : List (List ℕ)). front ++ es) (sym (append-nil (symbols_of fs))) in
    let rest = externals_again (record { functions = fs; externals = [] }) es (at + 4) [] own (subst (IsDistinct bytes_eq) apart d) in
    let regrouped : symbols_spelling es ≡ to_be_bytes w32 (length es) ++ (body ++ []) = ap (λ (x : List ℕ). to_be_bytes w32 (length es) ++ x) (sym (append-nil body)) in (
      rest.0,
      ap (λ (x : List ℕ). externals_part_at (record { functions = fs; externals = [] }) (record { at = at; bytes = x })) regrouped
          ∙ rw (number_again w32 (2 ^ 32) wide32 (length es) at (body ++ []) count) rest.1,
    )

parts_again : (newest version : Version) (o : Unlinked) → IsObject o → ObjectFitsVersion version o.functions → IsUpTo newest version
    → (to : ℕ) × (parts_at newest (record { at = 0; bytes = object_spelling_in version o }) ≡ Ok (version, o, record { at = to; bytes = [] }))
unfolding parts_at
parts_again newest version o h short up_to =
    let externals = symbols_spelling o.externals in
    let body = functions_spelling version o.functions ++ externals in
    let fs = functions_part_again version o.functions 6 externals h.unlinked.functions h.each short (distinct-front (symbols_of o.functions) o.externals h.unlinked.distinct) in
    let es = externals_part_again o.functions o.externals fs.0 h.unlinked.externals h.unlinked.symbols h.unlinked.distinct in
    let regrouped = append_assoc (opening object_magic version) (functions_spelling version o.functions) externals in
    (es.0, ap (λ (x : List ℕ). parts_at newest (record { at = 0; bytes = x })) regrouped ∙ rw (opening_again newest version object_magic body up_to, fs.1, es.1) refl)

pub object_again : (newest version : Version) (bytes : List ℕ) (o : Unlinked) → SpellsObjectAs version bytes o → IsUpTo newest version → object_up_to newest bytes ≡ Ok o
unfolding object_up_to
object_again newest version bytes o h up_to =
    let parts = parts_again newest version o h.object h.fits up_to in
    ap (object_up_to newest) h.spelled ∙ rw (parts.1, call_fault_in-linked version (callee_count o) functions_begin o.functions h.object.unlinked.calls) refl

pub is_found : (bytes : List ℕ) (r : Result Unlinked (OrMemory BadFile)) → IsBytes bytes → Answers (λ x. x) r (object_at bytes) → IfOk r (SpellsObject bytes)
is_found bytes (Ok o) fits given = let h = object_takes Two bytes o fits given in record { version = h.0; spells = h.1 }
is_found bytes (Err e) fits given = tt

-- ---- lifting

lifted_from : (bytes lifted : List ℕ) (r : Result Unlinked BadFile) → IsBytes bytes → object_up_to One bytes ≡ r → (r >>= λ object. Ok (object_spelling_in Two object)) ≡ Ok lifted → LiftsTo bytes lifted
lifted_from bytes lifted (Ok o) fits read e =
    let h = object_takes One bytes o fits read in
    record { object = o; before = subst (λ (v : Version). SpellsObjectAs v bytes o) h.2 h.1; after = sym (ok_is (object_spelling_in Two o) lifted e) }
lifted_from bytes lifted (Err f) fits read e = absurd cc

pub is_lifted : (bytes : List ℕ) (r : Result (List ℕ) (OrMemory BadFile)) → IsBytes bytes → Answers (λ x. x) r (lifted_at bytes) → IfOk r (LiftsTo bytes)
is_lifted bytes (Ok lifted) fits given = lifted_from bytes lifted (object_up_to One bytes) fits refl given
is_lifted bytes (Err e) fits given = tt

pub lifted_again : (bytes : List ℕ) (o : Unlinked) → SpellsObjectAs One bytes o → lifted_at bytes ≡ Ok (object_spelling_in Two o)
lifted_again bytes o h = rw (object_again One One bytes o h refl) refl

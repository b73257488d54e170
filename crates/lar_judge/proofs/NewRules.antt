-- `new`: what its parts give is what the rules say.
use Rattle.std.proofs.Common.{◌≡◌, ℕ, zero, suc, ◌+◌, ◌<◌, ◌≤◌, List, [], ◌∷◌, ◌++◌, length, map, drop, get_or, refl, sym, ap, subst, ◌∙◌, Bool, true, false, Option, Some, None, arith}
use Rattle.std.specs.Prelude.{if◌then◌else◌}
use Rattle.std.specs.Borrow.{Bor}
use Rattle.std.specs.Str.{bytes_eq}
use Rattle.std.proofs.lemmas.List.{drop_more}
use Rattle.lar_source.specs.declared.file.Span.{Span}
use Rattle.type_table.specs.declared.row.Row.{Row}
use Rattle.type_table.specs.declared.row.Row.TheVariants.{Struct as StructRow}
use Rattle.type_table.specs.TypeOf.{TypeOf, struct}
use Rattle.type_table.specs.Rows.{type_at, type_of, types, Keeps, Stands}
use Rattle.lar_tree.specs.declared.name.Name.{Name}
use Rattle.lar_tree.specs.declared.name.Path.{Path}
use Rattle.lar_typed.specs.declared.expr.TypedExpr.{TypedExpr}
use Rattle.lar_typed.specs.Exprs.{ExprOf, PlainExpr, PlainExprs, made, expr_map}
use Rattle.lar_typed.specs.ExprView.{expr_view, exprs_view}
use Rattle.lar_typed.specs.Within.{ExprWithin}
use Rattle.lar_typed.specs.Standing.{ExprsStand}
use Rattle.lar_rules.specs.Fault.{Fault, least}
use Rattle.lar_rules.specs.Declared.{Struct}
use Rattle.lar_rules.specs.Written.{Site, Given}
use Rattle.lar_rules.specs.Signatures.{Member, fields}
use Rattle.lar_rules.specs.Judged.{Env, all_faults}
use Rattle.lar_rules.specs.Judged as rules
use Rattle.lar_rules.specs.Exprs.{Init, init_values, misset, set_typed, made_typed, judged_new}
use Rattle.lar_judge.specs.declared.judged.Judged.{Judged}
use Rattle.lar_judge.specs.declared.making.Made.{Made}
use Rattle.lar_judge.specs.Known.{expr_in, typed_in, type_if, TypedWithin, Knows}
use Rattle.lar_judge.specs.Lists.{exprs_in, all_in, AllWithin, ExprsAreWithin}
use Rattle.lar_judge.specs.Wanted.{types_if}
use Rattle.lar_judge.specs.Making.{made_generics, new_rest, names, alike, IsMade, MadeIs, InitsAre}
use Rattle.lar_judge.specs.Setting.{AreSet, same_names, name_places}
use Rattle.lar_judge.proofs.Asserted.{refusal_last}
use Rattle.lar_judge.proofs.Operands.{knows_same, told_two}
use Rattle.lar_judge.proofs.Tuples.{exprs_stand}

alike_at : (ms ns : List (Bor Name)) (i : ℕ) (m n : Bor Name) → i < length ms → i < length ns → m ≡ get_or ms i m → n ≡ get_or ns i n
    → alike (names (drop i ms)) (names (drop i ns)) ≡ (if bytes_eq m.now.text n.now.text then suc (alike (names (drop (i + 1) ms)) (names (drop (i + 1) ns))) else zero)
alike_at ms ns i m n h k p q =
    ap (λ (xs : List (Bor Name)). alike (names xs) (names (drop i ns))) (drop_more ms i m h ∙ ap (λ (y : Bor Name). y ∷ drop (i + 1) ms) (sym p))
    ∙ ap (λ (xs : List (Bor Name)). alike (names (m ∷ drop (i + 1) ms)) (names xs)) (drop_more ns i n k ∙ ap (λ (y : Bor Name). y ∷ drop (i + 1) ns) (sym q))

pub alike_more : (ms ns : List (Bor Name)) (i whole : ℕ) (m n : Bor Name) → i < length ms → i < length ns → m ≡ get_or ms i m → n ≡ get_or ns i n → bytes_eq m.now.text n.now.text ≡ true
    → i + alike (names (drop i ms)) (names (drop i ns)) ≡ whole → (i + 1) + alike (names (drop (i + 1) ms)) (names (drop (i + 1) ns)) ≡ whole
alike_more ms ns i whole m n h k p q e so =
    let rest : ℕ = alike (names (drop (i + 1) ms)) (names (drop (i + 1) ns)) in
    let at : alike (names (drop i ms)) (names (drop i ns)) ≡ suc rest = alike_at ms ns i m n h k p q ∙ ap (λ (b : Bool). if b then suc rest else zero) e in
    omega arith

pub alike_until : (ms ns : List (Bor Name)) (i whole : ℕ) (m n : Bor Name) → i < length ms → i < length ns → m ≡ get_or ms i m → n ≡ get_or ns i n → bytes_eq m.now.text n.now.text ≡ false
    → i + alike (names (drop i ms)) (names (drop i ns)) ≡ whole → i ≡ whole
alike_until ms ns i whole m n h k p q e so =
    let rest : ℕ = alike (names (drop (i + 1) ms)) (names (drop (i + 1) ns)) in
    let at : alike (names (drop i ms)) (names (drop i ns)) ≡ zero = alike_at ms ns i m n h k p q ∙ ap (λ (b : Bool). if b then suc rest else zero) e in
    omega arith

drop_past : {A : Type 0} (xs : List A) (n : ℕ) → length xs ≤ n → drop n xs ≡ []
drop_past [] zero h = refl
drop_past [] (suc n) h = refl
drop_past (x ∷ xs) zero h = absurd (omega arith)
drop_past (x ∷ xs) (suc n) h = drop_past xs n (omega arith)

none_alike : (ms : List Name) → alike ms [] ≡ zero
none_alike [] = refl
none_alike (m ∷ ms) = refl

pub no_fields_left : (ms ns : List (Bor Name)) (i whole : ℕ) → length ms ≤ i → i + alike (names (drop i ms)) (names (drop i ns)) ≡ whole → i ≡ whole
no_fields_left ms ns i whole h so =
    let at : alike (names (drop i ms)) (names (drop i ns)) ≡ zero = ap (λ (xs : List (Bor Name)). alike (names xs) (names (drop i ns))) (drop_past ms i h) in
    omega arith

pub no_names_left : (ms ns : List (Bor Name)) (i whole : ℕ) → length ns ≤ i → i + alike (names (drop i ms)) (names (drop i ns)) ≡ whole → i ≡ whole
no_names_left ms ns i whole h so =
    let at : alike (names (drop i ms)) (names (drop i ns)) ≡ zero = ap (λ (xs : List (Bor Name)). alike (names (drop i ms)) (names xs)) (drop_past ns i h) ∙ none_alike (names (drop i ms)) in
    omega arith

alike_by : (m : Member) (ms : List Member) (i : Init) (is : List Init) (b : Bool) → alike (map (λ f. f.0) ms) (map (λ i. i.0) is) ≡ same_names ms is
    → (if b then suc (alike (map (λ f. f.0) ms) (map (λ i. i.0) is)) else zero) ≡ (if b then suc (same_names ms is) else zero)
alike_by m ms i is true h = ap suc h
alike_by m ms i is false h = refl

pub alike_names : (ms : List Member) (is : List Init) → alike (map (λ f. f.0) ms) (map (λ i. i.0) is) ≡ same_names ms is
alike_names [] is = refl
alike_names (m ∷ ms) [] = refl
alike_names (m ∷ ms) (i ∷ is) = alike_by m ms i is (bytes_eq (m.0).text (i.0).text) (alike_names ms is)

spans_of : (ns : List (Bor Name)) → map (λ n. n.now.span) ns ≡ map (λ n. n.span) (names ns)
spans_of [] = refl
spans_of (n ∷ ns) = ap (λ (xs : List Span). n.now.span ∷ xs) (spans_of ns)

places_of : (is : List Init) → map (λ n. n.span) (map (λ i. i.0) is) ≡ name_places is
places_of [] = refl
places_of (i ∷ is) = ap (λ (xs : List Span). (i.0).span ∷ xs) (places_of is)

-- the fields of the struct and what is set stand against one another
pub are_set : (rows : List Row) (s : Site) (p : Path) (gs : List Given) (m : Made) (x : Struct) (wanted : List (Option ℕ)) (fs named : List (Bor Name)) (places seen : List Span) (same : ℕ) (values : List Judged) (is : List Init) → IsMade rows m s p gs x → InitsAre rows named values is
    → wanted ≡ m.wanted.items → fs ≡ m.names.items → seen ≡ places → places ≡ map (λ n. n.now.span) named → same ≡ alike (names fs) (names named) → AreSet rows wanted seen same values (made_generics s p gs x).of (fields s.all x) is
are_set rows s p gs m x wanted fs named places seen same values is h k w n v e f = record {
  asks = ap (types_if rows) w ∙ h.asks;
  placed = v ∙ e ∙ spans_of named ∙ ap (map (λ n. n.span)) k.set ∙ places_of is;
  counted = f ∙ ap (λ (xs : List Name). alike xs (names named)) (ap names n ∙ h.named) ∙ ap (alike (map (λ f. f.0) (fields s.all x))) k.set ∙ alike_names (fields s.all x) is;
  valued = k.to;
}

-- the struct of these fields
pub made_is : (old new : List Row) (n g of : ℕ) (es : List TypedExpr) (r : TypedExpr) → Keeps old new → ExprsAreWithin old es → Stands new of (type_of (types old) (StructRow n g)) → expr_view r ≡ made of (exprs_view es)
    → (typed_in new (Some r) ≡ made_typed n (type_if old (Some g)) (all_in old (Some es))) × TypedWithin new (Some r)
unfolding type_at
made_is old new n g of es r k w t v =
    let kept : ExprsStand new (exprs_view es) (exprs_in old es) = exprs_stand old new es k w in
    let at : expr_in new r ≡ made (type_at new of) (exprs_in new es) = ap (expr_map (type_at new)) v in
    let whole : expr_in new r ≡ made (struct n (type_at old g)) (exprs_in old es) = at ∙ ap (λ (u : TypeOf). made u (exprs_in new es)) t.is ∙ ap (made (struct n (type_at old g))) kept.is in
    let W : ExprOf ℕ → Type 0 = λ e. ExprWithin (length new) e in
    (ap Some whole, subst W (sym v) (t.within, kept.within))

pub made_known : (old new : List Row) (n g of : ℕ) (gs : Option ℕ) (fs : Option (List TypedExpr)) (es : List TypedExpr) (r : TypedExpr) → gs ≡ Some g → fs ≡ Some es → Keeps old new → AllWithin old fs → Stands new of (type_of (types old) (StructRow n g)) → expr_view r ≡ made of (exprs_view es)
    → (typed_in new (Some r) ≡ made_typed n (type_if old gs) (all_in old fs)) × TypedWithin new (Some r)
made_known old new n g of gs fs es r p q k w t v =
    let within : AllWithin old (Some es) = subst (λ (x : Option (List TypedExpr)). AllWithin old x) q w in
    let known : (typed_in new (Some r) ≡ made_typed n (type_if old (Some g)) (all_in old (Some es))) × TypedWithin new (Some r) = made_is old new n g of es r k within t v in
    (known.0 ∙ sym (ap (λ (x : Option ℕ). made_typed n (type_if old x) (all_in old (Some es))) p) ∙ sym (ap (λ (x : Option (List TypedExpr)). made_typed n (type_if old gs) (all_in old x)) q), known.1)

-- no struct is meant
pub new_none : (rows : List Row) (env : Env) (at : Span) (p : Path) (gs : List Given) (m : Option Made) (x : Option Struct) (is : List Init) (r : Judged) → m ≡ None → MadeIs rows env.site p gs m x
    → ((faults : List Fault) → Knows rows r (rules.unless_asserting env at None faults)) → Knows rows r (judged_new env at p gs is x)
new_none rows env at p gs None None is r e h k = k _
new_none rows env at p gs m (Some x) is r e h k = absurd (subst (λ (y : Option Made). MadeIs rows env.site p gs y (Some x)) e h)
new_none rows env at p gs (Some m) None is r e h k = absurd h

pub new_none_told : (rows : List Row) (env : Env) (at : Span) (p : Path) (gs : List Given) (m : Option Made) (x : Option Struct) (is : List Init) (best now : Option Fault) → m ≡ None → MadeIs rows env.site p gs m x
    → now ≡ least best (rules.unless_asserting env at None []).faults → now ≡ least best (new_rest env at p gs is x)
new_none_told rows env at p gs m None is best now e h k = k
new_none_told rows env at p gs m (Some x) is best now e h k = absurd (subst (λ (y : Option Made). MadeIs rows env.site p gs y (Some x)) e h)

pub made_given : (rows : List Row) (s : Site) (p : Path) (gs : List Given) (o : Option Made) (m : Made) (x : Option Struct) → o ≡ Some m → MadeIs rows s p gs o x → (y : Struct) × (x ≡ Some y) × IsMade rows m s p gs y
made_given rows s p gs o m None e h = absurd (subst (λ (y : Option Made). MadeIs rows s p gs y None) e h)
made_given rows s p gs o m (Some x) e h = (x, refl, subst (λ (y : Option Made). MadeIs rows s p gs y (Some x)) e h)

-- a struct is meant
pub new_some : (old new : List Row) (env : Env) (at : Span) (p : Path) (gs : List Given) (o : Option Made) (m : Made) (x : Option Struct) (is : List Init) (set : Option PlainExprs) (t : Option PlainExpr) (r : Judged) → o ≡ Some m → MadeIs old env.site p gs o x
    → ((y : Struct) → IsMade old m env.site p gs y → set ≡ set_typed (made_generics env.site p gs y).of (fields env.site.all y) is) → t ≡ made_typed m.number (type_if old m.generics) set
    → ((faults : List Fault) → Knows new r (rules.unless_asserting env at t faults)) → Knows new r (judged_new env at p gs is x)
new_some old new env at p gs o m None is set t r e h f q k = absurd (subst (λ (y : Option Made). MadeIs old env.site p gs y None) e h)
new_some old new env at p gs o m (Some x) is set t r e h f q k =
    let it : IsMade old m env.site p gs x = subst (λ (y : Option Made). MadeIs old env.site p gs y (Some x)) e h in
    let g : Option TypeOf = (made_generics env.site p gs x).of in
    let same : t ≡ made_typed x.number g (set_typed g (fields env.site.all x) is) =
    q ∙ ap (λ (n : ℕ). made_typed n (type_if old m.generics) set) it.numbered ∙ ap (λ (y : Option TypeOf). made_typed x.number y set) it.given ∙ ap (made_typed x.number g) (f x it) in
    let faults : List Fault = (made_generics env.site p gs x).faults ++ (all_faults (init_values is) ++ misset env.site at g (fields env.site.all x) is) in
    knows_same new r _ _ (ap (λ (y : Option PlainExpr). rules.unless_asserting env at y faults) same) (k faults)

pub new_some_told : (old : List Row) (env : Env) (at : Span) (p : Path) (gs : List Given) (o : Option Made) (m : Made) (x : Option Struct) (is : List Init) (t : Option PlainExpr) (best mid now : Option Fault) → o ≡ Some m → MadeIs old env.site p gs o x
    → ((y : Struct) → IsMade old m env.site p gs y → mid ≡ least best (misset env.site at (made_generics env.site p gs y).of (fields env.site.all y) is)) → now ≡ least mid (rules.unless_asserting env at t []).faults → now ≡ least best (new_rest env at p gs is x)
new_some_told old env at p gs o m None is t best mid now e h f k = absurd (subst (λ (y : Option Made). MadeIs old env.site p gs y None) e h)
new_some_told old env at p gs o m (Some x) is t best mid now e h f k =
    let it : IsMade old m env.site p gs x = subst (λ (y : Option Made). MadeIs old env.site p gs y (Some x)) e h in
    told_two best mid now _ _ (f x it) (k ∙ ap (least mid) (refusal_last env at t None []))

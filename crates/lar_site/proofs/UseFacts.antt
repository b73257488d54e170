-- What is known of a function that is called, and of a struct that is made.
use Rattle.std.proofs.Common.{◌≡◌, ℕ, Bool, List, [], ◌∷◌, length, map, Option, Some, None, option_map, refl, sym, ap, ◌∙◌, subst}
use Rattle.std.specs.Prelude.{slice_get}
use Rattle.std.specs.Borrow.{Bor}
use Rattle.std.proofs.lemmas.List.{length-map}
use Rattle.type_table.specs.declared.row.Row.{Row}
use Rattle.type_table.specs.declared.sort.Sort.{Sort}
use Rattle.type_table.specs.TypeOf.{TypeOf}
use Rattle.type_table.specs.Rows.{Keeps}
use Rattle.lar_tree.specs.declared.name.Name.{Name}
use Rattle.lar_tree.specs.declared.name.Path.{Path}
use Rattle.lar_rules.specs.Fault.{Fault, least}
use Rattle.lar_rules.specs.Declared.{Declared, Struct, Function}
use Rattle.lar_rules.specs.Signatures as rules
use Rattle.lar_rules.specs.Signatures.{struct_numbered, params, outcome, fields, function_sorts}
use Rattle.lar_rules.specs.Written.{Site, Given, Fitted, fitted, struct_sorts}
use Rattle.lar_rules.specs.Judged.{under}
use Rattle.lar_rules.specs.Exprs.{miscalled}
use Rattle.lar_rules.proofs.Least.{least_append}
use Rattle.lar_names.specs.Numbered.{functions, structs, function_at, struct_at, function_numbered}
use Rattle.lar_names.proofs.MeantFacts.{struct_numbered_is}
use Rattle.lar_written.specs.declared.members.Member.{Member}
use Rattle.lar_written.specs.Members.{member_view, MembersStand}
use Rattle.lar_written.specs.Standing.{AllInside, StandsIf}
use Rattle.lar_written.proofs.Standings.{stands_kept, all_inside_kept}
use Rattle.lar_judge.specs.declared.callee.Callee.{Callee}
use Rattle.lar_judge.specs.declared.making.Made.{Made}
use Rattle.lar_judge.specs.Known.{type_if, IfWithin}
use Rattle.lar_judge.specs.Wanted.{types_if, AllIfWithin, wanted_types}
use Rattle.lar_judge.specs.Calls.{IsCallee, callee_generics, call_head}
use Rattle.lar_judge.specs.Making.{IsMade, made_generics, names}
use Rattle.lar_judge.proofs.Kept.{type_kept, type_within_kept}
use Rattle.lar_judge.proofs.Rows.{keeps_twice}
use Rattle.lar_signatures.specs.declared.structure.StructSignature.{StructSignature}
use Rattle.lar_signatures.specs.declared.function.FunctionSignature.{FunctionSignature}
use Rattle.lar_signatures.specs.Signatures.{StructStands, FunctionStands}
use Rattle.lar_signatures.proofs.Grown.{members_grown}
use Rattle.lar_site.specs.Under.{members_under}
use Rattle.lar_site.proofs.Members.{standing_type, standing_within, all_within_kept, all_types_kept, wanted_of_members}

-- NUMBERS

function_has : (n : ℕ) (o : Option (Declared × _)) (f : Function) → option_map (function_at n) o ≡ Some f → n ≡ f.number
function_has n None f e = absurd (let h : ⊥ = cc in h)
function_has n (Some p) f e = let same : function_at n p ≡ f = cc in ap (λ (g : Function). g.number) same

pub function_number : (all : List Declared) (n : ℕ) (f : Function) → function_numbered all n ≡ Some f → n ≡ f.number
function_number all n f e = function_has n (slice_get (functions all) n) f e

struct_has : (n : ℕ) (o : Option (Declared × _)) (x : Struct) → option_map (struct_at n) o ≡ Some x → n ≡ x.number
struct_has n None x e = absurd (let h : ⊥ = cc in h)
struct_has n (Some p) x e = let same : struct_at n p ≡ x = cc in ap (λ (y : Struct). y.number) same

pub struct_number : (all : List Declared) (n : ℕ) (x : Struct) → struct_numbered all n ≡ Some x → n ≡ x.number
struct_number all n x e = struct_has n (slice_get (structs all) n) x (sym (struct_numbered_is all n) ∙ e)

-- MEMBERS

pub members_inside : (old new : List Row) (ms ns : List Member) (ds : List rules.Member) → Keeps old new → MembersStand old ns ds → ms ≡ ns → AllInside new (map (λ m. m.of) ms)
members_inside old new ms ns ds k st e = subst (λ (zs : List Member). AllInside new (map (λ m. m.of) zs)) (sym e) (all_inside_kept old new (map (λ m. m.of) ns) k st.within)

member_count : (rows : List Row) (ms : List Member) (ds : List rules.Member) → MembersStand rows ms ds → length ms ≡ length ds
member_count rows ms ds st = sym (length-map ms (member_view rows)) ∙ ap length st.are

named_so : (rows : List Row) (ms : List Member) → map (λ m. m.name.now) ms ≡ map (λ d. d.0) (map (member_view rows) ms)
named_so rows [] = refl
named_so rows (m ∷ ms) = ap (λ (ns : List Name). m.name.now ∷ ns) (named_so rows ms)

-- what is wanted of what is given for the members, with the generics that are given
members_asked : (old mid far new : List Row) (g : Option ℕ) (gs : Option TypeOf) (ms ns : List Member) (ds : List rules.Member) (wanted : List (Option ℕ)) → Keeps old mid → Keeps far new → MembersStand old ns ds → ms ≡ ns → type_if mid g ≡ gs
    → AllIfWithin far wanted → types_if far wanted ≡ members_under mid (type_if mid g) ms → types_if new wanted ≡ wanted_types gs ds
members_asked old mid far new g gs ms ns ds wanted k l st same is within are =
    all_types_kept far new wanted l within ∙ are ∙ ap (members_under mid (type_if mid g)) same ∙ wanted_of_members mid (type_if mid g) ns ds (members_grown old mid ns ds k st) ∙ ap (λ (t : Option TypeOf). wanted_types t ds) is

-- CALLS

pub called_is : (old mid far new : List Row) (s : Site) (p : Path) (gs hs : List Given) (f : Function) (y : FunctionSignature) (ms : List Member) (ss : List Sort) (c : Callee)
    → FunctionStands old s.all y f → Keeps old mid → Keeps mid far → Keeps far new → c.number ≡ f.number → hs ≡ gs → ss ≡ y.sorts.items → ms ≡ y.params.items
    → StandsIf mid c.generics (fitted s p ss hs).of → AllIfWithin far c.wanted.items → types_if far c.wanted.items ≡ members_under mid (type_if mid c.generics) ms
    → IfWithin new c.outcome → type_if new c.outcome ≡ under (type_if far c.generics) (type_if far y.outcome) → IsCallee new c s p gs f
called_is old mid far new s p gs hs f y ms ss c st k l m number given sorts members g wanted asks out gives =
    let fit : (fitted s p ss hs).of ≡ (callee_generics s p gs f).of = ap (λ (xs : List Given). (fitted s p ss xs).of) given ∙ ap (λ (ws : List Sort). (fitted s p ws gs).of) (sorts ∙ st.sorts_are) in
    let is : type_if mid c.generics ≡ (callee_generics s p gs f).of = standing_type mid c.generics _ g ∙ fit in
    let inside : IfWithin mid c.generics = standing_within mid c.generics _ g in
    let further : Keeps mid new = keeps_twice mid far new l m in
    record {
      numbered = number;
      generics_within = type_within_kept mid new c.generics further inside;
      given = type_kept mid new c.generics further inside ∙ is;
      wanted_within = all_within_kept far new c.wanted.items m wanted;
      asks = members_asked old mid far new c.generics _ ms y.params.items (params s.all f) c.wanted.items k m st.params_stand members is wanted asks;
      outcome_within = out;
      gives = gives ∙ ap (λ (t : Option TypeOf). under t (type_if far y.outcome)) (type_kept mid far c.generics l inside ∙ is)
          ∙ ap (under (callee_generics s p gs f).of) (standing_type far y.outcome _ (stands_kept old far y.outcome (outcome s.all f) (keeps_twice old mid far k l) st.outcome_stands));
    }

pub called_within : (mid far new : List Row) (g outcome : Option ℕ) (wanted : List (Option ℕ)) (t : Option TypeOf) → Keeps mid far → Keeps far new → StandsIf mid g t → AllIfWithin far wanted → IfWithin new outcome
    → IfWithin new g × AllIfWithin new wanted × IfWithin new outcome
called_within mid far new g outcome wanted t k l st within out = (type_within_kept mid new g (keeps_twice mid far new k l) (standing_within mid g t st), all_within_kept far new wanted l within, out)

pub called_told : (old : List Row) (s : Site) (p : Path) (gs hs : List Given) (f : Function) (y : FunctionSignature) (ss : List Sort) (counted : Bool) (declared found : ℕ) (f0 f1 f2 : Option Fault)
    → FunctionStands old s.all y f → hs ≡ gs → ss ≡ y.sorts.items → declared ≡ length y.params.items → counted ≡ (fitted s p ss hs).counted
    → f1 ≡ least f0 (fitted s p ss hs).faults → f2 ≡ least f1 (miscalled s p counted declared found) → f2 ≡ least f0 (call_head s p gs found (Some f))
called_told old s p gs hs f y ss counted declared found f0 f1 f2 st given sorts count is a b =
    let fit : fitted s p ss hs ≡ callee_generics s p gs f = ap (λ (xs : List Given). fitted s p ss xs) given ∙ ap (λ (ws : List Sort). fitted s p ws gs) (sorts ∙ st.sorts_are) in
    let n : declared ≡ length (params s.all f) = count ∙ member_count old y.params.items (params s.all f) st.params_stand in
    b ∙ ap (λ (c : Bool). least f1 (miscalled s p c declared found)) (is ∙ ap (λ (x : Fitted). x.counted) fit)
    ∙ ap (λ (k : ℕ). least f1 (miscalled s p (callee_generics s p gs f).counted k found)) n
    ∙ ap (λ (o : Option Fault). least o (miscalled s p (callee_generics s p gs f).counted (length (params s.all f)) found)) (a ∙ ap (λ (x : Fitted). least f0 x.faults) fit)
    ∙ sym (least_append f0 (callee_generics s p gs f).faults (miscalled s p (callee_generics s p gs f).counted (length (params s.all f)) found))

-- STRUCTS THAT ARE MADE

pub made_is : (old mid new : List Row) (s : Site) (p : Path) (gs hs : List Given) (x : Struct) (y : StructSignature) (ms ns : List Member) (ss : List Sort) (m : Made)
    → StructStands old s.all y x → Keeps old mid → Keeps mid new → m.number ≡ x.number → hs ≡ gs → ss ≡ struct_sorts x → ms ≡ y.fields.items → ns ≡ y.fields.items
    → StandsIf mid m.generics (fitted s p ss hs).of → AllIfWithin new m.wanted.items → types_if new m.wanted.items ≡ members_under mid (type_if mid m.generics) ms
    → names m.names.items ≡ map (λ n. n.name.now) ns → IsMade new m s p gs x
made_is old mid new s p gs hs x y ms ns ss m st k l number given sorts members others g wanted asks named =
    let fit : (fitted s p ss hs).of ≡ (made_generics s p gs x).of = ap (λ (xs : List Given). (fitted s p ss xs).of) given ∙ ap (λ (ws : List Sort). (fitted s p ws gs).of) sorts in
    let is : type_if mid m.generics ≡ (made_generics s p gs x).of = standing_type mid m.generics _ g ∙ fit in
    let inside : IfWithin mid m.generics = standing_within mid m.generics _ g in
    record {
      numbered = number;
      generics_within = type_within_kept mid new m.generics l inside;
      given = type_kept mid new m.generics l inside ∙ is;
      wanted_within = wanted;
      asks = asks ∙ ap (members_under mid (type_if mid m.generics)) members ∙ wanted_of_members mid (type_if mid m.generics) y.fields.items (fields s.all x) (members_grown old mid y.fields.items (fields s.all x) k st.fields_stand) ∙ ap (λ (t : Option TypeOf). wanted_types t (fields s.all x)) is;
      named = named ∙ ap (λ (zs : List Member). map (λ z. z.name.now) zs) others ∙ named_so old y.fields.items ∙ ap (λ (ds : List rules.Member). map (λ d. d.0) ds) st.fields_stand.are;
    }

pub made_within : (mid new : List Row) (g : Option ℕ) (wanted : List (Option ℕ)) (named : List (Bor Name)) (t : Option TypeOf) (u : Option TypeOf) (ms ns zs : List Member) → Keeps mid new → StandsIf mid g t → AllIfWithin new wanted
    → types_if new wanted ≡ members_under mid u ms → names named ≡ map (λ n. n.name.now) ns → ms ≡ zs → ns ≡ zs → IfWithin new g × AllIfWithin new wanted × (length named ≡ length wanted)
made_within mid new g wanted named t u ms ns zs k st within are names_are e f =
    let a : length wanted ≡ length ms = sym (length-map wanted (type_if new)) ∙ ap length are ∙ length-map ms (λ m. under u (type_if mid m.of)) in
    let b : length named ≡ length ns = sym (length-map named (λ n. n.now)) ∙ ap length names_are ∙ length-map ns (λ n. n.name.now) in
    (type_within_kept mid new g k (standing_within mid g t st), within, b ∙ ap length (f ∙ sym e) ∙ sym a)
